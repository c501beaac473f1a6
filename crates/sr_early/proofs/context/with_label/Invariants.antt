use Rattle.std.proofs.Common.{◌≡◌, take}
use Rattle.sr_early.proofs.context.with_label.Given as goal

abbrev pub invariant-loop-one : goal.invariant-loop-one
invariant-loop-one l = l.more ≡ take l.one-index l.labels
