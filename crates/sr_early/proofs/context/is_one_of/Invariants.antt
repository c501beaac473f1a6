use Rattle.std.proofs.Common.{◌≡◌, drop}
use Rattle.sr_early.specs.Targets.{is_one_of}
use Rattle.sr_early.proofs.context.is_one_of.Given as goal

abbrev pub invariant-loop-one : goal.invariant-loop-one
invariant-loop-one l = is_one_of (drop l.one-index l.labels) l.label ≡ is_one_of l.labels l.label
