use Rattle.std.proofs.Common.{◌≡◌, drop}
use Rattle.sr_names.specs.Strictness.{strict_directive}
use Rattle.sr_names.proofs.strictness.strict_directive.Given as goal

abbrev pub invariant-loop-item : goal.invariant-loop-item
invariant-loop-item l = strict_directive (drop l.item-index l.items) ≡ strict_directive l.items
