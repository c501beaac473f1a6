use Rattle.std.proofs.Common.{◌≡◌, ◌++◌, take}
use Rattle.std.specs.List.{flat_map}
use Rattle.sr_call.proofs.Joins.{spaced}
use Rattle.sr_call.proofs.line.join.Given as goal

abbrev pub invariant-loop-value : goal.invariant-loop-value
invariant-loop-value l = l.units.items ≡ l.initial.units.items ++ flat_map spaced (take l.value-index l.rest)
