use Rattle.std.proofs.Common.{take}
use Rattle.sr_names.specs.Table.{Finds}
use Rattle.sr_names.proofs.scopes.places_of.Given as goal

abbrev pub invariant-loop-name : goal.invariant-loop-name
invariant-loop-name l = Finds l.found (take l.name-index l.names)
