use Rattle.std.proofs.Common.{◌≡◌, [], ◌++◌, take, drop}
use Rattle.sr_names.specs.Scopes.{repeated}
use Rattle.sr_names.specs.Table.{Finds}
use Rattle.sr_names.proofs.scopes.places_noting.Given as goal

abbrev pub invariant-loop-name : goal.invariant-loop-name
invariant-loop-name l = Finds l.found (take l.name-index l.names) × (l.places ++ repeated (take l.name-index l.names) (drop l.name-index l.names) ≡ l.initial.places ++ repeated [] l.names)
