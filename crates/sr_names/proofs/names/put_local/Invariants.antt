use Rattle.std.proofs.Common.{◌≡◌, ◌++◌, drop}
use Rattle.sr_names.specs.Names.{imported_here}
use Rattle.sr_names.proofs.names.put_local.Given as goal

abbrev pub invariant-loop-name : goal.invariant-loop-name
invariant-loop-name l = l.names ++ imported_here (drop l.name-index l.imported) ≡ l.initial.names ++ imported_here l.imported
