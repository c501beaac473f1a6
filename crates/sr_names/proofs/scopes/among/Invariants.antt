use Rattle.std.proofs.Common.{◌≡◌, ◌++◌, drop}
use Rattle.sr_names.specs.Scopes.{among}
use Rattle.sr_names.proofs.scopes.among.Given as goal

abbrev pub invariant-loop-name : goal.invariant-loop-name
invariant-loop-name l = l.places ++ among l.table (drop l.name-index l.names) ≡ l.initial.places ++ among l.table l.names
