use Rattle.std.proofs.Common.{◌≡◌, ◌++◌, drop}
use Rattle.sr_names.specs.Scopes.{missing}
use Rattle.sr_names.proofs.scopes.missing.Given as goal

abbrev pub invariant-loop-name : goal.invariant-loop-name
invariant-loop-name l = l.places ++ missing l.table (drop l.name-index l.names) ≡ l.initial.places ++ missing l.table l.names
