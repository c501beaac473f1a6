use Rattle.std.proofs.Common.{◌≡◌, ◌++◌, drop}
use Rattle.sr_names.specs.Scopes.{clashes}
use Rattle.sr_names.proofs.scopes.clashes.Given as goal

abbrev pub invariant-loop-name : goal.invariant-loop-name
invariant-loop-name l = l.places ++ clashes l.table (drop l.name-index l.by_var) ≡ l.initial.places ++ clashes l.table l.by_var
