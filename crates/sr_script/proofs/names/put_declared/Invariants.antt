use Rattle.std.proofs.Common.{◌≡◌, ◌++◌, drop}
use Rattle.sr_script.specs.Parts.{names_of_all}
use Rattle.sr_script.proofs.names.put_declared.Given as goal

abbrev pub invariant-loop-declaration : goal.invariant-loop-declaration
invariant-loop-declaration l = l.names ++ names_of_all (drop l.declaration-index l.declarations) ≡ l.initial.names ++ names_of_all l.declarations
