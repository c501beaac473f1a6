use Rattle.std.proofs.Common.{◌≡◌, drop}
use Rattle.sr_model.specs.Tasks.{Context}
use Rattle.sr_stmt.specs.Rows.{declare}
use Rattle.sr_stmt.proofs.variables.next_initializer.Given as goal

-- the declarations that were passed over do nothing
abbrev pub invariant-loop-place : goal.invariant-loop-place
invariant-loop-place l = (c : Context) → declare c (drop l.fn.from l.declarations) ≡ declare c (drop l.place l.declarations)
