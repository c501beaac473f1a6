use Rattle.std.proofs.Common.{◌≡◌, ◌++◌, drop}
use Rattle.sr_names.specs.Names.{clauses_names}
use Rattle.sr_names.proofs.names.clauses_names.Given as goal

abbrev pub invariant-loop-case : goal.invariant-loop-case
invariant-loop-case l = l.names ++ clauses_names (drop l.case-index l.cases) ≡ clauses_names l.cases
