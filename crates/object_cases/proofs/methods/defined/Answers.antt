use Rattle.object_cases.proofs.methods.defined.Goals as goal

pub define-requires-clause-own : goal.define-requires-clause-own
define-requires-clause-own c = c.in_ok-d.ensures _
