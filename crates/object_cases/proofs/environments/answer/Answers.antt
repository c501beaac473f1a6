use Rattle.object_cases.proofs.environments.answer.Goals as goal

pub set-done-requires-clause-own : goal.set-done-requires-clause-own
set-done-requires-clause-own c = c.in_ok-binding-in-Some-split_once.ensures _
