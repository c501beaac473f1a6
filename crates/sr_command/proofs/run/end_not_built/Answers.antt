use Rattle.std.proofs.Common.{◌∙◌}
use Rattle.sr_command.proofs.Gaining.{starved_on}
use Rattle.sr_command.proofs.run.end_not_built.Goals as goal

pub returns-in_err-line-clause-comes : goal.returns-in_err-line-clause-comes
returns-in_err-line-clause-comes g c = λ out. starved_on c.from_residual.result _ _ c.from_residual.ensures.1

pub returns-clause-comes : goal.returns-clause-comes
returns-clause-comes g c = λ out. rw (c.as_bytes.ensures.value ∙ c.in_ok-line.ensures.ok) at (c.end_with.ensures.comes out)
