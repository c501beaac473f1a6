use Rattle.std.proofs.Common.{ap, Err, ◌∙◌}
use Rattle.sr_command.proofs.Gaining.{comes_line_on}
use Rattle.sr_command.proofs.run.end_with.Goals as goal

pub returns-in_err-write_all-clause-comes : goal.returns-in_err-write_all-clause-comes
returns-in_err-write_all-clause-comes g c =
    comes_line_on c.from_residual.result c.args.status _ _ c.args.line.now c.in_err-write_all.field-0.0 c.from_residual.ensures.1
    (λ e. c.write_all.ensures.part (c.in_err-write_all.was ∙ ap Err e)) (λ e. c.write_all.ensures.memory (c.in_err-write_all.was ∙ ap Err e))
