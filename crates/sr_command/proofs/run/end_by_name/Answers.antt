use Rattle.std.proofs.Common.{◌≡◌, ◌∙◌, append_assoc}
use Rattle.sr_command.specs.Stops.{stop_line}
use Rattle.sr_command.proofs.Gaining.{starved_on}
use Rattle.sr_command.proofs.run.end_by_name.Goals as goal

pub returns-in_err-line-clause-comes : goal.returns-in_err-line-clause-comes
returns-in_err-line-clause-comes g c = λ out. starved_on c.from_residual.result _ _ c.from_residual.ensures.1

pub returns-clause-comes : goal.returns-clause-comes
returns-clause-comes g c =
    let line : c.as_bytes.result.now ≡ stop_line c.args.name.now c.args.stop.source c.args.stop.at = c.as_bytes.ensures.value ∙ c.in_ok-line.ensures.ok ∙ simp append_assoc in
    λ out. rw line at (c.end_with.ensures.comes out)
