use Rattle.std.proofs.Common.{◌≡◌, ◌∙◌, append_assoc}
use Rattle.sr_command.proofs.Gaining.{starved_on}
use Rattle.sr_command.specs.Courses.{unsupported_name, steps_name}
use Rattle.sr_command.proofs.run.end_by_stop.Goals as goal

pub returns-in-StringLength-clause-comes : goal.returns-in-StringLength-clause-comes
returns-in-StringLength-clause-comes g c = λ out. rw c.in-StringLength.is (c.end_by_name-in-StringLength.ensures.comes out)

pub returns-in-CallDepth-clause-comes : goal.returns-in-CallDepth-clause-comes
returns-in-CallDepth-clause-comes g c = λ out. rw c.in-CallDepth.is (c.end_by_name-in-CallDepth.ensures.comes out)

pub returns-in-SyntaxDepth-clause-comes : goal.returns-in-SyntaxDepth-clause-comes
returns-in-SyntaxDepth-clause-comes g c = λ out. rw c.in-SyntaxDepth.is (c.end_by_name-in-SyntaxDepth.ensures.comes out)

pub returns-in_err-name-in-Unsupported-clause-comes : goal.returns-in_err-name-in-Unsupported-clause-comes
returns-in_err-name-in-Unsupported-clause-comes g c = λ out. starved_on c.from_residual.result _ _ c.from_residual.ensures.1

pub returns-in_ok-name-in-Unsupported-clause-comes : goal.returns-in_ok-name-in-Unsupported-clause-comes
returns-in_ok-name-in-Unsupported-clause-comes g c =
    let name : c.as_str.result.now ≡ unsupported_name c.in-Unsupported.marker c.in-Unsupported.at =
    c.as_str.ensures.value ∙ c.in_ok-name-in-Unsupported.ensures.ok ∙ rw c.marker_name-marker.ensures (simp append_assoc) in
    λ out. rw c.in-Unsupported.is (rw name at (c.end_by_name-in-Unsupported.ensures.comes out))

pub returns-in_err-name-in-Steps-clause-comes : goal.returns-in_err-name-in-Steps-clause-comes
returns-in_err-name-in-Steps-clause-comes g c = λ out. starved_on c.from_residual-in_err-name-in-Steps.result _ _ c.from_residual-in_err-name-in-Steps.ensures.1

pub returns-in_ok-name-in-Steps-clause-comes : goal.returns-in_ok-name-in-Steps-clause-comes
returns-in_ok-name-in-Steps-clause-comes g c =
    let name : c.as_str-in-Steps.result.now ≡ steps_name c.in-Steps.used c.args.bound c.in-Steps.cost = c.as_str-in-Steps.ensures.value ∙ c.in_ok-name-in-Steps.ensures.ok ∙ simp append_assoc in
    λ out. rw c.in-Steps.is (rw name at (c.end_by_name-in-Steps.ensures.comes out))
