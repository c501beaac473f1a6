use Rattle.std.proofs.Common.{◌≡◌, ◌++◌, ◌∷◌, [], append_assoc, ap, Err, ◌∙◌}
use Rattle.std.specs.Prelude.{codes}
use Rattle.std.specs.Fmt.{decimal}
use Rattle.sr_command.specs.Runs.{not_utf8, longer, text}
use Rattle.sr_command.proofs.Gaining.{is_memory}
use Rattle.sr_command.proofs.Reached.{reached, reached_along, ran_out, no_error, is_short}
use Rattle.sr_command.proofs.run.run_bytes.Goals as goal

pub returns-in_err-line-in-Err-NotUtf8-clause-reaches :
    goal.returns-in_err-line-in-Err-NotUtf8-clause-reaches
returns-in_err-line-in-Err-NotUtf8-clause-reaches g c = ran_out c.from_residual.result _ (is_memory c.from_residual.result c.from_residual.ensures.1)

pub returns-in-Ok-clause-reaches : goal.returns-in-Ok-clause-reaches
returns-in-Ok-clause-reaches g c =
    reached_along (λ course runs. text c.in-Ok.ensures.ok (is_short _ _ c.in-Ok.ensures.ok (λ long. no_error _ _ (c.in-Ok.ensures.too_long.1 long))) runs) c.run_text.ensures.reaches

pub returns-in_ok-line-in-Err-NotUtf8-clause-reaches :
    goal.returns-in_ok-line-in-Err-NotUtf8-clause-reaches
returns-in_ok-line-in-Err-NotUtf8-clause-reaches g c =
    let line : c.as_bytes.result.now ≡ (codes "not UTF-8: " ++ c.args.asked.name.now ++ codes " at " ++ decimal c.in-Err-NotUtf8.at) ++ 0x0A ∷ [] =
    c.as_bytes.ensures.value ∙ c.in_ok-line-in-Err-NotUtf8.ensures.ok ∙ simp append_assoc in
    reached _ (not_utf8 ((c.in-Err-NotUtf8.ensures.not_utf8 c.in-Err-NotUtf8.at).0 (ap Err c.in-Err-NotUtf8.field-0-is))) (rw line at (c.end_with.ensures.comes (g.O.Sink.written c.args.out.now)))

pub returns-in-Err-TooLong-clause-reaches : goal.returns-in-Err-TooLong-clause-reaches
returns-in-Err-TooLong-clause-reaches g c = reached _ (longer (c.in-Err-TooLong.ensures.too_long.0 (ap Err c.in-Err-TooLong.field-0-is))) (c.end_too_long.ensures.comes _)
