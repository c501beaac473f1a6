use Rattle.std.proofs.Common.{◌≡◌, ap, subst, Err}
use Rattle.std.proofs.lemmas.Result.{IfOk-weaker}
use Rattle.sr_text.specs.declared.refusal.TextRefusal.TheVariants.{NotUtf8}
use Rattle.sr_text.specs.Utf8.{FirstFault}
use Rattle.sr_text.proofs.Decoding.{decodes_chars, first_fault, no_fault_chars, no_fault_decoded, one_first_fault, too_long, units_too_long}
use Rattle.sr_text.proofs.text.Str.from_utf8.Goals as goal

pub returns-in-Ok-clause-ok : goal.returns-in-Ok-clause-ok
returns-in-Ok-clause-ok c =
    IfOk-weaker c.from_text.result _ _ (λ s e. decodes_chars _ _ _ c.in-Ok.ensures.cases.0 c.in-Ok.ensures.cases.1 e) c.from_text.ensures.ok

pub returns-in-Ok-clause-not_utf8 : goal.returns-in-Ok-clause-not_utf8
returns-in-Ok-clause-not_utf8 c = λ at. (
  λ e. absurd (c.from_text.ensures.not_utf8 at e),
  λ fault. absurd (no_fault_chars _ at c.in-Ok.ensures.cases.1 fault),
)

pub returns-in-Ok-clause-too_long : goal.returns-in-Ok-clause-too_long
returns-in-Ok-clause-too_long c = (
  λ e. too_long _ _ c.in-Ok.ensures.cases.0 c.in-Ok.ensures.cases.1 (c.from_text.ensures.too_long.0 e),
  λ long. c.from_text.ensures.too_long.1 (units_too_long _ _ c.in-Ok.ensures.cases.0 c.in-Ok.ensures.cases.1 long),
)

pub returns-in-Err-clause-not_utf8 : goal.returns-in-Err-clause-not_utf8
returns-in-Err-clause-not_utf8 c = λ at.
    let fault : FirstFault c.args.bytes.now c.valid_up_to.result = rw c.valid_up_to.ensures (first_fault _ _ c.in-Err.ensures.cases.1) in (
      λ e. let same : c.valid_up_to.result ≡ at = cc in subst (FirstFault c.args.bytes.now) same fault,
      λ other. ap (λ place. Err (NotUtf8 place)) (one_first_fault _ _ _ fault other),
    )

pub returns-in-Err-clause-too_long : goal.returns-in-Err-clause-too_long
returns-in-Err-clause-too_long c =
    let fault : FirstFault c.args.bytes.now c.valid_up_to.result = rw c.valid_up_to.ensures (first_fault _ _ c.in-Err.ensures.cases.1) in
    (λ e. absurd cc, λ long. absurd (no_fault_decoded _ _ _ long.1 fault))
