use Rattle.std.proofs.Common.{◌≡◌, ℕ, List, length, take, min, arith, sym, ap, ◌∙◌}
use Rattle.std.proofs.lemmas.List.{take_min}
use Rattle.sr_value.specs.declared.value.Value.{Value}
use Rattle.sr_conv.specs.Plain.{value_of}
use Rattle.sr_conv.specs.Reports.{value_report, report}
use Rattle.sr_realm.specs.Reports.{object_report}
use Rattle.sr_state.specs.Held.{stored_in}
use Rattle.sr_machine.proofs.reports.report.Goals as goal

-- the first units of a list are all that is told of it
told : (most count k : ℕ) (units : List ℕ) → k ≡ min count most → count ≡ length units → take k units ≡ take most units
told most count k units e l =
    (let same : k ≡ min most (length units) = omega (arith, e, l) in
    ap (λ n. take n units) same ∙ take_min most units)

of_value : (object : ℕ → List ℕ) (v : Value) (text : List ℕ) → text ≡ take 16777216 (value_report object (value_of v)) → text ≡ report object (value_of v)
unfolding report
of_value object v text e = e

pub returns-in-Ok : goal.returns-in-Ok
returns-in-Ok c =
    of_value (object_report (let s = stored_in c.args.state.now.side in s.objects)) c.args.value.now c.in-Ok.text
    (c.in-Ok.ensures.ok ∙ told 16777216 c.len.result c.min-told.result c.deref.result.now c.min-told.ensures (c.len.ensures ∙ sym c.deref.ensures.len) ∙ ap (take 16777216) (c.deref.ensures.value ∙ c.in_ok-units.ensures))
