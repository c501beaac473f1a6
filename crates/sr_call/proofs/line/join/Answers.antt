use Rattle.std.proofs.Common.{arith, ap, ◌∙◌, ◌++◌, take}
use Rattle.std.specs.List.{flat_map}
use Rattle.sr_conv.specs.Plain.{value_of}
use Rattle.sr_state.specs.Trees.{text_in}
use Rattle.sr_call.proofs.Joins.{spaced, line_within}
use Rattle.sr_call.proofs.line.join.Goals as goal

pub returns-then-len-gt-MAX_UNITS : goal.returns-then-len-gt-MAX_UNITS
returns-then-len-gt-MAX_UNITS c =
    let v = c.in-Some.first.now in
    let i = c.loop-value.value-index in
    let begun = c.in_ok-add.ensures ∙ ap (λ x. x ++ text_in (value_of v)) c.new-units.ensures.items in
    let so_far = c.loop-value.invariant ∙ ap (λ x. x ++ flat_map spaced (take i c.in-Some.rest.now)) begun in
    let h = line_within c.args.values.now v c.in-Some.rest.now i c.loop-value.units.items c.in-Some.ensures.cases.0 so_far in
    omega (arith, c.len.ensures)
