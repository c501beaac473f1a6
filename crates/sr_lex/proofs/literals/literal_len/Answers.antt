use Rattle.std.proofs.Common.{◌≡◌, ◌+◌, ◌-◌, drop, length, arith, rules, sym, ap, ◌∙◌}
use Rattle.std.specs.Prelude.{Some}
use Rattle.std.proofs.lemmas.Grind.{common_steps}
use Rattle.std.proofs.lemmas.List.{take_rest, length-drop, drop-drop}
use Rattle.sr_lex.specs.Scan.{closing_len, character, literal}
use Rattle.sr_lex.proofs.literals.literal_len.Goals as goal
use Rattle.sr_lex.proofs.LiteralSteps.{len_from, len_goes}

pub loop-turn-preserved : goal.loop-turn-preserved
loop-turn-preserved c =
    let us = c.args.units.now in
    let at = c.loop-turn.at in
    let rest = drop at us in
    let read = c.in_ok-at.field-0 in
    let left = length us - c.loop-turn._turn in
    let later = length us - (c.loop-turn._turn + 1) in
    let none : c.closing_len-closing.result ≡ 0 = omega (arith, c.if-closing-ne0.false) in
    let closing : closing_len c.args.quote rest ≡ 0 = rw take_rest at (sym c.closing_len-closing.ensures.value ∙ none) in
    let is : character c.args.quote rest ≡ Some read = rw take_rest at (sym c.in_ok-at.ensures.value) in
    let on : len_from (at + read.units) (literal later c.args.quote (drop (at + read.units) us)) ≡ len_from at (literal left c.args.quote rest) =
    ap (λ r. len_from (at + read.units) (literal later c.args.quote r)) (sym (drop-drop read.units at us))
    ∙ sym (len_goes left later c.args.quote at rest read (omega arith) closing is) in
    record {
      told = on ∙ c.loop-turn.invariant.told;
      within = first_of (search rules, grind (arith, common_steps, length-drop));
    }
