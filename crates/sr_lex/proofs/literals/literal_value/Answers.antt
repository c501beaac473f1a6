use Rattle.std.proofs.Common.{◌≡◌, ◌+◌, ◌-◌, ◌++◌, ℕ, List, drop, length, ◌≢◌, arith, rules, sym, ap, ◌∙◌}
use Rattle.std.specs.Prelude.{Some, None}
use Rattle.std.proofs.lemmas.Grind.{common_steps}
use Rattle.std.proofs.lemmas.List.{take_rest, length-drop, drop-drop, append-nil}
use Rattle.sr_lex.specs.Scan.{closing_len, character, literal, meant_units}
use Rattle.sr_lex.proofs.literals.literal_value.Goals as goal
use Rattle.sr_lex.proofs.literals.literal_value.Goals.{else-loop-turn-test, then-loop-turn-test+then-closing_len-ne0, then-loop-turn-test+else-closing_len-ne0+in_default}
use Rattle.sr_lex.proofs.LiteralSteps.{value_from, value_goes, value_some, value_none, literal_closes, literal_ends}

pub loop-turn-preserved : goal.loop-turn-preserved
loop-turn-preserved c =
    let us = c.args.units.now in
    let at = c.loop-turn.at in
    let quote = c.args.quote in
    let vs = c.loop-turn.value.items in
    let rest = drop at us in
    let read = c.in-Some.character in
    let left = length us - c.loop-turn._turn in
    let later = length us - (c.loop-turn._turn + 1) in
    let none : c.closing_len.result ≡ 0 = omega (arith, c.if-closing_len-ne0.false) in
    let closing : closing_len quote rest ≡ 0 = rw take_rest at (sym c.closing_len.ensures.value ∙ none) in
    let is : character quote rest ≡ Some read = rw take_rest at (sym c.in-Some.ensures.value) in
    let more : c.push_meaning.new.value.items ≡ vs ++ meant_units read.meaning = search (rules, c.in_ok-push_meaning.ensures) in
    let on : value_from c.push_meaning.new.value.items (literal later quote (drop (at + read.units) us)) ≡ value_from vs (literal left quote rest) =
    ap (λ (ws : List ℕ). value_from ws (literal later quote (drop (at + read.units) us))) more
    ∙ ap (λ r. value_from (vs ++ meant_units read.meaning) (literal later quote r)) (sym (drop-drop read.units at us))
    ∙ sym (value_goes left later quote vs rest read (omega arith) closing is) in
    record {
      told = on ∙ c.loop-turn.invariant.told;
      within = first_of (search rules, grind (arith, common_steps, length-drop));
    }

pub returns : goal.returns
returns c =
    let us = c.args.units.now in
    let quote = c.args.quote in
    let vs = c.loop-turn.value.items in
    let whole = literal (length us) quote us in
    let rest = drop c.loop-turn.at us in
    let left = length us - c.loop-turn._turn in
    let later = length us - (c.loop-turn._turn + 1) in
    let told = c.loop-turn.invariant.told in
    elim c.loop-turn-test.branch [
      | else-loop-turn-test w ↦
          let over : left ≡ 0 = omega arith in
          value_none whole vs (sym told ∙ ap (λ (i : ℕ). value_from vs (literal i quote rest)) over)
      | then-loop-turn-test+then-closing_len-ne0 w ↦
          let is : w.closing_len.result ≡ closing_len quote rest = rw take_rest at w.closing_len.ensures.value in
          let closing : closing_len quote rest ≢ 0 = λ e. absurd (w.if-closing_len-ne0.true (is ∙ e)) in
          value_some whole vs (sym told ∙ ap (value_from vs) (literal_closes left later quote rest (omega arith) closing) ∙ ap Some (append-nil vs))
      | then-loop-turn-test+else-closing_len-ne0+in_default w ↦
          let none : w.closing_len.result ≡ 0 = omega (arith, w.if-closing_len-ne0.false) in
          let closing : closing_len quote rest ≡ 0 = rw take_rest at (sym w.closing_len.ensures.value ∙ none) in
          let is : character quote rest ≡ None = rw take_rest at (sym w.next_character.ensures.value ∙ w.in_default.is) in
          value_none whole vs (sym told ∙ ap (value_from vs) (literal_ends left later quote rest (omega arith) closing is))
    ]
