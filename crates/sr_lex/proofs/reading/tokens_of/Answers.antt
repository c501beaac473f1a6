use Rattle.std.proofs.Common.{◌≡◌, ◌+◌, ◌-◌, ◌≤◌, ◌≢◌, ◌++◌, [], ◌∷◌, ℕ, List, Bool, take, drop, length, reverse, arith, rules, sym, ap, ◌∙◌, subst}
use Rattle.std.specs.Prelude.{IsTrue, ◌==◌, Some, None, slice_range}
use Rattle.std.proofs.lemmas.Grind.{common_steps}
use Rattle.std.proofs.lemmas.List.{take_rest, length-drop, drop-drop, append-nil}
use Rattle.sr_lex.specs.Scan.{gap, row, token_of, lexed}
use Rattle.sr_lex.specs.Brackets.{in_substitution, brackets_after}
use Rattle.sr_lex.specs.Closed.{NoClose}
use Rattle.sr_lex.specs.declared.token.Token.{Token}
use Rattle.sr_lex.specs.declared.brackets.Bracket.{Bracket}
use Rattle.sr_lex.proofs.reading.tokens_of.Goals as goal
use Rattle.sr_lex.proofs.Places.{range_is}
use Rattle.sr_lex.proofs.GapSteps.{closed_on}
use Rattle.sr_lex.proofs.TextSteps.{behind, text_ends, text_fails, text_goes}

pub returns-then-from-text : goal.returns-then-from-text
returns-then-from-text c =
    let text = c.args.text.now in
    let at = c.loop-turn.at in
    let us = drop at text in
    let bs = reverse c.loop-turn.brackets.items in
    let g = c.gap-gap.result in
    let left = length text - c.loop-turn._turn in
    let later = length text - (c.loop-turn._turn + 1) in
    let is : gap (length us) (at == 0) us ≡ g = rw take_rest at (sym c.gap-gap.ensures.value) in
    let over : length (drop g.units us) ≡ 0 = omega (arith, length-drop g.units us, length-drop at text, c.if-from-text.true) in
    sym c.loop-turn.invariant.told
    ∙ ap (behind c.loop-turn.tokens.items) (text_ends left later at bs us g (omega arith) is over)
    ∙ ap (λ (ts : List Token). (ts, None)) (append-nil c.loop-turn.tokens.items)

pub returns-in_default : goal.returns-in_default
returns-in_default c =
    let text = c.args.text.now in
    let at = c.loop-turn.at in
    let us = drop at text in
    let bs = reverse c.loop-turn.brackets.items in
    let g = c.gap-gap.result in
    let left = length text - c.loop-turn._turn in
    let later = length text - (c.loop-turn._turn + 1) in
    let is : gap (length us) (at == 0) us ≡ g = rw take_rest at (sym c.gap-gap.ensures.value) in
    let within : g.units ≤ length us = rw take_rest at c.gap-gap.ensures.within in
    let more : length (drop g.units us) ≢ 0 = λ h. c.if-from-text.false (omega (arith, length-drop g.units us, length-drop at text, c.loop-turn.invariant.within)) in
    let inside : c.in_substitution.result ≡ in_substitution bs =
    c.in_substitution.ensures ∙ ap (λ (xs : List Bracket). in_substitution (reverse xs)) c.deref.ensures.value in
    let read : row c.in_substitution.result (drop (at + g.units) text) ≡ None = rw take_rest at (sym c.row_at_front.ensures.value ∙ c.in_default.is) in
    let none : row (in_substitution bs) (drop g.units us) ≡ None =
    ap (row (in_substitution bs)) (drop-drop g.units at text) ∙ ap (λ (i : Bool). row i (drop (at + g.units) text)) (sym inside) ∙ read in
    sym c.loop-turn.invariant.told
    ∙ ap (behind c.loop-turn.tokens.items) (text_fails left later at bs us g (omega arith) is more none)
    ∙ ap (λ (ts : List Token). (ts, Some (at + g.units))) (append-nil c.loop-turn.tokens.items)

pub loop-turn-preserved : goal.loop-turn-preserved
loop-turn-preserved c =
    let text = c.args.text.now in
    let at = c.loop-turn.at in
    let us = drop at text in
    let bs = reverse c.loop-turn.brackets.items in
    let g = c.gap-gap.result in
    let r = c.in-Some.row in
    let from = at + g.units in
    let ts = c.loop-turn.tokens.items in
    let left = length text - c.loop-turn._turn in
    let later = length text - (c.loop-turn._turn + 1) in
    let is : gap (length us) (at == 0) us ≡ g = rw take_rest at (sym c.gap-gap.ensures.value) in
    let within : g.units ≤ length us = rw take_rest at c.gap-gap.ensures.within in
    let more : length (drop g.units us) ≢ 0 = λ h. c.if-from-text.false (omega (arith, length-drop g.units us, length-drop at text, c.loop-turn.invariant.within)) in
    let inside : c.in_substitution.result ≡ in_substitution bs =
    c.in_substitution.ensures ∙ ap (λ (xs : List Bracket). in_substitution (reverse xs)) c.deref.ensures.value in
    let read : row c.in_substitution.result (drop from text) ≡ Some r = rw take_rest at (sym c.in-Some.ensures.value) in
    let some : row (in_substitution bs) (drop g.units us) ≡ Some r =
    ap (row (in_substitution bs)) (drop-drop g.units at text) ∙ ap (λ (i : Bool). row i (drop from text)) (sym inside) ∙ read in
    let own : slice_range text from (from + r.units) ≡ take r.units (drop g.units us) =
    range_is text from r.units ∙ ap (take r.units) (sym (drop-drop g.units at text)) in
    let after = brackets_after bs r.kind (take r.units (drop g.units us)) in
    let passed : reverse c.pass.new.brackets.items ≡ after = c.in_ok-pass.ensures ∙ ap (brackets_after bs r.kind) own in
    let pushed : c.push.new.self.items ≡ ts ++ (token_of r from g.line ∷ []) = search (rules, c.in_ok-push.ensures) in
    let there : drop (from + r.units) text ≡ drop r.units (drop g.units us) =
    sym (drop-drop r.units from text) ∙ ap (drop r.units) (sym (drop-drop g.units at text)) in
    let on : behind c.push.new.self.items (lexed later (from + r.units) (reverse c.pass.new.brackets.items) (drop (from + r.units) text)) ≡ behind ts (lexed left at bs us) =
    ap (λ (xs : List Token). behind xs (lexed later (from + r.units) (reverse c.pass.new.brackets.items) (drop (from + r.units) text))) pushed
    ∙ ap (λ (cs : List Bracket). behind (ts ++ (token_of r from g.line ∷ [])) (lexed later (from + r.units) cs (drop (from + r.units) text))) passed
    ∙ ap (λ (xs : List ℕ). behind (ts ++ (token_of r from g.line ∷ [])) (lexed later (from + r.units) after xs)) there
    ∙ sym (text_goes left later at bs us ts g r (omega arith) is more some) in
    let closed : IsTrue c.gap-gap.new.unclosed → NoClose (drop 2 (drop g.units us)) = rw take_rest at c.gap-gap.ensures.unclosed in
    record {
      told = on ∙ c.loop-turn.invariant.told;
      within = first_of (search rules, grind (arith, common_steps, length-drop));
      unclosed = λ h. closed_on from r.units text (subst (λ (xs : List ℕ). NoClose (drop 2 xs)) (drop-drop g.units at text) (closed h));
    }
