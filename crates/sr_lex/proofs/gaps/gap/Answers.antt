use Rattle.std.proofs.Common.{◌≡◌, ◌+◌, ◌-◌, ◌≢◌, ℕ, List, drop, length, false, arith, rules, sym, ap, ◌∙◌}
use Rattle.std.specs.Prelude.{IsTrue}
use Rattle.std.proofs.lemmas.Grind.{common_steps}
use Rattle.std.proofs.lemmas.List.{take_rest, length-drop, drop-drop}
use Rattle.sr_lex.specs.Scan as spec
use Rattle.sr_lex.specs.declared.gaps.Blank.{Blank}
use Rattle.sr_lex.specs.Closed.{NoClose}
use Rattle.sr_lex.proofs.gaps.gap.Goals as goal
use Rattle.sr_lex.proofs.GapSteps.{gap_stops, gap_goes, closed_on}

pub returns-then-next-eq0-clause-value : goal.returns-then-next-eq0-clause-value
returns-then-next-eq0-clause-value c =
    let at = c.loop-turn.gap.units in
    let rest = drop at c.args.units.now in
    let left = length c.args.units.now - c.loop-turn._turn in
    let e : (spec.piece c.loop-turn.first rest).units ≡ 0 = ap (λ b. b.units) (rw take_rest at (sym c.piece-next.ensures.value)) ∙ c.if-next-eq0.true in
    sym (gap_stops left c.loop-turn.first rest c.loop-turn.gap e) ∙ c.loop-turn.invariant.told

pub loop-turn-preserved : goal.loop-turn-preserved
loop-turn-preserved c =
    let us = c.args.units.now in
    let front = c.loop-turn.gap in
    let rest = drop front.units us in
    let next = spec.piece c.loop-turn.first rest in
    let left = length us - c.loop-turn._turn in
    let later = length us - (c.loop-turn._turn + 1) in
    let is : c.piece-next.result ≡ next = rw take_rest at c.piece-next.ensures.value in
    let some : next.units ≢ 0 = λ h. c.if-next-eq0.false (ap (λ b. b.units) is ∙ h) in
    let now : c.joined-gap.result ≡ spec.join front next = c.joined-gap.ensures ∙ ap (spec.join front) is in
    let told : spec.join c.joined-gap.result (spec.gap later false (drop c.joined-gap.result.units us)) ≡ spec.gap (length us) c.args.start us =
    ap (λ (j : Blank). spec.join j (spec.gap later false (drop j.units us))) now
    ∙ ap (λ (r : List ℕ). spec.join (spec.join front next) (spec.gap later false r)) (sym (drop-drop next.units front.units us))
    ∙ sym (gap_goes left later c.loop-turn.first rest front (omega arith) some)
    ∙ c.loop-turn.invariant.told in
    let closed : IsTrue c.piece-next.new.unclosed → NoClose (drop 2 (drop (front.units + c.piece-next.result.units) us)) =
    λ h. closed_on front.units c.piece-next.result.units us (rw take_rest at c.piece-next.ensures.unclosed h) in
    record {
      told = told;
      within = first_of (search rules, grind (arith, common_steps, length-drop));
      unclosed = rw c.joined-gap.ensures closed;
    }
