-- How far the text of a path is read.
use Rattle.std.proofs.Common.{◌≡◌, ◌≢◌, ℕ, ◌+◌, ◌<◌, ◌≤◌, min, List, [], ◌∷◌, ◌++◌, length, take, set, refl, sym, ap, ◌∙◌, subst, arith, append_assoc, append-nil, length-append, length-set, ◌==◌, false}
use Rattle.std.specs.List.{flat_map}
use Rattle.std.proofs.lemmas.Grind.{flat_map-append, take-set_at}
use Rattle.sr_tag.specs.Path.{IsChildNumber, AreChildNumbers, IsPath, step_text, path_text, IsPathText, IsLongPathText}
use Rattle.sr_tag.specs.Steps.{IsStep, HasNumbers}
use Rattle.sr_tag.proofs.Texts.{same_step, IsStep-steps, TextDeterminesPath_lem}

-- numbers ns continue what was found by steps that make up the rest
pub record Continues (rest found ns : List ℕ) : Type 0 where
  pub later : List ℕ
  pub each : AreChildNumbers later
  pub steps : rest ≡ flat_map step_text later
  pub whole : ns ≡ found ++ later

-- the numbers found so far, with the rest of the text behind their steps
pub record Progress (text rest array : List ℕ) (count : ℕ) : Type 0 where
  pub found : List ℕ
  pub each : AreChildNumbers found
  pub whole : text ≡ path_text found ++ rest
  pub only : (ns : List ℕ) → AreChildNumbers ns → text ≡ path_text ns → Continues rest found ns
  pub counted : count ≡ min (length found) 64
  pub held : count ≤ 63 → take count array ≡ found

pub start : (text steps array : List ℕ) → text ≡ 48 ∷ steps → Progress text steps array 0
start text steps array e = record {
  found = [];
  each = tt;
  whole = e;
  only = λ ns each same. record { later = ns; each = each; steps = cc; whole = refl };
  counted = refl;
  held = λ _. refl;
}

AreChildNumbers-push : (numbers : List ℕ) (n : ℕ) → AreChildNumbers numbers → IsChildNumber n → AreChildNumbers (numbers ++ n ∷ [])
AreChildNumbers-push [] n each p = (p, tt)
AreChildNumbers-push (m ∷ numbers) n each p = (each.0, AreChildNumbers-push numbers n each.1 p)

pub IsPath-push : (numbers : List ℕ) (n : ℕ) → IsPath numbers → length numbers ≢ 63 → IsChildNumber n → IsPath (numbers ++ n ∷ [])
IsPath-push numbers n path short p = record {
  each = AreChildNumbers-push numbers n path.each p;
  count = omega (arith, path.count, length-append numbers (n ∷ []));
}

path_text-push : (found : List ℕ) (n : ℕ) (more : List ℕ) → path_text found ++ (step_text n ++ more) ≡ path_text (found ++ n ∷ []) ++ more
path_text-push found n more =
    let steps : flat_map step_text (found ++ n ∷ []) ≡ flat_map step_text found ++ step_text n =
    flat_map-append step_text found (n ∷ []) ∙ ap (λ s. flat_map step_text found ++ s) (append-nil (step_text n))
    in
    sym (append_assoc (path_text found) (step_text n) more) ∙ ap (λ s. (48 ∷ s) ++ more) (sym steps)

continues_after : (rest found ns more : List ℕ) (n : ℕ) → IsStep rest n more → Continues rest found ns → Continues more (found ++ n ∷ []) ns
continues_after rest found ns more n step before = after before.later before.each before.steps before.whole
  where
    after : (later : List ℕ) → AreChildNumbers later → rest ≡ flat_map step_text later → ns ≡ found ++ later → Continues more (found ++ n ∷ []) ns
    after [] each steps whole = let e = step.whole in cc
    after (m ∷ later) each steps whole =
        let here = subst (λ text. IsStep text m (flat_map step_text later)) (sym steps) (IsStep-steps m later each.0) in
        let k = same_step rest n m more (flat_map step_text later) step here in
        record { later = later; each = each.1; steps = k.1; whole = whole ∙ ap (λ i. found ++ i ∷ later) (sym k.0) ∙ sym (append_assoc found (n ∷ []) later) }

pub step : (text rest array : List ℕ) (count n : ℕ) (more after : List ℕ) (counted : ℕ) → length after ≡ 63 → Progress text rest array count → IsStep rest n more → (count < 63 → after ≡ set array count n) → counted ≡ min (count + 1) 64 → Progress text more after counted
step text rest array count n more after counted size before next stored is = record {
  found = before.found ++ n ∷ [];
  each = AreChildNumbers-push before.found n before.each next.number;
  whole = before.whole ∙ ap (λ r. path_text before.found ++ r) next.whole ∙ path_text-push before.found n more;
  only = λ ns each same. continues_after rest before.found ns more n next (before.only ns each same);
  counted = omega (arith, before.counted, length-append before.found (n ∷ []));
  held = λ few. held_after few;
}
  where
    held_after : counted ≤ 63 → take counted after ≡ before.found ++ n ∷ []
    held_after few =
        let below : count < 63 = omega arith in
        let next_count : counted ≡ count + 1 = omega arith in
        ap (take counted) (stored below)
        ∙ take-set_at array count counted n next_count (omega (arith, ap length (stored below), length-set array count n))
        ∙ ap (λ front. front ++ n ∷ []) (before.held (omega arith))

pub stuck : (text rest array : List ℕ) (count : ℕ) → Progress text rest array count → rest ≢ [] → ((n : ℕ) (more : List ℕ) → IsStep rest n more → ⊥) → IsPathText text → ⊥
stuck text rest array count before some none path = at_rest (before.only path.0 path.1 path.2)
  where
    at_rest : Continues rest before.found path.0 → ⊥
    at_rest k = by_cases k.later k.each k.steps
      where
        by_cases : (later : List ℕ) → AreChildNumbers later → rest ≡ flat_map step_text later → ⊥
        by_cases [] each steps = some steps
        by_cases (m ∷ later) each steps = none m (flat_map step_text later) (subst (λ text. IsStep text m (flat_map step_text later)) (sym steps) (IsStep-steps m later each.0))

pub done : (text rest array : List ℕ) (count : ℕ) → Progress text rest array count → rest ≡ [] → HasNumbers text array count
done text rest array count before none = record {
  numbers = before.found;
  each = before.each;
  whole = before.whole ∙ ap (λ r. path_text before.found ++ r) none ∙ append-nil (path_text before.found);
  counted = before.counted;
  held = before.held;
}

pub not_empty : (rest : List ℕ) → (length rest == 0) ≡ false → rest ≢ []
not_empty [] some none = cc
not_empty (c ∷ rest) some none = cc

-- where the array holds all numbers, they are the path's, and not too many
pub the_path : (text array p : List ℕ) (count : ℕ) → HasNumbers text array count → count ≤ 63 → IsPath p → text ≡ path_text p → take count array ≡ p
the_path text array p count has few path same =
    has.held few ∙ TextDeterminesPath_lem has.numbers p has.each path.each (sym has.whole ∙ same)

pub not_long : (text array : List ℕ) (count : ℕ) → HasNumbers text array count → count ≤ 63 → IsLongPathText text → ⊥
not_long text array count has few long =
    let same = TextDeterminesPath_lem has.numbers long.0 has.each long.1 (sym has.whole ∙ long.2) in
    omega (arith, has.counted, ap length same, long.3)

pub long : (text array : List ℕ) (count : ℕ) → HasNumbers text array count → 63 < count → IsLongPathText text
long text array count has many = (has.numbers, has.each, has.whole, omega (arith, has.counted))
