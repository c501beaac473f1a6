-- Names with commas between, up to a closing brace, as imports and exports have them.
use Rattle.std.proofs.Common.{◌≡◌, ℕ, zero, suc, ◌+◌, ◌≤◌, Bool, true, false, List, [], ◌∷◌, ◌++◌, length, Ok, Err, refl, sym, ◌∙◌, subst, append-nil, length-append, arith, ◌⊎◌, inl, inr, if◌then◌else◌}
use Rattle.sr_syntax.specs.declared.sorts.Sort.TheVariants as k
use Rattle.sr_syntax.specs.declared.sorts.Lexeme.{Lexeme}
use Rattle.sr_syntax.specs.Input.{Input, Outcome, Parser, ◌>>=◌, ◌>>◌, and_then, pure, eat, expect, sees, after, left}
use Rattle.sr_grammar.proofs.Steps.{inp, Any, Parses, Both, both, Either, first, second, Never, Pure, nothing, Eaten, ate, absent, Expected, expected, Here, here, Chosen, yes, no, ChosenFault, yes_fault, no_fault, map, then_any, eaten, expecting, purely, choose_any, turns, finish, pred, not_both}
use Rattle.sr_grammar.proofs.Facts.{Mapped, mapped, mapping, token}
use Rattle.sr_grammar.proofs.Lists.{assoc}
use Rattle.sr_grammar.proofs.Beginnings.{Begun, begun_more, Wholly, wholly, Partly, partly, carry, Turned, onwards, at_end, Broken, broken, turned_runs, turned_breaks, turned_grows}
use Rattle.sr_grammar.proofs.Sorts.{end_no_comma, end_no_right_brace}

module _ {A X : Type 0} (one : Parser A) (add : X → A → X) where
  -- what a turn of the loop reads
  abbrev pub turn : (X → Parser X) → X → Parser X
  turn again found = eat k.RightBrace >>= (λ is_over. if is_over then pure found else (one >>= (λ x. eat k.Comma >>= (λ more.
      if more then again (add found x) else (expect k.RightBrace >> pure (add found x))))))

  abbrev behind_one : X → Bool → Parser (X ⊎ X)
  behind_one found more = if more then (λ i. Ok (inl found, i)) else (expect k.RightBrace >>= (λ u i. Ok (inr found, i)))

  abbrev step : ℕ → X → Parser (X ⊎ X)
  step e found = eat k.RightBrace >>= (λ is_over. if is_over then (λ i. Ok (inr found, i)) else (one >>= (λ x. eat k.Comma >>= (λ more. behind_one (add found x) more))))

  -- the rule that reads them, whole lists, those with a comma behind each, and one of them
  module _ (rule : ℕ → X → Parser X) (unrolled : (m : ℕ) (found : X) (i : Input) → rule (suc m) found i ≡ turn (rule m) found i)
      (All Before : List Lexeme → X → Type 0) (One : List Lexeme → A → Type 0)
      (comma_behind : (us vs : List Lexeme) (xs : X) (x : A) → Before us xs → One vs x → (t : Lexeme) → t.sort ≡ k.Comma → Before (us ++ (vs ++ t ∷ [])) (add xs x))
      (comma_at_last : (us : List Lexeme) (xs : X) → Before us xs → (u : Lexeme) → u.sort ≡ k.RightBrace → All (us ++ u ∷ []) xs)
      (one_at_last : (us vs : List Lexeme) (xs : X) (x : A) → Before us xs → One vs x → (u : Lexeme) → u.sort ≡ k.RightBrace → All (us ++ (vs ++ u ∷ [])) (add xs x)) where
    abbrev Whole : ℕ → List Lexeme → X → Type 0
    Whole e us xs = All us xs

    abbrev OneOf : ℕ → List Lexeme → A → Type 0
    OneOf e us x = One us x

    abbrev SoFar : ℕ → List Lexeme → List Lexeme → X → Type 0
    SoFar d us ts xs = Before us xs

    abbrev AtLast : ℕ → List Lexeme → List Lexeme → X → Type 0
    AtLast d us ts xs = All us xs

    turn_fact : {d l n : ℕ} {us ts : List Lexeme} {found : X} {o : X ⊎ X}
        → Both (Eaten k.RightBrace) (λ b. Chosen b (Pure (inr found)) (Both (Wholly OneOf d) (λ x. Both (Eaten k.Comma) (λ m. Chosen m (Pure (inl (add found x))) (Mapped (Expected k.RightBrace) (λ u. inr (add found x)))))))
        l n us ts o → Turned SoFar AtLast d found l n us ts o
    turn_fact {found = found} (both (ate t c e) (yes f (nothing is))) = at_end found (λ vs w. comma_at_last vs found w t c) is
    turn_fact (both (ate t c e) (no f r)) = absurd (not_both e f)
    turn_fact (both (absent e o) (yes f r)) = absurd (not_both f e)
    turn_fact {found = found} (both (absent e o) (no f (both {us = us} {x = x} (wholly h) (both (ate t c i) (yes j (nothing is)))))) =
        onwards (add found x) (λ vs w. comma_behind vs us found x w h t c) (omega (arith, length-append us (t ∷ []))) is
    turn_fact (both (absent e o) (no f (both h (both (ate t c i) (no j r))))) = absurd (not_both i j)
    turn_fact (both (absent e o) (no f (both h (both (absent i p) (yes j r))))) = absurd (not_both j i)
    turn_fact {found = found} (both (absent e o) (no f (both {us = us} {x = x} (wholly h) (both (absent i p) (no j (mapped v (expected u c) is)))))) =
        at_end (add found x) (λ vs w. one_at_last vs us found x w h u c) is

    -- with a brace behind it
    one_begins : {us vs : List Lexeme} {found : X} → Before vs found → Begun OneOf us → Begun Whole (vs ++ us)
    one_begins {vs = vs} {found = found} w b = carry vs (λ e ws x h. begun_more e vs ws (token k.RightBrace ∷ []) (add found x) (one_at_last vs ws found x w h (token k.RightBrace) refl)) b

    turn_fault : {d l n : ℕ} {us ts : List Lexeme} {found : X}
        → Either Never (Eaten k.RightBrace) (λ b. ChosenFault b Never (Either (Partly OneOf) (Wholly OneOf d) (λ x. Either Never (Eaten k.Comma) (λ m. ChosenFault m Never Here))))
        l n us ts → Broken SoFar Whole d found l n us ts
    turn_fault (first c) = elim c [ ]
    turn_fault (second b (yes_fault f c)) = elim c [ ]
    turn_fault (second (ate t c e) (no_fault f r)) = absurd (not_both e f)
    turn_fault (second (absent e o) (no_fault f (first (partly b)))) = broken (λ vs w. one_begins w b)
    turn_fault (second (absent e o) (no_fault f (second h (first c)))) = elim c [ ]
    turn_fault (second (absent e o) (no_fault f (second h (second m (yes_fault j c))))) = elim c [ ]
    turn_fault (second (absent e o) (no_fault f (second h (second (ate t c i) (no_fault j r))))) = absurd (not_both i j)
    turn_fault {found = found} (second (absent e o) (no_fault f (second {us = us} {x = x} (wholly h) (second (absent i p) (no_fault j here))))) =
        broken (λ vs w. subst (λ zs. Begun Whole (vs ++ zs)) (sym (append-nil us))
        (begun_more 0 vs us (token k.RightBrace ∷ []) (add found x) (one_at_last vs us found x w h (token k.RightBrace) refl)))

    module _ (d : ℕ) (ones : Parses (λ e. one) d Any (Wholly OneOf d) (Partly OneOf)) where
      abbrev again : ℕ → ℕ → X ⊎ X → Parser X
      again = finish (λ m e found. rule m found) step 1 d (Turned SoFar AtLast d) (Broken SoFar Whole d)

      more_turn : (m e : ℕ) (found : X) (more : Bool) (i : Input)
          → (if more then rule m found else (expect k.RightBrace >> pure found)) i ≡ and_then (behind_one found more i) (again m e)
      more_turn m e found true i = refl
      more_turn m e found false i = assoc (expect k.RightBrace i) (λ u. inr found) (again m e)

      one_turn : (m e : ℕ) (found : X) (o : Outcome A)
          → and_then o (λ x. eat k.Comma >>= (λ more. if more then rule m (add found x) else (expect k.RightBrace >> pure (add found x))))
          ≡ and_then (and_then o (λ x. eat k.Comma >>= (λ more. behind_one (add found x) more))) (again m e)
      one_turn m e found (Ok p) = more_turn m e (add found p.0) (sees k.Comma p.1) (after k.Comma p.1)
      one_turn m e found (Err r) = refl

      over_turn : (m e : ℕ) (found : X) (is_over : Bool) (i : Input)
          → (if is_over then pure found else (one >>= (λ x. eat k.Comma >>= (λ more. if more then rule m (add found x) else (expect k.RightBrace >> pure (add found x)))))) i
          ≡ and_then ((if is_over then (λ i. Ok (inr found, i)) else (one >>= (λ x. eat k.Comma >>= (λ more. behind_one (add found x) more)))) i) (again m e)
      over_turn m e found true i = refl
      over_turn m e found false i = one_turn m e found (one i)

      unrolls : (m e : ℕ) (found : X) (all : List Lexeme) (l n : ℕ) → 1 + length all ≤ m → rule m found (inp all l n) ≡ and_then (step e found (inp all l n)) (again (pred m) e)
      unrolls zero e found all l n far = absurd (omega arith)
      unrolls (suc m) e found all l n far = unrolled m found (inp all l n) ∙ over_turn m e found (sees k.RightBrace (inp all l n)) (after k.RightBrace (inp all l n))

      steps : (found : X) → Parses (λ e. step e found) d Any (Turned SoFar AtLast d found) (Broken SoFar Whole d found)
      steps found = map (λ l n us ts x r. turn_fact r) (λ l n us ts r. turn_fault r)
          (then_any (eaten k.RightBrace end_no_right_brace) (λ b. choose_any b (purely (inr found))
          (then_any ones (λ x. then_any (eaten k.Comma end_no_comma) (λ m. choose_any m (purely (inl (add found x)))
          (mapping (expecting k.RightBrace end_no_right_brace) (λ u. inr (add found x))))))))

      pub in_braces : (found : X) → Before [] found → Parses (λ e i. rule (left i + 1) found i) d Any (Wholly Whole d) (Partly Whole)
      unfolding left
      in_braces found w = map (λ l n us ts x r. wholly (turned_runs r [] w)) (λ l n us ts r. partly (turned_breaks r [] w))
          (turns (λ m e found. rule m found) step 1 d (Turned SoFar AtLast d) (Broken SoFar Whole d) unrolls steps turned_grows (λ i. left i + 1) (λ all l n. omega arith) found)
