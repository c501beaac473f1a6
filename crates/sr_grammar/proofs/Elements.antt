-- What the rules of arguments and arrays read, and where they fail.
use Rattle.std.proofs.Common.{◌≡◌, ℕ, zero, suc, ◌+◌, ◌≤◌, ◌<◌, Bool, true, false, List, [], ◌∷◌, ◌++◌, length, Ok, Err, refl, sym, subst, append_assoc, append-nil, arith, ◌⊎◌, inl, inr, if◌then◌else◌}
use Rattle.sr_syntax.specs.declared.sorts.Sort.TheVariants as k
use Rattle.sr_syntax.specs.declared.sorts.Sort.{Sort}
use Rattle.sr_syntax.specs.declared.sorts.Lexeme.{Lexeme}
use Rattle.sr_syntax.specs.declared.grown.Elements.{Elements}
use Rattle.sr_syntax.specs.Sorts.{same_sort}
use Rattle.sr_syntax.specs.Input.{Input, Outcome, Parser, ◌>>=◌, and_then, pure, eat, expect, sees, after, left}
use Rattle.sr_syntax.specs.Operators.{no_elements, with_value, with_spread, with_hole}
use Rattle.sr_syntax.specs.Expressions.{one_element, array_from, elements, arguments_from, arguments}
use Rattle.sr_syntax.specs.Grammar.{tree}
use Rattle.sr_grammar.specs.Derivations.{Adds, Commas, Arguments, Array, Assign}
use Rattle.sr_grammar.specs.Derivations as g
use Rattle.sr_grammar.proofs.Steps.{inp, Fact, Any, Parses, Both, both, Either, first, second, Never, Pure, nothing, Eaten, ate, absent, Expected, expected, Here, here, Chosen, yes, no, ChosenFault, yes_fault, no_fault, map, then_any, eaten, expecting, purely, choose_any, turns, finish, pred, not_both}
use Rattle.sr_grammar.proofs.Depths.{lift_adds, lift_commas}
use Rattle.sr_grammar.proofs.Facts.{Opened, opened, Mapped, mapped, mapping, Start, start, token}
use Rattle.sr_grammar.proofs.Lists.{Nested, assoc}
use Rattle.sr_grammar.proofs.Beginnings.{Begun, carry, begun_whole, begun_of, Turned, onwards, at_end, Broken, broken, turned_runs, turned_breaks, turned_grows}
use Rattle.sr_grammar.proofs.Sorts.{end_no_comma, end_no_ellipsis, end_no_right_bracket, end_no_right_parenthesis}

-- ---- one element

pub data Added (d : ℕ) (xs : Elements) (l n : ℕ) (us ts : List Lexeme) (ys : Elements) : Type 0 where
  added : Adds d us xs ys → Added d xs l n us ts ys

abbrev pub AddsTo : Elements → ℕ → List Lexeme → Elements → Type 0
AddsTo xs e us ys = Adds e us xs ys

pub data NotAdded (xs : Elements) (l n : ℕ) (us ts : List Lexeme) : Type 0 where
  not_added : Begun (AddsTo xs) us → NotAdded xs l n us ts

-- with nothing behind, and by another name
adds_bare : {d : ℕ} {us : List Lexeme} {xs ys zs : Elements} → zs ≡ ys → Adds d us xs ys → Adds d (us ++ []) xs zs
adds_bare {d} {us} {xs} {ys} {zs} is h = subst (λ ws. Adds d ws xs zs) (sym (append-nil us)) (subst (λ zs. Adds d us xs zs) (sym is) h)

added_fact : {d l n : ℕ} {us ts : List Lexeme} {xs ys : Elements}
    → Both (Eaten k.Ellipsis) (λ b. Both (Opened (Assign true) d) (λ x. Chosen b (Pure (with_spread xs x)) (Pure (with_value xs x)))) l n us ts ys → Added d xs l n us ts ys
added_fact (both (ate t c e) (both (opened h b) (yes f (nothing is)))) = added (adds_bare is (g.spread t c h))
added_fact (both (ate t c e) (both o (no f r))) = absurd (not_both e f)
added_fact (both (absent e o) (both h (yes f r))) = absurd (not_both f e)
added_fact (both (absent e o) (both (opened h b) (no f (nothing is)))) = added (adds_bare is (g.value h))

added_fault : {d l n : ℕ} {us ts : List Lexeme} {xs : Elements}
    → Either Never (Eaten k.Ellipsis) (λ b. Either (Start (Assign true)) (Opened (Assign true) d) (λ x. ChosenFault b Never Never)) l n us ts → NotAdded xs l n us ts
added_fault (first c) = elim c [ ]
added_fault {xs = xs} (second (ate t c e) (first (start s))) = not_added (carry (t ∷ []) (λ e vs x h. begun_whole (suc e) (t ∷ vs) (with_spread xs x) (g.spread t c h)) (begun_of s))
added_fault {xs = xs} (second (absent e o) (first (start s))) = not_added (carry [] (λ e vs x h. begun_whole (suc e) vs (with_value xs x) (g.value h)) (begun_of s))
added_fault (second b (second h (yes_fault f c))) = elim c [ ]
added_fault (second b (second h (no_fault f c))) = elim c [ ]

-- ---- elements behind elements

-- what stands before the next element
abbrev pub Listed : Bool → ℕ → List Lexeme → List Lexeme → Elements → Type 0
Listed holes d us ts xs = Commas holes d us xs

abbrev pub Whole : (ℕ → List Lexeme → Elements → Type 0) → ℕ → List Lexeme → List Lexeme → Elements → Type 0
Whole D d us ts xs = D d us xs

-- an element, and a comma or what closes the list
abbrev element_step : Sort → ℕ → Elements → Parser (Elements ⊎ Elements)
element_step close e found = one_element (tree e) found >>= (λ all. eat k.Comma >>= (λ more.
    if more then (λ i. Ok (inl all, i)) else (expect close >>= (λ u i. Ok (inr all, i)))))

-- a list that something closes
record Closes (holes : Bool) (close : Sort) (D : ℕ → List Lexeme → Elements → Type 0) : Type 0 where
  other : same_sort k.End close ≡ false
  over : {d : ℕ} {us : List Lexeme} {xs : Elements} → Commas holes d us xs → (u : Lexeme) → u.sort ≡ close → D d (us ++ u ∷ []) xs
  last : {d : ℕ} {us vs : List Lexeme} {xs ys : Elements} → Commas holes d us xs → Adds d vs xs ys → (u : Lexeme) → u.sort ≡ close → D d (us ++ (vs ++ u ∷ [])) ys

closes_arguments : Closes false k.RightParenthesis Arguments
closes_arguments = record { other = end_no_right_parenthesis; over = λ w u c. g.comma_at_last w u c; last = λ w a u c. g.element_at_last w a u c }

closes_array : Closes true k.RightBracket Array
closes_array = record { other = end_no_right_bracket; over = λ w u c. g.array_comma_at_last w u c; last = λ w a u c. g.array_element_at_last w a u c }

module _ {holes : Bool} {close : Sort} {D : ℕ → List Lexeme → Elements → Type 0} (c : Closes holes close D) where
  -- an element that is begun begins what closes
  close_element : {d : ℕ} {vs us : List Lexeme} {found : Elements} → Commas holes d vs found → Begun (AddsTo found) us → Begun D (vs ++ us)
  close_element {d} {vs} {us} {found} w b = carry vs (λ e ws ys a. record {
    depth = d + e;
    more = token close ∷ [];
    made = ys;
    has = subst (λ zs. D (d + e) zs ys) (sym (append_assoc vs ws (token close ∷ [])))
        (c.last (lift_commas d (d + e) (omega arith) w) (lift_adds e (d + e) (omega arith) a) (token close) refl);
  }) b

  element_fact : {d l n : ℕ} {us ts : List Lexeme} {found : Elements} {o : Elements ⊎ Elements}
      → Both (Added d found) (λ all. Both (Eaten k.Comma) (λ b. Chosen b (Pure (inl all)) (Mapped (Expected close) (λ u. inr all)))) l n us ts o
      → Turned (Listed holes) (Whole D) d found l n us ts o
  element_fact (both {us} {x = all} (added a) (both (ate t e f) (yes i (nothing is)))) = onwards all (λ vs w. g.one_element w a t e) (some us t) is
    where
      some : (us : List Lexeme) (t : Lexeme) → 0 < length (us ++ t ∷ [])
      some [] t = omega arith
      some (u ∷ us) t = omega arith
  element_fact (both (added a) (both (ate t e f) (no i r))) = absurd (not_both f i)
  element_fact (both (added a) (both (absent e o) (yes i r))) = absurd (not_both i e)
  element_fact (both {x = all} (added a) (both (absent e o) (no i (mapped v (expected u f) is)))) = at_end all (λ vs w. c.last w a u f) is

  element_fault : {d l n : ℕ} {us ts : List Lexeme} {found : Elements}
      → Either (NotAdded found) (Added d found) (λ all. Either Never (Eaten k.Comma) (λ b. ChosenFault b Never Here)) l n us ts
      → Broken (Listed holes) D d found l n us ts
  element_fault (first (not_added b)) = broken (λ vs w. close_element w b)
  element_fault (second h (first r)) = elim r [ ]
  element_fault (second h (second b (yes_fault i r))) = elim r [ ]
  element_fault (second h (second (ate t e f) (no_fault i r))) = absurd (not_both f i)
  element_fault {d} (second {us} {x = all} (added a) (second (absent e o) (no_fault i here))) =
      broken (λ vs w. close_element w (begun_whole d (us ++ []) all (adds_bare refl a)))

module _ (d : ℕ) (nest : Nested d) where
  pub adding : (found : Elements) → Parses (λ e. one_element (tree e) found) d Any (Added d found) (NotAdded found)
  unfolding one_element
  adding found = map (λ l n us ts x r. added_fact r) (λ l n us ts r. added_fault r)
      (then_any (eaten k.Ellipsis end_no_ellipsis) (λ b. then_any (nest.assign true) (λ x. choose_any b (purely (with_spread found x)) (purely (with_value found x)))))

  element_steps : {holes : Bool} {close : Sort} {D : ℕ → List Lexeme → Elements → Type 0} → Closes holes close D → (found : Elements)
      → Parses (λ e. element_step close e found) d Any (Turned (Listed holes) (Whole D) d found) (Broken (Listed holes) D d found)
  element_steps {holes} {close} c found = map (λ l n us ts x r. element_fact c r) (λ l n us ts r. element_fault c r)
      (then_any (adding found) (λ all. then_any (eaten k.Comma end_no_comma) (λ b. choose_any b (purely (inl all)) (mapping (expecting close c.other) (λ u. inr all)))))

-- ---- turns

module _ (L : ℕ → ℕ → Elements → Parser Elements) (step : ℕ → Elements → Parser (Elements ⊎ Elements)) (c d : ℕ)
    (R : Elements → Fact (Elements ⊎ Elements)) (B : Elements → ℕ → ℕ → List Lexeme → List Lexeme → Type 0) (close : Sort) (m e : ℕ) where
  element_end : (all : Elements) (more : Bool) (i : Input)
      → (if more then L m e all else (expect close >>= (λ u. pure all))) i
      ≡ and_then ((if more then (λ i. Ok (inl all, i)) else (expect close >>= (λ u i. Ok (inr all, i)))) i) (finish L step c d R B m e)
  element_end all true i = refl
  element_end all false i = assoc (expect close i) (λ u. inr all) (finish L step c d R B m e)

  element_turn : (o : Outcome Elements)
      → and_then o (λ all. eat k.Comma >>= (λ more. if more then L m e all else (expect close >>= (λ u. pure all))))
      ≡ and_then (and_then o (λ all. eat k.Comma >>= (λ more. if more then (λ i. Ok (inl all, i)) else (expect close >>= (λ u i. Ok (inr all, i)))))) (finish L step c d R B m e)
  element_turn (Ok p) = element_end p.0 (sees k.Comma p.1) (after k.Comma p.1)
  element_turn (Err r) = refl

-- ---- arguments

abbrev argument_step : ℕ → Elements → Parser (Elements ⊎ Elements)
argument_step e found = eat k.RightParenthesis >>= (λ is_over. if is_over then (λ i. Ok (inr found, i)) else element_step k.RightParenthesis e found)

argument_fact : {d l n : ℕ} {us ts : List Lexeme} {found : Elements} {o : Elements ⊎ Elements}
    → Both (Eaten k.RightParenthesis) (λ b. Chosen b (Pure (inr found)) (Turned (Listed false) (Whole Arguments) d found)) l n us ts o → Turned (Listed false) (Whole Arguments) d found l n us ts o
argument_fact {found = found} (both (ate t c e) (yes f (nothing is))) = at_end found (λ vs w. g.comma_at_last w t c) is
argument_fact (both (ate t c e) (no f r)) = absurd (not_both e f)
argument_fact (both (absent e o) (yes f r)) = absurd (not_both f e)
argument_fact (both (absent e o) (no f r)) = r

argument_fault : {d l n : ℕ} {us ts : List Lexeme} {found : Elements}
    → Either Never (Eaten k.RightParenthesis) (λ b. ChosenFault b Never (Broken (Listed false) Arguments d found)) l n us ts → Broken (Listed false) Arguments d found l n us ts
argument_fault (first c) = elim c [ ]
argument_fault (second b (yes_fault f c)) = elim c [ ]
argument_fault (second (ate t c e) (no_fault f r)) = absurd (not_both e f)
argument_fault (second (absent e o) (no_fault f r)) = r

-- the elements and what closes them
pub data Argued (d l n : ℕ) (us ts : List Lexeme) (xs : Elements) : Type 0 where
  argued : Arguments d us xs → Argued d l n us ts xs

pub data NotArgued (l n : ℕ) (us ts : List Lexeme) : Type 0 where
  not_argued : Begun Arguments us → NotArgued l n us ts

module _ (d : ℕ) (nest : Nested d) where
  abbrev argue_again : ℕ → ℕ → Elements ⊎ Elements → Parser Elements
  argue_again = finish (λ m e found. arguments_from (tree e) m found) argument_step 1 d (Turned (Listed false) (Whole Arguments) d) (Broken (Listed false) Arguments d)

  argument_turn : (m e : ℕ) (found : Elements) (b : Bool) (i : Input)
      → (if b then pure found else (one_element (tree e) found >>= (λ all. eat k.Comma >>= (λ more. if more then arguments_from (tree e) m all else (expect k.RightParenthesis >>= (λ u. pure all)))))) i
      ≡ and_then ((if b then (λ i. Ok (inr found, i)) else element_step k.RightParenthesis e found) i) (argue_again m e)
  argument_turn m e found true i = refl
  argument_turn m e found false i = element_turn (λ m e found. arguments_from (tree e) m found) argument_step 1 d (Turned (Listed false) (Whole Arguments) d) (Broken (Listed false) Arguments d)
      k.RightParenthesis m e (one_element (tree e) found i)

  argument_unrolls : (m e : ℕ) (found : Elements) (all : List Lexeme) (l n : ℕ) → 1 + length all ≤ m
      → arguments_from (tree e) m found (inp all l n) ≡ and_then (argument_step e found (inp all l n)) (argue_again (pred m) e)
  unfolding arguments_from
  argument_unrolls zero e found all l n far = absurd (omega arith)
  argument_unrolls (suc m) e found all l n far = argument_turn m e found (sees k.RightParenthesis (inp all l n)) (after k.RightParenthesis (inp all l n))

  argument_steps : (found : Elements) → Parses (λ e. argument_step e found) d Any (Turned (Listed false) (Whole Arguments) d found) (Broken (Listed false) Arguments d found)
  argument_steps found = map (λ l n us ts x r. argument_fact r) (λ l n us ts r. argument_fault r)
      (then_any (eaten k.RightParenthesis end_no_right_parenthesis) (λ b. choose_any b (purely (inr found)) (element_steps d nest closes_arguments found)))

  pub arguing : Parses (λ e. arguments (tree e)) d Any (Argued d) NotArgued
  unfolding arguments left
  arguing = map (λ l n us ts x r. argued (turned_runs r [] g.no_elements_yet)) (λ l n us ts r. not_argued (turned_breaks r [] g.no_elements_yet))
      (turns (λ m e found. arguments_from (tree e) m found) argument_step 1 d (Turned (Listed false) (Whole Arguments) d) (Broken (Listed false) Arguments d)
      argument_unrolls argument_steps turned_grows (λ i. left i + 1) (λ all l n. omega arith) no_elements)

-- ---- arrays

abbrev array_step : ℕ → Elements → Parser (Elements ⊎ Elements)
array_step e found = eat k.RightBracket >>= (λ is_over. if is_over then (λ i. Ok (inr found, i)) else
    (eat k.Comma >>= (λ is_hole. if is_hole then (λ i. Ok (inl (with_hole found), i)) else element_step k.RightBracket e found)))

array_fact : {d l n : ℕ} {us ts : List Lexeme} {found : Elements} {o : Elements ⊎ Elements}
    → Both (Eaten k.RightBracket) (λ b. Chosen b (Pure (inr found)) (Both (Eaten k.Comma) (λ h. Chosen h (Pure (inl (with_hole found))) (Turned (Listed true) (Whole Array) d found)))) l n us ts o
    → Turned (Listed true) (Whole Array) d found l n us ts o
array_fact {found = found} (both (ate t c e) (yes f (nothing is))) = at_end found (λ vs w. g.array_comma_at_last w t c) is
array_fact (both (ate t c e) (no f r)) = absurd (not_both e f)
array_fact (both (absent e o) (yes f r)) = absurd (not_both f e)
array_fact {found = found} (both (absent e o) (no f (both (ate t c i) (yes j (nothing is))))) = onwards (with_hole found) (λ vs w. g.one_hole w t c) (omega arith) is
array_fact (both (absent e o) (no f (both (ate t c i) (no j r)))) = absurd (not_both i j)
array_fact (both (absent e o) (no f (both (absent i p) (yes j r)))) = absurd (not_both j i)
array_fact (both (absent e o) (no f (both (absent i p) (no j r)))) = r

array_fault : {d l n : ℕ} {us ts : List Lexeme} {found : Elements}
    → Either Never (Eaten k.RightBracket) (λ b. ChosenFault b Never (Either Never (Eaten k.Comma) (λ h. ChosenFault h Never (Broken (Listed true) Array d found)))) l n us ts
    → Broken (Listed true) Array d found l n us ts
array_fault (first c) = elim c [ ]
array_fault (second b (yes_fault f c)) = elim c [ ]
array_fault (second b (no_fault f (first c))) = elim c [ ]
array_fault (second b (no_fault f (second h (yes_fault j c)))) = elim c [ ]
array_fault (second (ate t c e) (no_fault f r)) = absurd (not_both e f)
array_fault (second (absent e o) (no_fault f (second (ate t c i) (no_fault j r)))) = absurd (not_both i j)
array_fault (second (absent e o) (no_fault f (second (absent i p) (no_fault j r)))) = r

pub data Arrayed (d l n : ℕ) (us ts : List Lexeme) (xs : Elements) : Type 0 where
  arrayed : Array d us xs → Arrayed d l n us ts xs

pub data NotArrayed (l n : ℕ) (us ts : List Lexeme) : Type 0 where
  not_arrayed : Begun Array us → NotArrayed l n us ts

module _ (d : ℕ) (nest : Nested d) where
  abbrev array_again : ℕ → ℕ → Elements ⊎ Elements → Parser Elements
  array_again = finish (λ m e found. array_from (tree e) m found) array_step 1 d (Turned (Listed true) (Whole Array) d) (Broken (Listed true) Array d)

  hole_turn : (m e : ℕ) (found : Elements) (b : Bool) (i : Input)
      → (if b then array_from (tree e) m (with_hole found) else (one_element (tree e) found >>= (λ all. eat k.Comma >>= (λ more. if more then array_from (tree e) m all else (expect k.RightBracket >>= (λ u. pure all)))))) i
      ≡ and_then ((if b then (λ i. Ok (inl (with_hole found), i)) else element_step k.RightBracket e found) i) (array_again m e)
  hole_turn m e found true i = refl
  hole_turn m e found false i = element_turn (λ m e found. array_from (tree e) m found) array_step 1 d (Turned (Listed true) (Whole Array) d) (Broken (Listed true) Array d)
      k.RightBracket m e (one_element (tree e) found i)

  array_turn : (m e : ℕ) (found : Elements) (b : Bool) (i : Input)
      → (if b then pure found else (eat k.Comma >>= (λ is_hole. if is_hole then array_from (tree e) m (with_hole found)
      else (one_element (tree e) found >>= (λ all. eat k.Comma >>= (λ more. if more then array_from (tree e) m all else (expect k.RightBracket >>= (λ u. pure all)))))))) i
      ≡ and_then ((if b then (λ i. Ok (inr found, i)) else (eat k.Comma >>= (λ is_hole. if is_hole then (λ i. Ok (inl (with_hole found), i)) else element_step k.RightBracket e found))) i) (array_again m e)
  array_turn m e found true i = refl
  array_turn m e found false i = hole_turn m e found (sees k.Comma i) (after k.Comma i)

  array_unrolls : (m e : ℕ) (found : Elements) (all : List Lexeme) (l n : ℕ) → 1 + length all ≤ m
      → array_from (tree e) m found (inp all l n) ≡ and_then (array_step e found (inp all l n)) (array_again (pred m) e)
  unfolding array_from
  array_unrolls zero e found all l n far = absurd (omega arith)
  array_unrolls (suc m) e found all l n far = array_turn m e found (sees k.RightBracket (inp all l n)) (after k.RightBracket (inp all l n))

  array_steps : (found : Elements) → Parses (λ e. array_step e found) d Any (Turned (Listed true) (Whole Array) d found) (Broken (Listed true) Array d found)
  array_steps found = map (λ l n us ts x r. array_fact r) (λ l n us ts r. array_fault r)
      (then_any (eaten k.RightBracket end_no_right_bracket) (λ b. choose_any b (purely (inr found))
      (then_any (eaten k.Comma end_no_comma) (λ h. choose_any h (purely (inl (with_hole found))) (element_steps d nest closes_array found)))))

  pub arraying : Parses (λ e. elements (tree e)) d Any (Arrayed d) NotArrayed
  unfolding elements left
  arraying = map (λ l n us ts x r. arrayed (turned_runs r [] g.no_elements_yet)) (λ l n us ts r. not_arrayed (turned_breaks r [] g.no_elements_yet))
      (turns (λ m e found. array_from (tree e) m found) array_step 1 d (Turned (Listed true) (Whole Array) d) (Broken (Listed true) Array d)
      array_unrolls array_steps turned_grows (λ i. left i + 1) (λ all l n. omega arith) no_elements)
