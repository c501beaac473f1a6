-- The punctuator found is of the table, and the longest.
use Rattle.std.proofs.Common.{◌≡◌, ℕ, zero, suc, ◌≤◌, ◌≢◌, Bool, true, false, ◌||◌, ◌&&◌, List, [], ◌∷◌, length, take, drop, refl, sym, ap, ◌∙◌, subst, arith, ◌⊎◌, inl, inr}
use Rattle.std.specs.Prelude.{not, ◌==◌, slice_index, codes}
use Rattle.std.specs.List.{list_any}
use Rattle.std.specs.Str.{bytes_eq}
use Rattle.std.proofs.lemmas.Slice.Eq.{bytes_eq-Decides}
use Rattle.sr_lex.specs.Units.{is_digit, begins_with_digit, is_name_start, is_white_space, is_line_end}
use Rattle.sr_lex.specs.Strings.{is_quote}
use Rattle.sr_lex.specs.Templates.{backquote}
use Rattle.sr_lex.specs.Tokens.{punctuators, is_one_of, is_punctuator}
use Rattle.sr_lex.specs.Scan.{is_single, takes_equals, is_doubled, is_doubled_before_equals, is_four, is_three, is_two, is_one, first_len, punctuator_len}
use Rattle.sr_lex.proofs.Truth.{or_true, and_true, is_same, or_left, or_right, and_in, not_true}
use Rattle.sr_lex.proofs.Punctuators.{among, four_says, three_says, two_says, one_says, four_units, three_units, two_units, one_unit}

-- ---- what is found is of the table

-- a text of the table that may stand before anything
abbrev is_free : List ℕ → Bool
is_free us = is_one_of us punctuators && not (is_one_of us (codes "." ∷ codes "?." ∷ []))

free : (us after : List ℕ) → is_free us ≡ true → is_punctuator us after ≡ true
unfolding is_punctuator
free us after h =
    let p = and_true (is_one_of us punctuators) (not (is_one_of us (codes "." ∷ codes "?." ∷ []))) h in
    let n = not_true (is_one_of us (codes "." ∷ codes "?." ∷ [])) p.1 in
    rw (p.0, n) refl

four_ok : (a b c d : ℕ) (after : List ℕ) → is_four a b c d ≡ true → is_punctuator (a ∷ b ∷ c ∷ d ∷ []) after ≡ true
four_ok a b c d after h =
    let p = four_says a b c d h in
    free (a ∷ b ∷ c ∷ d ∷ []) after (rw (p.0, p.1, p.2, p.3) refl)

doubled_equals_free : (a : ℕ) → is_doubled_before_equals a ≡ true → is_free (a ∷ a ∷ 0x3D ∷ []) ≡ true
unfolding is_doubled_before_equals
doubled_equals_free a h = among (λ x. is_free (x ∷ x ∷ 0x3D ∷ [])) a (codes "*<>&|?") refl h

doubled_free : (a : ℕ) → is_doubled a ≡ true → is_free (a ∷ a ∷ []) ≡ true
unfolding is_doubled
doubled_free a h = among (λ x. is_free (x ∷ x ∷ [])) a (codes "+-*<>&|?") refl h

equals_free : (a : ℕ) → takes_equals a ≡ true → is_free (a ∷ 0x3D ∷ []) ≡ true
unfolding takes_equals
equals_free a h = among (λ x. is_free (x ∷ 0x3D ∷ [])) a (codes "<>=!+-*/%&|^") refl h

single_free : (a : ℕ) → is_single a ≡ true → is_free (a ∷ []) ≡ true
unfolding is_single
single_free a h = among (λ x. is_free (x ∷ [])) a (codes "{}()[];,<>+-*/%&|^!~?:=") refl h

three_free : (a b c : ℕ) → is_three a b c ≡ true → is_free (a ∷ b ∷ c ∷ []) ≡ true
three_free a b c h = elim (three_says a b c h) [
  | inl p ↦ rw (p.0, ← p.1) (doubled_equals_free a p.2)
  | inr q ↦ elim q [
    | inl p ↦ elim p.2 [ inl e ↦ rw (p.0, p.1, e) refl | inr e ↦ rw (p.0, p.1, e) refl ]
    | inr p ↦ elim p.2 [ inl e ↦ rw (← p.1, ← p.0, e) refl | inr e ↦ rw (← p.1, ← p.0, e) refl ]
  ]
]

three_ok : (a b c : ℕ) (after : List ℕ) → is_three a b c ≡ true → is_punctuator (a ∷ b ∷ c ∷ []) after ≡ true
three_ok a b c after h = free (a ∷ b ∷ c ∷ []) after (three_free a b c h)

no_digit : (us after : List ℕ) → is_one_of us punctuators ≡ true → begins_with_digit after ≡ false → is_punctuator us after ≡ true
unfolding is_punctuator
no_digit us after h d = go (is_one_of us (codes "." ∷ codes "?." ∷ [])) refl
  where
    go : (b : Bool) → is_one_of us (codes "." ∷ codes "?." ∷ []) ≡ b → (is_one_of us punctuators && not (is_one_of us (codes "." ∷ codes "?." ∷ []) && begins_with_digit after)) ≡ true
    go true e = rw (h, e, d) refl
    go false e = rw (h, e) refl

two_ok : (a b c : ℕ) (after : List ℕ) → begins_with_digit after ≡ is_digit c → is_two a b c ≡ true → is_punctuator (a ∷ b ∷ []) after ≡ true
two_ok a b c after same h = elim (two_says a b c h) [
  | inl p ↦ free (a ∷ b ∷ []) after (rw (p.0) (equals_free a p.1))
  | inr q ↦ elim q [
    | inl p ↦ free (a ∷ b ∷ []) after (rw (← p.0) (doubled_free a p.1))
    | inr r ↦ elim r [
      | inl p ↦ free (a ∷ b ∷ []) after (rw (p.0, p.1) refl)
      | inr p ↦ no_digit (a ∷ b ∷ []) after (rw (p.0, p.1) refl) (same ∙ p.2)
    ]
  ]
]

one_ok : (a b : ℕ) (after : List ℕ) → begins_with_digit after ≡ is_digit b → is_one a b ≡ true → is_punctuator (a ∷ []) after ≡ true
one_ok a b after same h = elim (one_says a b h) [
  | inl s ↦ free (a ∷ []) after (single_free a s)
  | inr p ↦ no_digit (a ∷ []) after (rw (p.0) refl) (same ∙ p.1)
]

not_a_digit : is_digit 0 ≡ false
unfolding is_digit
not_a_digit = refl

-- a front of so many units is a punctuator before the rest
abbrev pub IsAtFront : List ℕ → ℕ → Type 0
IsAtFront us n = is_punctuator (take n us) (drop n us) ≡ true

abbrev Fits : List ℕ → ℕ → Type 0
Fits us zero = Unit {0}
Fits us (suc n) = IsAtFront us (suc n)

pick : (us : List ℕ) (four three two one : Bool) → (four ≡ true → IsAtFront us 4) → (three ≡ true → IsAtFront us 3) → (two ≡ true → IsAtFront us 2) → (one ≡ true → IsAtFront us 1)
    → Fits us (first_len four three two one)
pick us true three two one a b c d = a refl
pick us false true two one a b c d = b refl
pick us false false true one a b c d = c refl
pick us false false false true a b c d = d refl
pick us false false false false a b c d = tt

fits : (us : List ℕ) → Fits us (punctuator_len us)
unfolding punctuator_len
fits [] = pick [] (is_four 0 0 0 0) (is_three 0 0 0) (is_two 0 0 0) (is_one 0 0)
    (λ h. absurd (four_units 0 0 0 0 h refl)) (λ h. absurd (three_units 0 0 0 h refl)) (λ h. absurd (two_units 0 0 0 h refl)) (λ h. absurd (one_unit 0 0 h refl))
fits (a ∷ []) = pick (a ∷ []) (is_four a 0 0 0) (is_three a 0 0) (is_two a 0 0) (is_one a 0)
    (λ h. absurd (four_units a 0 0 0 h refl)) (λ h. absurd (three_units a 0 0 h refl)) (λ h. absurd (two_units a 0 0 h refl)) (one_ok a 0 [] (sym not_a_digit))
fits (a ∷ b ∷ []) = pick (a ∷ b ∷ []) (is_four a b 0 0) (is_three a b 0) (is_two a b 0) (is_one a b)
    (λ h. absurd (four_units a b 0 0 h refl)) (λ h. absurd (three_units a b 0 h refl)) (two_ok a b 0 [] (sym not_a_digit)) (one_ok a b (b ∷ []) refl)
fits (a ∷ b ∷ c ∷ []) = pick (a ∷ b ∷ c ∷ []) (is_four a b c 0) (is_three a b c) (is_two a b c) (is_one a b)
    (λ h. absurd (four_units a b c 0 h refl)) (three_ok a b c []) (two_ok a b c (c ∷ []) refl) (one_ok a b (b ∷ c ∷ []) refl)
fits (a ∷ b ∷ c ∷ d ∷ us) = pick (a ∷ b ∷ c ∷ d ∷ us) (is_four a b c d) (is_three a b c) (is_two a b c) (is_one a b)
    (four_ok a b c d us) (three_ok a b c (d ∷ us)) (two_ok a b c (c ∷ d ∷ us) refl) (one_ok a b (b ∷ c ∷ d ∷ us) refl)

fits_some : (us : List ℕ) (n : ℕ) → n ≢ 0 → Fits us n → IsAtFront us n
fits_some us zero h f = absurd (h refl)
fits_some us (suc n) h f = f

-- the punctuator found is one
pub punctuator_fits : (us : List ℕ) → punctuator_len us ≢ 0 → IsAtFront us (punctuator_len us)
punctuator_fits us h = fits_some us (punctuator_len us) h (fits us)

-- ---- a punctuator of the table is found

-- what holds of each text of a list holds of one that is among them
in_list : (test : List ℕ → Bool) (us : List ℕ) (ps : List (List ℕ)) → list_any (λ p. not (test p)) ps ≡ false → is_one_of us ps ≡ true → test us ≡ true
in_list test us [] a h = cc
in_list test us (p ∷ ps) a h = go (or_true (bytes_eq us p) (is_one_of us ps) h) (in_list test us ps)
  where
    passes : (b c : Bool) → (not b || c) ≡ false → (b ≡ true) × (c ≡ false)
    passes true c k = (refl, k)
    passes false c k = cc

    go : (bytes_eq us p ≡ true) ⊎ (is_one_of us ps ≡ true) → (list_any (λ p. not (test p)) ps ≡ false → is_one_of us ps ≡ true → test us ≡ true) → test us ≡ true
    go (inl e) again = ap test ((bytes_eq-Decides us p).0 e) ∙ (passes (test p) (list_any (λ p. not (test p)) ps) a).0
    go (inr e) again = again (passes (test p) (list_any (λ p. not (test p)) ps) a).1 e

-- the tests on a text of the table, before nothing
abbrev is_known : List ℕ → Bool
is_known [] = false
is_known (a ∷ []) = is_one a 0
is_known (a ∷ b ∷ []) = is_two a b 0
is_known (a ∷ b ∷ c ∷ []) = is_three a b c
is_known (a ∷ b ∷ c ∷ d ∷ []) = is_four a b c d
is_known (a ∷ b ∷ c ∷ d ∷ e ∷ us) = false

all_known : list_any (λ p. not (is_known p)) punctuators ≡ false
unfolding is_one is_two is_three is_four is_single is_doubled is_doubled_before_equals takes_equals is_digit
all_known = refl

known : (us after : List ℕ) → is_punctuator us after ≡ true → (is_known us ≡ true) × ((is_one_of us (codes "." ∷ codes "?." ∷ []) && begins_with_digit after) ≡ false)
unfolding is_punctuator
known us after h =
    let p = and_true (is_one_of us punctuators) (not (is_one_of us (codes "." ∷ codes "?." ∷ []) && begins_with_digit after)) h in
    (in_list is_known us punctuators all_known p.0, not_true (is_one_of us (codes "." ∷ codes "?." ∷ []) && begins_with_digit after) p.1)

one_known : (a b : ℕ) (after : List ℕ) → begins_with_digit after ≡ is_digit b → is_punctuator (a ∷ []) after ≡ true → is_one a b ≡ true
unfolding is_one
one_known a b after same h =
    let k = known (a ∷ []) after h in
    elim (one_says a 0 k.0) [
      | inl s ↦ or_left (is_single a) (a == 0x2E && not (is_digit b)) s
      | inr p ↦
          let d : is_digit b ≡ false = sym same ∙ after_dot (p.0) k.1 in
          or_right (is_single a) (a == 0x2E && not (is_digit b)) (rw (p.0, d) refl)
    ]
  where
    after_dot : a ≡ 0x2E → (is_one_of (a ∷ []) (codes "." ∷ codes "?." ∷ []) && begins_with_digit after) ≡ false → begins_with_digit after ≡ false
    after_dot e f = rw e at f

two_known : (a b c : ℕ) (after : List ℕ) → begins_with_digit after ≡ is_digit c → is_punctuator (a ∷ b ∷ []) after ≡ true → is_two a b c ≡ true
unfolding is_two
two_known a b c after same h =
    let k = known (a ∷ b ∷ []) after h in
    let x = b == 0x3D && takes_equals a in
    let y = a == b && is_doubled a in
    let z = a == 0x3D && b == 0x3E in
    let w = a == 0x3F && (b == 0x2E && not (is_digit c)) in
    elim (two_says a b 0 k.0) [
      | inl p ↦ or_left x (y || (z || w)) (and_in (b == 0x3D) (takes_equals a) (is_same b 0x3D p.0) p.1)
      | inr q ↦ or_right x (y || (z || w)) (elim q [
        | inl p ↦ or_left y (z || w) (and_in (a == b) (is_doubled a) (is_same a b p.0) p.1)
        | inr r ↦ or_right y (z || w) (elim r [
          | inl p ↦ or_left z w (and_in (a == 0x3D) (b == 0x3E) (is_same a 0x3D p.0) (is_same b 0x3E p.1))
          | inr p ↦
              let d : is_digit c ≡ false = sym same ∙ after_dot p.0 p.1 k.1 in
              or_right z w (rw (p.0, p.1, d) refl)
        ])
      ])
    ]
  where
    after_dot : a ≡ 0x3F → b ≡ 0x2E → (is_one_of (a ∷ b ∷ []) (codes "." ∷ codes "?." ∷ []) && begins_with_digit after) ≡ false → begins_with_digit after ≡ false
    after_dot e f g = rw (e, f) at g

first_one : (four three two : Bool) → 1 ≤ first_len four three two true
first_one true three two = omega arith
first_one false true two = omega arith
first_one false false true = omega arith
first_one false false false = omega arith

first_two : (four three one : Bool) → 2 ≤ first_len four three true one
first_two true three one = omega arith
first_two false true one = omega arith
first_two false false one = omega arith

first_three : (four two one : Bool) → 3 ≤ first_len four true two one
first_three true two one = omega arith
first_three false two one = omega arith

digit_index : (us : List ℕ) → begins_with_digit us ≡ is_digit (slice_index us 0)
digit_index [] = sym not_a_digit
digit_index (u ∷ us) = refl

-- no punctuator at the front is longer than the one found
pub punctuator_most : (us : List ℕ) (n : ℕ) → n ≤ length us → IsAtFront us n → n ≤ punctuator_len us
unfolding punctuator_len
punctuator_most us zero l h = omega arith
punctuator_most [] (suc n) l h = absurd (omega arith)
punctuator_most (a ∷ us) (suc zero) l h =
    let b = slice_index us 0 in
    let c = slice_index us 1 in
    let d = slice_index us 2 in
    subst (λ (x : Bool). 1 ≤ first_len (is_four a b c d) (is_three a b c) (is_two a b c) x) (sym (one_known a b us (digit_index us) h))
    (first_one (is_four a b c d) (is_three a b c) (is_two a b c))
punctuator_most (a ∷ []) (suc (suc n)) l h = absurd (omega arith)
punctuator_most (a ∷ b ∷ us) (suc (suc zero)) l h =
    let c = slice_index us 0 in
    let d = slice_index us 1 in
    subst (λ (x : Bool). 2 ≤ first_len (is_four a b c d) (is_three a b c) x (is_one a b)) (sym (two_known a b c us (digit_index us) h))
    (first_two (is_four a b c d) (is_three a b c) (is_one a b))
punctuator_most (a ∷ b ∷ []) (suc (suc (suc n))) l h = absurd (omega arith)
punctuator_most (a ∷ b ∷ c ∷ us) (suc (suc (suc zero))) l h =
    let d = slice_index us 0 in
    subst (λ (x : Bool). 3 ≤ first_len (is_four a b c d) x (is_two a b c) (is_one a b)) (sym (known (a ∷ b ∷ c ∷ []) us h).0)
    (first_three (is_four a b c d) (is_two a b c) (is_one a b))
punctuator_most (a ∷ b ∷ c ∷ []) (suc (suc (suc (suc n)))) l h = absurd (omega arith)
punctuator_most (a ∷ b ∷ c ∷ d ∷ us) (suc (suc (suc (suc zero)))) l h =
    subst (λ (x : Bool). 4 ≤ first_len x (is_three a b c) (is_two a b c) (is_one a b)) (sym (known (a ∷ b ∷ c ∷ d ∷ []) us h).0) (omega arith)
punctuator_most (a ∷ b ∷ c ∷ d ∷ []) (suc (suc (suc (suc (suc n))))) l h = absurd (omega arith)
punctuator_most (a ∷ b ∷ c ∷ d ∷ e ∷ us) (suc (suc (suc (suc (suc n))))) l h =
    let k = (known (a ∷ b ∷ c ∷ d ∷ e ∷ take n us) (drop n us) h).0 in cc

-- ---- what it begins with

begins_apart : List ℕ → Bool
begins_apart [] = false
begins_apart (u ∷ us) = not (is_name_start u || is_quote u || is_digit u || u == backquote)

all_apart : list_any (λ p. not (begins_apart p)) punctuators ≡ false
unfolding begins_apart is_name_start is_quote is_digit
all_apart = refl

-- no name, no string literal, no number and no template begins so
pub punctuator_apart : (u : ℕ) (us after : List ℕ) → is_punctuator (u ∷ us) after ≡ true → (is_name_start u || is_quote u || is_digit u || u == backquote) ≡ false
unfolding is_punctuator begins_apart
punctuator_apart u us after h =
    let p = and_true (is_one_of (u ∷ us) punctuators) (not (is_one_of (u ∷ us) (codes "." ∷ codes "?." ∷ []) && begins_with_digit after)) h in
    not_true (is_name_start u || is_quote u || is_digit u || u == backquote) (in_list begins_apart (u ∷ us) punctuators all_apart p.0)

pub no_punctuator : (after : List ℕ) → is_punctuator [] after ≡ false
unfolding is_punctuator
no_punctuator after = refl

begins_ink : List ℕ → Bool
begins_ink [] = false
begins_ink (u ∷ us) = not (is_white_space u || is_line_end u)

all_ink : list_any (λ p. not (begins_ink p)) punctuators ≡ false
unfolding begins_ink is_white_space is_line_end
all_ink = refl

-- no white space and no line end begins one
pub punctuator_ink : (u : ℕ) (us after : List ℕ) → is_punctuator (u ∷ us) after ≡ true → (is_white_space u || is_line_end u) ≡ false
unfolding is_punctuator begins_ink
punctuator_ink u us after h =
    let p = and_true (is_one_of (u ∷ us) punctuators) (not (is_one_of (u ∷ us) (codes "." ∷ codes "?." ∷ []) && begins_with_digit after)) h in
    not_true (is_white_space u || is_line_end u) (in_list begins_ink (u ∷ us) punctuators all_ink p.0)
