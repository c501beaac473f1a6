-- The punctuator at the front is the longest of the table.
use Rattle.std.proofs.Common.{◌≡◌, ℕ, zero, suc, ◌≤◌, ◌<◌, ◌≢◌, Bool, true, false, ◌||◌, ◌&&◌, List, [], ◌∷◌, length, refl, ap, ◌∙◌, arith, ◌⊎◌, inl, inr}
use Rattle.std.specs.Prelude.{not, ◌==◌, if◌then◌else◌, slice_index, nat_eq, codes}
use Rattle.std.specs.List.{list_any}
use Rattle.sr_lex.specs.Units.{is_digit}
use Rattle.sr_lex.specs.Scan.{is_among, is_single, takes_equals, is_doubled, is_doubled_before_equals, is_four, is_three, is_two, is_one, first_len, punctuator_len}
use Rattle.sr_lex.proofs.Truth.{or_true, and_true, not_true, same_number, both_ways}

-- what holds of each unit of a list holds of one that is among them
pub among : (test : ℕ → Bool) (u : ℕ) (us : List ℕ) → list_any (λ p. not (test p)) us ≡ false → is_among us u ≡ true → test u ≡ true
among test u [] a h = cc
among test u (p ∷ ps) a h = go (or_true (nat_eq u p) (is_among ps u) h) (among test u ps)
  where
    passes : (b c : Bool) → (not b || c) ≡ false → (b ≡ true) × (c ≡ false)
    passes true c k = (refl, k)
    passes false c k = cc

    go : (nat_eq u p ≡ true) ⊎ (is_among ps u ≡ true) → (list_any (λ p. not (test p)) ps ≡ false → is_among ps u ≡ true → test u ≡ true) → test u ≡ true
    go (inl e) again = ap test (same_number u p e) ∙ (passes (test p) (list_any (λ p. not (test p)) ps) a).0
    go (inr e) again = again (passes (test p) (list_any (λ p. not (test p)) ps) a).1 e

-- a unit that is one of a list of others than 0 is not 0
nonzero : (u : ℕ) (us : List ℕ) → is_among us 0 ≡ false → is_among us u ≡ true → u ≢ 0
nonzero u us z h e = both_ways (is_among us u) h (ap (is_among us) e ∙ z)

-- what each test says of the units
pub four_says : (a b c d : ℕ) → is_four a b c d ≡ true → (a ≡ 0x3E) × (b ≡ 0x3E) × (c ≡ 0x3E) × (d ≡ 0x3D)
unfolding is_four
four_says a b c d h =
    let p = and_true (a == 0x3E) (b == 0x3E && (c == 0x3E && d == 0x3D)) h in
    let q = and_true (b == 0x3E) (c == 0x3E && d == 0x3D) p.1 in
    let r = and_true (c == 0x3E) (d == 0x3D) q.1 in
    (same_number a 0x3E p.0, same_number b 0x3E q.0, same_number c 0x3E r.0, same_number d 0x3D r.1)

abbrev ThreeSays : ℕ → ℕ → ℕ → Type 0
ThreeSays a b c =
    ((c ≡ 0x3D) × (a ≡ b) × (is_doubled_before_equals a ≡ true))
    ⊎ (((c ≡ 0x3D) × (b ≡ 0x3D) × ((a ≡ 0x3D) ⊎ (a ≡ 0x21))) ⊎ ((a ≡ b) × (b ≡ c) × ((a ≡ 0x2E) ⊎ (a ≡ 0x3E))))

either : (a m n : ℕ) → (a == m || a == n) ≡ true → (a ≡ m) ⊎ (a ≡ n)
either a m n h = elim (or_true (a == m) (a == n) h) [ inl e ↦ inl (same_number a m e) | inr e ↦ inr (same_number a n e) ]

pub three_says : (a b c : ℕ) → is_three a b c ≡ true → ThreeSays a b c
unfolding is_three
three_says a b c h = go (c == 0x3D) refl h
  where
    go : (t : Bool) → (c == 0x3D) ≡ t
        → (if t then (a == b && is_doubled_before_equals a) || (b == 0x3D && (a == 0x3D || a == 0x21)) else a == b && (b == c && (a == 0x2E || a == 0x3E))) ≡ true
        → ThreeSays a b c
    go true e h =
        let is : c ≡ 0x3D = same_number c 0x3D e in
        elim (or_true (a == b && is_doubled_before_equals a) (b == 0x3D && (a == 0x3D || a == 0x21)) h) [
          | inl k ↦ let p = and_true (a == b) (is_doubled_before_equals a) k in inl (is, same_number a b p.0, p.1)
          | inr k ↦ let p = and_true (b == 0x3D) (a == 0x3D || a == 0x21) k in inr (inl (is, same_number b 0x3D p.0, either a 0x3D 0x21 p.1))
        ]
    go false e h =
        let p = and_true (a == b) (b == c && (a == 0x2E || a == 0x3E)) h in
        let q = and_true (b == c) (a == 0x2E || a == 0x3E) p.1 in
        inr (inr (same_number a b p.0, same_number b c q.0, either a 0x2E 0x3E q.1))

abbrev TwoSays : ℕ → ℕ → ℕ → Type 0
TwoSays a b c =
    ((b ≡ 0x3D) × (takes_equals a ≡ true))
    ⊎ (((a ≡ b) × (is_doubled a ≡ true)) ⊎ (((a ≡ 0x3D) × (b ≡ 0x3E)) ⊎ ((a ≡ 0x3F) × (b ≡ 0x2E) × (is_digit c ≡ false))))

pub two_says : (a b c : ℕ) → is_two a b c ≡ true → TwoSays a b c
unfolding is_two
two_says a b c h =
    elim (or_true (b == 0x3D && takes_equals a) _ h) [
      | inl k ↦ let p = and_true (b == 0x3D) (takes_equals a) k in inl (same_number b 0x3D p.0, p.1)
      | inr k ↦ elim (or_true (a == b && is_doubled a) _ k) [
        | inl k ↦ let p = and_true (a == b) (is_doubled a) k in inr (inl (same_number a b p.0, p.1))
        | inr k ↦ elim (or_true (a == 0x3D && b == 0x3E) (a == 0x3F && (b == 0x2E && not (is_digit c))) k) [
          | inl k ↦ let p = and_true (a == 0x3D) (b == 0x3E) k in inr (inr (inl (same_number a 0x3D p.0, same_number b 0x3E p.1)))
          | inr k ↦
              let p = and_true (a == 0x3F) (b == 0x2E && not (is_digit c)) k in
              let q = and_true (b == 0x2E) (not (is_digit c)) p.1 in
              inr (inr (inr (same_number a 0x3F p.0, same_number b 0x2E q.0, not_true (is_digit c) q.1)))
        ]
      ]
    ]

pub one_says : (a b : ℕ) → is_one a b ≡ true → (is_single a ≡ true) ⊎ ((a ≡ 0x2E) × (is_digit b ≡ false))
unfolding is_one
one_says a b h = elim (or_true (is_single a) (a == 0x2E && not (is_digit b)) h) [
  | inl k ↦ inl k
  | inr k ↦ let p = and_true (a == 0x2E) (not (is_digit b)) k in inr (same_number a 0x2E p.0, not_true (is_digit b) p.1)
]

-- a punctuator has no unit 0
single_unit : (u : ℕ) → is_single u ≡ true → u ≢ 0
unfolding is_single
single_unit u h = nonzero u (codes "{}()[];,<>+-*/%&|^!~?:=") refl h

doubled_unit : (u : ℕ) → is_doubled u ≡ true → u ≢ 0
unfolding is_doubled
doubled_unit u h = nonzero u (codes "+-*<>&|?") refl h

pub four_units : (a b c d : ℕ) → is_four a b c d ≡ true → d ≢ 0
four_units a b c d h = let p = (four_says a b c d h).3 in λ e. absurd (omega arith)

pub three_units : (a b c : ℕ) → is_three a b c ≡ true → c ≢ 0
three_units a b c h = λ e. elim (three_says a b c h) [
  | inl p ↦ absurd (omega arith)
  | inr q ↦ elim q [
    | inl p ↦ absurd (omega arith)
    | inr p ↦ elim p.2 [ inl r ↦ absurd (omega arith) | inr r ↦ absurd (omega arith) ]
  ]
]

pub two_units : (a b c : ℕ) → is_two a b c ≡ true → b ≢ 0
two_units a b c h = λ e. elim (two_says a b c h) [
  | inl p ↦ absurd (omega arith)
  | inr q ↦ elim q [
    | inl p ↦ doubled_unit a p.1 (p.0 ∙ e)
    | inr r ↦ elim r [ inl p ↦ absurd (omega arith) | inr p ↦ absurd (omega arith) ]
  ]
]

pub one_unit : (a b : ℕ) → is_one a b ≡ true → a ≢ 0
one_unit a b h = λ e. elim (one_says a b h) [ inl k ↦ single_unit a k e | inr p ↦ absurd (omega arith) ]

-- so it lies within the units
reaches : (us : List ℕ) (k : ℕ) → slice_index us k ≢ 0 → k < length us
reaches [] zero h = absurd (h refl)
reaches [] (suc k) h = absurd (h refl)
reaches (u ∷ us) zero h = omega arith
reaches (u ∷ us) (suc k) h = let i = reaches us k h in omega arith

first_within : (four three two one : Bool) (n : ℕ) → (four ≡ true → 3 < n) → (three ≡ true → 2 < n) → (two ≡ true → 1 < n) → (one ≡ true → 0 < n)
    → first_len four three two one ≤ n
first_within true three two one n a b c d = a refl
first_within false true two one n a b c d = b refl
first_within false false true one n a b c d = c refl
first_within false false false true n a b c d = d refl
first_within false false false false n a b c d = omega arith

pub punctuator_within : (us : List ℕ) → punctuator_len us ≤ length us
unfolding punctuator_len
punctuator_within us =
    let a = slice_index us 0 in
    let b = slice_index us 1 in
    let c = slice_index us 2 in
    let d = slice_index us 3 in
    first_within (is_four a b c d) (is_three a b c) (is_two a b c) (is_one a b) (length us)
    (λ h. reaches us 3 (four_units a b c d h)) (λ h. reaches us 2 (three_units a b c h)) (λ h. reaches us 1 (two_units a b c h)) (λ h. reaches us 0 (one_unit a b h))
