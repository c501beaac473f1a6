-- A row of the table has exactly what std encodes a scalar value as.
use Rattle.std.proofs.Common.{◌≡◌, ℕ, List, [], ◌∷◌, ◌+◌, ◌/◌, ◌%◌, ◌<◌, ◌≤◌, true, ◌⊎◌, inl, inr, refl, ◌∙◌, arith}
use Rattle.std.specs.Int.{IsInRange}
use lib.Utf8.{encode, scalar, scalar_cases}
use Rattle.std.proofs.lemmas.Bool.{lt-ltb, le-ltb, cases_lt}
use Rattle.std.proofs.lemmas.Bool.Decides.{nat_tests}
use Rattle.sr_text.specs.Utf8.{IsSequence, of_two, of_three, of_four}
use Rattle.sr_text.specs.Utf8.{from_0, from_80, from_800, from_1000, from_d000, from_e000, from_10000, from_40000, from_100000}

-- what a code point of each length is encoded as
encode_one : (p : ℕ) → p < 0x80 → encode p ≡ p ∷ []
unfolding encode
encode_one p h = rw (lt-ltb p 0x80 h)

encode_two : (p : ℕ) → IsInRange 0x80 0x7FF p → encode p ≡ (192 + p / 64) ∷ (128 + p % 64) ∷ []
unfolding encode
encode_two p h = rw (le-ltb p 0x80 h.0, lt-ltb p 0x800 (omega arith))

encode_three : (p : ℕ) → IsInRange 0x800 0xFFFF p → encode p ≡ (224 + p / 4096) ∷ (128 + p / 64 % 64) ∷ (128 + p % 64) ∷ []
unfolding encode
encode_three p h = rw (le-ltb p 0x80 (omega arith), le-ltb p 0x800 h.0, lt-ltb p 0x10000 (omega arith))

encode_four : (p : ℕ) → 0x10000 ≤ p → encode p ≡ (240 + p / 262144) ∷ (128 + p / 4096 % 64) ∷ (128 + p / 64 % 64) ∷ (128 + p % 64) ∷ []
unfolding encode
encode_four p h = rw (le-ltb p 0x80 (omega arith), le-ltb p 0x800 (omega arith), le-ltb p 0x10000 h)

-- a number in these ranges is a scalar value
pub is_scalar : (p : ℕ) → (p < 0xD800) ⊎ IsInRange 0xE000 0x10FFFF p → scalar p ≡ true
is_scalar p (inl h) = grind (arith, nat_tests)
is_scalar p (inr h) = grind (arith, nat_tests)

-- a sequence of the table is the encoding of its code point, which is a scalar value
pub record IsEncoding (sequence : List ℕ) (point : ℕ) : Type 0 where
  pub scalar : scalar point ≡ true
  pub encoded : encode point ≡ sequence

two : (a b : ℕ) → IsInRange 0xC2 0xDF a → IsInRange 0x80 0xBF b → IsEncoding (a ∷ b ∷ []) (of_two a b)
two a b ha hb =
    let first : 192 + of_two a b / 64 ≡ a = omega arith in
    let second : 128 + of_two a b % 64 ≡ b = omega arith in
    record { scalar = is_scalar (of_two a b) (inl (omega arith)); encoded = encode_two (of_two a b) (omega arith, omega arith) ∙ cc (first, second) }

three : (a b c : ℕ) → IsInRange 0xE0 0xEF a → IsInRange 0x80 0xBF b → IsInRange 0x80 0xBF c
    → 0x800 ≤ of_three a b c → (of_three a b c < 0xD800) ⊎ IsInRange 0xE000 0x10FFFF (of_three a b c)
    → IsEncoding (a ∷ b ∷ c ∷ []) (of_three a b c)
three a b c ha hb hc long fits =
    let first : 224 + of_three a b c / 4096 ≡ a = omega arith in
    let second : 128 + of_three a b c / 64 % 64 ≡ b = omega arith in
    let third : 128 + of_three a b c % 64 ≡ c = omega arith in
    record { scalar = is_scalar (of_three a b c) fits; encoded = encode_three (of_three a b c) (long, omega arith) ∙ cc (first, second, third) }

four : (a b c d : ℕ) → IsInRange 0xF0 0xF4 a → IsInRange 0x80 0xBF b → IsInRange 0x80 0xBF c → IsInRange 0x80 0xBF d
    → IsInRange 0x10000 0x10FFFF (of_four a b c d) → IsEncoding (a ∷ b ∷ c ∷ d ∷ []) (of_four a b c d)
four a b c d ha hb hc hd fits =
    let first : 240 + of_four a b c d / 262144 ≡ a = omega arith in
    let second : 128 + of_four a b c d / 4096 % 64 ≡ b = omega arith in
    let third : 128 + of_four a b c d / 64 % 64 ≡ c = omega arith in
    let fourth : 128 + of_four a b c d % 64 ≡ d = omega arith in
    record { scalar = is_scalar (of_four a b c d) (inr (omega arith, omega arith)); encoded = encode_four (of_four a b c d) fits.0 ∙ cc (first, second, third, fourth) }

pub encoding_of_sequence : (sequence : List ℕ) (point : ℕ) → IsSequence sequence point → IsEncoding sequence point
encoding_of_sequence sequence point (from_0 {a = a} h) = record { scalar = is_scalar a (inl (omega arith)); encoded = encode_one a (omega arith) }
encoding_of_sequence sequence point (from_80 {a = a} {b = b} ha hb) = two a b ha hb
encoding_of_sequence sequence point (from_800 {a = a} {b = b} {c = c} ha hb hc) = three a b c (omega arith, omega arith) (omega arith, hb.1) hc (omega arith) (inl (omega arith))
encoding_of_sequence sequence point (from_1000 {a = a} {b = b} {c = c} ha hb hc) = three a b c (omega arith, omega arith) hb hc (omega arith) (inl (omega arith))
encoding_of_sequence sequence point (from_d000 {a = a} {b = b} {c = c} ha hb hc) = three a b c (omega arith, omega arith) (hb.0, omega arith) hc (omega arith) (inl (omega arith))
encoding_of_sequence sequence point (from_e000 {a = a} {b = b} {c = c} ha hb hc) = three a b c (omega arith, ha.1) hb hc (omega arith) (inr (omega arith, omega arith))
encoding_of_sequence sequence point (from_10000 {a = a} {b = b} {c = c} {d = d} ha hb hc hd) = four a b c d (ha.0, omega arith) (omega arith, hb.1) hc hd (omega arith, omega arith)
encoding_of_sequence sequence point (from_40000 {a = a} {b = b} {c = c} {d = d} ha hb hc hd) = four a b c d (omega arith, omega arith) hb hc hd (omega arith, omega arith)
encoding_of_sequence sequence point (from_100000 {a = a} {b = b} {c = c} {d = d} ha hb hc hd) = four a b c d (omega arith, ha.1) (hb.0, omega arith) hc hd (omega arith, omega arith)

-- and each scalar value has a row: at these bytes, whose code point it is
sequence_at : (sequence : List ℕ) (p q : ℕ) → IsSequence sequence q → q ≡ p → encode p ≡ sequence → IsSequence (encode p) p
sequence_at sequence p q s same encoded = rw (encoded, ← same) s

row_of_one : (p : ℕ) → p < 0x80 → IsSequence (encode p) p
row_of_one p h = sequence_at _ p p (from_0 (omega arith, omega arith)) refl (encode_one p h)

row_of_two : (p : ℕ) → IsInRange 0x80 0x7FF p → IsSequence (encode p) p
row_of_two p h =
    sequence_at _ p (of_two (192 + p / 64) (128 + p % 64)) (from_80 (omega arith, omega arith) (omega arith, omega arith)) (omega arith) (encode_two p h)

row_of_three : (p : ℕ) → (p < 0xD800) ⊎ IsInRange 0xE000 0x10FFFF p → IsInRange 0x800 0xFFFF p → IsSequence (encode p) p
row_of_three p scalar h = sequence_at _ p (of_three (224 + p / 4096) (128 + p / 64 % 64) (128 + p % 64)) (row scalar) (omega arith) (encode_three p h) where
  row : (p < 0xD800) ⊎ IsInRange 0xE000 0x10FFFF p
      → IsSequence ((224 + p / 4096) ∷ (128 + p / 64 % 64) ∷ (128 + p % 64) ∷ []) (of_three (224 + p / 4096) (128 + p / 64 % 64) (128 + p % 64))
  row (inr high) = from_e000 (omega arith, omega arith) (omega arith, omega arith) (omega arith, omega arith)
  row (inl low) = elim (cases_lt p 0x1000) [
    | inl below ↦ from_800 (omega arith, omega arith) (omega arith, omega arith) (omega arith, omega arith)
    | inr above ↦ elim (cases_lt p 0xD000) [
      | inl below ↦ from_1000 (omega arith, omega arith) (omega arith, omega arith) (omega arith, omega arith)
      | inr above ↦ from_d000 (omega arith, omega arith) (omega arith, omega arith) (omega arith, omega arith)
    ]
  ]

row_of_four : (p : ℕ) → IsInRange 0x10000 0x10FFFF p → IsSequence (encode p) p
row_of_four p h = sequence_at _ p (of_four (240 + p / 262144) (128 + p / 4096 % 64) (128 + p / 64 % 64) (128 + p % 64)) row (omega arith) (encode_four p h.0) where
  row : IsSequence ((240 + p / 262144) ∷ (128 + p / 4096 % 64) ∷ (128 + p / 64 % 64) ∷ (128 + p % 64) ∷ [])
      (of_four (240 + p / 262144) (128 + p / 4096 % 64) (128 + p / 64 % 64) (128 + p % 64))
  row = elim (cases_lt p 0x40000) [
    | inl below ↦ from_10000 (omega arith, omega arith) (omega arith, omega arith) (omega arith, omega arith) (omega arith, omega arith)
    | inr above ↦ elim (cases_lt p 0x100000) [
      | inl below ↦ from_40000 (omega arith, omega arith) (omega arith, omega arith) (omega arith, omega arith) (omega arith, omega arith)
      | inr above ↦ from_100000 (omega arith, omega arith) (omega arith, omega arith) (omega arith, omega arith) (omega arith, omega arith)
    ]
  ]

pub sequence_of_scalar : (point : ℕ) → scalar point ≡ true → IsSequence (encode point) point
sequence_of_scalar p e = elim (cases_lt p 0x80) [
  | inl one ↦ row_of_one p one
  | inr more ↦ elim (cases_lt p 0x800) [
    | inl two ↦ row_of_two p (more, omega arith)
    | inr more ↦ elim (cases_lt p 0x10000) [
      | inl three ↦ row_of_three p (ranges p e) (more, omega arith)
      | inr four ↦ row_of_four p (four, last p (ranges p e) four)
    ]
  ]
] where
  ranges : (p : ℕ) → scalar p ≡ true → (p < 0xD800) ⊎ IsInRange 0xE000 0x10FFFF p
  ranges p e = elim (scalar_cases p e) [ inl low ↦ inl low | inr high ↦ inr (high.0, omega arith) ]

  last : (p : ℕ) → (p < 0xD800) ⊎ IsInRange 0xE000 0x10FFFF p → 0x10000 ≤ p → p ≤ 0x10FFFF
  last p r four = omega arith
