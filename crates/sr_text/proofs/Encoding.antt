-- What code units are encoded as: well-formed sequences, and the very bytes that they were decoded from.
use Rattle.std.proofs.Common.{◌≡◌, ℕ, List, [], ◌∷◌, ◌+◌, ◌-◌, ◌/◌, ◌%◌, ◌<◌, ◌≤◌, ◌++◌, ◌⊎◌, inl, inr, true, refl, ap, ◌∙◌, arith}
use Rattle.std.specs.Option.{unwrap_or}
use Rattle.std.specs.List.{AllByRecursion}
use Rattle.std.specs.Char.Escape.{encode_utf16}
use Rattle.std.specs.Char.Utf16.{surrogate_pair_char, lone_unit_char}
use Rattle.std.proofs.Math.Utf8.{encodes, scalar, scalars, scalar_cases, low_scalar}
use Rattle.std.proofs.str.Utf16.{IsPair, one_unit, two_units, lone_unit_char_low, lone_unit_char_high, lone_unit_char_surrogate}
use Rattle.std.proofs.lemmas.Bool.{and_parts, and_from, cases_lt}
use Rattle.std.proofs.lemmas.Bool.Decides.{nat_tests}
use Rattle.std.proofs.lemmas.List.Elements.{recursion_from_All}
use Rattle.std.proofs.lemmas.Str.{utf16_chars_lone, utf16_chars_pair, utf16_chars-nil}
use Rattle.sr_text.specs.Utf8.{Decodes, IsUtf8Of}
use Rattle.sr_text.specs.Text.{IsText}
use Rattle.sr_text.specs.Encoding.{utf16_of, points_of, utf8_of}
use Rattle.sr_text.proofs.Decoding.{text_of_utf8, utf8_of_scalars}
use Rattle.sr_text.proofs.Sequences.{is_scalar}

points_of_lone : (u : ℕ) (units : List ℕ) → (u < 0xD800) ⊎ (0xE000 ≤ u) → points_of (u ∷ units) ≡ u ∷ points_of units
points_of_lone u units (inl low) = rw (utf16_chars_lone u units (λ pair. absurd (omega arith)), lone_unit_char_low u low)
points_of_lone u units (inr high) = rw (utf16_chars_lone u units (λ pair. absurd (omega arith)), lone_unit_char_high u high)

points_of_pair : (u v : ℕ) (units : List ℕ) → IsPair u v → points_of (u ∷ v ∷ units) ≡ surrogate_pair_char u v ∷ points_of units
points_of_pair u v units pair = rw (utf16_chars_pair u v units pair)

points_of_one : (point : ℕ) (units : List ℕ) → scalar point ≡ true → points_of (encode_utf16 point ++ units) ≡ point ∷ points_of units
points_of_one point units s = elim (cases_lt point 0x10000) [
  | inl single ↦ rw (one_unit point single) (points_of_lone point units (elim (scalar_cases point s) [ inl low ↦ inl low | inr high ↦ inr high.0 ]))
  | inr double ↦
      let below : point < 0x110000 = elim (scalar_cases point s) [ inl low ↦ omega arith | inr high ↦ high.1 ] in
      let u = 0xD800 + (point - 0x10000) / 0x400 in
      let v = 0xDC00 + (point - 0x10000) % 0x400 in
      let same : surrogate_pair_char u v ≡ point = omega arith in
      rw (two_units point double) (points_of_pair u v units (omega arith, omega arith, omega arith, omega arith) ∙ ap (λ p. p ∷ points_of units) same)
]

-- the code points of the code units of scalar values are these
pub points_of-utf16_of : (points : List ℕ) → scalars points ≡ true → points_of (utf16_of points) ≡ points
points_of-utf16_of [] s = rw utf16_chars-nil
points_of-utf16_of (point ∷ points) s =
    let parts = and_parts (scalar point) (scalars points) s in
    points_of_one point (utf16_of points) parts.0 ∙ ap (λ ps. point ∷ ps) (points_of-utf16_of points parts.1)

-- encoding what was decoded gives the bytes back
pub utf8_of_decoded : (bytes units : List ℕ) → Decodes bytes units → utf8_of units ≡ bytes
utf8_of_decoded bytes units decodes =
    let text = text_of_utf8 bytes decodes.points decodes.utf8 in
    ap utf8_of decodes.spelled ∙ ap encodes (points_of-utf16_of decodes.points text.scalar) ∙ text.encoded

-- ---- each code point of code units is a scalar value, so that what they are encoded as is UTF-8 by the table

abbrev lone_point : ℕ → ℕ
lone_point u = unwrap_or (lone_unit_char u) 0xFFFD

scalar-lone : (u : ℕ) → u < 65536 → scalar (lone_point u) ≡ true
scalar-lone u fits = elim (cases_lt u 0xD800) [
  | inl low ↦ rw (lone_unit_char_low u low) (low_scalar u low)
  | inr from ↦ elim (cases_lt u 0xE000) [
    | inl surrogate ↦ rw (lone_unit_char_surrogate u from surrogate)
    | inr high ↦ rw (lone_unit_char_high u high) (grind (arith, nat_tests))
  ]
]

cases_pair : (u v : ℕ) → IsPair u v ⊎ (IsPair u v → ⊥)
cases_pair u v = elim (cases_lt u 0xD800) [
  | inl low ↦ inr (λ pair. absurd (omega arith))
  | inr a ↦ elim (cases_lt u 0xDC00) [
    | inr high ↦ inr (λ pair. absurd (omega arith))
    | inl b ↦ elim (cases_lt v 0xDC00) [
      | inl low ↦ inr (λ pair. absurd (omega arith))
      | inr c ↦ elim (cases_lt v 0xE000) [
        | inr high ↦ inr (λ pair. absurd (omega arith))
        | inl d ↦ inl (a, b, c, d)
      ]
    ]
  ]
]

pub scalars-points_of : (units : List ℕ) → AllByRecursion (λ u. u < 65536) units → scalars (points_of units) ≡ true
scalars-points_of [] all = rw utf16_chars-nil
scalars-points_of (u ∷ []) all =
    rw (utf16_chars_lone u [] (λ pair. absurd (omega arith)), utf16_chars-nil) (and_from (scalar (lone_point u)) true (scalar-lone u all.0) refl)
scalars-points_of (u ∷ v ∷ units) all = elim (cases_pair u v) [
  | inl pair ↦ rw (utf16_chars_pair u v units pair)
      (and_from (scalar (surrogate_pair_char u v)) (scalars (points_of units)) (is_scalar (surrogate_pair_char u v) (inr (omega arith, omega arith))) (scalars-points_of units all.1.1))
  | inr apart ↦ rw (utf16_chars_lone u (v ∷ units) apart)
      (and_from (scalar (lone_point u)) (scalars (points_of (v ∷ units))) (scalar-lone u all.0) (scalars-points_of (v ∷ units) all.1))
]

pub utf8_of_text : (units : List ℕ) → IsText units → IsUtf8Of (utf8_of units) (points_of units)
utf8_of_text units text = utf8_of_scalars (points_of units) (scalars-points_of units (recursion_from_All (λ u. u < 65536) units text.range))
