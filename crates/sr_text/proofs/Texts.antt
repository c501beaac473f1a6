-- The code units of a text, character by character.
use Rattle.std.proofs.Common.{◌≡◌, ℕ, List, [], ◌∷◌, ◌+◌, ◌<◌, ◌≤◌, ◌++◌, length, IsUtf8, sym, ap, ◌∙◌, subst, arith, append_assoc, append-nil, length-append, inl, inr}
use Rattle.std.specs.Str.{chars}
use Rattle.std.specs.Char.Escape.{encode_utf16}
use Rattle.std.proofs.Math.Utf8.{encode, encodes}
use Rattle.std.proofs.str.Utf16.{one_unit, two_units}
use Rattle.std.proofs.lemmas.Bool.{cases_lt}
use Rattle.std.proofs.lemmas.Str.{chars_past_char, IsUtf8-past_char, chars-nil, encodes-chars, length-encode, len_utf8_bounds}
use Rattle.std.proofs.lemmas.Bool.Decides.{nat_tests}
use Rattle.sr_text.specs.Encoding.{utf16_of}

-- a text has no more code units than bytes
length-encode_utf16 : (point : ℕ) → length (encode_utf16 point) ≤ length (encode point)
length-encode_utf16 point = elim (cases_lt point 0x10000) [
  | inl single ↦ rw (one_unit point single, length-encode point) (omega (arith, len_utf8_bounds point))
  | inr double ↦ rw (two_units point double, length-encode point) (grind (arith, nat_tests))
]

length-utf16_of : (points : List ℕ) → length (utf16_of points) ≤ length (encodes points)
length-utf16_of [] = omega arith
length-utf16_of (point ∷ points) =
    rw (length-append (encode_utf16 point) (utf16_of points), length-append (encode point) (encodes points))
    (omega (arith, length-encode_utf16 point, length-utf16_of points))

pub units_within_bytes : (text : List ℕ) → IsUtf8 text → length (utf16_of (chars text)) ≤ length text
units_within_bytes text utf8 = subst (λ (bytes : List ℕ). length (utf16_of (chars text)) ≤ length bytes) (encodes-chars text utf8) (length-utf16_of (chars text))

-- the next character's code units stand first
pub utf16_past_char : (rest after : List ℕ) (c : ℕ) → IsUtf8 rest → rest ≡ encode c ++ after
    → utf16_of (chars rest) ≡ encode_utf16 c ++ utf16_of (chars after)
utf16_past_char rest after c utf8 e = ap utf16_of (chars_past_char rest after c utf8 e)

-- the code units so far, and those of the rest, are those of the text
pub record IsReadTo (text rest units : List ℕ) : Type 0 where
  pub text_left : IsUtf8 rest
  pub spelled : units ++ utf16_of (chars rest) ≡ utf16_of (chars text)

pub read_further : (text rest after units more : List ℕ) (c : ℕ) → IsReadTo text rest units → rest ≡ encode c ++ after → more ≡ encode_utf16 c
    → IsReadTo text after (units ++ more)
read_further text rest after units more c so e m = record {
  text_left = IsUtf8-past_char rest after c so.text_left e;
  spelled = rw m (append_assoc units _ _ ∙ ap (λ t. units ++ t) (sym (utf16_past_char rest after c so.text_left e)) ∙ so.spelled);
}

pub all_read : (text rest units : List ℕ) → IsReadTo text rest units → length rest ≡ 0 → units ≡ utf16_of (chars text)
all_read text [] units so e = sym (append-nil units) ∙ rw chars-nil at so.spelled
all_read text (b ∷ rest) units so e = absurd (omega arith)

-- and how many there are
pub record IsCountedTo (text rest : List ℕ) (len : ℕ) : Type 0 where
  pub text_left : IsUtf8 rest
  pub counted : len + length (utf16_of (chars rest)) ≡ length (utf16_of (chars text))

pub counted_further : (text rest after : List ℕ) (len more c : ℕ) → IsCountedTo text rest len → rest ≡ encode c ++ after
    → more ≡ length (encode_utf16 c) → IsCountedTo text after (len + more)
counted_further text rest after len more c so e m =
    let past : length (utf16_of (chars rest)) ≡ length (encode_utf16 c) + length (utf16_of (chars after)) =
    ap length (utf16_past_char rest after c so.text_left e) ∙ length-append (encode_utf16 c) (utf16_of (chars after)) in
    let counted = so.counted in
    record { text_left = IsUtf8-past_char rest after c so.text_left e; counted = omega arith }

pub all_counted : (text rest : List ℕ) (len : ℕ) → IsCountedTo text rest len → length rest ≡ 0 → len ≡ length (utf16_of (chars text))
all_counted text [] len so e = let counted = rw chars-nil at so.counted in omega arith
all_counted text (b ∷ rest) len so e = absurd (omega arith)

pub length-of_char : (c units : ℕ) → (c < 0x10000 → units ≡ 1) → (0x10000 ≤ c → units ≡ 2) → units ≡ length (encode_utf16 c)
length-of_char c units single double = elim (cases_lt c 0x10000) [
  | inl low ↦ rw (one_unit c low) (single low)
  | inr high ↦ rw (two_units c high) (double high)
]
