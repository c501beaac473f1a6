-- The number of a child in decimal, as `parse` reads it.
use Rattle.std.proofs.Common.{◌≡◌, ℕ, zero, suc, ◌<◌, ◌≤◌, true, List, [], ◌∷◌, refl, sym, ap, ◌∙◌, subst, arith, slice_index, Ok, Err, Result}
use Rattle.std.specs.Fmt.{decimal}
use Rattle.std.specs.Int.{is_in_range}
use Rattle.std.specs.Str.{IsUtf8}
use Rattle.std.specs.Str.Parse.{AllDigits, ParsesUnsigned, digits_value}
use Rattle.std.proofs.lemmas.Bool.Decides.{nat_tests}
use Rattle.std.proofs.lemmas.Fmt.{decimal_is_IsNumeral, first_decimal, parse-decimal, decimal-digits_value, decimal_digit, IsAscii-decimal}
use Rattle.std.proofs.lemmas.Str.{IsUtf8-from_ascii}
use Rattle.std.proofs.lemmas.Str.Parse.{digit_at, IsNumeralModel, parse_plain}
use Rattle.sr_tag.specs.Path.{IsChildNumber}

-- its first digit is not 0
pub first_in_range : (digits : List ℕ) (n : ℕ) → IsChildNumber n → digits ≡ decimal n → is_in_range 49 57 (slice_index digits 0) ≡ true
first_in_range digits n p same =
    let above : 48 < slice_index digits 0 = rw same (first_decimal n (omega arith) (omega arith)) in
    let numeral = decimal_is_IsNumeral n (omega arith) in
    let within = digit_at (decimal n) 0 numeral.0.1 numeral.0.0 in
    let below : slice_index digits 0 ≤ 57 = rw same within.1 in
    grind (arith, nat_tests)

pub IsUtf8-child_number : (digits : List ℕ) (n : ℕ) → IsChildNumber n → digits ≡ decimal n → IsUtf8 digits
IsUtf8-child_number digits n p same = IsUtf8-from_ascii digits (rw same (IsAscii-decimal n (omega arith)))

own : IsNumeralModel (AllDigits 10) (digits_value 10)
own = record { to = λ ds p. p; from = λ ds p. p; same = λ ds p. refl }

pub parsed_is_child_number : {E : Type 0} (digits : List ℕ) (n : ℕ) (r : Result ℕ E) → is_in_range 49 57 (slice_index digits 0) ≡ true → ParsesUnsigned 32 10 digits r → r ≡ Ok n → IsChildNumber n × (digits ≡ decimal n)
parsed_is_child_number {E} digits n r first parses ok =
    let above : 48 < slice_index digits 0 = grind (arith, nat_tests) in
    let parts = subst (λ s. ParsesUnsigned 32 10 digits s) ok parses in
    let plain = parse_plain own {E = E} 32 digits (Ok n) parts (omega arith) in
    let same : digits ≡ decimal n =
    sym (decimal-digits_value own digits plain.0.0 plain.0.1 (λ zero_first. absurd (omega arith)) (omega (arith, plain.0.2)))
    ∙ ap decimal (sym plain.1)
    in
    (record { from = some n same above; to = omega (arith, plain.0.2, plain.1) }, same)
  where
    some : (n : ℕ) → digits ≡ decimal n → 48 < slice_index digits 0 → 1 ≤ n
    some zero same above =
        let zero_digit : digits ≡ 48 ∷ [] = same ∙ decimal_digit 0 (omega arith) in
        let first_digit : slice_index digits 0 ≡ 48 = rw zero_digit refl in
        absurd (omega arith)
    some (suc n) same above = omega arith

pub unparsed_is_no_child_number : {E : Type 0} (digits : List ℕ) (n : ℕ) (r : Result ℕ E) (e : E) → ParsesUnsigned 32 10 digits r → r ≡ Err e → IsChildNumber n → digits ≡ decimal n → ⊥
unparsed_is_no_child_number digits n r e parses err p same =
    let ok = parse-decimal 32 n digits r (omega arith) (omega arith) same parses in
    cc
