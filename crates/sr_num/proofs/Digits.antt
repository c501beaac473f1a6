-- The value of digits, kept from growing past a bound.
use Rattle.std.proofs.Common.{◌≡◌, ℕ, ◌+◌, ◌*◌, ◌<◌, ◌≤◌, inl, inr, min, arith, refl, List, take, length, get_or, ap, ◌∙◌, sym}
use Rattle.std.specs.Char.{digit_value}
use Rattle.std.specs.Str.Parse.{digits_value}
use Rattle.std.proofs.lemmas.Bool.{cases_lt}
use Rattle.std.proofs.lemmas.Nat.{mul-le}
use Rattle.std.proofs.lemmas.Int.Digits.{digits_value_more}

min-step : (x b d m : ℕ) → 1 ≤ b → min (min x m * b + d) m ≡ min (x * b + d) m
min-step x b d m some =
    elim (cases_lt x m) [
      | inl below ↦ let here : min x m ≡ x = omega arith in rw here refl
      | inr above ↦
          let here : min x m ≡ m = omega arith in
          rw here (omega (arith, mul-le m 1 m b (omega arith) some, mul-le m b x b above (omega arith)))
    ]

-- one digit more
pub capped_more : (base bound : ℕ) (digits : List ℕ) (i value : ℕ) → 1 ≤ base → i < length digits → value ≡ min (digits_value base (take i digits)) bound → min (value * base + digit_value (get_or digits i 0)) bound ≡ min (digits_value base (take (i + 1) digits)) bound
capped_more base bound digits i value some within e =
    ap (λ v. min (v * base + digit_value (get_or digits i 0)) bound) e
    ∙ min-step (digits_value base (take i digits)) base (digit_value (get_or digits i 0)) bound some
    ∙ ap (λ v. min v bound) (sym (digits_value_more base digits i within))
