-- Integers as text.
use Rattle.std.specs.Prelude.{◌≡◌, ◌≢◌, ℕ, ◌<◌, ◌≤◌, slice_index, zero, suc, ℤ, pos, negsuc, List, [], ◌∷◌, map}
use Rattle.std.specs.Char.{digit_char}
use Rattle.std.specs.Str.Parse.{AllDigits, digits_value}
use Rattle.std.specs.Int.Digits.{digits_of}

-- The digits of a number in a radix, the highest first: `0` to `9`, then `a` to `z`.
abbrev pub digits_in : ℕ → ℕ → List ℕ
digits_in radix n = map digit_char (digits_of radix n)

-- a number as Number::toString writes it (ECMA-262 6.1.6.1.20): its digits, or `0`
abbrev pub numeral_of : ℕ → ℕ → List ℕ
numeral_of zero radix = 48 ∷ []
numeral_of (suc n) radix = digits_in radix (suc n)

-- an integer: with `-` before it where it is negative
abbrev pub signed_numeral_of : ℤ → ℕ → List ℕ
signed_numeral_of (pos n) radix = numeral_of n radix
signed_numeral_of (negsuc n) radix = 45 ∷ digits_in radix (suc n)

-- the number is an array index (ECMA-262 6.1.7) and the code units are its decimal numeral
pub record IsIndexKey (units : List ℕ) (n : ℕ) : Type 0 where
  pub within : n ≤ 4294967294
  pub numeral : units ≡ numeral_of n 10

-- digits of this radix alone, which are worth this number, and no `0` before another digit
pub record IsNumeral (units : List ℕ) (n radix : ℕ) : Type 0 where
  pub digits : AllDigits radix units
  pub value : digits_value radix units ≡ n
  pub first : 0 < n → slice_index units 0 ≢ 48
