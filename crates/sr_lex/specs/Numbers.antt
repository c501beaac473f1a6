-- Number literals and their values (ECMA-262 12.9.3), of the forms that the profile has: integers in decimal, and in base 2,
-- 8 or 16 behind `0b`, `0o` or `0x`.
use Rattle.std.specs.Prelude.{◌≡◌, ◌≢◌, ℕ, ℤ, pos, ◌<◌, Bool, false, not, ◌&&◌, ◌||◌, ◌==◌, List, [], ◌∷◌, Option, Some, is_some}
use Rattle.std.specs.Char.{digit_value}
use Rattle.std.specs.Str.Parse.{digits_value}
use Rattle.sr_num.specs.Integer.{IsSafe}
use Rattle.sr_num.specs.StringToNumber.{base_of_letter, named_base}
use Rattle.sr_lex.specs.Units.{is_name_part}

-- the digit 0, and `_`, which separates digits
abbrev pub digit_zero : ℕ
digit_zero = 0x30

abbrev pub separator : ℕ
separator = 0x5F

-- a digit of the base: 0 to 9, and A to F or a to f
abbrev pub IsDigitOf : ℕ → ℕ → Type 0
IsDigitOf base u = digit_value u < base

-- Digits of a base, between two of which one separator may stand, and the same without separators.
pub data Digits (base : ℕ) : List ℕ → List ℕ → Type 0 where
  last : {d : ℕ} → IsDigitOf base d → Digits base (d ∷ []) (d ∷ [])
  digit : {d : ℕ} {us ds : List ℕ} → IsDigitOf base d → Digits base us ds → Digits base (d ∷ us) (d ∷ ds)
  separated : {d : ℕ} {us ds : List ℕ}
      → IsDigitOf base d → Digits base us ds → Digits base (d ∷ separator ∷ us) (d ∷ ds)

-- A number literal and its value, which is at most 2^53 - 1: `0` alone, digits of which the first is not 0, or 0, the letter
-- of a base and digits of that base.
pub data NumberLiteral : List ℕ → Option ℤ → Type 0 where
  nought : NumberLiteral (digit_zero ∷ []) (Some (pos 0))
  decimal : {d : ℕ} {us ds : List ℕ}
      → d ≢ digit_zero → Digits 10 (d ∷ us) ds → IsSafe (pos (digits_value 10 ds))
      → NumberLiteral (d ∷ us) (Some (pos (digits_value 10 ds)))
  in_base : {letter base : ℕ} {us ds : List ℕ}
      → base_of_letter letter ≡ Some base → Digits base us ds → IsSafe (pos (digits_value base ds))
      → NumberLiteral (digit_zero ∷ letter ∷ us) (Some (pos (digits_value base ds)))

-- the units are a number literal
abbrev pub IsNumber : List ℕ → Type 0
IsNumber us = (value : Option ℤ) × NumberLiteral us value

-- the first of the units is one of a name
abbrev pub begins_with_name_part : List ℕ → Bool
begins_with_name_part [] = false
begins_with_name_part (u ∷ us) = is_name_part u

-- the first of the units is `.`
abbrev pub begins_with_full_stop : List ℕ → Bool
begins_with_full_stop [] = false
begins_with_full_stop (u ∷ us) = u == 0x2E

-- whether a number literal may end before these units: none of a name follows, and no full stop where it names no base
unfoldable pub may_end : List ℕ → List ℕ → Bool
may_end us after = not (begins_with_name_part after) && (is_some (named_base us) || not (begins_with_full_stop after))
