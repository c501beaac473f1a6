-- The equalities of ECMA-262 7.2 on values, which are seen as plain data: a string is its code units, a number is NaN or an
-- integer, an object is its reference, and a made symbol is the path of its maker, its number there and its description.
use Rattle.std.specs.Prelude.{◌≡◌, ◌≢◌, None}
use Rattle.sr_value.specs.declared.value.Value.{Value}
use Rattle.sr_value.specs.declared.value.Value.TheVariants.{Num}

-- SameValue: both are one value; NaN is one with NaN
abbrev pub IsSameValue : Value → Value → Type 0
IsSameValue x y = x ≡ y

-- SameValueZero: it holds of two zeros of different signs as well, and there is one zero
abbrev pub IsSameValueZero : Value → Value → Type 0
IsSameValueZero x y = x ≡ y

-- IsStrictlyEqual: both are one value, and by Number::equal (6.1.6.1.13) NaN is not equal to itself
abbrev pub IsStrictlyEqual : Value → Value → Type 0
IsStrictlyEqual x y = (x ≡ y) × (x ≢ Num None)
