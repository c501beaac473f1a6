-- The operations of ECMA-262 6.1.6.1 on the numbers of the profile: the exact result, or the stop that says why it is none.
-- An operand that is NaN makes the result NaN.
use Rattle.std.specs.Prelude.{ℤ, pos, neg_ℤ, ◌+ℤ◌, ◌-ℤ◌, ◌*ℤ◌, int_div, int_rem, Bool, ◌&&◌, ◌||◌, if◌then◌else◌, Option, None, Some, Ok, Err}
use Rattle.std.specs.Ordering.{int_eq}
use Rattle.std.specs.Int.{is_negative}
use Rattle.sr_num.specs.declared.stop.NumStop.TheVariants.{NegativeZero, Fraction, Infinite}
use Rattle.sr_num.specs.Integer.{Outcome, checked}

abbrev pub is_zero : ℤ → Bool
is_zero z = int_eq z (pos 0)

-- the operation on two integers, and NaN where an operand is NaN
abbrev pub on_integers : (ℤ → ℤ → Outcome) → Option ℤ → Option ℤ → Outcome
on_integers of None y = Ok None
on_integers of (Some a) None = Ok None
on_integers of (Some a) (Some b) = of a b

-- 6.1.6.1.7 Number::add
unfoldable pub sum : Option ℤ → Option ℤ → Outcome
sum x y = on_integers (λ a b. checked (a +ℤ b)) x y

-- 6.1.6.1.8 Number::subtract
unfoldable pub difference : Option ℤ → Option ℤ → Outcome
difference x y = on_integers (λ a b. checked (a -ℤ b)) x y

-- 6.1.6.1.4 Number::multiply: 0 times a negative is -0, on either side
abbrev pub is_zero_by_negative : ℤ → ℤ → Bool
is_zero_by_negative a b = is_zero a && is_negative b

abbrev pub integer_product : ℤ → ℤ → Outcome
integer_product a b =
    if is_zero_by_negative a b || is_zero_by_negative b a then Err NegativeZero
    else checked (a *ℤ b)

unfoldable pub product : Option ℤ → Option ℤ → Outcome
product x y = on_integers integer_product x y

-- 6.1.6.1.5 Number::divide: 0 divided by 0 is NaN, another integer divided by 0 is infinite, and 0 divided by a negative is -0
abbrev pub integer_quotient : ℤ → ℤ → Outcome
integer_quotient a b =
    if is_zero b then (if is_zero a then Ok None else Err Infinite)
    else if is_zero_by_negative a b then Err NegativeZero
    else if is_zero (int_rem a b) then checked (int_div a b)
    else Err Fraction

unfoldable pub quotient : Option ℤ → Option ℤ → Outcome
quotient x y = on_integers integer_quotient x y

-- 6.1.6.1.6 Number::remainder: it has the sign of the dividend, a zero remainder too, and by 0 it is NaN
abbrev pub integer_remainder : ℤ → ℤ → Outcome
integer_remainder a b =
    if is_zero b then Ok None
    else if is_negative a && is_zero (int_rem a b) then Err NegativeZero
    else checked (int_rem a b)

unfoldable pub remainder : Option ℤ → Option ℤ → Outcome
remainder x y = on_integers integer_remainder x y

-- 6.1.6.1.1 Number::unaryMinus: minus 0 is -0
unfoldable pub negation : Option ℤ → Outcome
negation None = Ok None
negation (Some a) = if is_zero a then Err NegativeZero else checked (neg_ℤ a)
