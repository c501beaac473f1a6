-- The power of two numbers.
use Rattle.std.specs.Prelude.{ℤ, pos, negsuc, ◌+◌, Bool, ◌||◌, if◌then◌else◌, Option, None, Some, Ok, Err}
use Rattle.std.specs.Ordering.{int_eq}
use Rattle.std.specs.Int.{int_pow}
use Rattle.sr_num.specs.declared.stop.NumStop.TheVariants.{Fraction, Infinite}
use Rattle.sr_num.specs.Integer.{Outcome, checked}
use Rattle.sr_num.specs.Arithmetic.{is_zero}

abbrev pub is_unit : ℤ → Bool
is_unit z = int_eq z (pos 1) || int_eq z (negsuc 0)

-- a to the power e, where `negsuc n` is the negative number -(n + 1): a to that power is 1 divided by the power to n + 1,
-- which is infinite for 0, an integer for 1 and -1, which are their own inverses, and else a fraction
abbrev pub integer_power : ℤ → ℤ → Outcome
integer_power a (pos n) = checked (int_pow a n)
integer_power a (negsuc n) =
    if is_zero a then Err Infinite
    else if is_unit a then checked (int_pow a (n + 1))
    else Err Fraction

-- 6.1.6.1.3 Number::exponentiate: NaN raised to 0 is 1 too
unfoldable pub power : Option ℤ → Option ℤ → Outcome
power x None = Ok None
power None (Some e) = if is_zero e then Ok (Some (pos 1)) else Ok None
power (Some a) (Some e) = integer_power a e
