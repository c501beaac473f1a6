-- The numbers of the profile: NaN, here `None`, and the integers of at most 2^53 - 1 in absolute value.
use Rattle.std.specs.Prelude.{ℤ, pos, neg_ℤ, int_le, Bool, ◌&&◌, if◌then◌else◌, IsTrue, Option, None, Some, Result, Ok, Err}
use Rattle.sr_num.specs.declared.stop.NumStop.{NumStop}
use Rattle.sr_num.specs.declared.stop.NumStop.TheVariants.{Unsafe}

-- what an operation on numbers comes to: a number, or the stop of a result that the profile lacks
abbrev pub Outcome : Type 0
Outcome = Result (Option ℤ) NumStop

-- Number.MAX_SAFE_INTEGER, which is 2^53 - 1 (ECMA-262 21.1.2.6)
abbrev pub max_safe : ℤ
max_safe = pos 9007199254740991

abbrev pub is_safe : ℤ → Bool
is_safe z = int_le (neg_ℤ max_safe) z && int_le z max_safe

abbrev pub IsSafe : ℤ → Type 0
IsSafe z = IsTrue (is_safe z)

-- NaN, or an integer in the range
abbrev pub IsNumber : Option ℤ → Type 0
IsNumber None = Unit {0}
IsNumber (Some z) = IsSafe z

-- the integer that is the exact result, where it is in the range
abbrev pub checked : ℤ → Outcome
checked z = if is_safe z then Ok (Some z) else Err Unsafe
