-- The comparisons of ECMA-262 7.2.
pub use Rattle.sr_model.specs.Sameness.{same_truth, same_description, same_symbol}
use Rattle.std.specs.Prelude.{ℤ, Bool, true, false, ◌&&◌, nat_eq, Option, None, Some}
use Rattle.std.specs.Ordering.{nat_cmp, int_cmp, int_eq, is_lt}
use Rattle.std.specs.Cmp.Lexicographic.{slice_cmp}
use Rattle.sr_model.specs.Values.{Text, same, Symbol, WellKnown, Registered, Made, Primitive, Undefined, Null, Truth, Num, Str, Sym, Value, Simple, Object}
use Rattle.sr_conv.specs.Computed.{Computed, Is, and_then}
use Rattle.sr_conv.specs.Conversions.{to_primitive, number_of, truth_number}

-- 6.1.6.1.13 Number::equal: NaN is not equal to itself
abbrev pub numbers_equal : Option ℤ → Option ℤ → Bool
numbers_equal None y = false
numbers_equal (Some a) None = false
numbers_equal (Some a) (Some b) = int_eq a b

-- 6.1.6.1.12 Number::lessThan: none where an operand is NaN
abbrev pub number_less : Option ℤ → Option ℤ → Option Bool
number_less None y = None
number_less (Some a) None = None
number_less (Some a) (Some b) = Some (is_lt (int_cmp a b))

-- whether a text comes before another, by code units
abbrev pub text_less : Text → Text → Bool
text_less s t = is_lt (slice_cmp nat_cmp s t)

-- the comparison of two numbers, the first converted first
abbrev pub less_as_numbers : Primitive → Primitive → Computed (Option Bool)
less_as_numbers p q = and_then (number_of p) (λ m. and_then (number_of q) (λ n. Is (number_less m n)))

-- 7.2.13 IsLessThan, of primitives: two strings by their code units, all others as numbers
abbrev pub primitive_less : Primitive → Primitive → Computed (Option Bool)
primitive_less (Str s) (Str t) = Is (Some (text_less s t))
primitive_less p q = less_as_numbers p q

-- 7.2.13 IsLessThan, where the left operand of the operator comes first
abbrev pub is_less_than : Value → Value → Computed (Option Bool)
is_less_than x y = and_then (to_primitive x) (λ p. and_then (to_primitive y) (λ q. primitive_less p q))

-- and where the right operand x comes second: it is made a primitive after y
abbrev pub is_less_than_right : Value → Value → Computed (Option Bool)
is_less_than_right x y = and_then (to_primitive y) (λ q. and_then (to_primitive x) (λ p. primitive_less p q))

-- 7.2.15 IsStrictlyEqual, of primitives
abbrev pub strictly_equal_primitives : Primitive → Primitive → Bool
strictly_equal_primitives Undefined Undefined = true
strictly_equal_primitives Null Null = true
strictly_equal_primitives (Truth b) (Truth c) = same_truth b c
strictly_equal_primitives (Num m) (Num n) = numbers_equal m n
strictly_equal_primitives (Str s) (Str t) = same s t
strictly_equal_primitives (Sym a) (Sym b) = same_symbol a b
strictly_equal_primitives p q = false

-- 7.2.15 IsStrictlyEqual
abbrev pub is_strictly_equal : Value → Value → Bool
is_strictly_equal (Simple p) (Simple q) = strictly_equal_primitives p q
is_strictly_equal (Object m) (Object n) = nat_eq m n
is_strictly_equal x y = false

-- 7.2.14 IsLooselyEqual, of primitives that are no truth values: undefined and null are equal, and a string beside a number is a number
abbrev pub loosely_equal_plain : Primitive → Primitive → Computed Bool
loosely_equal_plain Undefined Null = Is true
loosely_equal_plain Null Undefined = Is true
loosely_equal_plain (Num m) (Str t) = and_then (number_of (Str t)) (λ n. Is (numbers_equal m n))
loosely_equal_plain (Str s) (Num n) = and_then (number_of (Str s)) (λ m. Is (numbers_equal m n))
loosely_equal_plain p q = Is (strictly_equal_primitives p q)

-- a truth value beside another primitive is its number
abbrev pub as_number : Primitive → Primitive
as_number (Truth b) = Num (truth_number b)
as_number Undefined = Undefined
as_number Null = Null
as_number (Num n) = Num n
as_number (Str s) = Str s
as_number (Sym s) = Sym s

-- 7.2.14 IsLooselyEqual, of primitives. Of two truth values the numbers tell the same
abbrev pub loosely_equal_primitives : Primitive → Primitive → Computed Bool
loosely_equal_primitives p q = loosely_equal_plain (as_number p) (as_number q)

-- an object beside a primitive: undefined and null are not equal to it, and else it is made a primitive
abbrev pub equals_object : Value → Primitive → Computed Bool
equals_object x Undefined = Is false
equals_object x Null = Is false
equals_object x p = and_then (to_primitive x) (λ q. loosely_equal_primitives q p)

-- 7.2.14 IsLooselyEqual
abbrev pub is_loosely_equal : Value → Value → Computed Bool
is_loosely_equal (Simple p) (Simple q) = loosely_equal_primitives p q
is_loosely_equal (Object m) (Object n) = Is (nat_eq m n)
is_loosely_equal (Simple p) (Object n) = equals_object (Object n) p
is_loosely_equal (Object m) (Simple q) = equals_object (Object m) q
