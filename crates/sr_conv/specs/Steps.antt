-- What the private functions of the code come to: the definitions of Operators, cut as the code is.
use Rattle.std.specs.Prelude.{ℤ, Bool, true, false, Option, Ok}
use Rattle.sr_num.specs.Integer as numbers
use Rattle.sr_num.specs.Arithmetic.{sum, difference, product, quotient, remainder}
use Rattle.sr_num.specs.Power.{power}
use Rattle.sr_num.specs.Bits.{bitwise_and, bitwise_or, bitwise_xor, left_shift, signed_right_shift, unsigned_right_shift}
use Rattle.sr_ast.specs.declared.operators.BinaryOp.{BinaryOp}
use Rattle.sr_ast.specs.declared.operators.BinaryOp.TheVariants as op
use Rattle.sr_model.specs.Values.{Str, Value, Simple}
use Rattle.sr_conv.specs.Computed.{Computed, Is, and_then, counted}
use Rattle.sr_conv.specs.Conversions.{to_text}
use Rattle.sr_conv.specs.Comparison.{number_less, numbers_equal}
use Rattle.sr_conv.specs.Operators.{Operated, Joins, operated, gives_number, to_numeric}

-- what an operator makes of two numbers, where it is one of arithmetic or of bits; the sum for all others
abbrev pub of_numbers : BinaryOp → Option ℤ → Option ℤ → numbers.Outcome
of_numbers op.Power m n = power m n
of_numbers op.Multiply m n = product m n
of_numbers op.Divide m n = quotient m n
of_numbers op.Remainder m n = remainder m n
of_numbers op.Subtract m n = difference m n
of_numbers op.ShiftLeft m n = Ok (left_shift m n)
of_numbers op.ShiftRight m n = Ok (signed_right_shift m n)
of_numbers op.ShiftRightUnsigned m n = Ok (unsigned_right_shift m n)
of_numbers op.And m n = Ok (bitwise_and m n)
of_numbers op.Xor m n = Ok (bitwise_xor m n)
of_numbers op.Or m n = Ok (bitwise_or m n)
of_numbers _ m n = sum m n

-- both values as numbers, the left one first
abbrev pub both_numbers : Value → Value → Computed (Option ℤ × Option ℤ)
both_numbers x y = and_then (to_numeric x) (λ m. and_then (to_numeric y) (λ n. Is (m, n)))

-- what such an operator makes of two values
abbrev pub arithmetic : BinaryOp → Value → Value → Operated
arithmetic o x y = operated (both_numbers x y) (λ pair. gives_number (counted (of_numbers o pair.0 pair.1)))

-- whether a value is a string
abbrev pub is_string : Value → Bool
is_string (Simple (Str text)) = true
is_string x = false

-- both values as strings, the left one first, which are to be joined
abbrev pub joined : Value → Value → Operated
joined x y = operated (to_text x) (λ s. operated (to_text y) (λ t. Joins s t))

-- the comparison of both values as numbers
abbrev pub less_as_numbers : Value → Value → Computed (Option Bool)
less_as_numbers x y = and_then (both_numbers x y) (λ pair. Is (number_less pair.0 pair.1))

-- and the equality
abbrev pub equal_as_numbers : Value → Value → Computed Bool
equal_as_numbers x y = and_then (both_numbers x y) (λ pair. Is (numbers_equal pair.0 pair.1))
