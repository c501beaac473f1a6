-- The operators of ECMA-262 13 on values.
use Rattle.std.specs.Prelude.{ℤ, pos, Bool, true, false, not, ◌||◌, Option, None, Some, Ok}
use Rattle.sr_num.specs.Integer as numbers
use Rattle.sr_num.specs.Arithmetic.{sum, difference, product, quotient, remainder, negation}
use Rattle.sr_num.specs.Power.{power}
use Rattle.sr_num.specs.Bits.{bitwise_and, bitwise_or, bitwise_xor, bitwise_not, left_shift, signed_right_shift, unsigned_right_shift}
use Rattle.sr_ast.specs.declared.operators.BinaryOp.{BinaryOp}
use Rattle.sr_ast.specs.declared.operators.BinaryOp.TheVariants as op
use Rattle.sr_ast.specs.declared.operators.UnaryOp.{UnaryOp}
use Rattle.sr_ast.specs.declared.operators.UnaryOp.TheVariants as unary
use Rattle.sr_ast.specs.declared.operators.UpdateOp.{UpdateOp}
use Rattle.sr_ast.specs.declared.operators.UpdateOp.TheVariants as update
use Rattle.sr_model.specs.Values.{Text, Primitive, Undefined, Truth, Num, Str, Value, Simple}
use Rattle.sr_model.specs.Outcomes.{Stop}
use Rattle.sr_conv.specs.Computed.{Computed, Is, Stops, Fails, and_then, counted}
use Rattle.sr_conv.specs.Conversions.{to_primitive, number_of, text_of, to_boolean, type_word}
use Rattle.sr_conv.specs.Comparison.{is_less_than, is_less_than_right, is_strictly_equal, is_loosely_equal}

-- what an operator comes to
pub data Operated : Type 0 where
  Gives : Value → Operated
  Joins : Text → Text → Operated  -- the string of both texts, which is still to be made
  Halts : Stop → Operated  -- a listed stop
  Rejects : Operated  -- a TypeError is thrown

-- what is given for a computation
abbrev pub operated : {A : Type 0} → Computed A → (A → Operated) → Operated
operated (Is x) go = go x
operated (Stops stop) go = Halts stop
operated Fails go = Rejects

-- a number as the value of an expression
abbrev pub gives_number : Computed (Option ℤ) → Operated
gives_number m = operated m (λ n. Gives (Simple (Num n)))

-- a truth value as the value of an expression
abbrev pub gives_truth : Bool → Operated
gives_truth b = Gives (Simple (Truth b))

-- 7.1.3 ToNumeric: there are no other numeric values than numbers
abbrev pub to_numeric : Value → Computed (Option ℤ)
to_numeric x = and_then (to_primitive x) number_of

-- 13.15.3, for all operators but `+`: both operands are made numbers, the left one first
abbrev pub numeric : (Option ℤ → Option ℤ → numbers.Outcome) → Value → Value → Operated
numeric f x y = gives_number (and_then (to_numeric x) (λ m. and_then (to_numeric y) (λ n. counted (f m n))))

-- the same for an operation that never stops
abbrev pub bitwise : (Option ℤ → Option ℤ → Option ℤ) → Value → Value → Operated
bitwise f x y = numeric (λ m n. Ok (f m n)) x y

-- whether a primitive is a string
abbrev pub is_text : Primitive → Bool
is_text (Str text) = true
is_text p = false

-- 13.15.3, for `+`, of primitives: where either is a string both are joined as strings, else they are added as numbers
abbrev pub plus : Bool → Primitive → Primitive → Operated
plus true p q = operated (text_of p) (λ s. operated (text_of q) (λ t. Joins s t))
plus false p q = gives_number (and_then (number_of p) (λ m. and_then (number_of q) (λ n. counted (sum m n))))

-- both operands are made primitives, the left one first
abbrev pub added : Value → Value → Operated
added x y = operated (to_primitive x) (λ p. operated (to_primitive y) (λ q. plus (is_text p || is_text q) p q))

-- 13.10.1: a comparison with NaN does not hold
abbrev pub holds : Option Bool → Operated
holds None = gives_truth false
holds (Some b) = gives_truth b

-- and `<=` and `>=` hold where the opposite comparison is told and does not
abbrev pub fails : Option Bool → Operated
fails None = gives_truth false
fails (Some b) = gives_truth (not b)

-- an operator between two values. `in` and `instanceof` throw a TypeError where the right operand is no object (13.10.1,
-- 13.10.2). With an object they ask for its properties and methods, which no operation on values does: they are not built, and no
-- row of an expression applies them
unfoldable pub operate : BinaryOp → Value → Value → Operated
operate op.Power x y = numeric power x y
operate op.Multiply x y = numeric product x y
operate op.Divide x y = numeric quotient x y
operate op.Remainder x y = numeric remainder x y
operate op.Add x y = added x y
operate op.Subtract x y = numeric difference x y
operate op.ShiftLeft x y = bitwise left_shift x y
operate op.ShiftRight x y = bitwise signed_right_shift x y
operate op.ShiftRightUnsigned x y = bitwise unsigned_right_shift x y
operate op.Less x y = operated (is_less_than x y) holds
operate op.Greater x y = operated (is_less_than_right y x) holds
operate op.LessOrEqual x y = operated (is_less_than_right y x) fails
operate op.GreaterOrEqual x y = operated (is_less_than x y) fails
operate op.InstanceOf x y = Rejects
operate op.In x y = Rejects
operate op.Equal x y = operated (is_loosely_equal x y) gives_truth
operate op.NotEqual x y = operated (is_loosely_equal x y) (λ b. gives_truth (not b))
operate op.StrictEqual x y = gives_truth (is_strictly_equal x y)
operate op.StrictNotEqual x y = gives_truth (not (is_strictly_equal x y))
operate op.And x y = bitwise bitwise_and x y
operate op.Xor x y = bitwise bitwise_xor x y
operate op.Or x y = bitwise bitwise_or x y

-- 13.5: an operator before a value. `typeof` and `void` convert nothing; `delete` of what is no reference is true (13.5.1.2)
unfoldable pub operate_one : UnaryOp → Value → Operated
operate_one unary.Delete x = gives_truth true
operate_one unary.Void x = Gives (Simple Undefined)
operate_one unary.Typeof x = Gives (Simple (Str (type_word x)))
operate_one unary.Plus x = gives_number (to_numeric x)
operate_one unary.Minus x = gives_number (and_then (to_numeric x) (λ n. counted (negation n)))
operate_one unary.BitNot x = gives_number (and_then (to_numeric x) (λ n. Is (bitwise_not n)))
operate_one unary.Not x = gives_truth (not (to_boolean x))

-- 13.4: the number after `++` or `--`
abbrev pub stepped : UpdateOp → Option ℤ → numbers.Outcome
stepped update.PreIncrement n = sum n (Some (pos 1))
stepped update.PostIncrement n = sum n (Some (pos 1))
stepped update.PreDecrement n = difference n (Some (pos 1))
stepped update.PostDecrement n = difference n (Some (pos 1))

-- the value of the expression, by the numbers before and after it
abbrev pub shown : UpdateOp → Option ℤ → Option ℤ → Option ℤ
shown update.PreIncrement before after = after
shown update.PreDecrement before after = after
shown update.PostIncrement before after = before
shown update.PostDecrement before after = before

-- the numbers before and after `++` or `--`
pub record Stepped : Type 0 where
  pub before : Option ℤ
  pub after : Option ℤ

-- 13.4: the old value is made a number, and 1 is added or taken off
unfoldable pub step_number : UpdateOp → Value → Computed Stepped
step_number u x = and_then (to_numeric x) (λ m. and_then (counted (stepped u m)) (λ n. Is (record { before = m; after = n })))
