-- The definitions of the operators, and the cut of them that the code follows.
use Rattle.std.proofs.Common.{◌≡◌, Bool, true, false, ◌||◌, refl, sym, ◌∙◌, Option, Ok}
use Rattle.std.specs.Prelude.{ℤ}
use Rattle.sr_num.specs.Integer as numbers
use Rattle.sr_num.specs.Arithmetic.{sum, difference, product, quotient, remainder}
use Rattle.sr_num.specs.Power.{power}
use Rattle.sr_num.specs.Bits.{bitwise_and, bitwise_or, bitwise_xor, left_shift, signed_right_shift, unsigned_right_shift}
use Rattle.sr_ast.specs.declared.operators.BinaryOp.{BinaryOp}
use Rattle.sr_ast.specs.declared.operators.BinaryOp.TheVariants as op
use Rattle.sr_model.specs.Values.{Undefined, Null, Truth, Num, Str, Sym, Value, Simple, Object}
use Rattle.sr_conv.specs.Computed.{Computed, Is, Stops, Fails, and_then, counted}
use Rattle.sr_conv.specs.Operators.{Operated, operated, gives_number, to_numeric, numeric, added, operate}
use Rattle.sr_conv.specs.Comparison.{is_less_than, is_less_than_right}
use Rattle.sr_conv.specs.Steps.{both_numbers, arithmetic, is_string, joined}

-- no object is made a primitive, and so the order in which this is tried tells nothing
pub less_right : (x y : Value) → is_less_than_right x y ≡ is_less_than x y
less_right (Simple p) (Simple q) = refl
less_right (Simple p) (Object n) = refl
less_right (Object m) (Simple q) = refl
less_right (Object m) (Object n) = refl

-- two numbers, and then an operation
abbrev then_numbers : (Option ℤ → Option ℤ → numbers.Outcome) → Option ℤ × Option ℤ → Operated
then_numbers f pair = gives_number (counted (f pair.0 pair.1))

pub after_both : (f : Option ℤ → Option ℤ → numbers.Outcome) (x y : Value) → operated (both_numbers x y) (then_numbers f) ≡ numeric f x y
after_both f x y = go (to_numeric x) (to_numeric y)
  where
    go : (m n : Computed (Option ℤ))
        → operated (and_then m (λ a. and_then n (λ b. let pair : Option ℤ × Option ℤ = (a, b) in Is pair))) (then_numbers f)
        ≡ gives_number (and_then m (λ a. and_then n (λ b. counted (f a b))))
    go (Is a) (Is b) = refl
    go (Is a) (Stops stop) = refl
    go (Is a) Fails = refl
    go (Stops stop) n = refl
    go Fails n = refl

-- where one is a string, both are joined
pub added_text : (x y : Value) → (is_string x || is_string y) ≡ true → added x y ≡ joined x y
added_text (Simple (Str s)) (Simple (Str t)) h = refl
added_text (Simple (Str s)) (Simple Undefined) h = refl
added_text (Simple (Str s)) (Simple Null) h = refl
added_text (Simple (Str s)) (Simple (Truth b)) h = refl
added_text (Simple (Str s)) (Simple (Num n)) h = refl
added_text (Simple (Str s)) (Simple (Sym n)) h = refl
added_text (Simple (Str s)) (Object n) h = refl
added_text (Simple Undefined) (Simple (Str t)) h = refl
added_text (Simple Null) (Simple (Str t)) h = refl
added_text (Simple (Truth b)) (Simple (Str t)) h = refl
added_text (Simple (Num n)) (Simple (Str t)) h = refl
added_text (Simple (Sym n)) (Simple (Str t)) h = refl
added_text (Object n) (Simple (Str t)) h = refl
added_text x y h = cc

-- and where none is, both are added: of values that are no strings none stops, so an object rejects in either order
added_plain : (x y : Value) → (is_string x || is_string y) ≡ false → added x y ≡ numeric sum x y
added_plain (Simple (Str s)) y h = cc
added_plain (Simple Undefined) (Simple (Str s)) h = cc
added_plain (Simple Null) (Simple (Str s)) h = cc
added_plain (Simple (Truth b)) (Simple (Str s)) h = cc
added_plain (Simple (Num n)) (Simple (Str s)) h = cc
added_plain (Simple (Sym n)) (Simple (Str s)) h = cc
added_plain (Object n) (Simple (Str s)) h = cc
added_plain x y h = refl

pub added_numbers : (x y : Value) → (is_string x || is_string y) ≡ false → added x y ≡ arithmetic op.Add x y
added_numbers x y h = added_plain x y h ∙ sym (after_both sum x y)

-- ---- the operators of arithmetic and of bits

abbrev pub is_of_numbers : BinaryOp → Bool
is_of_numbers op.Power = true
is_of_numbers op.Multiply = true
is_of_numbers op.Divide = true
is_of_numbers op.Remainder = true
is_of_numbers op.Subtract = true
is_of_numbers op.ShiftLeft = true
is_of_numbers op.ShiftRight = true
is_of_numbers op.ShiftRightUnsigned = true
is_of_numbers op.And = true
is_of_numbers op.Xor = true
is_of_numbers op.Or = true
is_of_numbers _ = false

pub arithmetic_is : (o : BinaryOp) (x y : Value) → is_of_numbers o ≡ true → arithmetic o x y ≡ operate o x y
unfolding operate
arithmetic_is op.Power x y h = after_both power x y
arithmetic_is op.Multiply x y h = after_both product x y
arithmetic_is op.Divide x y h = after_both quotient x y
arithmetic_is op.Remainder x y h = after_both remainder x y
arithmetic_is op.Subtract x y h = after_both difference x y
arithmetic_is op.ShiftLeft x y h = after_both (λ m n. Ok (left_shift m n)) x y
arithmetic_is op.ShiftRight x y h = after_both (λ m n. Ok (signed_right_shift m n)) x y
arithmetic_is op.ShiftRightUnsigned x y h = after_both (λ m n. Ok (unsigned_right_shift m n)) x y
arithmetic_is op.And x y h = after_both (λ m n. Ok (bitwise_and m n)) x y
arithmetic_is op.Xor x y h = after_both (λ m n. Ok (bitwise_xor m n)) x y
arithmetic_is op.Or x y h = after_both (λ m n. Ok (bitwise_or m n)) x y
arithmetic_is _ x y h = cc
