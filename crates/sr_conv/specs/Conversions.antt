-- The conversions of ECMA-262 7.1 on primitives. What is no primitive is made one before, by ToPrimitive (7.1.1), which throws a
-- TypeError of an object that has no method for it: so it is with every object, until objects have methods.
use Rattle.std.specs.Prelude.{ℤ, pos, Bool, true, false, not, [], ◌∷◌, Option, None, Some, codes}
use Rattle.sr_num.specs.Arithmetic.{is_zero}
use Rattle.sr_num.specs.StringToNumber.{string_to_number}
use Rattle.sr_text.specs.Numerals.{signed_numeral_of}
use Rattle.sr_model.specs.Values.{Text, Primitive, Undefined, Null, Truth, Num, Str, Sym, Value, Simple, Object}
use Rattle.sr_conv.specs.Computed.{Computed, Is, Fails, counted}

-- 7.1.1 ToPrimitive
abbrev pub to_primitive : Value → Computed Primitive
to_primitive (Simple p) = Is p
to_primitive (Object n) = Fails

-- 7.1.2 ToBoolean, of a primitive
abbrev pub is_true : Primitive → Bool
is_true Undefined = false
is_true Null = false
is_true (Truth b) = b
is_true (Num None) = false
is_true (Num (Some z)) = not (is_zero z)
is_true (Str []) = false
is_true (Str (u ∷ us)) = true
is_true (Sym s) = true

-- of a value
abbrev pub to_boolean : Value → Bool
to_boolean (Simple p) = is_true p
to_boolean (Object n) = true

-- the number of a truth value
abbrev pub truth_number : Bool → Option ℤ
truth_number true = Some (pos 1)
truth_number false = Some (pos 0)

-- 7.1.4 ToNumber, of a primitive
abbrev pub number_of : Primitive → Computed (Option ℤ)
number_of Undefined = Is None
number_of Null = Is (Some (pos 0))
number_of (Truth b) = Is (truth_number b)
number_of (Num n) = Is n
number_of (Str text) = counted (string_to_number text)
number_of (Sym s) = Fails

-- 6.1.6.1.20 Number::toString, with the radix 10
abbrev pub number_text : Option ℤ → Text
number_text None = codes "NaN"
number_text (Some z) = signed_numeral_of z 10

-- the text of a truth value
abbrev pub truth_text : Bool → Text
truth_text true = codes "true"
truth_text false = codes "false"

-- 7.1.17 ToString, of a primitive
abbrev pub text_of : Primitive → Computed Text
text_of Undefined = Is (codes "undefined")
text_of Null = Is (codes "null")
text_of (Truth b) = Is (truth_text b)
text_of (Num n) = Is (number_text n)
text_of (Str text) = Is text
text_of (Sym s) = Fails

-- of a value
abbrev pub to_text : Value → Computed Text
to_text (Simple p) = text_of p
to_text (Object n) = Fails

-- 13.5.3 the word that `typeof` gives
abbrev pub type_word : Value → Text
type_word (Simple Undefined) = codes "undefined"
type_word (Simple Null) = codes "object"
type_word (Simple (Truth b)) = codes "boolean"
type_word (Simple (Num n)) = codes "number"
type_word (Simple (Str text)) = codes "string"
type_word (Simple (Sym s)) = codes "symbol"
type_word (Object n) = codes "object"
