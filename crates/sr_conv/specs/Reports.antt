-- What is told of an uncaught throw.
use Rattle.std.specs.Prelude.{ℕ, zero, suc, [], ◌++◌, take, Option, None, Some, codes}
use Rattle.sr_model.specs.Values.{Text, Symbol, WellKnown, Registered, Made, Primitive, Undefined, Null, Truth, Num, Str, Sym, Value, Simple, Object}
use Rattle.sr_conv.specs.Conversions.{number_text, truth_text}

-- the description of a symbol (ECMA-262 20.4.2)
abbrev pub known_name : ℕ → Text
known_name zero = codes "Symbol.iterator"
known_name (suc zero) = codes "Symbol.toPrimitive"
known_name (suc (suc n)) = codes "Symbol.toStringTag"

abbrev pub text_or_empty : Option Text → Text
text_or_empty None = []
text_or_empty (Some text) = text

abbrev pub description : Symbol → Text
description (WellKnown n) = known_name n
description (Registered text) = text
description (Made path number text) = text_or_empty text

-- a primitive is told as its ToString, and a symbol with its description
abbrev pub primitive_report : Primitive → Text
primitive_report Undefined = codes "undefined"
primitive_report Null = codes "null"
primitive_report (Truth b) = truth_text b
primitive_report (Num n) = number_text n
primitive_report (Str text) = text
primitive_report (Sym s) = codes "Symbol(" ++ description s ++ codes ")"

-- object gives what is told of an object, by its number
abbrev pub value_report : (ℕ → Text) → Value → Text
value_report object (Simple p) = primitive_report p
value_report object (Object n) = object n

-- at most the first 16,777,216 code units are told
unfoldable pub report : (ℕ → Text) → Value → Text
report object v = take 16777216 (value_report object v)
