-- Which values are the same (ECMA-262 7.2.10 SameValue).
use Rattle.std.specs.Prelude.{ℤ, Bool, true, false, ◌&&◌, Option, None, Some, nat_eq}
use Rattle.std.specs.Ordering.{int_eq}
use Rattle.sr_model.specs.Values.{Text, same, Symbol, WellKnown, Registered, Made, Primitive, Undefined, Null, Truth, Num, Str, Sym, Value, Simple, Object}

abbrev pub same_truth : Bool → Bool → Bool
same_truth true b = b
same_truth false true = false
same_truth false false = true

abbrev pub same_description : Option Text → Option Text → Bool
same_description None None = true
same_description None (Some t) = false
same_description (Some s) None = false
same_description (Some s) (Some t) = same s t

abbrev pub same_symbol : Symbol → Symbol → Bool
same_symbol (WellKnown m) (WellKnown n) = nat_eq m n
same_symbol (Registered s) (Registered t) = same s t
same_symbol (Made p m s) (Made q n t) = same p q && nat_eq m n && same_description s t
same_symbol a b = false

-- there is one zero, and NaN is the same as NaN
abbrev pub same_number : Option ℤ → Option ℤ → Bool
same_number None None = true
same_number None (Some y) = false
same_number (Some x) None = false
same_number (Some x) (Some y) = int_eq x y

abbrev pub same_primitive : Primitive → Primitive → Bool
same_primitive Undefined Undefined = true
same_primitive Null Null = true
same_primitive (Truth a) (Truth b) = same_truth a b
same_primitive (Num x) (Num y) = same_number x y
same_primitive (Str s) (Str t) = same s t
same_primitive (Sym a) (Sym b) = same_symbol a b
same_primitive x y = false

-- two objects are the same where they have one number in their realm
abbrev pub same_value : Value → Value → Bool
same_value (Simple x) (Simple y) = same_primitive x y
same_value (Object m) (Object n) = nat_eq m n
same_value v w = false
