-- The numbers of the objects that each realm has.
use Rattle.std.specs.Prelude.{ℕ, ◌+◌, ◌*◌}
use Rattle.sr_intrin.specs.declared.names.ErrorName.{ErrorName}
use Rattle.sr_intrin.specs.declared.names.ErrorName.TheVariants as error
use Rattle.sr_intrin.specs.declared.names.Intrinsic.{Intrinsic}
use Rattle.sr_intrin.specs.declared.names.Intrinsic.TheVariants as intrinsic

-- how many they are
abbrev pub intrinsic_count : ℕ
intrinsic_count = 17

-- the errors in the order of their objects
abbrev pub error_place : ErrorName → ℕ
error_place error.Error = 0
error_place error.Type = 1
error_place error.Range = 2
error_place error.Syntax = 3
error_place error.Reference = 4

-- the numbers. Each constructor of errors stands before their prototype
abbrev pub number_of : Intrinsic → ℕ
number_of intrinsic.Global = 1
number_of intrinsic.ObjectPrototype = 2
number_of intrinsic.FunctionPrototype = 3
number_of (intrinsic.Error name) = 4 + 2 * error_place name
number_of (intrinsic.ErrorPrototype name) = 5 + 2 * error_place name
number_of intrinsic.BooleanPrototype = 14
number_of intrinsic.NumberPrototype = 15
number_of intrinsic.StringPrototype = 16
number_of intrinsic.Print = 17

-- the number of the prototype of the errors of a name
abbrev pub error_prototype : ErrorName → ℕ
error_prototype name = number_of (intrinsic.ErrorPrototype name)
