-- The rows of the built-in functions: what a call of each does, step by step, with its charges.
use Rattle.std.specs.Prelude.{List, [], ◌∷◌, ◌++◌}
use Rattle.sr_model.specs.Values.{Text, Value, Simple, Undefined}
use Rattle.sr_model.specs.Scripts.{Pay, Enter, Line}
use Rattle.sr_conv.specs.Conversions.{to_text}
use Rattle.sr_intrin.specs.declared.names.BuiltIn.{BuiltIn}
use Rattle.sr_intrin.specs.declared.names.BuiltIn.TheVariants as built_in
use Rattle.sr_state.specs.Work.{Steps}
use Rattle.sr_state.specs.Trees.{give_value, throw_error, computed, made}

-- texts with a space between each two
abbrev pub joined : List Text → Text
joined [] = []
joined (s ∷ []) = s
joined (s ∷ t ∷ ts) = s ++ 0x20 ∷ joined (t ∷ ts)

-- `print`: the line is printed, and undefined is given
abbrev pub print_line : Text → Steps
print_line text = Line text (give_value (Simple Undefined))

-- the line is made of the texts
abbrev pub print_joined : Text → Steps
print_joined text = made text (print_line text)

-- each argument pays a step as its turn begins, and is made a text
abbrev pub print_rest : List Value → List Text → Steps
print_rest [] texts = print_joined (joined texts)
print_rest (v ∷ vs) texts = Pay 0 (computed (to_text v) (λ s. print_rest vs (texts ++ s ∷ [])))

-- `print` with its arguments: the function is entered, and they are printed in order as one line
abbrev pub print : List Value → Steps
print vs = Enter (print_rest vs [])

-- 20.2.3: Function.prototype takes any arguments, and gives undefined
abbrev pub function_prototype : Steps
function_prototype = Enter (give_value (Simple Undefined))

-- the constructors of errors are not built. No script that is accepted calls one
abbrev pub error_constructor : Steps
error_constructor = Enter throw_error

-- the table of the built-in functions, with the this value and the arguments
abbrev pub built_in_row : BuiltIn → Value → List Value → Steps
built_in_row built_in.FunctionPrototype this args = function_prototype
built_in_row (built_in.Error name) this args = error_constructor
built_in_row built_in.Print this args = print args
