-- A device of the proof: what a frame of a built-in function stands for at each stage. At stage 0 it is the row. Nobody who reads the
-- language needs this file.
use Rattle.std.specs.Prelude.{ℕ, zero, suc, List, [], ◌∷◌, ◌++◌, take, drop, map}
use Rattle.sr_model.specs.Values.{Text, Value, Simple, Undefined}
use Rattle.sr_model.specs.Scripts.{Pay}
use Rattle.sr_conv.specs.Conversions.{to_text}
use Rattle.sr_intrin.specs.declared.names.BuiltIn.{BuiltIn}
use Rattle.sr_realm.specs.Errors.{type_error}
use Rattle.sr_state.specs.Errors.{throw_new}
use Rattle.sr_state.specs.Work.{Steps}
use Rattle.sr_state.specs.Step.{At}
use Rattle.sr_state.specs.Trees.{value_in, text_in, give_value, computed, kept_at}
use Rattle.sr_call.specs.Rows.{print_line, print_rest, built_in_row}

-- the texts that values are
abbrev pub texts_in : List Value → List Text
texts_in vs = map text_in vs

-- what is left of `print` from the argument of this number on, where each before it has been replaced by its text
abbrev pub rest_at : ℕ → List Value → Steps
rest_at n vs = print_rest (drop n vs) (texts_in (take n vs))

-- the turn of the first argument that is left, once its step is paid. A frame waits only where there is one
abbrev pub turn : List Value → List Text → Steps
turn [] texts = throw_new type_error
turn (v ∷ vs) texts = computed (to_text v) (λ s. print_rest vs (texts ++ s ∷ []))

abbrev pub turn_at : ℕ → List Value → Steps
turn_at n vs = turn (drop n vs) (texts_in (take n vs))

-- what is left after the argument of this number, by its text
abbrev pub after_turn : ℕ → List Value → Text → Steps
after_turn n vs s = print_rest (drop (suc n) vs) (texts_in (take n vs) ++ s ∷ [])

-- a line that was kept is printed
abbrev pub print_value : Value → Steps
print_value v = print_line (text_in v)

-- the this value is the value that is kept at first, and the arguments are the list. At stage 1 the line was printed, at stage 2 it is
-- kept and is to be paid, and at stage n + 3 the argument of the number n is to pay. No function but `print` comes to these
abbrev pub built_in_at : BuiltIn → At
built_in_at b source zero kept g = built_in_row b (value_in kept.value) kept.list
built_in_at b source (suc zero) kept g = give_value (Simple Undefined)
built_in_at b source (suc (suc zero)) kept g = kept_at kept.value print_value
built_in_at b source (suc (suc (suc n))) kept g = Pay 0 (turn_at n kept.list)
