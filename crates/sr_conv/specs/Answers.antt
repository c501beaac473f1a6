-- The answers of the code, as the definitions have them.
use Rattle.std.specs.Prelude.{ℤ, List, ℕ, Option}
use Rattle.sr_model.specs.Values.{Text}
use Rattle.sr_model.specs.Outcomes.{Number}
use Rattle.sr_conv.specs.declared.answers.Computed.{Computed}
use Rattle.sr_conv.specs.declared.answers.Computed.TheVariants as answer
use Rattle.sr_conv.specs.declared.answers.Operated.{Operated}
use Rattle.sr_conv.specs.declared.answers.Operated.TheVariants as operated
use Rattle.sr_conv.specs.declared.answers.Stepped.{Stepped}
use Rattle.sr_value.specs.Live.{IsPrimitive}
use Rattle.sr_conv.specs.Plain.{value_of, number_stop_of}
use Rattle.sr_conv.specs.Computed as spec
use Rattle.sr_conv.specs.Operators as operators

-- what a computation came to
abbrev pub computed_of : {A B : Type 0} → (A → B) → Computed A → spec.Computed B
computed_of f (answer.Is x) = spec.Is (f x)
computed_of f (answer.Stops stop) = spec.Stops (Number (number_stop_of stop))
computed_of f answer.Fails = spec.Fails

-- a number, or a text
abbrev pub number_computed : Computed (Option ℤ) → spec.Computed (Option ℤ)
number_computed x = computed_of (λ n. n) x

abbrev pub text_computed : Computed (List ℕ) → spec.Computed Text
text_computed x = computed_of (λ s. s) x

-- the numbers before and after `++` or `--`
abbrev pub stepped_of : Stepped → operators.Stepped
stepped_of s = record { before = s.before; after = s.after }

-- what an operator came to
abbrev pub operated_of : Operated → operators.Operated
operated_of (operated.Gives v) = operators.Gives (value_of v)
operated_of (operated.Joins s t) = operators.Joins s t
operated_of (operated.Halts stop) = operators.Halts (Number (number_stop_of stop))
operated_of operated.Rejects = operators.Rejects

-- an operator gives no object
abbrev pub GivesPrimitive : Operated → Type 0
GivesPrimitive (operated.Gives v) = IsPrimitive v
GivesPrimitive w = Unit {0}
