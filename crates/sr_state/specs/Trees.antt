-- Words for the rows of trees.
use Rattle.std.specs.Prelude.{ℕ, zero, suc, ◌/◌, nat_le, ◌++◌, [], length, Option, None, Some}
use Rattle.sr_ast.specs.declared.tree.Tree.{Tree}
use Rattle.sr_model.specs.Values.{Text, Value, Simple, Undefined, Str}
use Rattle.sr_model.specs.Outcomes.{Completion, Normal, Abrupt, Throw, StringLength}
use Rattle.sr_model.specs.Tasks.{Context, Run}
use Rattle.sr_model.specs.Scripts.{Give, Halt, Change, Part, Pay, pay, or_abrupt, part}
use Rattle.sr_model.specs.Holds.{marked, either}
use Rattle.sr_conv.specs.Computed as outcome
use Rattle.sr_conv.specs.Operators as operators
use Rattle.sr_state.specs.Work.{Steps}
use Rattle.sr_realm.specs.Errors.{type_error}
use Rattle.sr_state.specs.Errors.{throw_new}
use Rattle.sr_state.specs.Step.{Given, Began, Ended}

-- the value of an end; an empty one counts as undefined
abbrev pub value_in : Option Value → Value
value_in None = Simple Undefined
value_in (Some v) = v

-- goes on with the value of a normal end. Another end is the end of the task (ECMA-262 5.2.3.4 ReturnIfAbrupt)
abbrev pub with_value : (Value → Steps) → Completion → Steps
with_value k (Normal v) = k (value_in v)
with_value k o = Give o

-- ends with a value
abbrev pub give_value : Value → Steps
give_value v = Give (Normal (Some v))

-- What no frame comes to, and what is not built, throws the value undefined.
abbrev pub throw_error : Steps
throw_error = Give (Abrupt (Throw (Simple Undefined)))

-- a string has at most so many code units, and it costs a step for each 256
abbrev pub text_limit : ℕ
text_limit = 16777216

abbrev pub text_cost : Text → ℕ
text_cost text = length text / 256

-- stops where a text is too long for a string, and else pays for it and goes on
abbrev pub made : Text → Steps → Steps
made text k = either (nat_le (length text) text_limit) (pay (text_cost text) k) (Halt StringLength)

-- goes on with what a computation comes to
abbrev pub computed : {A : Type 0} → outcome.Computed A → (A → Steps) → Steps
computed (outcome.Is x) k = k x
computed (outcome.Stops stop) k = Halt stop
computed outcome.Fails k = throw_new type_error

-- goes on with what an operator comes to; a string that it joins is made
abbrev pub operated : operators.Operated → (Value → Steps) → Steps
operated (operators.Gives v) k = k v
operated (operators.Joins s t) k = made (s ++ t) (k (Simple (Str (s ++ t))))
operated (operators.Halts stop) k = Halt stop
operated operators.Rejects k = throw_new type_error

-- the text that a value is
abbrev pub text_in : Value → Text
text_in (Simple (Str text)) = text
text_in v = []

-- a frame that waits to pay for a text, which costs a step or more, and goes on; and one that keeps the text as a string
abbrev pub paid_at : ℕ → Steps → Steps
paid_at zero k = throw_error
paid_at (suc c) k = Pay c k

abbrev pub kept_at : Option Value → (Value → Steps) → Steps
kept_at v k = paid_at (text_cost (text_in (value_in v))) (k (value_in v))

-- trees in a context
module _ (c : Context) where
  -- the charge of a tree that begins at this place, as its evaluation begins
  abbrev pub begin : ℕ → Steps → Steps
  begin at k = Pay 0 (Change (marked c.source at) k)

  -- a part, and its end
  abbrev pub evaluated : Tree → (Option Value → Steps) → Steps
  evaluated t k = part (Run c t) k

  -- a part, and its value
  abbrev pub valued : Tree → (Value → Steps) → Steps
  valued t k = Part (Run c t) (with_value k)

  -- the same by what a frame is given: the part has not begun, or this is its end
  abbrev pub evaluated_at : Given → Tree → (Option Value → Steps) → Steps
  evaluated_at Began t k = evaluated t k
  evaluated_at (Ended o) t k = or_abrupt k o

  abbrev pub valued_at : Given → Tree → (Value → Steps) → Steps
  valued_at Began t k = valued t k
  valued_at (Ended o) t k = with_value k o
