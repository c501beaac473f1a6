-- What a computation comes to in which no code of the user runs.
use Rattle.std.specs.Prelude.{ℤ, Option, Ok, Err}
use Rattle.sr_num.specs.Integer as numbers
use Rattle.sr_model.specs.Outcomes.{Stop, Number}
use Rattle.sr_conv.specs.Plain.{number_stop_of}

pub data Computed (A : Type 0) : Type 0 where
  Is : A → Computed A
  Stops : Stop → Computed A  -- a listed stop
  Fails : Computed A  -- a TypeError is thrown

-- one computation, and then another one with what it came to
abbrev pub and_then : {A B : Type 0} → Computed A → (A → Computed B) → Computed B
and_then (Is x) go = go x
and_then (Stops stop) go = Stops stop
and_then Fails go = Fails

-- an operation on numbers
abbrev pub counted : numbers.Outcome → Computed (Option ℤ)
counted (Ok n) = Is n
counted (Err stop) = Stops (Number (number_stop_of stop))
