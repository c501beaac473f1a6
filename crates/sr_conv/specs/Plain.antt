-- The values and stops of the code, as the plain data of the definitions.
pub use Rattle.sr_value.specs.Plain.{symbol_of, value_of}
use Rattle.std.specs.Prelude.{Option, None, Some}
use Rattle.sr_value.specs.declared.value.Value.{Value}
use Rattle.sr_num.specs.declared.stop.NumStop.{NumStop}
use Rattle.sr_num.specs.declared.stop.NumStop.TheVariants as stop
use Rattle.sr_model.specs.Values as model
use Rattle.sr_model.specs.Outcomes as model_outcomes

-- a value that may be absent
abbrev pub option_of : Option Value → Option model.Value
option_of None = None
option_of (Some v) = Some (value_of v)

-- a stop of arithmetic
abbrev pub number_stop_of : NumStop → model_outcomes.NumberStop
number_stop_of stop.NegativeZero = model_outcomes.NegativeZero
number_stop_of stop.Fraction = model_outcomes.Fraction
number_stop_of stop.Infinite = model_outcomes.Infinite
number_stop_of stop.Unsafe = model_outcomes.Unsafe
number_stop_of stop.Form = model_outcomes.Form
