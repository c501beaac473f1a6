-- The ends of parts, as the definitions have them.
use Rattle.std.specs.Prelude.{◌≡◌, Result, Ok, Err}
use Rattle.sr_conv.specs.Plain.{value_of, option_of, number_stop_of}
use Rattle.sr_model.specs.Outcomes as model
use Rattle.sr_state.specs.declared.ends.Abrupt.{Abrupt}
use Rattle.sr_state.specs.declared.ends.Abrupt.TheVariants as abrupt
use Rattle.sr_state.specs.declared.ends.Completion.{Completion}
use Rattle.sr_state.specs.declared.ends.Completion.TheVariants as completion
use Rattle.sr_state.specs.declared.ends.StopName.{StopName}
use Rattle.sr_state.specs.declared.ends.StopName.TheVariants as stop
use Rattle.sr_state.specs.declared.ends.Answer.{Answer}
use Rattle.sr_state.specs.declared.ends.Answer.TheVariants as answer
use Rattle.sr_state.specs.declared.ends.Next.{Next}
use Rattle.sr_state.specs.declared.ends.Next.TheVariants as next
use Rattle.sr_state.specs.declared.ends.Over.{Over}
use Rattle.sr_state.specs.declared.ends.Over.TheVariants as over

-- an end otherwise than normally
abbrev pub abrupt_of : Abrupt → model.AbruptCompletion
abrupt_of (abrupt.Throw v) = model.Throw (value_of v)
abrupt_of (abrupt.Return v) = model.Return (value_of v)
abrupt_of (abrupt.Break l) = model.Break l.label (option_of l.value)
abrupt_of (abrupt.Continue l) = model.Continue l.label (option_of l.value)

-- an end
abbrev pub completion_of : Completion → model.Completion
completion_of (completion.Normal v) = model.Normal (option_of v)
completion_of (completion.Abrupt x) = model.Abrupt (abrupt_of x)

-- the answer is this end
abbrev pub IsEnd : Answer → model.Completion → Type 0
IsEnd (answer.Done o) y = completion_of o ≡ y
IsEnd answer.Empty y = ⊥

-- it is this listed stop
abbrev pub IsStop : StopName → model.Stop → Type 0
IsStop (stop.Number s) y = model.Number (number_stop_of s) ≡ y
IsStop stop.StringLength y = model.StringLength ≡ y
IsStop stop.CallDepth y = model.CallDepth ≡ y
IsStop stop.SyntaxDepth y = model.SyntaxDepth ≡ y
IsStop (stop.Unsupported marker at) y = model.Unsupported marker at ≡ y
IsStop (stop.Steps used cost) y = ⊥

-- a step stopped the run by this stop
abbrev pub HaltsBy : Next → model.Stop → Type 0
HaltsBy (next.Halt name) y = IsStop name y
HaltsBy n y = ⊥

-- of what a step came to this holds. Of want of memory nothing is said
abbrev pub Comes : Result Next Over → (Next → Type 0) → Type 0
Comes (Ok n) P = P n
Comes (Err (over.Next n)) P = P n
Comes (Err over.Memory) P = Unit {0}
