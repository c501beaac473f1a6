-- The references that the state keeps outside the heap of its realm are live there.
use Rattle.std.specs.Prelude.{◌≡◌, ◌≤◌, List, IfSome}
use Rattle.std.specs.List.{AllByRecursion}
use Rattle.sr_value.specs.Live.{Extent, IsLiveScope, IsLiveValue}
use Rattle.sr_intrin.specs.Numbers.{intrinsic_count}
use Rattle.sr_state.specs.declared.ends.Abrupt.{Abrupt}
use Rattle.sr_state.specs.declared.ends.Abrupt.TheVariants as abrupt
use Rattle.sr_state.specs.declared.ends.Completion.{Completion}
use Rattle.sr_state.specs.declared.ends.Completion.TheVariants as completion
use Rattle.sr_state.specs.declared.ends.Answer.{Answer}
use Rattle.sr_state.specs.declared.ends.Answer.TheVariants as answer
use Rattle.sr_realm.specs.Live.{IsLiveBase}
use Rattle.sr_state.specs.declared.frame.Frame.{Frame}

-- an end
abbrev pub IsLiveAbrupt : Extent → Abrupt → Type 0
IsLiveAbrupt e (abrupt.Throw v) = IsLiveValue e v
IsLiveAbrupt e (abrupt.Return v) = IsLiveValue e v
IsLiveAbrupt e (abrupt.Break l) = IfSome l.value (IsLiveValue e)
IsLiveAbrupt e (abrupt.Continue l) = IfSome l.value (IsLiveValue e)

abbrev pub IsLiveEnd : Extent → Completion → Type 0
IsLiveEnd e (completion.Normal v) = IfSome v (IsLiveValue e)
IsLiveEnd e (completion.Abrupt x) = IsLiveAbrupt e x

-- what a frame is given
abbrev pub IsLiveAnswer : Extent → Answer → Type 0
IsLiveAnswer e answer.Empty = Unit {0}
IsLiveAnswer e (answer.Done o) = IsLiveEnd e o

-- a frame
pub record IsLiveFrame (e : Extent) (f : Frame) : Type 0 where
  pub environment : (let c = f.context in IfSome c.environment (IsLiveScope e))
  pub value : IfSome f.value (IsLiveValue e)
  pub list : AllByRecursion (IsLiveValue e) f.list
  pub base : IsLiveBase e f.base

abbrev pub AreLiveFrames : Extent → List Frame → Type 0
AreLiveFrames e fs = AllByRecursion (IsLiveFrame e) fs

-- what the frame on top is given, that frame and those below it; and the realm has the objects with which it was made
pub record IsSound (e : Extent) (a : Answer) (f : Frame) (fs : List Frame) : Type 0 where
  pub answer : IsLiveAnswer e a
  pub top : IsLiveFrame e f
  pub frames : AreLiveFrames e fs
  pub built : intrinsic_count ≤ e.objects
