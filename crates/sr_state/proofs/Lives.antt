-- What is live stays live as the realm gets more objects.
use Rattle.std.proofs.Common.{◌≡◌, ℕ, ◌≤◌, List, [], ◌∷◌, Option, None, Some, refl, arith}
use Rattle.std.specs.Prelude.{IfSome}
use Rattle.std.specs.List.{AllByRecursion}
use Rattle.sr_tag.specs.Reference.{Reference}
use Rattle.sr_value.specs.declared.value.Value.{Value}
use Rattle.sr_value.specs.Live.{Extent, IsLive, IsLiveScope, IsLiveValue, KeepsLive}
use Rattle.sr_realm.specs.declared.names.Base.{Base}
use Rattle.sr_realm.specs.declared.names.Base.TheVariants as base
use Rattle.sr_realm.specs.Live.{IsLiveBase}
use Rattle.sr_state.specs.declared.ends.Abrupt.{Abrupt}
use Rattle.sr_state.specs.declared.ends.Abrupt.TheVariants as abrupt
use Rattle.sr_state.specs.declared.ends.Completion.{Completion}
use Rattle.sr_state.specs.declared.ends.Completion.TheVariants as completion
use Rattle.sr_state.specs.declared.ends.Answer.{Answer}
use Rattle.sr_state.specs.declared.ends.Answer.TheVariants as answer
use Rattle.sr_state.specs.declared.frame.Frame.{Frame}
use Rattle.sr_state.specs.Live.{IsLiveAbrupt, IsLiveEnd, IsLiveAnswer, IsLiveFrame, AreLiveFrames, IsSound}

module _ (e f : Extent) (kept : KeepsLive e f) where
  value_kept : (v : Value) → IsLiveValue e v → IsLiveValue f v
  value_kept v live = record { object = λ r is. kept.objects r (live.object r is) }

  option_kept : (v : Option Value) → IfSome v (IsLiveValue e) → IfSome v (IsLiveValue f)
  option_kept None live = tt
  option_kept (Some v) live = value_kept v live

  values_kept : (vs : List Value) → AllByRecursion (IsLiveValue e) vs → AllByRecursion (IsLiveValue f) vs
  values_kept [] live = tt
  values_kept (v ∷ vs) live = (value_kept v live.0, values_kept vs live.1)

  scope_kept : (r : Option Reference) → IfSome r (IsLiveScope e) → IfSome r (IsLiveScope f)
  scope_kept None live = tt
  scope_kept (Some r) live = kept.environments r live

  base_kept : (b : Base) → IsLiveBase e b → IsLiveBase f b
  base_kept base.Unresolvable live = tt
  base_kept base.Property live = tt
  base_kept base.Lexical live = tt
  base_kept (base.Local r) live = kept.environments r live

  abrupt_kept : (x : Abrupt) → IsLiveAbrupt e x → IsLiveAbrupt f x
  abrupt_kept (abrupt.Throw v) live = value_kept v live
  abrupt_kept (abrupt.Return v) live = value_kept v live
  abrupt_kept (abrupt.Break l) live = option_kept l.value live
  abrupt_kept (abrupt.Continue l) live = option_kept l.value live

  end_kept : (o : Completion) → IsLiveEnd e o → IsLiveEnd f o
  end_kept (completion.Normal v) live = option_kept v live
  end_kept (completion.Abrupt x) live = abrupt_kept x live

  answer_kept : (a : Answer) → IsLiveAnswer e a → IsLiveAnswer f a
  answer_kept answer.Empty live = tt
  answer_kept (answer.Done o) live = end_kept o live

  frame_kept : (x : Frame) → IsLiveFrame e x → IsLiveFrame f x
  frame_kept x live = record {
    environment = (let c = x.context in scope_kept c.environment live.environment);
    value = option_kept x.value live.value;
    list = values_kept x.list live.list;
    base = base_kept x.base live.base;
  }

  frames_kept : (xs : List Frame) → AreLiveFrames e xs → AreLiveFrames f xs
  frames_kept [] live = tt
  frames_kept (x ∷ xs) live = (frame_kept x live.0, frames_kept xs live.1)

  -- the objects with which a realm was made are still there
  built_kept : 17 ≤ e.objects → 17 ≤ f.objects
  built_kept built = (let last : Reference = record { tag = e.tag; place = 16 } in (kept.objects last (record { tag = refl; number = built })).number)

  pub sound_kept : (a : Answer) (x : Frame) (xs : List Frame) → IsSound e a x xs → IsSound f a x xs
  sound_kept a x xs sound = record {
    answer = answer_kept a sound.answer;
    top = frame_kept x sound.top;
    frames = frames_kept xs sound.frames;
    built = built_kept sound.built;
  }
