-- A step of a frame, by what it carries out.
use Rattle.std.proofs.Common.{◌≡◌, inl, refl, sym, ap, ◌∙◌, subst, ℕ, suc, ◌+◌, ◌≤◌, false, List, [], ◌∷◌, None, length, arith}
use Rattle.std.specs.Prelude.{Result, Ok, Err, IfOk}
use Rattle.sr_ast.specs.declared.reading.Reading.{Reading}
use Rattle.sr_model.specs.Values.{Text}
use Rattle.sr_model.specs.World.{Write}
use Rattle.sr_worlds.specs.Live.{LiveRan}
use Rattle.sr_state.specs.declared.frame.Activity.{Activity}
use Rattle.sr_state.specs.declared.frame.Activity.TheVariants as activity
use Rattle.sr_state.specs.declared.frame.Frame.{Frame}
use Rattle.sr_state.specs.declared.ends.Answer.{Answer}
use Rattle.sr_state.specs.declared.ends.Answer.TheVariants as answer
use Rattle.sr_state.specs.declared.ends.Next.{Next}
use Rattle.sr_state.specs.declared.ends.Next.TheVariants as next
use Rattle.sr_state.specs.Held.{Held, is_idle}
use Rattle.sr_state.specs.Step.{Stays, StaysAnywhere, StepsFor, Fresh, Resumed, kept_of, given_of, far_of}
use Rattle.sr_state.specs.Contexts.{context_of}
use Rattle.sr_state.specs.Work.{Holds, Steps}
use Rattle.sr_stmt.specs.Rows.{operation}
use Rattle.sr_machine.specs.Stages.{at_of, script_of, StepsOf, FrameSteps}
use Rattle.sr_machine.specs.Worlds.{Tapes}
use Rattle.sr_machine.specs.Stack.{comes, depths}
use Rattle.sr_machine.specs.Going.{IsReady, Ready, ForRuns, frame_weight, answer_weight, Under}
use Rattle.sr_machine.proofs.Comes.{floor, part_first, Keeps, Does, does}

starts : (f : Frame) (a : Answer) → Ready f a → (floor (far_of a) + part_first f a (far_of a) ≡ 2 + answer_weight f a) × (far_of a ≡ Fresh → IsReady (script_of f (given_of a)))
starts f answer.Empty ready = (refl, λ e. ready)
starts f (answer.Done o) ready = (refl, λ e. absurd (let e : Resumed ≡ Fresh = e in cc))

busy : (a : Activity) (old : Held) (n : Next) (new : Held) → StepsOf a old n new → is_idle a ≡ false
busy activity.Idle old n new g = absurd g
busy a old n new g = refl

module _ (old : Held) (n : Next) (new : Held) where
  module _ (no_cut : old.outer.cut ≡ None) where
    abbrev script : Activity → Steps
    script a = at_of a (context_of old.top.context) old.top.stage (kept_of old.top) (given_of old.answer)

    abbrev DoesAll : Activity → Type 0
    DoesAll a = Does old no_cut n new (far_of old.answer) old.side old.top.calls (script a)

    -- frames of an activity that are put back stand for it
    anywhere : (a : Activity) → old.top.activity ≡ a → is_idle a ≡ false → StepsFor (StaysAnywhere (at_of a) old.top.activity) operation (at_of a) old n new → DoesAll a
    anywhere a is busy g =
        does old no_cut n new (StaysAnywhere (at_of a) old.top.activity)
        (λ k f g P h. (ap is_idle (h.0 ∙ is) ∙ busy, h.1, subst P (sym (λ i. at_of ((h.0 ∙ is) i) (context_of f.context) f.stage (kept_of f) g)) h.2)) (far_of old.answer) (script a) old.side old.top.calls g

    here : (a : Activity) → old.top.activity ≡ a → is_idle a ≡ false → StepsFor (Stays (at_of a) old.top.activity old.top.context) operation (at_of a) old n new → DoesAll a
    here a is busy g =
        does old no_cut n new (Stays (at_of a) old.top.activity old.top.context)
        (λ k f g P h. (ap is_idle (h.0 ∙ is) ∙ busy, h.2, subst P (sym (λ i. at_of ((h.0 ∙ is) i) (context_of (h.1 i)) f.stage (kept_of f) g)) h.3)) (far_of old.answer) (script a) old.side old.top.calls g

    frame_does : (a : Activity) → old.top.activity ≡ a → StepsOf a old n new → DoesAll a
    frame_does activity.Idle is g = absurd g
    frame_does (activity.Tree t) is g = here (activity.Tree t) is refl g
    frame_does (activity.Source x) is g = anywhere (activity.Source x) is refl g
    frame_does (activity.BuiltIn b) is g = here (activity.BuiltIn b) is refl (g operation)

  kept_along : (read : Text → Reading) (z : Tapes) (meaning : ℕ → LiveRan Holds) (v : List Write) → FrameSteps old n new → Under read old.outer.bound z meaning v old →
      (os : List ℕ) → length os ≡ suc (length old.frames) → (least : ℕ) → ((n : ℕ) → least ≤ n → meaning n ≡ comes read old.outer.bound z v old (depths os n)) →
      Keeps old new n read old.outer.bound z meaning v
  kept_along read z meaning v g u [] along least same = absurd (omega (arith, along))
  kept_along read z meaning v g u (p ∷ os) along least same =
      (let s = u.sound in
      let weight = ap frame_weight (busy old.top.activity old n new g) in
      let first = starts old.top old.answer s.ready in
      let floor_is = first.0 in
      (frame_does s.live old.top.activity refl g).2
      (record { read = read; tapes = z; meaning = meaning; written = v; offsets = os; along = omega (arith, along); waits = s.waits })
      (record { cost = 0; used = omega arith; once = inl refl; within = s.within; low = omega (arith, weight, floor_is) })
      (λ e. (refl, first.1 e, refl, omega arith))
      (record { here = s.here; offset = p; least = least; same = same }))

  pub kept : FrameSteps old n new → ForRuns old (Keeps old new n)
  kept g read bound z meaning v u =
      subst (λ b. Under read b z meaning v old → Keeps old new n read b z meaning v) (let s = u.sound in s.bounded)
      (λ u. kept_along read z meaning v g u u.offsets u.along u.least u.same) u

-- a run comes to no cut, and what stands outside the realm that runs stays as it is
pub uncut : {E : Type 0} (old new : Held) → old.outer.cut ≡ None → (r : Result Next E) → IfOk r (λ n. FrameSteps old n new) →
    IfOk r (λ n. (new.outer ≡ old.outer) × (n ≡ next.CutOff → ⊥))
uncut old new no_cut (Ok n) g = (let d = frame_does old n new no_cut old.top.activity refl g in (d.0, d.1))
uncut old new no_cut (Err e) g = tt
