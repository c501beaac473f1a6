-- What the loop does with a step, as the code has it.
use Rattle.std.proofs.Common.{◌≡◌, ℕ, List, Option, Some, None, sym, ◌∙◌, subst}
use Rattle.std.specs.Io.KnownBytes.{Appends}
use Rattle.std.proofs.KnownBytes.{Appends-nil}
use Rattle.sr_outside.specs.Writing.{AppendsPart}
use Rattle.sr_model.specs.Values.{Text}
use Rattle.sr_state.specs.declared.ends.Next.{Next}
use Rattle.sr_state.specs.declared.ends.Next.TheVariants as next
use Rattle.sr_state.specs.declared.ends.StopName.{StopName}
use Rattle.sr_state.specs.Held.{Held, below}
use Rattle.sr_machine.specs.Stages.{FrameSteps}
use Rattle.sr_machine.specs.Going.{ForRuns, line_of, printed, GoesOn, BreaksOff}
use Rattle.sr_machine.specs.Running.{IsLastPlace, Stopped}
use Rattle.sr_machine.specs.declared.live.StopAt.{StopAt}
use Rattle.sr_machine.specs.declared.live.Advance.{Advance}
use Rattle.sr_machine.specs.declared.live.Advance.TheVariants as advance
use Rattle.sr_machine.proofs.Comes.{Keeps}
use Rattle.sr_machine.proofs.Kept.{kept}

stop_same : (a b : StopAt) → advance.Stop a ≡ advance.Stop b → a ≡ b
stop_same a b e = cc

module _ (old h new : Held) (n : Next) (is : old ≡ h) (steps : FrameSteps h n new) where
  keeps : (m : Next) → n ≡ m → ForRuns old (Keeps old new m)
  keeps m e = kept old m new (subst (λ (h : Held). FrameSteps h m new) (sym is) (subst (λ (n : Next). FrameSteps h n new) e steps))

  pub at_going : (b : Option (List ℕ)) → n ≡ next.Going → GoesOn old new b b
  at_going b e = (None, Appends-nil b, keeps next.Going e)

  pub at_ended : (g : Held) (b : Option (List ℕ)) → n ≡ next.Ended → g ≡ below new.frames new → GoesOn old g b b
  at_ended g b e e' = subst (λ (g : Held). GoesOn old g b b) (sym e') (None, Appends-nil b, keeps next.Ended e)

  pub at_printed : (text : Text) (g : Held) (b b' : Option (List ℕ)) → n ≡ next.Print text → g ≡ printed text new → Appends b b' (line_of text) → GoesOn old g b b'
  at_printed text g b b' e e' appends = subst (λ (g : Held). GoesOn old g b b') (sym e') (Some text, appends, keeps (next.Print text) e)

  pub at_broken : (text : Text) (b b' : Option (List ℕ)) → n ≡ next.Print text → AppendsPart b b' (line_of text) → BreaksOff old b b'
  at_broken text b b' e part = (text, printed text new, part, λ read bound z meaning v u. (keeps (next.Print text) e read bound z meaning v u).0)

  -- the place that is named is that of the last tree that paid
  pub at_stopped : (name : StopName) (source at : ℕ) (s : StopAt) (r : Advance) (g : Held) → n ≡ next.Halt name → IsLastPlace (record { name = name; source = source; at = at }) new.side → r ≡ advance.Stop (record { name = name; source = source; at = at }) → r ≡ advance.Stop s → g ≡ new → Stopped s old g
  at_stopped name source at s r g e last is-stop is-s same =
      subst (λ (x : Held). Stopped s old x) (sym same)
      (subst (λ (x : StopAt). Stopped x old new) (stop_same (record { name = name; source = source; at = at }) s (sym is-stop ∙ is-s)) (keeps (next.Halt name) e, last))
