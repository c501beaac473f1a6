-- Courses that are come to.
use Rattle.std.proofs.Common.{◌≡◌, ◌≤◌, ◌<◌, ◌⊎◌, ℕ, List, length, Result, Ok, Err, inl, inr}
use Rattle.std.proofs.lemmas.Bool.{cases_lt}
use Rattle.sr_text.specs.Utf8.{Decodes, IsTooLong}
use Rattle.sr_outside.specs.declared.sink.WriteRefusal.{WriteRefusal}
use Rattle.sr_outside.specs.declared.sink.WriteRefusal.TheVariants.{Memory}
use Rattle.sr_command.specs.declared.status.Status.{Status}
use Rattle.sr_command.specs.Writes.{Streams}
use Rattle.sr_command.specs.Courses.{Course}
use Rattle.sr_command.specs.Reaching.{ComesTo, Reaches}
use Rattle.sr_command.proofs.Gaining.{nothing_gained}

-- a course that is come to is reached
pub reached : {Runs : Course → Type 0} {r : Result Status WriteRefusal} {old new : Streams} (course : Course) → Runs course → ComesTo course r old new → Reaches Runs r old new
reached course runs comes = inl (course, runs, comes)

-- memory ran out before anything was written
pub ran_out : {Runs : Course → Type 0} (r : Result Status WriteRefusal) (s : Streams) → r ≡ Err Memory → Reaches Runs r s s
ran_out r s is = inr (record { memory = is; nothing = nothing_gained s })

-- what every course of one run is of, so is what is reached
pub reached_along : {Runs Others : Course → Type 0} {r : Result Status WriteRefusal} {old new : Streams} → ((course : Course) → Runs course → Others course) → Reaches Runs r old new → Reaches Others r old new
reached_along f (inl found) = inl (found.0, f found.0 found.1, found.2)
reached_along f (inr out) = inr out

-- what is no error is not this one
pub no_error : {A E : Type 0} (a : A) (e : E) → (let r : Result A E = Ok a in r) ≡ Err e → ⊥
no_error a e same = cc

module _ (bytes units : List ℕ) (decodes : Decodes bytes units) (not : IsTooLong bytes → ⊥) where
  short_by : (16777216 < length units) ⊎ (length units ≤ 16777216) → length units ≤ 16777216
  short_by (inl more) = absurd (not (units, decodes, more))
  short_by (inr short) = short

  -- a text that is not too long for a string is no longer than one
  pub is_short : length units ≤ 16777216
  is_short = short_by (cases_lt 16777216 (length units))
