-- What the top call answers, against the run of the command.
use Rattle.std.specs.Prelude.{◌≡◌, ℕ, List, [], ◌∷◌, ◌++◌, take, Option, Some, Result, codes, ◌⊎◌}
use Rattle.sr_outside.specs.declared.loader.Loaded.{Loaded}
use Rattle.sr_outside.specs.declared.sink.WriteRefusal.{WriteRefusal}
use Rattle.sr_command.specs.declared.status.Status.{Status}
use Rattle.sr_command.specs.Status.{code_of}
use Rattle.sr_command.specs.Reaching.{ComesTo, RanOut}
use Rattle.sr_command.specs.Writes.{Write, err, Streams, Gains, IsCut, IsStart}
use Rattle.sr_command.specs.Courses.{Course, HasEnded}
use Rattle.sr_command.specs.Runs.{Runs}

-- The loader gave these answers in this call, by what it remembers before and after: none, or one, the latest.
abbrev pub Gave : Option (List ℕ × Loaded) → Option (List ℕ × Loaded) → List (List ℕ × Loaded) → Type 0
Gave before after [] = after ≡ before
Gave before after (answer ∷ []) = after ≡ Some answer
Gave before after (answer ∷ another ∷ more) = ⊥

-- a first part of a line on the errors
abbrev pub part_of_line : ℕ → List ℕ → Write
part_of_line n text = err (take n (text ++ 0x0A ∷ []))

module _ (words : List (List ℕ)) (before after : Option (List ℕ × Loaded)) where
  -- how far a run of these words comes, with the answers that the loader gave
  pub record IsRun : Type 0 where
    pub answers : List (List ℕ × Loaded)
    pub gave : Gave before after answers
    pub course : Course
    pub runs : Runs words answers course

  -- A run of these words is come to; or memory ran out before anything was written.
  abbrev pub ReachesRun : Result Status WriteRefusal → Streams → Streams → Type 0
  ReachesRun result old new = ((run : IsRun) × ComesTo run.course result old new) ⊎ RanOut result old new

  -- The run came to its end: the status is the run's, and the streams gained exactly its writes.
  pub record Completes (status : ℕ) (old new : Streams) : Type 0 where
    pub run : IsRun
    pub how : Status
    pub ended : run.course.status ≡ Some how
    pub told : status ≡ code_of how
    pub wrote : Gains old new run.course.writes

  -- A sink failed: the streams gained the first writes of the run whole and a first part of the next, and then a first
  -- part of the line `write failed`. Those are first writes also of all that the run writes in the end.
  pub record BreaksOff (old new : Streams) : Type 0 where
    pub run : IsRun
    pub cut : List Write
    pub is_cut : IsCut cut run.course.writes
    pub in_the_end : (whole : Course) → HasEnded whole → Runs words run.answers whole → IsCut cut whole.writes
    pub shown : ℕ
    pub wrote : Gains old new (cut ++ part_of_line shown (codes "write failed") ∷ [])

  -- Memory ran out within the run: the streams gained its first writes whole, and then a first part of the line
  -- `memory`. Those are first writes also of all that the run writes in the end.
  pub record Starves (old new : Streams) : Type 0 where
    pub run : IsRun
    pub start : List Write
    pub is_start : IsStart start run.course.writes
    pub in_the_end : (whole : Course) → HasEnded whole → Runs words run.answers whole → IsStart start whole.writes
    pub shown : ℕ
    pub wrote : Gains old new (start ++ part_of_line shown (codes "memory") ∷ [])

-- Memory ran out before anything was written: the streams gained a first part of the line `memory` alone.
pub record StarvesAtOnce (old new : Streams) : Type 0 where
  pub shown : ℕ
  pub wrote : Gains old new (part_of_line shown (codes "memory") ∷ [])
