-- What a part of a run came to, against the course of the run.
use Rattle.std.specs.Prelude.{◌≡◌, List, [], ◌⊎◌, Some, Result, Ok, Err}
use Rattle.sr_outside.specs.declared.sink.WriteRefusal.{WriteRefusal}
use Rattle.sr_outside.specs.declared.sink.WriteRefusal.TheVariants.{Failed, Memory}
use Rattle.sr_command.specs.declared.status.Status.{Status}
use Rattle.sr_command.specs.Writes.{Write, Streams, Gains, IsCut, IsStart}
use Rattle.sr_command.specs.Courses.{Course}

-- The status and all the writes of a run that has ended so; or, after a refused write, the writes up to it.
abbrev pub ComesTo : Course → Result Status WriteRefusal → Streams → Streams → Type 0
ComesTo course (Ok status) old new = (course.status ≡ Some status) × Gains old new course.writes
ComesTo course (Err Failed) old new = (cut : List Write) × IsCut cut course.writes × Gains old new cut
ComesTo course (Err Memory) old new = (start : List Write) × IsStart start course.writes × Gains old new start

-- memory ran out before anything was written
pub record RanOut (result : Result Status WriteRefusal) (old new : Streams) : Type 0 where
  pub memory : result ≡ Err Memory
  pub nothing : Gains old new []

-- A course of which this holds is come to, or memory ran out before that.
abbrev pub Reaches : (Course → Type 0) → Result Status WriteRefusal → Streams → Streams → Type 0
Reaches Runs result old new = ((course : Course) × Runs course × ComesTo course result old new) ⊎ RanOut result old new
