-- What holds of runs.
use Rattle.std.specs.Prelude.{◌≡◌, ℕ, List}
use Rattle.sr_outside.specs.declared.loader.Loaded.{Loaded}
use Rattle.sr_command.specs.Courses.{Course, HasEnded, LeadsTo}
use Rattle.sr_command.specs.Runs.{Runs}

-- words and the loader's answers have one end at most: what is written, and how it ends, is determined
abbrev pub OneRun : Type 0
OneRun = (words : List (List ℕ)) (answers : List (List ℕ × Loaded)) (course other : Course) → HasEnded course → HasEnded other
    → Runs words answers course → Runs words answers other → course ≡ other

-- and each point on the way leads to that end
abbrev pub EachLeadsToTheEnd : Type 0
EachLeadsToTheEnd = (words : List (List ℕ)) (answers : List (List ℕ × Loaded)) (course whole : Course) → HasEnded whole
    → Runs words answers course → Runs words answers whole → LeadsTo course whole
