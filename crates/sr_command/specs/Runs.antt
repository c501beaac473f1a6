-- The run of a command, as a relation: what it writes, and how it ends. It holds also of each point on the way, where the run has
-- not come to an end and has written the first of its writes.
use Rattle.std.specs.Prelude.{◌≡◌, ◌≤◌, ℕ, true, false, List, [], ◌∷◌, ◌++◌, length, None, Some, codes}
use Rattle.std.specs.Fmt.{decimal}
use Rattle.sr_text.specs.Utf8.{Decodes, FirstFault, IsTooLong}
use Rattle.sr_ast.specs.declared.reading.Reading.{Reading}
use Rattle.sr_model.specs.Values.{Text, root}
use Rattle.sr_model.specs.Outcomes.{StringLength}
use Rattle.sr_model.specs.Events as events
use Rattle.sr_state.specs.Work.{Holds}
use Rattle.sr_worlds.specs.Live.{LiveRan}
use Rattle.sr_worlds.specs.Run.{run}
use Rattle.sr_outside.specs.declared.loader.Loaded.{Loaded}
use Rattle.sr_outside.specs.declared.loader.Loaded.TheVariants as loaded
use Rattle.sr_script.specs.Built.{IsReading}
use Rattle.sr_machine.specs.Language.{language}
use Rattle.sr_command.specs.declared.status.Status.TheVariants.{WordsRefused, Stopped, NoText, ReadFailed, NotBuilt}
use Rattle.sr_command.specs.Words.{Command, command, is_unbuilt_name}
use Rattle.sr_command.specs.Courses.{Course, LeadsTo, refused_with, stop_name, stop_text, course_of}

-- a file that is not built
abbrev pub not_built : List ℕ → Course
not_built name = refused_with NotBuilt (codes "not built: " ++ name)

-- A text of more code units than a string may have is none: the run stops before the realm is given the file, where no tree has
-- paid.
abbrev pub too_long : Course
too_long = refused_with Stopped (stop_text (stop_name StringLength) root (record { source = 0; at = 0 }))

-- the run of a file of a script in the first realm, in the language that reads texts so, with a bound of steps; tasks are nested at most
-- n deep, and there are fewer than n turns
abbrev pub reading_run : (Text → Reading) → ℕ → List ℕ → List ℕ → ℕ → LiveRan Holds
reading_run read bound name text n = run (language read) bound n (record { goal = events.Script; name = name; text = text; answers = [] } ∷ [])

-- In every language that reads this text so, the run of the file comes so far with some depth.
abbrev pub RunsReading : ℕ → List ℕ → List ℕ → Reading → Course → Type 0
RunsReading bound name text r course =
    (read : Text → Reading) → read text ≡ r → (n : ℕ) × LeadsTo course (course_of bound (reading_run read bound name text n))

-- The run of a text that a file of this name has. The text has no reading where it is a script that is not built.
pub data RunsText (bound : ℕ) : List ℕ → List ℕ → Course → Type 0 where
  no_reading : {name text : List ℕ} → ((r : Reading) → ¬ (IsReading text r)) → RunsText bound name text (not_built name)
  read : {name text : List ℕ} {r : Reading} {course : Course} → IsReading text r → RunsReading bound name text r course → RunsText bound name text course

-- The run of a file of this name, by the loader's answer.
pub data RunsFile (bound : ℕ) : List ℕ → Loaded → Course → Type 0 where
  absent : {name : List ℕ} → RunsFile bound name loaded.Absent (refused_with NoText (codes "absent: " ++ name))
  failed : {name : List ℕ} → RunsFile bound name loaded.Failed (refused_with ReadFailed (codes "read failed: " ++ name))
  not_utf8 : {name bytes : List ℕ} {at : ℕ} → FirstFault bytes at → RunsFile bound name (loaded.Text bytes) (refused_with NoText (codes "not UTF-8: " ++ name ++ codes " at " ++ decimal at))
  longer : {name bytes : List ℕ} → IsTooLong bytes → RunsFile bound name (loaded.Text bytes) too_long
  text : {name bytes units : List ℕ} {course : Course} → Decodes bytes units → length units ≤ 16777216 → RunsText bound name units course → RunsFile bound name (loaded.Text bytes) course

-- The run of the command with these words, given the answers of the loader in order, each with the name that was asked.
pub data Runs : List (List ℕ) → List (List ℕ × Loaded) → Course → Type 0 where
  words_refused : {words : List (List ℕ)} → command words ≡ None → Runs words [] (refused_with WordsRefused (codes "words refused"))
  name_not_built : {words : List (List ℕ)} {c : Command} → command words ≡ Some c → is_unbuilt_name c.name ≡ true → Runs words [] (not_built c.name)
  file : {words : List (List ℕ)} {c : Command} {answer : Loaded} {course : Course} → command words ≡ Some c → is_unbuilt_name c.name ≡ false
      → RunsFile c.bound c.name answer course → Runs words ((c.name, answer) ∷ []) course
