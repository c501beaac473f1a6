-- A run as contracts see it, and its steps.
use Rattle.std.specs.Prelude.{◌≡◌, ℕ, ◌≤◌, [], ◌∷◌, Option, None, Some}
use Rattle.sr_ast.specs.declared.reading.Reading.{Reading}
use Rattle.sr_model.specs.Values.{Text, Name, root, same}
use Rattle.sr_model.specs.Events.{Goal, Source, Took}
use Rattle.sr_model.specs.Realm.{Realm}
use Rattle.sr_model.specs.World.{choose}
use Rattle.sr_conv.specs.Plain.{value_of}
use Rattle.sr_worlds.specs.Evaluation.{Done, ev}
use Rattle.sr_worlds.specs.Laws.{IsStart}
use Rattle.sr_worlds.specs.Laws as laws
use Rattle.sr_worlds.specs.Live.{LiveRan, live}
use Rattle.sr_worlds.specs.Run.{give, start}
use Rattle.sr_state.specs.declared.frame.Frame.{Frame}
use Rattle.sr_state.specs.declared.frame.Source as code
use Rattle.sr_state.specs.Work.{Holds}
use Rattle.sr_state.specs.declared.frame.Activity.TheVariants as activity
use Rattle.sr_state.specs.declared.ends.Answer.{Answer}
use Rattle.sr_state.specs.declared.ends.Answer.TheVariants as answer
use Rattle.sr_state.specs.declared.ends.Completion.{Completion}
use Rattle.sr_state.specs.declared.ends.Completion.TheVariants as completion
use Rattle.sr_state.specs.Ends.{completion_of}
use Rattle.sr_state.specs.declared.ends.Abrupt.TheVariants as abrupt
use Rattle.sr_state.specs.Held.{Held, Side, first, fresh_frame, no_source, realm_in, answered, topped}
use Rattle.sr_machine.specs.declared.live.Ended.{Ended}
use Rattle.sr_machine.specs.declared.live.Ended.TheVariants as ended
use Rattle.sr_machine.specs.declared.live.Advance.{Advance}
use Rattle.sr_machine.specs.declared.live.Advance.TheVariants as advance
use Rattle.sr_machine.specs.declared.live.StopAt.{StopAt}
use Rattle.sr_machine.specs.Language.{throw_report, language, source_of}
use Rattle.sr_machine.specs.Worlds.{Tapes, world_of}
use Rattle.sr_machine.specs.Going.{AtRest, ForRuns, Under, StopsBy}

-- the state, and what ended the run
pub record Running : Type 0 where
  pub held : Held
  pub over : Option Ended

-- a run to which nothing was given
abbrev pub opened : ℕ → Running
opened bound = record { held = first bound; over = None }

-- a frame that begins a source
abbrev pub source_frame : code.Source → Frame
source_frame x = fresh_frame (activity.Source x) no_source 0 []

-- a run to which a source is given
abbrev pub giving : code.Source → Running → Running
giving x r = record r { held = topped (source_frame x) r.held }

abbrev pub given : ℕ → code.Source → Running
given bound x = giving x (opened bound)

-- a source of this text, and what that is as it is read
abbrev pub source_as : (Text → Reading) → Text → code.Source
source_as read text = record { text = text; code = source_of read text }

-- what the first realm does with a text, by the depth to which tasks may be nested; and the tapes while it does
abbrev pub source_run : (Text → Reading) → ℕ → Goal → Name → Text → ℕ → LiveRan Holds
source_run read bound goal name text n = give (language read) (ev (language read) (live (language read) bound) n) root (Source goal name text) (start (language read))

abbrev pub source_tapes : Goal → Name → Text → Tapes
source_tapes goal name text q = choose (same q root) (Took (Source goal name text) ∷ []) []

-- a run that was given a text is the state of what that comes to
abbrev pub Begins : Type 0
Begins = (read : Text → Reading) (bound : ℕ) (goal : Goal) (name : Name) (text : Text) →
    Under read bound (source_tapes goal name text) (source_run read bound goal name text) [] (given bound (source_as read text)).held

-- where nothing is under way, a run has come to an end, which is what is given
abbrev pub EndsAtRest : Type 0
EndsAtRest = (h : Held) → AtRest h →
    ForRuns h (λ read bound z meaning v. (o : Completion) × (h.answer ≡ answer.Done o) × (least : ℕ) × ((n : ℕ) → least ≤ n → meaning n ≡ Done (world_of z v h) (completion_of o)))

-- what was written is the beginning of all that a run writes
abbrev pub WritesFirst : Type 0
WritesFirst = (h : Held) → ForRuns h (λ read bound z meaning v. (least : ℕ) × ((n : ℕ) → least ≤ n → IsStart v (laws.writes_of (meaning n))))

-- the answer after the end
abbrev pub answer_of : Ended → Advance
answer_of (ended.Stop s) = advance.Stop s
answer_of ended.Write = advance.Write
answer_of ended.Memory = advance.Memory

-- what ended the run is remembered
abbrev pub Remembers : Advance → Option Ended → Type 0
Remembers (advance.Stop s) over = over ≡ Some (ended.Stop s)
Remembers advance.Write over = over ≡ Some ended.Write
Remembers advance.Memory over = over ≡ Some ended.Memory
Remembers a over = Unit {0}

-- the start of the last tree whose charge was paid
abbrev pub IsLastPlace : StopAt → Side → Type 0
IsLastPlace s x = (let l = (realm_in x).inner.rest.last in (s.source ≡ l.source) × (s.at ≡ l.at))

-- the run stopped
abbrev pub Stopped : StopAt → Held → Held → Type 0
Stopped s old new = StopsBy s.name old new × IsLastPlace s new.side

-- the report of the throw in which the source ended, in the realm as it is then
abbrev pub thrown_of : Realm Holds → Answer → Option Text
thrown_of r (answer.Done (completion.Abrupt (abrupt.Throw v))) = Some (throw_report r (value_of v))
thrown_of r a = None

-- the report of the throw in which a run ended
abbrev pub thrown_in : Held → Option Text
thrown_in h = thrown_of (realm_in h.side) h.answer

-- after that was told
abbrev pub told : Running → Running
told r = record r { held = answered answer.Empty r.held }
