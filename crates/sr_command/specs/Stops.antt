-- The last lines of a run, as the code knows them.
use Rattle.std.specs.Prelude.{ℕ, List, [], ◌∷◌, ◌++◌, Option, None, Some, codes}
use Rattle.std.specs.Fmt.{decimal}
use Rattle.sr_text.specs.Encoding.{utf8_of}
use Rattle.sr_num.specs.declared.stop.NumStop.{NumStop}
use Rattle.sr_model.specs.Values.{Text}
use Rattle.sr_conv.specs.Plain.{number_stop_of}
use Rattle.sr_state.specs.declared.ends.StopName.{StopName}
use Rattle.sr_state.specs.declared.ends.StopName.TheVariants as stop
use Rattle.sr_machine.specs.declared.live.StopAt.{StopAt}
use Rattle.sr_command.specs.declared.status.Status.{Status}
use Rattle.sr_command.specs.declared.status.Status.TheVariants as status
use Rattle.sr_command.specs.Courses.{Course, line_ending, number_stop_name, unsupported_name, steps_name}

-- the name of a stop of arithmetic
abbrev pub number_name : NumStop → List ℕ
number_name s = number_stop_name (number_stop_of s)

-- the status of a run that stopped so, and the name of the stop, with a bound of steps
abbrev pub stop_end : ℕ → StopName → Status × List ℕ
stop_end bound (stop.Number s) = (status.Stopped, number_name s)
stop_end bound stop.StringLength = (status.Stopped, codes "string length")
stop_end bound stop.CallDepth = (status.Stopped, codes "call depth")
stop_end bound stop.SyntaxDepth = (status.Stopped, codes "syntax depth")
stop_end bound (stop.Unsupported m at) = (status.Stopped, unsupported_name m at)
stop_end bound (stop.Steps used cost) = (status.OutOfSteps, steps_name used bound cost)

-- the line of a stop in the first realm
abbrev pub stop_line : List ℕ → ℕ → ℕ → List ℕ
stop_line name source at = codes "stop: " ++ name ++ codes ", realm 0, source " ++ decimal source ++ codes ", at " ++ decimal at ++ 0x0A ∷ []

-- what is left of a run that stopped
abbrev pub stop_ending : ℕ → StopAt → Course
stop_ending bound s = (let e = stop_end bound s.name in line_ending e.0 (stop_line e.1 s.source s.at))

-- the line of an uncaught throw, by what is told of it
abbrev pub uncaught_line : List ℕ → Text → List ℕ
uncaught_line name text = codes "uncaught " ++ name ++ codes ": " ++ utf8_of text ++ 0x0A ∷ []

-- what is left of a run in which nothing is left to do, by what is told of the throw that it ended in
abbrev pub last_ending : List ℕ → Option Text → Course
last_ending name None = record { writes = []; status = Some status.Ran }
last_ending name (Some text) = line_ending status.Threw (uncaught_line name text)
