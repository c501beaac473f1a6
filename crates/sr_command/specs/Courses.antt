-- What is written of a run of realms, and how far it has come.
use Rattle.std.specs.Prelude.{◌≡◌, ◌⊎◌, ℕ, Bool, true, false, List, [], ◌∷◌, ◌++◌, map, Option, None, Some, codes}
use Rattle.std.specs.Fmt.{decimal}
use Rattle.sr_text.specs.Encoding.{utf8_of}
use Rattle.sr_text.specs.declared.marker.Marker.{Marker}
use Rattle.sr_text.specs.declared.marker.Marker.TheVariants as marker
use Rattle.sr_tag.specs.Path.{path_text}
use Rattle.sr_model.specs.Values.{Path}
use Rattle.sr_model.specs.Outcomes.{NumberStop, NegativeZero, Fraction, Infinite, Unsafe, Form, Stop, Number, Boxing, FunctionText, StringLength, CallDepth, SyntaxDepth, Unsupported, RealmPath}
use Rattle.sr_model.specs.World as worlds
use Rattle.sr_model.specs.Holds.{Spot}
use Rattle.sr_state.specs.Work.{Holds}
use Rattle.sr_worlds.specs.Evaluation.{Done, Over}
use Rattle.sr_worlds.specs.Live.{Why, Stopped, Steps, LiveRan}
use Rattle.sr_machine.specs.Going.{line_of}
use Rattle.sr_command.specs.declared.status.Status.{Status}
use Rattle.sr_command.specs.declared.status.Status.TheVariants as status
use Rattle.sr_command.specs.Writes.{Write, out, err, IsStart}

-- how far a run has come: what it wrote, in order, and the status that it ended with; none where it has not come to an end
pub record Course : Type 0 where
  pub writes : List Write
  pub status : Option Status

-- a run that has ended
abbrev pub HasEnded : Course → Type 0
HasEnded course = (status : Status) × (course.status ≡ Some status)

-- a course leads to another: it is that; or it has not come to an end, and what it wrote is the beginning of what the other wrote
abbrev pub LeadsTo : Course → Course → Type 0
LeadsTo course other = (course ≡ other) ⊎ ((course.status ≡ None) × IsStart course.writes other.writes)

-- these bytes on the errors, in one write, and a status
abbrev pub line_ending : Status → List ℕ → Course
line_ending status line = record { writes = err line ∷ []; status = Some status }

-- a text and a newline on the errors, and a status
abbrev pub refused_with : Status → List ℕ → Course
refused_with status text = line_ending status (text ++ 0x0A ∷ [])

-- the names of the stops
abbrev pub number_stop_name : NumberStop → List ℕ
number_stop_name NegativeZero = codes "negative zero"
number_stop_name Fraction = codes "fraction"
number_stop_name Infinite = codes "infinite"
number_stop_name Unsafe = codes "unsafe integer"
number_stop_name Form = codes "number form"

-- the names of what is left out of the language by name
abbrev pub marker_name : Marker → List ℕ
marker_name marker.NumberForm = codes "number form"
marker_name marker.Bigint = codes "bigint"
marker_name marker.UnsafeLiteral = codes "unsafe literal"
marker_name marker.IdentifierEscape = codes "identifier escape"
marker_name marker.NonAscii = codes "non-ASCII identifier"
marker_name marker.Hash = codes "#"
marker_name marker.At = codes "@"
marker_name marker.Class = codes "class"
marker_name marker.Async = codes "async"
marker_name marker.Await = codes "await"
marker_name marker.Yield = codes "yield"
marker_name marker.Super = codes "super"
marker_name marker.With = codes "with"
marker_name marker.Arguments = codes "arguments"
marker_name marker.Proto = codes "__proto__"
marker_name marker.ImportCall = codes "import call"
marker_name marker.NewTarget = codes "new.target"
marker_name marker.Generator = codes "generator"
marker_name marker.RegularExpression = codes "regular expression"
marker_name marker.TaggedTemplate = codes "tagged template"
marker_name marker.Pattern = codes "pattern"
marker_name marker.DefaultParameter = codes "default parameter"
marker_name marker.ComputedAccessor = codes "computed accessor"

-- what is left out, and where it stands
abbrev pub unsupported_name : Marker → ℕ → List ℕ
unsupported_name m at = codes "unsupported " ++ marker_name m ++ codes " at " ++ decimal at

abbrev pub stop_name : Stop → List ℕ
stop_name (Number s) = number_stop_name s
stop_name Boxing = codes "boxing"
stop_name FunctionText = codes "function text"
stop_name StringLength = codes "string length"
stop_name CallDepth = codes "call depth"
stop_name SyntaxDepth = codes "syntax depth"
stop_name (Unsupported m at) = unsupported_name m at
stop_name RealmPath = codes "realm path"

-- the steps used, the bound, and the charge for which it has no room
abbrev pub steps_name : ℕ → ℕ → ℕ → List ℕ
steps_name used bound cost = codes "steps " ++ decimal used ++ codes " of " ++ decimal bound ++ codes ", charge " ++ decimal cost

-- the text of a path: that of the numbers after the first, which is 0
abbrev pub after_root : Path → List ℕ
after_root [] = []
after_root (n ∷ ns) = ns

-- where a run stopped: the realm, and the source and the start of the last tree that it charged
abbrev pub stop_text : List ℕ → Path → Spot → List ℕ
stop_text name realm last = codes "stop: " ++ name ++ codes ", realm " ++ path_text (after_root realm) ++ codes ", source " ++ decimal last.source ++ codes ", at " ++ decimal last.at

-- the last tree that a realm charged
abbrev pub last_of : Path → worlds.World Holds → Spot
last_of p w = (let s = w.slots p in let r = s.realm in let i = r.inner in let h = i.rest in h.last)

-- what is written of the writes of a world
abbrev pub write_of : worlds.Write → Write
write_of (worlds.Printed text) = out (line_of text)
write_of (worlds.Uncaught name text) = err (codes "uncaught " ++ name ++ codes ": " ++ utf8_of text ++ 0x0A ∷ [])

-- whether a throw was uncaught
abbrev pub is_uncaught : List worlds.Write → Bool
is_uncaught [] = false
is_uncaught (worlds.Printed text ∷ writes) = is_uncaught writes
is_uncaught (worlds.Uncaught name text ∷ writes) = true

abbrev pub status_of : Bool → Status
status_of false = status.Ran
status_of true = status.Threw

-- a run that came to its end
abbrev pub ended : worlds.World Holds → Course
ended w = record { writes = map write_of w.writes; status = Some (status_of (is_uncaught w.writes)) }

-- a run that has not come to an end
abbrev pub under_way : worlds.World Holds → Course
under_way w = record { writes = map write_of w.writes; status = None }

-- a run that stopped: what it wrote, and the line of the stop
abbrev pub stopped : Status → List ℕ → Path → worlds.World Holds → Course
stopped status name realm w = record { writes = map write_of w.writes ++ err (stop_text name realm (last_of realm w) ++ 0x0A ∷ []) ∷ []; status = Some status }

-- by why it is over. For want of depth, of answers, or of where a request goes, it has not come to an end
abbrev pub over_course : ℕ → Why → Path → worlds.World Holds → Course
over_course bound (Stopped x) realm w = stopped status.Stopped (stop_name x) realm w
over_course bound (Steps cost) realm w = stopped status.OutOfSteps (steps_name w.used bound cost) realm w
over_course bound why realm w = under_way w

-- how far a run has come
abbrev pub course_of : ℕ → LiveRan Holds → Course
course_of bound (Done w o) = ended w
course_of bound (Over w e) = (let c = e.place in over_course bound e.why c.realm w)
