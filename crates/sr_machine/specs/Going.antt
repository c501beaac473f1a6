-- The loop over frames, against the one recursion.
use Rattle.std.specs.Prelude.{◌≡◌, ◌⊎◌, ℕ, ◌≤◌, ◌<◌, ◌+◌, ◌-◌, ◌*◌, suc, Bool, true, false, List, [], ◌∷◌, ◌++◌, Option, None, Some, is_some, length}
use Rattle.std.specs.Io.KnownBytes.{Appends}
use Rattle.sr_outside.specs.Writing.{AppendsPart}
use Rattle.sr_text.specs.Encoding.{utf8_of}
use Rattle.sr_ast.specs.declared.reading.Reading.{Reading}
use Rattle.sr_model.specs.Values.{Text, Value}
use Rattle.sr_model.specs.Outcomes.{Stop}
use Rattle.sr_model.specs.Realm.{Realm}
use Rattle.sr_model.specs.Tasks.{Run}
use Rattle.sr_model.specs.Scripts.{Halt, Look, Change, Part, Pay, Enter}
use Rattle.sr_model.specs.World.{Write, Printed}
use Rattle.sr_worlds.specs.Live.{Why, Stopped, Steps, LiveRan, over}
use Rattle.sr_state.specs.declared.ends.Answer.{Answer}
use Rattle.sr_state.specs.declared.ends.Answer.TheVariants as answer
use Rattle.sr_state.specs.declared.ends.Completion.TheVariants as completion
use Rattle.sr_state.specs.declared.ends.StopName.{StopName}
use Rattle.sr_state.specs.declared.ends.StopName.TheVariants as stop
use Rattle.sr_state.specs.declared.frame.Frame.{Frame}
use Rattle.sr_state.specs.Ends.{IsStop}
use Rattle.sr_state.specs.Held.{Held, Side, realm_in, line_in, with_side, answered, is_idle}
use Rattle.sr_state.specs.Step.{operand_of, tree_now, Began, given_of}
use Rattle.sr_state.specs.Work as language
use Rattle.sr_state.specs.Work.{Holds}
use Rattle.sr_machine.specs.Stages.{script_of}
use Rattle.sr_machine.specs.Stack.{comes, depths}
use Rattle.sr_machine.specs.Worlds.{Tapes, Here, world_of, place_of}

-- what is printed for a string: the string in UTF-8, and a newline
abbrev pub line_of : Text → List ℕ
line_of text = utf8_of text ++ 0x0A ∷ []

-- what a step prints, if it prints a line, and the write
abbrev pub printed_bytes : Option Text → List ℕ
printed_bytes None = []
printed_bytes (Some text) = line_of text

abbrev pub writes_of : Option Text → List Write
writes_of None = []
writes_of (Some text) = Printed text ∷ []

-- after a line of the frame on top: it is given an empty end
abbrev pub printed : Text → Held → Held
printed text h = answered (answer.Done (completion.Normal None)) (with_side h (line_in text h.side))

-- the charge with which a script begins, and 0 where it begins with none
abbrev pub value_charge : Option Value → ℕ
value_charge None = 0
value_charge (Some v) = 1

abbrev pub first_charge : language.Steps → Realm Holds → ℕ
first_charge (Pay c s) r = suc c
first_charge (Enter s) r = 1
first_charge (Look f) r = first_charge (f r) r
first_charge (Change f s) r = first_charge s (record r { inner = f r.inner })
first_charge (Part (Run c t) k) r = value_charge (tree_now c t r)
first_charge s r = 0

-- a step pays nothing, or the first charge of the script of the frame on top
abbrev pub PaysOnce : Held → Held → Type 0
PaysOnce old new =
    (c : ℕ) × (new.side.used ≡ old.side.used + c) × ((c ≡ 0) ⊎ (c ≡ first_charge (script_of old.top (given_of old.answer)) (realm_in old.side)))

-- a script that pays before it makes a part, prints a line, ends or becomes another task
abbrev pub PaysFirst : language.Steps → Type 0
PaysFirst (Pay c s) = Unit {0}
PaysFirst (Enter s) = Unit {0}
PaysFirst (Halt x) = Unit {0}
PaysFirst (Look f) = (r : Realm Holds) → PaysFirst (f r)
PaysFirst (Change f s) = PaysFirst s
PaysFirst s = ⊥

-- the same, or one that begins with a literal or a name, which pays next or gets a frame
abbrev pub IsReady : language.Steps → Type 0
IsReady (Part (Run c t) k) = is_some (operand_of t) ≡ true
IsReady s = PaysFirst s

-- where no answer waits, the frame on top is ready
abbrev pub Ready : Frame → Answer → Type 0
Ready f answer.Empty = IsReady (script_of f Began)
Ready f (answer.Done o) = Unit {0}

-- none of these frames is idle
abbrev pub Busy : List Frame → Type 0
Busy [] = Unit {0}
Busy (f ∷ fs) = (is_idle f.activity ≡ false) × Busy fs

-- nothing is under way
abbrev pub AtRest : Held → Type 0
AtRest h = is_idle h.top.activity ≡ true

-- weights of a state: a number that falls as the loop goes on
abbrev pub frame_weight : Bool → ℕ
frame_weight true = 0
frame_weight false = 2

abbrev pub frames_weight : List Frame → ℕ
frames_weight [] = 0
frames_weight (f ∷ fs) = frame_weight (is_idle f.activity) + frames_weight fs

abbrev pub part_weight : language.Steps → ℕ
part_weight (Part t k) = 3
part_weight s = 0

abbrev pub answer_weight : Frame → Answer → ℕ
answer_weight f answer.Empty = part_weight (script_of f Began)
answer_weight f (answer.Done o) = 7

abbrev pub left_of : Held → ℕ
left_of h = 8 * (h.outer.bound - h.side.used) + frames_weight (h.top ∷ h.frames) + answer_weight h.top h.answer

-- the state of a run, whose realms are told apart, with this bound
pub record Sound (bound : ℕ) (h : Held) : Type 0 where
  pub here : Here h.outer h.side
  pub live : h.outer.cut ≡ None
  pub bounded : h.outer.bound ≡ bound
  pub within : h.side.used ≤ bound
  pub ready : Ready h.top h.answer
  pub waits : Busy h.frames
  pub rest : AtRest h → h.frames ≡ []

module _ (read : Text → Reading) (bound : ℕ) (z : Tapes) where
  -- the state of a run, where v was written, is what a meaning still comes to, for each large enough depth
  pub record Under (meaning : ℕ → LiveRan Holds) (v : List Write) (h : Held) : Type 0 where
    pub sound : Sound bound h
    pub offsets : List ℕ
    pub along : length offsets ≡ suc (length h.frames)
    pub least : ℕ
    pub same : (n : ℕ) → least ≤ n → meaning n ≡ comes read bound z v h (depths offsets n)

-- what is told of a run: of its language, its bound, its tapes, what it comes to by the depth, and what was written
abbrev pub OfRun : Type 1
OfRun = (Text → Reading) → ℕ → Tapes → (ℕ → LiveRan Holds) → List Write → Type 0

-- in each language, whatever the state of a run comes to
abbrev pub ForRuns : Held → OfRun → Type 0
ForRuns h P =
    (read : Text → Reading) (bound : ℕ) (z : Tapes) (meaning : ℕ → LiveRan Holds) (v : List Write) → Under read bound z meaning v h → P read bound z meaning v

-- what was the state of a run is so after a step, which printed a line at most. It paid once at most, and the number has fallen
abbrev pub Moves : Option Text → Held → Held → OfRun
Moves text old new read bound z meaning v = Under read bound z meaning (v ++ writes_of text) new × (left_of new < left_of old) × PaysOnce old new

-- the loop goes on
abbrev pub GoesOn : Held → Held → Option (List ℕ) → Option (List ℕ) → Type 0
GoesOn old new before after = (text : Option Text) × Appends before after (printed_bytes text) × ForRuns old (Moves text old new)

-- why a stop ends the run
abbrev pub IsWhy : StopName → Why → Side → Type 0
IsWhy (stop.Steps used cost) why x = (why ≡ Steps cost) × (used ≡ x.used)
IsWhy name why x = (y : Stop) × (why ≡ Stopped y) × IsStop name y

-- the run is over by this stop, in the world of the new state
abbrev pub Halts : StopName → Held → Held → OfRun
Halts name old new read bound z meaning v =
    (why : Why) × (calls : ℕ) × IsWhy name why new.side × PaysOnce old new × Here new.outer new.side
    × (least : ℕ) × ((n : ℕ) → least ≤ n → meaning n ≡ over why (place_of new calls) (world_of z v new))

-- and so is each run that the old state is of
abbrev pub StopsBy : StopName → Held → Held → Type 0
StopsBy name old new = ForRuns old (Halts name old new)

-- a failing sink took a first part of the next line of the run
abbrev pub BreaksOff : Held → Option (List ℕ) → Option (List ℕ) → Type 0
BreaksOff old before after =
    (text : Text) × (next : Held) × AppendsPart before after (line_of text)
    × ForRuns old (λ read bound z meaning v. Under read bound z meaning (v ++ Printed text ∷ []) next)
