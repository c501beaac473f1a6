-- A run: files in the first realm, each with the turns and the settlings that follow it.
use Rattle.std.specs.Prelude.{ℕ, zero, suc, List, [], ◌∷◌, ◌++◌, Bool, true, false, ◌&&◌, nat_eq, find, Option, Some, None}
use Rattle.sr_model.specs.Values.{Text, Name, Path, root, same, member, Passed}
use Rattle.sr_model.specs.Outcomes.{Outcome, Valued, Thrown, told_of, Completion, Normal, Abrupt, Throw}
use Rattle.sr_model.specs.Events.{Goal, Message, Source, Settle, Turn, Event, Cut}
use Rattle.sr_model.specs.Realm.{Realm}
use Rattle.sr_model.specs.Scripts.{Language}
use Rattle.sr_model.specs.World.{Slot, Pending, Told, Write, Uncaught, Answered, World, Place, fresh_slot, cross}
use Rattle.sr_worlds.specs.Evaluation.{Done, Over, then_do, state_of, ev}
use Rattle.sr_worlds.specs.Live.{Short, Broken, LiveReach, LiveRan, LiveMore, over, take, live}

-- a file, and what the loaders answer while it runs
pub record File : Type 0 where
  pub goal : Goal
  pub name : Name
  pub text : Text
  pub answers : List Answered

-- a place with no event under way
abbrev pub idle : Path → Place
idle p = record { realm = p; calls = 0; under = [] }

-- the value that a settling hands over
abbrev pub settled : Outcome Passed → List Passed
settled (Valued v) = v ∷ []
settled (Thrown text) = []

-- whether a row is that of the import
abbrev pub is_of : Told → Pending → Bool
is_of t row = same row.child t.child && nat_eq row.taken t.taken

-- the line of an uncaught throw
abbrev pub uncaught : {T R : Type 0} → Language T R → Name → Completion → Slot R → List Write
uncaught l name (Abrupt (Throw v)) s = Uncaught name (l.report s.realm v) ∷ []
uncaught l name o s = []

-- the world before a run
abbrev pub start : {T R : Type 0} → Language T R → World R
start l = record {
  slots = λ q. fresh_slot l.born q;
  made = root ∷ [];
  links = [];
  pending = [];
  told = [];
  tickets = [];
  answers = [];
  used = 0;
  writes = [];
}

-- more evaluates the tasks of the language
module _ {T R : Type 0} (l : Language T R) (more : LiveMore T R) where
  -- a realm takes a message while none has an event under way
  abbrev pub give : Path → Message → World R → LiveRan R
  give p m w = take l more p (idle p) w m

  -- the parent takes what its child has settled
  abbrev pub settle : (World R → LiveRan R) → World R → Told → Option Pending → LiveRan R
  settle again w t None = over Broken (idle t.child) w
  settle again w t (Some row) =
      then_do (give row.parent (Settle row.asked (told_of t.outcome)) (cross row.parent row.child (settled t.outcome) w))
      (λ w' o. again w')

  -- what is next: a settling comes before a ticket
  abbrev pub next : (World R → LiveRan R) → World R → List Told → List Path → LiveRan R
  next again w (t ∷ told) tickets = settle again (record w { told = told }) t (find (is_of t) w.pending)
  next again w [] (p ∷ tickets) = then_do (give p Turn (record w { tickets = tickets })) (λ w' o. again w')
  next again w [] [] = Done w (Normal None)

  -- the turns and the settlings, until none is left; at most k of them
  abbrev pub turns : ℕ → World R → LiveRan R
  turns zero w = over Short (idle root) w
  turns (suc k) w = next (turns k) w w.told w.tickets

  -- a file, the line of its uncaught throw, and the turns
  abbrev pub ran : ℕ → World R → File → LiveRan R
  ran k w f =
      then_do (give root (Source f.goal f.name f.text) (record w { answers = f.answers }))
      (λ w' o. turns k (record w' { writes = w'.writes ++ uncaught l f.name o (w'.slots root) }))

  -- one file after the other
  abbrev pub ran_all : ℕ → World R → List File → LiveRan R
  ran_all k w [] = Done w (Normal None)
  ran_all k w (f ∷ fs) = then_do (ran k w f) (λ w' o. ran_all k w' fs)

-- the run of the files, with tasks nested at most n deep and fewer than n turns after each file
abbrev pub run : {T R : Type 0} → Language T R → ℕ → ℕ → List File → LiveRan R
run l bound n files = ran_all l (ev l (live l bound) n) n (start l) files

-- a realm that had an event under way when the run stopped is cut, at its own steps
abbrev pub cuts : {R : Type 0} → Bool → Realm R → List Event
cuts true r = Cut r.own ∷ []
cuts false r = []

-- realm p at the end of a run, with its tape
abbrev pub slot_of : {R : Type 0} → Path → LiveRan R → Slot R
slot_of p (Done w o) = w.slots p
slot_of p (Over w e) = (let c = e.place in let s = w.slots p in record { realm = s.realm; tape = s.tape ++ cuts (member p c.under) s.realm })

-- the realm alone
abbrev pub realm_of : {R : Type 0} → Path → LiveRan R → Realm R
realm_of p r = (let s = slot_of p r in s.realm)

-- the tape alone
abbrev pub tape_of : {R : Type 0} → Path → LiveRan R → List Event
tape_of p r = (let s = slot_of p r in s.tape)

-- the last world of a run, whatever its end
abbrev pub world_of : {R A : Type 0} → LiveReach R A → World R
world_of = state_of
