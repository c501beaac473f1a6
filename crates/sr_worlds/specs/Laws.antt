-- What the laws say.
use Rattle.std.specs.Prelude.{ℕ, ◌≤◌, ◌≡◌, List, ◌++◌, Bool, true, false, All}
use Rattle.sr_model.specs.Values.{Path, child, Kin}
use Rattle.sr_model.specs.Events.{Event}
use Rattle.sr_model.specs.Scripts.{Language}
use Rattle.sr_model.specs.World.{Link, Pending, Write, World}
use Rattle.sr_worlds.specs.Evaluation.{Ran, Done, Over}
use Rattle.sr_worlds.specs.Live.{Why, Open, Short, LiveEnd, LiveReach, LiveRan}
use Rattle.sr_worlds.specs.Run.{realm_of, tape_of, world_of}
use Rattle.sr_worlds.specs.Solo.{SoloEnd, Bound, Spent}
use Rattle.sr_worlds.specs.Replay.{Verdict, Fits, Bounded, Unknown, replay}

-- with every large enough depth, the replay of the tape has this verdict
abbrev pub Replays : {T R : Type 0} → Language T R → ℕ → Path → List Event → Verdict R → Type 0
Replays l bound p tape v = (least : ℕ) × ((n : ℕ) → least ≤ n → replay l bound n p tape ≡ v)

-- it is no end of a run where answers or depth were missing
abbrev pub Ends : Why → Type 0
Ends Open = ⊥
Ends Short = ⊥
Ends why = Unit {0}

-- a run has come to its end: nothing is left to do, or it stopped
abbrev pub Ended : {R : Type 0} → LiveRan R → Type 0
Ended (Done w o) = Unit {0}
Ended (Over w e) = Ends e.why

-- realm p, as the run leaves it, is what the replay of its tape gives
abbrev pub Isolated : {T R : Type 0} → Language T R → ℕ → Path → LiveRan R → Type 0
Isolated l bound p r = Ended r → Replays l bound p (tape_of p r) (Fits (realm_of p r))

-- two runs that leave realm p the same tape leave it the same
abbrev pub Alike : {R : Type 0} → Path → LiveRan R → LiveRan R → Type 0
Alike p r r' = Ended r → Ended r' → tape_of p r ≡ tape_of p r' → realm_of p r ≡ realm_of p r'

-- whether it ended by giving up
abbrev pub gave_up : {S E A : Type 0} → (E → Bool) → Ran S E A → Bool
gave_up is_up (Done s x) = false
gave_up is_up (Over s e) = is_up e

-- it comes to the same, unless it had given up
abbrev pub Lasts : {S E A : Type 0} → (E → Bool) → Ran S E A → Ran S E A → Type 0
Lasts is_up r r' = gave_up is_up r ≡ false → r' ≡ r

-- a run gives up where tasks are nested too deep
abbrev pub is_short : Why → Bool
is_short Short = true
is_short why = false

-- whether an end is that of a run which gave up
abbrev pub short : LiveEnd → Bool
short e = is_short e.why

-- a replay gives up where tasks are nested too deep; where its bound may grow, also at the bound
abbrev pub gives_up : Bool → SoloEnd → Bool
gives_up grows (Bound x) = grows
gives_up grows Spent = true
gives_up grows e = false

-- a verdict that more depth does not change
abbrev pub Known : {R : Type 0} → Verdict R → Type 0
Known Unknown = ⊥
Known v = Unit {0}

-- a verdict that a larger bound does not change either
abbrev pub Certain : {R : Type 0} → Verdict R → Type 0
Certain (Bounded r x) = ⊥
Certain Unknown = ⊥
Certain v = Unit {0}

-- what was written up to the last world, whatever the end
abbrev pub writes_of : {R A : Type 0} → LiveReach R A → List Write
writes_of r = (let w = world_of r in w.writes)

-- the first writes are the beginning of the others
abbrev pub IsStart : List Write → List Write → Type 0
IsStart xs ys = (rest : List Write) × (ys ≡ xs ++ rest)

-- a link row joins a realm and its direct parent
abbrev pub IsKin : Link → Type 0
IsKin row = Kin row.realm row.owner

-- a pending row joins an import of a realm and one of its direct child
abbrev pub IsOfChild : Pending → Type 0
IsOfChild row = (k : ℕ) × (row.child ≡ child row.parent k)

-- the rows outside the realms join a realm and its direct parent, and no others
abbrev pub Joined : {R : Type 0} → World R → Type 0
Joined w = All IsKin w.links × All IsOfChild w.pending
