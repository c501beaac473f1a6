-- Two other ways to run, for which the law of isolation is false.
use Rattle.std.specs.Prelude.{ℕ, zero, suc, [], ◌∷◌, true, nat_le, find, Option, Some, None}
use Rattle.sr_model.specs.Values.{root, child, Passed}
use Rattle.sr_model.specs.Outcomes.{Outcome, Valued, told_of, CallDepth}
use Rattle.sr_model.specs.Events.{Message, Source, Evaluate, Import, Settle, Turn}
use Rattle.sr_model.specs.Ports.{AskEvaluate}
use Rattle.sr_model.specs.Realm.{FirstTurn}
use Rattle.sr_model.specs.Scripts.{Script, Change, Become, Pay, Enter, Tell, Ask, Language}
use Rattle.sr_model.specs.World.{Pending, World, Place, cross}
use Rattle.sr_worlds.specs.Evaluation.{Done, then_do, provided, Outside, follow, ev}
use Rattle.sr_worlds.specs.Live.{Stopped, Broken, Short, LiveRan, LiveMore, end_at, over, take, live}
use Rattle.sr_worlds.specs.Run.{is_of, settled, start, ran_all, tape_of}
use Rattle.sr_worlds.specs.Solo.{Halted, solo}
use Rattle.sr_worlds.specs.Replay.{Verdict, played, replay}
use Rattle.sr_worlds.specs.Small.{Nothing, Steps, language_of, string, file, done, leave, makes_child, asks_import, later}

module _ {T R : Type 0} (l : Language T R) where
  -- 1. entering a function counts the call, up to a limit, and pays nothing; and so in a replay, of its own calls. Else they are the
  -- live and the solo outside
  abbrev pub apart_live : ℕ → ℕ → Outside T R
  apart_live limit bound = record (live l bound) { enter = λ c w. provided (nat_le (suc c.calls) limit) w (end_at (Stopped CallDepth) c) (Done w tt) }

  abbrev pub apart_solo : ℕ → ℕ → Outside T R
  apart_solo limit bound = record (solo l bound) { enter = λ c s. provided (nat_le (suc c) limit) s Halted (Done s tt) }

  -- 2. the parent takes a settling at once
  abbrev pub at_once : LiveMore T R → Place → World R → Outcome Passed → Option Pending → LiveRan R
  at_once more c w o None = over Broken c w
  at_once more c w o (Some row) = take l more row.parent c (cross row.parent row.child (settled o) w) (Settle row.asked (told_of o))

  -- where a script begins with it. Else a script is followed as in a run
  abbrev pub at_once_follow : ℕ → LiveMore T R → Place → World R → Script T R → LiveRan R
  at_once_follow bound more c w (Tell n o k) =
      then_do (at_once more c w o (find (is_of (record { child = c.realm; taken = n; outcome = o })) w.pending)) (λ w' x. follow l (live l bound) more c w' k)
  at_once_follow bound more c w k = follow l (live l bound) more c w k

  -- and so are its parts
  abbrev pub at_once_ev : ℕ → ℕ → LiveMore T R
  at_once_ev bound zero c w t = over Short c w
  at_once_ev bound (suc d) c w t = at_once_follow bound (at_once_ev bound d) c w (l.row t)

-- each text can be evaluated
abbrev pub tiny : (Message → Steps) → Language Message Nothing
tiny row = language_of row (λ text. true)

-- a script enters a function and asks its child, which enters one too and ends without a charge
abbrev pub enters : Message → Steps
enters (Source goal name text) = makes_child (Enter (Ask (AskEvaluate 1 []) (λ y. done)))
enters m = Enter (leave [])

-- its run, where one call may be active
abbrev pub apart_run : LiveRan Nothing
apart_run = ran_all (tiny enters) (ev (tiny enters) (apart_live (tiny enters) 1 50) 20) 20 (start (tiny enters)) (file [] ∷ [])

-- the replay of the child's tape
abbrev pub apart_replay : Verdict Nothing
apart_replay = played (tiny enters) (ev (tiny enters) (apart_solo (tiny enters) 1 50) 20) (child root 1) (tape_of (child root 1) apart_run)

-- a script imports from its child, which enters a job. The job settles the import as another task, and ends. The settling pays more than the
-- bound has room for
abbrev pub settles : Message → Steps
settles (Source goal name text) = makes_child (asks_import [] [] done)
settles (Import specifier name) = Pay 0 (Change (λ i. record i { imports = 1 }) (later FirstTurn [] done))
settles Turn = Pay 0 (Change (λ i. record i { jobs = [] }) (Become (Evaluate [])))
settles (Evaluate text) = Tell 1 (Valued (string [])) done
settles (Settle n o) = Pay 99 done
settles m = done

-- its run with settlings taken at once
abbrev pub at_once_run : LiveRan Nothing
at_once_run = ran_all (tiny settles) (at_once_ev (tiny settles) 50 20) 20 (start (tiny settles)) (file [] ∷ [])

-- the replay of the child's tape
abbrev pub at_once_replay : Verdict Nothing
at_once_replay = replay (tiny settles) 50 20 (child root 1) (tape_of (child root 1) at_once_run)
