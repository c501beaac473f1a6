-- What a state comes to: its frames as the stack of a run.
use Rattle.std.specs.Prelude.{ℕ, ◌-◌, List, [], ◌∷◌}
use Rattle.sr_ast.specs.declared.reading.Reading.{Reading}
use Rattle.sr_model.specs.Values.{Text}
use Rattle.sr_model.specs.World.{Write, World, Place}
use Rattle.sr_worlds.specs.Live.{LiveRan, Short, over}
use Rattle.sr_worlds.specs.Stacks.{Waits, top}
use Rattle.sr_worlds.specs.LiveStacks.{LiveFrames, live_means}
use Rattle.sr_state.specs.declared.frame.Frame.{Frame}
use Rattle.sr_state.specs.Held.{Held}
use Rattle.sr_state.specs.Step.{Ended, given_of}
use Rattle.sr_state.specs.Work.{Holds, Work, Steps}
use Rattle.sr_machine.specs.Language.{language}
use Rattle.sr_machine.specs.Stages.{script_of}
use Rattle.sr_machine.specs.Worlds.{Tapes, world_of, place_of}

-- the frames that wait, each with the depth to which its parts may be nested. c gives the place by the active calls
abbrev pub waiting : (ℕ → Place) → List Frame → List ℕ → LiveFrames Work Holds
waiting c [] ds = []
waiting c (f ∷ fs) [] = []
waiting c (f ∷ fs) (d ∷ ds) = Waits d (c f.calls) (λ o. script_of f (Ended o)) ∷ waiting c fs ds

module _ (read : Text → Reading) (bound : ℕ) where
  -- what a script with k active calls comes to above frames
  abbrev pub above : (ℕ → Place) → World Holds → ℕ → Steps → ℕ → List Frame → List ℕ → LiveRan Holds
  above c w k s d fs ds = live_means (language read) bound (top d (c k) w s (waiting c fs ds))

  -- what a state still comes to, where v was written, by the depths of its frames from the top down
  abbrev pub comes : Tapes → List Write → Held → List ℕ → LiveRan Holds
  comes z v h [] = over Short (place_of h 0) (world_of z v h)
  comes z v h (d ∷ ds) = (let f = h.top in above (place_of h) (world_of z v h) f.calls (script_of f (given_of h.answer)) d h.frames ds)

-- depths by how much less they are than the whole one
abbrev pub depths : List ℕ → ℕ → List ℕ
depths [] n = []
depths (o ∷ os) n = (n - o) ∷ depths os n
