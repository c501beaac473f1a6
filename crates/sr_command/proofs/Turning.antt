-- What is written before the turns stays written.
use Rattle.std.proofs.Common.{ℕ, List, [], ◌++◌, refl}
use Rattle.sr_ast.specs.declared.reading.Reading.{Reading}
use Rattle.sr_model.specs.Values.{Text, Name, root}
use Rattle.sr_model.specs.Outcomes.{Completion}
use Rattle.sr_model.specs.World.{Write, World}
use Rattle.sr_state.specs.Work.{Holds}
use Rattle.sr_worlds.specs.Evaluation.{then_do, ev}
use Rattle.sr_worlds.specs.Live.{LiveRan, live}
use Rattle.sr_worlds.specs.Run.{uncaught, turns, ran_all}
use Rattle.sr_worlds.specs.Laws.{writes_of, IsStart}
use Rattle.sr_worlds.proofs.LiveLarger.{start_self, start_more, then_writes, turns_writes}
use Rattle.sr_machine.specs.Language.{language}

module _ (read : Text → Reading) (bound : ℕ) (name : Name) (d : ℕ) where
  -- what follows the evaluation of the file
  abbrev pub turned : World Holds → List Write → LiveRan Holds
  turned w u = turns (language read) (ev (language read) (live (language read) bound) d) d (record w { writes = w.writes ++ u })

  abbrev pub finish : LiveRan Holds → LiveRan Holds
  finish r =
      then_do (then_do r (λ w o. turned w (uncaught (language read) name o (w.slots root))))
      (λ w o. ran_all (language read) (ev (language read) (live (language read) bound) d) d w [])

  turned_starts : (w : World Holds) (u : List Write) → IsStart w.writes (writes_of (turned w u))
  turned_starts w u = start_more w.writes (w.writes ++ u) (writes_of (turned w u)) (u, refl) (turns_writes (language read) bound d d (record w { writes = w.writes ++ u }))

  -- what was written as the evaluation of a file ends stays written
  pub finish_starts : (v : List Write) (r : LiveRan Holds) → IsStart v (writes_of r) → IsStart v (writes_of (finish r))
  finish_starts v r start =
      let turning = λ (w : World Holds) (o : Completion). turned w (uncaught (language read) name o (w.slots root)) in
      then_writes v (then_do r turning) (λ w o. ran_all (language read) (ev (language read) (live (language read) bound) d) d w [])
      (then_writes v r turning start (λ w o. turned_starts w (uncaught (language read) name o (w.slots root)))) (λ w o. start_self w.writes)
