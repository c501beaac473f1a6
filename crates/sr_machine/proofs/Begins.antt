-- How a run begins, what is left at rest, and what was written.
use Rattle.std.proofs.Common.{◌≡◌, refl, sym, ap, ◌∙◌, subst, ℕ, zero, suc, ◌-◌, ◌≤◌, Bool, true, false, List, [], ◌∷◌, arith, length}
use Rattle.sr_ast.specs.declared.reading.Reading.{Reading}
use Rattle.sr_model.specs.Values.{Text, Name, Path, root, same}
use Rattle.sr_model.specs.Outcomes as model
use Rattle.sr_model.specs.Events.{Goal, Event, Source, Took}
use Rattle.sr_model.specs.Realm.{fresh}
use Rattle.sr_model.specs.World.{Write, World, Place, choose, with_event, fresh_slot, event}
use Rattle.sr_worlds.specs.Evaluation.{Done, follow, ev}
use Rattle.sr_worlds.specs.Live.{LiveRan, live}
use Rattle.sr_worlds.specs.LiveStacks.{live_owed, live_means}
use Rattle.sr_worlds.specs.Run.{start}
use Rattle.sr_worlds.specs.Stacks.{top, after}
use Rattle.sr_worlds.specs.Laws.{writes_of, IsStart}
use Rattle.sr_worlds.proofs.StackSteps.{live_begins}
use Rattle.sr_worlds.proofs.LiveLarger.{start_self, then_writes, follow_writes}
use Rattle.sr_stmt.specs.Rows.{source}
use Rattle.sr_state.specs.declared.frame.Activity.{Activity}
use Rattle.sr_state.specs.declared.frame.Activity.TheVariants as activity
use Rattle.sr_state.specs.declared.frame.Frame.{Frame}
use Rattle.sr_state.specs.declared.ends.Answer.{Answer}
use Rattle.sr_state.specs.declared.ends.Answer.TheVariants as answer
use Rattle.sr_state.specs.declared.ends.Completion.{Completion}
use Rattle.sr_state.specs.Contexts.{context_of}
use Rattle.sr_state.specs.Ends.{completion_of}
use Rattle.sr_state.specs.Held.{Held, is_idle}
use Rattle.sr_state.specs.Step.{Given, Began, Ended, given_of, kept_of}
use Rattle.sr_state.specs.Work.{Holds, Steps, born}
use Rattle.sr_machine.specs.Language.{language, source_of}
use Rattle.sr_machine.specs.Stages.{passed, at_of, script_of}
use Rattle.sr_machine.specs.Worlds.{Tapes, world_of, place_of}
use Rattle.sr_machine.specs.Stack.{waiting, above, comes, depths}
use Rattle.sr_machine.specs.Going.{IsReady, Ready, AtRest, Under}
use Rattle.sr_machine.specs.Running.{given, source_as, source_run, source_tapes, Begins, EndsAtRest, WritesFirst}
use Rattle.sr_machine.proofs.Comes.{not_both}

first_slot : (b : Bool) (q : Path) (e : Event) → choose b (with_event e (fresh_slot born root)) (fresh_slot born q) ≡ record { realm = choose b (fresh born root) (fresh born q); tape = choose b (e ∷ []) [] }
first_slot true q e = refl
first_slot false q e = refl

module _ (read : Text → Reading) (bound : ℕ) (goal : Goal) (name : Name) (text : Text) where
  abbrev tapes : Tapes
  tapes = source_tapes goal name text

  abbrev held : Held
  held = (given bound (source_as read text)).held

  first_world : event root (Took (Source goal name text)) (start (language read)) ≡ world_of tapes [] held
  first_world = (λ j. let w : World Holds = start (language read) in record w { slots = λ q. first_slot (same q root) q (Took (Source goal name text)) j })

  first_same : (n : ℕ) → 1 ≤ n → source_run read bound goal name text n ≡ comes read bound tapes [] held (depths (1 ∷ []) n)
  first_same zero le = absurd (omega (arith, le))
  first_same (suc d) le =
      live_begins (language read) bound d root (Source goal name text) (start (language read)) refl
      ∙ (λ i. live_means (language read) bound (top ((let e : d ≡ suc d - 1 = omega arith in e) i) (place_of held 0) (first_world i) (source text (source_of read text)) []))

pub begins : Begins
begins read bound goal name text = record {
  sound = record { here = (refl, refl); live = refl; bounded = refl; within = omega arith; ready = tt; waits = tt; rest = λ e. not_both e refl };
  offsets = 1 ∷ [];
  along = refl;
  least = 1;
  same = first_same read bound goal name text;
}

idle_is : (a : Activity) → is_idle a ≡ true → a ≡ activity.Idle
idle_is activity.Idle e = refl
idle_is a e = cc

module _ (read : Text → Reading) (bound : ℕ) (z : Tapes) (meaning : ℕ → LiveRan Holds) (v : List Write) (h : Held) where
  idle_script : AtRest h → (g : Given) → script_of h.top g ≡ passed g
  idle_script rest g = ap (λ (a : Activity). at_of a (context_of h.top.context) h.top.stage (kept_of h.top) g) (idle_is h.top.activity rest)

  ends_by : (a : Answer) → h.answer ≡ a → AtRest h → Under read bound z meaning v h → (o : Completion) × (a ≡ answer.Done o) × (least : ℕ) × ((n : ℕ) → least ≤ n → meaning n ≡ Done (world_of z v h) (completion_of o))
  ends_by answer.Empty is rest u = absurd (subst IsReady (idle_script rest Began) (let s = u.sound in subst (Ready h.top) is s.ready))
  ends_by (answer.Done o) is rest u = (o, refl, u.least, λ n le. u.same n le ∙ ends u.offsets u.along n)
    where
      ends : (os : List ℕ) → length os ≡ suc (length h.frames) → (n : ℕ) → comes read bound z v h (depths os n) ≡ Done (world_of z v h) (completion_of o)
      ends [] long n = absurd (omega (arith, long))
      ends (p ∷ ps) long n =
          (let s = u.sound in
          ap (λ (a : Answer). above read bound (place_of h) (world_of z v h) h.top.calls (script_of h.top (given_of a)) (n - p) h.frames (depths ps n)) is
          ∙ (λ i. above read bound (place_of h) (world_of z v h) h.top.calls (idle_script rest (Ended (completion_of o)) i) (n - p) (s.rest rest i) (depths ps n)))

  abbrev followed : ℕ → Place → World Holds → Steps → LiveRan Holds
  followed d c w s = follow (language read) (live (language read) bound) (ev (language read) (live (language read) bound) d) c w s

  after_grows : (c : ℕ → Place) (fs : List Frame) (ds : List ℕ) (w : World Holds) (x : model.Completion) → IsStart w.writes (writes_of (after (language read) (live (language read) bound) (live_owed (language read) bound) (waiting c fs ds) w x))
  after_grows c [] ds w x = start_self w.writes
  after_grows c (f ∷ fs) [] w x = start_self w.writes
  after_grows c (f ∷ fs) (d ∷ ds) w x =
      then_writes w.writes (followed d (c f.calls) w (script_of f (Ended x))) _ (follow_writes (language read) bound d (script_of f (Ended x)) (c f.calls) w) (after_grows c fs ds)

  comes_grows : (ds : List ℕ) → IsStart v (writes_of (comes read bound z v h ds))
  comes_grows [] = start_self v
  comes_grows (d ∷ ds) =
      (let s = script_of h.top (given_of h.answer) in
      then_writes v (followed d (place_of h h.top.calls) (world_of z v h) s) _ (follow_writes (language read) bound d s (place_of h h.top.calls) (world_of z v h)) (after_grows (place_of h) h.frames ds))

pub ends_at_rest : EndsAtRest
ends_at_rest h rest read bound z meaning v u = ends_by read bound z meaning v h h.answer refl rest u

pub writes_first : WritesFirst
writes_first h read bound z meaning v u = (u.least, λ n le. subst (λ (r : LiveRan Holds). IsStart v (writes_of r)) (sym (u.same n le)) (comes_grows read bound z meaning v h (depths u.offsets n)))
