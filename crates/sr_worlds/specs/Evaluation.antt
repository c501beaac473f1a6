-- The one recursion over the scripts of a language, over any outside.
use Rattle.std.specs.Prelude.{ℕ, zero, suc, Bool, true, false}
use Rattle.sr_model.specs.Values.{Text, Name, Crossing, Passed}
use Rattle.sr_model.specs.Outcomes.{Outcome, Completion, Stop}
use Rattle.sr_model.specs.Events.{Answer}
use Rattle.sr_model.specs.Ports.{Request}
use Rattle.sr_model.specs.Realm.{Inner, Realm}
use Rattle.sr_model.specs.Scripts.{Script, Give, Halt, Look, Change, Part, Become, Pay, Enter, Line, Ticket, NewRealm, Tell, Load, Ask, Language}

-- what evaluation comes to, from states S with ends E: a value, as how a task ended; or an end of all
pub data Ran (S E A : Type 0) : Type 0 where
  Done : S → A → Ran S E A
  Over : S → E → Ran S E A

-- an end of all ends what follows
abbrev pub then_do : {S E A B : Type 0} → Ran S E A → (S → A → Ran S E B) → Ran S E B
then_do (Done s x) go = go s x
then_do (Over s e) go = Over s e

-- where a test fails, an end of all
abbrev pub provided : {S E A : Type 0} → Bool → S → E → Ran S E A → Ran S E A
provided true s e r = r
provided false s e r = Over s e

-- the last state, whatever the end
abbrev pub state_of : {S E A : Type 0} → Ran S E A → S
state_of (Done s x) = s
state_of (Over s e) = s

-- evaluates a task
abbrev pub Evaluator : Type 0 → Type 0 → Type 0 → Type 0 → Type 0
Evaluator C S E T = C → S → T → Ran S E Completion

-- what stands around a realm whose tasks are evaluated. A context is that of one task and ends with it
pub record Outside (T R : Type 0) : Type 1 where
  pub Context : Type 0
  pub State : Type 0
  pub End : Type 0
  pub realm : Context → State → Realm R
  pub put : Context → Inner R → State → State
  pub halt : Context → Stop → End
  pub spent : Context → End  -- tasks are nested too deep
  pub pay : ℕ → Context → State → Ran State End (Unit {0})
  pub enter : Context → State → Ran State End (Unit {0})
  pub deeper : Context → Context  -- with one more active call
  pub line : Text → Context → State → State
  pub ticket : Context → State → State
  pub birth : Context → State → State
  pub tell : ℕ → Outcome Passed → Context → State → State
  pub load : Name → Context → State → Ran State End Answer
  pub ask : Evaluator Context State End T → Request → Context → State → Ran State End (Outcome Crossing)

module _ {T R : Type 0} (l : Language T R) (o : Outside T R) where
  -- what evaluates tasks in this outside
  abbrev pub More : Type 0
  More = Evaluator o.Context o.State o.End T

  -- follows a script to its end; more evaluates its parts
  abbrev pub follow : More → o.Context → o.State → Script T R → Ran o.State o.End Completion
  follow more c s (Give x) = Done s x
  follow more c s (Halt x) = Over s (o.halt c x)
  follow more c s (Look f) = follow more c s (f (o.realm c s))
  follow more c s (Change f k) = (let r = o.realm c s in follow more c (o.put c (f r.inner) s) k)
  follow more c s (Part t k) = then_do (more c s t) (λ s' x. follow more c s' (k x))
  follow more c s (Become t) = more c s t
  follow more c s (Pay x k) = then_do (o.pay x c s) (λ s' u. follow more c s' k)
  follow more c s (Enter k) = then_do (o.enter c s) (λ s' u. follow more (o.deeper c) s' k)
  follow more c s (Line text k) = follow more c (o.line text c s) k
  follow more c s (Ticket k) = follow more c (o.ticket c s) k
  follow more c s (NewRealm k) = follow more c (o.birth c s) k
  follow more c s (Tell n x k) = follow more c (o.tell n x c s) k
  follow more c s (Load name k) = then_do (o.load name c s) (λ s' x. follow more c s' (k x))
  follow more c s (Ask x k) = then_do (o.ask more x c s) (λ s' y. follow more c s' (k y))

  -- evaluates a task, with parts nested at most d deep
  abbrev pub ev : ℕ → More
  ev zero c s t = Over s (o.spent c)
  ev (suc d) c s t = follow (ev d) c s (l.row t)
