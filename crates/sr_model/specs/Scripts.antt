-- Scripts: what is left of a task, step by step, like the numbered steps of an algorithm.
use Rattle.std.specs.Prelude.{ℕ, zero, suc, Bool, Option}
use Rattle.sr_model.specs.Values.{Text, Name, Path, Value, Crossing, Passed}
use Rattle.sr_model.specs.Outcomes.{Outcome, Completion, Normal, Abrupt, Leave, Stop}
use Rattle.sr_model.specs.Events.{Answer, Message}
use Rattle.sr_model.specs.Ports.{Request}
use Rattle.sr_model.specs.Realm.{Inner, Realm}

-- what is left of a task, in a language with tasks T, whose realms hold R. All by which it reaches beyond its own realm is a port,
-- and what answers a port stands outside the realm
pub data Script (T R : Type 0) : Type 0 where
  Give : Completion → Script T R  -- the task ends
  Halt : Stop → Script T R  -- the run stops
  Look : (Realm R → Script T R) → Script T R  -- goes on by what its realm is now
  Change : (Inner R → Inner R) → Script T R → Script T R  -- changes what its realm holds, and goes on
  Part : T → (Completion → Script T R) → Script T R  -- a further task of the same realm, and then by how it ended
  Become : T → Script T R  -- goes on as another task, in its own place. A loop does so after each turn, since no script is without an end
  Pay : ℕ → Script T R → Script T R  -- a port, as all that follow: pays one step more than this number
  Enter : Script T R → Script T R  -- enters a function: one more active call, and the step of its entry
  Line : Text → Script T R → Script T R  -- prints a line
  Ticket : Script T R → Script T R  -- the realm has one more job
  NewRealm : Script T R → Script T R  -- makes the child whose number the realm drew last
  Tell : ℕ → Outcome Passed → Script T R → Script T R  -- settles an import that it took
  Load : Name → (Answer → Script T R) → Script T R  -- asks the loaders
  Ask : Request → (Outcome Crossing → Script T R) → Script T R  -- asks another realm, and waits for the reply

-- a language, as far as worlds see it
pub record Language (T R : Type 0) : Type 0 where
  pub row : T → Script T R  -- what each task does
  pub work : Message → T  -- the task of a message
  pub born : Path → R  -- what a realm has besides as it is made
  pub readable : Text → Bool  -- whether a text can be evaluated
  pub report : Realm R → Value → Text  -- what is written of an uncaught throw

module _ {T R : Type 0} where
  -- reads what its realm holds
  abbrev pub read : (Inner R → Script T R) → Script T R
  read f = Look (λ r. f r.inner)

  -- pays so many steps. A charge of 0 is none
  abbrev pub pay : ℕ → Script T R → Script T R
  pay zero k = k
  pay (suc cost) k = Pay cost k

  -- goes on with the value of a normal end. Another end is the end of the task (ECMA-262 5.2.3.4 ReturnIfAbrupt)
  abbrev pub or_abrupt : (Option Value → Script T R) → Completion → Script T R
  or_abrupt k (Normal v) = k v
  or_abrupt k (Abrupt x) = Give (Abrupt x)
  or_abrupt k (Leave o) = Give (Leave o)

  -- a part whose abrupt end is the end of the task
  abbrev pub part : T → (Option Value → Script T R) → Script T R
  part task k = Part task (or_abrupt k)

  -- a script, and what follows its end. A function that the script enters is still active then
  abbrev pub then_follow : Script T R → (Completion → Script T R) → Script T R
  then_follow (Give x) k = k x
  then_follow (Halt x) k = Halt x
  then_follow (Look f) k = Look (λ r. then_follow (f r) k)
  then_follow (Change f j) k = Change f (then_follow j k)
  then_follow (Part t j) k = Part t (λ x. then_follow (j x) k)
  then_follow (Become t) k = Part t k
  then_follow (Pay n j) k = Pay n (then_follow j k)
  then_follow (Enter j) k = Enter (then_follow j k)
  then_follow (Line text j) k = Line text (then_follow j k)
  then_follow (Ticket j) k = Ticket (then_follow j k)
  then_follow (NewRealm j) k = NewRealm (then_follow j k)
  then_follow (Tell n o j) k = Tell n o (then_follow j k)
  then_follow (Load name j) k = Load name (λ x. then_follow (j x) k)
  then_follow (Ask x j) k = Ask x (λ y. then_follow (j y) k)

  -- a script that only looks, changes and pays before it ends, or stops the run
  abbrev pub IsPlain : Script T R → Type 0
  IsPlain (Give x) = Unit {0}
  IsPlain (Halt x) = Unit {0}
  IsPlain (Look f) = (r : Realm R) → IsPlain (f r)
  IsPlain (Change f k) = IsPlain k
  IsPlain (Pay n k) = IsPlain k
  IsPlain k = ⊥
