-- A stack of waiting scripts, as a loop over frames keeps it, and what it means; over any outside.
use Rattle.std.specs.Prelude.{ℕ, zero, suc, ◌≡◌, List, [], ◌∷◌}
use Rattle.sr_model.specs.Outcomes.{Completion}
use Rattle.sr_model.specs.Scripts.{Script, Give, Halt, Look, Change, Part, Become, Pay, Enter, Line, Ticket, NewRealm, Tell, Load, Ask, Language, then_follow, IsPlain}
use Rattle.sr_worlds.specs.Evaluation.{Ran, Done, Over, then_do, Outside, follow, ev}

-- below the top stand scripts that wait for a part of theirs, and boundaries that still do something when the work beyond them
-- ends. Each has the depth to which its own parts may be nested
pub data Frame (T R C B : Type 0) : Type 0 where
  Waits : ℕ → C → (Completion → Script T R) → Frame T R C B
  Owes : ℕ → B → Frame T R C B

-- the script on top, with its depth, its context and the state, and the frames below it
pub record Top (T R C S B : Type 0) : Type 0 where
  pub depth : ℕ
  pub context : C
  pub state : S
  pub script : Script T R
  pub below : List (Frame T R C B)

-- a stack
abbrev pub top : {T R C S B : Type 0} → ℕ → C → S → Script T R → List (Frame T R C B) → Top T R C S B
top d c s k fs = record { depth = d; context = c; state = s; script = k; below = fs }

-- owed is what a boundary does
module _ {T R B : Type 0} (l : Language T R) (o : Outside T R) (owed : ℕ → B → o.State → Completion → Ran o.State o.End Completion) where
  -- the frames of this outside
  abbrev pub Frames : Type 0
  Frames = List (Frame T R o.Context B)

  -- what frames come to after the work above them has ended
  abbrev pub after : Frames → o.State → Completion → Ran o.State o.End Completion
  after [] s x = Done s x
  after (Waits d c k ∷ fs) s x = then_do (follow l o (ev l o d) c s (k x)) (after fs)
  after (Owes d b ∷ fs) s x = then_do (owed d b s x) (after fs)

  -- what a stack comes to
  abbrev pub means : Top T R o.Context o.State B → Ran o.State o.End Completion
  means t = then_do (follow l o (ev l o t.depth) t.context t.state t.script) (after t.below)

  -- a task begins above frames, where tasks may be nested one less deep
  abbrev pub begun : ℕ → o.Context → o.State → T → Frames → Ran o.State o.End Completion
  begun zero c s t fs = Over s (o.spent c)
  begun (suc d) c s t fs = means (top d c s (l.row t) fs)

  -- what a stack comes to by one step of the script on top: a part stands above the script, another task in its place, and a port that
  -- ends all ends the stack
  abbrev pub stepped : ℕ → o.Context → o.State → Frames → Script T R → Ran o.State o.End Completion
  stepped d c s fs (Give x) = after fs s x
  stepped d c s fs (Halt x) = Over s (o.halt c x)
  stepped d c s fs (Look f) = means (top d c s (f (o.realm c s)) fs)
  stepped d c s fs (Change f k) = (let r = o.realm c s in means (top d c (o.put c (f r.inner) s) k fs))
  stepped d c s fs (Part t k) = begun d c s t (Waits d c k ∷ fs)
  stepped d c s fs (Become t) = begun d c s t fs
  stepped d c s fs (Pay x k) = then_do (o.pay x c s) (λ s' u. means (top d c s' k fs))
  stepped d c s fs (Enter k) = then_do (o.enter c s) (λ s' u. means (top d (o.deeper c) s' k fs))
  stepped d c s fs (Line text k) = means (top d c (o.line text c s) k fs)
  stepped d c s fs (Ticket k) = means (top d c (o.ticket c s) k fs)
  stepped d c s fs (NewRealm k) = means (top d c (o.birth c s) k fs)
  stepped d c s fs (Tell n x k) = means (top d c (o.tell n x c s) k fs)
  stepped d c s fs (Load name k) = then_do (o.load name c s) (λ s' x. means (top d c s' (k x) fs))
  stepped d c s fs (Ask x k) = then_do (o.ask (ev l o d) x c s) (λ s' y. means (top d c s' (k y) fs))

  -- the steps are exact
  pub record Steps : Type 0 where
    pub exact : (d : ℕ) (c : o.Context) (s : o.State) (k : Script T R) (fs : Frames) → means (top d c s k fs) ≡ stepped d c s fs k
    -- a script that waited goes on
    pub goes_on : (d : ℕ) (c : o.Context) (k : Completion → Script T R) (s : o.State) (x : Completion) (fs : Frames) → after (Waits d c k ∷ fs) s x ≡ means (top d c s (k x) fs)
    -- a part whose row is plain is as well evaluated in place
    pub in_place : (d : ℕ) (c : o.Context) (s : o.State) (t : T) (k : Completion → Script T R) (fs : Frames) → IsPlain (l.row t) →
        means (top (suc d) c s (Part t k) fs) ≡ means (top (suc d) c s (then_follow (l.row t) k) fs)
