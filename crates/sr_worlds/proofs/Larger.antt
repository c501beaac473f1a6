-- With a larger depth an evaluation that came to something comes to the same, and one that gave up goes further, over any outside.
use Rattle.std.proofs.Common.{◌≡◌, ℕ, zero, suc, ◌≤◌, Bool, true, false, refl, sym, ap, ◌∙◌, arith}
use Rattle.sr_model.specs.Values.{Name, Text, Crossing, Passed}
use Rattle.sr_model.specs.Outcomes.{Outcome, Completion}
use Rattle.sr_model.specs.Ports.{Request}
use Rattle.sr_model.specs.Realm.{Inner}
use Rattle.sr_model.specs.Scripts.{Script, Give, Halt, Look, Change, Part, Become, Pay, Enter, Line, Ticket, NewRealm, Tell, Load, Ask, Language}
use Rattle.sr_worlds.specs.Evaluation.{Ran, Done, Over, then_do, provided, state_of, Evaluator, Outside, More, follow, ev}
use Rattle.sr_worlds.specs.Laws.{Lasts}

module _ {S E A : Type 0} where
  pub then_then : {B C : Type 0} → (r : Ran S E A) (f : S → A → Ran S E B) (g : S → B → Ran S E C) → then_do (then_do r f) g ≡ then_do r (λ s x. then_do (f s x) g)
  then_then (Done s x) f g = refl
  then_then (Over s e) f g = refl

  -- with nothing to follow
  pub then_done : (r : Ran S E A) → then_do r (λ s x. Done s x) ≡ r
  then_done (Done s x) = refl
  then_done (Over s e) = refl

-- how far states have come. A state is fine where it has come as far as itself, and from there on all are
pub record Order (S : Type 0) : Type 1 where
  pub Before : S → S → Type 0
  pub fine : (s t : S) → Before s t → Before t t
  pub onward : (r s t : S) → Before r s → Before s t → Before r t

module _ {S E : Type 0} (up : E → Bool) (u : Order S) where
  -- from the state s, the second comes at least as far as the first, and to the same unless that had given up
  abbrev pub Ahead : {A : Type 0} → S → Ran S E A → Ran S E A → Type 0
  Ahead s r r' = u.Before s s → Lasts up r r' × u.Before s (state_of r) × u.Before (state_of r) (state_of r')

  pub a_self : {A : Type 0} → (s : S) (r : Ran S E A) → (u.Before s s → u.Before s (state_of r)) → Ahead s r r
  a_self s r h f = (λ n. refl, h f, u.fine s (state_of r) (h f))

  pub a_from : {A : Type 0} → (s t : S) (r r' : Ran S E A) → (u.Before s s → u.Before s t) → Ahead t r r' → Ahead s r r'
  a_from s t r r' to h f = (let a = h (u.fine s t (to f)) in (a.0, u.onward s t (state_of r) (to f) a.1, a.2))

  pub a_grows : {A : Type 0} → (s : S) (r r' : Ran S E A) → Ahead s r r' → u.Before s s → u.Before s (state_of r')
  a_grows s r r' h f = u.onward s (state_of r) (state_of r') (h f).1 (h f).2

  pub a_test : {A : Type 0} → (b : Bool) (s : S) (e : E) (r r' : Ran S E A) → Ahead s r r' → Ahead s (provided b s e r) (provided b s e r')
  a_test true s e r r' h = h
  a_test false s e r r' h = λ f. (λ n. refl, f, f)

  -- where the first has given up
  pub a_short : {A : Type 0} → (s : S) (e : E) (r : Ran S E A) → up e ≡ true → (u.Before s s → u.Before s (state_of r)) → Ahead s (Over s e) r
  a_short s e r given h f = (λ n. let no : true ≡ false = sym given ∙ n in cc, f, h f)

  further_then : {A B : Type 0} → (s : S) (r : Ran S E A) (go go' : S → A → Ran S E B) → u.Before s (state_of r) → ((t : S) (x : A) → Ahead t (go t x) (go' t x)) → u.Before s (state_of (then_do r go'))
  further_then s (Done t x) go go' h all = u.onward s t _ h (a_grows t (go t x) (go' t x) (all t x) (u.fine s t h))
  further_then s (Over t e) go go' h all = h

  pub a_then : {A B : Type 0} → (s : S) (r r' : Ran S E A) (go go' : S → A → Ran S E B) → Ahead s r r' → ((t : S) (x : A) → Ahead t (go t x) (go' t x)) → Ahead s (then_do r go) (then_do r' go')
  a_then s (Done t x) r' go go' h all f = rw ((h f).0 refl) (a_from s t (go t x) (go' t x) (λ f. (h f).1) (all t x) f)
  a_then s (Over t e) r' go go' h all f = (let a = h f in (λ n. ap (λ q. then_do q go') (a.0 n), a.1, further_then t r' go go' a.2 all))

-- an outside, and another that gives up less as it is paid, entered and asked
module _ {T R : Type 0} (l : Language T R) (o : Outside T R) (pay : ℕ → o.Context → o.State → Ran o.State o.End (Unit {0})) (enter : o.Context → o.State → Ran o.State o.End (Unit {0})) (ask : Evaluator o.Context o.State o.End T → Request → o.Context → o.State → Ran o.State o.End (Outcome Crossing)) (up : o.End → Bool) (u : Order o.State) where
  abbrev other : Outside T R
  other = record o { pay = pay; enter = enter; ask = ask }

  abbrev AheadMore : More l o → More l o → Type 0
  AheadMore f g = (c : o.Context) (s : o.State) (t : T) → Ahead up u s (f c s t) (g c s t)

  -- what the two owe
  pub record Owed : Type 0 where
    pub pays : (x : ℕ) (c : o.Context) (s : o.State) → Ahead up u s (o.pay x c s) (pay x c s)
    pub enters : (c : o.Context) (s : o.State) → Ahead up u s (o.enter c s) (enter c s)
    pub asks : (f g : More l o) → AheadMore f g → (x : Request) (c : o.Context) (s : o.State) → Ahead up u s (o.ask f x c s) (ask g x c s)
    pub loads : (name : Name) (c : o.Context) (s : o.State) → Ahead up u s (o.load name c s) (o.load name c s)
    pub puts : (c : o.Context) (i : Inner R) (s : o.State) → u.Before s s → u.Before s (o.put c i s)
    pub lines : (text : Text) (c : o.Context) (s : o.State) → u.Before s s → u.Before s (o.line text c s)
    pub tickets : (c : o.Context) (s : o.State) → u.Before s s → u.Before s (o.ticket c s)
    pub births : (c : o.Context) (s : o.State) → u.Before s s → u.Before s (o.birth c s)
    pub tells : (n : ℕ) (x : Outcome Passed) (c : o.Context) (s : o.State) → u.Before s s → u.Before s (o.tell n x c s)
    pub spent : (c : o.Context) → up (o.spent c) ≡ true

  module _ (a : Owed) where
    pub a_follow : (f g : More l o) → AheadMore f g → (k : Script T R) (c : o.Context) (s : o.State) → Ahead up u s (follow l o f c s k) (follow l other g c s k)
    a_follow f g h (Give x) c s = a_self up u s (Done s x) (λ f. f)
    a_follow f g h (Halt x) c s = a_self up u {A = Completion} s (Over s (o.halt c x)) (λ f. f)
    a_follow f g h (Look y) c s = a_follow f g h (y (o.realm c s)) c s
    a_follow f g h (Change y k) c s = (let r = o.realm c s in a_from up u s _ _ _ (a.puts c (y r.inner) s) (a_follow f g h k c (o.put c (y r.inner) s)))
    a_follow f g h (Part t k) c s = a_then up u s (f c s t) (g c s t) _ _ (h c s t) (λ s' x. a_follow f g h (k x) c s')
    a_follow f g h (Become t) c s = h c s t
    a_follow f g h (Pay x k) c s = a_then up u s (o.pay x c s) (pay x c s) _ _ (a.pays x c s) (λ s' v. a_follow f g h k c s')
    a_follow f g h (Enter k) c s = a_then up u s (o.enter c s) (enter c s) _ _ (a.enters c s) (λ s' v. a_follow f g h k (o.deeper c) s')
    a_follow f g h (Line text k) c s = a_from up u s _ _ _ (a.lines text c s) (a_follow f g h k c (o.line text c s))
    a_follow f g h (Ticket k) c s = a_from up u s _ _ _ (a.tickets c s) (a_follow f g h k c (o.ticket c s))
    a_follow f g h (NewRealm k) c s = a_from up u s _ _ _ (a.births c s) (a_follow f g h k c (o.birth c s))
    a_follow f g h (Tell n x k) c s = a_from up u s _ _ _ (a.tells n x c s) (a_follow f g h k c (o.tell n x c s))
    a_follow f g h (Load name k) c s = a_then up u s (o.load name c s) (o.load name c s) _ _ (a.loads name c s) (λ s' x. a_follow f g h (k x) c s')
    a_follow f g h (Ask x k) c s = a_then up u s (o.ask f x c s) (ask g x c s) _ _ (a.asks f g h x c s) (λ s' y. a_follow f g h (k y) c s')

    -- at the same depth, and at a larger one
    pub larger : (d e : ℕ) → d ≤ e → AheadMore (ev l o d) (ev l other e)
    larger zero zero le c s t = a_short up u {A = Completion} s (o.spent c) (Over s (o.spent c)) (a.spent c) (λ f. f)
    larger zero (suc e) le c s t =
        a_short up u {A = Completion} s (o.spent c) (ev l other (suc e) c s t) (a.spent c)
        (a_grows up u s _ _ (a_follow (ev l o e) (ev l other e) (larger e e (omega arith)) (l.row t) c s))
    larger (suc d) zero le c s t = absurd (omega arith)
    larger (suc d) (suc e) le c s t = a_follow (ev l o d) (ev l other e) (larger d e (omega arith)) (l.row t) c s
