-- With a larger depth a run that came to something comes to the same, and one that gave up goes on to write more. Its rows join realms
-- and their parents.
use Rattle.std.proofs.Common.{◌≡◌, ℕ, zero, suc, ◌≤◌, List, [], ◌∷◌, ◌++◌, refl, sym, ap, ◌∙◌, arith, append-nil, append_assoc, find, Option, Some, None}
use Rattle.std.proofs.lemmas.List.Elements.{All-nil}
use Rattle.sr_model.specs.Values.{Name, Path, root, same, member}
use Rattle.sr_model.specs.Outcomes.{told_of}
use Rattle.sr_model.specs.Events.{Message, Source, Settle, Turn}
use Rattle.sr_model.specs.Ports.{Request, reply_of}
use Rattle.sr_model.specs.Scripts.{Script, Language}
use Rattle.sr_model.specs.World.{Pending, Told, Write, Printed, Answered, World, Place, may_enter, has_room, cross}
use Rattle.sr_worlds.specs.Evaluation.{Done, Over, then_do, follow, ev}
use Rattle.sr_worlds.specs.Fitting.{fits}
use Rattle.sr_worlds.specs.Live.{Open, Broken, LiveReach, LiveRan, LiveMore, over, Target, Nowhere, At, target, asked, replied, live_pay, entered, loaded, take, sent, live}
use Rattle.sr_worlds.specs.Run.{File, idle, uncaught, settled, is_of, settle, next, turns, ran, ran_all, start, run, world_of}
use Rattle.sr_worlds.specs.Laws.{IsKin, IsOfChild, Joined, Lasts, short, writes_of, IsStart}
use Rattle.sr_worlds.proofs.Kinship.{asked_joined, replied_joined, settled_joined}
use Rattle.sr_worlds.proofs.Larger.{Order, Ahead, a_self, a_from, a_grows, a_test, a_short, a_then, Owed, a_follow, larger}

pub start_self : {A : Type 0} → (xs : List A) → (rest : List A) × (xs ≡ xs ++ rest)
start_self xs = ([], sym (append-nil xs))

pub start_more : {A : Type 0} → (xs ys zs : List A) → (rest : List A) × (ys ≡ xs ++ rest) → (rest : List A) × (zs ≡ ys ++ rest) → (rest : List A) × (zs ≡ xs ++ rest)
start_more {A} xs ys zs (a, e) (b, e') = (a ++ b, e' ∙ ap (λ (vs : List A). vs ++ b) e ∙ append_assoc xs a b)

-- a run comes further as it writes; and its rows go on to join parents and children, where that is asked
abbrev writing : (R : Type 0) → Type 0 → Order (World R)
writing R Asked = record {
  Before = λ w w'. IsStart w.writes w'.writes × (Asked → Joined w');
  fine = λ w w' b. (start_self w'.writes, b.1);
  onward = λ w v u a b. (start_more w.writes v.writes u.writes a.0 b.0, b.1);
}

module _ {T R : Type 0} (l : Language T R) (bound : ℕ) (Asked : Type 0) where
  abbrev u : Order (World R)
  u = writing R Asked

  -- from these writes on
  abbrev Grows : {A : Type 0} → World R → LiveReach R A → LiveReach R A → Type 0
  Grows = Ahead short u

  abbrev GrowsMore : LiveMore T R → LiveMore T R → Type 0
  GrowsMore f g = (c : Place) (w : World R) (t : T) → Grows w (f c w t) (g c w t)

  g_pay : (x : ℕ) (c : Place) (w : World R) → Grows w (live_pay bound x c w) (live_pay bound x c w)
  g_pay x c w = a_test short u (has_room bound w.used (suc x)) w _ _ _ (a_self short u w _ (λ j. j))

  g_loaded : (name : Name) (answers : List Answered) (c : Place) (w : World R) → Grows w (loaded name answers c w) (loaded name answers c w)
  g_loaded name [] c w = a_self short u w (over Open c w) (λ j. j)
  g_loaded name (a ∷ answers) c w = a_test short u (same a.name name) w _ _ _ (a_self short u w _ (λ j. j))

  module _ (f g : LiveMore T R) (h : GrowsMore f g) where
    g_take : (q : Path) (c : Place) (w : World R) (m : Message) → Grows w (take l f q c w m) (take l g q c w m)
    g_take q c w m = (let s = w.slots q in a_test short u (fits l (member q c.under) s.realm m) w _ _ _ (h _ _ (l.work m)))

    g_sent : (c : Place) (w : World R) (x : Request) (t : Target) → target w c.realm x ≡ t → Grows w (sent l f c w x t) (sent l g c w x t)
    g_sent c w x Nowhere to = a_self short u w (over Broken c w) (λ j. j)
    g_sent c w x (At q m) to = λ j.
        a_then short u w _ _ _ _ (a_from short u w (asked c.realm q x w) _ _ (λ j. (j.0, λ a. asked_joined w c.realm x q m to (j.1 a))) (g_take q c (asked c.realm q x w) m))
        (λ v o. a_self short u v (Done (replied c.realm q x o v) (reply_of x o)) (λ k. (k.0, λ a. replied_joined w c.realm x q m to (j.1 a) v o (k.1 a)))) j

  live_owes : Owed l (live l bound) (live_pay bound) (entered bound) (λ more x c w. sent l more c w x (target w c.realm x)) short u
  live_owes = record {
    pays = g_pay;
    enters = λ c w. a_test short u (may_enter c.calls) w _ _ _ (g_pay 0 c w);
    asks = λ f g h x c w. g_sent f g h c w x (target w c.realm x) refl;
    loads = λ name c w. g_loaded name w.answers c w;
    puts = λ c i w j. j;
    lines = λ text c w j. ((Printed text ∷ [], refl), j.1);
    tickets = λ c w j. j;
    births = λ c w j. j;
    tells = λ n o c w j. j;
    spent = λ c. refl;
  }

  live_ahead : (d e : ℕ) → d ≤ e → GrowsMore (ev l (live l bound) d) (ev l (live l bound) e)
  live_ahead = larger l (live l bound) _ _ _ short u live_owes

  -- the turns and the settlings
  module _ (f g : LiveMore T R) (h : GrowsMore f g) (again again' : World R → LiveRan R) (all : (w : World R) → Grows w (again w) (again' w)) where
    g_settle : (w : World R) (t : Told) (row : Option Pending) → find (is_of t) w.pending ≡ row → Grows w (settle l f again w t row) (settle l g again' w t row)
    g_settle w t None is = a_self short u w (over Broken (idle t.child) w) (λ j. j)
    g_settle w t (Some row) is =
        let v : World R = cross row.parent row.child (settled t.outcome) w in
        let m : Message = Settle row.asked (told_of t.outcome) in
        a_then short u w _ _ _ _ (a_from short u w v _ _ (λ j. (j.0, λ a. settled_joined w t row is (j.1 a))) (g_take f g h row.parent (idle row.parent) v m)) (λ w' o. all w')

    g_next : (w : World R) (told : List Told) (tickets : List Path) → Grows w (next l f again w told tickets) (next l g again' w told tickets)
    g_next w (t ∷ told) tickets = g_settle (record w { told = told }) t (find (is_of t) w.pending) refl
    g_next w [] (p ∷ tickets) = a_then short u w _ _ _ _ (g_take f g h p (idle p) (record w { tickets = tickets }) Turn) (λ w' o. all w')
    g_next w [] [] = a_self short u w (Done w _) (λ j. j)

  -- and the files
  module _ (f g : LiveMore T R) (h : GrowsMore f g) (self : GrowsMore g g) where
    g_turns : (a b : ℕ) → a ≤ b → (w : World R) → Grows w (turns l f a w) (turns l g b w)
    g_turns zero b le w = a_short short u w _ (turns l g b w) refl (a_grows short u w _ _ (again b w))
      where
        again : (b : ℕ) (w : World R) → Grows w (turns l g b w) (turns l g b w)
        again zero w = a_self short u w _ (λ j. j)
        again (suc b) w = g_next g g self _ _ (again b) w w.told w.tickets
    g_turns (suc a) zero le w = absurd (omega arith)
    g_turns (suc a) (suc b) le w = g_next f g h _ _ (g_turns a b (omega arith)) w w.told w.tickets

    g_ran_all : (a b : ℕ) → a ≤ b → (w : World R) (files : List File) → Grows w (ran_all l f a w files) (ran_all l g b w files)
    g_ran_all a b le w [] = a_self short u w (Done w _) (λ j. j)
    g_ran_all a b le w (x ∷ files) = a_then short u w (ran l f a w x) (ran l g b w x) _ _ ran_ahead (λ w' o. g_ran_all a b le w' files)
      where
        ran_ahead : Grows w (ran l f a w x) (ran l g b w x)
        ran_ahead = a_then short u w _ _ _ _ (g_take f g h root (idle root) (record w { answers = x.answers }) (Source x.goal x.name x.text))
            (λ v o. let us = uncaught l x.name o (v.slots root) in a_from short u v (record v { writes = v.writes ++ us }) _ _ (λ j. ((us, refl), j.1)) (g_turns a b le (record v { writes = v.writes ++ us })))

  run_ahead : (n m : ℕ) (files : List File) → n ≤ m → Grows (start l) (run l bound n files) (run l bound m files)
  run_ahead n m files le = g_ran_all _ _ (live_ahead n m le) (live_ahead m m (omega arith)) n m le (start l) files

module _ {T R : Type 0} (l : Language T R) (bound : ℕ) where
  pub live_larger : (d e : ℕ) → d ≤ e → (c : Place) (w : World R) (t : T) → Lasts short (ev l (live l bound) d c w t) (ev l (live l bound) e c w t)
  live_larger d e le c w t = (live_ahead l bound ⊥ d e le c w t (start_self w.writes, λ a. absurd a)).0

  pub live_writes : (d e : ℕ) → d ≤ e → (c : Place) (w : World R) (t : T) → IsStart (writes_of (ev l (live l bound) d c w t)) (writes_of (ev l (live l bound) e c w t))
  live_writes d e le c w t = (live_ahead l bound ⊥ d e le c w t (start_self w.writes, λ a. absurd a)).2.0

  pub run_larger : (n m : ℕ) (files : List File) → n ≤ m → Lasts short (run l bound n files) (run l bound m files)
  run_larger n m files le = (run_ahead l bound ⊥ n m files le (start_self [], λ a. absurd a)).0

  pub run_writes : (n m : ℕ) (files : List File) → n ≤ m → IsStart (writes_of (run l bound n files)) (writes_of (run l bound m files))
  run_writes n m files le = (run_ahead l bound ⊥ n m files le (start_self [], λ a. absurd a)).2.0

  -- what was written stays written: by a script, by the turns, and by what follows
  pub follow_writes : (d : ℕ) (k : Script T R) (c : Place) (w : World R) → IsStart w.writes (writes_of (follow l (live l bound) (ev l (live l bound) d) c w k))
  follow_writes d k c w = (a_follow l (live l bound) _ _ _ short (writing R ⊥) (live_owes l bound ⊥) _ _ (live_ahead l bound ⊥ d d (omega arith)) k c w (start_self w.writes, λ a. absurd a)).1.0

  pub turns_writes : (d n : ℕ) (w : World R) → IsStart w.writes (writes_of (turns l (ev l (live l bound) d) n w))
  turns_writes d n w = (let h = live_ahead l bound ⊥ d d (omega arith) in (g_turns l bound ⊥ _ _ h h n n (omega arith) w (start_self w.writes, λ a. absurd a)).1.0)

  pub joined : (n : ℕ) (files : List File) → Joined (world_of (run l bound n files))
  joined n files = (run_ahead l bound (Unit {0}) n n files (omega arith) (start_self [], λ a. (All-nil IsKin, All-nil IsOfChild))).1.1 tt

pub then_writes : {R A B : Type 0} → (xs : List Write) (r : LiveReach R A) (go : World R → A → LiveReach R B) → IsStart xs (writes_of r) → ((w : World R) (x : A) → IsStart w.writes (writes_of (go w x))) → IsStart xs (writes_of (then_do r go))
then_writes xs (Done w x) go h all = start_more xs w.writes _ h (all w x)
then_writes xs (Over w e) go h all = h
