-- With a larger depth a replay that came to something comes to the same; with a larger bound too, but where it came to the bound.
-- What is left of the tape only gets shorter, so that reading on has always fuel enough.
use Rattle.std.proofs.Common.{◌≡◌, ℕ, zero, suc, ◌≤◌, ◌<◌, Bool, true, false, List, [], ◌∷◌, refl, ap, arith, nat_eq, nat_le, length}
use borrow.Author.Tests.{le-leb, leb-true}
use Rattle.sr_model.specs.Values.{Name, Path, same}
use Rattle.sr_model.specs.Events.{Message, Event, Took, Reply, Loaded, Cut}
use Rattle.sr_model.specs.Ports.{Request}
use Rattle.sr_model.specs.Scripts.{Language}
use Rattle.sr_model.specs.World.{Slot, may_enter, has_room, fresh_slot, with_tape, with_steps}
use Rattle.sr_worlds.specs.Evaluation.{Done, Over, then_do, provided, state_of, ev}
use Rattle.sr_worlds.specs.Fitting.{fits, reply_fits}
use Rattle.sr_worlds.specs.Solo.{Bound, Unfit, Spent, SoloReach, Played, SoloMore, Again, is_cut, beyond, cut_or, solo_pay, solo_entered, solo_loaded, solo_replied, next_event, reads, read_on, awaited, solo}
use Rattle.sr_worlds.specs.Replay.{verdict, replay}
use Rattle.sr_worlds.specs.Laws.{gave_up, Lasts, gives_up, Known, Certain}
use Rattle.sr_worlds.proofs.Larger.{Order, Ahead, a_from, a_test, a_then, Owed, larger}

-- a replay comes further as its tape gets shorter
abbrev reading : (R : Type 0) → Order (Slot R)
reading R = record { Before = λ s t. length t.tape ≤ length s.tape; fine = λ s t b. omega arith; onward = λ r s t a b. omega (arith, a, b) }

-- a test of the bound, and the same of another one, which may be larger where it grows
abbrev Wider : Bool → Bool → Bool → Type 0
Wider grows b b' = (b ≡ true → b' ≡ true) × (grows ≡ false → b ≡ b')

beyond_less : (t : List Event) → length (beyond t) ≤ length t
beyond_less [] = omega arith
beyond_less (e ∷ t) = omega arith

module _ {R : Type 0} (grows : Bool) where
  abbrev Kept : {A : Type 0} → Slot R → SoloReach R A → SoloReach R A → Type 0
  Kept = Ahead (gives_up grows) (reading R)

  k_room : (b b' : Bool) (x : ℕ) (s : Slot R) → Wider grows b b' → Kept s (provided b s (Bound x) (Done (with_steps x s) (tt {0}))) (provided b' s (Bound x) (Done (with_steps x s) (tt {0})))
  k_room true b' x s h f = rw (h.0 refl) (λ n. refl, omega arith, omega arith)
  k_room false true x s h f = (λ n. let no : false ≡ true = h.1 n in cc, omega arith, omega arith)
  k_room false false x s h f = (λ n. refl, omega arith, omega arith)

  k_cut : {A : Type 0} (b : Bool) (s : Slot R) (r r' : SoloReach R A) → Kept s r r' → Kept s (cut_or b s r) (cut_or b s r')
  k_cut true s r r' h = λ f. (λ n. refl, beyond_less s.tape, omega arith)
  k_cut false s r r' h = h

  k_loaded : (name : Name) (s : Slot R) (tape : List Event) → length tape ≤ length s.tape → Kept s (solo_loaded name s tape) (solo_loaded name s tape)
  k_loaded name s (Loaded n x ∷ tape) le = a_test (gives_up grows) (reading R) (same n name) s _ _ _ (λ f. (λ n. refl, omega arith, omega arith))
  k_loaded name s tape le = λ f. (λ n. refl, omega arith, omega arith)

  k_replied : (x : Request) (s : Slot R) (tape : List Event) → length tape ≤ length s.tape → Kept s (solo_replied x s tape) (solo_replied x s tape)
  k_replied x s (Reply o ∷ tape) le = a_test (gives_up grows) (reading R) (reply_fits x o) s _ _ _ (λ f. (λ n. refl, omega arith, omega arith))
  k_replied x s tape le = λ f. (λ n. refl, omega arith, omega arith)

module _ {T R : Type 0} (l : Language T R) (grows : Bool) (bound bound' : ℕ) (wider : (n : ℕ) → Wider grows (nat_le n bound) (nat_le n bound')) where
  abbrev KeptMore : SoloMore T R → SoloMore T R → Type 0
  KeptMore f g = (c : ℕ) (s : Slot R) (t : T) → Kept grows s (f c s t) (g c s t)

  k_pay : (x : ℕ) (s : Slot R) → Kept grows s (solo_pay bound x s) (solo_pay bound' x s)
  k_pay x s = (let r = s.realm in k_cut grows (is_cut r.own s.tape) s _ _ (k_room grows (has_room bound r.own (suc x)) (has_room bound' r.own (suc x)) (suc x) s (wider _)))

  k_next : (f g : SoloMore T R) (again again' : Again l) (waits : Bool) (c : ℕ) (s : Slot R) (tape : List Event) → length tape ≤ length s.tape → KeptMore f g → ((c : ℕ) (s : Slot R) → Kept grows s (again c s) (again' c s)) → Kept grows s (next_event l f again waits c s tape) (next_event l g again' waits c s tape)
  k_next f g again again' waits c s (Took m ∷ tape) le h all =
      a_test (gives_up grows) (reading R) (fits l waits s.realm m) s _ _ _
      (a_then (gives_up grows) (reading R) s _ _ _ _ (a_from (gives_up grows) (reading R) s (with_tape tape s) _ _ (λ f. omega arith) (h c (with_tape tape s) (l.work m))) (λ s' o. all c s'))
  k_next f g again again' true c s (Cut k ∷ tape) le h all = (let r = s.realm in k_cut grows (nat_eq k r.own) s (Over s Unfit) (Over s Unfit) (λ f. (λ n. refl, omega arith, omega arith)))
  k_next f g again again' true c s tape le h all = λ f. (λ n. refl, omega arith, omega arith)
  k_next f g again again' false c s tape le h all = λ f. (λ n. refl, omega arith, omega arith)

  k_reads : (f g : SoloMore T R) (d : ℕ) (waits : Bool) (c : ℕ) (s : Slot R) → KeptMore f g → Kept grows s (reads l f d waits c s) (reads l g d waits c s)
  k_reads f g zero waits c s h = λ f. (λ n. refl, omega arith, omega arith)
  k_reads f g (suc d) waits c s h = k_next f g (reads l f d waits) (reads l g d waits) waits c s s.tape (omega arith) h (λ c s. k_reads f g d waits c s h)

  solo_owes : Owed l (solo l bound) (λ x c s. solo_pay bound' x s) (solo_entered bound') (awaited l) (gives_up grows) (reading R)
  solo_owes = record {
    pays = λ x c s. k_pay x s;
    enters = λ c s. a_test (gives_up grows) (reading R) (may_enter c) s _ _ _ (k_pay 0 s);
    asks = λ f g h x c s. a_then (gives_up grows) (reading R) s _ _ _ _ (k_reads f g (suc (length s.tape)) true c s h) (λ s' o. k_replied grows x s' s'.tape (omega arith));
    loads = λ name c s. k_loaded grows name s s.tape (omega arith);
    puts = λ c i s f. omega arith;
    lines = λ text c s f. omega arith;
    tickets = λ c s f. omega arith;
    births = λ c s f. omega arith;
    tells = λ n o c s f. omega arith;
    spent = λ c. refl;
  }

  solo_ahead : (d e : ℕ) → d ≤ e → KeptMore (ev l (solo l bound) d) (ev l (solo l bound') e)
  solo_ahead = larger l (solo l bound) _ _ _ (gives_up grows) (reading R) solo_owes

  played_larger : (n m : ℕ) (p : Path) (tape : List Event) → n ≤ m → (let s = with_tape tape (fresh_slot l.born p) in Lasts (gives_up grows) (read_on l (ev l (solo l bound) n) false 0 s) (read_on l (ev l (solo l bound') m) false 0 s))
  played_larger n m p tape le = (let s = with_tape tape (fresh_slot l.born p) in (k_reads (ev l (solo l bound) n) (ev l (solo l bound') m) (suc (length tape)) false 0 s (solo_ahead n m le) (omega arith)).0)

same_bound : (bound n : ℕ) → Wider false (nat_le n bound) (nat_le n bound)
same_bound bound n = (λ e. e, λ e. refl)

larger_bound : (bound bound' : ℕ) → bound ≤ bound' → (n : ℕ) → Wider true (nat_le n bound) (nat_le n bound')
larger_bound bound bound' room n = (λ e. le-leb n bound' (omega (arith, leb-true n bound e, room)), λ e. cc)

-- a verdict that stays is of a replay that had not given up
known_stands : {R : Type 0} (count : ℕ) (r : Played R) → Known (verdict count r) → gave_up (gives_up false) r ≡ false
known_stands count (Over s Spent) sure = absurd sure
known_stands count r sure = refl

certain_stands : {R : Type 0} (count : ℕ) (r : Played R) → Certain (verdict count r) → gave_up (gives_up true) r ≡ false
certain_stands count (Over s Spent) sure = absurd sure
certain_stands count (Over s (Bound x)) sure = absurd sure
certain_stands count r sure = refl

module _ {T R : Type 0} (l : Language T R) where
  -- a task leaves a tape that is no longer
  shortens : (bound d c : ℕ) (s : Slot R) (t : T) → (let u = state_of (ev l (solo l bound) d c s t) in length u.tape ≤ length s.tape)
  shortens bound d c s t = (solo_ahead l false bound bound (same_bound bound) d d (omega arith) c s t (omega arith)).1

  pub solo_deeper : (bound d e : ℕ) → d ≤ e → (c : ℕ) (s : Slot R) (t : T) → Lasts (gives_up false) (ev l (solo l bound) d c s t) (ev l (solo l bound) e c s t)
  solo_deeper bound d e le c s t = (solo_ahead l false bound bound (same_bound bound) d e le c s t (omega arith)).0

  pub replay_more_depth : (bound n m : ℕ) (p : Path) (tape : List Event) → n ≤ m → Known (replay l bound n p tape) → replay l bound m p tape ≡ replay l bound n p tape
  replay_more_depth bound n m p tape le sure = ap (verdict (length tape)) (played_larger l false bound bound (same_bound bound) n m p tape le (known_stands (length tape) _ sure))

  pub replay_more_room : (bound bound' n m : ℕ) (p : Path) (tape : List Event) → bound ≤ bound' → n ≤ m → Certain (replay l bound n p tape) → replay l bound' m p tape ≡ replay l bound n p tape
  replay_more_room bound bound' n m p tape room le sure = ap (verdict (length tape)) (played_larger l true bound bound' (larger_bound bound bound' room) n m p tape le (certain_stands (length tape) _ sure))

module _ {R : Type 0} where
  -- what follows needs to be the same only where so much is left
  short_same : {A B : Type 0} → (n : ℕ) (r : SoloReach R A) (f g : Slot R → A → SoloReach R B) → (let u = state_of r in length u.tape ≤ n) → ((s : Slot R) (x : A) → length s.tape ≤ n → f s x ≡ g s x) → then_do r f ≡ then_do r g
  short_same n (Done s x) f g h all = all s x h
  short_same n (Over s e) f g h all = refl

module _ {T R : Type 0} (l : Language T R) (bound d : ℕ) where
  abbrev f : SoloMore T R
  f = ev l (solo l bound) d

  r_next : (again again' : Again l) (waits : Bool) (c : ℕ) (s : Slot R) (tape : List Event) → ((c : ℕ) (s : Slot R) → length s.tape < length tape → again c s ≡ again' c s) → next_event l f again waits c s tape ≡ next_event l f again' waits c s tape
  r_next again again' waits c s (Took m ∷ tape) all =
      ap (provided (fits l waits s.realm m) s Unfit) (short_same (length tape) (f c (with_tape tape s) (l.work m)) _ _ (shortens l bound d c (with_tape tape s) (l.work m)) (λ s' o le. all c s' (omega (arith, le))))
  r_next again again' waits c s tape all = refl

  -- the number of events says nothing, where it is above the length of the tape
  r_reads : (j k : ℕ) (waits : Bool) (c : ℕ) (s : Slot R) → length s.tape < j → length s.tape < k → reads l f j waits c s ≡ reads l f k waits c s
  r_reads zero k waits c s a b = absurd (omega arith)
  r_reads (suc j) zero waits c s a b = absurd (omega arith)
  r_reads (suc j) (suc k) waits c s a b = r_next (reads l f j waits) (reads l f k waits) waits c s s.tape (λ c s' lt. r_reads j k waits c s' (omega (arith, lt)) (omega (arith, lt)))

  -- an event that is next and fits
  pub read_event : (waits : Bool) (c : ℕ) (s : Slot R) (y : Message) (tape : List Event) → s.tape ≡ Took y ∷ tape → fits l waits s.realm y ≡ true → read_on l f waits c s ≡ then_do (f c (with_tape tape s) (l.work y)) (λ s' o. read_on l f waits c s')
  read_event waits c s y tape e fit =
      rw e (rw fit (short_same (length tape) (f c (with_tape tape s) (l.work y)) _ _ (shortens l bound d c (with_tape tape s) (l.work y)) (λ s' o le. r_reads (suc (length tape)) (suc (length s'.tape)) waits c s' (omega (arith, le)) (omega arith))))
