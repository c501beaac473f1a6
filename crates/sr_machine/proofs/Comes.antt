-- A step of the frame on top, as it goes along a script: it leaves what stands outside the realm that runs as it is, it comes to no cut,
-- and where the state is that of a run, so is what the machine goes on with, and the number falls.
use Rattle.std.proofs.Common.{◌≡◌, ◌⊎◌, inr, refl, sym, ap, ◌∙◌, subst, ℕ, suc, ◌+◌, ◌-◌, ◌*◌, ◌≤◌, ◌<◌, Bool, true, false, List, [], ◌∷◌, ◌++◌, Option, Some, None, length, arith, append-nil}
use Rattle.std.specs.Prelude.{is_some}
use Rattle.std.proofs.lemmas.Bool.{leb-true}
use Rattle.sr_ast.specs.declared.tree.Tree.{Tree}
use Rattle.sr_model.specs.Values.{Text, Value}
use Rattle.sr_model.specs.Outcomes.{Completion, Normal, Stop, CallDepth}
use Rattle.sr_model.specs.Realm.{Realm}
use Rattle.sr_model.specs.Tasks.{Context, Run, Operate}
use Rattle.sr_model.specs.Scripts.{Give, Halt, Look, Change, Part, Become, Pay, Enter, Line, then_follow}
use Rattle.sr_model.specs.World.{Printed, may_enter}
use Rattle.sr_model.specs.Holds.{marked}
use Rattle.sr_worlds.specs.Evaluation.{Done}
use Rattle.sr_worlds.specs.Live.{Why, Stopped, LiveRan, over}
use Rattle.sr_worlds.specs.Live as live
use Rattle.sr_worlds.specs.LiveStacks.{live_means}
use Rattle.sr_worlds.specs.Stacks.{Waits, top}
use Rattle.sr_state.specs.declared.frame.Frame.{Frame}
use Rattle.sr_state.specs.declared.ends.Answer.{Answer}
use Rattle.sr_state.specs.declared.ends.Answer.TheVariants as answer
use Rattle.sr_state.specs.declared.ends.Completion.TheVariants as completion
use Rattle.sr_state.specs.declared.ends.Next.{Next}
use Rattle.sr_state.specs.declared.ends.Next.TheVariants as next
use Rattle.sr_state.specs.declared.ends.StopName.{StopName}
use Rattle.sr_state.specs.declared.ends.StopName.TheVariants as stop
use Rattle.sr_state.specs.Ends.{IsEnd, HaltsBy}
use Rattle.sr_state.specs.Held.{Held, Side, realm_in, with_line, change_in, line_in, pay_in, begun_in, room_in, cut_at, steps_in, is_idle, idle, below}
use Rattle.sr_state.specs.Step.{Goes, Given, Began, Ended, Stay, Operand, Literal, Name, operand_of, operand_now, tree_now, value_now, Far, Fresh, Resumed, Paid, Left, OnOne, Is, IsPart, IsFresh, on_part, on_value, Further, further, nowhere, given_of, goes, Charged, Where, Stops}
use Rattle.sr_state.specs.Work as language
use Rattle.sr_state.specs.Work.{Holds}
use Rattle.sr_stmt.specs.Rows.{operation}
use Rattle.sr_machine.specs.Language.{language, row}
use Rattle.sr_machine.specs.Stages.{script_of}
use Rattle.sr_machine.specs.Worlds.{Here, world_in, place_in}
use Rattle.sr_machine.specs.Stack.{above, comes, depths}
use Rattle.sr_machine.specs.Going.{value_charge, first_charge, OfRun, PaysFirst, IsReady, Ready, Busy, AtRest, Moves, Halts, IsWhy, frame_weight, frames_weight, part_weight, answer_weight, left_of, printed, writes_of}
use Rattle.sr_machine.proofs.Worlds.{here_along, places_along, line_is}
use Rattle.sr_machine.proofs.Rows.{operand_script, begun, fresh_pays, pays_light, pays_ready}
use Rattle.sr_machine.proofs.Exact.{Course, In, world, under, within, at, paying, Still, onward, deep, exact, looks, changes, charges, enters, pays, refuses, in_place, operand_follows}

-- what a step that is so far keeps of the number, beside the steps that are left and the frames under the top
abbrev pub floor : Far → ℕ
floor Fresh = 2
floor Resumed = 9
floor Paid = 10

-- more of it is kept once the step was given an end or has paid
later : (b : Far) → (b ≡ Fresh → ⊥) → 9 ≤ floor b
later Fresh late = absurd (late refl)
later b late = omega arith

-- and the weight of a part with which it begins, where it was given nothing
abbrev pub part_first : Frame → Answer → Far → ℕ
part_first f a Fresh = part_weight (script_of f (given_of a))
part_first f a b = 0

-- of the script of a frame that is put back with k active calls this holds
abbrev pub Stands : Stay
Stands k f g P = (is_idle f.activity ≡ false) × (f.calls ≡ k) × P (script_of f g)

pub not_both : {A : Type 0} {b : Bool} → b ≡ true → b ≡ false → A
not_both e e' = absurd (let f : true ≡ false = sym e ∙ e' in cc)

paid_before : Paid ≡ Fresh → ⊥
paid_before e = cc

is_part : (t : language.Work) (s : Completion → language.Steps) (y : language.Steps) → IsPart t s y → y ≡ Part t s
is_part t s (Part u j) h = λ i. Part (h.0 i) (λ e. h.1 e i)
is_part t s y h = absurd h

halt_is : (a : Next) (y : Stop) (x : Side) → HaltsBy a y → (name : StopName) × (a ≡ next.Halt name) × IsWhy name (Stopped y) x
halt_is (next.Halt (stop.Steps used cost)) y x h = absurd h
halt_is (next.Halt name) y x h = (name, refl, (y, refl, h))
halt_is a y x h = absurd h

-- a tree that has a value now is a literal or a name, and it has the same value after it has paid
operand_there : (c : Context) (o : Option Operand) (q : Realm Holds) (v : Value) → operand_now c o q ≡ Some v → (y : Operand) × (o ≡ Some y) × (value_now c y q ≡ Some v)
operand_there c None q v h = cc
operand_there c (Some y) q v h = (y, refl, h)

value_same : (c : Context) (y : Operand) (source at : ℕ) (x : Side) → value_now c y (realm_in (begun_in source at x)) ≡ value_now c y (realm_in x)
value_same c (Literal v) source at x = refl
value_same c (Name text) source at x = refl

-- a script is at most a part
light : (s : language.Steps) → part_weight s ≤ 3
light (Part t k) = omega arith
light s = omega arith

-- what a step does that comes to a part, by whether the part has a value now and is a literal or a name
on_tree : (A : Type 0) (c : Context) (t : Tree) (q : Realm Holds) (b : Far) (E : Value → Type 0) (S B : Type 0) → on_part c t q b E S B →
    ((v : Value) → tree_now c t q ≡ Some v → b ≡ Fresh → E v → A) → (is_some (operand_of t) ≡ true → 9 ≤ floor b → S → A) → (tree_now c t q ≡ None → b ≡ Fresh → B → A) → (9 ≤ floor b → B → A) → A
on_tree A c t q Fresh E S B h evaluates stays begins later = by (tree_now c t q) refl h
  where
    by : (o : Option Value) → tree_now c t q ≡ o → on_value o E B → A
    by None is h = begins is refl h
    by (Some v) is h = evaluates v is refl h
on_tree A c t q b E S B h evaluates stays begins later = by (is_some (operand_of t)) refl h
  where
    by : (o : Bool) → is_some (operand_of t) ≡ o → Where o S B → A
    by true is h = stays is (omega arith) h
    by false is h = later (omega arith) h

-- what is told of a step in a run
abbrev pub Keeps : Held → Held → Next → OfRun
Keeps old new next.Going = Moves None old new
Keeps old new next.Ended = Moves None old (below new.frames new)
Keeps old new (next.Print text) = Moves (Some text) old (printed text new)
Keeps old new (next.Halt name) = Halts name old new
Keeps old new next.CutOff = λ read bound z meaning v. ⊥

module _ (old : Held) (no_cut : old.outer.cut ≡ None) (n : Next) (new : Held) where
  -- what the step has paid, where so many steps are used now, and that enough of the number is left
  pub record Account (b : Far) (u : ℕ) : Type 0 where
    pub cost : ℕ
    pub used : u ≡ old.side.used + cost
    pub once : (cost ≡ 0) ⊎ (cost ≡ first_charge (script_of old.top (given_of old.answer)) (realm_in old.side))
    pub within : u ≤ old.outer.bound
    pub low : floor b + part_first old.top old.answer b + frames_weight old.frames + 8 * (old.outer.bound - u) ≤ left_of old

  -- as the step begins it has paid nothing, and its first charge is still that of the script
  abbrev pub AtFirst : Far → Side → language.Steps → Type 0
  AtFirst b x s =
      b ≡ Fresh → (x.used ≡ old.side.used) × IsReady s × (first_charge s (realm_in x) ≡ first_charge (script_of old.top (given_of old.answer)) (realm_in old.side))
      × (part_weight s ≤ part_weight (script_of old.top (given_of old.answer)))

  -- what a step does that is so far, with this script: it leaves what stands outside the realm that runs as it is, and comes to no cut
  abbrev pub Does : Far → Side → ℕ → language.Steps → Type 0
  Does b x k s =
      (new.outer ≡ old.outer) × (n ≡ next.CutOff → ⊥)
      × ((m : Course old) → Account b x.used → AtFirst b x s → Still m x (at m x k s) → In m (Keeps old new n))

  -- a step of the script leads to another, and the next steps do what is told
  via : (b : Far) (x x' : Side) (k k' : ℕ) (s s' : language.Steps) → x.used ≡ x'.used → (AtFirst b x s → AtFirst b x' s') →
      ((m : Course old) → Still m x (at m x k s) → Still m x' (at m x' k' s')) → Does b x' k' s' → Does b x k s
  via b x x' k k' s s' u first e r = (r.0, r.1, λ m c f w. r.2 m (subst (Account b) u c) (first f) (e m w))

  -- here the step of the frame ends
  ends_so : (b : Far) (x : Side) (k : ℕ) (s : language.Steps) (a : Next) → n ≡ a → (a ≡ next.CutOff → ⊥) → new.outer ≡ old.outer →
      ((m : Course old) → Account b x.used → AtFirst b x s → Still m x (at m x k s) → In m (Keeps old new a)) → Does b x k s
  ends_so b x k s a is uncut outer go = (outer, λ e. uncut (sym is ∙ e), λ m c f w. subst (λ n. In m (Keeps old new n)) (sym is) (go m c f w))

  abbrev held : Side → Answer → Frame → List Frame → Held
  held x a t fs = record { side = x; outer = old.outer; answer = a; top = t; frames = fs }

  -- the new state, by what it has
  as_is : (x : Side) (a : Answer) (fs : List Frame) → new.side ≡ x → new.answer ≡ a → new.outer ≡ old.outer → new.frames ≡ fs → held x a new.top fs ≡ new
  as_is x a fs side given outer frames =
      sym (λ i. let g : Held = record { side = side i; outer = outer i; answer = given i; top = new.top; frames = frames i } in g)

  -- the run is over
  stops : (b : Far) (x : Side) (k : ℕ) (s : language.Steps) (name : StopName) (why : Why) → Stops (next.Halt name) old.outer x n new → IsWhy name why x →
      ((m : Course old) → Still m x (at m x k s) → Still m x (λ d n. over why (place_in old.outer x k) (world m x))) → Does b x k s
  stops b x k s name why g is e =
      ends_so b x k s (next.Halt name) g.0 (λ e. cc) g.2
      (λ m c f w. let r = e m w in
      subst (λ g. In m (Halts name old g)) (as_is x new.answer new.frames g.1 refl g.2 refl)
      (why, k, is, (c.cost, c.used, c.once), r.here, r.least, r.same))

  -- what a charge does, by whether there is room for it
  abbrev Paying : Side → ℕ → Type 0 → Bool → Type 0
  Paying x c A b = Where b A (Stops (next.Halt (stop.Steps x.used (suc c))) old.outer x n new)

  -- a first charge: no cut is next in a run
  pays_first : (x : Side) (k c j : ℕ) (s s' : language.Steps) → suc c ≡ first_charge s (realm_in x) →
      ((m : Course old) → Still m x (at m x k s) → Still m x (paying m x k c j s')) →
      (A : Type 0) → Charged (suc c) old.outer x n new A → (A → Does Paid (pay_in (suc c) x) j s') → Does Fresh x k s
  pays_first x k c j s s' first owes A g go =
      by (room_in old.outer.bound x (suc c)) refl
      (subst (λ b. Where b (Stops next.CutOff old.outer x n new) (Paying x c A (room_in old.outer.bound x (suc c)))) (ap (λ y. cut_at y (steps_in x)) no_cut) g)
    where
      by : (b : Bool) → room_in old.outer.bound x (suc c) ≡ b → Paying x c A b → Does Fresh x k s
      by false room h = stops Fresh x k s (stop.Steps x.used (suc c)) (live.Steps (suc c)) h (refl, refl) (λ m w. refuses m x k c j s' room (owes m w))
      by true room h =
          let r = go h in
          let fits = leb-true (x.used + suc c) old.outer.bound room in (
            r.0,
            r.1,
            λ m a f w. let q = f refl in let low = a.low in
                r.2 m (record { cost = suc c; used = ap (λ u. u + suc c) q.0; once = inr (first ∙ q.2); within = fits; low = omega (arith, low, fits) })
                (λ e. absurd (paid_before e)) (pays m x k c j s' room (owes m w)),
          )

  enters_first : (x : Side) (k : ℕ) (s : language.Steps) (b : Bool) → may_enter k ≡ b →
      (A : Type 0) → Where b (Charged 1 old.outer x n new A) (Stops (next.Halt stop.CallDepth) old.outer x n new) →
      (A → Does Paid (pay_in 1 x) (suc k) s) → Does Fresh x k (Enter s)
  enters_first x k s true may A g go = pays_first x k 0 (suc k) (Enter s) s refl (λ m w. enters m x k s may w) A g go
  enters_first x k s false may A g go =
      stops Fresh x k (Enter s) stop.CallDepth (Stopped CallDepth) g (CallDepth, refl, refl)
      (λ m w. onward m x x _ _ w.here (λ d n. exact m x k (Enter s) d n ∙ rw may refl) w)

  -- a literal or a name that is a part is paid for and evaluated in its place
  evaluates : (x : Side) (k : ℕ) (c : Context) (t : Tree) (s : Completion → language.Steps) (v : Value) → tree_now c t (realm_in x) ≡ Some v →
      (A : Type 0) → Charged 1 old.outer x n new A → (A → Does Paid (begun_in c.source t.from x) k (s (Normal (Some v)))) → Does Fresh x k (Part (Run c t) s)
  evaluates x k c t s v is A g go =
      let z = operand_there c (operand_of t) (realm_in x) v is in
      let f = marked c.source t.from in
      let rest = then_follow (operand_script c z.0) s in
      let x' = begun_in c.source t.from x in
      via Fresh x x k k (Part (Run c t) s) (Pay 0 (Change f rest)) refl (λ q e. let r = q e in (r.0, tt, sym (ap value_charge is) ∙ r.2, omega arith))
      (λ m w. in_place m x k c t z.0 z.1 s w)
      (pays_first x k 0 k (Pay 0 (Change f rest)) (Change f rest) refl (λ m w. charges m x k 0 (Change f rest) w) A g
      (λ h. via Paid (pay_in 1 x) x' k k (Change f rest) (s (Normal (Some v))) refl (λ q e. absurd (paid_before e))
      (λ m w. operand_follows m x' k c z.0 v s (value_same c z.0 c.source t.from x ∙ z.2) (changes m (pay_in 1 x) k f rest w)) (go h)))

  -- the machine goes on with a state of which the run still comes to the same
  moves : (m : Course old) (b : Far) (x : Side) (u : ℕ) (a : Answer) (t : Frame) (fs : List Frame) (text : Option Text) → x.used ≡ u →
      Here old.outer x → Account b u → Ready t a → Busy fs → (AtRest (held x a t fs) → fs ≡ []) →
      frames_weight (t ∷ fs) + answer_weight t a < floor b + part_first old.top old.answer b + frames_weight old.frames →
      (os : List ℕ) → length os ≡ suc (length fs) → (least : ℕ) →
      ((n : ℕ) → least ≤ n → m.meaning n ≡ comes m.read old.outer.bound m.tapes (m.written ++ writes_of text) (held x a t fs) (depths os n)) →
      In m (Moves text old (held x a t fs))
  moves m b x u a t fs text e here c ready waits rest low os along least same = (
    record {
      sound = record { here = here; live = no_cut; bounded = refl; within = (let r = c.within in omega (arith, e, r)); ready = ready; waits = waits; rest = rest };
      offsets = os;
      along = along;
      least = least;
      same = same;
    },
    (let r = c.low in omega (arith, e, r, low)),
    (c.cost, e ∙ c.used, c.once),
  )

  -- the frame on top goes on
  goes_on : (b : Far) (x : Side) (k : ℕ) (s : language.Steps) → (AtFirst b x s → 9 ≤ floor b) → n ≡ next.Going → Left old.outer x new → new.frames ≡ old.frames →
      ((m : Course old) → (s' : language.Steps) × IsReady s' × Stands k new.top Began (Is s') × (Still m x (at m x k s) → Still m x (at m x k s'))) → Does b x k s
  goes_on b x k s late is left frames go =
      ends_so b x k s next.Going is (λ e. cc) left.2
      (λ m c f w.
      let r = go m in
      let st = r.2 in
      let w' = r.3 w in
      subst (λ g. In m (Moves None old g)) (as_is x answer.Empty old.frames left.0 left.1 left.2 frames)
      (moves m b x x.used answer.Empty new.top old.frames None refl w.here c (subst IsReady (sym st.2) r.1) m.waits (λ e. not_both e st.0)
      (let busy = ap frame_weight st.0 in let enough = late f in let few = light (script_of new.top Began) in omega (arith, busy, enough, few)) (w'.offset ∷ m.offsets) (ap suc m.along) w'.least
      (λ n le. w'.same n le ∙ sym (λ i. within m x (world_in m.tapes (append-nil m.written i) old.outer x) (st.1 i) (st.2 i) (n - w'.offset) n))))

  -- it has ended, and the frame below is given the end
  ended : (m : Course old) (b : Far) (x : Side) (k : ℕ) (y : Completion) → 9 ≤ floor b → Account b x.used → Here old.outer x →
      (us : List Frame) (os : List ℕ) → length os ≡ length us → Busy us → frames_weight us ≡ frames_weight old.frames → (p least : ℕ) →
      ((n : ℕ) → least ≤ n → m.meaning n ≡ above m.read old.outer.bound (place_in old.outer x) (world m x) k (Give y) (n - p) us (depths os n)) →
      (a : Answer) → IsEnd a y → In m (Moves None old (below us (held x a new.top us)))
  ended m b x k y late c here us os along waits weight p least same answer.Empty e = absurd e
  ended m b x k y late c here [] os along waits weight p least same (answer.Done o) e =
      moves m b x x.used (answer.Done o) idle [] None refl here c tt tt (λ e. refl) (omega (arith, weight, late)) (0 ∷ []) refl least
      (λ n le. same n le ∙ sym (λ i. let r : LiveRan Holds = Done (world_in m.tapes (append-nil m.written i) old.outer x) (e i) in r))
  ended m b x k y late c here (f ∷ us) [] along waits weight p least same (answer.Done o) e = absurd (omega (arith, along))
  ended m b x k y late c here (f ∷ us) (j ∷ os) along waits weight p least same (answer.Done o) e =
      moves m b x x.used (answer.Done o) f us None refl here c tt waits.1 (λ e. not_both e waits.0) (omega (arith, weight, late)) (j ∷ os) along least
      (λ n le. same n le
      ∙ sym (λ i. above m.read old.outer.bound (place_in old.outer x) (world_in m.tapes (append-nil m.written i) old.outer x) f.calls (script_of f (Ended (e i))) (n - j) us (depths os n)))

  module _ (stays : Stay) (stands : (k : ℕ) (f : Frame) (g : Given) (P : language.Steps → Type 0) → stays k f g P → Stands k f g P) where
    -- a part begins above it
    begins : (b : Far) (x : Side) (k : ℕ) (t : language.Work) (s : Completion → language.Steps) → (AtFirst b x (Part t s) → 5 ≤ floor b + part_first old.top old.answer b) →
        n ≡ next.Going → Left old.outer x new → IsFresh t k new.top → (fs : List Frame) → new.frames ≡ fs →
        OnOne fs (λ f fs. ((e : Completion) → stays k f (Ended e) (Is (s e))) × (fs ≡ old.frames)) → Does b x k (Part t s)
    begins b x k t s late is left fresh [] frames on = absurd on
    begins b x k t s late is left fresh (f ∷ fs) frames on =
        ends_so b x k (Part t s) next.Going is (λ e. cc) left.2
        (λ m c first w.
        let new_is = begun m.read t k new.top fresh in
        let st = λ (e : Completion). stands k f (Ended e) (Is (s e)) (on.0 e) in
        let waits = st (Normal None) in
        let w' = deep m x (at m x k (Part t s)) w in
        subst (λ g. In m (Moves None old g)) (as_is x answer.Empty (f ∷ old.frames) left.0 left.1 left.2 (frames ∙ ap (λ us. f ∷ us) on.1))
        (moves m b x x.used answer.Empty new.top (f ∷ old.frames) None refl w.here c (subst IsReady (sym new_is.script) (pays_ready (row m.read t) (fresh_pays m.read t k new.top fresh)))
        (waits.0, m.waits) (λ e. not_both e new_is.busy)
        (let busy = ap frame_weight new_is.busy in let also = ap frame_weight waits.0 in let enough = late first in
        let none = ap part_weight new_is.script ∙ pays_light (row m.read t) (fresh_pays m.read t k new.top fresh) in omega (arith, busy, also, enough, none))
        (w'.offset ∷ w.offset ∷ m.offsets) (ap (λ n. suc (suc n)) m.along) w'.least
        (λ n le. let e : n - w.offset ≡ suc (n - suc w.offset) = omega (arith, le) in
        w'.same n le ∙ exact m x k (Part t s) (suc (n - suc w.offset)) n
        ∙ sym (λ i. let place = place_in old.outer x in
        live_means (language m.read) old.outer.bound (top (n - suc w.offset) (place (new_is.calls i)) (world_in m.tapes (append-nil m.written i) old.outer x) (new_is.script i)
        (Waits (e i) (place (waits.1 i)) (λ e. let r = st e in r.2 i) ∷ under m x n))))))

    -- a step that was given an end or has paid stays where it comes to a charge
    stays_put : (b : Far) (x : Side) (k : ℕ) (s : language.Steps) → 9 ≤ floor b → IsReady s → Goes stays old.frames old.outer x k (Is s) n new → Does b x k s
    stays_put b x k s late pays g = goes_on b x k s (λ f. late) g.0 g.1 g.3 (λ m. (s, pays, stands k new.top Began (Is s) g.2, λ w. w))

    module _ (m : Further) (known : (b : Far) (x : Side) (k : ℕ) (y : language.Operation) → m b x k y n new → Does b x k (Become (Operate y))) where
      walk : (b : Far) (s : language.Steps) (x : Side) (k : ℕ) → goes m b s stays old.frames old.outer x k n new → Does b x k s
      walk b (Give y) x k g =
          ends_so b x k (Give y) next.Ended g.0 (λ e. cc) g.3
          (λ m c f w. subst (λ (g : Held). In m (Moves None old (below g.frames g))) (as_is x new.answer old.frames g.2 refl g.3 g.4)
          (ended m b x k y (later b (λ e. (f e).1)) c w.here old.frames m.offsets m.along m.waits refl w.offset w.least w.same new.answer g.1))
      walk b (Halt y) x k g = (let h = halt_is n y x g.0 in stops b x k (Halt y) h.0 (Stopped y) (h.1, g.1, g.2) h.2 (λ m w. onward m x x _ _ w.here (λ d n. refl) w))
      walk b (Look f) x k g =
          via b x x k k (Look f) (f (realm_in x)) refl (λ a e. let q = a e in let p = q.1 (realm_in x) in let z = pays_light (f (realm_in x)) p in (q.0, pays_ready (f (realm_in x)) p, q.2, omega (arith, z))) (λ m w. looks m x k f w) (walk b (f (realm_in x)) x k g)
      walk b (Change f s) x k g = via b x (change_in f x) k k (Change f s) s refl (λ a e. let q = a e in let z = pays_light s q.1 in (q.0, pays_ready s q.1, q.2, omega (arith, z))) (λ m w. changes m x k f s w) (walk b s (change_in f x) k g)
      walk Fresh (Pay c s) x k g = pays_first x k c k (Pay c s) s refl (λ m w. charges m x k c s w) _ g (walk Paid s (pay_in (suc c) x) k)
      walk b (Pay c s) x k g = stays_put b x k (Pay c s) (omega arith) tt g
      walk Fresh (Enter s) x k g = enters_first x k s (may_enter k) refl _ g (walk Paid s (pay_in 1 x) (suc k))
      walk b (Enter s) x k g = stays_put b x k (Enter s) (omega arith) tt g
      walk Paid (Line text s) x k g =
          let left = g.1 in
          let st = stands k new.top (Ended (Normal None)) (Is s) (g.2 (Normal None)) in
          let o = old.outer in
          ends_so Paid x k (Line text s) (next.Print text) g.0 (λ e. cc) left.2
          (λ m c f w. subst (λ g. In m (Moves (Some text) old (printed text g))) (as_is x answer.Empty old.frames left.0 left.1 left.2 g.3)
          (moves m Paid (line_in text x) x.used (answer.Done (completion.Normal None)) new.top old.frames (Some text) refl (here_along o x (with_line text) refl w.here) c tt m.waits
          (λ e. not_both e st.0) (let busy = ap frame_weight st.0 in omega (arith, busy)) (w.offset ∷ m.offsets) (ap suc m.along) w.least
          (λ n le. w.same n le ∙ ap (λ v. within m x v k s (n - w.offset) n) (sym (line_is m.tapes o x w.here m.written text))
          ∙ sym (λ i. let v = m.written ++ Printed text ∷ [] in
          above m.read o.bound (places_along o x (with_line text) refl i) (world_in m.tapes v o (line_in text x)) (st.1 i) (st.2 i) (n - w.offset) old.frames (depths m.offsets n)))))
      walk b (Line text s) x k g = absurd g
      walk b (Part (Run c t) s) x k g =
          on_tree _ c t (realm_in x) b _ _ _ g
          (λ v is first h. subst (λ b. Does b x k (Part (Run c t) s)) (sym first)
          (evaluates x k c t s v is _ h (walk Paid (s (Normal (Some v))) (begun_in c.source t.from x) k)))
          (λ is late h. let st = stands k new.top Began (IsPart (Run c t) s) h.2 in
          goes_on b x k (Part (Run c t) s) (λ f. late) h.0 h.1 h.3
          (λ m. (Part (Run c t) s, is, (st.0, st.1, is_part (Run c t) s (script_of new.top Began) st.2), λ w. w)))
          (λ none first h. subst (λ b. Does b x k (Part (Run c t) s)) (sym first)
          (begins Fresh x k (Run c t) s (λ f. let q = (f refl).3 in omega (arith, q)) h.0 h.1 h.2 new.frames refl h.3))
          (λ late h. begins b x k (Run c t) s (λ f. omega (arith, late)) h.0 h.1 h.2 new.frames refl h.3)
      walk b (Part t s) x k g = begins b x k t s (λ f. let l = later b (λ e. (f e).1) in omega (arith, l)) g.0 g.1 g.2 new.frames refl g.3
      walk b (Become (Operate y)) x k g = known b x k y g
      walk b (Become t) x k g =
          goes_on b x k (Become t) (λ f. later b (λ e. (f e).1)) g.0 g.1 g.3
          (λ m. let is = begun m.read t k new.top g.2 in (row m.read t, pays_ready (row m.read t) (fresh_pays m.read t k new.top g.2), (is.busy, is.calls, is.script), deep m x (at m x k (Become t))))
      walk b s x k g = absurd g

    -- the row of a further task goes on in the same step
    pub does : (b : Far) (s : language.Steps) (x : Side) (k : ℕ) → goes (further operation stays old.frames old.outer) b s stays old.frames old.outer x k n new → Does b x k s
    does =
        walk (further operation stays old.frames old.outer)
        (λ b x k y g. via b x x k k (Become (Operate y)) (operation y) refl (λ a e. absurd (a e).1) (λ m w. deep m x (at m x k (Become (Operate y))) w)
        (walk nowhere (λ b x k y g. absurd g) b (operation y) x k g))
