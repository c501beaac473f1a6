-- What a run still comes to, as a step goes along a script.
use Rattle.std.proofs.Common.{◌≡◌, refl, sym, ap, ◌∙◌, subst, ℕ, suc, ◌+◌, ◌-◌, ◌≤◌, true, false, List, Some, length, arith}
use Rattle.sr_ast.specs.declared.tree.Tree.{Tree}
use Rattle.sr_ast.specs.declared.reading.Reading.{Reading}
use Rattle.sr_model.specs.Values.{Text, Value}
use Rattle.sr_model.specs.Outcomes.{Completion, Normal}
use Rattle.sr_model.specs.Realm.{Inner, Realm}
use Rattle.sr_model.specs.Tasks.{Context, Run}
use Rattle.sr_model.specs.Scripts.{Look, Change, Part, Pay, Enter, then_follow, IsPlain}
use Rattle.sr_model.specs.World.{Write, World, may_enter, put}
use Rattle.sr_model.specs.Holds.{marked, store_in}
use Rattle.sr_model.specs.Names.{Known, Has, Getter, NoValue, NotBound, value_of_name}
use Rattle.sr_state.specs.Errors.{or_fail, value_or_failure}
use Rattle.sr_state.specs.Trees.{give_value}
use Rattle.sr_state.specs.Work.{Holds}
use Rattle.sr_worlds.specs.Evaluation.{then_do}
use Rattle.sr_worlds.specs.Live.{LiveRan, Steps, over, live_pay, live}
use Rattle.sr_worlds.specs.LiveStacks.{LiveFrames, live_owed}
use Rattle.sr_worlds.specs.Stacks as stacks
use Rattle.sr_worlds.proofs.StackSteps.{steps}
use Rattle.sr_state.specs.Work as language
use Rattle.sr_state.specs.Held.{Held, Side, realm_in, with_inner, with_steps, change_in, pay_in, room_in, table}
use Rattle.sr_state.specs.Step.{Operand, Literal, Name, at_hand, operand_of, value_now}
use Rattle.sr_machine.specs.Language.{language}
use Rattle.sr_machine.specs.Worlds.{Tapes, Here, paths, path_at, world_in, place_in}
use Rattle.sr_machine.specs.Stack.{waiting, above, depths}
use Rattle.sr_machine.specs.Going.{OfRun, Busy}
use Rattle.sr_machine.proofs.Worlds.{realm_here, here_along, places_along, change_is, pay_is}
use Rattle.sr_machine.proofs.Rows.{operand_script, operand_row, operand_is}

-- a run in this state: what it comes to, what was written, and by how much less the depths of the frames under the top are
pub record Course (old : Held) : Type 0 where
  pub read : Text → Reading
  pub tapes : Tapes
  pub meaning : ℕ → LiveRan Holds
  pub written : List Write
  pub offsets : List ℕ
  pub along : length offsets ≡ length old.frames
  pub waits : Busy old.frames

known_plain : (x : Text) (k : Known) → IsPlain (or_fail give_value (value_or_failure x k))
known_plain x (Has v) = tt
known_plain x (Getter g) = tt
known_plain x NoValue = λ r. tt
known_plain x NotBound = λ r. tt

operand_plain : (c : Context) (at : ℕ) (y : Operand) → IsPlain (operand_row c y at)
operand_plain c at (Literal w) = tt
operand_plain c at (Name x) = λ r. known_plain x (value_of_name (store_in r) c.environment x)

-- where a name has a value at hand, what follows goes on with it
known_follows : (x : Text) (k : Known) (v : Value) (s : Completion → language.Steps) → at_hand k ≡ Some v → then_follow (or_fail give_value (value_or_failure x k)) s ≡ s (Normal (Some v))
known_follows x (Has w) v s h = ap (λ o. s (Normal o)) h
known_follows x (Getter g) v s h = cc
known_follows x NoValue v s h = cc
known_follows x NotBound v s h = cc

module _ {old : Held} (m : Course old) where
  abbrev pub In : OfRun → Type 0
  In P = P m.read old.outer.bound m.tapes m.meaning m.written

  abbrev pub world : Side → World Holds
  world x = world_in m.tapes m.written old.outer x

  abbrev pub under : Side → ℕ → LiveFrames language.Work Holds
  under x n = waiting (place_in old.outer x) old.frames (depths m.offsets n)

  -- what a script with k active calls comes to in a world, by its depth and that of the run
  abbrev pub within : Side → World Holds → ℕ → language.Steps → ℕ → ℕ → LiveRan Holds
  within x w k s d n = above m.read old.outer.bound (place_in old.outer x) w k s d old.frames (depths m.offsets n)

  abbrev pub at : Side → ℕ → language.Steps → ℕ → ℕ → LiveRan Holds
  at x k s d n = within x (world x) k s d n

  -- the same of a charge, and after it the script with j active calls
  abbrev pub paying : Side → ℕ → ℕ → ℕ → language.Steps → ℕ → ℕ → LiveRan Holds
  paying x k c j s d n = then_do (live_pay old.outer.bound c (place_in old.outer x k) (world x)) (λ (w : World Holds) u. within x w j s d n)

  -- at the side x the run still comes to this
  pub record Still (x : Side) (r : ℕ → ℕ → LiveRan Holds) : Type 0 where
    pub here : Here old.outer x
    pub offset : ℕ
    pub least : ℕ
    pub same : (n : ℕ) → least ≤ n → m.meaning n ≡ r (n - offset) n

  pub onward : (x x' : Side) (r r' : ℕ → ℕ → LiveRan Holds) → Here old.outer x' → ((d n : ℕ) → r d n ≡ r' d n) → Still x r → Still x' r'
  onward x x' r r' here e w = record { here = here; offset = w.offset; least = w.least; same = λ n le. w.same n le ∙ e (n - w.offset) n }

  -- the depth suffices for one task more
  abbrev pub deep : (x : Side) (r : ℕ → ℕ → LiveRan Holds) → Still x r → Still x (λ d n. r (suc d) n)
  deep x r w = record {
    here = w.here;
    offset = suc w.offset;
    least = w.offset + suc w.least;
    same = λ n le. w.same n (omega (arith, le)) ∙ ap (λ d. r d n) (let e : n - w.offset ≡ suc (n - suc w.offset) = omega (arith, le) in e);
  }

  -- a step of the script, as the worlds have it
  pub exact : (x : Side) (k : ℕ) (s : language.Steps) (d n : ℕ) →
      at x k s d n ≡ stacks.stepped (language m.read) (live (language m.read) old.outer.bound) (live_owed (language m.read) old.outer.bound) d (place_in old.outer x k) (world x) (under x n) s
  exact x k s d n = (steps (language m.read) (live (language m.read) old.outer.bound) (live_owed (language m.read) old.outer.bound)).exact d (place_in old.outer x k) (world x) s (under x n)

  pub looks : (x : Side) (k : ℕ) (f : Realm Holds → language.Steps) → Still x (at x k (Look f)) → Still x (at x k (f (realm_in x)))
  looks x k f w = onward x x _ _ w.here (λ d n. ap (λ (r : Realm Holds). at x k (f r) d n) (realm_here m.tapes old.outer x w.here)) w

  pub changes : (x : Side) (k : ℕ) (f : Inner Holds → Inner Holds) (s : language.Steps) → Still x (at x k (Change f s)) → (let x' = change_in f x in Still x' (at x' k s))
  changes x k f s w =
      (let o = old.outer in
      onward x (change_in f x) _ _ (here_along o x (with_inner f) refl w.here)
      (λ d n. ap (λ (r : Realm Holds). within x (put (path_at (paths (table o x)) o.here) (f r.inner) (world x)) k s d n) (realm_here m.tapes o x w.here)
      ∙ sym (λ i. above m.read o.bound (places_along o x (with_inner f) refl i) (change_is m.tapes o x w.here m.written f i) k s d old.frames (depths m.offsets n))) w)

  pub charges : (x : Side) (k c : ℕ) (s : language.Steps) → Still x (at x k (Pay c s)) → Still x (paying x k c k s)
  charges x k c s w = onward x x _ _ w.here (exact x k (Pay c s)) w

  pub enters : (x : Side) (k : ℕ) (s : language.Steps) → may_enter k ≡ true → Still x (at x k (Enter s)) → Still x (paying x k 0 (suc k) s)
  enters x k s may w = onward x x _ _ w.here (λ d n. exact x k (Enter s) d n ∙ rw may refl) w

  pub pays : (x : Side) (k c j : ℕ) (s : language.Steps) → room_in old.outer.bound x (suc c) ≡ true → Still x (paying x k c j s) → (let x' = pay_in (suc c) x in Still x' (at x' j s))
  pays x k c j s room w =
      (let o = old.outer in
      onward x (pay_in (suc c) x) _ _ (here_along o x (with_steps (suc c)) refl w.here)
      (λ d n. rw room (sym (λ i. above m.read o.bound (places_along o x (with_steps (suc c)) refl i) (pay_is m.tapes o x w.here m.written (suc c) i) j s d old.frames (depths m.offsets n)))) w)

  pub refuses : (x : Side) (k c j : ℕ) (s : language.Steps) → room_in old.outer.bound x (suc c) ≡ false →
      Still x (paying x k c j s) → Still x (λ d n. over (Steps (suc c)) (place_in old.outer x k) (world x))
  refuses x k c j s room w = onward x x _ _ w.here (λ d n. rw room refl) w

  -- a literal or a name that is a part is evaluated in its place
  pub in_place : (x : Side) (k : ℕ) (c : Context) (t : Tree) (y : Operand) → operand_of t ≡ Some y → (s : Completion → language.Steps) →
      Still x (at x k (Part (Run c t) s)) → Still x (at x k (Pay 0 (Change (marked c.source t.from) (then_follow (operand_script c y) s))))
  in_place x k c t y is s w =
      let same = operand_is m.read c t y is in
      let all = steps (language m.read) (live (language m.read) old.outer.bound) (live_owed (language m.read) old.outer.bound) in
      record {
        here = w.here;
        offset = w.offset;
        least = w.offset + suc w.least;
        same = λ n le. w.same n (omega (arith, le))
            ∙ subst (λ d. at x k (Part (Run c t) s) d n ≡ at x k (then_follow (operand_row c y t.from) s) d n) (let e : suc (n - suc w.offset) ≡ n - w.offset = omega (arith, le) in e)
            (all.in_place (n - suc w.offset) (place_in old.outer x k) (world x) (Run c t) s (under x n) (subst IsPlain (sym same) (operand_plain c t.from y))
            ∙ ap (λ j. at x k (then_follow j s) (suc (n - suc w.offset)) n) same);
      }

  -- and what follows goes on with its value
  pub operand_follows : (x : Side) (k : ℕ) (c : Context) (y : Operand) (v : Value) (s : Completion → language.Steps) → value_now c y (realm_in x) ≡ Some v →
      Still x (at x k (then_follow (operand_script c y) s)) → Still x (at x k (s (Normal (Some v))))
  operand_follows x k c (Literal u) v s e w = subst (λ o. Still x (at x k (s (Normal o)))) e w
  operand_follows x k c (Name text) v s e w =
      let f = λ (r : Realm Holds). then_follow (or_fail give_value (value_or_failure text (value_of_name (store_in r) c.environment text))) s in
      subst (λ j. Still x (at x k j)) (known_follows text (value_of_name (store_in (realm_in x)) c.environment text) v s e) (looks x k f w)
