-- What changes in the realm that runs changes in the world.
use Rattle.std.proofs.Common.{◌≡◌, refl, sym, ap, ◌∙◌, ℕ, zero, suc, ◌+◌, Bool, true, false, List, [], ◌∷◌, ◌++◌, map}
use Rattle.std.specs.Prelude.{slice_set}
use Rattle.sr_model.specs.Values.{Text, Path, root, same}
use Rattle.sr_model.specs.Realm.{Inner, Realm}
use Rattle.sr_model.specs.World.{Slot, Write, Printed, World, Place, choose, change, put, pay, print}
use Rattle.sr_model.specs.World as worlds
use Rattle.sr_state.specs.Work.{Holds}
use Rattle.sr_model.proofs.Same.{same_self, same_tells}
use Rattle.sr_state.specs.Held.{Own, Side, Outer, Level, path_of, table, realm_in, inner_in, realm_as, with_inner, with_steps, with_line, change_in, pay_in, line_in}
use Rattle.sr_machine.specs.Worlds.{Tapes, realm_at, paths, path_at, link_of, world_in, First, Here, place_in}

choose_choose : (b : Bool) (x y z : Realm Holds) → choose b x z ≡ choose b x (choose b y z)
choose_choose true x y z = refl
choose_choose false x y z = refl

-- two tests of which the one excludes the other
choose_swap : (b c : Bool) (x y z : Realm Holds) → (b ≡ true → c ≡ false) → choose c x (choose b y z) ≡ choose b y (choose c x z)
choose_swap true true x y z h = absurd (let e = h refl in let f : true ≡ false = e in cc)
choose_swap true false x y z h = refl
choose_swap false c x y z h = refl

-- y in place of x, which has the same path
module _ (x y : Own) (e : path_of y ≡ path_of x) where
  set_paths : (xs : List Own) (i : ℕ) → paths (slice_set xs i y) ≡ paths (slice_set xs i x)
  set_paths [] i = refl
  set_paths (a ∷ xs) zero = ap (λ q. q ∷ paths xs) e
  set_paths (a ∷ xs) (suc i) = ap (λ qs. path_of a ∷ qs) (set_paths xs i)

  set_first : (xs : List Own) (i : ℕ) → First (slice_set xs i x) i (path_of x) → First (slice_set xs i y) i (path_of y)
  set_first [] i h = absurd h
  set_first (a ∷ xs) zero h = refl
  set_first (a ∷ xs) (suc i) h = (ap (λ r. same r (path_of a)) e ∙ h.0, set_first xs i h.1)

  set_realm : (xs : List Own) (i : ℕ) → First (slice_set xs i x) i (path_of x) → (q : Path) → realm_at (slice_set xs i y) q ≡ choose (same q (path_of x)) y.realm (realm_at (slice_set xs i x) q)
  set_realm [] i h q = absurd h
  set_realm (a ∷ xs) zero h q = ap (λ r. choose (same q r) y.realm (realm_at xs q)) e ∙ choose_choose (same q (path_of x)) y.realm x.realm (realm_at xs q)
  set_realm (a ∷ xs) (suc i) h q =
      ap (choose (same q (path_of a)) a.realm) (set_realm xs i h.1 q)
      ∙ choose_swap (same q (path_of x)) (same q (path_of a)) a.realm y.realm (realm_at (slice_set xs i x) q) (λ s. ap (λ r. same r (path_of a)) (same_tells q (path_of x) s) ∙ h.0)

at_first : (xs : List Own) (i : ℕ) (x : Own) → First (slice_set xs i x) i (path_of x) → realm_at (slice_set xs i x) (path_of x) ≡ x.realm
at_first xs i x h = set_realm x x refl xs i h (path_of x) ∙ ap (λ b. choose b x.realm (realm_at (slice_set xs i x) (path_of x))) (same_self (path_of x))

path_first : (xs : List Own) (i : ℕ) (x : Own) → First (slice_set xs i x) i (path_of x) → path_at (paths (slice_set xs i x)) i ≡ path_of x
path_first [] i x h = absurd h
path_first (a ∷ xs) zero x h = refl
path_first (a ∷ xs) (suc i) x h = path_first xs i x h.1

-- a slot with another realm
slot_as : (z : Tapes) (q p : Path) (b : Bool) (r s : Realm Holds) → same q p ≡ b → (let a : Slot Holds = record { realm = choose b r s; tape = z q } in a ≡ choose b (record { realm = r; tape = z p }) (record { realm = s; tape = z q }))
slot_as z q p true r s e = ap (λ (u : Path). let a : Slot Holds = record { realm = r; tape = z u } in a) (same_tells q p e)
slot_as z q p false r s e = refl

module _ (o : Outer) (x : Side) (g : Realm Holds → Realm Holds) (keeps : (let r = g (realm_in x) in let s = realm_in x in r.path ≡ s.path)) where
  abbrev changed : Own
  changed = (let y = realm_as g x in y.own)

  -- the realm that runs is still found
  pub here_along : Here o x → Here o (realm_as g x)
  here_along h = (set_first x.own changed keeps o.others o.here h.0, keeps ∙ h.1)

  -- and the places are the same
  pub places_along : place_in o (realm_as g x) ≡ place_in o x
  places_along =
      (λ i k. let path = path_at (set_paths x.own changed keeps o.others o.here i) in
      let c : Place = record { realm = path o.here; calls = k; under = path o.here ∷ map (λ (l : Level). path l.realm) o.below } in c)

module _ (z : Tapes) (o : Outer) (x : Side) (h : Here o x) where
  abbrev p : Path
  p = path_at (paths (table o x)) o.here

  own_path : p ≡ path_of x.own
  own_path = path_first o.others o.here x.own h.0

  -- and that is the root
  pub at_root : p ≡ root
  at_root = own_path ∙ h.1

  -- the world has the realm that runs at its path
  pub realm_here : realm_at (table o x) p ≡ realm_in x
  realm_here = ap (realm_at (table o x)) own_path ∙ at_first o.others o.here x.own h.0

  changed_in : (v : List Write) (g : Realm Holds → Realm Holds) (f : Slot Holds → Slot Holds) → (let r = g (realm_in x) in let s = realm_in x in r.path ≡ s.path) →
      (let a : Slot Holds = record { realm = realm_in x; tape = z p } in f a ≡ record { realm = g (realm_in x); tape = z p }) →
      world_in z v o (realm_as g x) ≡ change p f (world_in z v o x)
  changed_in v g f keeps does =
      let ps = set_paths x.own (changed o x g keeps) keeps o.others o.here in
      let slot = λ (r : Realm Holds). let a : Slot Holds = record { realm = r; tape = z p } in a in
      (λ j. let w : World Holds = world_in z v o x in record w {
        slots = λ q.
            (ap (λ r. let a : Slot Holds = record { realm = r; tape = z q } in a)
            (set_realm x.own (changed o x g keeps) keeps o.others o.here h.0 q ∙ ap (λ r. choose (same q r) (g (realm_in x)) (realm_at (table o x) q)) (sym own_path))
            ∙ slot_as z q p (same q p) (g (realm_in x)) (realm_at (table o x) q) refl
            ∙ ap (λ (s : Slot Holds). choose (same q p) s (record { realm = realm_at (table o x) q; tape = z q })) (sym (ap (λ r. f (slot r)) realm_here ∙ does))) j;
        made = ps j;
        links = map (link_of (ps j)) o.links;
      })

  pub change_is : (v : List Write) (f : Inner Holds → Inner Holds) → world_in z v o (change_in f x) ≡ put p (f (inner_in x)) (world_in z v o x)
  change_is v f = changed_in v (with_inner f) (worlds.with_inner (f (inner_in x))) refl refl

  pub pay_is : (v : List Write) (c : ℕ) → world_in z v o (pay_in c x) ≡ pay p c (world_in z v o x)
  pay_is v c = ap (λ (w : World Holds). record w { used = x.used + c }) (changed_in v (with_steps c) (worlds.with_steps c) refl refl)

  pub line_is : (v : List Write) (text : Text) → world_in z (v ++ Printed text ∷ []) o (line_in text x) ≡ print p text (world_in z v o x)
  line_is v text = ap (λ (w : World Holds). record w { writes = v ++ Printed text ∷ [] }) (changed_in v (with_line text) (worlds.with_line text) refl refl)
