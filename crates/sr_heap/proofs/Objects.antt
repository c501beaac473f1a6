-- The records of the code, as objects of the definitions: one of them, and one of them changed.
use Rattle.std.proofs.Common.{◌≡◌, ℕ, suc, ◌<◌, ◌≤◌, List, map, Option, None, Some, subst, refl, sym, ap, ◌∙◌, arith, length, set, get_or}
use Rattle.std.specs.Prelude.{option_map, IsSome}
use Rattle.std.specs.Option.{option_map_or}
use Rattle.std.specs.Map.{lookup, set_value, remove_entry}
use Rattle.std.proofs.lemmas.List.{map-set, length-map}
use Rattle.std.proofs.lemmas.Option.{slice_get-map, slice_get_read}
use Rattle.sr_tag.specs.Reference.{Reference}
use Rattle.sr_value.specs.declared.value.Key.{Key}
use Rattle.sr_value.specs.declared.property.Property.{Property}
use Rattle.sr_value.specs.contracts.value.KeyPartialEq.TheImpl as key_eq
use Rattle.sr_value.specs.Plain.{number_of, key_of, property_of}
use Rattle.sr_value.specs.Exact.{key_test}
use Rattle.sr_model.specs.Keys.{same_key}
use Rattle.sr_model.specs.Properties as model_properties
use Rattle.sr_model.specs.Numbered.{item, change}
use Rattle.sr_model.specs.Kinds.{Kind}
use Rattle.sr_model.specs.Objects as model
use Rattle.sr_heap.specs.declared.object.Object.{Object}
use Rattle.sr_heap.specs.Live.{Realm, Extent, IsLive, KeepsLive, extent, with_objects}
use Rattle.sr_heap.specs.Records.{Parts, realm_of, extent_of, pair_of, object_of, objects_of, environment_of, environments_of}
use Rattle.sr_heap.proofs.Lives.{grown}
use Rattle.sr_heap.proofs.Tables.{lookup_map, set_value_map, remove_entry_map}

module _ {C B : Type 0} where
  -- the record at a place
  pub object_there : (os : List (Object C B)) (i : ℕ) (o : Object C B) → i < length os → o ≡ get_or os i o → item (objects_of os) (suc i) ≡ Some (object_of o)
  object_there os i o within e = slice_get-map object_of os i ∙ ap (option_map object_of) (slice_get_read os (length os) i o refl within e)

  -- the objects with another record at a place
  changed : (os : List (Object C B)) (i : ℕ) (o p : Object C B) (f : model.Object (Kind C B) → model.Object (Kind C B)) → i < length os → o ≡ get_or os i o → object_of p ≡ f (object_of o)
      → objects_of (set os i p) ≡ change (objects_of os) (suc i) f
  changed os i o p f within e same =
      map-set object_of os i p
      ∙ ap (λ x. set (objects_of os) i x) same
      ∙ sym (ap (λ x. option_map_or (λ y. set (objects_of os) i (f y)) x (objects_of os)) (object_there os i o within e))

  -- an object with another kind
  abbrev pub with_kind : model.Object (Kind C B) → Kind C B → model.Object (Kind C B)
  with_kind o k = record o { kind = k }

  -- the heap of some parts
  module _ (x : Parts C B) (h : Realm C B) (e : realm_of x ≡ h) where
    -- its extent
    pub extent_is : extent h ≡ extent_of x
    extent_is =
        let counted : ℕ → ℕ → Extent = λ m n. record { tag = x.tag; objects = m; environments = n } in
        sym (ap (λ (y : Realm C B). extent y) e)
        ∙ ap (λ (m : ℕ). counted m (length (environments_of x.environments))) (length-map x.objects object_of)
        ∙ ap (λ (n : ℕ). counted (length x.objects) n) (length-map x.environments environment_of)

    -- the record of a live reference
    module _ (r : Reference) (live : IsLive (extent h) r) where
      pub within : r.place < length x.objects
      within = omega (arith, live.number, ap (λ (y : Extent). y.objects) extent_is)

      module _ (i : ℕ) (o : Object C B) (at : i ≡ r.place) (there : o ≡ get_or x.objects i o) where
        here : i < length x.objects
        here = omega (arith, within)

        pub record_there : item h.store.objects (number_of r) ≡ Some (object_of o)
        record_there =
            ap (λ (y : Realm C B). item y.store.objects (number_of r)) (sym e)
            ∙ ap (λ (n : ℕ). item (objects_of x.objects) (suc n)) (sym at)
            ∙ object_there x.objects i o here there

        pub changed_heap : (p : Object C B) (f : model.Object (Kind C B) → model.Object (Kind C B)) → object_of p ≡ f (object_of o)
            → realm_of (record x { objects = set x.objects i p }) ≡ with_objects (change h.store.objects (number_of r) f) h
        changed_heap p f same =
            ap (λ os. with_objects os (realm_of x)) (changed x.objects i o p f here there same)
            ∙ ap (λ (n : ℕ). with_objects (change (objects_of x.objects) (suc n) f) (realm_of x)) at
            ∙ ap (λ (y : Realm C B). with_objects (change y.store.objects (number_of r) f) y) e

-- what is live in a heap stays so where nothing is taken away
pub kept_by : {C B : Type 0} (x : Parts C B) (h : Realm C B) (e : realm_of x ≡ h) (y : Parts C B) → x.tag ≡ y.tag
    → length x.objects ≤ length y.objects → length x.environments ≤ length y.environments → KeepsLive (extent h) (extent (realm_of y))
kept_by x h e y tag objects environments =
    subst (λ (a : Extent). KeepsLive a (extent (realm_of y))) (sym (extent_is x h e))
    (subst (λ (b : Extent). KeepsLive (extent_of x) b) (sym (extent_is y (realm_of y) refl)) (grown (extent_of x) (extent_of y) tag objects environments))

-- the properties
pub lookup_pairs : (k : Key) (ps : List (Key × Property)) → lookup (same_key (key_of k)) (map pair_of ps) ≡ option_map property_of (lookup (key_eq.ghosts.eq k) ps)
lookup_pairs k ps = lookup_map key_of property_of (key_eq.ghosts.eq k) (same_key (key_of k)) (key_test k) ps

pub set_pairs : (k : Key) (ps : List (Key × Property)) (p : Property) → set_value (same_key (key_of k)) (map pair_of ps) (property_of p) ≡ map pair_of (set_value (key_eq.ghosts.eq k) ps p)
set_pairs k ps p = set_value_map key_of property_of (key_eq.ghosts.eq k) (same_key (key_of k)) (key_test k) ps p

pub remove_pairs : (k : Key) (ps : List (Key × Property)) → remove_entry (same_key (key_of k)) (map pair_of ps) ≡ map pair_of (remove_entry (key_eq.ghosts.eq k) ps)
remove_pairs k ps = remove_entry_map key_of property_of (key_eq.ghosts.eq k) (same_key (key_of k)) (key_test k) ps

none_before : (o : Option Property) → option_map property_of o ≡ None → o ≡ None
none_before None e = refl
none_before (Some p) e = cc

some_before : (o : Option Property) → IsSome (option_map property_of o) → IsSome o
some_before None h = h
some_before (Some p) h = refl

pub absent : (k : Key) (ps : List (Key × Property)) → lookup (same_key (key_of k)) (map pair_of ps) ≡ None → lookup (key_eq.ghosts.eq k) ps ≡ None
absent k ps e = none_before (lookup (key_eq.ghosts.eq k) ps) (sym (lookup_pairs k ps) ∙ e)

pub present : (k : Key) (ps : List (Key × Property)) → IsSome (lookup (same_key (key_of k)) (map pair_of ps)) → IsSome (lookup (key_eq.ghosts.eq k) ps)
present k ps h = some_before (lookup (key_eq.ghosts.eq k) ps) (subst (λ (o : Option model_properties.Property). IsSome o) (lookup_pairs k ps) h)
