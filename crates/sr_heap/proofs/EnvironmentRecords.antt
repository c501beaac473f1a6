-- Bindings and environments of the code as those of the definitions.
use Rattle.std.proofs.Common.{◌≡◌, ℕ, suc, ◌<◌, List, [], ◌∷◌, ◌++◌, Option, None, Some, subst, refl, sym, ap, ◌∙◌, arith, length, set, get_or}
use Rattle.std.specs.Prelude.{option_map, IsSome}
use Rattle.std.specs.Option.{option_map_or}
use Rattle.std.specs.Map.{lookup, set_value}
use Rattle.std.proofs.lemmas.List.{map-set, map-append, set-get_or}
use Rattle.std.proofs.lemmas.Option.{slice_get-map, slice_get_read}
use Rattle.sr_tag.specs.Reference.{Reference}
use Rattle.sr_value.specs.Plain.{number_of}
use Rattle.sr_model.specs.Values.{same}
use Rattle.sr_model.specs.Numbered.{item, change}
use Rattle.sr_model.specs.Environments as model
use Rattle.sr_heap.specs.declared.bindings.Binding.{Binding}
use Rattle.sr_heap.specs.declared.environments.Environment.{Environment}
use Rattle.sr_heap.specs.Plain.{binding_of, bindings_of}
use Rattle.sr_heap.specs.Live.{Realm, Extent, IsLiveScope, extent, with_environments}
use Rattle.sr_heap.specs.Records.{Parts, realm_of, environment_of, environments_of}
use Rattle.sr_heap.proofs.Tables.{lookup_map, set_value_map}
use Rattle.sr_heap.proofs.Objects.{extent_is}

-- the bindings of names
module _ (x : List ℕ) (bs : List (List ℕ × Binding)) where
  pub bound_is : model.bound x (bindings_of bs) ≡ option_map binding_of (lookup (same x) bs)
  bound_is = lookup_map (λ y. y) binding_of (same x) (same x) (λ y. refl) bs

  none_before : (o : Option Binding) → option_map binding_of o ≡ None → o ≡ None
  none_before None e = refl
  none_before (Some b) e = cc

  some_before : (o : Option Binding) → IsSome (option_map binding_of o) → IsSome o
  some_before None h = h
  some_before (Some b) h = refl

  pub unbound : model.bound x (bindings_of bs) ≡ None → lookup (same x) bs ≡ None
  unbound e = none_before (lookup (same x) bs) (sym bound_is ∙ e)

  pub bound_there : IsSome (model.bound x (bindings_of bs)) → IsSome (lookup (same x) bs)
  bound_there h = some_before (lookup (same x) bs) (subst (λ (o : Option model.Binding). IsSome o) bound_is h)

  pub created_is : (b : Binding) → bindings_of (bs ++ (x, b) ∷ []) ≡ bindings_of bs ++ (x, binding_of b) ∷ []
  created_is b = map-append (λ c. (c.0, binding_of c.1)) bs ((x, b) ∷ [])

  pub rebound_is : (b : Binding) → model.rebound x (binding_of b) (bindings_of bs) ≡ bindings_of (set_value (same x) bs b)
  rebound_is b = set_value_map (λ y. y) binding_of (same x) (same x) (λ y. refl) bs b

-- an environment with other bindings
abbrev pub with_bindings : model.Environment → model.Bindings → model.Environment
with_bindings e bs = record e { bindings = bs }

-- the environments of a heap: the record of a live reference, and another one in its place
module _ {C B : Type 0} (p : Parts C B) (h : Realm C B) (e : realm_of p ≡ h) (r : Reference) (live : IsLiveScope (extent h) r) where
  pub within : r.place < length p.environments
  within = omega (arith, live.number, ap (λ (y : Extent). y.environments) (extent_is p h e))

  module _ (i : ℕ) (s : Environment) (at : i ≡ r.place) (there : s ≡ get_or p.environments i s) where
    here : i < length p.environments
    here = omega (arith, within)

    place_there : item (environments_of p.environments) (suc i) ≡ Some (environment_of s)
    place_there = slice_get-map environment_of p.environments i ∙ ap (option_map environment_of) (slice_get_read p.environments (length p.environments) i s refl here there)

    pub environment_there : item h.store.environments (number_of r) ≡ Some (environment_of s)
    environment_there =
        ap (λ (y : Realm C B). item y.store.environments (number_of r)) (sym e)
        ∙ ap (λ (n : ℕ). item (environments_of p.environments) (suc n)) (sym at)
        ∙ place_there

    changed : (t : Environment) (f : model.Environment → model.Environment) → environment_of t ≡ f (environment_of s)
        → environments_of (set p.environments i t) ≡ change (environments_of p.environments) (suc i) f
    changed t f same =
        map-set environment_of p.environments i t
        ∙ ap (λ y. set (environments_of p.environments) i y) same
        ∙ sym (ap (λ y. option_map_or (λ z. set (environments_of p.environments) i (f z)) y (environments_of p.environments)) place_there)

    pub kept_environments : (t : Environment) → t ≡ s → realm_of (record p { environments = set p.environments i t }) ≡ h
    kept_environments t same =
        ap (λ es. with_environments (environments_of es) (realm_of p))
        (ap (λ y. set p.environments i y) (same ∙ there) ∙ set-get_or p.environments i s)
        ∙ e

    pub changed_environments : (t : Environment) (f : model.Environment → model.Environment) → environment_of t ≡ f (environment_of s)
        → realm_of (record p { environments = set p.environments i t }) ≡ with_environments (change h.store.environments (number_of r) f) h
    changed_environments t f same =
        ap (λ es. with_environments es (realm_of p)) (changed t f same)
        ∙ ap (λ (n : ℕ). with_environments (change (environments_of p.environments) (suc n) f) (realm_of p)) at
        ∙ ap (λ (y : Realm C B). with_environments (change y.store.environments (number_of r) f) y) e
