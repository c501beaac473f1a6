-- One step along the prototypes.
use Rattle.std.proofs.Common.{◌≡◌, ℕ, zero, suc, ◌<◌, ◌≤◌, ◌-◌, Bool, true, false, ◌||◌, List, Option, None, Some, refl, sym, ap, ◌∙◌, arith, slice_get, nat_eq, length, get_or}
use Rattle.std.specs.Prelude.{option_map, option_and_then}
use Rattle.std.specs.Option.{option_or}
use Rattle.std.proofs.lemmas.Option.{slice_get-map, slice_get_read, slice_get_past}
use borrow.Author.Tests.{eq-eqb, ne_eqb}
use Rattle.sr_tag.specs.Reference.{Reference}
use Rattle.sr_value.specs.Plain.{number_of}
use Rattle.sr_model.specs.Keys as model_keys
use Rattle.sr_model.specs.Properties as model_properties
use Rattle.sr_model.specs.Numbered.{item}
use Rattle.sr_model.specs.Kinds.{Kind}
use Rattle.sr_model.specs.Objects as model
use Rattle.sr_heap.specs.declared.object.Object.{Object}
use Rattle.sr_heap.specs.Records.{object_of, objects_of, own_property}

less : (d n : ℕ) → n ≡ suc d - 1 → n ≡ d
less d n e = omega arith

-- the second of two tests, where the first fails
second : (a b whole : Bool) → a ≡ false → (a || b) ≡ whole → b ≡ whole
second true b whole h e = cc
second false b whole h e = e

module _ {C B : Type 0} where
  -- one step of the definitions
  leads_next : (os : List (model.Object (Kind C B))) (left m n : ℕ) (p : Option ℕ) (whole : Bool) → 0 < left → (m ≡ n → ⊥) → model.prototype os m ≡ p
      → model.leads_to left os (Some m) n ≡ whole → model.leads_to (left - 1) os p n ≡ whole
  leads_next os zero m n p whole some apart next e = absurd (omega arith)
  leads_next os (suc d) m n p whole some apart next e =
      ap (λ (j : ℕ). model.leads_to j os p n) (less d (suc d - 1) refl)
      ∙ ap (λ (q : Option ℕ). model.leads_to d os q n) (sym next)
      ∙ second (nat_eq m n) (model.leads_to d os (model.prototype os m) n) whole (ne_eqb m n apart) e

  along_found : (os : List (model.Object (Kind C B))) (left m : ℕ) (k : model_keys.Key) (p : model_properties.Property) (whole : Option model_properties.Property) → 0 < left
      → model.get_own os m k ≡ Some p → model.property_along left os (Some m) k ≡ whole → Some p ≡ whole
  along_found os zero m k p whole some here e = absurd (omega arith)
  along_found os (suc d) m k p whole some here e = sym (ap (λ o. option_or o (model.property_along d os (model.prototype os m) k)) here) ∙ e

  along_next : (os : List (model.Object (Kind C B))) (left m : ℕ) (k : model_keys.Key) (q : Option ℕ) (whole : Option model_properties.Property) → 0 < left
      → model.get_own os m k ≡ None → model.prototype os m ≡ q → model.property_along left os (Some m) k ≡ whole → model.property_along (left - 1) os q k ≡ whole
  along_next os zero m k q whole some none next e = absurd (omega arith)
  along_next os (suc d) m k q whole some none next e =
      ap (λ (j : ℕ). model.property_along j os q k) (less d (suc d - 1) refl)
      ∙ ap (λ (r : Option ℕ). model.property_along d os r k) (sym next)
      ∙ sym (ap (λ o. option_or o (model.property_along d os (model.prototype os m) k)) none)
      ∙ e

  pub leads_from_none : (os : List (model.Object (Kind C B))) (left n : ℕ) (whole : Bool) → model.leads_to left os None n ≡ whole → false ≡ whole
  leads_from_none os zero n whole e = e
  leads_from_none os (suc d) n whole e = e

  pub leads_here : (os : List (model.Object (Kind C B))) (left m n : ℕ) (whole : Bool) → 0 < left → m ≡ n → model.leads_to left os (Some m) n ≡ whole → true ≡ whole
  leads_here os zero m n whole some same e = absurd (omega arith)
  leads_here os (suc d) m n whole some same e =
      sym (ap (λ b. b || model.leads_to d os (model.prototype os m) n) (eq-eqb m n same)) ∙ e

  nowhere : (d : ℕ) (os : List (model.Object (Kind C B))) (k : model_keys.Key) → model.property_along d os None k ≡ None
  nowhere zero os k = refl
  nowhere (suc d) os k = refl

  pub along_none : (os : List (model.Object (Kind C B))) (left : ℕ) (k : model_keys.Key) (whole : Option model_properties.Property)
      → model.property_along left os None k ≡ whole → None ≡ whole
  along_none os left k whole e = sym (nowhere left os k) ∙ e

  -- the record of a reference, as the code looks it up
  module _ (os : List (Object C B)) (i : ℕ) (r : Reference) (at : i ≡ r.place) where
    object_there : (o : Object C B) → i < length os → o ≡ get_or os i o → item (objects_of os) (number_of r) ≡ Some (object_of o)
    object_there o within e =
        slice_get-map object_of os r.place
        ∙ ap (λ (j : ℕ). option_map object_of (slice_get os j)) (sym at)
        ∙ ap (option_map object_of) (slice_get_read os (length os) i o refl within e)

    object_missing : length os ≤ i → item (objects_of os) (number_of r) ≡ None
    object_missing past =
        slice_get-map object_of os r.place
        ∙ ap (λ (j : ℕ). option_map object_of (slice_get os j)) (sym at)
        ∙ ap (option_map object_of) (slice_get_past os i past)

    -- one step of the code: the way to another object
    module _ (left n : ℕ) (next : Option Reference) (whole : Bool) (way : model.leads_to left (objects_of os) (option_map number_of next) n ≡ whole)
        (is : next ≡ Some r) (some : 0 < left) (apart : number_of r ≡ n → ⊥) where
      here : model.leads_to left (objects_of os) (Some (number_of r)) n ≡ whole
      here = ap (λ (o : Option Reference). model.leads_to left (objects_of os) (option_map number_of o) n) (sym is) ∙ way

      pub leads_on : (o : Object C B) → i < length os → o ≡ get_or os i o → model.leads_to (left - 1) (objects_of os) (option_map number_of o.prototype) n ≡ whole
      leads_on o within e =
          leads_next (objects_of os) left (number_of r) n (option_map number_of o.prototype) whole some apart
          (ap (option_and_then (λ x. x.prototype)) (object_there o within e)) here

      pub leads_nowhere : length os ≤ i → model.leads_to (left - 1) (objects_of os) None n ≡ whole
      leads_nowhere past =
          leads_next (objects_of os) left (number_of r) n None whole some apart (ap (option_and_then (λ x. x.prototype)) (object_missing past)) here

    -- and the first property of a key
    module _ (left : ℕ) (k : model_keys.Key) (next : Option Reference) (whole : Option model_properties.Property)
        (way : model.property_along left (objects_of os) (option_map number_of next) k ≡ whole) (is : next ≡ Some r) (some : 0 < left) where
      now : model.property_along left (objects_of os) (Some (number_of r)) k ≡ whole
      now = ap (λ (o : Option Reference). model.property_along left (objects_of os) (option_map number_of o) k) (sym is) ∙ way

      pub first_here : (o : Object C B) (p : model_properties.Property) → i < length os → o ≡ get_or os i o → Some p ≡ own_property (object_of o) k → Some p ≡ whole
      first_here o p within e own =
          along_found (objects_of os) left (number_of r) k p whole some
          (ap (option_and_then (λ x. own_property x k)) (object_there o within e) ∙ sym own) now

      pub first_later : (o : Object C B) → i < length os → o ≡ get_or os i o → None ≡ own_property (object_of o) k
          → model.property_along (left - 1) (objects_of os) (option_map number_of o.prototype) k ≡ whole
      first_later o within e none =
          along_next (objects_of os) left (number_of r) k (option_map number_of o.prototype) whole some
          (ap (option_and_then (λ x. own_property x k)) (object_there o within e) ∙ sym none)
          (ap (option_and_then (λ x. x.prototype)) (object_there o within e)) now

      pub first_nowhere : length os ≤ i → None ≡ whole
      first_nowhere past =
          sym (nowhere (left - 1) (objects_of os) k)
          ∙ along_next (objects_of os) left (number_of r) k None whole some
          (ap (option_and_then (λ x. own_property x k)) (object_missing past))
          (ap (option_and_then (λ x. x.prototype)) (object_missing past)) now
