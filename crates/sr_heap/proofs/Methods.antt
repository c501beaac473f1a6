-- The internal methods of the definitions, on the record of a live reference.
use Rattle.std.proofs.Common.{◌≡◌, ℕ, Bool, true, false, cond, List, [], map, Option, Some, sym, ap, ◌∙◌, set, get_or}
use Rattle.std.specs.Prelude.{option_and_then, option_map}
use Rattle.std.specs.Option.{option_map_or}
use Rattle.std.specs.Map.{keys_of}
use Rattle.std.proofs.lemmas.List.{map-set, set-get_or}
use Rattle.sr_tag.specs.Reference.{Reference}
use Rattle.sr_value.specs.declared.value.Key.{Key}
use Rattle.sr_value.specs.Plain.{number_of, key_of, property_of}
use Rattle.sr_props.specs.OwnKeys.{own_keys}
use Rattle.sr_model.specs.Keys as model_keys
use Rattle.sr_model.specs.Properties as model_properties
use Rattle.sr_model.specs.Numbered.{item, change}
use Rattle.sr_model.specs.Kinds.{Kind}
use Rattle.sr_model.specs.Objects as model
use Rattle.sr_heap.specs.declared.object.Object.{Object}
use Rattle.sr_heap.specs.Plain.{kind_of}
use Rattle.sr_heap.specs.Live.{Realm, IsLive, extent, with_objects}
use Rattle.sr_heap.specs.Records.{Parts, realm_of, object_of, objects_of, own_property, with_properties, may_define, defined_object, may_delete, without, deleted_object}
use Rattle.sr_heap.proofs.Tables.{own_keys_map, keys_map}
use Rattle.sr_heap.proofs.Objects.{record_there, changed_heap}

-- an object with another prototype
abbrev pub with_prototype : {C B : Type 0} → model.Object (Kind C B) → Option ℕ → model.Object (Kind C B)
with_prototype x to = record x { prototype = to }

module _ {C B : Type 0} (x : Parts C B) (h : Realm C B) (e : realm_of x ≡ h) (r : Reference) (live : IsLive (extent h) r)
    (i : ℕ) (o : Object C B) (at : i ≡ r.place) (there : o ≡ get_or x.objects i o) where
  -- the heap with another record there
  abbrev put : Object C B → Realm C B
  put p = realm_of (record x { objects = set x.objects i p })

  object_there : item h.store.objects (number_of r) ≡ Some (object_of o)
  object_there = record_there x h e r live i o at there

  -- a record in the place of one that is the same object
  kept_heap : (p : Object C B) → object_of p ≡ object_of o → put p ≡ h
  kept_heap p same =
      let os = x.objects in
      ap (λ ys. with_objects ys (realm_of x))
      (map-set object_of os i p ∙ ap (λ y. set (objects_of os) i y) same ∙ sym (map-set object_of os i o) ∙ ap (λ y. objects_of (set os i y)) there ∙ ap objects_of (set-get_or os i o))
      ∙ e

  -- the object changed where a test holds
  changed_if : (p : Object C B) (b : Bool) (f : model.Object (Kind C B) → model.Object (Kind C B)) → object_of p ≡ cond b (f (object_of o)) (object_of o)
      → put p ≡ with_objects (cond b (change h.store.objects (number_of r) f) h.store.objects) h
  changed_if p true f same = changed_heap x h e r live i o at there p f same
  changed_if p false f same = kept_heap p same

  pub may_define_is : (k : model_keys.Key) (d : model_properties.Descriptor) → model.may_define h.store.objects (number_of r) k d ≡ may_define (object_of o) k d
  may_define_is k d =
      ap (λ x. model_properties.validates (option_map_or (λ y. y.extensible) x false) d (option_and_then (λ y. own_property y k) x)) object_there

  pub define_is : (p : Object C B) (k : model_keys.Key) (d : model_properties.Descriptor) → object_of p ≡ defined_object (object_of o) k d
      → put p ≡ with_objects (model.define h.store.objects (number_of r) k d) h
  define_is p k d same =
      changed_if p (may_define (object_of o) k d) (λ y. with_properties y (model.defined k d (own_property (object_of o) k) y.properties)) same
      ∙ ap (λ z. with_objects (cond (model_properties.validates (option_map_or (λ y. y.extensible) z false) d (option_and_then (λ y. own_property y k) z))
      (change h.store.objects (number_of r) (λ y. with_properties y (model.defined k d (option_and_then (λ y. own_property y k) z) y.properties))) h.store.objects) h)
      (sym object_there)

  pub may_delete_is : (k : model_keys.Key) → model.may_delete h.store.objects (number_of r) k ≡ may_delete (object_of o) k
  may_delete_is k = ap (λ z. option_map_or model_properties.is_configurable (option_and_then (λ y. own_property y k) z) true) object_there

  pub kind_is : model.kind h.store.objects (number_of r) ≡ Some (kind_of o.kind)
  kind_is = ap (option_map (λ y. y.kind)) object_there

  pub delete_is : (p : Object C B) (k : model_keys.Key) → object_of p ≡ deleted_object (object_of o) k → put p ≡ with_objects (model.delete h.store.objects (number_of r) k) h
  delete_is p k same =
      changed_if p (may_delete (object_of o) k) (λ y. without y k) same
      ∙ ap (λ z. with_objects (cond (option_map_or model_properties.is_configurable (option_and_then (λ y. own_property y k) z) true)
      (change h.store.objects (number_of r) (λ y. without y k)) h.store.objects) h)
      (sym object_there)

  pub set_prototype_is : (p : Object C B) (to : Option ℕ) → true ≡ model.may_set_prototype h.store.objects (number_of r) to → object_of p ≡ with_prototype (object_of o) to
      → put p ≡ with_objects (model.set_prototype h.store.objects (number_of r) to) h
  set_prototype_is p to may same =
      changed_heap x h e r live i o at there p (λ y. with_prototype y to) same
      ∙ ap (λ b. with_objects (cond b (change h.store.objects (number_of r) (λ y. with_prototype y to)) h.store.objects) h) may

  pub own_keys_is : (ks : List Key) → ks ≡ own_keys (λ k. model_keys.rank_of (key_of k)) (keys_of o.properties) → map key_of ks ≡ model.own_keys h.store.objects (number_of r)
  own_keys_is ks same =
      ap (map key_of) same
      ∙ own_keys_map key_of model_keys.rank_of (keys_of o.properties)
      ∙ ap (own_keys model_keys.rank_of) (sym (keys_map key_of property_of o.properties))
      ∙ ap (λ x. option_map_or (λ y. own_keys model_keys.rank_of (keys_of y.properties)) x []) (sym object_there)
