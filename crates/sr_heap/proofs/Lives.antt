-- What is live, as objects and their properties change.
use Rattle.std.proofs.Common.{◌≡◌, ℕ, ◌≤◌, ◌<◌, Bool, true, false, cond, List, [], ◌∷◌, ◌++◌, Option, None, Some, refl, sym, subst, ◌∙◌, arith, length, set, get_or, All, length-append, length-set}
use Rattle.std.specs.Prelude.{IfSome}
use Rattle.std.specs.List.{AllByRecursion}
use Rattle.std.specs.Map.{lookup, set_value, remove_entry}
use Rattle.std.proofs.lemmas.List.Elements.{All-weaker, All-push, All-set}
use Rattle.sr_tag.specs.Reference.{Reference}
use Rattle.sr_value.specs.declared.value.Value.{Value}
use Rattle.sr_value.specs.declared.value.Value.TheVariants as value
use Rattle.sr_value.specs.declared.value.Key.{Key}
use Rattle.sr_value.specs.declared.property.Property.{Property}
use Rattle.sr_value.specs.declared.property.Property.TheVariants as property
use Rattle.sr_heap.specs.declared.object.Object.{Object}
use Rattle.sr_heap.specs.declared.kinds.ObjectKind.{ObjectKind}
use Rattle.sr_heap.specs.declared.kinds.ObjectKind.TheVariants as kind
use Rattle.sr_heap.specs.declared.bindings.Binding.{Binding}
use Rattle.sr_heap.specs.declared.bindings.Binding.TheVariants as binding
use Rattle.sr_heap.specs.declared.environments.Environment.{Environment}
use Rattle.sr_heap.specs.Live.{Extent, IsLive, IsLiveScope, KeepsLive, IsLiveValue, IsLiveProperty, IsLiveKind, IsLiveBinding, AreLiveBindings}
use Rattle.sr_heap.specs.Records.{Parts, extent_of, IsLiveObject, IsLiveEnvironment, AreLiveObjects, AreLive, IsSound}

-- one more object, or one more environment
pub grown : (e f : Extent) → e.tag ≡ f.tag → e.objects ≤ f.objects → e.environments ≤ f.environments → KeepsLive e f
grown e f tag objects environments = record {
  objects = λ r live. record { tag = live.tag ∙ tag; number = omega (arith, live.number, objects) };
  environments = λ r live. record { tag = live.tag ∙ tag; number = omega (arith, live.number, environments) };
}

module _ (e f : Extent) (kept : KeepsLive e f) where
  pub value_kept : (v : Value) → IsLiveValue e v → IsLiveValue f v
  value_kept v live = record { object = λ r is. kept.objects r (live.object r is) }

  values_kept : (vs : List Value) → AllByRecursion (IsLiveValue e) vs → AllByRecursion (IsLiveValue f) vs
  values_kept [] live = tt
  values_kept (v ∷ vs) live = (value_kept v live.0, values_kept vs live.1)

  this_kept : (v : Option Value) → IfSome v (IsLiveValue e) → IfSome v (IsLiveValue f)
  this_kept None live = tt
  this_kept (Some v) live = value_kept v live

  scope_kept : (r : Option Reference) → IfSome r (IsLiveScope e) → IfSome r (IsLiveScope f)
  scope_kept None live = tt
  scope_kept (Some r) live = kept.environments r live

  prototype_kept : (r : Option Reference) → IfSome r (IsLive e) → IfSome r (IsLive f)
  prototype_kept None live = tt
  prototype_kept (Some r) live = kept.objects r live

  kind_kept : {C B : Type 0} (k : ObjectKind C B) → IsLiveKind e k → IsLiveKind f k
  kind_kept kind.Ordinary live = tt
  kind_kept (kind.Function x) live = scope_kept x.environment live
  kind_kept (kind.BuiltIn x) live = values_kept x.kept live
  kind_kept (kind.Bound x) live = (kept.objects x.target live.0, value_kept x.this live.1, values_kept x.arguments live.2)
  kind_kept kind.Error live = tt

  property_kept : (p : Property) → IsLiveProperty e p → IsLiveProperty f p
  property_kept (property.Data w n c v) live = value_kept v live
  property_kept (property.Accessor n c g s) live = (value_kept g live.0, value_kept s live.1)

  properties_kept : (ps : List (Key × Property)) → AllByRecursion (λ p. IsLiveProperty e p.1) ps → AllByRecursion (λ p. IsLiveProperty f p.1) ps
  properties_kept [] live = tt
  properties_kept (p ∷ ps) live = (property_kept p.1 live.0, properties_kept ps live.1)

  pub object_kept : {C B : Type 0} (o : Object C B) → IsLiveObject e o → IsLiveObject f o
  object_kept o live = record {
    kind = kind_kept o.kind live.kind;
    prototype = prototype_kept o.prototype live.prototype;
    properties = properties_kept o.properties live.properties;
  }

  binding_kept : (b : Binding) → IsLiveBinding e b → IsLiveBinding f b
  binding_kept binding.Uninitialized live = tt
  binding_kept (binding.Mutable v) live = value_kept v live
  binding_kept (binding.Constant v) live = value_kept v live
  binding_kept (binding.OwnName v) live = value_kept v live

  pub bindings_kept : (bs : List (List ℕ × Binding)) → AreLiveBindings e bs → AreLiveBindings f bs
  bindings_kept [] live = tt
  bindings_kept (b ∷ bs) live = (binding_kept b.1 live.0, bindings_kept bs live.1)

  pub environment_kept : (s : Environment) → IsLiveEnvironment e s → IsLiveEnvironment f s
  environment_kept s live = record {
    bindings = bindings_kept s.bindings live.bindings;
    this = this_kept s.this live.this;
    outer = scope_kept s.outer live.outer;
  }

-- the pairs of a table, whose values have a property
module _ {K V : Type 0} (P : V → Type 0) where
  abbrev Have : List (K × V) → Type 0
  Have ps = AllByRecursion (λ p. P p.1) ps

  found_step : (p : K × V) (found : Option V) (b : Bool) → P p.1 → IfSome found P → IfSome (cond b (Some p.1) found) P
  found_step p found true here later = here
  found_step p found false here later = later

  pub found_has : (test : K → Bool) (ps : List (K × V)) → Have ps → IfSome (lookup test ps) P
  found_has test [] all = tt
  found_has test (p ∷ ps) all = found_step p (lookup test ps) (test p.0) all.0 (found_has test ps all.1)

  set_step : (p : K × V) (ps qs : List (K × V)) (v : V) (b : Bool) → P v → Have (p ∷ ps) → Have qs → Have (cond b ((p.0, v) ∷ ps) (p ∷ qs))
  set_step p ps qs v true new all later = (new, all.1)
  set_step p ps qs v false new all later = (all.0, later)

  pub set_have : (test : K → Bool) (ps : List (K × V)) (v : V) → P v → Have ps → Have (set_value test ps v)
  set_have test [] v new all = tt
  set_have test (p ∷ ps) v new all = set_step p ps (set_value test ps v) v (test p.0) new all (set_have test ps v new all.1)

  remove_step : (p : K × V) (ps qs : List (K × V)) (b : Bool) → Have (p ∷ ps) → Have qs → Have (cond b ps (p ∷ qs))
  remove_step p ps qs true all later = all.1
  remove_step p ps qs false all later = (all.0, later)

  pub remove_have : (test : K → Bool) (ps : List (K × V)) → Have ps → Have (remove_entry test ps)
  remove_have test [] all = tt
  remove_have test (p ∷ ps) all = remove_step p ps (remove_entry test ps) (test p.0) all (remove_have test ps all.1)

  pub push_have : (ps : List (K × V)) (k : K) (v : V) → Have ps → P v → Have (ps ++ (k, v) ∷ [])
  push_have [] k v all new = (new, tt)
  push_have (p ∷ ps) k v all new = (all.0, push_have ps k v all.1 new)

-- all that is kept
module _ {C B : Type 0} (x : Parts C B) (sound : IsSound x) where
  -- of a larger extent
  module _ (f : Extent) (kept : KeepsLive (extent_of x) f) where
    objects_kept : AreLiveObjects f x.objects
    objects_kept = All-weaker (IsLiveObject (extent_of x)) (IsLiveObject f) (λ o. object_kept (extent_of x) f kept o) x.objects sound.objects

    environments_kept : All (IsLiveEnvironment f) x.environments
    environments_kept =
        All-weaker (IsLiveEnvironment (extent_of x)) (IsLiveEnvironment f) (λ s. environment_kept (extent_of x) f kept s) x.environments sound.environments

    lexical_kept : AreLiveBindings f x.lexical
    lexical_kept = bindings_kept (extent_of x) f kept x.lexical sound.lexical

  -- with one more object, and with another one in the place of one
  pub object_pushed : (o : Object C B) → IsLiveObject (extent_of x) o → IsSound (record x { objects = x.objects ++ o ∷ [] })
  object_pushed o live =
      let e : Extent = extent_of x in
      let f : Extent = extent_of (record x { objects = x.objects ++ o ∷ [] }) in
      let more : e.objects ≤ f.objects = omega (arith, length-append x.objects (o ∷ [])) in
      let kept : KeepsLive e f = grown e f refl more (omega arith) in
      record {
        objects = All-push (IsLiveObject f) x.objects o (objects_kept f kept) (object_kept e f kept o live);
        environments = environments_kept f kept;
        lexical = lexical_kept f kept;
      }

  pub object_set : (i : ℕ) (o : Object C B) → IsLiveObject (extent_of x) o → IsSound (record x { objects = set x.objects i o })
  object_set i o live =
      let counted : ℕ → Extent = λ n. record { tag = x.tag; objects = n; environments = length x.environments } in
      subst (λ n. AreLive (counted n) (record x { objects = set x.objects i o })) (sym (length-set x.objects i o))
      (record { objects = All-set (IsLiveObject (extent_of x)) x.objects i o live sound.objects; environments = sound.environments; lexical = sound.lexical })

  pub object_at : (i : ℕ) (o : Object C B) → i < length x.objects → o ≡ get_or x.objects i o → IsLiveObject (extent_of x) o
  object_at i o within there = subst (λ (y : Object C B). IsLiveObject (extent_of x) y) (sym there) (sound.objects i o within)

  -- the same of environments
  pub environment_pushed : (s : Environment) → IsLiveEnvironment (extent_of x) s → IsSound (record x { environments = x.environments ++ s ∷ [] })
  environment_pushed s live =
      let e : Extent = extent_of x in
      let f : Extent = extent_of (record x { environments = x.environments ++ s ∷ [] }) in
      let more : e.environments ≤ f.environments = omega (arith, length-append x.environments (s ∷ [])) in
      let kept : KeepsLive e f = grown e f refl (omega arith) more in
      record {
        objects = objects_kept f kept;
        environments = All-push (IsLiveEnvironment f) x.environments s (environments_kept f kept) (environment_kept e f kept s live);
        lexical = lexical_kept f kept;
      }

  pub environment_set : (i : ℕ) (s : Environment) → IsLiveEnvironment (extent_of x) s → IsSound (record x { environments = set x.environments i s })
  environment_set i s live =
      let counted : ℕ → Extent = λ n. record { tag = x.tag; objects = length x.objects; environments = n } in
      subst (λ n. AreLive (counted n) (record x { environments = set x.environments i s })) (sym (length-set x.environments i s))
      (record { objects = sound.objects; environments = All-set (IsLiveEnvironment (extent_of x)) x.environments i s live sound.environments; lexical = sound.lexical })

  pub environment_at : (i : ℕ) (s : Environment) → i < length x.environments → s ≡ get_or x.environments i s → IsLiveEnvironment (extent_of x) s
  environment_at i s within there = subst (λ (y : Environment). IsLiveEnvironment (extent_of x) y) (sym there) (sound.environments i s within)
