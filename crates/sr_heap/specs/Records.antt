-- How the heap keeps objects: the records of the code as objects of the definitions, and what holds of the references in them.
use Rattle.std.specs.Prelude.{Bool, cond, List, map, length, Option, option_map, IfSome, All, true}
use Rattle.std.specs.Option.{option_map_or}
use Rattle.std.specs.Map.{lookup, remove_entry}
use Rattle.std.specs.List.{AllByRecursion}
use Rattle.sr_tag.specs.declared.reference.Tag.{Tag}
use Rattle.sr_value.specs.declared.value.Key.{Key}
use Rattle.sr_value.specs.declared.property.Property.{Property}
use Rattle.sr_value.specs.Plain.{number_of, key_of, property_of, value_of}
use Rattle.sr_model.specs.Values.{Text}
use Rattle.sr_model.specs.Kinds.{Kind}
use Rattle.sr_model.specs.Environments as environments
use Rattle.sr_model.specs.Keys as model_keys
use Rattle.sr_model.specs.Properties as model_properties
use Rattle.sr_model.specs.Objects as model
use Rattle.sr_heap.specs.declared.object.Object.{Object}
use Rattle.sr_heap.specs.declared.environments.Environment.{Environment}
use Rattle.sr_heap.specs.declared.bindings.Binding.{Binding}
use Rattle.sr_heap.specs.Plain.{kind_of, scope_of, bindings_of}
use Rattle.sr_heap.specs.Live.{Realm, Extent, IsLive, IsLiveScope, IsLiveValue, IsLiveProperty, IsLiveKind, AreLiveBindings}

-- a pair of a table
abbrev pub pair_of : Key × Property → model_keys.Key × model_properties.Property
pair_of p = (key_of p.0, property_of p.1)

-- an object
abbrev pub object_of : {C B : Type 0} → Object C B → model.Object (Kind C B)
object_of o = record {
  kind = kind_of o.kind;
  prototype = option_map number_of o.prototype;
  extensible = o.extensible;
  properties = map pair_of o.properties;
}

-- all objects
abbrev pub objects_of : {C B : Type 0} → List (Object C B) → List (model.Object (Kind C B))
objects_of os = map object_of os

-- the internal methods, of one object
module _ {C B : Type 0} where
  abbrev pub own_property : model.Object (Kind C B) → model_keys.Key → Option model_properties.Property
  own_property o k = lookup (model_keys.same_key k) o.properties

  abbrev pub may_define : model.Object (Kind C B) → model_keys.Key → model_properties.Descriptor → Bool
  may_define o k d = model_properties.validates o.extensible d (own_property o k)

  abbrev pub with_properties : model.Object (Kind C B) → List (model_keys.Key × model_properties.Property) → model.Object (Kind C B)
  with_properties o ps = record o { properties = ps }

  abbrev pub defined_object : model.Object (Kind C B) → model_keys.Key → model_properties.Descriptor → model.Object (Kind C B)
  defined_object o k d = cond (may_define o k d) (with_properties o (model.defined k d (own_property o k) o.properties)) o

  abbrev pub may_delete : model.Object (Kind C B) → model_keys.Key → Bool
  may_delete o k = option_map_or model_properties.is_configurable (own_property o k) true

  abbrev pub without : model.Object (Kind C B) → model_keys.Key → model.Object (Kind C B)
  without o k = with_properties o (remove_entry (model_keys.same_key k) o.properties)

  abbrev pub deleted_object : model.Object (Kind C B) → model_keys.Key → model.Object (Kind C B)
  deleted_object o k = cond (may_delete o k) (without o k) o

-- an environment
abbrev pub environment_of : Environment → environments.Environment
environment_of e = record { bindings = bindings_of e.bindings; this = option_map value_of e.this; outer = scope_of e.outer }

abbrev pub environments_of : List Environment → List environments.Environment
environments_of es = map environment_of es

-- all that the code keeps, and the same as plain data
pub record Parts (C B : Type 0) : Type 0 where
  pub tag : Tag
  pub objects : List (Object C B)
  pub environments : List Environment
  pub sources : List Text
  pub lexical : List (Text × Binding)
  pub var_names : List Text

abbrev pub realm_of : {C B : Type 0} → Parts C B → Realm C B
realm_of p = record {
  tag = p.tag;
  store = record {
    objects = objects_of p.objects;
    environments = environments_of p.environments;
    sources = p.sources;
    lexical = bindings_of p.lexical;
    var_names = p.var_names;
  };
}

abbrev pub extent_of : {C B : Type 0} → Parts C B → Extent
extent_of p = record { tag = p.tag; objects = length p.objects; environments = length p.environments }

-- each reference of an object is live, and each of an environment
pub record IsLiveObject {C B : Type 0} (e : Extent) (o : Object C B) : Type 0 where
  pub kind : IsLiveKind e o.kind
  pub prototype : IfSome o.prototype (IsLive e)
  pub properties : AllByRecursion (λ p. IsLiveProperty e p.1) o.properties

pub record IsLiveEnvironment (e : Extent) (s : Environment) : Type 0 where
  pub bindings : AreLiveBindings e s.bindings
  pub this : IfSome s.this (IsLiveValue e)
  pub outer : IfSome s.outer (IsLiveScope e)

-- each reference of each object is live
abbrev pub AreLiveObjects : {C B : Type 0} → Extent → List (Object C B) → Type 0
AreLiveObjects e os = All (IsLiveObject e) os

-- each reference that is kept is live
pub record AreLive {C B : Type 0} (e : Extent) (p : Parts C B) : Type 0 where
  pub objects : AreLiveObjects e p.objects
  pub environments : All (IsLiveEnvironment e) p.environments
  pub lexical : AreLiveBindings e p.lexical

abbrev pub IsSound : {C B : Type 0} → Parts C B → Type 0
IsSound p = AreLive (extent_of p) p
