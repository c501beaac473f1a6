-- Objects, and their ordinary internal methods (ECMA-262 10.1). None of them runs code. The objects of a realm are a list, in the order
-- in which they were made, and the first one has the number 1. A method of a number that no object has finds and changes nothing.
use Rattle.std.specs.Prelude.{ℕ, zero, suc, List, [], ◌∷◌, ◌++◌, length, Bool, true, false, ◌&&◌, ◌||◌, not, Option, None, Some, option_map, option_and_then, nat_eq, cond}
use Rattle.std.specs.Option.{option_or, option_map_or}
use Rattle.std.specs.Map.{lookup, set_value, remove_entry, keys_of}
use Rattle.sr_props.specs.OwnKeys as table
use Rattle.sr_model.specs.Values.{Value, Simple, Undefined}
use Rattle.sr_model.specs.Numbered.{item, change}
use Rattle.sr_model.specs.Keys.{Key, same_key, rank_of}
use Rattle.sr_model.specs.Properties.{Property, Data, Accessor, Descriptor, is_configurable, new_property, changed_property, validates}

-- an object of a kind: the number of its prototype, where it has one, whether it is extensible, and its properties in the order in which
-- they were made
pub record Object (K : Type 0) : Type 0 where
  pub kind : K
  pub prototype : Option ℕ
  pub extensible : Bool
  pub properties : List (Key × Property)

-- what stands along the prototypes for a key: the value of a data property, the getter and the setter of an accessor property, or nothing
pub data Found : Type 0 where
  FoundData : Value → Found
  FoundAccessor : Value → Value → Found
  Missing : Found

abbrev pub found : Property → Found
found (Data v w e c) = FoundData v
found (Accessor g s e c) = FoundAccessor g s

-- the properties after one is defined: a new one comes last, and one that is there keeps its place
abbrev pub defined : Key → Descriptor → Option Property → List (Key × Property) → List (Key × Property)
defined k d None ps = ps ++ (k, new_property d) ∷ []
defined k d (Some p) ps = set_value (same_key k) ps (changed_property d p)

-- what a write comes to: the property has the value now; it is refused; or a setter is to be called
pub data Setting : Type 0 where
  Assigned : Setting
  Refused : Setting
  CallsSetter : Value → Setting

-- the descriptor by which a value is written: where the object has the property already, the value alone (10.1.9.2, step 2.d), and else
-- that of a property that assignment makes (2.e, 7.3.5 CreateDataProperty)
abbrev pub value_alone : Value → Descriptor
value_alone v = record { value = Some v; writable = None; get = None; set = None; enumerable = None; configurable = None }

abbrev pub plain_property : Value → Descriptor
plain_property v = record { value = Some v; writable = Some true; get = None; set = None; enumerable = Some true; configurable = Some true }

abbrev pub assignment : Value → Option Property → Descriptor
assignment v None = plain_property v
assignment v (Some p) = value_alone v

-- whether a property lets a write pass to the object itself, and what else comes of it
abbrev pub passes : Option Property → Bool
passes None = true
passes (Some (Data v w e c)) = w
passes (Some (Accessor g s e c)) = false

abbrev pub stopped : Option Property → Setting
stopped (Some (Accessor g (Simple Undefined) e c)) = Refused
stopped (Some (Accessor g s e c)) = CallsSetter s
stopped p = Refused

abbrev pub settled : Bool → Setting
settled true = Assigned
settled false = Refused

-- two prototypes are the same where both are none, or one object
abbrev pub same_prototype : Option ℕ → Option ℕ → Bool
same_prototype None None = true
same_prototype None (Some n) = false
same_prototype (Some m) None = false
same_prototype (Some m) (Some n) = nat_eq m n

-- the number of Object.prototype, which is the second object that a realm makes. Its prototype is immutable (10.4.7)
abbrev pub object_prototype : ℕ
object_prototype = 2

module _ {K : Type 0} where
  abbrev pub kind : List (Object K) → ℕ → Option K
  kind os n = option_map (λ o. o.kind) (item os n)

  abbrev pub set_kind : List (Object K) → ℕ → K → List (Object K)
  set_kind os n k = change os n (λ o. record o { kind = k })

  -- 10.1.1.1 OrdinaryGetPrototypeOf
  abbrev pub prototype : List (Object K) → ℕ → Option ℕ
  prototype os n = option_and_then (λ o. o.prototype) (item os n)

  -- 10.1.3.1 OrdinaryIsExtensible
  abbrev pub extensible : List (Object K) → ℕ → Bool
  extensible os n = option_map_or (λ o. o.extensible) (item os n) false

  -- 10.1.4.1 OrdinaryPreventExtensions, which always succeeds
  abbrev pub prevent : List (Object K) → ℕ → List (Object K)
  prevent os n = change os n (λ o. record o { extensible = false })

  -- 10.1.5.1 OrdinaryGetOwnProperty
  abbrev pub get_own : List (Object K) → ℕ → Key → Option Property
  get_own os n k = option_and_then (λ o. lookup (same_key k) o.properties) (item os n)

  -- the first property of this key, of an object, its prototype, the prototype of that, and so on. No object comes twice along the way,
  -- so no way is longer than the list of all objects
  abbrev pub property_along : ℕ → List (Object K) → Option ℕ → Key → Option Property
  property_along zero os at k = None
  property_along (suc d) os None k = None
  property_along (suc d) os (Some n) k = option_or (get_own os n k) (property_along d os (prototype os n) k)

  -- 10.1.8.1 OrdinaryGet, but for the call of a getter. Where nothing is found, OrdinaryHasProperty is false (10.1.7.1)
  abbrev pub find : List (Object K) → ℕ → Key → Found
  find os n k = option_map_or found (property_along (length os) os (Some n) k) Missing

  -- 10.1.6.1 OrdinaryDefineOwnProperty: whether it succeeds, and the objects after it
  abbrev pub may_define : List (Object K) → ℕ → Key → Descriptor → Bool
  may_define os n k d = validates (extensible os n) d (get_own os n k)

  abbrev pub define : List (Object K) → ℕ → Key → Descriptor → List (Object K)
  define os n k d =
      cond (may_define os n k d)
      (change os n (λ o. record o { properties = defined k d (get_own os n k) o.properties }))
      os

  -- 10.1.9.1 OrdinarySet, with the object itself as the receiver: the first property along the prototypes may stop the write; else the
  -- object's own one is defined. What comes of it, and the objects after it
  abbrev pub met : List (Object K) → ℕ → Key → Option Property
  met os n k = property_along (length os) os (Some n) k

  abbrev pub set_answer : List (Object K) → ℕ → Key → Value → Setting
  set_answer os n k v =
      cond (passes (met os n k)) (settled (may_define os n k (assignment v (get_own os n k)))) (stopped (met os n k))

  abbrev pub set : List (Object K) → ℕ → Key → Value → List (Object K)
  set os n k v = cond (passes (met os n k)) (define os n k (assignment v (get_own os n k))) os

  -- 10.1.10.1 OrdinaryDelete: whether it succeeds, and the objects after it
  abbrev pub may_delete : List (Object K) → ℕ → Key → Bool
  may_delete os n k = option_map_or is_configurable (get_own os n k) true

  abbrev pub delete : List (Object K) → ℕ → Key → List (Object K)
  delete os n k =
      cond (may_delete os n k)
      (change os n (λ o. record o { properties = remove_entry (same_key k) o.properties }))
      os

  -- 10.1.11.1 OrdinaryOwnPropertyKeys
  abbrev pub own_keys : List (Object K) → ℕ → List Key
  own_keys os n = option_map_or (λ o. table.own_keys rank_of (keys_of o.properties)) (item os n) []

  -- 10.1.2.1, step 7: whether the way along the prototypes from an object comes to the n-th
  abbrev pub leads_to : ℕ → List (Object K) → Option ℕ → ℕ → Bool
  leads_to zero os at n = false
  leads_to (suc d) os None n = false
  leads_to (suc d) os (Some m) n = nat_eq m n || leads_to d os (prototype os m) n

  -- 10.1.2.1 OrdinarySetPrototypeOf, and of Object.prototype 10.4.7.2 SetImmutablePrototype: whether it succeeds, and the objects after it
  abbrev pub may_set_prototype : List (Object K) → ℕ → Option ℕ → Bool
  may_set_prototype os n to =
      same_prototype to (prototype os n)
      || (not (nat_eq n object_prototype) && extensible os n && not (leads_to (length os) os to n))

  abbrev pub set_prototype : List (Object K) → ℕ → Option ℕ → List (Object K)
  set_prototype os n to = cond (may_set_prototype os n to) (change os n (λ o. record o { prototype = to })) os

  -- 10.1.12 OrdinaryObjectCreate: an extensible object with no properties, which comes last
  abbrev pub make_object : List (Object K) → K → Option ℕ → List (Object K)
  make_object os k to = os ++ record { kind = k; prototype = to; extensible = true; properties = [] } ∷ []
