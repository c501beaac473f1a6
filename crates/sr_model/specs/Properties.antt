-- Properties and descriptors, and what it is to define a property (ECMA-262 6.1.7.1, 6.2.6, 10.1.6.3).
use Rattle.std.specs.Prelude.{Bool, true, false, ◌&&◌, ◌||◌, not, Option, None, Some, is_some, cond, unwrap_or}
use Rattle.sr_model.specs.Values.{Undefined, Value, Simple}
use Rattle.sr_model.specs.Sameness.{same_truth, same_value}

-- ECMA-262 6.1.7.1: a data property has a value and is writable or not, an accessor property has a getter and a setter, each a function
-- or undefined; and both are enumerable or not, and configurable or not
pub data Property : Type 0 where
  Data : Value → Bool → Bool → Bool → Property
  Accessor : Value → Value → Bool → Bool → Property

abbrev pub is_configurable : Property → Bool
is_configurable (Data v w e c) = c
is_configurable (Accessor g s e c) = c

-- ECMA-262 6.2.6: a property descriptor, of which each field may be absent
pub record Descriptor : Type 0 where
  pub value : Option Value
  pub writable : Option Bool
  pub get : Option Value
  pub set : Option Value
  pub enumerable : Option Bool
  pub configurable : Option Bool

-- ECMA-262 6.2.6.1 IsAccessorDescriptor
abbrev pub is_accessor : Descriptor → Bool
is_accessor d = is_some d.get || is_some d.set

-- ECMA-262 6.2.6.2 IsDataDescriptor
abbrev pub is_data : Descriptor → Bool
is_data d = is_some d.value || is_some d.writable

-- the default of an absent field: a value is undefined, and a flag false
abbrev pub value_of : Option Value → Value
value_of field = unwrap_or field (Simple Undefined)

abbrev pub is_set : Option Bool → Bool
is_set field = unwrap_or field false

-- a data property, or an accessor property, of a descriptor. Where it does not say whether the property is enumerable, or configurable,
-- it is as told here
abbrev pub data_property : Descriptor → Bool → Bool → Property
data_property d e c = Data (value_of d.value) (is_set d.writable) (unwrap_or d.enumerable e) (unwrap_or d.configurable c)

abbrev pub accessor_property : Descriptor → Bool → Bool → Property
accessor_property d e c = Accessor (value_of d.get) (value_of d.set) (unwrap_or d.enumerable e) (unwrap_or d.configurable c)

-- 10.1.6.3, step 2: the property that a descriptor makes where there is none
abbrev pub new_property : Descriptor → Property
new_property d = cond (is_accessor d) (accessor_property d false false) (data_property d false false)

-- 10.1.6.3, step 6: what a descriptor makes of the property that is there. A data property becomes an accessor property (6.a), or the other
-- way round (6.b), and keeps whether it is enumerable and configurable; or else each field that the descriptor has takes the place of the
-- old one (6.c)
abbrev pub changed_property : Descriptor → Property → Property
changed_property d (Data v w e c) =
    cond (is_accessor d)
    (accessor_property d e c)
    (Data (unwrap_or d.value v) (unwrap_or d.writable w) (unwrap_or d.enumerable e) (unwrap_or d.configurable c))
changed_property d (Accessor g s e c) =
    cond (is_data d)
    (data_property d e c)
    (Accessor (unwrap_or d.get g) (unwrap_or d.set s) (unwrap_or d.enumerable e) (unwrap_or d.configurable c))

-- a field of a descriptor is absent, or says what is there already
abbrev pub keeps : {A : Type 0} → (A → A → Bool) → Option A → A → Bool
keeps same None a = true
keeps same (Some b) a = same b a

-- 10.1.6.3, steps 5.a and 5.b: a property that is not configurable does not become so, and stays enumerable or not
abbrev pub keeps_flags : Descriptor → Bool → Bool
keeps_flags d e = not (is_set d.configurable) && keeps same_truth d.enumerable e

-- 10.1.6.3, steps 4 and 5: whether a descriptor may change the property that is there. One that is configurable may become any other. Else
-- it does not become one of the other sort (5.c); its getter and setter stay (5.d); and if it is not writable it does not become so, and
-- its value stays (5.e)
abbrev pub may_change : Descriptor → Property → Bool
may_change d (Data v w e true) = true
may_change d (Data v true e false) = keeps_flags d e && not (is_accessor d)
may_change d (Data v false e false) =
    keeps_flags d e && not (is_accessor d) && not (is_set d.writable) && keeps same_value d.value v
may_change d (Accessor g s e true) = true
may_change d (Accessor g s e false) = keeps_flags d e && not (is_data d) && keeps same_value d.get g && keeps same_value d.set s

-- 10.1.6.3 ValidateAndApplyPropertyDescriptor, on the property that is there, if there is one: whether it succeeds
abbrev pub validates : Bool → Descriptor → Option Property → Bool
validates extensible d None = extensible
validates extensible d (Some p) = may_change d p
