-- The values of the code, and keys, properties and descriptors, as the plain data of the definitions.
use Rattle.std.specs.Prelude.{ℕ, suc, option_map}
use Rattle.sr_value.specs.declared.value.Value.{Value}
use Rattle.sr_value.specs.declared.value.Value.TheVariants as value
use Rattle.sr_value.specs.declared.value.Key.{Key}
use Rattle.sr_value.specs.declared.value.Key.TheVariants as key
use Rattle.sr_value.specs.declared.symbol.Symbol.{Symbol}
use Rattle.sr_value.specs.declared.symbol.Symbol.TheVariants as symbol
use Rattle.sr_value.specs.declared.symbol.WellKnown.TheVariants as known
use Rattle.sr_value.specs.declared.property.Property.{Property}
use Rattle.sr_value.specs.declared.property.Property.TheVariants as property
use Rattle.sr_value.specs.declared.property.Descriptor.{Descriptor}
use Rattle.sr_tag.specs.Reference.{Reference}
use Rattle.sr_model.specs.Values as model
use Rattle.sr_model.specs.Keys as model_keys
use Rattle.sr_model.specs.Properties as model_properties

-- a symbol
abbrev pub symbol_of : Symbol → model.Symbol
symbol_of (symbol.WellKnown known.Iterator) = model.WellKnown 0
symbol_of (symbol.WellKnown known.ToPrimitive) = model.WellKnown 1
symbol_of (symbol.WellKnown known.ToStringTag) = model.WellKnown 2
symbol_of (symbol.Registered text) = model.Registered text
symbol_of (symbol.Made made) = model.Made made.maker made.number made.description

-- an object is its number in its realm, which is one more than its place
abbrev pub number_of : Reference → ℕ
number_of r = suc r.place

-- a value
abbrev pub value_of : Value → model.Value
value_of value.Undefined = model.Simple model.Undefined
value_of value.Null = model.Simple model.Null
value_of (value.Bool b) = model.Simple (model.Truth b)
value_of (value.Num n) = model.Simple (model.Num n)
value_of (value.Str text) = model.Simple (model.Str text)
value_of (value.Sym s) = model.Simple (model.Sym (symbol_of s))
value_of (value.Obj r) = model.Object (number_of r)

-- the key of a property
abbrev pub key_of : Key → model_keys.Key
key_of (key.Text text) = model_keys.TextKey text
key_of (key.Sym s) = model_keys.SymbolKey (symbol_of s)

-- a property
abbrev pub property_of : Property → model_properties.Property
property_of (property.Data w e c v) = model_properties.Data (value_of v) w e c
property_of (property.Accessor e c g s) = model_properties.Accessor (value_of g) (value_of s) e c

-- a descriptor
abbrev pub descriptor_of : Descriptor → model_properties.Descriptor
descriptor_of d = record {
  value = option_map value_of d.value;
  writable = d.writable;
  get = option_map value_of d.get;
  set = option_map value_of d.set;
  enumerable = d.enumerable;
  configurable = d.configurable;
}
