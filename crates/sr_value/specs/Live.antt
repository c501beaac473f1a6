-- Which references are live, and of which values, properties and descriptors the references are.
use Rattle.std.specs.Prelude.{◌≡◌, ℕ, ◌≤◌, IfSome}
use Rattle.sr_tag.specs.declared.reference.Tag.{Tag}
use Rattle.sr_tag.specs.Reference.{Reference}
use Rattle.sr_value.specs.declared.value.Value.{Value}
use Rattle.sr_value.specs.declared.value.Value.TheVariants as value
use Rattle.sr_value.specs.declared.property.Property.{Property}
use Rattle.sr_value.specs.declared.property.Property.TheVariants as property
use Rattle.sr_value.specs.declared.property.Descriptor.{Descriptor}
use Rattle.sr_value.specs.Plain.{number_of}

-- which references are live: those that have this tag, and the number of one of so many objects, or of one of so many environments
pub record Extent : Type 0 where
  pub tag : Tag
  pub objects : ℕ
  pub environments : ℕ

pub record IsLive (e : Extent) (r : Reference) : Type 0 where
  pub tag : r.tag ≡ e.tag
  pub number : number_of r ≤ e.objects

-- the same of a reference to an environment
pub record IsLiveScope (e : Extent) (r : Reference) : Type 0 where
  pub tag : r.tag ≡ e.tag
  pub number : number_of r ≤ e.environments

-- what is live there is live here
pub record KeepsLive (there here : Extent) : Type 0 where
  pub objects : (r : Reference) → IsLive there r → IsLive here r
  pub environments : (r : Reference) → IsLiveScope there r → IsLiveScope here r

-- the reference of a value that is an object is live
pub record IsLiveValue (e : Extent) (v : Value) : Type 0 where
  pub object : (r : Reference) → v ≡ value.Obj r → IsLive e r

-- each live value there is a live one here
abbrev pub KeepsLiveValues : Extent → Extent → Type 0
KeepsLiveValues there here = (v : Value) → IsLiveValue there v → IsLiveValue here v

-- a value that is no object
abbrev pub IsPrimitive : Value → Type 0
IsPrimitive (value.Obj r) = ⊥
IsPrimitive v = Unit {0}

-- each reference of a property is live
abbrev pub IsLiveProperty : Extent → Property → Type 0
IsLiveProperty e (property.Data w n c v) = IsLiveValue e v
IsLiveProperty e (property.Accessor n c g s) = IsLiveValue e g × IsLiveValue e s

-- and of a descriptor
pub record IsLiveDescriptor (e : Extent) (d : Descriptor) : Type 0 where
  pub value : IfSome d.value (IsLiveValue e)
  pub get : IfSome d.get (IsLiveValue e)
  pub set : IfSome d.set (IsLiveValue e)
