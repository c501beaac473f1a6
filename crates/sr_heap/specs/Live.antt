-- The heap as contracts see it, and which references are live in it.
pub use Rattle.sr_value.specs.Live.{Extent, IsLive, IsLiveScope, IsLiveValue, IsLiveProperty, IsLiveDescriptor, KeepsLive}
use Rattle.std.specs.Prelude.{ℕ, List, length, IfSome}
use Rattle.std.specs.List.{AllByRecursion}
use Rattle.sr_tag.specs.declared.reference.Tag.{Tag}
use Rattle.sr_model.specs.Values.{Text}
use Rattle.sr_model.specs.Kinds.{Kind}
use Rattle.sr_model.specs.Objects.{Object}
use Rattle.sr_model.specs.Environments.{Environment, Bindings}
use Rattle.sr_model.specs.Stores.{Store}
use Rattle.sr_heap.specs.declared.found.Found.{Found}
use Rattle.sr_heap.specs.declared.found.Found.TheVariants as found
use Rattle.sr_heap.specs.declared.kinds.ObjectKind.{ObjectKind}
use Rattle.sr_heap.specs.declared.kinds.ObjectKind.TheVariants as kind
use Rattle.sr_heap.specs.declared.settings.Setting.{Setting}
use Rattle.sr_heap.specs.declared.settings.Setting.TheVariants as setting
use Rattle.sr_heap.specs.declared.bindings.Binding.{Binding}
use Rattle.sr_heap.specs.declared.bindings.Binding.TheVariants as binding

-- what one realm keeps, and the tag of this realm
pub record Realm (C B : Type 0) : Type 0 where
  pub tag : Tag
  pub store : Store C B

-- with other objects, with other environments, and so on
abbrev pub with_objects : {C B : Type 0} → List (Object (Kind C B)) → Realm C B → Realm C B
with_objects os h = (let s = h.store in record h { store = record s { objects = os } })

abbrev pub with_store : {C B : Type 0} → Store C B → Realm C B → Realm C B
with_store s h = record h { store = s }

abbrev pub with_environments : {C B : Type 0} → List Environment → Realm C B → Realm C B
with_environments es h = (let s = h.store in record h { store = record s { environments = es } })

abbrev pub with_sources : {C B : Type 0} → List Text → Realm C B → Realm C B
with_sources ts h = (let s = h.store in record h { store = record s { sources = ts } })

abbrev pub with_lexical : {C B : Type 0} → Bindings → Realm C B → Realm C B
with_lexical bs h = (let s = h.store in record h { store = record s { lexical = bs } })

abbrev pub with_var_names : {C B : Type 0} → List Text → Realm C B → Realm C B
with_var_names xs h = (let s = h.store in record h { store = record s { var_names = xs } })

-- what is live in it
abbrev pub extent : {C B : Type 0} → Realm C B → Extent
extent h = (let s = h.store in record { tag = h.tag; objects = length s.objects; environments = length s.environments })

-- each reference of what is found along the prototypes is live
abbrev pub IsLiveFound : Extent → Found → Type 0
IsLiveFound e (found.Data v) = IsLiveValue e v
IsLiveFound e (found.Accessor g s) = IsLiveValue e g × IsLiveValue e s
IsLiveFound e found.Missing = Unit {0}

-- and of what comes of a write
abbrev pub IsLiveSetting : Extent → Setting → Type 0
IsLiveSetting e (setting.Setter f) = IsLiveValue e f
IsLiveSetting e s = Unit {0}

-- and of a kind
abbrev pub IsLiveKind : {C B : Type 0} → Extent → ObjectKind C B → Type 0
IsLiveKind e kind.Ordinary = Unit {0}
IsLiveKind e (kind.Function f) = IfSome f.environment (IsLiveScope e)
IsLiveKind e (kind.BuiltIn f) = AllByRecursion (IsLiveValue e) f.kept
IsLiveKind e (kind.Bound f) = IsLive e f.target × IsLiveValue e f.this × AllByRecursion (IsLiveValue e) f.arguments
IsLiveKind e kind.Error = Unit {0}

-- and of a binding
abbrev pub IsLiveBinding : Extent → Binding → Type 0
IsLiveBinding e binding.Uninitialized = Unit {0}
IsLiveBinding e (binding.Mutable v) = IsLiveValue e v
IsLiveBinding e (binding.Constant v) = IsLiveValue e v
IsLiveBinding e (binding.OwnName v) = IsLiveValue e v

-- and of names with their bindings
abbrev pub AreLiveBindings : Extent → List (List ℕ × Binding) → Type 0
AreLiveBindings e bs = AllByRecursion (λ b. IsLiveBinding e b.1) bs
