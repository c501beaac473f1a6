-- Kinds and bindings of the code as the plain data of the definitions.
use Rattle.std.specs.Prelude.{ℕ, List, map, Option, None, Some}
use Rattle.sr_tag.specs.Reference.{Reference}
use Rattle.sr_value.specs.Plain.{number_of, value_of}
use Rattle.sr_model.specs.Kinds as model
use Rattle.sr_model.specs.Environments as environments
use Rattle.sr_heap.specs.declared.kinds.ObjectKind.{ObjectKind}
use Rattle.sr_heap.specs.declared.kinds.ObjectKind.TheVariants as kind
use Rattle.sr_heap.specs.declared.bindings.Binding.{Binding}
use Rattle.sr_heap.specs.declared.bindings.Binding.TheVariants as binding

-- an environment is its number in its realm, and none is the global one
abbrev pub scope_of : Option Reference → ℕ
scope_of None = 0
scope_of (Some r) = number_of r

-- a kind
abbrev pub kind_of : {C B : Type 0} → ObjectKind C B → model.Kind C B
kind_of kind.Ordinary = model.Ordinary
kind_of (kind.Function f) = model.Function (record { code = f.code; source = f.source; environment = scope_of f.environment })
kind_of (kind.BuiltIn f) = model.BuiltInFunction (record { function = f.function; name = f.name; kept = map value_of f.kept })
kind_of (kind.Bound f) = model.BoundFunction (record { target = number_of f.target; this = value_of f.this; arguments = map value_of f.arguments })
kind_of kind.Error = model.Error

-- a binding, and names with their bindings
abbrev pub binding_of : Binding → environments.Binding
binding_of binding.Uninitialized = environments.Uninitialized
binding_of (binding.Mutable v) = environments.Mutable (value_of v)
binding_of (binding.Constant v) = environments.Constant (value_of v)
binding_of (binding.OwnName v) = environments.OwnName (value_of v)

abbrev pub bindings_of : List (List ℕ × Binding) → environments.Bindings
bindings_of bs = map (λ b. (b.0, binding_of b.1)) bs
