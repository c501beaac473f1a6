-- The names that a module exports and imports (ECMA-262 16.2).
use Rattle.std.specs.Prelude.{ℕ, Bool, true, false, not, ◌&&◌, List, [], ◌∷◌, ◌++◌, map, Option, None, Some, codes, nat_le}
use Rattle.sr_ast.specs.declared.binding.Binding.{Binding}
use Rattle.sr_ast.specs.declared.module.ExportName.{ExportName}
use Rattle.sr_ast.specs.declared.module.ImportName.{ImportName}
use Rattle.sr_ast.specs.declared.module.Imports.{Imports}
use Rattle.sr_ast.specs.declared.module.Imports.TheVariants as imports
use Rattle.sr_ast.specs.declared.tree.Tree.{Tree, out-Tree}
use Rattle.sr_ast.specs.declared.tree.Element.TheOpen as layer
use Rattle.sr_ast.specs.Layer.{Layer, layer_of}
use Rattle.sr_names.specs.Names.{Names, names_in, bound_names, all_vars, module_names}
use Rattle.sr_names.specs.Scopes.{repeated, missing}
use Rattle.sr_names.specs.Strictness.{place_if, reference_faults}

-- ---- 7.2.9, IsStringWellFormedUnicode: each leading surrogate stands before a trailing one, and each trailing one behind a leading one

abbrev pub is_leading : ℕ → Bool
is_leading u = nat_le 0xD800 u && nat_le u 0xDBFF

abbrev pub is_trailing : ℕ → Bool
is_trailing u = nat_le 0xDC00 u && nat_le u 0xDFFF

-- the rest of a text, behind a leading surrogate or behind something else
abbrev pub is_paired : Bool → List ℕ → Bool
is_paired behind [] = not behind
is_paired true (u ∷ us) = is_trailing u && is_paired false us
is_paired false (u ∷ us) = not (is_trailing u) && is_paired (is_leading u) us

abbrev pub is_well_formed : List ℕ → Bool
is_well_formed x = is_paired false x

-- a name of an import or an export that is not (16.2). What is no string literal has no surrogate
abbrev pub unpaired_name : Binding → List ℕ
unpaired_name b = place_if (not (is_well_formed b.name)) b.from

-- ---- names of one import or export

abbrev pub unpaired_if_there : Option Binding → List ℕ
unpaired_if_there None = []
unpaired_if_there (Some b) = unpaired_name b

abbrev pub unpaired_imported : List ImportName → List ℕ
unpaired_imported [] = []
unpaired_imported (n ∷ ns) = unpaired_name n.imported ++ unpaired_imported ns

-- 16.2.2: the names that are imported
abbrev pub unpaired_imports : Imports → List ℕ
unpaired_imports imports.Nothing = []
unpaired_imports (imports.Namespace b) = []
unpaired_imports (imports.Names ns) = unpaired_imported ns

-- 16.2.3: those that are exported, and, of another module, those of it
abbrev pub unpaired_local : List ExportName → List ℕ
unpaired_local [] = []
unpaired_local (n ∷ ns) = unpaired_name n.local ++ unpaired_local ns

abbrev pub unpaired_outer : List ExportName → List ℕ
unpaired_outer [] = []
unpaired_outer (n ∷ ns) = unpaired_name n.exported ++ unpaired_outer ns

-- 16.2.3.1: without another module, the names here are references
abbrev pub references_faults : Bool → List ExportName → List ℕ
references_faults strict [] = []
references_faults strict (n ∷ ns) = (let here = n.local in reference_faults strict here.name here.from) ++ references_faults strict ns

abbrev pub names_faults : Bool → List ExportName → Option (List ℕ) → List ℕ
names_faults strict ns None = references_faults strict ns ++ unpaired_outer ns
names_faults strict ns (Some called) = unpaired_local ns ++ unpaired_outer ns

-- ---- names of a module

abbrev pub outer_names : List ExportName → Names
outer_names ns = map (λ n. n.exported) ns

abbrev pub local_names : List ExportName → Names
local_names ns = map (λ n. n.local) ns

abbrev pub default_name : ℕ → Binding
default_name at = record { name = codes "default"; from = at }

-- 16.2.3.3, ExportedNames; `default` stands at the start of its export
abbrev pub exported_at : ℕ → Layer → Names
exported_at at (layer.ExportAll outer called) = names_in outer
exported_at at (layer.ExportNames ns called) = outer_names ns
exported_at at (layer.Export t) = bound_names t
exported_at at (layer.ExportDefault t) = default_name at ∷ []
exported_at at l = []

abbrev pub exported_name : Tree → Names
exported_name t = exported_at (out-Tree t).from (layer_of t)

abbrev pub exported_names : List Tree → Names
exported_names [] = []
exported_names (t ∷ ts) = exported_name t ++ exported_names ts

-- 16.2.3.2, ExportedBindings, of the exports that declare nothing
abbrev pub exported_bindings_at : Layer → Names
exported_bindings_at (layer.ExportNames ns None) = local_names ns
exported_bindings_at l = []

abbrev pub exported_binding : Tree → Names
exported_binding t = exported_bindings_at (layer_of t)

abbrev pub exported_bindings : List Tree → Names
exported_bindings [] = []
exported_bindings (t ∷ ts) = exported_binding t ++ exported_bindings ts

-- 16.2.1.1: no name is exported twice, and what is exported is declared, by `var` or lexically
abbrev pub exports_with : Names → List Tree → List ℕ
exports_with by_var items = repeated [] (exported_names items) ++ missing (module_names items ++ by_var) (exported_bindings items)

abbrev pub export_faults : List Tree → List ℕ
export_faults items = exports_with (all_vars items) items
