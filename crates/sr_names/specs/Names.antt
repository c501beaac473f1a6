-- The names that trees bind, each with its place, in order (ECMA-262 8.2).
use Rattle.std.specs.Prelude.{List, [], ◌∷◌, ◌++◌, map, Option, None, Some}
use Rattle.sr_ast.specs.declared.binding.Binding.{Binding}
use Rattle.sr_ast.specs.declared.binding.HeadBinding.{HeadBinding}
use Rattle.sr_ast.specs.declared.binding.HeadKind.{HeadKind}
use Rattle.sr_ast.specs.declared.binding.HeadKind.TheVariants as head
use Rattle.sr_ast.specs.declared.binding.Parameters.{Parameters}
use Rattle.sr_ast.specs.declared.module.ImportName.{ImportName}
use Rattle.sr_ast.specs.declared.module.Imports.{Imports}
use Rattle.sr_ast.specs.declared.module.Imports.TheVariants as imports
use Rattle.sr_ast.specs.declared.tree.Tree.{Tree, Tree-F, fold-Tree}
use Rattle.sr_ast.specs.declared.tree.Case.{Case, Case-F, out-Case}
use Rattle.sr_ast.specs.declared.tree.Declaration.{Declaration, Declaration-F, out-Declaration}
use Rattle.sr_ast.specs.declared.tree.Element.{Element-F}
use Rattle.sr_ast.specs.declared.tree.Element.TheOpen as layer
use Rattle.sr_ast.specs.declared.tree.Node.{Node-F}
use Rattle.sr_ast.specs.declared.tree.Property.{Property-F}
use Rattle.sr_ast.specs.Layer.{Layer, layer_of}

abbrev pub Names : Type 0
Names = List Binding

abbrev pub names_in : Option Binding → Names
names_in None = []
names_in (Some b) = b ∷ []

-- ---- 8.2.1, BoundNames

abbrev pub declared_name : Declaration → Binding
declared_name d = let o = out-Declaration d in record { name = o.name; from = o.from }

-- of a declaration, of whatever kind
abbrev pub bound_at : Layer → Names
bound_at (layer.Var ds) = map declared_name ds
bound_at (layer.Lexical kind ds) = map declared_name ds
bound_at (layer.FunctionDeclaration called ps body) = names_in called
bound_at l = []

abbrev pub bound_names : Tree → Names
bound_names t = bound_at (layer_of t)

abbrev pub parameter_names : Parameters → Names
parameter_names ps = ps.names ++ names_in ps.rest

abbrev pub one_parameter : Binding → Parameters
one_parameter p = record { names = p ∷ []; rest = None }

abbrev pub no_parameters : Parameters
no_parameters = record { names = []; rest = None }

-- of the head of a `for`, where it declares by `var`, and where it declares lexically
abbrev pub head_vars_by : HeadKind → Binding → Names
head_vars_by head.Var b = b ∷ []
head_vars_by kind b = []

abbrev pub head_vars : HeadBinding → Names
head_vars h = head_vars_by h.kind h.binding

abbrev pub head_names_by : HeadKind → Binding → Names
head_names_by head.Var b = []
head_names_by kind b = b ∷ []

abbrev pub head_names : HeadBinding → Names
head_names h = head_names_by h.kind h.binding

-- of an import (16.2.2): the names here
abbrev pub imported_here : List ImportName → Names
imported_here ns = map (λ n. n.local) ns

abbrev pub others_names : Imports → Names
others_names imports.Nothing = []
others_names (imports.Namespace b) = b ∷ []
others_names (imports.Names ns) = imported_here ns

abbrev pub import_names : Option Binding → Imports → Names
import_names first others = names_in first ++ others_names others

-- ---- 8.2.6, VarDeclaredNames: those of `var` in a statement and in the statements of it. No expression has any

abbrev pub joined : List Names → Names
joined [] = []
joined (ns ∷ rest) = ns ++ joined rest

abbrev pub joined_if_there : Option Names → Names
joined_if_there None = []
joined_if_there (Some ns) = ns

abbrev pub vars_of_node : Node-F Names Names Names Names Names Names → Names
vars_of_node (layer.Var ds) = joined ds
vars_of_node (layer.Block ts) = joined ts
vars_of_node (layer.If c s t) = s ++ joined_if_there t
vars_of_node (layer.Do s c) = s
vars_of_node (layer.While c s) = s
vars_of_node (layer.For a b c s) = joined_if_there a ++ s
vars_of_node (layer.ForIn h a s) = head_vars h ++ s
vars_of_node (layer.ForInTarget a b s) = s
vars_of_node (layer.ForOf h a s) = head_vars h ++ s
vars_of_node (layer.ForOfTarget a b s) = s
vars_of_node (layer.Switch a cs) = joined cs
vars_of_node (layer.Try s p h f) = s ++ (joined_if_there h ++ joined_if_there f)
vars_of_node (layer.Labelled l s) = s
vars_of_node (layer.Export s) = s
vars_of_node l = []

abbrev pub vars_of_element : Element-F Names Names Names Names Names Names → Names
vars_of_element x = []

abbrev pub vars_of_property : Property-F Names Names Names Names Names Names → Names
vars_of_property x = []

abbrev pub vars_of_case : Case-F Names Names Names Names Names Names → Names
vars_of_case c = joined c.body

abbrev pub vars_of_declaration : Declaration-F Names Names Names Names Names Names → Names
vars_of_declaration d = record { name = d.name; from = d.from } ∷ []

abbrev pub vars_of_tree : Tree-F Names Names Names Names Names Names → Names
vars_of_tree t = t.node

unfoldable pub vars : Tree → Names
vars t = fold-Tree Names Names Names Names Names Names vars_of_element vars_of_node vars_of_property vars_of_case vars_of_declaration vars_of_tree t

abbrev pub all_vars : List Tree → Names
all_vars [] = []
all_vars (t ∷ ts) = vars t ++ all_vars ts

-- ---- 8.2.4, LexicallyDeclaredNames

abbrev pub lexical_at : Layer → Names
lexical_at (layer.Lexical kind ds) = map declared_name ds
lexical_at (layer.FunctionDeclaration called ps body) = names_in called
lexical_at l = []

abbrev pub lexical_name : Tree → Names
lexical_name t = lexical_at (layer_of t)

-- of items of a block or of a clause: functions too
abbrev pub lexical_names : List Tree → Names
lexical_names [] = []
lexical_names (t ∷ ts) = lexical_name t ++ lexical_names ts

-- of a statement that is a block
abbrev pub block_names_at : Layer → Names
block_names_at (layer.Block ts) = lexical_names ts
block_names_at l = []

abbrev pub block_names : Tree → Names
block_names t = block_names_at (layer_of t)

-- of the clauses of a `switch`, which are one scope
abbrev pub clause_names : Case → Names
clause_names c = lexical_names (let o = out-Case c in o.body)

abbrev pub clauses_names : List Case → Names
clauses_names [] = []
clauses_names (c ∷ cs) = clause_names c ++ clauses_names cs

abbrev pub clause_vars : Case → Names
clause_vars c = all_vars (let o = out-Case c in o.body)

abbrev pub clauses_vars : List Case → Names
clauses_vars [] = []
clauses_vars (c ∷ cs) = clause_vars c ++ clauses_vars cs

-- of the items of a module (16.2.1.1): functions, imports and what exported declarations declare too
abbrev pub module_names_at : Layer → Names
module_names_at (layer.Import first others called) = import_names first others
module_names_at (layer.Export t) = lexical_name t
module_names_at (layer.ExportDefault t) = lexical_name t
module_names_at l = lexical_at l

abbrev pub module_name : Tree → Names
module_name t = module_names_at (layer_of t)

abbrev pub module_names : List Tree → Names
module_names [] = []
module_names (t ∷ ts) = module_name t ++ module_names ts

-- ---- at the top level of a script and of a function's body functions count as `var`

-- 8.2.8, TopLevelLexicallyDeclaredNames
abbrev pub top_names_at : Layer → Names
top_names_at (layer.Lexical kind ds) = map declared_name ds
top_names_at l = []

abbrev pub top_name : Tree → Names
top_name t = top_names_at (layer_of t)

abbrev pub top_names : List Tree → Names
top_names [] = []
top_names (t ∷ ts) = top_name t ++ top_names ts

-- of what stands first in the head of a `for`
abbrev pub names_of_first : Option Tree → Names
names_of_first None = []
names_of_first (Some t) = top_name t

-- 8.2.10, TopLevelVarDeclaredNames
abbrev pub function_names_at : Layer → Names
function_names_at (layer.FunctionDeclaration called ps body) = names_in called
function_names_at l = []

abbrev pub function_name : Tree → Names
function_name t = function_names_at (layer_of t)

abbrev pub top_vars : List Tree → Names
top_vars [] = []
top_vars (t ∷ ts) = function_name t ++ (vars t ++ top_vars ts)
