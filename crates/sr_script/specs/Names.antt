-- The names that trees declare by `var`.
use Rattle.std.specs.Prelude.{ℕ, List, [], ◌∷◌, ◌++◌, Option, None, Some}
use Rattle.sr_ast.specs.declared.tree.Tree.{Tree, Tree-F, fold-Tree}
use Rattle.sr_ast.specs.declared.tree.Case.{Case-F}
use Rattle.sr_ast.specs.declared.tree.Declaration.{Declaration-F}
use Rattle.sr_ast.specs.declared.tree.Element.{Element-F}
use Rattle.sr_ast.specs.declared.tree.Element.TheOpen.{Var, Block, If, Do, While, For}
use Rattle.sr_ast.specs.declared.tree.Node.{Node-F}
use Rattle.sr_ast.specs.declared.tree.Property.{Property-F}

abbrev pub Names : Type 0
Names = List (List ℕ)

-- those of a part that may be absent
abbrev pub names_in : Option Names → Names
names_in None = []
names_in (Some ns) = ns

abbrev pub joined : List Names → Names
joined [] = []
joined (ns ∷ rest) = ns ++ joined rest

-- ECMA-262 14.2.8 to 14.7.5, VarDeclaredNames: those of the statements that a statement has, and those of a `var`. An expression
-- declares none, nor does a directive. The statements that are not built have none here
abbrev pub names_of_node : Node-F Names Names Names Names Names Names → Names
names_of_node (Var ds) = joined ds
names_of_node (Block ss) = joined ss
names_of_node (If c a b) = a ++ names_in b
names_of_node (Do body test) = body
names_of_node (While test body) = body
names_of_node (For first test update body) = names_in first ++ body
names_of_node l = []

-- elements, properties and clauses stand in trees that are not built, or in expressions
abbrev pub names_of_element : Element-F Names Names Names Names Names Names → Names
names_of_element x = []

abbrev pub names_of_property : Property-F Names Names Names Names Names Names → Names
names_of_property x = []

abbrev pub names_of_case : Case-F Names Names Names Names Names Names → Names
names_of_case x = []

abbrev pub names_of_declaration : Declaration-F Names Names Names Names Names Names → Names
names_of_declaration d = d.name ∷ []

abbrev pub names_of_tree : Tree-F Names Names Names Names Names Names → Names
names_of_tree t = t.node

unfoldable pub declared_names : Tree → Names
declared_names t = fold-Tree Names Names Names Names Names Names names_of_element names_of_node names_of_property names_of_case names_of_declaration names_of_tree t

-- those of a script, in order
abbrev pub script_names : List Tree → Names
script_names [] = []
script_names (t ∷ ts) = declared_names t ++ script_names ts
