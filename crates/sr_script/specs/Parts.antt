-- The names that a tree declares, and its form, by what its parts declare and are.
use Rattle.std.specs.Prelude.{Bool, List, [], ◌∷◌, ◌++◌, Option, None, Some}
use Rattle.sr_ast.specs.declared.tree.Tree.{Tree}
use Rattle.sr_ast.specs.declared.tree.Declaration.{Declaration, out-Declaration, para-Declaration}
use Rattle.sr_ast.specs.declared.tree.Case.{Case, para-Case}
use Rattle.sr_ast.specs.declared.tree.Element.{Element, out-Element, map-Element, para-Element}
use Rattle.sr_ast.specs.declared.tree.Element.TheOpen as layer
use Rattle.sr_ast.specs.declared.tree.Node.{Node, out-Node, map-Node, para-Node}
use Rattle.sr_ast.specs.declared.tree.Property.{Property, para-Property}
use Rattle.sr_ast.specs.Layer.{Layer}
use Rattle.sr_script.specs.Names.{Names, declared_names, script_names}
use Rattle.sr_script.specs.Form.{Fits, element_fits, node_fits, property_fits, case_fits, declaration_fits, tree_fits, fits}

-- the names of a tree that may be absent
abbrev pub names_if_there : Option Tree → Names
names_if_there None = []
names_if_there (Some t) = declared_names t

-- the names that declarations declare
abbrev pub names_of_all : List Declaration → Names
names_of_all [] = []
names_of_all (d ∷ ds) = (let o = out-Declaration d in o.name) ∷ names_of_all ds

-- the names that a tree declares, by those that its parts declare
abbrev pub names_at : Layer → Names
names_at (layer.Var ds) = names_of_all ds
names_at (layer.Block ss) = script_names ss
names_at (layer.If c a b) = declared_names a ++ names_if_there b
names_at (layer.Do body test) = declared_names body
names_at (layer.While test body) = declared_names body
names_at (layer.For first test update body) = names_if_there first ++ declared_names body
names_at l = []

abbrev pub node_names : Node → Names
node_names n = names_at (out-Node n)

module _ (names : Names) where
  -- parts, each with whether it is of the form
  abbrev pub element_with : Element → Fits Element
  element_with x = (x, para-Element Bool Bool Bool Bool Bool Bool (element_fits names) (node_fits names) (property_fits names) (case_fits names) (declaration_fits names) (tree_fits names) x)

  abbrev pub node_with : Node → Fits Node
  node_with n = (n, para-Node Bool Bool Bool Bool Bool Bool (element_fits names) (node_fits names) (property_fits names) (case_fits names) (declaration_fits names) (tree_fits names) n)

  abbrev pub property_with : Property → Fits Property
  property_with x = (x, para-Property Bool Bool Bool Bool Bool Bool (element_fits names) (node_fits names) (property_fits names) (case_fits names) (declaration_fits names) (tree_fits names) x)

  abbrev pub case_with : Case → Fits Case
  case_with x = (x, para-Case Bool Bool Bool Bool Bool Bool (element_fits names) (node_fits names) (property_fits names) (case_fits names) (declaration_fits names) (tree_fits names) x)

  abbrev pub declaration_with : Declaration → Fits Declaration
  declaration_with d = (d, para-Declaration Bool Bool Bool Bool Bool Bool (element_fits names) (node_fits names) (property_fits names) (case_fits names) (declaration_fits names) (tree_fits names) d)

  abbrev pub tree_with : Tree → Fits Tree
  tree_with t = (t, fits names t)

  -- whether a tree of this node is of the form
  abbrev pub fits_by_parts : Node → Bool
  fits_by_parts n =
      node_fits names
      (map-Node Element Node Property Case Declaration Tree (Fits Element) (Fits Node) (Fits Property) (Fits Case) (Fits Declaration) (Fits Tree)
      element_with node_with property_with case_with declaration_with tree_with (out-Node n))

  -- whether an argument is of the form
  abbrev pub element_by_parts : Element → Bool
  element_by_parts x =
      element_fits names
      (map-Element Element Node Property Case Declaration Tree (Fits Element) (Fits Node) (Fits Property) (Fits Case) (Fits Declaration) (Fits Tree)
      element_with node_with property_with case_with declaration_with tree_with (out-Element x))
