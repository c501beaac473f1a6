-- The numbers of a tree, by those of its parts.
use Rattle.sr_ast.specs.declared.tree.Tree.{Tree}
use Rattle.sr_ast.specs.declared.tree.Case.{Case, out-Case, map-Case}
use Rattle.sr_ast.specs.declared.tree.Declaration.{Declaration, out-Declaration, map-Declaration}
use Rattle.sr_ast.specs.declared.tree.Element.{Element, out-Element, map-Element}
use Rattle.sr_ast.specs.declared.tree.Node.{Node, out-Node, map-Node}
use Rattle.sr_ast.specs.declared.tree.Property.{Property, out-Property, map-Property}
use Rattle.sr_unit.specs.Numbers.{Numbered, pure, of_element, of_node, of_property, of_case, of_declaration, numbered}

-- Elements, properties, clauses and declarations have trees as their parts.
abbrev pub element_numbered : Element → Numbered Element
element_numbered x =
    of_element
    (map-Element Element Node Property Case Declaration Tree (Numbered Element) (Numbered Node) (Numbered Property) (Numbered Case) (Numbered Declaration) (Numbered Tree)
    pure pure pure pure pure numbered (out-Element x))

abbrev pub property_numbered : Property → Numbered Property
property_numbered x =
    of_property
    (map-Property Element Node Property Case Declaration Tree (Numbered Element) (Numbered Node) (Numbered Property) (Numbered Case) (Numbered Declaration) (Numbered Tree)
    pure pure pure pure pure numbered (out-Property x))

abbrev pub case_numbered : Case → Numbered Case
case_numbered x =
    of_case
    (map-Case Element Node Property Case Declaration Tree (Numbered Element) (Numbered Node) (Numbered Property) (Numbered Case) (Numbered Declaration) (Numbered Tree)
    pure pure pure pure pure numbered (out-Case x))

abbrev pub declaration_numbered : Declaration → Numbered Declaration
declaration_numbered x =
    of_declaration
    (map-Declaration Element Node Property Case Declaration Tree (Numbered Element) (Numbered Node) (Numbered Property) (Numbered Case) (Numbered Declaration) (Numbered Tree)
    pure pure pure pure pure numbered (out-Declaration x))

-- A node has all of these.
abbrev pub node_numbered : Node → Numbered Node
node_numbered x =
    of_node
    (map-Node Element Node Property Case Declaration Tree (Numbered Element) (Numbered Node) (Numbered Property) (Numbered Case) (Numbered Declaration) (Numbered Tree)
    element_numbered pure property_numbered case_numbered declaration_numbered numbered (out-Node x))
