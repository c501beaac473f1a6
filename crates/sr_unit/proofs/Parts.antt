-- A tree is numbered by its parts.
use Rattle.std.proofs.Common.{◌≡◌, suc, refl, ap, ◌∙◌, None, Some}
use Rattle.std.proofs.Math.Path.{fun_ext}
use Rattle.sr_ast.specs.declared.tree.Tree.{Tree, roll-Tree, fold_out-Tree}
use Rattle.sr_ast.specs.declared.tree.Case.{Case, fold-Case, fold_out-Case}
use Rattle.sr_ast.specs.declared.tree.Declaration.{Declaration, fold-Declaration, fold_out-Declaration}
use Rattle.sr_ast.specs.declared.tree.Element.{Element, Element-F, out-Element, map-Element, fold-Element, fold_out-Element}
use Rattle.sr_ast.specs.declared.tree.Element.TheOpen as layer
use Rattle.sr_ast.specs.declared.tree.Node.{Node, out-Node, map-Node, fold-Node, fold_out-Node}
use Rattle.sr_ast.specs.declared.tree.Property.{Property, Property-F, out-Property, map-Property, fold-Property, fold_out-Property}
use Rattle.sr_ast.specs.Layer.{Layer}
use Rattle.sr_unit.specs.Numbers.{Numbered, pure, of_element, of_node, of_property, of_case, of_declaration, of_tree, numbered}
use Rattle.sr_unit.specs.Parts.{element_numbered, property_numbered, case_numbered, declaration_numbered, node_numbered}

abbrev fold_element : Element → Numbered Element
fold_element = fold-Element (Numbered Element) (Numbered Node) (Numbered Property) (Numbered Case) (Numbered Declaration) (Numbered Tree) of_element of_node of_property of_case of_declaration of_tree

abbrev fold_node : Node → Numbered Node
fold_node = fold-Node (Numbered Element) (Numbered Node) (Numbered Property) (Numbered Case) (Numbered Declaration) (Numbered Tree) of_element of_node of_property of_case of_declaration of_tree

abbrev fold_property : Property → Numbered Property
fold_property = fold-Property (Numbered Element) (Numbered Node) (Numbered Property) (Numbered Case) (Numbered Declaration) (Numbered Tree) of_element of_node of_property of_case of_declaration of_tree

abbrev fold_case : Case → Numbered Case
fold_case = fold-Case (Numbered Element) (Numbered Node) (Numbered Property) (Numbered Case) (Numbered Declaration) (Numbered Tree) of_element of_node of_property of_case of_declaration of_tree

abbrev fold_declaration : Declaration → Numbered Declaration
fold_declaration = fold-Declaration (Numbered Element) (Numbered Node) (Numbered Property) (Numbered Case) (Numbered Declaration) (Numbered Tree) of_element of_node of_property of_case of_declaration of_tree

element_layer : (l : Element-F Element Node Property Case Declaration Tree)
    → of_element (map-Element Element Node Property Case Declaration Tree (Numbered Element) (Numbered Node) (Numbered Property) (Numbered Case) (Numbered Declaration) (Numbered Tree)
    fold_element fold_node fold_property fold_case fold_declaration numbered l)
    ≡ of_element (map-Element Element Node Property Case Declaration Tree (Numbered Element) (Numbered Node) (Numbered Property) (Numbered Case) (Numbered Declaration) (Numbered Tree)
    pure pure pure pure pure numbered l)
element_layer (layer.Value t) = refl
element_layer (layer.Element::Spread t) = refl
element_layer layer.Hole = refl

property_layer : (l : Property-F Element Node Property Case Declaration Tree)
    → of_property (map-Property Element Node Property Case Declaration Tree (Numbered Element) (Numbered Node) (Numbered Property) (Numbered Case) (Numbered Declaration) (Numbered Tree)
    fold_element fold_node fold_property fold_case fold_declaration numbered l)
    ≡ of_property (map-Property Element Node Property Case Declaration Tree (Numbered Element) (Numbered Node) (Numbered Property) (Numbered Case) (Numbered Declaration) (Numbered Tree)
    pure pure pure pure pure numbered l)
property_layer (layer.Named called t) = refl
property_layer (layer.Computed s t) = refl
property_layer (layer.Property::Spread t) = refl
property_layer (layer.Property::Method t) = refl

element_is : (x : Element) → fold_element x ≡ element_numbered x
unfolding numbered
element_is x =
    fold_out-Element (Numbered Element) (Numbered Node) (Numbered Property) (Numbered Case) (Numbered Declaration) (Numbered Tree) of_element of_node of_property of_case of_declaration of_tree x
    ∙ element_layer (out-Element x)

property_is : (x : Property) → fold_property x ≡ property_numbered x
unfolding numbered
property_is x =
    fold_out-Property (Numbered Element) (Numbered Node) (Numbered Property) (Numbered Case) (Numbered Declaration) (Numbered Tree) of_element of_node of_property of_case of_declaration of_tree x
    ∙ property_layer (out-Property x)

case_is : (x : Case) → fold_case x ≡ case_numbered x
unfolding numbered
case_is x = fold_out-Case (Numbered Element) (Numbered Node) (Numbered Property) (Numbered Case) (Numbered Declaration) (Numbered Tree) of_element of_node of_property of_case of_declaration of_tree x

declaration_is : (x : Declaration) → fold_declaration x ≡ declaration_numbered x
unfolding numbered
declaration_is x = fold_out-Declaration (Numbered Element) (Numbered Node) (Numbered Property) (Numbered Case) (Numbered Declaration) (Numbered Tree) of_element of_node of_property of_case of_declaration of_tree x

-- a node, by the numbers of its parts in each form
abbrev node_by : (Element → Numbered Element) → (Property → Numbered Property) → (Case → Numbered Case) → (Declaration → Numbered Declaration) → (Node → Numbered Node) → Node → Numbered Node
node_by e p c d n x =
    of_node
    (map-Node Element Node Property Case Declaration Tree (Numbered Element) (Numbered Node) (Numbered Property) (Numbered Case) (Numbered Declaration) (Numbered Tree)
    e n p c d numbered (out-Node x))

same_parts : (x : Node) → node_by fold_element fold_property fold_case fold_declaration fold_node x ≡ node_by element_numbered property_numbered case_numbered declaration_numbered fold_node x
same_parts x =
    ap (λ e. node_by e fold_property fold_case fold_declaration fold_node x) (fun_ext element_is)
    ∙ ap (λ p. node_by element_numbered p fold_case fold_declaration fold_node x) (fun_ext property_is)
    ∙ ap (λ c. node_by element_numbered property_numbered c fold_declaration fold_node x) (fun_ext case_is)
    ∙ ap (λ d. node_by element_numbered property_numbered case_numbered d fold_node x) (fun_ext declaration_is)

node_is : (x : Node) → fold_node x ≡ node_by fold_element fold_property fold_case fold_declaration fold_node x
unfolding numbered
node_is x =
    fold_out-Node (Numbered Element) (Numbered Node) (Numbered Property) (Numbered Case) (Numbered Declaration) (Numbered Tree) of_element of_node of_property of_case of_declaration of_tree x

-- no node stands in a node but through a tree
node_layer : (l : Layer) → of_node (map-Node Element Node Property Case Declaration Tree (Numbered Element) (Numbered Node) (Numbered Property) (Numbered Case) (Numbered Declaration) (Numbered Tree)
    element_numbered fold_node property_numbered case_numbered declaration_numbered numbered l)
    ≡ of_node (map-Node Element Node Property Case Declaration Tree (Numbered Element) (Numbered Node) (Numbered Property) (Numbered Case) (Numbered Declaration) (Numbered Tree)
    element_numbered pure property_numbered case_numbered declaration_numbered numbered l)
node_layer (layer.New t None) = refl
node_layer (layer.New t (Some es)) = refl
node_layer l = refl

node_by_parts : (x : Node) → fold_node x ≡ node_numbered x
node_by_parts x = node_is x ∙ same_parts x ∙ node_layer (out-Node x)

-- a tree takes its number, and then its node is numbered
abbrev tree_by : (Node → Numbered Node) → Tree → Numbered Tree
tree_by f t = λ k. (roll-Tree (record { node = (f t.node (suc k)).0; from = t.from; to = t.to; number = k }), (f t.node (suc k)).1)

pub tree_is : (t : Tree) → numbered t ≡ tree_by node_numbered t
unfolding numbered
tree_is t =
    fold_out-Tree (Numbered Element) (Numbered Node) (Numbered Property) (Numbered Case) (Numbered Declaration) (Numbered Tree) of_element of_node of_property of_case of_declaration of_tree t
    ∙ ap (λ f. tree_by f t) (fun_ext node_by_parts)
