-- The names that a tree declares are those of its layer.
use Rattle.std.proofs.Common.{◌≡◌, ℕ, refl, ap, ◌∙◌, List, [], ◌∷◌, ◌++◌, map, None, Some}
use Rattle.sr_ast.specs.declared.tree.Tree.{Tree, fold-Tree, fold_out-Tree}
use Rattle.sr_ast.specs.declared.tree.Declaration.{Declaration, out-Declaration, fold-Declaration, fold_out-Declaration}
use Rattle.sr_ast.specs.declared.tree.Node.{Node, out-Node, map-Node, fold-Node, fold_out-Node}
use Rattle.sr_ast.specs.declared.tree.Case.{Case, fold-Case}
use Rattle.sr_ast.specs.declared.tree.Element.{Element, fold-Element}
use Rattle.sr_ast.specs.declared.tree.Element.TheOpen as layer
use Rattle.sr_ast.specs.declared.tree.Property.{Property, fold-Property}
use Rattle.sr_ast.specs.Layer.{Layer}
use Rattle.sr_script.specs.Names.{Names, joined, names_of_element, names_of_node, names_of_property, names_of_case, names_of_declaration, names_of_tree, declared_names, script_names}
use Rattle.sr_script.specs.Parts.{names_of_all, names_at, node_names}

abbrev fold_element : Element → Names
fold_element = fold-Element Names Names Names Names Names Names names_of_element names_of_node names_of_property names_of_case names_of_declaration names_of_tree

abbrev fold_property : Property → Names
fold_property = fold-Property Names Names Names Names Names Names names_of_element names_of_node names_of_property names_of_case names_of_declaration names_of_tree

abbrev fold_case : Case → Names
fold_case = fold-Case Names Names Names Names Names Names names_of_element names_of_node names_of_property names_of_case names_of_declaration names_of_tree

abbrev fold_node : Node → Names
fold_node = fold-Node Names Names Names Names Names Names names_of_element names_of_node names_of_property names_of_case names_of_declaration names_of_tree

abbrev fold_declaration : Declaration → Names
fold_declaration = fold-Declaration Names Names Names Names Names Names names_of_element names_of_node names_of_property names_of_case names_of_declaration names_of_tree

abbrev fold_tree : Tree → Names
fold_tree = fold-Tree Names Names Names Names Names Names names_of_element names_of_node names_of_property names_of_case names_of_declaration names_of_tree

abbrev name_of : Declaration → List ℕ
name_of d = let o = out-Declaration d in o.name

declaration_is : (d : Declaration) → fold_declaration d ≡ name_of d ∷ []
declaration_is d = fold_out-Declaration Names Names Names Names Names Names names_of_element names_of_node names_of_property names_of_case names_of_declaration names_of_tree d

all_declared : (ds : List Declaration) → joined (map fold_declaration ds) ≡ names_of_all ds
all_declared [] = refl
all_declared (d ∷ ds) = ap (λ ns. ns ++ joined (map fold_declaration ds)) (declaration_is d) ∙ ap (λ ns. name_of d ∷ ns) (all_declared ds)

all_trees : (ts : List Tree) → joined (map fold_tree ts) ≡ script_names ts
unfolding declared_names
all_trees [] = refl
all_trees (t ∷ ts) = ap (λ ns. fold_tree t ++ ns) (all_trees ts)

layer_is : (l : Layer) → names_of_node (map-Node Element Node Property Case Declaration Tree Names Names Names Names Names Names fold_element fold_node fold_property fold_case fold_declaration fold_tree l) ≡ names_at l
unfolding declared_names
layer_is (layer.Var ds) = all_declared ds
layer_is (layer.Block ss) = all_trees ss
layer_is (layer.If c a None) = refl
layer_is (layer.If c a (Some b)) = refl
layer_is (layer.For None test update body) = refl
layer_is (layer.For (Some first) test update body) = refl
layer_is l = refl

-- a tree declares what its node does
pub tree_is : (t : Tree) → declared_names t ≡ node_names t.node
unfolding declared_names
tree_is t =
    fold_out-Tree Names Names Names Names Names Names names_of_element names_of_node names_of_property names_of_case names_of_declaration names_of_tree t
    ∙ fold_out-Node Names Names Names Names Names Names names_of_element names_of_node names_of_property names_of_case names_of_declaration names_of_tree t.node
    ∙ layer_is (out-Node t.node)
