-- The names that a tree declares by `var`, and whether it is a loop, are those of its layer.
use Rattle.std.proofs.Common.{◌≡◌, refl, ap, ◌∙◌, Bool, List, [], ◌∷◌, ◌++◌, map, None, Some}
use Rattle.sr_ast.specs.declared.tree.Tree.{Tree, fold-Tree, fold_out-Tree}
use Rattle.sr_ast.specs.declared.tree.Case.{Case, out-Case, fold-Case, fold_out-Case}
use Rattle.sr_ast.specs.declared.tree.Declaration.{Declaration, fold-Declaration, fold_out-Declaration}
use Rattle.sr_ast.specs.declared.tree.Element.{Element, fold-Element}
use Rattle.sr_ast.specs.declared.tree.Element.TheOpen as layer
use Rattle.sr_ast.specs.declared.tree.Node.{Node, out-Node, map-Node, fold-Node, fold_out-Node}
use Rattle.sr_ast.specs.declared.tree.Property.{Property, fold-Property}
use Rattle.sr_ast.specs.Layer.{Layer}
use Rattle.sr_names.specs.Names.{Names, declared_name, joined, vars_of_element, vars_of_node, vars_of_property, vars_of_case, vars_of_declaration, vars_of_tree, vars, all_vars, clauses_vars}
use Rattle.sr_early.specs.Targets.{loop_of_element, loop_of_node, loop_of_property, loop_of_case, loop_of_declaration, loop_of_tree, is_loop}
use Rattle.sr_early.specs.Parts.{vars_at, node_vars, loop_at, node_loop}

-- ---- names

abbrev fold_element : Element → Names
fold_element = fold-Element Names Names Names Names Names Names vars_of_element vars_of_node vars_of_property vars_of_case vars_of_declaration vars_of_tree

abbrev fold_property : Property → Names
fold_property = fold-Property Names Names Names Names Names Names vars_of_element vars_of_node vars_of_property vars_of_case vars_of_declaration vars_of_tree

abbrev fold_case : Case → Names
fold_case = fold-Case Names Names Names Names Names Names vars_of_element vars_of_node vars_of_property vars_of_case vars_of_declaration vars_of_tree

abbrev fold_node : Node → Names
fold_node = fold-Node Names Names Names Names Names Names vars_of_element vars_of_node vars_of_property vars_of_case vars_of_declaration vars_of_tree

abbrev fold_declaration : Declaration → Names
fold_declaration = fold-Declaration Names Names Names Names Names Names vars_of_element vars_of_node vars_of_property vars_of_case vars_of_declaration vars_of_tree

abbrev fold_tree : Tree → Names
fold_tree = fold-Tree Names Names Names Names Names Names vars_of_element vars_of_node vars_of_property vars_of_case vars_of_declaration vars_of_tree

declaration_is : (d : Declaration) → fold_declaration d ≡ declared_name d ∷ []
declaration_is d = fold_out-Declaration Names Names Names Names Names Names vars_of_element vars_of_node vars_of_property vars_of_case vars_of_declaration vars_of_tree d

all_declared : (ds : List Declaration) → joined (map fold_declaration ds) ≡ map declared_name ds
all_declared [] = refl
all_declared (d ∷ ds) = ap (λ ns. ns ++ joined (map fold_declaration ds)) (declaration_is d) ∙ ap (λ ns. declared_name d ∷ ns) (all_declared ds)

all_trees : (ts : List Tree) → joined (map fold_tree ts) ≡ all_vars ts
unfolding vars
all_trees [] = refl
all_trees (t ∷ ts) = ap (λ ns. fold_tree t ++ ns) (all_trees ts)

case_is : (x : Case) → fold_case x ≡ all_vars (let o = out-Case x in o.body)
case_is x =
    fold_out-Case Names Names Names Names Names Names vars_of_element vars_of_node vars_of_property vars_of_case vars_of_declaration vars_of_tree x
    ∙ all_trees (let o = out-Case x in o.body)

all_cases : (cs : List Case) → joined (map fold_case cs) ≡ clauses_vars cs
all_cases [] = refl
all_cases (x ∷ cs) = ap (λ ns. ns ++ joined (map fold_case cs)) (case_is x) ∙ ap (λ ns. all_vars (let o = out-Case x in o.body) ++ ns) (all_cases cs)

vars_layer : (l : Layer) → vars_of_node (map-Node Element Node Property Case Declaration Tree Names Names Names Names Names Names fold_element fold_node fold_property fold_case fold_declaration fold_tree l) ≡ vars_at l
unfolding vars
vars_layer (layer.Var ds) = all_declared ds
vars_layer (layer.Block ts) = all_trees ts
vars_layer (layer.If c s None) = refl
vars_layer (layer.If c s (Some t)) = refl
vars_layer (layer.For None b c s) = refl
vars_layer (layer.For (Some a) b c s) = refl
vars_layer (layer.Switch a cs) = all_cases cs
vars_layer (layer.Try s p None None) = refl
vars_layer (layer.Try s p None (Some f)) = refl
vars_layer (layer.Try s p (Some h) None) = refl
vars_layer (layer.Try s p (Some h) (Some f)) = refl
vars_layer l = refl

pub vars_is : (t : Tree) → vars t ≡ node_vars t.node
unfolding vars
vars_is t =
    fold_out-Tree Names Names Names Names Names Names vars_of_element vars_of_node vars_of_property vars_of_case vars_of_declaration vars_of_tree t
    ∙ fold_out-Node Names Names Names Names Names Names vars_of_element vars_of_node vars_of_property vars_of_case vars_of_declaration vars_of_tree t.node
    ∙ vars_layer (out-Node t.node)

-- ---- loops

loop_layer : (l : Layer) → loop_of_node (map-Node Element Node Property Case Declaration Tree Bool Bool Bool Bool Bool Bool
    (fold-Element Bool Bool Bool Bool Bool Bool loop_of_element loop_of_node loop_of_property loop_of_case loop_of_declaration loop_of_tree)
    (fold-Node Bool Bool Bool Bool Bool Bool loop_of_element loop_of_node loop_of_property loop_of_case loop_of_declaration loop_of_tree)
    (fold-Property Bool Bool Bool Bool Bool Bool loop_of_element loop_of_node loop_of_property loop_of_case loop_of_declaration loop_of_tree)
    (fold-Case Bool Bool Bool Bool Bool Bool loop_of_element loop_of_node loop_of_property loop_of_case loop_of_declaration loop_of_tree)
    (fold-Declaration Bool Bool Bool Bool Bool Bool loop_of_element loop_of_node loop_of_property loop_of_case loop_of_declaration loop_of_tree)
    (fold-Tree Bool Bool Bool Bool Bool Bool loop_of_element loop_of_node loop_of_property loop_of_case loop_of_declaration loop_of_tree) l) ≡ loop_at l
unfolding is_loop
loop_layer (layer.Labelled label s) = refl
loop_layer l = refl

pub loop_is : (t : Tree) → is_loop t ≡ node_loop t.node
unfolding is_loop
loop_is t =
    fold_out-Tree Bool Bool Bool Bool Bool Bool loop_of_element loop_of_node loop_of_property loop_of_case loop_of_declaration loop_of_tree t
    ∙ fold_out-Node Bool Bool Bool Bool Bool Bool loop_of_element loop_of_node loop_of_property loop_of_case loop_of_declaration loop_of_tree t.node
    ∙ loop_layer (out-Node t.node)
