-- The faults of a tree are those of its layer.
use Rattle.std.proofs.Common.{◌≡◌, refl, sym, ap, ◌∙◌, ℕ, Bool, true, false, List, [], ◌∷◌, ◌++◌, map, Option, None, Some}
use Rattle.sr_ast.specs.declared.binding.Binding.{Binding}
use Rattle.sr_ast.specs.declared.binding.Parameters.{Parameters}
use Rattle.sr_ast.specs.declared.tree.Tree.{Tree, out-Tree, roll-out-Tree, para-Tree, para-roll-Tree}
use Rattle.sr_ast.specs.declared.tree.Case.{Case, out-Case, roll-out-Case, map-Case, para-Case, para-roll-Case}
use Rattle.sr_ast.specs.declared.tree.Declaration.{Declaration, out-Declaration, roll-out-Declaration, map-Declaration, para-Declaration, para-roll-Declaration}
use Rattle.sr_ast.specs.declared.tree.Element.{Element, Element-F, out-Element, roll-out-Element, map-Element, para-Element, para-roll-Element}
use Rattle.sr_ast.specs.declared.tree.Element.TheOpen as layer
use Rattle.sr_ast.specs.declared.tree.Node.{Node, out-Node, roll-out-Node, map-Node, para-Node, para-roll-Node}
use Rattle.sr_ast.specs.declared.tree.Property.{Property, Property-F, out-Property, roll-out-Property, map-Property, para-Property, para-roll-Property}
use Rattle.sr_ast.specs.Layer.{Layer}
use Rattle.sr_early.specs.declared.context.Context.{Context}
use Rattle.sr_names.specs.Strictness.{strict_directive, binding_faults}
use Rattle.sr_names.specs.Names.{one_parameter, no_parameters, lexical_names, all_vars, clauses_names, clauses_vars}
use Rattle.sr_names.specs.Scopes.{scope_faults}
use Rattle.sr_early.specs.Targets.{around_body, in_switch}
use Rattle.sr_early.specs.Faults.{Faults, Judged, each, bare, head_faults, directive_faults, body_faults, is_strict_body, value_faults, function_faults, of_element, of_property, of_case, of_declaration, of_node, of_tree, faults, all_faults}
use Rattle.sr_early.specs.Parts.{faults_if_there, element_at, element_faults, elements_faults, property_at, property_faults, properties_faults, case_faults, cases_faults, declaration_faults, declarations_faults, function_at, faults_at, node_faults}

-- ---- parts with their faults

abbrev judged_element : Element → Judged Element
judged_element x = (x, para-Element Faults (ℕ → Faults) Faults Faults Faults Faults of_element of_node of_property of_case of_declaration of_tree x)

abbrev judged_node : Node → Node × (ℕ → Faults)
judged_node x = (x, para-Node Faults (ℕ → Faults) Faults Faults Faults Faults of_element of_node of_property of_case of_declaration of_tree x)

abbrev judged_property : Property → Judged Property
judged_property x = (x, para-Property Faults (ℕ → Faults) Faults Faults Faults Faults of_element of_node of_property of_case of_declaration of_tree x)

abbrev judged_case : Case → Judged Case
judged_case x = (x, para-Case Faults (ℕ → Faults) Faults Faults Faults Faults of_element of_node of_property of_case of_declaration of_tree x)

abbrev judged_declaration : Declaration → Judged Declaration
judged_declaration x = (x, para-Declaration Faults (ℕ → Faults) Faults Faults Faults Faults of_element of_node of_property of_case of_declaration of_tree x)

abbrev judged_tree : Tree → Judged Tree
judged_tree x = (x, faults x)

-- ---- lists of them

bare_trees : (ts : List Tree) → bare (map judged_tree ts) ≡ ts
bare_trees [] = refl
bare_trees (t ∷ ts) = ap (λ xs. t ∷ xs) (bare_trees ts)

bare_declarations : (ds : List Declaration) → bare (map judged_declaration ds) ≡ ds
bare_declarations [] = refl
bare_declarations (d ∷ ds) = ap (λ xs. d ∷ xs) (bare_declarations ds)

bare_cases : (cs : List Case) → bare (map judged_case cs) ≡ cs
bare_cases [] = refl
bare_cases (x ∷ cs) = ap (λ xs. x ∷ xs) (bare_cases cs)

each_tree : (ts : List Tree) (c : Context) → each (map judged_tree ts) c ≡ all_faults ts c
each_tree [] c = refl
each_tree (t ∷ ts) c = ap (λ xs. faults t c ++ xs) (each_tree ts c)

-- ---- elements, properties, clauses and declarations

element_layer : (l : Element-F Element Node Property Case Declaration Tree) → of_element (map-Element Element Node Property Case Declaration Tree (Judged Element) (Node × (ℕ → Faults)) (Judged Property) (Judged Case) (Judged Declaration) (Judged Tree) judged_element judged_node judged_property judged_case judged_declaration judged_tree l) ≡ element_at l
element_layer (layer.Value t) = refl
element_layer (layer.Element::Spread t) = refl
element_layer layer.Hole = refl

element_is : (x : Element) → (let f = judged_element x in f.1) ≡ element_faults x
unfolding faults
element_is x =
    ap (para-Element Faults (ℕ → Faults) Faults Faults Faults Faults of_element of_node of_property of_case of_declaration of_tree) (sym (roll-out-Element x))
    ∙ para-roll-Element Faults (ℕ → Faults) Faults Faults Faults Faults of_element of_node of_property of_case of_declaration of_tree (out-Element x)
    ∙ element_layer (out-Element x)

each_element : (xs : List Element) (c : Context) → each (map judged_element xs) c ≡ elements_faults xs c
each_element [] c = refl
each_element (x ∷ xs) c = ap (λ (f : Faults). f c ++ each (map judged_element xs) c) (element_is x) ∙ ap (λ ys. element_faults x c ++ ys) (each_element xs c)

property_layer : (l : Property-F Element Node Property Case Declaration Tree) → of_property (map-Property Element Node Property Case Declaration Tree (Judged Element) (Node × (ℕ → Faults)) (Judged Property) (Judged Case) (Judged Declaration) (Judged Tree) judged_element judged_node judged_property judged_case judged_declaration judged_tree l) ≡ property_at l
property_layer (layer.Named called t) = refl
property_layer (layer.Computed s t) = refl
property_layer (layer.Property::Spread t) = refl
property_layer (layer.Property::Method t) = refl

property_is : (x : Property) → (let f = judged_property x in f.1) ≡ property_faults x
unfolding faults
property_is x =
    ap (para-Property Faults (ℕ → Faults) Faults Faults Faults Faults of_element of_node of_property of_case of_declaration of_tree) (sym (roll-out-Property x))
    ∙ para-roll-Property Faults (ℕ → Faults) Faults Faults Faults Faults of_element of_node of_property of_case of_declaration of_tree (out-Property x)
    ∙ property_layer (out-Property x)

each_property : (xs : List Property) (c : Context) → each (map judged_property xs) c ≡ properties_faults xs c
each_property [] c = refl
each_property (x ∷ xs) c = ap (λ (f : Faults). f c ++ each (map judged_property xs) c) (property_is x) ∙ ap (λ ys. property_faults x c ++ ys) (each_property xs c)

case_parts : (test : Option Tree) (body : List Tree) (c : Context)
    → of_case (map-Case Element Node Property Case Declaration Tree (Judged Element) (Node × (ℕ → Faults)) (Judged Property) (Judged Case) (Judged Declaration) (Judged Tree) judged_element judged_node judged_property judged_case judged_declaration judged_tree (record { test = test; body = body })) c ≡ faults_if_there test c ++ all_faults body c
case_parts None body c = each_tree body c
case_parts (Some t) body c = ap (λ xs. faults t c ++ xs) (each_tree body c)

case_is : (x : Case) (c : Context) → (let f = judged_case x in f.1) c ≡ case_faults x c
unfolding faults
case_is x c =
    ap (λ (f : Faults). f c) (ap (para-Case Faults (ℕ → Faults) Faults Faults Faults Faults of_element of_node of_property of_case of_declaration of_tree) (sym (roll-out-Case x))
    ∙ para-roll-Case Faults (ℕ → Faults) Faults Faults Faults Faults of_element of_node of_property of_case of_declaration of_tree (out-Case x))
    ∙ case_parts (let o = out-Case x in o.test) (let o = out-Case x in o.body) c

each_case : (xs : List Case) (c : Context) → each (map judged_case xs) c ≡ cases_faults xs c
each_case [] c = refl
each_case (x ∷ xs) c = ap (λ ys. ys ++ each (map judged_case xs) c) (case_is x c) ∙ ap (λ ys. case_faults x c ++ ys) (each_case xs c)

declaration_parts : (name : List ℕ) (from : ℕ) (value : Option Tree) (c : Context)
    → of_declaration (map-Declaration Element Node Property Case Declaration Tree (Judged Element) (Node × (ℕ → Faults)) (Judged Property) (Judged Case) (Judged Declaration) (Judged Tree) judged_element judged_node judged_property judged_case judged_declaration judged_tree (record { name = name; from = from; value = value })) c
    ≡ binding_faults c.strict (record { name = name; from = from }) ++ faults_if_there value c
declaration_parts name from None c = refl
declaration_parts name from (Some t) c = refl

declaration_is : (x : Declaration) (c : Context) → (let f = judged_declaration x in f.1) c ≡ declaration_faults x c
unfolding faults
declaration_is x c =
    let o = out-Declaration x in
    ap (λ (f : Faults). f c) (ap (para-Declaration Faults (ℕ → Faults) Faults Faults Faults Faults of_element of_node of_property of_case of_declaration of_tree) (sym (roll-out-Declaration x))
    ∙ para-roll-Declaration Faults (ℕ → Faults) Faults Faults Faults Faults of_element of_node of_property of_case of_declaration of_tree (out-Declaration x))
    ∙ declaration_parts o.name o.from o.value c

each_declaration : (xs : List Declaration) (c : Context) → each (map judged_declaration xs) c ≡ declarations_faults xs c
each_declaration [] c = refl
each_declaration (x ∷ xs) c = ap (λ ys. ys ++ each (map judged_declaration xs) c) (declaration_is x c) ∙ ap (λ ys. declaration_faults x c ++ ys) (each_declaration xs c)

-- ---- functions

function_is : (distinct : Bool) (called : Option Binding) (ps : Parameters) (ts : List Tree) (c : Context)
    → function_faults distinct called ps (map judged_tree ts) c ≡ function_at distinct called ps ts c
function_is distinct called ps ts c =
    ap (λ (xs : List Tree). head_faults (is_strict_body c xs) distinct called ps
    ++ (directive_faults ps.rest (strict_directive xs)
    ++ (each (map judged_tree ts) (around_body (is_strict_body c xs)) ++ body_faults ps xs))) (bare_trees ts)
    ∙ ap (λ ys. head_faults (is_strict_body c ts) distinct called ps ++ (directive_faults ps.rest (strict_directive ts) ++ (ys ++ body_faults ps ts)))
    (each_tree ts (around_body (is_strict_body c ts)))

-- ---- nodes

node_layer : (l : Layer) (at : ℕ) (c : Context) → of_node (map-Node Element Node Property Case Declaration Tree (Judged Element) (Node × (ℕ → Faults)) (Judged Property) (Judged Case) (Judged Declaration) (Judged Tree) judged_element judged_node judged_property judged_case judged_declaration judged_tree l) at c ≡ faults_at l at c
node_layer (layer.Sequence ts) at c = each_tree ts c
node_layer (layer.Call l t es) at c = ap (λ xs. faults t c ++ xs) (each_element es c)
node_layer (layer.New t None) at c = refl
node_layer (layer.New t (Some es)) at c = ap (λ xs. faults t c ++ xs) (each_element es c)
node_layer (layer.Template texts ts) at c = each_tree ts c
node_layer (layer.Array es) at c = each_element es c
node_layer (layer.Object ps) at c = each_property ps c
node_layer (layer.Node::Method called ps ts) at c = function_is true None ps ts c
node_layer (layer.ComputedMethod t ps ts) at c = ap (λ xs. faults t c ++ xs) (function_is true None ps ts c)
node_layer (layer.Getter called ts) at c = function_is true None no_parameters ts c
node_layer (layer.Setter called p ts) at c = function_is true None (one_parameter p) ts c
node_layer (layer.Function called ps ts) at c = function_is false called ps ts c
node_layer (layer.Arrow ps ts) at c = function_is true None ps ts c
node_layer (layer.Var ds) at c = each_declaration ds c
node_layer (layer.Lexical kind ds) at c =
    ap (λ xs. value_faults kind xs ++ each (map judged_declaration ds) c) (bare_declarations ds) ∙ ap (λ ys. value_faults kind ds ++ ys) (each_declaration ds c)
node_layer (layer.FunctionDeclaration called ps ts) at c = function_is false called ps ts c
node_layer (layer.Block ts) at c =
    ap (λ xs. each (map judged_tree ts) c ++ scope_faults (lexical_names xs) (all_vars xs)) (bare_trees ts)
    ∙ ap (λ ys. ys ++ scope_faults (lexical_names ts) (all_vars ts)) (each_tree ts c)
node_layer (layer.If r s None) at c = refl
node_layer (layer.If r s (Some t)) at c = refl
node_layer (layer.For None None None s) at c = refl
node_layer (layer.For None None (Some b) s) at c = refl
node_layer (layer.For None (Some r) None s) at c = refl
node_layer (layer.For None (Some r) (Some b) s) at c = refl
node_layer (layer.For (Some a) None None s) at c = refl
node_layer (layer.For (Some a) None (Some b) s) at c = refl
node_layer (layer.For (Some a) (Some r) None s) at c = refl
node_layer (layer.For (Some a) (Some r) (Some b) s) at c = refl
node_layer (layer.Return None) at c = refl
node_layer (layer.Return (Some t)) at c = refl
node_layer (layer.Switch t cs) at c =
    ap (λ xs. faults t c ++ (each (map judged_case cs) (in_switch c) ++ scope_faults (clauses_names xs) (clauses_vars xs))) (bare_cases cs)
    ∙ ap (λ ys. faults t c ++ (ys ++ scope_faults (clauses_names cs) (clauses_vars cs))) (each_case cs (in_switch c))
node_layer (layer.Try s None None None) at c = refl
node_layer (layer.Try s None None (Some f)) at c = refl
node_layer (layer.Try s None (Some h) None) at c = refl
node_layer (layer.Try s None (Some h) (Some f)) at c = refl
node_layer (layer.Try s (Some p) None None) at c = refl
node_layer (layer.Try s (Some p) None (Some f)) at c = refl
node_layer (layer.Try s (Some p) (Some h) None) at c = refl
node_layer (layer.Try s (Some p) (Some h) (Some f)) at c = refl
node_layer l at c = refl

node_is : (x : Node) (at : ℕ) (c : Context) → (let f = judged_node x in f.1) at c ≡ node_faults x at c
unfolding faults
node_is x at c =
    ap (λ (f : ℕ → Faults). f at c) (ap (para-Node Faults (ℕ → Faults) Faults Faults Faults Faults of_element of_node of_property of_case of_declaration of_tree) (sym (roll-out-Node x))
    ∙ para-roll-Node Faults (ℕ → Faults) Faults Faults Faults Faults of_element of_node of_property of_case of_declaration of_tree (out-Node x))
    ∙ node_layer (out-Node x) at c

-- a tree has the faults of its node
pub tree_is : (x : Tree) (c : Context) → faults x c ≡ node_faults x.node x.from c
unfolding faults
tree_is x c =
    ap (λ (f : Faults). f c) (ap (para-Tree Faults (ℕ → Faults) Faults Faults Faults Faults of_element of_node of_property of_case of_declaration of_tree) (sym (roll-out-Tree x))
    ∙ para-roll-Tree Faults (ℕ → Faults) Faults Faults Faults Faults of_element of_node of_property of_case of_declaration of_tree (out-Tree x))
    ∙ node_is x.node x.from c
