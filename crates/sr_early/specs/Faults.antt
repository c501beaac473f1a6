-- The places in a tree at which it breaks a rule of the static semantics (ECMA-262 13 to 16), by what stands around it.
use Rattle.std.specs.Prelude.{ℕ, Bool, true, false, ◌||◌, if◌then◌else◌, List, [], ◌∷◌, ◌++◌, map, Option, None, Some, is_some, is_none}
use Rattle.sr_ast.specs.declared.binding.Binding.{Binding}
use Rattle.sr_ast.specs.declared.binding.LexicalKind.{LexicalKind}
use Rattle.sr_ast.specs.declared.binding.LexicalKind.TheVariants as lexical
use Rattle.sr_ast.specs.declared.binding.Parameters.{Parameters}
use Rattle.sr_ast.specs.declared.tree.Tree.{Tree, Tree-F, para-Tree}
use Rattle.sr_ast.specs.declared.tree.Case.{Case, Case-F}
use Rattle.sr_ast.specs.declared.tree.Declaration.{Declaration, Declaration-F, out-Declaration}
use Rattle.sr_ast.specs.declared.tree.Element.{Element, Element-F}
use Rattle.sr_ast.specs.declared.tree.Element.TheOpen as layer
use Rattle.sr_ast.specs.declared.tree.Node.{Node, Node-F}
use Rattle.sr_ast.specs.declared.tree.Property.{Property, Property-F}
use Rattle.sr_early.specs.declared.context.Context.{Context}
use Rattle.sr_names.specs.Strictness.{place_if, strict_directive, says_strict, reference_faults, binding_faults, bindings_faults, target_faults, unary_faults}
use Rattle.sr_names.specs.Names.{Names, names_in, parameter_names, one_parameter, no_parameters, head_names, import_names, vars, all_vars, lexical_names, block_names, clauses_names, clauses_vars, top_name, top_names, top_vars}
use Rattle.sr_names.specs.Scopes.{repeated, among, scope_faults, loop_faults}
use Rattle.sr_early.specs.Targets.{around_body, in_loop, in_switch, labelled, is_loop, continue_faults, break_faults, return_faults, label_faults}
use Rattle.sr_early.specs.Exports.{unpaired_if_there, unpaired_imports, names_faults}

-- places, by what stands around
abbrev pub Faults : Type 0
Faults = Context → List ℕ

-- a part, and its faults
abbrev pub Judged : Type 0 → Type 0
Judged X = X × Faults

abbrev pub each : {X : Type 0} → List (Judged X) → Faults
each [] c = []
each (x ∷ xs) c = x.1 c ++ each xs c

abbrev pub if_there : {X : Type 0} → Option (Judged X) → Faults
if_there None c = []
if_there (Some x) c = x.1 c

-- the parts alone
abbrev pub bare : {X : Type 0} → List (Judged X) → List X
bare xs = map (λ x. x.0) xs

-- ---- functions (15.1 to 15.4)

-- no parameter stands twice in strict code, in arrow functions and methods, and beside `...`
abbrev pub distinct_faults : Bool → Parameters → List ℕ
distinct_faults distinct ps = if distinct || is_some ps.rest then repeated [] (parameter_names ps) else []

-- the names of a function and of its parameters, where its own code is strict or not
abbrev pub head_faults : Bool → Bool → Option Binding → Parameters → List ℕ
head_faults strict distinct called ps =
    bindings_faults strict (names_in called) ++ (bindings_faults strict ps.names ++ (bindings_faults strict (names_in ps.rest) ++ distinct_faults (strict || distinct) ps))

-- `use strict` stands beside no `...`
abbrev pub directive_faults : Option Binding → Option ℕ → List ℕ
directive_faults (Some rest) (Some at) = at ∷ []
directive_faults rest at = []

-- a body with its parameters: the names of the one are none of the other
abbrev pub body_with : Names → Parameters → List Tree → List ℕ
body_with by_var ps ts = among (parameter_names ps) (top_names ts) ++ scope_faults (top_names ts) by_var

abbrev pub body_faults : Parameters → List Tree → List ℕ
body_faults ps ts = body_with (top_vars ts) ps ts

abbrev pub is_strict_body : Context → List Tree → Bool
is_strict_body c ts = c.strict || says_strict ts

abbrev pub function_faults : Bool → Option Binding → Parameters → List (Judged Tree) → Faults
function_faults distinct called ps ts c =
    head_faults (is_strict_body c (bare ts)) distinct called ps
    ++ (directive_faults ps.rest (strict_directive (bare ts))
    ++ (each ts (around_body (is_strict_body c (bare ts))) ++ body_faults ps (bare ts)))

-- ---- declarations and blocks (14.2, 14.3, 14.7, 14.12, 14.15)

-- `const` has values
abbrev pub without_value : List Declaration → List ℕ
without_value [] = []
without_value (d ∷ ds) = (let o = out-Declaration d in place_if (is_none o.value) o.from) ++ without_value ds

abbrev pub value_faults : LexicalKind → List Declaration → List ℕ
value_faults lexical.Const ds = without_value ds
value_faults lexical.Let ds = []

abbrev pub first_names : Option (Judged Tree) → Names
first_names None = []
first_names (Some t) = top_name t.0

-- the parameter of `catch` is no name of its block, and no `var` in it declares it
abbrev pub caught_faults : Option Binding → Option (Judged Tree) → List ℕ
caught_faults (Some p) (Some h) = among (p ∷ []) (block_names h.0) ++ among (p ∷ []) (vars h.0)
caught_faults p h = []

abbrev pub catch_faults : Option Binding → Option (Judged Tree) → Faults
catch_faults p h c = bindings_faults c.strict (names_in p) ++ (if_there h c ++ caught_faults p h)

-- ---- trees

abbrev pub of_element : Element-F (Judged Element) (Node × (ℕ → Faults)) (Judged Property) (Judged Case) (Judged Declaration) (Judged Tree) → Faults
of_element (layer.Value t) c = t.1 c
of_element (layer.Element::Spread t) c = t.1 c
of_element layer.Hole c = []

abbrev pub of_property : Property-F (Judged Element) (Node × (ℕ → Faults)) (Judged Property) (Judged Case) (Judged Declaration) (Judged Tree) → Faults
of_property (layer.Named called t) c = t.1 c
of_property (layer.Computed s t) c = s.1 c ++ t.1 c
of_property (layer.Property::Spread t) c = t.1 c
of_property (layer.Property::Method t) c = t.1 c

abbrev pub of_case : Case-F (Judged Element) (Node × (ℕ → Faults)) (Judged Property) (Judged Case) (Judged Declaration) (Judged Tree) → Faults
of_case x c = if_there x.test c ++ each x.body c

abbrev pub of_declaration : Declaration-F (Judged Element) (Node × (ℕ → Faults)) (Judged Property) (Judged Case) (Judged Declaration) (Judged Tree) → Faults
of_declaration d c = binding_faults c.strict (record { name = d.name; from = d.from }) ++ if_there d.value c

-- a node, by the place of its tree
abbrev pub of_node : Node-F (Judged Element) (Node × (ℕ → Faults)) (Judged Property) (Judged Case) (Judged Declaration) (Judged Tree) → ℕ → Faults
of_node (layer.Sequence ts) at c = each ts c
of_node (layer.Assign op s t named) at c = target_faults c.strict s.0 ++ (s.1 c ++ t.1 c)
of_node (layer.Cond r s t) at c = r.1 c ++ (s.1 c ++ t.1 c)
of_node (layer.Logical op s t) at c = s.1 c ++ t.1 c
of_node (layer.Binary op s t) at c = s.1 c ++ t.1 c
of_node (layer.Unary op t) at c = unary_faults c.strict op t.0 at ++ t.1 c
of_node (layer.Update op t) at c = target_faults c.strict t.0 ++ t.1 c
of_node (layer.Member l t called) at c = t.1 c
of_node (layer.Index l s t) at c = s.1 c ++ t.1 c
of_node (layer.Call l t es) at c = t.1 c ++ each es c
of_node (layer.New t None) at c = t.1 c
of_node (layer.New t (Some es)) at c = t.1 c ++ each es c
of_node layer.This at c = []
of_node (layer.Name called) at c = reference_faults c.strict called at
of_node layer.Null at c = []
of_node (layer.Bool b) at c = []
of_node (layer.Num value) at c = []
of_node (layer.Text value) at c = []
of_node (layer.Template texts ts) at c = each ts c
of_node (layer.Array es) at c = each es c
of_node (layer.Object ps) at c = each ps c
of_node (layer.Node::Method called ps ts) at c = function_faults true None ps ts c
of_node (layer.ComputedMethod t ps ts) at c = t.1 c ++ function_faults true None ps ts c
of_node (layer.Getter called ts) at c = function_faults true None no_parameters ts c
of_node (layer.Setter called p ts) at c = function_faults true None (one_parameter p) ts c
of_node (layer.Function called ps ts) at c = function_faults false called ps ts c
of_node (layer.Arrow ps ts) at c = function_faults true None ps ts c
of_node (layer.ExpressionArrow ps t) at c = head_faults c.strict true None ps ++ t.1 (around_body c.strict)
of_node (layer.Expression t) at c = t.1 c
of_node (layer.Directive t) at c = t.1 c
of_node (layer.Var ds) at c = each ds c
of_node (layer.Lexical kind ds) at c = value_faults kind (bare ds) ++ each ds c
of_node (layer.FunctionDeclaration called ps ts) at c = function_faults false called ps ts c
of_node (layer.Block ts) at c = each ts c ++ scope_faults (lexical_names (bare ts)) (all_vars (bare ts))
of_node layer.Empty at c = []
of_node (layer.If r s t) at c = r.1 c ++ (s.1 c ++ if_there t c)
of_node (layer.Do s r) at c = s.1 (in_loop c) ++ r.1 c
of_node (layer.While r s) at c = r.1 c ++ s.1 (in_loop c)
of_node (layer.For a r b s) at c =
    if_there a c ++ (if_there r c ++ (if_there b c ++ (s.1 (in_loop c) ++ loop_faults (first_names a) (vars s.0))))
of_node (layer.ForIn h a s) at c = binding_faults c.strict h.binding ++ (a.1 c ++ (s.1 (in_loop c) ++ loop_faults (head_names h) (vars s.0)))
of_node (layer.ForInTarget t a s) at c = target_faults c.strict t.0 ++ (t.1 c ++ (a.1 c ++ s.1 (in_loop c)))
of_node (layer.ForOf h a s) at c = binding_faults c.strict h.binding ++ (a.1 c ++ (s.1 (in_loop c) ++ loop_faults (head_names h) (vars s.0)))
of_node (layer.ForOfTarget t a s) at c = target_faults c.strict t.0 ++ (t.1 c ++ (a.1 c ++ s.1 (in_loop c)))
of_node (layer.Continue label) at c = continue_faults c label at
of_node (layer.Break label) at c = break_faults c label at
of_node (layer.Return t) at c = return_faults c at ++ if_there t c
of_node (layer.Throw t) at c = t.1 c
of_node layer.Debugger at c = []
of_node (layer.Switch t cs) at c = t.1 c ++ (each cs (in_switch c) ++ scope_faults (clauses_names (bare cs)) (clauses_vars (bare cs)))
of_node (layer.Try s p h f) at c = s.1 c ++ (catch_faults p h c ++ if_there f c)
of_node (layer.Labelled label s) at c = label_faults c label at ++ (reference_faults c.strict label at ++ s.1 (labelled label (is_loop s.0) c))
of_node (layer.Import first others called) at c = bindings_faults c.strict (import_names first others) ++ unpaired_imports others
of_node (layer.ExportAll outer called) at c = unpaired_if_there outer
of_node (layer.ExportNames ns called) at c = names_faults c.strict ns called
of_node (layer.Export t) at c = t.1 c
of_node (layer.ExportDefault t) at c = t.1 c

abbrev pub of_tree : Tree-F (Judged Element) (Node × (ℕ → Faults)) (Judged Property) (Judged Case) (Judged Declaration) (Judged Tree) → Faults
of_tree t = (let n = t.node in n.1) t.from

unfoldable pub faults : Tree → Faults
faults t = para-Tree Faults (ℕ → Faults) Faults Faults Faults Faults of_element of_node of_property of_case of_declaration of_tree t

abbrev pub all_faults : List Tree → Faults
all_faults [] c = []
all_faults (t ∷ ts) c = faults t c ++ all_faults ts c
