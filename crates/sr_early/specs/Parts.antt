-- What a tree declares and breaks, by what its parts declare and break.
use Rattle.std.specs.Prelude.{ℕ, Bool, true, false, List, [], ◌∷◌, ◌++◌, map, Option, None, Some}
use Rattle.sr_ast.specs.declared.binding.Binding.{Binding}
use Rattle.sr_ast.specs.declared.binding.HeadBinding.{HeadBinding}
use Rattle.sr_ast.specs.declared.binding.Parameters.{Parameters}
use Rattle.sr_ast.specs.declared.tree.Tree.{Tree}
use Rattle.sr_ast.specs.declared.tree.Case.{Case, out-Case}
use Rattle.sr_ast.specs.declared.tree.Declaration.{Declaration, out-Declaration}
use Rattle.sr_ast.specs.declared.tree.Element.{Element, Element-F, out-Element}
use Rattle.sr_ast.specs.declared.tree.Element.TheOpen as layer
use Rattle.sr_ast.specs.declared.tree.Node.{Node, out-Node}
use Rattle.sr_ast.specs.declared.tree.Property.{Property, Property-F, out-Property}
use Rattle.sr_ast.specs.Layer.{Layer}
use Rattle.sr_early.specs.declared.context.Context.{Context}
use Rattle.sr_names.specs.Strictness.{strict_directive, reference_faults, binding_faults, bindings_faults, target_faults, unary_faults}
use Rattle.sr_names.specs.Names.{Names, names_in, declared_name, head_vars, head_names, import_names, vars, all_vars, lexical_names, module_names, top_names, top_vars, block_names, clauses_names, clauses_vars, names_of_first, one_parameter, no_parameters}
use Rattle.sr_names.specs.Scopes.{among, scope_faults, loop_faults}
use Rattle.sr_early.specs.Targets.{around_items, around_body, in_loop, in_switch, labelled, is_loop, continue_faults, break_faults, return_faults, label_faults}
use Rattle.sr_early.specs.Exports.{unpaired_if_there, unpaired_imports, names_faults, export_faults}
use Rattle.sr_early.specs.Faults.{head_faults, directive_faults, body_faults, is_strict_body, value_faults, faults, all_faults}

-- ---- names that a tree declares by `var`

abbrev pub vars_if_there : Option Tree → Names
vars_if_there None = []
vars_if_there (Some t) = vars t

abbrev pub for_each_vars : HeadBinding → Tree → Names
for_each_vars h s = head_vars h ++ vars s

abbrev pub vars_at : Layer → Names
vars_at (layer.Var ds) = map declared_name ds
vars_at (layer.Block ts) = all_vars ts
vars_at (layer.If c s t) = vars s ++ vars_if_there t
vars_at (layer.Do s c) = vars s
vars_at (layer.While c s) = vars s
vars_at (layer.For a b c s) = vars_if_there a ++ vars s
vars_at (layer.ForIn h a s) = for_each_vars h s
vars_at (layer.ForInTarget a b s) = vars s
vars_at (layer.ForOf h a s) = for_each_vars h s
vars_at (layer.ForOfTarget a b s) = vars s
vars_at (layer.Switch a cs) = clauses_vars cs
vars_at (layer.Try s p h f) = vars s ++ (vars_if_there h ++ vars_if_there f)
vars_at (layer.Labelled l s) = vars s
vars_at (layer.Export s) = vars s
vars_at l = []

abbrev pub node_vars : Node → Names
node_vars n = vars_at (out-Node n)

-- ---- whether a statement is a loop

abbrev pub loop_at : Layer → Bool
loop_at (layer.Do s c) = true
loop_at (layer.While c s) = true
loop_at (layer.For a b c s) = true
loop_at (layer.ForIn h a s) = true
loop_at (layer.ForInTarget a b s) = true
loop_at (layer.ForOf h a s) = true
loop_at (layer.ForOfTarget a b s) = true
loop_at (layer.Labelled label s) = is_loop s
loop_at l = false

abbrev pub node_loop : Node → Bool
node_loop n = loop_at (out-Node n)

-- ---- faults

abbrev pub faults_if_there : Option Tree → Context → List ℕ
faults_if_there None c = []
faults_if_there (Some t) c = faults t c

abbrev pub element_at : Element-F Element Node Property Case Declaration Tree → Context → List ℕ
element_at (layer.Value t) c = faults t c
element_at (layer.Element::Spread t) c = faults t c
element_at layer.Hole c = []

abbrev pub element_faults : Element → Context → List ℕ
element_faults x c = element_at (out-Element x) c

abbrev pub elements_faults : List Element → Context → List ℕ
elements_faults [] c = []
elements_faults (x ∷ xs) c = element_faults x c ++ elements_faults xs c

abbrev pub property_at : Property-F Element Node Property Case Declaration Tree → Context → List ℕ
property_at (layer.Named called t) c = faults t c
property_at (layer.Computed s t) c = faults s c ++ faults t c
property_at (layer.Property::Spread t) c = faults t c
property_at (layer.Property::Method t) c = faults t c

abbrev pub property_faults : Property → Context → List ℕ
property_faults x c = property_at (out-Property x) c

abbrev pub properties_faults : List Property → Context → List ℕ
properties_faults [] c = []
properties_faults (x ∷ xs) c = property_faults x c ++ properties_faults xs c

abbrev pub case_faults : Case → Context → List ℕ
case_faults x c = let o = out-Case x in faults_if_there o.test c ++ all_faults o.body c

abbrev pub cases_faults : List Case → Context → List ℕ
cases_faults [] c = []
cases_faults (x ∷ xs) c = case_faults x c ++ cases_faults xs c

abbrev pub declaration_faults : Declaration → Context → List ℕ
declaration_faults d c = binding_faults c.strict (declared_name d) ++ faults_if_there (let o = out-Declaration d in o.value) c

abbrev pub declarations_faults : List Declaration → Context → List ℕ
declarations_faults [] c = []
declarations_faults (d ∷ ds) c = declaration_faults d c ++ declarations_faults ds c

abbrev pub function_at : Bool → Option Binding → Parameters → List Tree → Context → List ℕ
function_at distinct called ps ts c =
    head_faults (is_strict_body c ts) distinct called ps
    ++ (directive_faults ps.rest (strict_directive ts)
    ++ (all_faults ts (around_body (is_strict_body c ts)) ++ body_faults ps ts))

abbrev pub method_at : Parameters → List Tree → Context → List ℕ
method_at ps ts c = function_at true None ps ts c

abbrev pub arrow_at : Parameters → Tree → Context → List ℕ
arrow_at ps t c = head_faults c.strict true None ps ++ faults t (around_body c.strict)

abbrev pub block_at : List Tree → Context → List ℕ
block_at ts c = all_faults ts c ++ scope_faults (lexical_names ts) (all_vars ts)

abbrev pub switch_at : List Case → Context → List ℕ
switch_at cs c = cases_faults cs (in_switch c) ++ scope_faults (clauses_names cs) (clauses_vars cs)

abbrev pub labelled_at : List ℕ → Tree → ℕ → Context → List ℕ
labelled_at label s at c = label_faults c label at ++ (reference_faults c.strict label at ++ faults s (labelled label (is_loop s) c))

abbrev pub loop_body_at : Names → Tree → Context → List ℕ
loop_body_at names s c = faults s (in_loop c) ++ loop_faults names (vars s)

abbrev pub for_each_at : HeadBinding → Tree → Tree → Context → List ℕ
for_each_at h a s c = binding_faults c.strict h.binding ++ (faults a c ++ loop_body_at (head_names h) s c)

abbrev pub for_each_target_at : Tree → Tree → Tree → Context → List ℕ
for_each_target_at t a s c = target_faults c.strict t ++ (faults t c ++ (faults a c ++ faults s (in_loop c)))

abbrev pub caught_at : Option Binding → Option Tree → List ℕ
caught_at (Some p) (Some h) = among (p ∷ []) (block_names h) ++ among (p ∷ []) (vars h)
caught_at p h = []

abbrev pub catch_at : Option Binding → Option Tree → Context → List ℕ
catch_at p h c = bindings_faults c.strict (names_in p) ++ (faults_if_there h c ++ caught_at p h)

abbrev pub faults_at : Layer → ℕ → Context → List ℕ
faults_at (layer.Sequence ts) at c = all_faults ts c
faults_at (layer.Assign op s t named) at c = target_faults c.strict s ++ (faults s c ++ faults t c)
faults_at (layer.Cond r s t) at c = faults r c ++ (faults s c ++ faults t c)
faults_at (layer.Logical op s t) at c = faults s c ++ faults t c
faults_at (layer.Binary op s t) at c = faults s c ++ faults t c
faults_at (layer.Unary op t) at c = unary_faults c.strict op t at ++ faults t c
faults_at (layer.Update op t) at c = target_faults c.strict t ++ faults t c
faults_at (layer.Member l t called) at c = faults t c
faults_at (layer.Index l s t) at c = faults s c ++ faults t c
faults_at (layer.Call l t es) at c = faults t c ++ elements_faults es c
faults_at (layer.New t None) at c = faults t c
faults_at (layer.New t (Some es)) at c = faults t c ++ elements_faults es c
faults_at (layer.Name called) at c = reference_faults c.strict called at
faults_at (layer.Template texts ts) at c = all_faults ts c
faults_at (layer.Array es) at c = elements_faults es c
faults_at (layer.Object ps) at c = properties_faults ps c
faults_at (layer.Node::Method called ps ts) at c = method_at ps ts c
faults_at (layer.ComputedMethod t ps ts) at c = faults t c ++ method_at ps ts c
faults_at (layer.Getter called ts) at c = method_at no_parameters ts c
faults_at (layer.Setter called p ts) at c = method_at (one_parameter p) ts c
faults_at (layer.Function called ps ts) at c = function_at false called ps ts c
faults_at (layer.Arrow ps ts) at c = method_at ps ts c
faults_at (layer.ExpressionArrow ps t) at c = arrow_at ps t c
faults_at (layer.Expression t) at c = faults t c
faults_at (layer.Directive t) at c = faults t c
faults_at (layer.Var ds) at c = declarations_faults ds c
faults_at (layer.Lexical kind ds) at c = value_faults kind ds ++ declarations_faults ds c
faults_at (layer.FunctionDeclaration called ps ts) at c = function_at false called ps ts c
faults_at (layer.Block ts) at c = block_at ts c
faults_at (layer.If r s t) at c = faults r c ++ (faults s c ++ faults_if_there t c)
faults_at (layer.Do s r) at c = faults s (in_loop c) ++ faults r c
faults_at (layer.While r s) at c = faults r c ++ faults s (in_loop c)
faults_at (layer.For a r b s) at c =
    faults_if_there a c ++ (faults_if_there r c ++ (faults_if_there b c ++ loop_body_at (names_of_first a) s c))
faults_at (layer.ForIn h a s) at c = for_each_at h a s c
faults_at (layer.ForInTarget t a s) at c = for_each_target_at t a s c
faults_at (layer.ForOf h a s) at c = for_each_at h a s c
faults_at (layer.ForOfTarget t a s) at c = for_each_target_at t a s c
faults_at (layer.Continue label) at c = continue_faults c label at
faults_at (layer.Break label) at c = break_faults c label at
faults_at (layer.Return t) at c = return_faults c at ++ faults_if_there t c
faults_at (layer.Throw t) at c = faults t c
faults_at (layer.Switch t cs) at c = faults t c ++ switch_at cs c
faults_at (layer.Try s p h f) at c = faults s c ++ (catch_at p h c ++ faults_if_there f c)
faults_at (layer.Labelled label s) at c = labelled_at label s at c
faults_at (layer.Import first others called) at c = bindings_faults c.strict (import_names first others) ++ unpaired_imports others
faults_at (layer.ExportAll outer called) at c = unpaired_if_there outer
faults_at (layer.ExportNames ns called) at c = names_faults c.strict ns called
faults_at (layer.Export t) at c = faults t c
faults_at (layer.ExportDefault t) at c = faults t c
faults_at l at c = []

abbrev pub node_faults : Node → ℕ → Context → List ℕ
node_faults n at c = faults_at (out-Node n) at c

-- ---- scripts and modules

abbrev pub script_at : Bool → List Tree → List ℕ
script_at strict items = all_faults items (around_items strict) ++ scope_faults (top_names items) (top_vars items)

abbrev pub module_at : List Tree → List ℕ
module_at items = all_faults items (around_items true) ++ (scope_faults (module_names items) (all_vars items) ++ export_faults items)
