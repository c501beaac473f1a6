-- Kinds of nodes.
use Rattle.std.specs.Prelude.{Bool, true, false}
use Rattle.sr_ast.specs.declared.tree.Element.TheOpen as layer
use Rattle.sr_ast.specs.declared.tree.Node.{Node, out-Node}
use Rattle.sr_ast.specs.Layer.{Layer}

abbrev pub is_module_item_at : Layer → Bool
is_module_item_at (layer.Import first others called) = true
is_module_item_at (layer.ExportAll outer called) = true
is_module_item_at (layer.ExportNames names called) = true
is_module_item_at (layer.ExportDefault t) = true
is_module_item_at l = false

abbrev pub is_module_item : Node → Bool
is_module_item x = is_module_item_at (out-Node x)

abbrev pub is_operation_at : Layer → Bool
is_operation_at (layer.Sequence a) = true
is_operation_at (layer.Assign a b c d) = true
is_operation_at (layer.Cond a b c) = true
is_operation_at (layer.Logical a b c) = true
is_operation_at (layer.Binary a b c) = true
is_operation_at (layer.Unary a b) = true
is_operation_at (layer.Update a b) = true
is_operation_at l = false

abbrev pub is_operation : Node → Bool
is_operation x = is_operation_at (out-Node x)

abbrev pub is_access_at : Layer → Bool
is_access_at (layer.Member a b c) = true
is_access_at (layer.Index a b c) = true
is_access_at (layer.Call a b c) = true
is_access_at (layer.New a b) = true
is_access_at l = false

abbrev pub is_access : Node → Bool
is_access x = is_access_at (out-Node x)

abbrev pub is_literal_at : Layer → Bool
is_literal_at layer.This = true
is_literal_at (layer.Name a) = true
is_literal_at layer.Null = true
is_literal_at (layer.Bool a) = true
is_literal_at (layer.Num a) = true
is_literal_at (layer.Text a) = true
is_literal_at (layer.Template a b) = true
is_literal_at (layer.Array a) = true
is_literal_at (layer.Object a) = true
is_literal_at l = false

abbrev pub is_literal : Node → Bool
is_literal x = is_literal_at (out-Node x)

abbrev pub is_function_at : Layer → Bool
is_function_at (layer.Node::Method a b c) = true
is_function_at (layer.ComputedMethod a b c) = true
is_function_at (layer.Getter a b) = true
is_function_at (layer.Setter a b c) = true
is_function_at (layer.Function a b c) = true
is_function_at (layer.Arrow a b) = true
is_function_at (layer.ExpressionArrow a b) = true
is_function_at (layer.FunctionDeclaration a b c) = true
is_function_at l = false

abbrev pub is_function : Node → Bool
is_function x = is_function_at (out-Node x)

abbrev pub is_simple_at : Layer → Bool
is_simple_at (layer.Expression a) = true
is_simple_at (layer.Directive a) = true
is_simple_at (layer.Lexical a b) = true
is_simple_at layer.Empty = true
is_simple_at (layer.Continue a) = true
is_simple_at (layer.Break a) = true
is_simple_at (layer.Return a) = true
is_simple_at (layer.Throw a) = true
is_simple_at layer.Debugger = true
is_simple_at l = false

abbrev pub is_simple : Node → Bool
is_simple x = is_simple_at (out-Node x)

abbrev pub is_compound_at : Layer → Bool
is_compound_at (layer.Var a) = true
is_compound_at (layer.Block a) = true
is_compound_at (layer.If a b c) = true
is_compound_at (layer.Switch a b) = true
is_compound_at (layer.Try a b c d) = true
is_compound_at (layer.Labelled a b) = true
is_compound_at (layer.Export a) = true
is_compound_at l = false

abbrev pub is_compound : Node → Bool
is_compound x = is_compound_at (out-Node x)

abbrev pub is_repetition_at : Layer → Bool
is_repetition_at (layer.Do a b) = true
is_repetition_at (layer.While a b) = true
is_repetition_at (layer.For a b c d) = true
is_repetition_at l = false

abbrev pub is_repetition : Node → Bool
is_repetition x = is_repetition_at (out-Node x)

abbrev pub is_iteration_at : Layer → Bool
is_iteration_at (layer.ForIn a b c) = true
is_iteration_at (layer.ForInTarget a b c) = true
is_iteration_at (layer.ForOf a b c) = true
is_iteration_at (layer.ForOfTarget a b c) = true
is_iteration_at l = false

abbrev pub is_iteration : Node → Bool
is_iteration x = is_iteration_at (out-Node x)
