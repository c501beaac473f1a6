-- The rows of the expressions (ECMA-262 13): what the evaluation of each does, step by step, with its charge.
use Rattle.std.specs.Prelude.{ℕ, Bool, true, false, not, List, [], ◌∷◌, ◌++◌, Option, None, Some, map}
use Rattle.sr_ast.specs.declared.tree.Tree.{Tree}
use Rattle.sr_ast.specs.declared.tree.Case.{Case}
use Rattle.sr_ast.specs.declared.tree.Declaration.{Declaration}
use Rattle.sr_ast.specs.declared.tree.Element.{Element, Element-F, out-Element}
use Rattle.sr_ast.specs.declared.tree.Element.TheOpen as layer
use Rattle.sr_ast.specs.declared.tree.Node.{Node}
use Rattle.sr_ast.specs.declared.tree.Property.{Property}
use Rattle.sr_ast.specs.Layer.{Layer, layer_of}
use Rattle.sr_ast.specs.declared.operators.Link.{Link}
use Rattle.sr_ast.specs.declared.operators.Link.TheVariants as link
use Rattle.sr_ast.specs.declared.operators.BinaryOp.{BinaryOp}
use Rattle.sr_ast.specs.declared.operators.BinaryOp.TheVariants as binary_op
use Rattle.sr_ast.specs.declared.operators.LogicalOp.{LogicalOp}
use Rattle.sr_ast.specs.declared.operators.LogicalOp.TheVariants as logical_op
use Rattle.sr_ast.specs.declared.operators.AssignOp.{AssignOp}
use Rattle.sr_ast.specs.declared.operators.AssignOp.TheVariants as assign
use Rattle.sr_ast.specs.declared.operators.UnaryOp.{UnaryOp}
use Rattle.sr_ast.specs.declared.operators.UnaryOp.TheVariants as unary_op
use Rattle.sr_ast.specs.declared.operators.UpdateOp.{UpdateOp}
use Rattle.sr_model.specs.Values.{Text, Value, Simple, Undefined, Null, Truth, Num, Str}
use Rattle.sr_model.specs.Tasks.{Context, Run, Perform}
use Rattle.sr_model.specs.Scripts.{Become}
use Rattle.sr_model.specs.Holds.{either}
use Rattle.sr_model.specs.Names.{Base}
use Rattle.sr_conv.specs.Conversions.{to_boolean}
use Rattle.sr_conv.specs.Operators.{operate, operate_one, step_number, shown, Stepped}
use Rattle.sr_intrin.specs.declared.names.BuiltIn.TheVariants as built_in
use Rattle.sr_state.specs.Errors.{based, value_there, name_value, put_there}
use Rattle.sr_state.specs.Work.{Steps}
use Rattle.sr_state.specs.Trees.{give_value, throw_error, computed, operated, begin, valued}

-- 13.13: whether the left operand decides
abbrev pub is_nullish : Value → Bool
is_nullish (Simple Undefined) = true
is_nullish (Simple Null) = true
is_nullish v = false

abbrev pub decides : LogicalOp → Value → Bool
decides logical_op.And v = not (to_boolean v)
decides logical_op.Or v = to_boolean v
decides logical_op.Coalesce v = not (is_nullish v)

-- the name of a target
abbrev pub target_name : Layer → Text
target_name (layer.Name x) = x
target_name l = []

abbrev pub name_in : Tree → Text
name_in t = target_name (layer_of t)

-- 13.3.8: the expression of an argument. An argument after `...` is not built
abbrev pub expression_in : Element-F Element Node Property Case Declaration Tree → Option Tree
expression_in (layer.Value t) = Some t
expression_in x = None

abbrev pub expression_of : Element → Option Tree
expression_of x = expression_in (out-Element x)

-- 13.10: `in` and `instanceof` ask for the properties and methods of an object, and are not built
abbrev pub is_built : BinaryOp → Bool
is_built binary_op.InstanceOf = false
is_built binary_op.In = false
is_built op = true

-- 13.5.1: `delete` takes a property away, and is not built
abbrev pub is_prefix_built : UnaryOp → Bool
is_prefix_built unary_op.Delete = false
is_prefix_built op = true

-- 13.15.3: the operator between two values, and then k
abbrev pub between : BinaryOp → (Value → Steps) → Value → Value → Steps
between op k x y = operated (operate op x y) k

module _ (c : Context) where
  -- a tree that is not built: after its charge an error is thrown. No script that is accepted has one
  abbrev pub not_built : ℕ → Steps
  not_built at = begin c at throw_error

  -- 13.2.3: a literal
  abbrev pub literal : ℕ → Value → Steps
  literal at v = begin c at (give_value v)

  -- 13.1.3: the value of a name, or a ReferenceError
  abbrev pub name : ℕ → Text → Steps
  name at x = begin c at (name_value c x give_value)

  -- 13.15.2: the target of an assignment, a name, which pays its own charge; and then k by where it is bound
  abbrev pub target : Tree → (Base → Steps) → Steps
  target t k = begin c t.from (based c (name_in t) k)

  -- and with its old value
  abbrev pub old_value : Tree → (Value → Steps) → Base → Steps
  old_value t k b = value_there c b (name_in t) k

  -- the target is given a value, and the expression ends with a value (6.2.5.6 PutValue)
  abbrev pub put_and_give : Tree → Base → Value → Value → Steps
  put_and_give t b v given = put_there c b (name_in t) v (give_value given)

  abbrev pub put : Tree → Base → Value → Steps
  put t b v = put_and_give t b v v

  -- 13.16: expressions in order; the last one gives the value
  abbrev pub in_order : List Tree → Value → Steps
  in_order [] v = give_value v
  in_order (t ∷ ts) v = valued c t (λ w. in_order ts w)

  abbrev pub sequence : ℕ → List Tree → Steps
  sequence at ts = begin c at (in_order ts (Simple Undefined))

  -- 13.14: the condition, and then one of the two
  abbrev pub chosen : Tree → Tree → Value → Steps
  chosen a b x = either (to_boolean x) (Become (Run c a)) (Become (Run c b))

  abbrev pub condition : ℕ → Tree → Tree → Tree → Steps
  condition at test a b = begin c at (valued c test (chosen a b))

  -- 13.13: the left operand, and where it does not decide the right one
  abbrev pub undecided : LogicalOp → Tree → Value → Steps
  undecided op b x = either (decides op x) (give_value x) (Become (Run c b))

  abbrev pub logical : ℕ → LogicalOp → Tree → Tree → Steps
  logical at op a b = begin c at (valued c a (undecided op b))

  -- 13.15.4: both operands from left to right, and the operator
  abbrev pub right_operand : BinaryOp → Tree → Value → Steps
  right_operand op b x = valued c b (between op give_value x)

  abbrev pub binary : ℕ → BinaryOp → Tree → Tree → Steps
  binary at op a b = begin c at (valued c a (right_operand op b))

  abbrev pub operator : ℕ → BinaryOp → Tree → Tree → Steps
  operator at op a b = either (is_built op) (binary at op a b) (not_built at)

  -- 13.5: the operand, and the operator
  abbrev pub unary : ℕ → UnaryOp → Tree → Steps
  unary at op a = begin c at (valued c a (λ x. operated (operate_one op x) give_value))

  abbrev pub prefix : ℕ → UnaryOp → Tree → Steps
  prefix at op a = either (is_prefix_built op) (unary at op a) (not_built at)

  -- 13.4: the old value of the target is made a number, and the new one is given to the target
  abbrev pub stored : UpdateOp → Tree → Base → Stepped → Steps
  stored op t b n = put_and_give t b (Simple (Num n.after)) (Simple (Num (shown op n.before n.after)))

  abbrev pub stepped : UpdateOp → Tree → Base → Steps
  stepped op t b = old_value t (λ v. computed (step_number op v) (stored op t b)) b

  abbrev pub update : ℕ → UpdateOp → Tree → Steps
  update at op t = begin c at (target t (stepped op t))

  -- 13.15.2: `=`. The old value is not read
  abbrev pub put_right : Tree → Tree → Base → Steps
  put_right t right b = valued c right (put t b)

  abbrev pub plain_assignment : ℕ → Tree → Tree → Steps
  plain_assignment at t right = begin c at (target t (put_right t right))

  -- 13.15.2: an operator and `=`. The old value, the right side, and the operator
  abbrev pub operated_right : BinaryOp → Tree → Tree → Base → Value → Steps
  operated_right op t right b x = valued c right (between op (put t b) x)

  abbrev pub compound : BinaryOp → Tree → Tree → Base → Steps
  compound op t right b = old_value t (operated_right op t right b) b

  abbrev pub compound_assignment : ℕ → BinaryOp → Tree → Tree → Steps
  compound_assignment at op t right = begin c at (target t (compound op t right))

  -- 13.15.2: a logical operator and `=`. The old value, and where it does not decide the right side
  abbrev pub put_undecided : LogicalOp → Tree → Tree → Base → Value → Steps
  put_undecided op t right b x = either (decides op x) (give_value x) (put_right t right b)

  abbrev pub unless_decided : LogicalOp → Tree → Tree → Base → Steps
  unless_decided op t right b = old_value t (put_undecided op t right b) b

  abbrev pub logical_assignment : ℕ → LogicalOp → Tree → Tree → Steps
  logical_assignment at op t right = begin c at (target t (unless_decided op t right))

  abbrev pub assignment : ℕ → AssignOp → Tree → Tree → Steps
  assignment at assign.Plain t b = plain_assignment at t b
  assignment at (assign.Compound op) t b = compound_assignment at op t b
  assignment at (assign.Logical op) t b = logical_assignment at op t b

  -- 13.3.6: the arguments from left to right, and the call
  abbrev pub called : List Value → Steps
  called vs = Become (Perform built_in.Print (Simple Undefined) vs None)

  abbrev pub arguments : List (Option Tree) → List Value → Steps
  arguments [] vs = called vs
  arguments (None ∷ ts) vs = throw_error
  arguments (Some t ∷ ts) vs = valued c t (λ v. arguments ts (vs ++ v ∷ []))

  -- 13.3.6: the callee, which is `print` and pays its own charge, the arguments, and the call
  abbrev pub call : ℕ → Tree → List (Option Tree) → Steps
  call at callee ts = begin c at (begin c callee.from (arguments ts []))

  -- 13.3.9: optional chains are not built
  abbrev pub linked : ℕ → Link → Tree → List (Option Tree) → Steps
  linked at link.Plain callee ts = call at callee ts
  linked at link.Optional callee ts = not_built at
  linked at link.Chained callee ts = not_built at

  -- the table of the expressions, by kind. What is no expression has no row here, and counts as not built
  abbrev pub expression : ℕ → Layer → Steps
  expression at (layer.Sequence ts) = sequence at ts
  expression at (layer.Assign op t b named) = assignment at op t b
  expression at (layer.Cond c a b) = condition at c a b
  expression at (layer.Logical op a b) = logical at op a b
  expression at (layer.Binary op a b) = operator at op a b
  expression at (layer.Unary op a) = prefix at op a
  expression at (layer.Update op t) = update at op t
  expression at (layer.Call l callee xs) = linked at l callee (map expression_of xs)
  expression at (layer.Name x) = name at x
  expression at layer.Null = literal at (Simple Null)
  expression at (layer.Bool b) = literal at (Simple (Truth b))
  expression at (layer.Num n) = literal at (Simple (Num n))
  expression at (layer.Text text) = literal at (Simple (Str text))
  expression at l = not_built at
