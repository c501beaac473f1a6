-- A device of the proof: what a frame of an expression stands for at each stage. At stage 0 it is the row. Nobody who reads the language
-- needs this file.
use Rattle.std.specs.Prelude.{ℕ, zero, suc, List, [], ◌∷◌, ◌++◌, Option, None, Some, map, drop}
use Rattle.sr_ast.specs.declared.tree.Tree.{Tree}
use Rattle.sr_ast.specs.Layer.{Layer, layer_of}
use Rattle.sr_ast.specs.declared.tree.Element.{Element}
use Rattle.sr_ast.specs.declared.tree.Element.TheOpen as layer
use Rattle.sr_ast.specs.declared.operators.Link.{Link}
use Rattle.sr_ast.specs.declared.operators.Link.TheVariants as link
use Rattle.sr_ast.specs.declared.operators.BinaryOp.{BinaryOp}
use Rattle.sr_ast.specs.declared.operators.LogicalOp.{LogicalOp}
use Rattle.sr_ast.specs.declared.operators.AssignOp.{AssignOp}
use Rattle.sr_ast.specs.declared.operators.AssignOp.TheVariants as assign
use Rattle.sr_ast.specs.declared.operators.UnaryOp.{UnaryOp}
use Rattle.sr_ast.specs.declared.operators.UpdateOp.{UpdateOp}
use Rattle.sr_model.specs.Values.{Text, Value, Simple, Null, Truth, Num, Str}
use Rattle.sr_model.specs.Holds.{either}
use Rattle.sr_model.specs.Tasks.{Context}
use Rattle.sr_conv.specs.Operators.{operate_one, step_number}
use Rattle.sr_state.specs.Work.{Steps}
use Rattle.sr_state.specs.Step.{Given, At}
use Rattle.sr_state.specs.Trees.{value_in, give_value, throw_error, computed, operated, begin, valued, valued_at, kept_at}
use Rattle.sr_expr.specs.Rows.{expression_of, is_built, is_prefix_built, between, not_built, literal, name, in_order, sequence, chosen, condition, undecided, logical, right_operand, binary, unary, target, stepped, update, put, put_right, plain_assignment, compound, compound_assignment, unless_decided, logical_assignment, arguments, call}

module _ (at : ℕ) where
  abbrev pub not_built_at : At
  not_built_at s zero kept g = not_built s at
  not_built_at s (suc n) kept g = throw_error

  abbrev pub literal_at : Value → At
  literal_at v s zero kept g = literal s at v
  literal_at v s (suc n) kept g = throw_error

  abbrev pub name_at : Text → At
  name_at x s zero kept g = name s at x
  name_at x s (suc n) kept g = throw_error

  -- at stage n + 1 the n-th expression is under way
  abbrev pub in_order_at : Context → Given → List Tree → Steps
  in_order_at s g [] = throw_error
  in_order_at s g (t ∷ ts) = valued_at s g t (λ v. in_order s ts v)

  abbrev pub sequence_at : List Tree → At
  sequence_at ts s zero kept g = sequence s at ts
  sequence_at ts s (suc n) kept g = in_order_at s g (drop n ts)

  abbrev pub condition_at : Tree → Tree → Tree → At
  condition_at c a b s zero kept g = condition s at c a b
  condition_at c a b s (suc n) kept g = valued_at s g c (chosen s a b)

  abbrev pub logical_at : LogicalOp → Tree → Tree → At
  logical_at op a b s zero kept g = logical s at op a b
  logical_at op a b s (suc n) kept g = valued_at s g a (undecided s op b)

  -- at the left operand, at the right one, and where a string that was joined is paid
  abbrev pub binary_at : BinaryOp → Tree → Tree → At
  binary_at op a b s zero kept g = binary s at op a b
  binary_at op a b s (suc zero) kept g = valued_at s g a (right_operand s op b)
  binary_at op a b s (suc (suc zero)) kept g = valued_at s g b (between op give_value (value_in kept.value))
  binary_at op a b s (suc (suc (suc n))) kept g = kept_at kept.value give_value

  abbrev pub operator_at : BinaryOp → Tree → Tree → At
  operator_at op a b = either (is_built op) (binary_at op a b) not_built_at

  -- at the operand, and where a string that was made is paid
  abbrev pub unary_at : UnaryOp → Tree → At
  unary_at op a s zero kept g = unary s at op a
  unary_at op a s (suc zero) kept g = valued_at s g a (λ x. operated (operate_one op x) give_value)
  unary_at op a s (suc (suc n)) kept g = kept_at kept.value give_value

  abbrev pub prefix_at : UnaryOp → Tree → At
  prefix_at op a = either (is_prefix_built op) (unary_at op a) not_built_at

  abbrev pub update_at : UpdateOp → Tree → At
  update_at op t s zero kept g = update s at op t
  update_at op t s (suc n) kept g = target s t (stepped s op t)

  -- at the charge of the target, and at the right side
  abbrev pub plain_at : Tree → Tree → At
  plain_at t b s zero kept g = plain_assignment s at t b
  plain_at t b s (suc zero) kept g = target s t (put_right s t b)
  plain_at t b s (suc (suc n)) kept g = valued_at s g b (put s t kept.base)

  -- at the target, at the right side, and where a string that was joined is paid
  abbrev pub compound_at : BinaryOp → Tree → Tree → At
  compound_at op t b s zero kept g = compound_assignment s at op t b
  compound_at op t b s (suc zero) kept g = target s t (compound s op t b)
  compound_at op t b s (suc (suc zero)) kept g = valued_at s g b (between op (put s t kept.base) (value_in kept.value))
  compound_at op t b s (suc (suc (suc n))) kept g = kept_at kept.value (put s t kept.base)

  -- at the target, and at the right side
  abbrev pub logical_assignment_at : LogicalOp → Tree → Tree → At
  logical_assignment_at op t b s zero kept g = logical_assignment s at op t b
  logical_assignment_at op t b s (suc zero) kept g = target s t (unless_decided s op t b)
  logical_assignment_at op t b s (suc (suc n)) kept g = valued_at s g b (put s t kept.base)

  abbrev pub assignment_at : AssignOp → Tree → Tree → At
  assignment_at assign.Plain t b = plain_at t b
  assignment_at (assign.Compound op) t b = compound_at op t b
  assignment_at (assign.Logical op) t b = logical_assignment_at op t b

  -- the arguments that are left, of which the first is under way
  abbrev pub argument_at : Context → Given → Option Tree → List (Option Tree) → List Value → Steps
  argument_at s g None ts vs = throw_error
  argument_at s g (Some t) ts vs = valued_at s g t (λ v. arguments s ts (vs ++ v ∷ []))

  abbrev pub arguments_at : Context → Given → List Element → List Value → Steps
  arguments_at s g [] vs = throw_error
  arguments_at s g (x ∷ xs) vs = argument_at s g (expression_of x) (map expression_of xs) vs

  -- at the charge of the callee, and at stage n + 2 at the n-th argument
  abbrev pub call_at : Tree → List Element → At
  call_at callee xs s zero kept g = call s at callee (map expression_of xs)
  call_at callee xs s (suc zero) kept g = begin s callee.from (arguments s (map expression_of xs) [])
  call_at callee xs s (suc (suc n)) kept g = arguments_at s g (drop n xs) kept.list

  abbrev pub linked_at : Link → Tree → List Element → At
  linked_at link.Plain callee xs = call_at callee xs
  linked_at l callee xs = not_built_at

  -- by kind
  abbrev pub layer_at : Layer → At
  layer_at (layer.Sequence ts) = sequence_at ts
  layer_at (layer.Assign op t b named) = assignment_at op t b
  layer_at (layer.Cond c a b) = condition_at c a b
  layer_at (layer.Logical op a b) = logical_at op a b
  layer_at (layer.Binary op a b) = operator_at op a b
  layer_at (layer.Unary op a) = prefix_at op a
  layer_at (layer.Update op t) = update_at op t
  layer_at (layer.Call l callee xs) = linked_at l callee xs
  layer_at (layer.Name x) = name_at x
  layer_at layer.Null = literal_at (Simple Null)
  layer_at (layer.Bool b) = literal_at (Simple (Truth b))
  layer_at (layer.Num n) = literal_at (Simple (Num n))
  layer_at (layer.Text text) = literal_at (Simple (Str text))
  layer_at l = not_built_at

abbrev pub expression_at : Tree → At
expression_at t = layer_at t.from (layer_of t)
