-- Bodies, functions and object literals are read alike where the rules below them are.
use Rattle.std.proofs.Common.{◌≡◌, ℕ, zero, suc, max, Bool, true, List, [], ◌∷◌, Option, None, Some, refl, not, ◌&&◌, ◌||◌}
use Rattle.sr_ast.specs.declared.binding.Binding.{Binding}
use Rattle.sr_ast.specs.declared.binding.Parameters.{Parameters}
use Rattle.sr_ast.specs.declared.binding.HeadKind.TheVariants as head
use Rattle.sr_ast.specs.declared.binding.PropertyName.{PropertyName}
use Rattle.sr_ast.specs.declared.binding.PropertyName.TheVariants as property_name
use Rattle.sr_ast.specs.declared.tree.Node.TheVariants as node
use Rattle.sr_ast.specs.declared.tree.Property.TheVariants as property
use Rattle.sr_syntax.specs.declared.sorts.Sort.{Sort}
use Rattle.sr_syntax.specs.declared.sorts.Sort.TheVariants as k
use Rattle.sr_syntax.specs.declared.grown.Accessor.{Accessor}
use Rattle.sr_syntax.specs.declared.grown.Accessor.TheVariants as accessor
use Rattle.sr_syntax.specs.declared.grown.Goal.{Goal}
use Rattle.sr_syntax.specs.declared.grown.Goal.TheVariants as goal
use Rattle.sr_syntax.specs.declared.grown.Grown.{Grown}
use Rattle.sr_syntax.specs.declared.grown.Grove.{Grove}
use Rattle.sr_syntax.specs.declared.grown.OpenFunction.{OpenFunction}
use Rattle.sr_syntax.specs.declared.grown.Properties.{Properties}
use Rattle.sr_syntax.specs.Sorts.{same_sort}
use Rattle.sr_syntax.specs.Input.{Parser, sort, sees, sees_word, sees_text}
use Rattle.sr_syntax.specs.Operators.{none, with}
use Rattle.sr_syntax.specs.Bodies.{opened, closed, ended, items_by, items_from, items, body, block, function_of, function_, declared_function, function_declaration, arrow_body, arrow_end, arrow}
use Rattle.sr_syntax.specs.Objects.{is_proto, no_properties, with_property, sees_key, accessor_word, value_of_key, method, keyed, named_property, computed_value, computed_method, computed_end, computed, getter, setter, accessor_of, accessor_or_name, spread_property, plain_by, plain_property, property_by, one_property, properties_from, properties, object}
use Rattle.sr_grammar.proofs.Steps.{inp}
use Rattle.sr_grammar.proofs.Alike.{Level, Front, Takes, Plain, level_of, level_then, front_then, end_then, level_pure, takes_refuse, level_turns, level_if, level_choose, front_look, end_look, front_peek, end_peek, takes_by_first, takes_here, front_here, plain_sees, level_eat, level_expect, level_token, front_token, level_complete}
use Rattle.sr_grammar.proofs.AlikeDeclarations.{Rules, level_declared_by}
use Rattle.sr_grammar.proofs.AlikeNames.{front_text, level_binding, level_binding_if_there, level_parameter_list, level_no_parameters, level_one_parameter, level_arrow_token, takes_arrow_parameters, takes_key, level_shorthand}

plain_colon : (b : Bool) → Plain (λ i. sees k.Colon i && b)
unfolding sees sort
plain_colon b ts l m n o = refl

plain_named : Plain (λ i. sees k.LeftParenthesis i || sees k.Colon i)
unfolding sees sort
plain_named ts l m n o = refl

plain_key : Plain sees_key
unfolding sees_key sees sees_word sort
plain_key ts l m n o = refl

plain_accessor : Plain accessor_word
unfolding accessor_word sees_text
plain_accessor ts l m n o = refl

no_accessor : (l n : ℕ) → accessor_word (inp [] l n) ≡ None
unfolding accessor_word sees_text same_sort
no_accessor l n = refl

module _ (less more : Goal → Parser Grown) (rules : Rules less more) where
  level_assign : Level (less goal.Assign) (more goal.Assign)
  level_assign = level_of (rules.assign true)

  -- ---- bodies

  level_ended : {f g : List OpenFunction → Grove → Parser Grove} → ((outer : List OpenFunction) (found : Grove) → Level (f outer found) (g outer found)) → (outer : List OpenFunction) (found : Grove)
      → Level (ended less f outer found) (ended more g outer found)
  unfolding closed
  level_ended h [] found = level_pure found
  level_ended h (f ∷ outer) found = level_then (level_then (level_complete (node.FunctionDeclaration (Some f.name) f.parameters found.trees) f.from found.tall) (λ x. level_pure (with f.before x))) (λ all. h outer all)

  level_opened : (from : ℕ) (before : Grove) → Level (opened from before) (opened from before)
  unfolding opened
  level_opened from before = level_then level_binding (λ called. level_then level_parameter_list (λ ps. level_then (level_expect k.LeftBrace) (λ u.
      level_pure (record { from = from; name = called; parameters = ps; before = before }))))

  front_items_by : {f g : List OpenFunction → Grove → Parser Grove} → ((outer : List OpenFunction) (found : Grove) → Level (f outer found) (g outer found)) → (outer : List OpenFunction) (found : Grove) (from : ℕ) (s : Sort)
      → Front (items_by less f outer found from s) (items_by more g outer found from s)
  front_items_by h outer found from k.RightBrace = front_then front_token (λ u. level_ended h outer found)
  front_items_by h outer found from k.Function = front_then (front_then front_token (λ u. level_opened from found)) (λ f. h (f ∷ outer) none)
  front_items_by h outer found from k.Let = front_then (front_then front_token (λ u. level_declared_by less more rules head.Let from)) (λ x. h outer (with found x))
  front_items_by h outer found from k.Const = front_then (front_then front_token (λ u. level_declared_by less more rules head.Const from)) (λ x. h outer (with found x))
  front_items_by h outer found from _ = front_then rules.statement.first (λ x. h outer (with found x))

  -- at the end an item would be a statement
  takes_items_from : (m : ℕ) (outer : List OpenFunction) (found : Grove) → Takes (items_from less m outer found) (items_from more m outer found)
  unfolding items_from
  takes_items_from zero outer found = takes_refuse
  takes_items_from (suc m) outer found = takes_by_first (front_items_by (λ outer found. level_of (takes_items_from m outer found)) outer found)
      (λ from to. end_then (λ x. items_from less m outer (with found x)) (λ x. items_from more m outer (with found x)) rules.statement.ended)

  level_items : Level (items less) (items more)
  unfolding items
  level_items = level_turns (λ m. items_from less m [] none) (λ m. items_from more m [] none) (λ m. level_of (takes_items_from m [] none))

  level_body : Level (body less) (body more)
  unfolding body
  level_body = level_then (level_expect k.LeftBrace) (λ u. level_items)

  pub level_block : (from : ℕ) → Level (block less from) (block more from)
  unfolding block
  level_block from = level_then level_items (λ all. level_complete (node.Block all.trees) from all.tall)

  -- ---- functions

  level_function_of : (from : ℕ) (called : Option Binding) → Level (function_of less from called) (function_of more from called)
  unfolding function_of
  level_function_of from called = level_then level_parameter_list (λ ps. level_then level_body (λ all. level_complete (node.Function called ps all.trees) from all.tall))

  pub level_function : (from : ℕ) → Level (function_ less from) (function_ more from)
  unfolding function_
  level_function from = level_then level_binding_if_there (λ called. level_function_of from called)

  level_declared_function : (from : ℕ) (called : Option Binding) → Level (declared_function less from called) (declared_function more from called)
  unfolding declared_function
  level_declared_function from called =
      level_then level_parameter_list (λ ps. level_then level_body (λ all. level_complete (node.FunctionDeclaration called ps all.trees) from all.tall))

  pub level_function_declaration : (from : ℕ) → Level (function_declaration less from) (function_declaration more from)
  unfolding function_declaration
  level_function_declaration from = level_then level_binding (λ x. level_declared_function from (Some x))

  level_arrow_body : (from : ℕ) (ps : Parameters) → Level (arrow_body less from ps) (arrow_body more from ps)
  unfolding arrow_body
  level_arrow_body from ps = level_then level_items (λ all. level_complete (node.Arrow ps all.trees) from all.tall)

  level_arrow_end : (b : Bool) (from : ℕ) (ps : Parameters) → Level (arrow_end less b from ps) (arrow_end more b from ps)
  unfolding arrow_end
  level_arrow_end b from ps = level_then (level_eat k.LeftBrace) (λ braced. level_if braced (level_arrow_body from ps)
      (level_then (level_of (rules.assign b)) (λ x. level_complete (node.ExpressionArrow ps x.tree) from x.height)))

  pub front_arrow : (b : Bool) → Front (arrow less b) (arrow more b)
  unfolding arrow
  front_arrow b = front_here (λ from. front_then takes_arrow_parameters.first (λ ps. level_then level_arrow_token (λ u. level_arrow_end b from ps)))

  -- ---- properties

  level_value_of_key : (called : PropertyName) → Level (value_of_key less called) (value_of_key more called)
  unfolding value_of_key
  level_value_of_key called = level_then level_assign (λ x. level_pure (property.Named called x.tree, x.height))

  level_method : (from : ℕ) (called : PropertyName) → Level (method less from called) (method more from called)
  unfolding method
  level_method from called = level_then level_parameter_list (λ ps. level_then level_body (λ all.
      level_then (level_complete (node.Method called ps all.trees) from all.tall) (λ x. level_pure (property.Method x.tree, x.height))))

  level_keyed : (from : ℕ) (called : PropertyName) → Level (keyed less from called) (keyed more from called)
  unfolding keyed
  level_keyed from called = level_choose (sees k.LeftParenthesis) (plain_sees k.LeftParenthesis) (level_method from called)
      (level_choose (λ i. sees k.Colon i && not (is_proto called)) (plain_colon (not (is_proto called)))
      (level_then level_token (λ u. level_value_of_key called)) (level_of takes_refuse))

  level_named_property : (from : ℕ) (called : List ℕ) → Level (named_property less from called) (named_property more from called)
  unfolding named_property
  level_named_property from called = level_choose (λ i. sees k.LeftParenthesis i || sees k.Colon i) plain_named
      (level_keyed from (property_name.Text called)) (level_shorthand from called)

  level_computed_value : (x : Grown) → Level (computed_value less x) (computed_value more x)
  unfolding computed_value
  level_computed_value x = level_then level_assign (λ y. level_pure (property.Computed x.tree y.tree, max x.height y.height))

  level_computed_method : (from : ℕ) (x : Grown) → Level (computed_method less from x) (computed_method more from x)
  unfolding computed_method
  level_computed_method from x = level_then level_parameter_list (λ ps. level_then level_body (λ all.
      level_then (level_complete (node.ComputedMethod x.tree ps all.trees) from (max x.height all.tall)) (λ y. level_pure (property.Method y.tree, y.height))))

  level_computed_end : (from : ℕ) (x : Grown) → Level (computed_end less from x) (computed_end more from x)
  unfolding computed_end
  level_computed_end from x = level_choose (sees k.LeftParenthesis) (plain_sees k.LeftParenthesis) (level_computed_method from x)
      (level_then (level_expect k.Colon) (λ u. level_computed_value x))

  level_computed : (from : ℕ) → Level (computed less from) (computed more from)
  unfolding computed
  level_computed from = level_then level_assign (λ x. level_then (level_expect k.RightBracket) (λ u. level_computed_end from x))

  level_getter : (from : ℕ) → Level (getter less from) (getter more from)
  unfolding getter
  level_getter from = level_then (level_of takes_key) (λ called. level_then level_no_parameters (λ u. level_then level_body (λ all.
      level_then (level_complete (node.Getter called all.trees) from all.tall) (λ x. level_pure (property.Method x.tree, x.height)))))

  level_setter : (from : ℕ) → Level (setter less from) (setter more from)
  unfolding setter
  level_setter from = level_then (level_of takes_key) (λ called. level_then level_one_parameter (λ p. level_then level_body (λ all.
      level_then (level_complete (node.Setter called p all.trees) from all.tall) (λ x. level_pure (property.Method x.tree, x.height)))))

  level_accessor_of : (from : ℕ) (which : Accessor) → Level (accessor_of less from which) (accessor_of more from which)
  level_accessor_of from accessor.Getter = level_getter from
  level_accessor_of from accessor.Setter = level_setter from

  level_accessor_or_name : (from : ℕ) (which : Accessor) (called : List ℕ) → Level (accessor_or_name less from which called) (accessor_or_name more from which called)
  unfolding accessor_or_name
  level_accessor_or_name from which called = level_choose sees_key plain_key (level_accessor_of from which) (level_named_property from called)

  level_spread_property : Level (spread_property less) (spread_property more)
  unfolding spread_property
  level_spread_property = level_then level_assign (λ x. level_pure (property.Spread x.tree, x.height))

  front_plain_by : (from : ℕ) (s : Sort) → Front (plain_by less from s) (plain_by more from s)
  front_plain_by from k.Ellipsis = front_then front_token (λ u. level_spread_property)
  front_plain_by from k.LeftBracket = front_then front_token (λ u. level_computed from)
  front_plain_by from k.Identifier = front_then front_text (λ called. level_named_property from called)
  front_plain_by from _ = front_then takes_key.first (λ called. level_keyed from called)

  front_plain_property : (from : ℕ) → Front (plain_property less from) (plain_property more from)
  unfolding plain_property
  front_plain_property from = front_peek (λ s. front_plain_by from s)

  front_property_by : (from : ℕ) (which : Option Accessor) → Front (property_by less from which) (property_by more from which)
  front_property_by from (Some which) = front_then front_text (λ called. level_accessor_or_name from which called)
  front_property_by from None = front_plain_property from

  takes_one_property : Takes (one_property less) (one_property more)
  unfolding one_property plain_property
  takes_one_property = takes_here (λ from. front_look accessor_word plain_accessor (λ which. front_property_by from which))
      (λ from to. end_look (property_by less from) (property_by more to) accessor_word None no_accessor
      (end_peek (plain_by less from) (plain_by more to) (end_then (keyed less from) (keyed more to) takes_key.ended)))

  level_properties_from : (m : ℕ) (found : Properties) → Level (properties_from less m found) (properties_from more m found)
  unfolding properties_from
  level_properties_from zero found = level_of takes_refuse
  level_properties_from (suc m) found = level_then (level_eat k.RightBrace) (λ over. level_if over (level_pure found)
      (level_then (level_of takes_one_property) (λ x. level_then (level_eat k.Comma) (λ again. level_if again (level_properties_from m (with_property found x))
      (level_then (level_expect k.RightBrace) (λ u. level_pure (with_property found x)))))))

  level_properties : Level (properties less) (properties more)
  unfolding properties
  level_properties = level_turns (λ m. properties_from less m no_properties) (λ m. properties_from more m no_properties) (λ m. level_properties_from m no_properties)

  pub level_object : (from : ℕ) → Level (object less from) (object more from)
  unfolding object
  level_object from = level_then level_properties (λ all. level_complete (node.Object all.items) from all.tall)
