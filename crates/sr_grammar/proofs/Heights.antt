-- What is read is no deeper than is allowed.
use Rattle.std.proofs.Common.{◌≡◌, ℕ, zero, suc, ◌+◌, ◌≤◌, max, Bool, true, false, List, [], ◌∷◌, ◌++◌, Option, None, Some, refl, arith, if◌then◌else◌}
use Rattle.sr_ast.specs.declared.operators.AssignOp.{AssignOp}
use Rattle.sr_ast.specs.declared.operators.UnaryOp.{UnaryOp}
use Rattle.sr_ast.specs.declared.operators.UpdateOp.{UpdateOp}
use Rattle.sr_ast.specs.declared.operators.Link.{Link}
use Rattle.sr_ast.specs.declared.operators.Link.TheVariants as link
use Rattle.sr_ast.specs.declared.binding.Parameters.{Parameters}
use Rattle.sr_ast.specs.declared.tree.Node.TheVariants as node
use Rattle.sr_ast.specs.declared.tree.Declaration.{Declaration, roll-Declaration}
use Rattle.sr_syntax.specs.declared.sorts.Sort.{Sort}
use Rattle.sr_syntax.specs.declared.sorts.Sort.TheVariants as k
use Rattle.sr_syntax.specs.declared.sorts.Lexeme.{Lexeme}
use Rattle.sr_syntax.specs.declared.grown.Grown.{Grown}
use Rattle.sr_syntax.specs.declared.grown.Goal.{Goal}
use Rattle.sr_syntax.specs.declared.grown.Goal.TheVariants as goal
use Rattle.sr_syntax.specs.declared.operators.PartSort.{PartSort}
use Rattle.sr_syntax.specs.declared.operators.PartSort.TheVariants as part
use Rattle.sr_syntax.specs.Sorts.{same_sort}
use Rattle.sr_syntax.specs.Input.{Input, Parser, take_token, take_text, take_number, eat, expect, sort, place, left, max_depth}
use Rattle.sr_syntax.specs.Operators.{prefix, is_prefix, update_before, bit_or_row, and_row, or_row, coalesce_row, is_in, is_target, is_bare_new, assigns, steps, part_sort, from_of, gives_name, link_in, tallest, one_piece, none, with, name, property_name, plain_template, member, joined, row_from, row_of, assign_goal}
use Rattle.sr_syntax.specs.Bodies.{binding_if_there, parameter_list, items, body, function_of, function_, begins_arrow, arrow_parameters, arrow_token, arrow_body, arrow_end, arrow}
use Rattle.sr_syntax.specs.Objects.{properties, object}
use Rattle.sr_syntax.specs.Expressions.{sequence, expression, parenthesized, elements, array, pieces, template, primary_by, primary, arguments, index, call, optional_by, optional, part_by, parts_from, parts, left_side, constructor, constructed, new_, stepped, step_by, step_after, update_by, update, unary_by, unary_, raised, power, binary_, either, short_circuit, otherwise, chosen, cond_, assign_by, assign_or_cond, assign}
use Rattle.sr_syntax.specs.Declarations.{declaration, declarations_from, declarations_behind, declarations}
use Rattle.sr_syntax.specs.Declarations as declaring
use Rattle.sr_syntax.specs.Grammar.{tree}
use Rattle.sr_grammar.specs.Reading.{end_after, EndsThere}
use Rattle.sr_grammar.proofs.Steps.{inp, done}
use Rattle.sr_grammar.proofs.Yields.{Yields, Low, yields_pure, yields_none, yields_bind, yields_behind, yields_if, yields_whole}

-- what is open while an expression is read reads no deeper trees
record NestLow (nest : Goal → Parser Grown) : Type 0 where
  with_in : Yields (nest goal.Assign) Low
  without_in : Yields (nest goal.AssignWithoutIn) Low
  power : Yields (nest goal.Power) Low
  unary : Yields (nest goal.Unary) Low
  new : Yields (nest goal.New) Low

joined_low : (s : Sort) (x y : Grown) → Yields (joined s x y) Low
unfolding joined
joined_low s x y = yields_whole _ _ _

rows_from_low : (b : Bool) (operand : Parser Grown) (level m : ℕ) (x : Grown) → Low x → Yields (row_from b operand level m x) Low
unfolding row_from
rows_from_low b operand level zero x low = yields_pure Low low
rows_from_low b operand level (suc m) x low = record {
  yields = λ i. (yields_if (is_in b level (sort i))
      (yields_behind take_token (λ u. yields_behind operand (λ y. yields_bind (joined_low (sort i) x y) (λ both h. rows_from_low b operand level m both h)))) (yields_pure Low low)).yields i;
}

rows_low : (b : Bool) (operand : Parser Grown) (level : ℕ) (x : Grown) → Low x → Yields (row_of b operand level x) Low
unfolding row_of
rows_low b operand level x low = record { yields = λ i. (rows_from_low b operand level (left i) x low).yields i }

module _ (nest : Goal → Parser Grown) (n : NestLow nest) where
  assigns_low : (b : Bool) → Yields (nest (assign_goal b)) Low
  assigns_low true = n.with_in
  assigns_low false = n.without_in

  expressions_low : (b : Bool) → Yields (expression nest b) Low
  unfolding expression
  expressions_low b = yields_bind (assigns_low b) (λ first low. record { yields = λ i. (yields_if (same_sort (sort i) k.Comma) (yields_behind (sequence nest b (with none first)) (λ all. yields_whole _ _ _)) (yields_pure Low low)).yields i })

  -- ---- primaries

  functions_low : (from : ℕ) → Yields (function_ nest from) Low
  unfolding function_ function_of
  functions_low from = yields_behind binding_if_there (λ called. yields_behind parameter_list (λ ps. yields_behind (body nest) (λ all. yields_whole _ _ _)))

  parenthesized_low : Yields (parenthesized nest) Low
  unfolding parenthesized
  parenthesized_low = yields_bind (expressions_low true) (λ inner low. yields_behind (expect k.RightParenthesis) (λ u. yields_pure Low low))

  template_low : (from : ℕ) (text : List ℕ) → Yields (template nest from text) Low
  unfolding template
  template_low from text = yields_behind (pieces nest text) (λ all. yields_whole _ _ _)

  array_low : (from : ℕ) → Yields (array nest from) Low
  unfolding array
  array_low from = yields_behind (elements nest) (λ all. yields_whole _ _ _)

  object_low : (from : ℕ) → Yields (object nest from) Low
  unfolding object
  object_low from = yields_behind (properties nest) (λ all. yields_whole _ _ _)

  primary_by_low : (from : ℕ) (s : Sort) → Yields (primary_by nest from s) Low
  unfolding plain_template
  primary_by_low from k.This = yields_behind take_token (λ u. yields_whole node.This from 0)
  primary_by_low from k.Identifier = yields_behind take_text (λ called. yields_whole (node.Name called) from 0)
  primary_by_low from k.Null = yields_behind take_token (λ u. yields_whole node.Null from 0)
  primary_by_low from k.True = yields_behind take_token (λ u. yields_whole (node.Bool true) from 0)
  primary_by_low from k.False = yields_behind take_token (λ u. yields_whole (node.Bool false) from 0)
  primary_by_low from k.Number = yields_behind take_number (λ value. yields_whole (node.Num value) from 0)
  primary_by_low from k.Text = yields_behind take_text (λ value. yields_whole (node.Text value) from 0)
  primary_by_low from k.TemplateWhole = yields_behind take_text (λ text. yields_whole (node.Template (one_piece text).texts (one_piece text).trees) from 0)
  primary_by_low from k.TemplateHead = yields_behind take_text (λ text. template_low from text)
  primary_by_low from k.LeftBracket = yields_behind take_token (λ u. array_low from)
  primary_by_low from k.LeftBrace = yields_behind take_token (λ u. object_low from)
  primary_by_low from k.Function = yields_behind take_token (λ u. functions_low from)
  primary_by_low from k.LeftParenthesis = yields_behind take_token (λ u. parenthesized_low)
  primary_by_low from _ = yields_none Low

  primaries_low : Yields (primary nest) Low
  unfolding primary
  primaries_low = record { yields = λ i. (primary_by_low (place i) (sort i)).yields i }

  -- ---- parts

  member_low : (l : Link) (of : Grown) → Yields (member l of) Low
  unfolding member
  member_low l of = yields_behind property_name (λ called. yields_whole _ _ _)

  index_low : (l : Link) (of : Grown) → Yields (index nest l of) Low
  unfolding index
  index_low l of = yields_behind (expression nest true) (λ x. yields_behind (expect k.RightBracket) (λ u. yields_whole _ _ _))

  call_low : (l : Link) (of : Grown) → Yields (call nest l of) Low
  unfolding call
  call_low l of = yields_behind (arguments nest) (λ all. yields_whole _ _ _)

  optional_by_low : (of : Grown) (s : Sort) → Yields (optional_by nest of s) Low
  optional_by_low of k.LeftBracket = yields_behind take_token (λ u. index_low link.Optional of)
  optional_by_low of k.LeftParenthesis = yields_behind take_token (λ u. call_low link.Optional of)
  optional_by_low of _ = member_low link.Optional of

  optional_low : (of : Grown) → Yields (optional nest of) Low
  unfolding optional
  optional_low of = record { yields = λ i. (optional_by_low of (sort i)).yields i }

  part_by_low : (more : Bool → Grown → Parser Grown) → ((c : Bool) (x : Grown) → Low x → Yields (more c x) Low) → (c : Bool) (of : Grown) (s : PartSort) → Low of → Yields (part_by nest more c of s) Low
  part_by_low more h c of part.Member low = yields_bind (yields_behind take_token (λ u. member_low (link_in c) of)) (λ x l. h c x l)
  part_by_low more h c of part.Index low = yields_bind (yields_behind take_token (λ u. index_low (link_in c) of)) (λ x l. h c x l)
  part_by_low more h c of part.Call low = yields_bind (yields_behind take_token (λ u. call_low (link_in c) of)) (λ x l. h c x l)
  part_by_low more h c of part.Optional low = yields_bind (yields_behind take_token (λ u. optional_low of)) (λ x l. h true x l)
  part_by_low more h c of part.None low = yields_pure Low low

  parts_from_low : (o : Bool) (m : ℕ) (c : Bool) (of : Grown) → Low of → Yields (parts_from nest o m c of) Low
  unfolding parts_from
  parts_from_low o zero c of low = yields_pure Low low
  parts_from_low o (suc m) c of low = record { yields = λ i. (part_by_low (parts_from nest o m) (λ c x l. parts_from_low o m c x l) c of (part_sort o (sort i)) low).yields i }

  parts_low : (o : Bool) (of : Grown) → Low of → Yields (parts nest o of) Low
  unfolding parts
  parts_low o of low = record { yields = λ i. (parts_from_low o (left i) false of low).yields i }

  left_low : (o : Bool) → Yields (left_side nest o) Low
  unfolding left_side
  left_low o = record { yields = λ i. (yields_if (same_sort (sort i) k.New) (yields_bind n.new (λ x l. yields_if (is_bare_new x) (yields_pure Low l) (parts_low o x l))) (yields_bind primaries_low (λ x l. parts_low o x l))).yields i }

  constructed_low : (from : ℕ) (of : Grown) → Yields (constructed nest from of) Low
  unfolding constructed
  constructed_low from of = yields_behind (eat k.LeftParenthesis) (λ b. yields_if b
      (yields_behind (arguments nest) (λ all. yields_whole (node.New of.tree (Some all.items)) from (max of.height all.tall))) (yields_whole (node.New of.tree None) from of.height))

  news_low : Yields (new_ nest) Low
  unfolding new_
  news_low = record { yields = λ i. (yields_behind (expect k.New) (λ u. yields_behind (constructor nest) (λ of. constructed_low (place i) of))).yields i }

  -- ---- operators

  stepped_low : (from : ℕ) (op : UpdateOp) → Yields (stepped nest from op) Low
  unfolding stepped
  stepped_low from op = yields_behind (left_side nest false) (λ of. yields_if (is_target of) (yields_whole _ _ _) (yields_none Low))

  step_by_low : (of : Grown) (o : Option UpdateOp) → Low of → Yields (step_by nest of o) Low
  step_by_low of (Some op) low = yields_behind take_token (λ u. yields_whole (node.Update op of.tree) (from_of of) of.height)
  step_by_low of None low = yields_pure Low low

  update_by_low : (from : ℕ) (o : Option UpdateOp) → Yields (update_by nest from o) Low
  unfolding step_after
  update_by_low from (Some op) = yields_behind take_token (λ u. stepped_low from op)
  update_by_low from None = yields_bind (left_low true) (λ of low. record { yields = λ i. (step_by_low of (steps of i) low).yields i })

  updates_low : Yields (update nest) Low
  unfolding update
  updates_low = record { yields = λ i. (update_by_low (place i) (update_before (sort i))).yields i }

  unary_by_low : (from : ℕ) (o : Option UnaryOp) → Yields (unary_by nest from o) Low
  unary_by_low from (Some op) = yields_behind take_token (λ u. yields_behind (nest goal.Unary) (λ x. yields_whole (node.Unary op x.tree) from x.height))
  unary_by_low from None = updates_low

  unaries_low : Yields (unary_ nest) Low
  unfolding unary_
  unaries_low = record { yields = λ i. (unary_by_low (place i) (prefix (sort i))).yields i }

  raised_low : (x : Grown) → Low x → Yields (raised nest x) Low
  unfolding raised
  raised_low x low = yields_behind (eat k.Power) (λ b. yields_if b (yields_behind (nest goal.Power) (λ y. joined_low k.Power x y)) (yields_pure {a = x} Low low))

  powers_low : Yields (power nest) Low
  unfolding power
  powers_low = record { yields = λ i. (yields_bind n.unary (λ x l. yields_if (is_prefix (sort i)) (yields_pure Low l) (raised_low x l))).yields i }

  binary_low : (b : Bool) (level : ℕ) → Yields (binary_ nest b level) Low
  unfolding binary_
  binary_low b zero = n.power
  binary_low b (suc level) = yields_bind (binary_low b level) (λ x l. rows_low b (binary_ nest b level) (suc level) x l)

  either_low : (b : Bool) (x : Grown) → Low x → Yields (either nest b x) Low
  unfolding either
  either_low b x low = yields_bind (rows_low b (binary_ nest b bit_or_row) and_row x low) (λ y l. rows_low b (binary_ nest b and_row) or_row y l)

  short_low : (b : Bool) → Yields (short_circuit nest b) Low
  unfolding short_circuit
  short_low b = yields_bind (binary_low b bit_or_row) (λ x l. record { yields = λ i. (yields_if (same_sort (sort i) k.Coalesce) (rows_low b (binary_ nest b bit_or_row) coalesce_row x l) (either_low b x l)).yields i })

  cond_low : (b : Bool) → Yields (cond_ nest b) Low
  unfolding cond_ chosen otherwise
  cond_low b = yields_bind (short_low b) (λ test l. yields_behind (eat k.Question) (λ c. yields_if c
      (yields_behind (nest goal.Assign) (λ one. yields_behind (expect k.Colon) (λ u. yields_behind (nest (assign_goal b)) (λ other. yields_whole (node.Cond test.tree one.tree other.tree) (from_of test) (tallest test.height one.height other.height))))) (yields_pure {a = test} Low l)))

  assign_by_low : (b : Bool) (from : ℕ) (x : Grown) (o : Option AssignOp) → Low x → Yields (assign_by nest b from x o) Low
  assign_by_low b from x (Some op) low = yields_behind take_token (λ u. yields_behind (nest (assign_goal b)) (λ value. yields_whole (node.Assign op x.tree value.tree (gives_name from x)) (from_of x) (max x.height value.height)))
  assign_by_low b from x None low = yields_pure Low low

  assign_or_cond_low : (b : Bool) → Yields (assign_or_cond nest b) Low
  unfolding assign_or_cond
  assign_or_cond_low b = record { yields = λ i. (yields_bind (cond_low b) (λ x l. record { yields = λ j. (assign_by_low b (place i) x (assigns x j) l).yields j })).yields i }

  arrow_end_low : (b : Bool) (from : ℕ) (ps : Parameters) → Yields (arrow_end nest b from ps) Low
  unfolding arrow_end arrow_body
  arrow_end_low b from ps = yields_behind (eat k.LeftBrace) (λ c. yields_if c
      (yields_behind (items nest) (λ all. yields_whole (node.Arrow ps all.trees) from all.tall)) (yields_behind (nest (assign_goal b)) (λ x. yields_whole (node.ExpressionArrow ps x.tree) from x.height)))

  arrow_low : (b : Bool) → Yields (arrow nest b) Low
  unfolding arrow
  arrow_low b = record { yields = λ i. (yields_behind arrow_parameters (λ ps. yields_behind arrow_token (λ u. arrow_end_low b (place i) ps))).yields i }

  assign_yields : (b : Bool) → Yields (assign nest b) Low
  unfolding assign
  assign_yields b = record { yields = λ i j x h. go i j x (begins_arrow i) h }
    where
      go : (i j : Input) (x : Grown) (c : Bool) → (if c then arrow nest b i else assign_or_cond nest b i) ≡ done x j → Low x
      go i j x true h = (arrow_low b).yields i j x h
      go i j x false h = (assign_or_cond_low b).yields i j x h

  -- ---- declarations

  abbrev LowValue : Declaration × ℕ → Type 0
  LowValue x = x.1 ≤ max_depth

  abbrev LowValues : List Declaration × ℕ → Type 0
  LowValues x = x.1 ≤ max_depth

  declared_low : (b : Bool) (from : ℕ) (called : List ℕ) → Yields (declaring.declared nest b from called) LowValue
  unfolding declaring.declared
  declared_low b from called = yields_behind (eat k.Assign) (λ c. yields_if c
      (yields_bind (assigns_low b) (λ x l. yields_pure {a = (roll-Declaration (record { name = called; from = from; value = Some x.tree }), x.height)} LowValue l))
      (yields_pure {a = (roll-Declaration (record { name = called; from = from; value = None }), 0)} LowValue (omega arith)))

  declaration_low : (b : Bool) → Yields (declaration nest b) LowValue
  unfolding declaration
  declaration_low b = record { yields = λ i. (yields_behind name (λ called. declared_low b (place i) called)).yields i }

  declarations_from_low : (b : Bool) (m : ℕ) (found : List Declaration) (tall : ℕ) → tall ≤ max_depth → Yields (declarations_from nest b m found tall) LowValues
  unfolding declarations_from
  declarations_from_low b zero found tall low = yields_none LowValues
  declarations_from_low b (suc m) found tall low = yields_bind (declaration_low b) (λ x l. yields_behind (eat k.Comma) (λ c. yields_if c
      (declarations_from_low b m (found ++ x.0 ∷ []) (max tall x.1) (omega (arith, low, l))) (yields_pure {a = (found ++ x.0 ∷ [], max tall x.1)} LowValues (omega (arith, low, l)))))

  declarations_yield : (b : Bool) → Yields (declarations nest b) LowValues
  unfolding declarations declarations_behind
  declarations_yield b = record { yields = λ i. (declarations_from_low b (left i + 1) [] 0 (omega arith)).yields i }

-- ---- what is open, to any depth

nests_low : (d : ℕ) → NestLow (tree d)
unfolding tree
nests_low zero = record {
  with_in = record { yields = λ i j x h. cc };
  without_in = record { yields = λ i j x h. cc };
  power = record { yields = λ i j x h. cc };
  unary = record { yields = λ i j x h. cc };
  new = record { yields = λ i j x h. cc };
}
nests_low (suc d) = let w = nests_low d in record {
  with_in = assign_yields (tree d) w true;
  without_in = assign_yields (tree d) w false;
  power = powers_low (tree d) w;
  unary = unaries_low (tree d) w;
  new = news_low (tree d) w;
}

-- what ends there is read
ended_low : {A : Type 0} (rule : Parser A) (us ts : List Lexeme) (a : A) (Q : A → Type 0) → Yields rule Q → EndsThere rule us ts a → Q a
ended_low rule us ts a Q y h = y.yields (inp (us ++ ts) 0 0) (inp ts (end_after 0 us) 0) a (h 0 0 ts refl)

pub expression_low : (b : Bool) (d : ℕ) (us ts : List Lexeme) (x : Grown) → EndsThere (expression (tree d) b) us ts x → x.height ≤ max_depth
expression_low b d us ts x h = ended_low (expression (tree d) b) us ts x Low (expressions_low (tree d) (nests_low d) b) h

pub assign_low : (b : Bool) (d : ℕ) (us ts : List Lexeme) (x : Grown) → EndsThere (assign (tree d) b) us ts x → x.height ≤ max_depth
assign_low b d us ts x h = ended_low (assign (tree d) b) us ts x Low (assign_yields (tree d) (nests_low d) b) h

pub declarations_low : (b : Bool) (d : ℕ) (us ts : List Lexeme) (ds : List Declaration) (tall : ℕ) → EndsThere (declarations (tree d) b) us ts (ds, tall) → tall ≤ max_depth
declarations_low b d us ts ds tall h = ended_low (declarations (tree d) b) us ts (ds, tall) (λ x. x.1 ≤ max_depth) (declarations_yield (tree d) (nests_low d) b) h
