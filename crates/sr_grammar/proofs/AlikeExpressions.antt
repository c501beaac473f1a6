-- Expressions are read alike where the rules below them are.
use Rattle.std.proofs.Common.{◌≡◌, ℕ, zero, suc, max, Bool, true, false, List, [], Option, None, Some, Ok, refl, if◌then◌else◌}
use Rattle.sr_ast.specs.declared.operators.AssignOp.{AssignOp}
use Rattle.sr_ast.specs.declared.operators.UnaryOp.{UnaryOp}
use Rattle.sr_ast.specs.declared.operators.UpdateOp.{UpdateOp}
use Rattle.sr_ast.specs.declared.operators.Link.{Link}
use Rattle.sr_ast.specs.declared.operators.Link.TheVariants as link
use Rattle.sr_ast.specs.declared.tree.Node.TheVariants as node
use Rattle.sr_syntax.specs.declared.sorts.Sort.{Sort}
use Rattle.sr_syntax.specs.declared.sorts.Sort.TheVariants as k
use Rattle.sr_syntax.specs.declared.operators.PartSort.{PartSort}
use Rattle.sr_syntax.specs.declared.operators.PartSort.TheVariants as part
use Rattle.sr_syntax.specs.declared.grown.Elements.{Elements}
use Rattle.sr_syntax.specs.declared.grown.Goal.{Goal}
use Rattle.sr_syntax.specs.declared.grown.Goal.TheVariants as goal
use Rattle.sr_syntax.specs.declared.grown.Grown.{Grown}
use Rattle.sr_syntax.specs.declared.grown.Grove.{Grove}
use Rattle.sr_syntax.specs.declared.grown.Pieces.{Pieces}
use Rattle.sr_syntax.specs.Sorts.{same_sort}
use Rattle.sr_syntax.specs.Input.{Parser, ◌>>=◌, pure, sort, ahead, sees, line_before}
use Rattle.sr_syntax.specs.Operators.{prefix, is_prefix, update_before, bit_or_row, and_row, or_row, coalesce_row, from_of, is_target, gives_name, is_bare_new, link_in, assigns, steps, tallest, none, with, no_elements, with_value, with_spread, with_hole, one_piece, with_piece, part_sort}
use Rattle.sr_syntax.specs.Bodies.{begins_arrow}
use Rattle.sr_syntax.specs.Expressions.{sequence_from, sequence, expression, parenthesized, one_element, array_from, elements, array, piece_by, pieces_from, pieces, template, primary_by, primary, arguments_from, arguments, index, call, optional_by, optional, part_by, parts_from, parts, left_side, member_part_by, member_parts_from, member_parts, constructor, constructed, new_, stepped, step_by, step_after, update_by, update, unary_by, unary_, raised, power, binary_, either, short_circuit, otherwise, chosen, cond_, assign_by, assign_or_cond, assign}
use Rattle.sr_grammar.proofs.Steps.{inp}
use Rattle.sr_grammar.proofs.Alike.{Level, Front, Takes, Plain, level_of, level_then, front_then, end_then, takes_then, level_pure, takes_refuse, level_left, level_turns, level_if, front_if, level_look, takes_choose, front_peek, end_peek, level_peek, takes_here, takes_by_first, level_eat, takes_expect, level_expect, level_token, front_token, level_complete}
use Rattle.sr_grammar.proofs.AlikeNames.{front_text, level_text, front_number, level_joined, level_row_of, front_plain_template, level_member}
use Rattle.sr_grammar.proofs.AlikeDeclarations.{Rules}
use Rattle.sr_grammar.proofs.AlikeBodies.{level_function, front_arrow, level_object}

plain_steps : (x : Grown) → Plain (steps x)
unfolding steps sort line_before
plain_steps x ts l m n o = refl

plain_assigns : (x : Grown) → Plain (assigns x)
unfolding assigns sort
plain_assigns x ts l m n o = refl

plain_arrow : Plain begins_arrow
unfolding begins_arrow sees ahead sort
plain_arrow ts l m n o = refl

no_arrow : (l n : ℕ) → begins_arrow (inp [] l n) ≡ false
unfolding begins_arrow sees ahead sort same_sort
no_arrow l n = refl

module _ (less more : Goal → Parser Grown) (rules : Rules less more) where
  -- ---- sequences

  level_sequence_from : (b : Bool) (m : ℕ) (found : Grove) → Level (sequence_from less b m found) (sequence_from more b m found)
  unfolding sequence_from
  level_sequence_from b zero found = level_pure found
  level_sequence_from b (suc m) found = level_then (level_eat k.Comma) (λ again. level_if again
      (level_then (level_of (rules.assign b)) (λ x. level_sequence_from b m (with found x))) (level_pure found))

  level_sequence : (b : Bool) (found : Grove) → Level (sequence less b found) (sequence more b found)
  unfolding sequence
  level_sequence b found = level_left (λ m. sequence_from less b m found) (λ m. sequence_from more b m found) (λ m. level_sequence_from b m found)

  pub takes_expression : (b : Bool) → Takes (expression less b) (expression more b)
  unfolding expression
  takes_expression b = takes_then (rules.assign b) (λ x. level_then level_peek (λ s. level_if (same_sort s k.Comma)
      (level_then (level_sequence b (with none x)) (λ all. level_complete (node.Sequence all.trees) (from_of x) all.tall)) (level_pure x)))

  level_expression : Level (expression less true) (expression more true)
  level_expression = level_of (takes_expression true)

  level_parenthesized : Level (parenthesized less) (parenthesized more)
  unfolding parenthesized
  level_parenthesized = level_then level_expression (λ x. level_then (level_expect k.RightParenthesis) (λ u. level_pure x))

  -- ---- elements

  level_one_element : (found : Elements) → Level (one_element less found) (one_element more found)
  unfolding one_element
  level_one_element found = level_then (level_eat k.Ellipsis) (λ spread. level_then (level_of (rules.assign true)) (λ x.
      level_if spread (level_pure (with_spread found x)) (level_pure (with_value found x))))

  level_array_from : (m : ℕ) (found : Elements) → Level (array_from less m found) (array_from more m found)
  unfolding array_from
  level_array_from zero found = level_of takes_refuse
  level_array_from (suc m) found = level_then (level_eat k.RightBracket) (λ over. level_if over (level_pure found)
      (level_then (level_eat k.Comma) (λ hole. level_if hole (level_array_from m (with_hole found))
      (level_then (level_one_element found) (λ all. level_then (level_eat k.Comma) (λ again. level_if again (level_array_from m all)
      (level_then (level_expect k.RightBracket) (λ u. level_pure all))))))))

  level_elements : Level (elements less) (elements more)
  unfolding elements
  level_elements = level_turns (λ m. array_from less m no_elements) (λ m. array_from more m no_elements) (λ m. level_array_from m no_elements)

  level_array : (from : ℕ) → Level (array less from) (array more from)
  unfolding array
  level_array from = level_then level_elements (λ all. level_complete (node.Array all.items) from all.tall)

  level_arguments_from : (m : ℕ) (found : Elements) → Level (arguments_from less m found) (arguments_from more m found)
  unfolding arguments_from
  level_arguments_from zero found = level_of takes_refuse
  level_arguments_from (suc m) found = level_then (level_eat k.RightParenthesis) (λ over. level_if over (level_pure found)
      (level_then (level_one_element found) (λ all. level_then (level_eat k.Comma) (λ again. level_if again (level_arguments_from m all)
      (level_then (level_expect k.RightParenthesis) (λ u. level_pure all))))))

  level_arguments : Level (arguments less) (arguments more)
  unfolding arguments
  level_arguments = level_turns (λ m. arguments_from less m no_elements) (λ m. arguments_from more m no_elements) (λ m. level_arguments_from m no_elements)

  -- ---- templates

  level_piece_by : {f g : Pieces → Parser Pieces} → ((all : Pieces) → Level (f all) (g all)) → (all : Pieces) (x : Grown) (s : Sort)
      → Level (piece_by less f all x s) (piece_by more g all x s)
  level_piece_by h all x k.TemplateMiddle = level_then level_text (λ text. h (with_piece all x text))
  level_piece_by h all x k.TemplateTail = level_then level_text (λ text. level_pure (with_piece all x text))
  level_piece_by h all x _ = level_of takes_refuse

  level_pieces_from : (m : ℕ) (all : Pieces) → Level (pieces_from less m all) (pieces_from more m all)
  unfolding pieces_from
  level_pieces_from zero all = level_of takes_refuse
  level_pieces_from (suc m) all = level_then level_expression (λ x. level_then level_peek (λ s. level_piece_by (level_pieces_from m) all x s))

  level_pieces : (text : List ℕ) → Level (pieces less text) (pieces more text)
  unfolding pieces
  level_pieces text = level_turns (λ m. pieces_from less m (one_piece text)) (λ m. pieces_from more m (one_piece text)) (λ m. level_pieces_from m (one_piece text))

  level_template : (from : ℕ) (text : List ℕ) → Level (template less from text) (template more from text)
  unfolding template
  level_template from text = level_then (level_pieces text) (λ all. level_complete (node.Template all.texts all.trees) from all.tall)

  -- ---- primary expressions

  front_primary_by : (from : ℕ) (s : Sort) → Front (primary_by less from s) (primary_by more from s)
  front_primary_by from k.This = front_then front_token (λ u. level_complete node.This from 0)
  front_primary_by from k.Identifier = front_then front_text (λ called. level_complete (node.Name called) from 0)
  front_primary_by from k.Null = front_then front_token (λ u. level_complete node.Null from 0)
  front_primary_by from k.True = front_then front_token (λ u. level_complete (node.Bool true) from 0)
  front_primary_by from k.False = front_then front_token (λ u. level_complete (node.Bool false) from 0)
  front_primary_by from k.Number = front_then front_number (λ value. level_complete (node.Num value) from 0)
  front_primary_by from k.Text = front_then front_text (λ value. level_complete (node.Text value) from 0)
  front_primary_by from k.TemplateWhole = front_plain_template from
  front_primary_by from k.TemplateHead = front_then front_text (λ text. level_template from text)
  front_primary_by from k.LeftBracket = front_then front_token (λ u. level_array from)
  front_primary_by from k.LeftBrace = front_then front_token (λ u. level_object less more rules from)
  front_primary_by from k.Function = front_then front_token (λ u. level_function less more rules from)
  front_primary_by from k.LeftParenthesis = front_then front_token (λ u. level_parenthesized)
  front_primary_by from _ = takes_refuse.first

  takes_primary : Takes (primary less) (primary more)
  unfolding primary
  takes_primary = takes_by_first front_primary_by (λ from to. takes_refuse.ended)

  -- ---- parts

  level_index : (l : Link) (of : Grown) → Level (index less l of) (index more l of)
  unfolding index
  level_index l of = level_then level_expression (λ x. level_then (level_expect k.RightBracket) (λ u.
      level_complete (node.Index l of.tree x.tree) (from_of of) (max of.height x.height)))

  level_call : (l : Link) (of : Grown) → Level (call less l of) (call more l of)
  unfolding call
  level_call l of = level_then level_arguments (λ all. level_complete (node.Call l of.tree all.items) (from_of of) (max of.height all.tall))

  level_optional_by : (of : Grown) (s : Sort) → Level (optional_by less of s) (optional_by more of s)
  level_optional_by of k.LeftBracket = level_then level_token (λ u. level_index link.Optional of)
  level_optional_by of k.LeftParenthesis = level_then level_token (λ u. level_call link.Optional of)
  level_optional_by of _ = level_member link.Optional of

  level_optional : (of : Grown) → Level (optional less of) (optional more of)
  unfolding optional
  level_optional of = level_then level_peek (λ s. level_optional_by of s)

  level_part_by : {f g : Bool → Grown → Parser Grown} → ((c : Bool) (x : Grown) → Level (f c x) (g c x)) → (c : Bool) (of : Grown) (p : PartSort)
      → Level (part_by less f c of p) (part_by more g c of p)
  level_part_by h c of part.Member = level_then (level_then level_token (λ u. level_member (link_in c) of)) (λ x. h c x)
  level_part_by h c of part.Index = level_then (level_then level_token (λ u. level_index (link_in c) of)) (λ x. h c x)
  level_part_by h c of part.Call = level_then (level_then level_token (λ u. level_call (link_in c) of)) (λ x. h c x)
  level_part_by h c of part.Optional = level_then (level_then level_token (λ u. level_optional of)) (λ x. h true x)
  level_part_by h c of part.None = level_pure of

  level_parts_from : (b : Bool) (m : ℕ) (c : Bool) (of : Grown) → Level (parts_from less b m c of) (parts_from more b m c of)
  unfolding parts_from
  level_parts_from b zero c of = level_pure of
  level_parts_from b (suc m) c of = level_then level_peek (λ s. level_part_by (level_parts_from b m) c of (part_sort b s))

  level_parts : (b : Bool) (of : Grown) → Level (parts less b of) (parts more b of)
  unfolding parts
  level_parts b of = level_left (λ m. parts_from less b m false of) (λ m. parts_from more b m false of) (λ m. level_parts_from b m false of)

  takes_left_side : (b : Bool) → Takes (left_side less b) (left_side more b)
  unfolding left_side same_sort
  takes_left_side b = record {
    first = front_peek (λ s. front_if (same_sort s k.New)
        (front_then rules.new.first (λ x. level_if (is_bare_new x) (level_pure x) (level_parts b x))) (front_then takes_primary.first (λ x. level_parts b x)));
    ended = end_peek (side less) (side more) (end_then (parts less b) (parts more b) takes_primary.ended);
  }
    where
      side : (Goal → Parser Grown) → Sort → Parser Grown
      side nest s = if same_sort s k.New then nest goal.New >>= (λ x. if is_bare_new x then pure x else parts nest b x) else primary nest >>= parts nest b

  -- ---- new

  level_member_part_by : {f g : Grown → Parser Grown} → ((x : Grown) → Level (f x) (g x)) → (of : Grown) (s : Sort) → Level (member_part_by less f of s) (member_part_by more g of s)
  level_member_part_by h of k.Dot = level_then (level_then level_token (λ u. level_member link.Plain of)) h
  level_member_part_by h of k.LeftBracket = level_then (level_then level_token (λ u. level_index link.Plain of)) h
  level_member_part_by h of _ = level_pure of

  level_member_parts_from : (m : ℕ) (of : Grown) → Level (member_parts_from less m of) (member_parts_from more m of)
  unfolding member_parts_from
  level_member_parts_from zero of = level_pure of
  level_member_parts_from (suc m) of = level_then level_peek (λ s. level_member_part_by (level_member_parts_from m) of s)

  level_member_parts : (of : Grown) → Level (member_parts less of) (member_parts more of)
  unfolding member_parts
  level_member_parts of = level_left (λ m. member_parts_from less m of) (λ m. member_parts_from more m of) (λ m. level_member_parts_from m of)

  level_constructor : Level (constructor less) (constructor more)
  unfolding constructor
  level_constructor = level_then level_peek (λ s. level_if (same_sort s k.New)
      (level_then (level_of rules.new) level_member_parts) (level_then (level_of takes_primary) level_member_parts))

  level_constructed : (from : ℕ) (of : Grown) → Level (constructed less from of) (constructed more from of)
  unfolding constructed
  level_constructed from of = level_then (level_eat k.LeftParenthesis) (λ called. level_if called
      (level_then level_arguments (λ all. level_complete (node.New of.tree (Some all.items)) from (max of.height all.tall)))
      (level_complete (node.New of.tree None) from of.height))

  pub takes_new : Takes (new_ less) (new_ more)
  unfolding new_ same_sort
  takes_new = takes_here (λ from. front_then (takes_expect k.New refl).first (λ u. level_then level_constructor (λ of. level_constructed from of)))
      (λ from to. end_then (λ u. constructor less >>= constructed less from) (λ u. constructor more >>= constructed more to) (takes_expect k.New refl).ended)

  -- ---- operators before and behind an operand

  level_stepped : (from : ℕ) (op : UpdateOp) → Level (stepped less from op) (stepped more from op)
  unfolding stepped
  level_stepped from op = level_then (level_of (takes_left_side false)) (λ of. level_if (is_target of) (level_complete (node.Update op of.tree) from of.height) (level_of takes_refuse))

  level_step_by : (of : Grown) (op : Option UpdateOp) → Level (step_by less of op) (step_by more of op)
  level_step_by of (Some op) = level_then level_token (λ u. level_complete (node.Update op of.tree) (from_of of) of.height)
  level_step_by of None = level_pure of

  takes_step_after : Takes (step_after less) (step_after more)
  unfolding step_after
  takes_step_after = takes_then (takes_left_side true) (λ of. level_then (level_look (steps of) (plain_steps of)) (λ op. level_step_by of op))

  front_update_by : (from : ℕ) (op : Option UpdateOp) → Front (update_by less from op) (update_by more from op)
  front_update_by from (Some op) = front_then front_token (λ u. level_stepped from op)
  front_update_by from None = takes_step_after.first

  takes_update : Takes (update less) (update more)
  unfolding update
  takes_update = takes_by_first (λ from s. front_update_by from (update_before s)) (λ from to. takes_step_after.ended)

  front_unary_by : (from : ℕ) (op : Option UnaryOp) → Front (unary_by less from op) (unary_by more from op)
  front_unary_by from (Some op) = front_then front_token (λ u. level_then (level_of rules.unary) (λ x. level_complete (node.Unary op x.tree) from x.height))
  front_unary_by from None = takes_update.first

  pub takes_unary : Takes (unary_ less) (unary_ more)
  unfolding unary_
  takes_unary = takes_by_first (λ from s. front_unary_by from (prefix s)) (λ from to. takes_update.ended)

  level_raised : (base : Grown) → Level (raised less base) (raised more base)
  unfolding raised
  level_raised base = level_then (level_eat k.Power) (λ raised. level_if raised (level_then (level_of rules.power) (λ x. level_joined k.Power base x)) (level_pure base))

  pub takes_power : Takes (power less) (power more)
  unfolding power
  takes_power = record {
    first = front_peek (λ s. front_then rules.unary.first (rest s));
    ended = end_peek (raising less) (raising more) (end_then (based less k.End) (based more k.End) rules.unary.ended);
  }
    where
      based : (Goal → Parser Grown) → Sort → Grown → Parser Grown
      based nest s x = if is_prefix s then pure x else raised nest x

      raising : (Goal → Parser Grown) → Sort → Parser Grown
      raising nest s = nest goal.Unary >>= based nest s

      rest : (s : Sort) (x : Grown) → Level (based less s x) (based more s x)
      rest s x = level_if (is_prefix s) (level_pure x) (level_raised x)

  -- ---- rows

  takes_binary : (b : Bool) (level : ℕ) → Takes (binary_ less b level) (binary_ more b level)
  unfolding binary_
  takes_binary b zero = rules.power
  takes_binary b (suc level) = takes_then (takes_binary b level) (λ x. level_row_of b (level_of (takes_binary b level)) (suc level) x)

  level_either : (b : Bool) (x : Grown) → Level (either less b x) (either more b x)
  unfolding either
  level_either b x = level_then (level_row_of b (level_of (takes_binary b bit_or_row)) and_row x) (λ y. level_row_of b (level_of (takes_binary b and_row)) or_row y)

  takes_short_circuit : (b : Bool) → Takes (short_circuit less b) (short_circuit more b)
  unfolding short_circuit
  takes_short_circuit b = takes_then (takes_binary b bit_or_row) (λ x. level_then level_peek (λ s. level_if (same_sort s k.Coalesce)
      (level_row_of b (level_of (takes_binary b bit_or_row)) coalesce_row x) (level_either b x)))

  -- ---- conditionals and assignments

  level_otherwise : (b : Bool) (test one : Grown) → Level (otherwise less b test one) (otherwise more b test one)
  unfolding otherwise
  level_otherwise b test one = level_then (level_of (rules.assign b)) (λ other.
      level_complete (node.Cond test.tree one.tree other.tree) (from_of test) (tallest test.height one.height other.height))

  level_chosen : (b : Bool) (test : Grown) → Level (chosen less b test) (chosen more b test)
  unfolding chosen
  level_chosen b test = level_then (level_of (rules.assign true)) (λ one. level_then (level_expect k.Colon) (λ u. level_otherwise b test one))

  takes_cond : (b : Bool) → Takes (cond_ less b) (cond_ more b)
  unfolding cond_
  takes_cond b = takes_then (takes_short_circuit b) (λ test. level_then (level_eat k.Question) (λ asked. level_if asked (level_chosen b test) (level_pure test)))

  level_assign_by : (b : Bool) (from : ℕ) (target : Grown) (op : Option AssignOp) → Level (assign_by less b from target op) (assign_by more b from target op)
  level_assign_by b from target (Some op) = level_then level_token (λ u. level_then (level_of (rules.assign b)) (λ value.
      level_complete (node.Assign op target.tree value.tree (gives_name from target)) (from_of target) (max target.height value.height)))
  level_assign_by b from target None = level_pure target

  takes_assign_or_cond : (b : Bool) → Takes (assign_or_cond less b) (assign_or_cond more b)
  unfolding assign_or_cond
  takes_assign_or_cond b = takes_here
      (λ from. front_then (takes_cond b).first (λ x. level_then (level_look (assigns x) (plain_assigns x)) (λ op. level_assign_by b from x op)))
      (λ from to. end_then (λ x. (λ i. Ok (assigns x i, i)) >>= assign_by less b from x) (λ x. (λ i. Ok (assigns x i, i)) >>= assign_by more b to x) (takes_cond b).ended)

  pub takes_assign : (b : Bool) → Takes (assign less b) (assign more b)
  unfolding assign
  takes_assign b = takes_choose begins_arrow plain_arrow no_arrow (front_arrow less more rules b) (takes_assign_or_cond b)
