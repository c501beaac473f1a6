-- Statements and items are read alike where the rules below them are.
use Rattle.std.proofs.Common.{◌≡◌, ℕ, zero, suc, max, Bool, true, false, [], ◌∷◌, Option, None, Some, refl, ◌&&◌, codes}
use Rattle.sr_ast.specs.declared.binding.Binding.{Binding}
use Rattle.sr_ast.specs.declared.binding.HeadBinding.{HeadBinding}
use Rattle.sr_ast.specs.declared.binding.HeadKind.{HeadKind}
use Rattle.sr_ast.specs.declared.binding.HeadKind.TheVariants as head
use Rattle.sr_ast.specs.declared.tree.Declaration.{Declaration}
use Rattle.sr_ast.specs.declared.tree.Node.TheVariants as node
use Rattle.sr_syntax.specs.declared.sorts.Sort.{Sort}
use Rattle.sr_syntax.specs.declared.sorts.Sort.TheVariants as k
use Rattle.sr_syntax.specs.declared.grown.Cases.{Cases}
use Rattle.sr_syntax.specs.declared.grown.Goal.{Goal}
use Rattle.sr_syntax.specs.declared.grown.Goal.TheVariants as goal
use Rattle.sr_syntax.specs.declared.grown.Grown.{Grown}
use Rattle.sr_syntax.specs.declared.grown.Grove.{Grove}
use Rattle.sr_syntax.specs.declared.grown.Part.{Part}
use Rattle.sr_syntax.specs.Sorts.{same_sort}
use Rattle.sr_syntax.specs.Input.{Input, Parser, ◌>>◌, sort, ahead, sees, sees_text, line_before, semicolon, complete}
use Rattle.sr_syntax.specs.Operators.{from_of, is_target, tallest, none, with, nothing, part_of, statement_node}
use Rattle.sr_syntax.specs.Bodies.{block}
use Rattle.sr_syntax.specs.Expressions.{expression}
use Rattle.sr_syntax.specs.Declarations.{declaring}
use Rattle.sr_syntax.specs.Statements.{no_cases, with_case, with_default, ends_clause, ends_statement, condition, if_else, if_, do_while, do_, while_, more_declarations, perhaps, for_body, for_rest, keys_of, values_of, for_in, for_of, for_in_target, for_of_target, for_declarations, for_declared, for_named, for_declaring, for_expression, for_by, for_, return_, throw_, clause_from, clause_items, clause, case_, default_, cases_by, cases_from, cases, switch_, inner_block, finally_, catch_end, catch_, try_, labelled, plain, begins_label, plain_or_labelled, statement_by, statement, item_by, item}
use Rattle.sr_grammar.proofs.Steps.{inp}
use Rattle.sr_grammar.proofs.Alike.{Level, Front, Takes, Plain, level_of, level_then, front_then, end_then, level_pure, takes_refuse, level_turns, level_if, level_choose, front_choose, end_choose, level_peek, takes_here, takes_by_first, plain_sees, plain_line, level_eat, takes_expect, level_expect, level_token, front_token, level_semicolon, level_complete}
use Rattle.sr_grammar.proofs.AlikeNames.{front_text, level_binding, level_catch_parameter, level_continue, level_break, level_debugger}
use Rattle.sr_grammar.proofs.AlikeDeclarations.{Rules, level_declared, takes_declarations_behind, level_declared_by}
use Rattle.sr_grammar.proofs.AlikeBodies.{level_block, level_function_declaration}
use Rattle.sr_grammar.proofs.AlikeExpressions.{takes_expression}

plain_of : Plain (λ i. sees_text (codes "of") i)
unfolding sees_text
plain_of ts l m n o = refl

plain_target_in : (x : Grown) → Plain (λ i. is_target x && sees k.In i)
unfolding sees sort
plain_target_in x ts l m n o = refl

plain_target_of : (x : Grown) → Plain (λ i. is_target x && sees_text (codes "of") i)
unfolding sees_text
plain_target_of x ts l m n o = refl

plain_ended : Plain ends_statement
unfolding ends_statement sees sort line_before
plain_ended ts l m n o = refl

-- a label, whatever may be open
abbrev labels : Input → Bool
labels i = sees k.Identifier i && same_sort (ahead i) k.Colon

plain_label : Plain labels
unfolding sees sort ahead
plain_label ts l m n o = refl

no_label : (l n : ℕ) → labels (inp [] l n) ≡ false
unfolding sees sort ahead same_sort
no_label l n = refl

module _ (less more : Goal → Parser Grown) (rules : Rules less more) where
  level_expression : (b : Bool) → Level (expression less b) (expression more b)
  level_expression b = level_of (takes_expression less more rules b)

  level_body : Level (less goal.Statement) (more goal.Statement)
  level_body = level_of rules.statement

  -- ---- conditions and loops

  level_condition : Level (condition less) (condition more)
  unfolding condition
  level_condition = level_then (level_expect k.LeftParenthesis) (λ u. level_then (level_expression true) (λ x. level_then (level_expect k.RightParenthesis) (λ v. level_pure x)))

  level_if_else : (from : ℕ) (x one : Grown) → Level (if_else less from x one) (if_else more from x one)
  unfolding if_else
  level_if_else from x one = level_then level_body (λ other. level_complete (node.If x.tree one.tree (Some other.tree)) from (tallest x.height one.height other.height))

  level_if_statement : (from : ℕ) → Level (if_ less from) (if_ more from)
  unfolding if_
  level_if_statement from = level_then level_condition (λ x. level_then level_body (λ one. level_then (level_eat k.Else) (λ other.
      level_if other (level_if_else from x one) (level_complete (node.If x.tree one.tree None) from (max x.height one.height)))))

  level_do_while : (from : ℕ) (body : Grown) → Level (do_while less from body) (do_while more from body)
  unfolding do_while
  level_do_while from body = level_then level_condition (λ x. level_then (level_eat k.Semicolon) (λ ended.
      level_complete (node.Do body.tree x.tree) from (max body.height x.height)))

  level_do : (from : ℕ) → Level (do_ less from) (do_ more from)
  unfolding do_
  level_do from = level_then level_body (λ body. level_then (level_expect k.While) (λ u. level_do_while from body))

  level_while : (from : ℕ) → Level (while_ less from) (while_ more from)
  unfolding while_
  level_while from = level_then level_condition (λ x. level_then level_body (λ body. level_complete (node.While x.tree body.tree) from (max x.height body.height)))

  -- ---- declarations

  level_more_declarations : (first : Declaration) (tall : ℕ) → Level (more_declarations less first tall) (more_declarations more first tall)
  unfolding more_declarations
  level_more_declarations first tall = level_then (level_eat k.Comma) (λ again. level_if again
      (level_of (takes_declarations_behind less more rules false (first ∷ []) tall)) (level_pure (first ∷ [], tall)))

  -- ---- `for`

  level_perhaps : (b : Bool) (close : Sort) → Level (perhaps less b close) (perhaps more b close)
  unfolding perhaps
  level_perhaps b close = level_then (level_eat close) (λ over. level_if over (level_pure nothing)
      (level_then (level_expression b) (λ x. level_then (level_expect close) (λ u. level_pure (part_of x)))))

  level_for_body : (from : ℕ) (first test step : Part) → Level (for_body less from first test step) (for_body more from first test step)
  unfolding for_body
  level_for_body from first test step = level_then level_body (λ body.
      level_complete (node.For first.tree test.tree step.tree body.tree) from (max first.height (tallest test.height step.height body.height)))

  level_for_rest : (from : ℕ) (first : Part) → Level (for_rest less from first) (for_rest more from first)
  unfolding for_rest
  level_for_rest from first = level_then (level_perhaps true k.Semicolon) (λ test. level_then (level_perhaps true k.RightParenthesis) (λ step. level_for_body from first test step))

  level_keys_of : Level (keys_of less) (keys_of more)
  unfolding keys_of
  level_keys_of = level_then (level_expression true) (λ x. level_then (level_expect k.RightParenthesis) (λ u. level_pure x))

  level_values_of : Level (values_of less) (values_of more)
  unfolding values_of
  level_values_of = level_then (level_of (rules.assign true)) (λ x. level_then (level_expect k.RightParenthesis) (λ u. level_pure x))

  level_for_in : (from : ℕ) (h : HeadBinding) → Level (for_in less from h) (for_in more from h)
  unfolding for_in
  level_for_in from h = level_then level_token (λ u. level_then level_keys_of (λ x. level_then level_body (λ body.
      level_complete (node.ForIn h x.tree body.tree) from (max x.height body.height))))

  level_for_of : (from : ℕ) (h : HeadBinding) → Level (for_of less from h) (for_of more from h)
  unfolding for_of
  level_for_of from h = level_then level_token (λ u. level_then level_values_of (λ x. level_then level_body (λ body.
      level_complete (node.ForOf h x.tree body.tree) from (max x.height body.height))))

  level_for_in_target : (from : ℕ) (of : Grown) → Level (for_in_target less from of) (for_in_target more from of)
  unfolding for_in_target
  level_for_in_target from of = level_then level_token (λ u. level_then level_keys_of (λ x. level_then level_body (λ body.
      level_complete (node.ForInTarget of.tree x.tree body.tree) from (tallest of.height x.height body.height))))

  level_for_of_target : (from : ℕ) (of : Grown) → Level (for_of_target less from of) (for_of_target more from of)
  unfolding for_of_target
  level_for_of_target from of = level_then level_token (λ u. level_then level_values_of (λ x. level_then level_body (λ body.
      level_complete (node.ForOfTarget of.tree x.tree body.tree) from (tallest of.height x.height body.height))))

  level_for_declarations : (start : ℕ) (h : HeadBinding) → Level (for_declarations less start h) (for_declarations more start h)
  unfolding for_declarations
  level_for_declarations start h = level_then (level_declared less more rules false h.binding.from h.binding.name) (λ first.
      level_then (level_more_declarations first.0 first.1) (λ all. level_then (level_expect k.Semicolon) (λ u. level_complete (declaring h.kind all.0) start all.1)))

  level_for_declared : (from start : ℕ) (h : HeadBinding) → Level (for_declared less from start h) (for_declared more from start h)
  unfolding for_declared
  level_for_declared from start h = level_then (level_for_declarations start h) (λ first. level_for_rest from (part_of first))

  level_for_named : (from start : ℕ) (h : HeadBinding) → Level (for_named less from start h) (for_named more from start h)
  unfolding for_named
  level_for_named from start h = level_choose (sees k.In) (plain_sees k.In) (level_for_in from h)
      (level_choose (λ i. sees_text (codes "of") i) plain_of (level_for_of from h) (level_for_declared from start h))

  level_for_declaring : (from start : ℕ) (how : HeadKind) → Level (for_declaring less from start how) (for_declaring more from start how)
  unfolding for_declaring
  level_for_declaring from start how = level_then level_binding (λ x. level_for_named from start (record { kind = how; binding = x }))

  level_for_expression : (from : ℕ) (x : Grown) → Level (for_expression less from x) (for_expression more from x)
  unfolding for_expression
  level_for_expression from x = level_choose (λ i. is_target x && sees k.In i) (plain_target_in x) (level_for_in_target from x)
      (level_choose (λ i. is_target x && sees_text (codes "of") i) (plain_target_of x) (level_for_of_target from x)
      (level_then (level_expect k.Semicolon) (λ u. level_for_rest from (part_of x))))

  front_for_by : (from start : ℕ) (s : Sort) → Front (for_by less from start s) (for_by more from start s)
  front_for_by from start k.Var = front_then front_token (λ u. level_for_declaring from start head.Var)
  front_for_by from start k.Let = front_then front_token (λ u. level_for_declaring from start head.Let)
  front_for_by from start k.Const = front_then front_token (λ u. level_for_declaring from start head.Const)
  front_for_by from start k.Semicolon = front_then front_token (λ u. level_for_rest from nothing)
  front_for_by from start _ = front_then (takes_expression less more rules false).first (λ x. level_for_expression from x)

  level_for : (from : ℕ) → Level (for_ less from) (for_ more from)
  unfolding for_
  level_for from = level_then (level_expect k.LeftParenthesis) (λ u. level_of (takes_by_first (λ start s. front_for_by from start s)
      (λ start to. end_then (for_expression less from) (for_expression more from) (takes_expression less more rules false).ended)))

  -- ---- `return` and `throw`

  level_return : (from : ℕ) → Level (return_ less from) (return_ more from)
  unfolding return_
  level_return from = level_choose ends_statement plain_ended (level_then level_semicolon (λ u. level_complete (node.Return None) from 0))
      (level_then (level_expression true) (λ x. level_then level_semicolon (λ u. level_complete (node.Return (Some x.tree)) from x.height)))

  level_throw : (from : ℕ) → Level (throw_ less from) (throw_ more from)
  unfolding throw_
  level_throw from = level_choose line_before plain_line (level_of takes_refuse)
      (level_then (level_expression true) (λ x. level_then level_semicolon (λ u. level_complete (node.Throw x.tree) from x.height)))

  -- ---- items

  front_item_by : (from : ℕ) (s : Sort) → Front (item_by less from s) (item_by more from s)
  front_item_by from k.Function = front_then front_token (λ u. level_function_declaration less more rules from)
  front_item_by from k.Let = front_then front_token (λ u. level_declared_by less more rules head.Let from)
  front_item_by from k.Const = front_then front_token (λ u. level_declared_by less more rules head.Const from)
  front_item_by from _ = rules.statement.first

  pub takes_item : Takes (item less) (item more)
  unfolding item
  takes_item = takes_by_first front_item_by (λ from to. rules.statement.ended)

  -- ---- `switch`

  level_clause_from : (m : ℕ) (found : Grove) → Level (clause_from less m found) (clause_from more m found)
  unfolding clause_from
  level_clause_from zero found = level_of takes_refuse
  level_clause_from (suc m) found = level_then level_peek (λ s. level_if (ends_clause s) (level_pure found)
      (level_then (level_of takes_item) (λ x. level_clause_from m (with found x))))

  level_clause_items : Level (clause_items less) (clause_items more)
  unfolding clause_items
  level_clause_items = level_turns (λ m. clause_from less m none) (λ m. clause_from more m none) (λ m. level_clause_from m none)

  level_clause : Level (clause less) (clause more)
  unfolding clause
  level_clause = level_then (level_expect k.Colon) (λ u. level_clause_items)

  level_case : (found : Cases) → Level (case_ less found) (case_ more found)
  unfolding case_
  level_case found = level_then (level_expression true) (λ x. level_then level_clause (λ all. level_pure (with_case found x all)))

  level_default : (found : Cases) → Level (default_ less found) (default_ more found)
  unfolding default_
  level_default found = level_then level_clause (λ all. level_pure (with_default found all))

  level_cases_by : {f g : Cases → Parser Cases} → ((all : Cases) → Level (f all) (g all)) → (found : Cases) (s : Sort) → Level (cases_by less f found s) (cases_by more g found s)
  level_cases_by h found k.RightBrace = level_then level_token (λ u. level_pure found)
  level_cases_by h found k.Case = level_then (level_then level_token (λ u. level_case found)) h
  level_cases_by h found k.Default = level_if found.has_default (level_of takes_refuse) (level_then (level_then level_token (λ u. level_default found)) h)
  level_cases_by h found _ = level_of takes_refuse

  level_cases_from : (m : ℕ) (found : Cases) → Level (cases_from less m found) (cases_from more m found)
  unfolding cases_from
  level_cases_from zero found = level_of takes_refuse
  level_cases_from (suc m) found = level_then level_peek (λ s. level_cases_by (level_cases_from m) found s)

  level_cases : Level (cases less) (cases more)
  unfolding cases
  level_cases = level_turns (λ m. cases_from less m no_cases) (λ m. cases_from more m no_cases) (λ m. level_cases_from m no_cases)

  level_switch : (from : ℕ) → Level (switch_ less from) (switch_ more from)
  unfolding switch_
  level_switch from = level_then level_condition (λ x. level_then (level_expect k.LeftBrace) (λ u. level_then level_cases (λ all.
      level_complete (node.Switch x.tree all.items) from (max x.height all.tall))))

  -- ---- `try`

  level_inner_block : Level (inner_block less) (inner_block more)
  unfolding inner_block same_sort
  level_inner_block = level_of (takes_here (λ from. front_then (takes_expect k.LeftBrace refl).first (λ u. level_block less more rules from))
      (λ from to. end_then (λ u. block less from) (λ u. block more to) (takes_expect k.LeftBrace refl).ended))

  level_finally : (from : ℕ) (of : Grown) (p : Option Binding) (handler : Part) → Level (finally_ less from of p handler) (finally_ more from of p handler)
  unfolding finally_
  level_finally from of p handler = level_then level_inner_block (λ y.
      level_complete (node.Try of.tree p handler.tree (Some y.tree)) from (tallest of.height handler.height y.height))

  level_catch_end : (from : ℕ) (of : Grown) (p : Option Binding) (handler : Grown) → Level (catch_end less from of p handler) (catch_end more from of p handler)
  unfolding catch_end
  level_catch_end from of p handler = level_then (level_eat k.Finally) (λ last. level_if last (level_finally from of p (part_of handler))
      (level_complete (node.Try of.tree p (Some handler.tree) None) from (max of.height handler.height)))

  level_catch : (from : ℕ) (of : Grown) → Level (catch_ less from of) (catch_ more from of)
  unfolding catch_
  level_catch from of = level_then level_catch_parameter (λ p. level_then level_inner_block (λ handler. level_catch_end from of p handler))

  level_try : (from : ℕ) → Level (try_ less from) (try_ more from)
  unfolding try_
  level_try from = level_then level_inner_block (λ of. level_then (level_eat k.Catch) (λ caught. level_if caught (level_catch from of)
      (level_then (level_expect k.Finally) (λ u. level_finally from of None nothing))))

  -- ---- statements

  front_labelled : (from : ℕ) → Front (labelled less from) (labelled more from)
  unfolding labelled
  front_labelled from = front_then front_text (λ called. level_then (level_expect k.Colon) (λ u. level_then level_body (λ x.
      level_complete (node.Labelled called x.tree) from x.height)))

  front_plain : (from : ℕ) → Front (plain less from) (plain more from)
  unfolding plain
  front_plain from = front_then (takes_expression less more rules true).first (λ x. level_then level_semicolon (λ u.
      level_complete (statement_node from x) (from_of x) x.height))

  front_plain_or_labelled : (from : ℕ) → Front (plain_or_labelled less from) (plain_or_labelled more from)
  unfolding plain_or_labelled begins_label
  front_plain_or_labelled from = front_choose labels plain_label (front_labelled from) (front_plain from)

  front_statement_by : (from : ℕ) (s : Sort) → Front (statement_by less from s) (statement_by more from s)
  front_statement_by from k.LeftBrace = front_then front_token (λ u. level_block less more rules from)
  front_statement_by from k.Var = front_then front_token (λ u. level_declared_by less more rules head.Var from)
  front_statement_by from k.Semicolon = front_then front_token (λ u. level_complete node.Empty from 0)
  front_statement_by from k.If = front_then front_token (λ u. level_if_statement from)
  front_statement_by from k.Do = front_then front_token (λ u. level_do from)
  front_statement_by from k.While = front_then front_token (λ u. level_while from)
  front_statement_by from k.For = front_then front_token (λ u. level_for from)
  front_statement_by from k.Continue = front_then front_token (λ u. level_continue from)
  front_statement_by from k.Break = front_then front_token (λ u. level_break from)
  front_statement_by from k.Return = front_then front_token (λ u. level_return from)
  front_statement_by from k.Throw = front_then front_token (λ u. level_throw from)
  front_statement_by from k.Debugger = front_then front_token (λ u. level_debugger from)
  front_statement_by from k.Switch = front_then front_token (λ u. level_switch from)
  front_statement_by from k.Try = front_then front_token (λ u. level_try from)
  front_statement_by from k.Function = takes_refuse.first
  front_statement_by from _ = front_plain_or_labelled from

  -- at the end a statement would be an expression
  pub takes_statement : Takes (statement less) (statement more)
  unfolding statement plain_or_labelled begins_label plain
  takes_statement = takes_by_first front_statement_by (λ from to. end_choose (labelled less from) (labelled more to) labels no_label
      (end_then (finish from) (finish to) (takes_expression less more rules true).ended))
    where
      finish : ℕ → Grown → Parser Grown
      finish from x = semicolon >> complete (statement_node from x) (from_of x) x.height
