-- Statements, rule by rule (ECMA-262 14).
use Rattle.std.specs.Prelude.{ℕ, zero, suc, ◌+◌, max, Bool, true, false, not, ◌&&◌, ◌||◌, if◌then◌else◌, List, [], ◌∷◌, ◌++◌, Option, Some, None, Ok, codes}
use Rattle.sr_ast.specs.declared.tree.Tree.{Tree}
use Rattle.sr_ast.specs.declared.tree.Node.TheVariants as n
use Rattle.sr_ast.specs.declared.binding.Binding.{Binding}
use Rattle.sr_ast.specs.declared.binding.HeadBinding.{HeadBinding}
use Rattle.sr_ast.specs.declared.binding.HeadKind.{HeadKind}
use Rattle.sr_ast.specs.declared.binding.HeadKind.TheVariants as head
use Rattle.sr_ast.specs.declared.tree.Declaration.{Declaration}
use Rattle.sr_ast.specs.declared.tree.Case.{roll-Case}
use Rattle.sr_syntax.specs.declared.grown.Part.{Part}
use Rattle.sr_syntax.specs.declared.grown.Cases.{Cases}
use Rattle.sr_syntax.specs.declared.sorts.Sort.{Sort}
use Rattle.sr_syntax.specs.declared.sorts.Sort.TheVariants as k
use Rattle.sr_syntax.specs.declared.grown.Grown.{Grown}
use Rattle.sr_syntax.specs.declared.grown.Grove.{Grove}
use Rattle.sr_syntax.specs.declared.grown.Goal.{Goal}
use Rattle.sr_syntax.specs.declared.grown.Goal.TheVariants as goal
use Rattle.sr_syntax.specs.Sorts.{same_sort}
use Rattle.sr_syntax.specs.Input.{Input, Parser, ◌>>=◌, ◌>>◌, pure, refuse, line_before, left, ahead, peek, here, take_token, take_text, sees, sees_text, eat, expect, complete, semicolon, start}
use Rattle.sr_syntax.specs.Operators.{from_of, is_target, tallest, none, with, nothing, part_of, statement_node}
use Rattle.sr_syntax.specs.Declarations.{declaring, declared, declarations_behind, declared_by}
use Rattle.sr_syntax.specs.Bodies.{binding, one_parameter, block, function_declaration}
use Rattle.sr_syntax.specs.Expressions.{expression}

abbrev pub no_cases : Cases
no_cases = record { items = []; tall = 0; has_default = false }

abbrev pub with_clause : Cases → Option Tree → List Tree → ℕ → Bool → Cases
with_clause all test body_ height is_default =
    record { items = all.items ++ roll-Case (record { test = test; body = body_ }) ∷ []; tall = max all.tall height; has_default = all.has_default || is_default }

abbrev pub with_case : Cases → Grown → Grove → Cases
with_case all x g = with_clause all (Some x.tree) g.trees (max x.height g.tall) false

abbrev pub with_default : Cases → Grove → Cases
with_default all g = with_clause all None g.trees g.tall true

-- the items of a clause go up to the next clause or the brace
abbrev pub ends_clause : Sort → Bool
ends_clause k.Case = true
ends_clause k.Default = true
ends_clause k.RightBrace = true
ends_clause _ = false

-- no expression follows `return` before a semicolon, a `}`, a line end or the end
unfoldable pub ends_statement : Input → Bool
ends_statement i = sees k.Semicolon i || (sees k.RightBrace i || line_before i)

-- the label of a `continue` or a `break`, on its line (14.8, 14.9)
unfoldable pub label_if_there : Parser (Option (List ℕ))
label_if_there = λ i. if sees k.Identifier i && not (line_before i) then (take_text >>= (λ called. pure (Some called))) i else Ok (None, i)

-- "continue" [Name] ";" and "break" [Name] ";", behind the first token
unfoldable pub continue_ : ℕ → Parser Grown
continue_ from = do
  called ← label_if_there
  semicolon
  complete (n.Continue called) from 0

unfoldable pub break_ : ℕ → Parser Grown
break_ from = do
  called ← label_if_there
  semicolon
  complete (n.Break called) from 0

-- "debugger" ";", behind the first token (14.16)
unfoldable pub debugger_ : ℕ → Parser Grown
debugger_ from = semicolon >> complete n.Debugger from 0

-- ["(" Name ")"]
unfoldable pub catch_parameter : Parser (Option Binding)
catch_parameter = λ i. if sees k.LeftParenthesis i then (one_parameter >>= (λ x. pure (Some x))) i else Ok (None, i)

-- The parser of what is open while it is read, one level down.
module _ (nest : Goal → Parser Grown) where
  -- ---- statements

  -- "(" Expr ")" of a statement
  unfoldable pub condition : Parser Grown
  condition = do
    expect k.LeftParenthesis
    x ← expression nest true
    expect k.RightParenthesis
    pure x

  unfoldable pub if_else : ℕ → Grown → Grown → Parser Grown
  if_else from x one = do
    other ← nest goal.Statement
    complete (n.If x.tree one.tree (Some other.tree)) from (tallest x.height one.height other.height)

  -- "if" "(" Expr ")" Statement ["else" Statement], behind the first token (14.6)
  unfoldable pub if_ : ℕ → Parser Grown
  if_ from = do
    x ← condition
    one ← nest goal.Statement
    is_else ← eat k.Else
    if is_else then if_else from x one else complete (n.If x.tree one.tree None) from (max x.height one.height)

  unfoldable pub do_while : ℕ → Grown → Parser Grown
  do_while from body = do
    x ← condition
    is_ended ← eat k.Semicolon
    complete (n.Do body.tree x.tree) from (max body.height x.height)

  -- "do" Statement "while" "(" Expr ")" [";"], behind the first token; the semicolon may always be left out (14.7.2, 12.10)
  unfoldable pub do_ : ℕ → Parser Grown
  do_ from = do
    body ← nest goal.Statement
    expect k.While
    do_while from body

  -- "while" "(" Expr ")" Statement, behind the first token (14.7.3)
  unfoldable pub while_ : ℕ → Parser Grown
  while_ from = do
    x ← condition
    body ← nest goal.Statement
    complete (n.While x.tree body.tree) from (max x.height body.height)

  -- ("," Decl)* in the head of a `for`, behind a first one with a value of this depth
  unfoldable pub more_declarations : Declaration → ℕ → Parser (List Declaration × ℕ)
  more_declarations first tall = do
    more ← eat k.Comma
    if more then declarations_behind nest false (first ∷ []) tall else pure (first ∷ [], tall)

  -- an expression, or none, up to this token and with it
  unfoldable pub perhaps : Bool → Sort → Parser Part
  perhaps has_in close = do
    is_over ← eat close
    if is_over then pure nothing else (do
      x ← expression nest has_in
      expect close
      pure (part_of x))

  unfoldable pub for_body : ℕ → Part → Part → Part → Parser Grown
  for_body from first test step = do
    body_ ← nest goal.Statement
    complete (n.For first.tree test.tree step.tree body_.tree) from (max first.height (tallest test.height step.height body_.height))

  -- [Expr] ";" [Expr] ")" Statement (14.7.4)
  unfoldable pub for_rest : ℕ → Part → Parser Grown
  for_rest from first = do
    test ← perhaps true k.Semicolon
    step ← perhaps true k.RightParenthesis
    for_body from first test step

  -- Expr ")" of a `for` over keys, behind `in`
  unfoldable pub keys_of : Parser Grown
  keys_of = do
    x ← expression nest true
    expect k.RightParenthesis
    pure x

  -- Assign ")" of a `for` over an iterator, behind `of`
  unfoldable pub values_of : Parser Grown
  values_of = do
    x ← nest goal.Assign
    expect k.RightParenthesis
    pure x

  -- ForIn and ForOf with a declared name, behind it (14.7.5)
  unfoldable pub for_in : ℕ → HeadBinding → Parser Grown
  for_in from h = do
    take_token
    x ← keys_of
    body_ ← nest goal.Statement
    complete (n.ForIn h x.tree body_.tree) from (max x.height body_.height)

  unfoldable pub for_of : ℕ → HeadBinding → Parser Grown
  for_of from h = do
    take_token
    x ← values_of
    body_ ← nest goal.Statement
    complete (n.ForOf h x.tree body_.tree) from (max x.height body_.height)

  -- and with a target
  unfoldable pub for_in_target : ℕ → Grown → Parser Grown
  for_in_target from of = do
    take_token
    x ← keys_of
    body_ ← nest goal.Statement
    complete (n.ForInTarget of.tree x.tree body_.tree) from (tallest of.height x.height body_.height)

  unfoldable pub for_of_target : ℕ → Grown → Parser Grown
  for_of_target from of = do
    take_token
    x ← values_of
    body_ ← nest goal.Statement
    complete (n.ForOfTarget of.tree x.tree body_.tree) from (tallest of.height x.height body_.height)

  -- the declarations at first in the head of a `for`, behind the first name; their semicolon is not inserted
  unfoldable pub for_declarations : ℕ → HeadBinding → Parser Grown
  for_declarations start h = do
    first ← declared nest false h.binding.from h.binding.name
    all ← more_declarations first.0 first.1
    expect k.Semicolon
    complete (declaring h.kind all.0) start all.1

  -- a `for` with declarations, behind the first name
  unfoldable pub for_declared : ℕ → ℕ → HeadBinding → Parser Grown
  for_declared from start h = do
    first ← for_declarations start h
    for_rest from (part_of first)

  -- behind the declared name: a `for` over keys, over an iterator, or a plain one
  unfoldable pub for_named : ℕ → ℕ → HeadBinding → Parser Grown
  for_named from start h = λ i.
      if sees k.In i then for_in from h i
      else (if sees_text (codes "of") i then for_of from h i else for_declared from start h i)

  -- behind `var`, `let` or `const`
  unfoldable pub for_declaring : ℕ → ℕ → HeadKind → Parser Grown
  for_declaring from start how = do
    x ← binding
    for_named from start (record { kind = how; binding = x })

  -- behind an expression without `in`: a target before `in` or `of`, or the first part of a plain `for`
  unfoldable pub for_expression : ℕ → Grown → Parser Grown
  for_expression from x = λ i.
      if is_target x && sees k.In i then for_in_target from x i
      else (if is_target x && sees_text (codes "of") i then for_of_target from x i
      else (expect k.Semicolon >> for_rest from (part_of x)) i)

  abbrev pub for_by : ℕ → ℕ → Sort → Parser Grown
  for_by from start k.Var = take_token >> for_declaring from start head.Var
  for_by from start k.Let = take_token >> for_declaring from start head.Let
  for_by from start k.Const = take_token >> for_declaring from start head.Const
  for_by from start k.Semicolon = take_token >> for_rest from nothing
  for_by from start _ = expression nest false >>= for_expression from

  -- For, ForIn or ForOf, behind the first token (14.7.4, 14.7.5)
  unfoldable pub for_ : ℕ → Parser Grown
  for_ from = do
    expect k.LeftParenthesis
    start ← here
    s ← peek
    for_by from start s

  -- "return" [Expr] ";", behind the first token, with no line end before the expression (14.10)
  unfoldable pub return_ : ℕ → Parser Grown
  return_ from = λ i.
      if ends_statement i then (semicolon >> complete (n.Return None) from 0) i
      else (do x ← expression nest true; semicolon; complete (n.Return (Some x.tree)) from x.height) i

  -- "throw" Expr ";", behind the first token, with no line end before the expression (14.14)
  unfoldable pub throw_ : ℕ → Parser Grown
  throw_ from = λ i.
      if line_before i then refuse i
      else (do x ← expression nest true; semicolon; complete (n.Throw x.tree) from x.height) i

  abbrev pub item_by : ℕ → Sort → Parser Grown
  item_by from k.Function = take_token >> function_declaration nest from
  item_by from k.Let = take_token >> declared_by nest head.Let from
  item_by from k.Const = take_token >> declared_by nest head.Const from
  item_by from _ = nest goal.Statement

  -- Item = Function | Lexical | Statement (14)
  unfoldable pub item : Parser Grown
  item = do
    from ← here
    s ← peek
    item_by from s

  unfoldable pub clause_from : ℕ → Grove → Parser Grove
  clause_from zero found = refuse
  clause_from (suc m) found = do
    s ← peek
    if ends_clause s then pure found else (do x ← item; clause_from m (with found x))

  -- Item* of a clause of `switch`, up to the next clause or the brace
  unfoldable pub clause_items : Parser Grove
  clause_items = λ i. clause_from (left i + 1) none i

  -- ":" Item*
  unfoldable pub clause : Parser Grove
  clause = expect k.Colon >> clause_items

  -- "case" Expr ":" Item*, behind the first token (14.12)
  unfoldable pub case_ : Cases → Parser Cases
  case_ found = do
    x ← expression nest true
    all ← clause
    pure (with_case found x all)

  -- "default" ":" Item*, behind the first token; there is one at most
  unfoldable pub default_ : Cases → Parser Cases
  default_ found = do
    all ← clause
    pure (with_default found all)

  abbrev pub cases_by : (Cases → Parser Cases) → Cases → Sort → Parser Cases
  cases_by more found k.RightBrace = take_token >> pure found
  cases_by more found k.Case = take_token >> case_ found >>= more
  cases_by more found k.Default = if found.has_default then refuse else take_token >> default_ found >>= more
  cases_by more found _ = refuse

  unfoldable pub cases_from : ℕ → Cases → Parser Cases
  cases_from zero found = refuse
  cases_from (suc m) found = do
    s ← peek
    cases_by (cases_from m) found s

  unfoldable pub cases : Parser Cases
  cases = λ i. cases_from (left i + 1) no_cases i

  -- "switch" "(" Expr ")" "{" Cases ["default" ":" Item* Cases] "}", behind the first token (14.12)
  unfoldable pub switch_ : ℕ → Parser Grown
  switch_ from = do
    x ← condition
    expect k.LeftBrace
    all ← cases
    complete (n.Switch x.tree all.items) from (max x.height all.tall)

  -- a Block of a `try` (14.15)
  unfoldable pub inner_block : Parser Grown
  inner_block = do
    from ← here
    expect k.LeftBrace
    block nest from

  -- "finally" Block, behind the first token, with what stands before it
  unfoldable pub finally_ : ℕ → Grown → Option Binding → Part → Parser Grown
  finally_ from of p handler = do
    y ← inner_block
    complete (n.Try of.tree p handler.tree (Some y.tree)) from (tallest of.height handler.height y.height)

  unfoldable pub catch_end : ℕ → Grown → Option Binding → Grown → Parser Grown
  catch_end from of p handler = do
    has_finally ← eat k.Finally
    if has_finally then finally_ from of p (part_of handler)
        else complete (n.Try of.tree p (Some handler.tree) None) from (max of.height handler.height)

  -- Catch = "catch" ["(" Name ")"] Block, behind the first token
  unfoldable pub catch_ : ℕ → Grown → Parser Grown
  catch_ from of = do
    p ← catch_parameter
    handler ← inner_block
    catch_end from of p handler

  -- Try = "try" Block (Catch ["finally" Block] | "finally" Block), behind the first token
  unfoldable pub try_ : ℕ → Parser Grown
  try_ from = do
    of ← inner_block
    has_catch ← eat k.Catch
    if has_catch then catch_ from of else expect k.Finally >> finally_ from of None nothing

  -- Labelled = Name ":" Statement (14.13)
  unfoldable pub labelled : ℕ → Parser Grown
  labelled from = do
    called ← take_text
    expect k.Colon
    x ← nest goal.Statement
    complete (n.Labelled called x.tree) from x.height

  -- an expression and a semicolon (14.5)
  unfoldable pub plain : ℕ → Parser Grown
  plain from = do
    x ← expression nest true
    semicolon
    complete (statement_node from x) (from_of x) x.height

  -- a name before ":" is a label
  unfoldable pub begins_label : Input → Bool
  begins_label i = sees k.Identifier i && same_sort (ahead i) k.Colon

  unfoldable pub plain_or_labelled : ℕ → Parser Grown
  plain_or_labelled from = λ i. if begins_label i then labelled from i else plain from i

  abbrev pub statement_by : ℕ → Sort → Parser Grown
  statement_by from k.LeftBrace = take_token >> block nest from
  statement_by from k.Var = take_token >> declared_by nest head.Var from
  statement_by from k.Semicolon = take_token >> complete n.Empty from 0
  statement_by from k.If = take_token >> if_ from
  statement_by from k.Do = take_token >> do_ from
  statement_by from k.While = take_token >> while_ from
  statement_by from k.For = take_token >> for_ from
  statement_by from k.Continue = take_token >> continue_ from
  statement_by from k.Break = take_token >> break_ from
  statement_by from k.Return = take_token >> return_ from
  statement_by from k.Throw = take_token >> throw_ from
  statement_by from k.Debugger = take_token >> debugger_ from
  statement_by from k.Switch = take_token >> switch_ from
  statement_by from k.Try = take_token >> try_ from
  statement_by from k.Function = refuse
  statement_by from _ = plain_or_labelled from

  -- Statement (14)
  unfoldable pub statement : Parser Grown
  statement = do
    from ← here
    s ← peek
    statement_by from s
