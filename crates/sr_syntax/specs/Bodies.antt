-- Bodies, parameters and functions (ECMA-262 15).
use Rattle.std.specs.Prelude.{ℕ, zero, suc, ◌+◌, Bool, not, ◌&&◌, ◌||◌, if◌then◌else◌, List, [], ◌∷◌, ◌++◌, Option, Some, None, Ok}
use Rattle.sr_ast.specs.declared.tree.Node.TheVariants as n
use Rattle.sr_ast.specs.declared.binding.Binding.{Binding}
use Rattle.sr_ast.specs.declared.binding.Parameters.{Parameters}
use Rattle.sr_ast.specs.declared.binding.HeadKind.TheVariants as head
use Rattle.sr_syntax.specs.declared.sorts.Sort.{Sort}
use Rattle.sr_syntax.specs.declared.sorts.Sort.TheVariants as k
use Rattle.sr_syntax.specs.declared.grown.Grown.{Grown}
use Rattle.sr_syntax.specs.declared.grown.Grove.{Grove}
use Rattle.sr_syntax.specs.declared.grown.OpenFunction.{OpenFunction}
use Rattle.sr_syntax.specs.declared.grown.Goal.{Goal}
use Rattle.sr_syntax.specs.declared.grown.Goal.TheVariants as goal
use Rattle.sr_syntax.specs.Sorts.{same_sort}
use Rattle.sr_syntax.specs.Input.{Input, Parser, ◌>>=◌, ◌>>◌, pure, refuse, line_before, left, next, ahead, peek, here, take_token, sees, eat, expect, complete}
use Rattle.sr_syntax.specs.Operators.{name, none, with, assign_goal}
use Rattle.sr_syntax.specs.Declarations.{declared_by}

-- a name that is bound, with its place
unfoldable pub binding : Parser Binding
binding = do
  from ← here
  called ← name
  pure (record { name = called; from = from })

-- the name of a function, or none
unfoldable pub binding_if_there : Parser (Option Binding)
binding_if_there = λ i. if sees k.Identifier i then (binding >>= (λ x. pure (Some x))) i else Ok (None, i)

abbrev pub parameters_of : List Binding → Option Binding → Parameters
parameters_of names last = record { names = names; rest = last }

-- the last parameter, behind its "..."
unfoldable pub rest_parameter : List Binding → Parser Parameters
rest_parameter found = do
  last ← binding
  expect k.RightParenthesis
  pure (parameters_of found (Some last))

unfoldable pub parameters_from : ℕ → List Binding → Parser Parameters
parameters_from zero found = refuse
parameters_from (suc m) found = do
  is_over ← eat k.RightParenthesis
  if is_over then pure (parameters_of found None) else (do
    is_rest ← eat k.Ellipsis
    if is_rest then rest_parameter found else (do
      x ← binding
      more ← eat k.Comma
      if more then parameters_from m (found ++ x ∷ []) else expect k.RightParenthesis >> pure (parameters_of (found ++ x ∷ []) None)))

-- Params ")": names by ",", the last may be "..." Name, and a "," may follow a plain name (15.1)
unfoldable pub parameters : Parser Parameters
parameters = λ i. parameters_from (left i + 1) [] i

-- "(" Params ")"
unfoldable pub parameter_list : Parser Parameters
parameter_list = expect k.LeftParenthesis >> parameters

-- "(" ")"
unfoldable pub no_parameters : Parser (Unit {0})
no_parameters = expect k.LeftParenthesis >> expect k.RightParenthesis

-- "(" Name ")"
unfoldable pub one_parameter : Parser Binding
one_parameter = do
  expect k.LeftParenthesis
  x ← binding
  expect k.RightParenthesis
  pure x

-- `=>`, with no line end before it (15.3)
unfoldable pub arrow_token : Parser (Unit {0})
arrow_token = λ i. if sees k.Arrow i && not (line_before i) then Ok (tt, next i) else refuse i

-- a parameter in no parentheses
unfoldable pub arrow_parameter : Parser Parameters
arrow_parameter = binding >>= (λ x. pure (parameters_of (x ∷ []) None))

-- Name | "(" Params ")"
unfoldable pub arrow_parameters : Parser Parameters
arrow_parameters = λ i. if sees k.LeftParenthesis i then parameter_list i else arrow_parameter i

-- An Arrow begins with a Name that stands before `=>`, or with a `(` whose closing parenthesis does
unfoldable pub begins_arrow : Input → Bool
begins_arrow i = (sees k.Identifier i || sees k.LeftParenthesis i) && same_sort (ahead i) k.Arrow

-- A function declaration up to the brace of its body, behind the first token, with the items before it (15.2).
unfoldable pub opened : ℕ → Grove → Parser OpenFunction
opened from before = do
  called ← binding
  ps ← parameter_list
  expect k.LeftBrace
  pure (record { from = from; name = called; parameters = ps; before = before })

-- the items before a function declaration and it, behind its last brace
unfoldable pub closed : OpenFunction → Grove → Parser Grove
closed f all = do
  x ← complete (n.FunctionDeclaration (Some f.name) f.parameters all.trees) f.from all.tall
  pure (with f.before x)

-- The parser of what is open while it is read, one level down.
module _ (nest : Goal → Parser Grown) where
  -- the end of the innermost body: of the function that is open, or of all
  abbrev pub ended : (List OpenFunction → Grove → Parser Grove) → List OpenFunction → Grove → Parser Grove
  ended more [] found = pure found
  ended more (f ∷ around) found = closed f found >>= (λ all. more around all)

  -- by its first token, an item or the end of a body; of a function declaration, what stands before its items
  abbrev pub items_by : (List OpenFunction → Grove → Parser Grove) → List OpenFunction → Grove → ℕ → Sort → Parser Grove
  items_by more around found from k.RightBrace = take_token >> ended more around found
  items_by more around found from k.Function = take_token >> opened from found >>= (λ f. more (f ∷ around) none)
  items_by more around found from k.Let = take_token >> declared_by nest head.Let from >>= (λ x. more around (with found x))
  items_by more around found from k.Const = take_token >> declared_by nest head.Const from >>= (λ x. more around (with found x))
  items_by more around found from _ = nest goal.Statement >>= (λ x. more around (with found x))

  -- The functions that are open are those in one another, the innermost first; what is found are the items of its body.
  unfoldable pub items_from : ℕ → List OpenFunction → Grove → Parser Grove
  items_from zero around found = refuse
  items_from (suc m) around found = do
    from ← here
    s ← peek
    items_by (items_from m) around found from s

  -- Item* "}"
  unfoldable pub items : Parser Grove
  items = λ i. items_from (left i + 1) [] none i

  -- Body = "{" Item* "}" (15.2)
  unfoldable pub body : Parser Grove
  body = expect k.LeftBrace >> items

  -- "{" Item* "}", behind the first token (14.2)
  unfoldable pub block : ℕ → Parser Grown
  block from = do
    all ← items
    complete (n.Block all.trees) from all.tall

  -- the parameters and the body of a function expression
  unfoldable pub function_of : ℕ → Option Binding → Parser Grown
  function_of from called = do
    ps ← parameter_list
    all ← body
    complete (n.Function called ps all.trees) from all.tall

  -- "function" [Name] "(" Params ")" Body, behind the first token (15.2)
  unfoldable pub function_ : ℕ → Parser Grown
  function_ from = binding_if_there >>= function_of from

  -- the parameters and the body of a function declaration
  unfoldable pub declared_function : ℕ → Option Binding → Parser Grown
  declared_function from called = do
    ps ← parameter_list
    all ← body
    complete (n.FunctionDeclaration called ps all.trees) from all.tall

  -- Function = "function" Name "(" Params ")" Body, behind the first token (15.2)
  unfoldable pub function_declaration : ℕ → Parser Grown
  function_declaration from = binding >>= (λ x. declared_function from (Some x))

  -- the body of an arrow function that begins with "{"
  unfoldable pub arrow_body : ℕ → Parameters → Parser Grown
  arrow_body from ps = do
    all ← items
    complete (n.Arrow ps all.trees) from all.tall

  -- Body | Assign
  unfoldable pub arrow_end : Bool → ℕ → Parameters → Parser Grown
  arrow_end has_in from ps = do
    has_body ← eat k.LeftBrace
    if has_body then arrow_body from ps else (do
      x ← nest (assign_goal has_in)
      complete (n.ExpressionArrow ps x.tree) from x.height)

  -- Arrow = (Name | "(" Params ")") "=>" (Body | Assign) (15.3)
  unfoldable pub arrow : Bool → Parser Grown
  arrow has_in = do
    from ← here
    ps ← arrow_parameters
    arrow_token
    arrow_end has_in from ps
