-- The grammar: what may be open while it is read, and whole texts (ECMA-262 16).
use Rattle.std.specs.Prelude.{ℕ, zero, suc, ◌+◌, true, false, if◌then◌else◌, List, [], ◌∷◌, ◌++◌, Result, Ok, Err}
use Rattle.sr_ast.specs.declared.tree.Tree.{Tree}
use Rattle.sr_syntax.specs.declared.sorts.Lexeme.{Lexeme}
use Rattle.sr_syntax.specs.declared.refusal.Refusal.{Refusal}
use Rattle.sr_syntax.specs.declared.refusal.Refusal.TheVariants.{TooDeep}
use Rattle.sr_syntax.specs.declared.sorts.Sort.TheVariants as k
use Rattle.sr_syntax.specs.declared.grown.Grown.{Grown}
use Rattle.sr_syntax.specs.declared.grown.Goal.{Goal}
use Rattle.sr_syntax.specs.declared.grown.Goal.TheVariants as goal
use Rattle.sr_syntax.specs.Sorts.{same_sort}
use Rattle.sr_syntax.specs.Input.{Outcome, Parser, ◌>>=◌, pure, refuse, left, peek, start}
use Rattle.sr_syntax.specs.Expressions.{expression, assign, power, unary_, new_}
use Rattle.sr_syntax.specs.Statements.{statement, item}
use Rattle.sr_syntax.specs.Modules.{module_item}

-- The parser of what is open while it is read, one level down.
module _ (nest : Goal → Parser Grown) where
  abbrev pub goal_by : Goal → Parser Grown
  goal_by goal.Statement = statement nest
  goal_by goal.Assign = assign nest true
  goal_by goal.AssignWithoutIn = assign nest false
  goal_by goal.Power = power nest
  goal_by goal.Unary = unary_ nest
  goal_by goal.New = new_ nest

-- A rule of the goals, where so many more of them may be open. It is too deep before its first token is looked at.
unfoldable pub tree : ℕ → Goal → Parser Grown
tree zero goal = λ i. Err TooDeep
tree (suc depth) goal = goal_by (tree depth) goal

-- ---- whole texts

abbrev pub max_open : ℕ
max_open = 1000

-- an expression
unfoldable pub whole_expression : Parser Grown
whole_expression = expression (tree max_open) true

-- an item of a script
unfoldable pub whole_item : Parser Grown
whole_item = item (tree max_open)

-- an item of a module
unfoldable pub whole_module_item : Parser Grown
whole_module_item = module_item (tree max_open)

unfoldable pub script_from : ℕ → List Tree → Parser (List Tree)
script_from zero found = refuse
script_from (suc m) found = do
  s ← peek
  if same_sort s k.End then pure found else (do x ← whole_item; script_from m (found ++ x.tree ∷ []))

-- Script = Item* to the end of the text (16.1)
unfoldable pub script : Parser (List Tree)
script = λ i. script_from (left i + 1) [] i

unfoldable pub module_from : ℕ → List Tree → Parser (List Tree)
module_from zero found = refuse
module_from (suc m) found = do
  s ← peek
  if same_sort s k.End then pure found else (do x ← whole_module_item; module_from m (found ++ x.tree ∷ []))

-- Module = (Import | Export | Item)* to the end of the text (16.2)
unfoldable pub module_items : Parser (List Tree)
module_items = λ i. module_from (left i + 1) [] i

abbrev pub value_of : {A : Type 0} → Outcome A → Result A Refusal
value_of (Ok p) = Ok p.0
value_of (Err e) = Err e

-- the items of the script of this length that has these tokens
unfoldable pub script_of : List Lexeme → ℕ → Result (List Tree) Refusal
script_of tokens size = value_of (script (start tokens size))

-- the items of the module of this length that has these tokens
unfoldable pub module_of : List Lexeme → ℕ → Result (List Tree) Refusal
module_of tokens size = value_of (module_items (start tokens size))
