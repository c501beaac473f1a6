-- Which tokens continue an expression that stands before them (ECMA-262 13).
use Rattle.std.specs.Prelude.{ℕ, zero, suc, ◌+◌, ◌<◌, Bool, if◌then◌else◌, List, [], ◌∷◌, Option, Some, None}
use Rattle.sr_ast.specs.declared.operators.AssignOp.{AssignOp}
use Rattle.sr_syntax.specs.declared.sorts.Sort.{Sort}
use Rattle.sr_syntax.specs.declared.sorts.Sort.TheVariants as k
use Rattle.sr_syntax.specs.declared.sorts.Lexeme.{Lexeme}
use Rattle.sr_syntax.specs.Operators.{row, assignment}

-- how loosely a token binds that continues nothing
abbrev pub never : ℕ
never = 17

-- how loosely an operator of this row, or of this assignment, binds
abbrev pub operator_looseness : ℕ → Option AssignOp → ℕ
operator_looseness (suc level) op = 3 + level
operator_looseness zero (Some op) = 15
operator_looseness zero None = never

-- How loosely a token binds what stands before it, from `.` up to `,`, where the flags say whether `in` is an operator and
-- whether a line end stands before the token.
abbrev pub looseness : Bool → Bool → Sort → ℕ
looseness has_in line k.Dot = 0
looseness has_in line k.LeftBracket = 0
looseness has_in line k.LeftParenthesis = 0
looseness has_in line k.QuestionDot = 0
looseness has_in line k.Increment = if line then never else 1
looseness has_in line k.Decrement = if line then never else 1
looseness has_in line k.Power = 2
looseness has_in line k.In = if has_in then operator_looseness (row k.In) None else never
looseness has_in line k.Question = 14
looseness has_in line k.Comma = 16
looseness has_in line s = operator_looseness (row s) (assignment s)

-- the first of these tokens, if there is one, binds more loosely than this
abbrev pub Ends : Bool → ℕ → List Lexeme → Type 0
Ends has_in bound [] = Unit {0}
Ends has_in bound (t ∷ ts) = bound < looseness has_in t.line_before t.sort

-- these tokens do not continue an Expression that stands before them
abbrev pub EndsExpression : Bool → List Lexeme → Type 0
EndsExpression has_in ts = Ends has_in 16 ts
