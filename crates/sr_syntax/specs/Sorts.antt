-- What tokens are to the grammar.
use Rattle.std.specs.Prelude.{ℕ, ◌-◌, Bool, true, false, if◌then◌else◌, ◌==◌, List, [], ◌∷◌, length, slice_get, Option, Some, None, codes}
use Rattle.std.specs.Str.{bytes_eq}
use denote.Ref.{Bor}
use denote.Enum.Bare.{sameb}
use Rattle.sr_lex.specs.declared.token.TokenKind.{TokenKind}
use Rattle.sr_lex.specs.declared.token.TokenKind.TheVariants.{Name, Number, Text, Template, Punctuator}
use Rattle.sr_lex.specs.Templates.{backquote}
use Rattle.sr_syntax.specs.declared.sorts.Sort.{Sort}
use Rattle.sr_syntax.specs.declared.sorts.Sort.TheVariants as k
use Rattle.sr_syntax.specs.contracts.sorts.Sort.{the_type}

unfoldable pub same_sort : Sort → Sort → Bool
same_sort = sameb the_type

-- texts of tokens, with their sorts
abbrev pub Table : Type 0
Table = List (List ℕ × Sort)

-- a table in memory
abbrev pub table_of : List (Bor (List ℕ) × Sort) → Table
table_of [] = []
table_of (row ∷ rows) = (row.0.now, row.1) ∷ table_of rows

-- the sort that a table gives a text, or another one where it has no such text
abbrev pub find : Table → Sort → List ℕ → Sort
find [] other units = other
find (row ∷ rows) other units = if bytes_eq units row.0 then row.1 else find rows other units

-- the names that are never identifiers (ECMA-262 12.7.2, with `arguments` and those that are reserved in places)
abbrev pub reserved_names : Table
reserved_names =
    (codes "var", k.Var) ∷ (codes "if", k.If) ∷ (codes "else", k.Else) ∷ (codes "for", k.For) ∷
    (codes "while", k.While) ∷ (codes "do", k.Do) ∷ (codes "null", k.Null) ∷ (codes "true", k.True) ∷
    (codes "false", k.False) ∷ (codes "typeof", k.Typeof) ∷ (codes "void", k.Void) ∷ (codes "arguments", k.Reserved) ∷
    (codes "await", k.Reserved) ∷ (codes "break", k.Break) ∷ (codes "case", k.Case) ∷
    (codes "catch", k.Catch) ∷ (codes "class", k.Reserved) ∷ (codes "const", k.Const) ∷
    (codes "continue", k.Continue) ∷ (codes "debugger", k.Debugger) ∷ (codes "default", k.Default) ∷
    (codes "delete", k.Delete) ∷ (codes "enum", k.Reserved) ∷ (codes "export", k.Export) ∷
    (codes "extends", k.Reserved) ∷ (codes "finally", k.Finally) ∷ (codes "function", k.Function) ∷
    (codes "import", k.Import) ∷ (codes "in", k.In) ∷ (codes "instanceof", k.InstanceOf) ∷
    (codes "let", k.Let) ∷ (codes "new", k.New) ∷ (codes "return", k.Return) ∷
    (codes "super", k.Reserved) ∷ (codes "switch", k.Switch) ∷ (codes "this", k.This) ∷
    (codes "throw", k.Throw) ∷ (codes "try", k.Try) ∷ (codes "with", k.Reserved) ∷
    (codes "yield", k.Reserved) ∷ []

-- the punctuators of expressions and statements (12.8)
abbrev pub punctuators : Table
punctuators =
    (codes "(", k.LeftParenthesis) ∷ (codes ")", k.RightParenthesis) ∷ (codes "[", k.LeftBracket) ∷
    (codes "]", k.RightBracket) ∷ (codes ".", k.Dot) ∷ (codes "...", k.Ellipsis) ∷ (codes "?.", k.QuestionDot) ∷
    (codes "=>", k.Arrow) ∷ (codes "{", k.LeftBrace) ∷
    (codes "}", k.RightBrace) ∷ (codes ";", k.Semicolon) ∷ (codes ",", k.Comma) ∷ (codes "?", k.Question) ∷
    (codes ":", k.Colon) ∷ (codes "**", k.Power) ∷ (codes "*", k.Multiply) ∷ (codes "/", k.Divide) ∷
    (codes "%", k.Remainder) ∷ (codes "+", k.Plus) ∷ (codes "-", k.Minus) ∷ (codes "++", k.Increment) ∷
    (codes "--", k.Decrement) ∷ (codes "!", k.Not) ∷ (codes "~", k.BitNot) ∷ (codes "<<", k.ShiftLeft) ∷
    (codes ">>", k.ShiftRight) ∷ (codes ">>>", k.ShiftRightUnsigned) ∷ (codes "<", k.Less) ∷ (codes ">", k.Greater) ∷
    (codes "<=", k.LessOrEqual) ∷ (codes ">=", k.GreaterOrEqual) ∷ (codes "==", k.Equal) ∷ (codes "!=", k.NotEqual) ∷
    (codes "===", k.StrictEqual) ∷ (codes "!==", k.StrictNotEqual) ∷ (codes "&", k.BitAnd) ∷ (codes "^", k.BitXor) ∷
    (codes "|", k.BitOr) ∷ (codes "&&", k.And) ∷ (codes "||", k.Or) ∷ (codes "??", k.Coalesce) ∷
    (codes "=", k.Assign) ∷ (codes "**=", k.AssignPower) ∷ (codes "*=", k.AssignMultiply) ∷
    (codes "/=", k.AssignDivide) ∷ (codes "%=", k.AssignRemainder) ∷ (codes "+=", k.AssignAdd) ∷
    (codes "-=", k.AssignSubtract) ∷ (codes "<<=", k.AssignShiftLeft) ∷ (codes ">>=", k.AssignShiftRight) ∷
    (codes ">>>=", k.AssignShiftRightUnsigned) ∷ (codes "&=", k.AssignBitAnd) ∷ (codes "^=", k.AssignBitXor) ∷
    (codes "|=", k.AssignBitOr) ∷ (codes "&&=", k.AssignAnd) ∷ (codes "||=", k.AssignOr) ∷
    (codes "??=", k.AssignCoalesce) ∷ []

unfoldable pub sort_of_name : List ℕ → Sort
sort_of_name units = find reserved_names k.Identifier units

unfoldable pub sort_of_punctuator : List ℕ → Sort
sort_of_punctuator units = find punctuators k.Other units

-- a piece of a template, by whether a backquote begins it, and whether one ends it: else `}` and `${` do (12.9.6)
abbrev pub piece_sort : Bool → Bool → Sort
piece_sort true true = k.TemplateWhole
piece_sort true false = k.TemplateHead
piece_sort false false = k.TemplateMiddle
piece_sort false true = k.TemplateTail

abbrev pub is_backquote : Option ℕ → Bool
is_backquote (Some unit) = unit == backquote
is_backquote None = false

-- by its first unit and its last one
unfoldable pub sort_of_piece : List ℕ → Sort
sort_of_piece units = piece_sort (is_backquote (slice_get units 0)) (is_backquote (slice_get units (length units - 1)))

-- what a token of this kind with these units is
abbrev pub sort_of : TokenKind → List ℕ → Sort
sort_of Name units = sort_of_name units
sort_of Number units = k.Number
sort_of Text units = k.Text
sort_of Template units = sort_of_piece units
sort_of Punctuator units = sort_of_punctuator units
