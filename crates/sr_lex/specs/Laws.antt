-- What holds of tokens and of literals.
use Rattle.std.specs.Prelude.{◌≡◌, ℕ, ℤ, Option, List, ◌⊎◌}
use Rattle.sr_lex.specs.Strings.{StringLiteral}
use Rattle.sr_lex.specs.Numbers.{NumberLiteral}
use Rattle.sr_lex.specs.Templates.{TemplatePiece}
use Rattle.sr_lex.specs.Tokens.{Tokens, FailsAfter, FailsAt}
use Rattle.sr_lex.specs.declared.token.Token.{Token}

-- a text has the tokens of one list at most
abbrev pub OneReading : Type 0
OneReading = (text : List ℕ) (ts rs : List Token) → Tokens text ts → Tokens text rs → ts ≡ rs

-- it fails at one place at most
abbrev pub OneFailure : Type 0
OneFailure = (text : List ℕ) (p q : ℕ) → FailsAt text p → FailsAt text q → p ≡ q

-- and after one list of tokens
abbrev pub OneFront : Type 0
OneFront = (text : List ℕ) (ts rs : List Token) (p q : ℕ) → FailsAfter text ts p → FailsAfter text rs q → ts ≡ rs

-- a text that has tokens does not fail
abbrev pub TokensOrFailure : Type 0
TokensOrFailure = (text : List ℕ) (ts : List Token) (p : ℕ) → Tokens text ts → FailsAt text p → ⊥

-- and one of the two holds
abbrev pub EachTextIsRead : Type 0
EachTextIsRead = (text : List ℕ) → ((ts : List Token) × Tokens text ts) ⊎ ((p : ℕ) × FailsAt text p)

-- a string literal has one value
abbrev pub OneValue : Type 0
OneValue = (us v w : List ℕ) → StringLiteral us v → StringLiteral us w → v ≡ w

-- and so has a number literal
abbrev pub OneNumber : Type 0
OneNumber = (us : List ℕ) (v w : Option ℤ) → NumberLiteral us v → NumberLiteral us w → v ≡ w

-- and a template piece
abbrev pub OnePieceValue : Type 0
OnePieceValue = (us v w : List ℕ) → TemplatePiece us v → TemplatePiece us w → v ≡ w
