-- What holds of how tokens are sorted.
use Rattle.std.specs.Prelude.{◌≡◌, ℕ, List}
use Rattle.sr_lex.specs.declared.token.Token.{Token}
use Rattle.sr_syntax.specs.declared.sorts.Lexeme.{Lexeme}
use Rattle.sr_syntax.specs.Lexemes.{Lexemes}

-- the tokens of a text are one list of tokens to the grammar
abbrev pub OneSorting : Type 0
OneSorting = (text : List ℕ) (ts : List Token) (ls ms : List Lexeme) → Lexemes text ts ls → Lexemes text ts ms → ls ≡ ms
