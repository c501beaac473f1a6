-- Which tokens begin a symbol of the grammar.
use Rattle.std.specs.Prelude.{ℕ, List, ◌++◌}
use Rattle.sr_syntax.specs.declared.sorts.Lexeme.{Lexeme}
use Rattle.sr_syntax.specs.declared.grown.Grown.{Grown}
use Rattle.sr_grammar.specs.Derivations.{Symbol, Derives}

-- the tokens, with more behind them or with none, are this symbol
pub record Begins (s : Symbol) (us : List Lexeme) : Type 0 where
  pub open_at_most : ℕ
  pub more : List Lexeme
  pub made : Grown
  pub derives : Derives open_at_most s (us ++ more) made
