-- Where an expression cannot go on.
use Rattle.std.specs.Prelude.{ℕ, true, List, [], ◌∷◌, ◌++◌}
use Rattle.sr_syntax.specs.declared.sorts.Lexeme.{Lexeme}
use Rattle.sr_syntax.specs.declared.grown.Grown.{Grown}
use Rattle.sr_grammar.specs.Derivations.{Derives, Expression}

-- no expression begins with these tokens and the first of the others, where there are others
abbrev pub Stops : List Lexeme → List Lexeme → Type 0
Stops us [] = Unit {0}
Stops us (t ∷ ts) = (e : ℕ) (vs : List Lexeme) (x : Grown) → Derives e (Expression true) (us ++ t ∷ vs) x → ⊥
