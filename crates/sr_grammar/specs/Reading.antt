-- Where what is read ends.
use Rattle.std.specs.Prelude.{◌≡◌, ℕ, List, [], ◌∷◌, ◌++◌, Option, Some, None, Ok}
use Rattle.sr_syntax.specs.declared.sorts.Lexeme.{Lexeme}
use Rattle.sr_syntax.specs.Input.{Parser}

-- the first token, or none at the end
abbrev pub head : List Lexeme → Option Lexeme
head [] = None
head (t ∷ ts) = Some t

-- the place after the last of these tokens, or this one where there are none
abbrev pub end_after : ℕ → List Lexeme → ℕ
end_after last [] = last
end_after last (t ∷ us) = end_after t.to us

-- A rule of the grammar, which goes as far as it can, reads these tokens and no more as this, before any that begin with the same
-- token as these others.
abbrev pub EndsThere : {A : Type 0} → Parser A → List Lexeme → List Lexeme → A → Type 0
EndsThere rule us ts a = (last size : ℕ) (rs : List Lexeme) → head rs ≡ head ts
    → rule (record { rest = us ++ rs; last = last; size = size }) ≡ Ok (a, record { rest = rs; last = end_after last us; size = size })
