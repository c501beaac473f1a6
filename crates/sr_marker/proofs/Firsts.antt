-- The first of the tokens that are left.
use Rattle.std.proofs.Common.{ℕ, zero, suc, List, [], ◌∷◌, drop, arith}
use Rattle.std.specs.Prelude.{IfSome, All}
use Rattle.sr_lex.specs.declared.token.Token.{Token}
use Rattle.sr_marker.specs.Tokens.{first}

pub first_one : (P : Token → Type 0) (i : ℕ) (ts : List Token) → All P ts → IfSome (first (drop i ts)) P
first_one P zero [] h = tt
first_one P zero (t ∷ ts) h = h 0 t (omega arith)
first_one P (suc i) [] h = tt
first_one P (suc i) (t ∷ ts) h = first_one P i ts (λ k d l. h (suc k) d (omega arith))
