-- The bracket that opens what another closes, one token further back.
use Rattle.std.proofs.Common.{◌≡◌, ℕ, suc, List, ap}
use Rattle.std.specs.Prelude.{Option, Some, slice_get}
use Rattle.sr_syntax.specs.declared.sorts.Lexeme.{Lexeme}
use Rattle.sr_marker.specs.Places.{sort_in, side_of, to_open, opener_by, opener}

pub opener_goes : (ls : List Lexeme) (n closed : ℕ) (l : Lexeme) → slice_get ls n ≡ Some l → opener ls (suc n) closed ≡ opener_by (opener ls n) n (to_open (side_of l.sort) closed)
opener_goes ls n closed l e = ap (λ (o : Option Lexeme). opener_by (opener ls n) n (to_open (side_of (sort_in o)) closed)) e
