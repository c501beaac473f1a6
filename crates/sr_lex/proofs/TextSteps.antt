-- One token of a text.
use Rattle.std.proofs.Common.{◌≡◌, ℕ, suc, ◌+◌, ◌≢◌, true, false, List, [], ◌∷◌, ◌++◌, length, take, drop, refl, sym, ap, ◌∙◌, append_assoc, arith}
use Rattle.std.specs.Prelude.{◌==◌, Some, None}
use Rattle.sr_lex.specs.Brackets.{in_substitution, brackets_after}
use Rattle.sr_lex.specs.Scan.{gap, row, token_of, Run, with_front, lexed}
use Rattle.sr_lex.specs.declared.token.Token.{Token}
use Rattle.sr_lex.specs.declared.brackets.Bracket.{Bracket}
use Rattle.sr_lex.specs.declared.gaps.Blank.{Blank}
use Rattle.sr_lex.specs.declared.rows.Row.{Row}

-- the tokens so far, before those to come
abbrev pub behind : List Token → Run → Run
behind ts r = (ts ++ r.0, r.1)

is_zero : (n : ℕ) → n ≡ 0 → (n == 0) ≡ true
is_zero n h = grind arith

not_zero : (n : ℕ) → n ≢ 0 → (n == 0) ≡ false
not_zero n h = grind arith

pub ends : (m at : ℕ) (bs : List Bracket) (us : List ℕ) (g : Blank) → gap (length us) (at == 0) us ≡ g → length (drop g.units us) ≡ 0 → lexed (suc m) at bs us ≡ ([], None)
ends m at bs us g e h = rw (e, is_zero (length (drop g.units us)) h) refl

pub fails : (m at : ℕ) (bs : List Bracket) (us : List ℕ) (g : Blank) → gap (length us) (at == 0) us ≡ g → length (drop g.units us) ≢ 0 → row (in_substitution bs) (drop g.units us) ≡ None
    → lexed (suc m) at bs us ≡ ([], Some (at + g.units))
fails m at bs us g e h n = rw (e, not_zero (length (drop g.units us)) h, n) refl

pub goes : (m at : ℕ) (bs : List Bracket) (us : List ℕ) (g : Blank) (r : Row) → gap (length us) (at == 0) us ≡ g → length (drop g.units us) ≢ 0 → row (in_substitution bs) (drop g.units us) ≡ Some r
    → lexed (suc m) at bs us ≡ with_front (token_of r (at + g.units) g.line) (lexed m (at + g.units + r.units) (brackets_after bs r.kind (take r.units (drop g.units us))) (drop r.units (drop g.units us)))
goes m at bs us g r e h s = rw (e, not_zero (length (drop g.units us)) h, s) refl

behind_front : (ts : List Token) (t : Token) (r : Run) → behind ts (with_front t r) ≡ behind (ts ++ (t ∷ [])) r
behind_front ts t r = ap (λ (us : List Token). (us, r.1)) (sym (append_assoc ts (t ∷ []) r.0))

pub text_ends : (k m at : ℕ) (bs : List Bracket) (us : List ℕ) (g : Blank) → k ≡ suc m → gap (length us) (at == 0) us ≡ g → length (drop g.units us) ≡ 0 → lexed k at bs us ≡ ([], None)
text_ends k m at bs us g s e h = ap (λ (i : ℕ). lexed i at bs us) s ∙ ends m at bs us g e h

pub text_fails : (k m at : ℕ) (bs : List Bracket) (us : List ℕ) (g : Blank) → k ≡ suc m → gap (length us) (at == 0) us ≡ g → length (drop g.units us) ≢ 0 → row (in_substitution bs) (drop g.units us) ≡ None
    → lexed k at bs us ≡ ([], Some (at + g.units))
text_fails k m at bs us g s e h n = ap (λ (i : ℕ). lexed i at bs us) s ∙ fails m at bs us g e h n

pub text_goes : (k m at : ℕ) (bs : List Bracket) (us : List ℕ) (ts : List Token) (g : Blank) (r : Row) → k ≡ suc m → gap (length us) (at == 0) us ≡ g → length (drop g.units us) ≢ 0
    → row (in_substitution bs) (drop g.units us) ≡ Some r
    → behind ts (lexed k at bs us) ≡ behind (ts ++ (token_of r (at + g.units) g.line ∷ [])) (lexed m (at + g.units + r.units) (brackets_after bs r.kind (take r.units (drop g.units us))) (drop r.units (drop g.units us)))
text_goes k m at bs us ts g r s e h n =
    ap (λ (i : ℕ). behind ts (lexed i at bs us)) s ∙ ap (behind ts) (goes m at bs us g r e h n)
    ∙ behind_front ts (token_of r (at + g.units) g.line) (lexed m (at + g.units + r.units) (brackets_after bs r.kind (take r.units (drop g.units us))) (drop r.units (drop g.units us)))
