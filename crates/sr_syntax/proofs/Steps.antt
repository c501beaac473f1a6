-- Tokens with what the grammar asks of them, one after the other.
use Rattle.std.proofs.Common.{◌≡◌, ℕ, ◌+◌, ◌<◌, List, [], ◌∷◌, ◌++◌, length, take, get_or, sym, subst}
use Rattle.std.proofs.lemmas.List.{take_more}
use Rattle.sr_lex.specs.declared.token.Token.{Token}
use Rattle.sr_syntax.specs.declared.sorts.Lexeme.{Lexeme}
use Rattle.sr_syntax.specs.Lexemes.{IsLexeme, Sorted, no_more, one_more}

then_one : {text : List ℕ} {ts : List Token} {ls : List Lexeme} (t : Token) (l : Lexeme)
    → Sorted text ts ls → IsLexeme text t l → Sorted text (ts ++ t ∷ []) (ls ++ l ∷ [])
then_one t l no_more is = one_more is no_more
then_one t l (one_more first more) is = one_more first (then_one t l more is)

pub no_tokens : (text : List ℕ) (ls : List Lexeme) → ls ≡ [] → Sorted text [] ls
no_tokens text ls e = subst (λ ms. Sorted text [] ms) (sym e) no_more

pub one_token : (text : List ℕ) (ts : List Token) (i : ℕ) (d : Token) (ls ms : List Lexeme) (l : Lexeme) → i < length ts
    → Sorted text (take i ts) ls → IsLexeme text (get_or ts i d) l → ms ≡ ls ++ l ∷ [] → Sorted text (take (i + 1) ts) ms
one_token text ts i d ls ms l within before is e =
    subst (λ rs. Sorted text rs ms) (sym (take_more ts i d within))
    (subst (λ rs. Sorted text (take i ts ++ get_or ts i d ∷ []) rs) (sym e) (then_one (get_or ts i d) l before is))
