-- What the rules of templates read, and where they fail.
use Rattle.std.proofs.Common.{◌≡◌, ℕ, zero, suc, ◌+◌, ◌≤◌, ◌<◌, true, List, [], ◌∷◌, ◌++◌, length, Ok, Err, refl, sym, ap, ◌∙◌, subst, append_assoc, append-nil, arith, ◌⊎◌, inl, inr}
use Rattle.sr_syntax.specs.declared.sorts.Sort.TheVariants as k
use Rattle.sr_syntax.specs.declared.sorts.Sort.{Sort}
use Rattle.sr_syntax.specs.declared.sorts.Lexeme.{Lexeme}
use Rattle.sr_syntax.specs.declared.grown.Grown.{Grown}
use Rattle.sr_syntax.specs.declared.grown.Pieces.{Pieces}
use Rattle.sr_syntax.specs.Input.{Input, Outcome, Parser, ◌>>=◌, and_then, sort, left, text, text_of, next, refuse}
use Rattle.sr_syntax.specs.Operators.{one_piece, with_piece}
use Rattle.sr_syntax.specs.Expressions.{expression, piece_by, pieces_from, pieces}
use Rattle.sr_syntax.specs.Grammar.{tree}
use Rattle.sr_grammar.specs.Derivations.{Derives, Substitutions, Expression}
use Rattle.sr_grammar.specs.Derivations as g
use Rattle.sr_grammar.proofs.Steps.{inp, Any, Parses, Both, both, Either, first, second, Here, here, map, then_any, given, refused, turns, finish, pred, done}
use Rattle.sr_grammar.proofs.Depths.{lift, lift_substitutions}
use Rattle.sr_grammar.proofs.Facts.{Derived, derived, Mapped, mapped, mapping, Start, start, token}
use Rattle.sr_grammar.proofs.Lists.{Nested, expressions}
use Rattle.sr_grammar.proofs.Beginnings.{Begun, Of, carry, begun_whole, begun_of, Turned, onwards, at_end, Broken, broken, turned_runs, turned_breaks, turned_grows}
use Rattle.sr_grammar.proofs.Peeks.{Sorted, by_sort, Texted, texted, taking_text}

-- the substitutions so far
abbrev Before : List ℕ → ℕ → List Lexeme → List Lexeme → Pieces → Type 0
Before text d us ts all = Substitutions d text us all

-- and the last one, with the last piece
pub data Ended (text : List ℕ) : ℕ → List Lexeme → Pieces → Type 0 where
  ended : {d : ℕ} {us vs : List Lexeme} {all : Pieces} {x : Grown} → Substitutions d text us all → Derives d (Expression true) vs x → (u : Lexeme) → u.sort ≡ k.TemplateTail
      → Ended text d (us ++ (vs ++ u ∷ [])) (with_piece all x (text_of u.content))

abbrev At_last : List ℕ → ℕ → List Lexeme → List Lexeme → Pieces → Type 0
At_last text d us ts all = Ended text d us all

abbrev piece_step : Pieces → Grown → Sort → Parser (Pieces ⊎ Pieces)
piece_step all x k.TemplateMiddle = (λ i. done (text i) (next i)) >>= (λ text i. Ok (inl (with_piece all x text), i))
piece_step all x k.TemplateTail = (λ i. done (text i) (next i)) >>= (λ text i. Ok (inr (with_piece all x text), i))
piece_step all x _ = refuse

abbrev pieces_step : ℕ → Pieces → Parser (Pieces ⊎ Pieces)
pieces_step e all = expression (tree e) true >>= (λ x. (λ i. done (sort i) i) >>= (λ s. piece_step all x s))

-- a piece behind an expression
data Piece (all : Pieces) (x : Grown) (l n : ℕ) : List Lexeme → List Lexeme → Pieces ⊎ Pieces → Type 0 where
  middle : {ts : List Lexeme} {o : Pieces ⊎ Pieces} (t : Lexeme) → t.sort ≡ k.TemplateMiddle → o ≡ inl (with_piece all x (text_of t.content)) → Piece all x l n (t ∷ []) ts o
  tail : {ts : List Lexeme} {o : Pieces ⊎ Pieces} (t : Lexeme) → t.sort ≡ k.TemplateTail → o ≡ inr (with_piece all x (text_of t.content)) → Piece all x l n (t ∷ []) ts o

middle_fact : {l n : ℕ} {us ts : List Lexeme} {all : Pieces} {x : Grown} {o : Pieces ⊎ Pieces} → Mapped (Texted k.TemplateMiddle) (λ text. inl (with_piece all x text)) l n us ts o → Piece all x l n us ts o
middle_fact {all = all} {x = x} (mapped v (texted t c e) is) = middle t c (is ∙ ap (λ text. inl (with_piece all x text)) e)

tail_fact : {l n : ℕ} {us ts : List Lexeme} {all : Pieces} {x : Grown} {o : Pieces ⊎ Pieces} → Mapped (Texted k.TemplateTail) (λ text. inr (with_piece all x text)) l n us ts o → Piece all x l n us ts o
tail_fact {all = all} {x = x} (mapped v (texted t c e) is) = tail t c (is ∙ ap (λ text. inr (with_piece all x text)) e)

piece_parses : {d : ℕ} (all : Pieces) (x : Grown) (s : Sort) → Parses (λ e. piece_step all x s) d (Sorted s) (Piece all x) Here
piece_parses all x k.TemplateMiddle = map (λ l n us ts o r. middle_fact r) (λ l n us ts r. elim r [ ]) (mapping (taking_text k.TemplateMiddle (λ e. cc)) (λ text. inl (with_piece all x text)))
piece_parses all x k.TemplateTail = map (λ l n us ts o r. tail_fact r) (λ l n us ts r. elim r [ ]) (mapping (taking_text k.TemplateTail (λ e. cc)) (λ text. inr (with_piece all x text)))
piece_parses all x _ = given (λ ts m. tt) (map (λ l n us ts o r. elim r [ ]) (λ l n us ts r. r) refused)

some_more : (us : List Lexeme) (t : Lexeme) → 0 < length (us ++ t ∷ [])
some_more [] t = omega arith
some_more (u ∷ us) t = omega arith

pieces_fact : {text : List ℕ} {d l n : ℕ} {us ts : List Lexeme} {all : Pieces} {o : Pieces ⊎ Pieces}
    → Both (Derived d (Expression true)) (λ x. Piece all x) l n us ts o → Turned (Before text) (At_last text) d all l n us ts o
pieces_fact {all = all} (both {us} {x} (derived h b) (middle t c is)) = onwards (with_piece all x (text_of t.content)) (λ vs w. g.one_substitution w h t c) (some_more us t) is
pieces_fact {all = all} (both {us} {x} (derived h b) (tail t c is)) = at_end (with_piece all x (text_of t.content)) (λ vs w. ended w h t c) is

-- an expression that is begun begins the last one
end_template : {text : List ℕ} {d : ℕ} {vs us : List Lexeme} {all : Pieces} → Substitutions d text vs all → Begun (Of (Expression true)) us → Begun (Ended text) (vs ++ us)
end_template {text} {d} {vs} {us} {all} w b = carry vs (λ e ws x h. record {
  depth = d + e;
  more = token k.TemplateTail ∷ [];
  made = with_piece all x [];
  has = subst (λ zs. Ended text (d + e) zs (with_piece all x [])) (sym (append_assoc vs ws (token k.TemplateTail ∷ [])))
      (ended (lift_substitutions d (d + e) (omega arith) w) (lift e (d + e) (omega arith) h) (token k.TemplateTail) refl);
}) b

pieces_fault : {text : List ℕ} {d l n : ℕ} {us ts : List Lexeme} {all : Pieces}
    → Either (Start (Expression true)) (Derived d (Expression true)) (λ x. Here) l n us ts → Broken (Before text) (Ended text) d all l n us ts
pieces_fault (first (start s)) = broken (λ vs w. end_template w (begun_of s))
pieces_fault {d = d} (second {us} {x} (derived h b) here) =
    broken (λ vs w. end_template w (begun_whole d (us ++ []) x (subst (λ zs. Derives d (Expression true) zs x) (sym (append-nil us)) h)))

pub data Templated (text : List ℕ) (d l n : ℕ) (us ts : List Lexeme) (all : Pieces) : Type 0 where
  templated : Ended text d us all → Templated text d l n us ts all

pub data NotTemplated (text : List ℕ) (l n : ℕ) (us ts : List Lexeme) : Type 0 where
  not_templated : Begun (Ended text) us → NotTemplated text l n us ts

module _ (text : List ℕ) (d : ℕ) (nest : Nested d) where
  abbrev pieces_again : ℕ → ℕ → Pieces ⊎ Pieces → Parser Pieces
  pieces_again = finish (λ m e all. pieces_from (tree e) m all) pieces_step 1 d (Turned (Before text) (At_last text) d) (Broken (Before text) (Ended text) d)

  piece_turn : (m e : ℕ) (all : Pieces) (x : Grown) (s : Sort) (i : Input)
      → piece_by (tree e) (pieces_from (tree e) m) all x s i ≡ and_then (piece_step all x s i) (pieces_again m e)
  piece_turn m e all x k.TemplateMiddle i = refl
  piece_turn m e all x k.TemplateTail i = refl
  piece_turn m e all x _ i = refl

  pieces_turn : (m e : ℕ) (all : Pieces) (o : Outcome Grown)
      → and_then o (λ x. (λ i. done (sort i) i) >>= (λ s. piece_by (tree e) (pieces_from (tree e) m) all x s))
      ≡ and_then (and_then o (λ x. (λ i. done (sort i) i) >>= (λ s. piece_step all x s))) (pieces_again m e)
  pieces_turn m e all (Ok p) = piece_turn m e all p.0 (sort p.1) p.1
  pieces_turn m e all (Err r) = refl

  pieces_unrolls : (m e : ℕ) (found : Pieces) (all : List Lexeme) (l n : ℕ) → 1 + length all ≤ m
      → pieces_from (tree e) m found (inp all l n) ≡ and_then (pieces_step e found (inp all l n)) (pieces_again (pred m) e)
  unfolding pieces_from
  pieces_unrolls zero e found all l n far = absurd (omega arith)
  pieces_unrolls (suc m) e found all l n far = pieces_turn m e found (expression (tree e) true (inp all l n))

  pieces_steps : (all : Pieces) → Parses (λ e. pieces_step e all) d Any (Turned (Before text) (At_last text) d all) (Broken (Before text) (Ended text) d all)
  pieces_steps all = map (λ l n us ts x r. pieces_fact r) (λ l n us ts r. pieces_fault r)
      (then_any (expressions true d nest) (λ x. by_sort (λ e s. piece_step all x s) (piece_parses all x)))

  pub templating : Parses (λ e. pieces (tree e) text) d Any (Templated text d) (NotTemplated text)
  unfolding pieces left
  templating = map (λ l n us ts x r. templated (turned_runs r [] g.no_substitution)) (λ l n us ts r. not_templated (turned_breaks r [] g.no_substitution))
      (turns (λ m e all. pieces_from (tree e) m all) pieces_step 1 d (Turned (Before text) (At_last text) d) (Broken (Before text) (Ended text) d)
      pieces_unrolls pieces_steps turned_grows (λ i. left i + 1) (λ all l n. omega arith) (one_piece text))
