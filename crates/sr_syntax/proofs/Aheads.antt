-- What stands ahead of each token, from the last one on.
use Rattle.std.proofs.Common.{◌≡◌, ℕ, suc, ◌+◌, ◌-◌, ◌<◌, ◌≤◌, List, [], ◌∷◌, ◌++◌, length, get_or, take, drop, set, refl, ap, ◌∙◌, sym, subst, arith}
use Rattle.std.proofs.Math.Seq.{set-append_seam, get_or-append_seam, take-append_seam}
use Rattle.std.proofs.lemmas.List.{take_more, drop_more, length-take-le, append_assoc}
use Rattle.sr_lex.specs.declared.token.Token.{Token}
use Rattle.sr_syntax.specs.declared.sorts.Sort.{Sort}
use Rattle.sr_syntax.specs.declared.sorts.Lexeme.{Lexeme}
use Rattle.sr_syntax.specs.Lexemes.{Behind, ahead_of, sorts_of, with_aheads, Lexemes, none, one, Sorted, no_more, one_more}

abbrev pub told : Lexeme → Sort → Lexeme
told l s = record l { ahead = s }

-- the tokens up to one of them, and that one
before : (all rest : List Lexeme) (j : ℕ) (d : Lexeme) → j < length all → take (j + 1) all ++ rest ≡ take j all ++ get_or all j d ∷ rest
before all rest j d within = ap (λ xs. xs ++ rest) (take_more all j d within) ∙ append_assoc (take j all) (get_or all j d ∷ []) rest

here : (all now rest : List Lexeme) (j : ℕ) (d : Lexeme) → j < length all → now ≡ take (j + 1) all ++ rest → get_or now j d ≡ get_or all j d
here all now rest j d within e =
    let n : length (take j all) ≡ j = length-take-le j all (omega arith) in
    ap (λ xs. get_or xs j d) (e ∙ before all rest j d within)
    ∙ (ap (λ k. get_or (take j all ++ get_or all j d ∷ rest) k d) (sym n) ∙ get_or-append_seam (take j all) (get_or all j d) rest d)

put : (all now rest : List Lexeme) (j : ℕ) (d l : Lexeme) → j < length all → now ≡ take (j + 1) all ++ rest → set now j l ≡ take j all ++ l ∷ rest
put all now rest j d l within e =
    let n : length (take j all) ≡ j = length-take-le j all (omega arith) in
    ap (λ xs. set xs j l) (e ∙ before all rest j d within)
    ∙ (ap (λ k. set (take j all ++ get_or all j d ∷ rest) k l) (sym n) ∙ set-append_seam (take j all) (get_or all j d) rest l)

abbrev first_or : Lexeme → List Lexeme → Lexeme
first_or d [] = d
first_or d (x ∷ xs) = x

any_default : (all : List Lexeme) (j : ℕ) (d e : Lexeme) → j < length all → get_or all j e ≡ get_or all j d
any_default all j d e within = ap (first_or d) (sym (drop_more all j e within) ∙ drop_more all j d within)

step : (all now : List Lexeme) (j : ℕ) (d e : Lexeme) (a : Sort) (new : List Sort) → j < length all → now ≡ take (j + 1) all ++ with_aheads (drop (j + 1) all)
    → (a ≡ ahead_of (get_or now j e).sort (sorts_of (drop (j + 1) all))) × Behind ((get_or now j e).sort ∷ sorts_of (drop (j + 1) all)) new (get_or now j e).sort
    → (set now j (told (get_or now j d) a) ≡ take j all ++ with_aheads (drop j all)) × Behind (sorts_of (drop j all)) new (get_or now j e).sort
step all now j d e a new within is p =
    let rest = drop (j + 1) all in
    let x = get_or all j d in
    let ex : get_or now j d ≡ x = here all now (with_aheads rest) j d within is in
    let ey : get_or now j e ≡ x = here all now (with_aheads rest) j e within is ∙ any_default all j d e within in
    let ea : a ≡ ahead_of x.sort (sorts_of rest) = p.0 ∙ ap (λ l. ahead_of l.sort (sorts_of rest)) ey in
    let sorts : (get_or now j e).sort ∷ sorts_of rest ≡ sorts_of (drop j all) = ap (λ l. l.sort ∷ sorts_of rest) ey ∙ ap sorts_of (sym (drop_more all j d within)) in (
      put all now (with_aheads rest) j d (told (get_or now j d) a) within is
          ∙ (ap (λ l. take j all ++ told l a ∷ with_aheads rest) ex
          ∙ (ap (λ s. take j all ++ told x s ∷ with_aheads rest) ea
          ∙ ap (λ xs. take j all ++ with_aheads xs) (sym (drop_more all j d within)))),
      subst (λ ss. Behind ss new (get_or now j e).sort) sorts p.1,
    )

pub one_before : (all now : List Lexeme) (i : ℕ) (d e : Lexeme) (a : Sort) (new : List Sort) → 0 < i → i ≤ length all → now ≡ take i all ++ with_aheads (drop i all)
    → (a ≡ ahead_of (get_or now (i - 1) e).sort (sorts_of (drop i all))) × Behind ((get_or now (i - 1) e).sort ∷ sorts_of (drop i all)) new (get_or now (i - 1) e).sort
    → (i - 1 ≤ length all)
    × ((set now (i - 1) (told (get_or now (i - 1) d) a) ≡ take (i - 1) all ++ with_aheads (drop (i - 1) all)) × Behind (sorts_of (drop (i - 1) all)) new (get_or now (i - 1) e).sort)
one_before all now i d e a new some within is p =
    let same : i ≡ i - 1 + 1 = omega arith in (
      omega arith,
      step all now (i - 1) d e a new (omega arith) (subst (λ n. now ≡ take n all ++ with_aheads (drop n all)) same is)
          (subst (λ n. (a ≡ ahead_of (get_or now (i - 1) e).sort (sorts_of (drop n all))) × Behind ((get_or now (i - 1) e).sort ∷ sorts_of (drop n all)) new (get_or now (i - 1) e).sort) same p),
    )

same_sorts : (ls : List Lexeme) → sorts_of (with_aheads ls) ≡ sorts_of ls
same_sorts [] = refl
same_sorts (l ∷ ls) = ap (λ ss. l.sort ∷ ss) (same_sorts ls)

-- sorted tokens, with what stands ahead of each
pub sorted_ahead : (text : List ℕ) (ts : List Token) (ls : List Lexeme) → Sorted text ts ls → Lexemes text ts (with_aheads ls)
sorted_ahead text _ _ no_more = none
sorted_ahead text _ _ (one_more {t = t} {l = l} {ts = ts} {ls = ls} is more) =
    one (record { sort = is.sort; content = is.content; from = is.from; to = is.to; line_before = is.line_before })
    (ap (ahead_of l.sort) (sym (same_sorts ls))) (sorted_ahead text ts ls more)

as_many : (ls : List Lexeme) → length (with_aheads ls) ≡ length ls
as_many [] = refl
as_many (l ∷ ls) = ap suc (as_many ls)

-- the same in a list of which all are borrowed
pub all_ahead : (text : List ℕ) (ts : List Token) (items lent new : List Lexeme) (n : ℕ) → n ≡ length items → lent ≡ items → new ≡ with_aheads lent
    → Sorted text ts items → Lexemes text ts (take n (new ++ drop (length new) items))
all_ahead text ts items lent new n long is told_all sorted =
    let whole : new ≡ with_aheads items = told_all ∙ ap with_aheads is in
    let e : n ≡ length new = long ∙ (sym (as_many items) ∙ ap length (sym whole)) in
    let same : take n (new ++ drop (length new) items) ≡ with_aheads items =
    ap (λ m. take m (new ++ drop (length new) items)) e ∙ (take-append_seam new (drop (length new) items) ∙ whole) in
    subst (λ ls. Lexemes text ts ls) (sym same) (sorted_ahead text ts items sorted)
