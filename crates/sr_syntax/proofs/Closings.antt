-- What stands ahead of a parenthesis.
use Rattle.std.proofs.Common.{◌≡◌, ℕ, zero, suc, List, [], ◌∷◌, ◌++◌, length, reverse, refl, ap, ◌∙◌, sym, subst}
use Rattle.std.proofs.lemmas.List.{reverse-reverse, reverse-append}
use Rattle.sr_syntax.specs.declared.sorts.Sort.{Sort}
use Rattle.sr_syntax.specs.declared.sorts.Sort.TheVariants as k
use Rattle.sr_syntax.specs.Lexemes.{Behind, behind_close, closings, but_first, first_sort, ahead_of}

abbrev nth : ℕ → List Sort → Sort
nth n [] = k.End
nth zero (s ∷ ss) = s
nth (suc n) (s ∷ ss) = nth n ss

nth_behind : (n : ℕ) (ss : List Sort) → nth (suc n) ss ≡ nth n (but_first ss)
nth_behind n [] = refl
nth_behind n (s ∷ ss) = refl

closes : (n : ℕ) (ss : List Sort) → behind_close n ss ≡ nth n (closings ss)
closes n [] = refl
closes n (k.LeftParenthesis ∷ ss) = closes (suc n) ss ∙ nth_behind n (closings ss)
closes zero (k.RightParenthesis ∷ ss) = refl
closes (suc n) (k.RightParenthesis ∷ ss) = closes n ss
closes n (s ∷ ss) = closes n ss

from_last : (xs ys : List Sort) (y : Sort) → reverse xs ≡ ys ++ y ∷ [] → xs ≡ y ∷ reverse ys
from_last xs ys y e = sym (reverse-reverse xs) ∙ (ap reverse e ∙ reverse-append ys (y ∷ []))

from_none : (xs : List Sort) → reverse xs ≡ [] → xs ≡ []
from_none xs e = sym (reverse-reverse xs) ∙ ap reverse e

-- a parenthesis opens, and one closes it
pub closed : (ss old new : List Sort) (next behind sort : Sort) → Behind ss old next → old ≡ new ++ behind ∷ [] → sort ≡ k.LeftParenthesis
    → (behind ≡ ahead_of sort ss) × Behind (sort ∷ ss) new sort
closed ss old new follows behind sort b e is =
    let c : closings ss ≡ behind ∷ reverse new = from_last (closings ss) new behind (sym b.0 ∙ e) in
    subst (λ s. (behind ≡ ahead_of s ss) × Behind (s ∷ ss) new s) (sym is)
    (sym (closes 0 ss ∙ ap (nth 0) c), (sym (ap (λ x. reverse (but_first x)) c ∙ reverse-reverse new), refl))

-- or none does
pub not_closed : (ss old new : List Sort) (next sort : Sort) → Behind ss old next → old ≡ [] → new ≡ [] → sort ≡ k.LeftParenthesis
    → (k.End ≡ ahead_of sort ss) × Behind (sort ∷ ss) new sort
not_closed ss old new follows sort b e f is =
    let c : closings ss ≡ [] = from_none (closings ss) (sym b.0 ∙ e) in
    subst (λ s. (k.End ≡ ahead_of s ss) × Behind (s ∷ ss) new s) (sym is)
    (sym (closes 0 ss ∙ ap (nth 0) c), (f ∙ sym (ap (λ x. reverse (but_first x)) c), refl))
