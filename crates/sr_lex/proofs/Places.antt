-- Places of a text and the units from there on.
use Rattle.std.proofs.Common.{◌≡◌, ℕ, zero, suc, ◌+◌, ◌-◌, ◌≤◌, ◌<◌, List, [], ◌∷◌, take, drop, refl, sym, ap, ◌∙◌, subst, arith, ◌⊎◌, inl, inr}
use Rattle.std.specs.Prelude.{Some, None, slice_get, slice_range}
use Rattle.std.proofs.lemmas.List.{drop-drop}
use Rattle.sr_lex.specs.Tokens.{IsFirst}

get_here : (text : List ℕ) (at : ℕ) → slice_get (drop at text) 0 ≡ slice_get text at
get_here text zero = refl
get_here [] (suc at) = refl
get_here (u ∷ us) (suc at) = get_here us at

pub get_front : (text : List ℕ) (at u : ℕ) (us : List ℕ) → drop at text ≡ u ∷ us → slice_get text at ≡ Some u
get_front text at u us e = sym (get_here text at) ∙ ap (λ (xs : List ℕ). slice_get xs 0) e

pub get_past : (text : List ℕ) (at : ℕ) → drop at text ≡ [] → slice_get text at ≡ None
get_past text at e = sym (get_here text at) ∙ ap (λ (xs : List ℕ). slice_get xs 0) e

pub drop_next : (text : List ℕ) (at u : ℕ) (us : List ℕ) → drop at text ≡ u ∷ us → drop (at + 1) text ≡ us
drop_next text at u us e = sym (drop-drop 1 at text) ∙ ap (drop 1) e

front_get : (us : List ℕ) (u : ℕ) → slice_get us 0 ≡ Some u → us ≡ u ∷ drop 1 us
front_get [] u e = cc
front_get (v ∷ us) u e = cc

pub drop_front : (text : List ℕ) (at u : ℕ) → slice_get text at ≡ Some u → drop at text ≡ u ∷ drop (at + 1) text
drop_front text at u e = front_get (drop at text) u (get_here text at ∙ e) ∙ ap (λ (xs : List ℕ). u ∷ xs) (drop-drop 1 at text)

pub range_is : (text : List ℕ) (at n : ℕ) → slice_range text at (at + n) ≡ take n (drop at text)
range_is text at n = let e : at + n - at ≡ n = omega arith in rw e refl

-- the first two units
pub two_units : (c d : ℕ) (us : List ℕ) → take 2 us ≡ c ∷ d ∷ [] → us ≡ c ∷ d ∷ drop 2 us
two_units c d [] e = cc
two_units c d (u ∷ []) e = cc
two_units c d (u ∷ v ∷ us) e = cc

pub later : (at k : ℕ) → at ≤ k → (k ≡ at) ⊎ (at + 1 ≤ k)
later at k h = grind arith

-- a fact that holds nowhere before, from the next place on
pub first_here : (Fact : ℕ → Type 0) (at : ℕ) → Fact at → IsFirst Fact at at
first_here Fact at h = record { after = omega arith; holds = h; earlier = λ k a b. absurd (omega arith) }

pub first_later : (Fact : ℕ → Type 0) (at to : ℕ) → ¬ Fact at → IsFirst Fact (at + 1) to → IsFirst Fact at to
first_later Fact at to h f =
    let a = f.after in
    record {
      after = omega arith;
      holds = f.holds;
      earlier = λ k from_at before. elim (later at k from_at) [ inl e ↦ λ p. h (subst Fact e p) | inr after ↦ f.earlier k after before ];
    }

order : (p q : ℕ) → (p < q) ⊎ ((p ≡ q) ⊎ (q < p))
order p q = grind arith

pub one_first : (Fact : ℕ → Type 0) (at p q : ℕ) → IsFirst Fact at p → IsFirst Fact at q → p ≡ q
one_first Fact at p q a b = elim (order p q) [
  | inl less ↦ absurd (b.earlier p a.after less a.holds)
  | inr r ↦ elim r [ inl e ↦ e | inr less ↦ absurd (a.earlier q b.after less b.holds) ]
]
