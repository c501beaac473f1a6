-- What is left of a list.
use Rattle.std.proofs.Common.{◌≡◌, refl, ℕ, zero, suc, List, [], ◌∷◌, drop, None, Some}
use Rattle.std.specs.Prelude.{slice_get}

pub here_some : {A : Type 0} (xs : List A) (n : ℕ) (x : A) → Some x ≡ slice_get xs n → drop n xs ≡ x ∷ drop (suc n) xs
here_some [] zero x h = cc
here_some [] (suc n) x h = cc
here_some (y ∷ xs) zero x h = cc
here_some (y ∷ xs) (suc n) x h = here_some xs n x h

pub here_none : {A : Type 0} (xs : List A) (n : ℕ) → None ≡ slice_get xs n → drop n xs ≡ []
here_none [] zero h = refl
here_none [] (suc n) h = refl
here_none (y ∷ xs) zero h = cc
here_none (y ∷ xs) (suc n) h = here_none xs n h
