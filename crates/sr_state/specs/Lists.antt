-- How far a list is carried out.
use Rattle.std.specs.Prelude.{◌≡◌, ℕ, suc, List, [], ◌∷◌, drop, Option, None, Some}

-- what is left from a place on begins with this item, or nothing is left
abbrev pub Here : {A : Type 0} → ℕ → List A → Option A → Type 0
Here n xs None = drop n xs ≡ []
Here n xs (Some x) = drop n xs ≡ x ∷ drop (suc n) xs
