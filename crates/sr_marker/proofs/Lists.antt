-- A list with one more at its end, cut back.
use Rattle.std.proofs.Common.{◌≡◌, ℕ, List, [], ◌∷◌, ◌++◌, take, length, ap, ◌∙◌}
use Rattle.std.proofs.Math.Seq.{take-append_seam}

pub cut_back : {A : Type 0} → (n : ℕ) (xs ys : List A) (x : A) → n ≡ length xs → ys ≡ xs ++ (x ∷ []) → take n ys ≡ xs
cut_back n xs ys x e f = ap (λ (i : ℕ). take i ys) e ∙ (ap (take (length xs)) f ∙ take-append_seam xs (x ∷ []))
