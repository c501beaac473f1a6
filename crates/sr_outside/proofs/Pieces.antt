-- Bytes that are written piece by piece.
use Rattle.std.proofs.Common.{◌≡◌, ℕ, ◌≤◌, ◌+◌, ◌-◌, ◌++◌, List, length, take, drop, Option, None, Some, ap, ◌∙◌, arith, append_assoc, length-drop}
use Rattle.std.proofs.Math.Seq.{take-add}
use Rattle.std.proofs.lemmas.List.{take_all}
use Rattle.std.specs.Io.KnownBytes.{Appends}

-- the first n bytes were added
pub record IsTaken (old new : Option (List ℕ)) (bytes : List ℕ) (n : ℕ) : Type 0 where
  pub within : n ≤ length bytes
  pub added : Appends old new (take n bytes)

-- what is added in two steps is added in one
pub appends_both : (old mid new : Option (List ℕ)) (xs ys : List ℕ) → Appends old mid xs → Appends mid new ys → Appends old new (xs ++ ys)
appends_both None mid new xs ys first second = tt
appends_both (Some o) None new xs ys first second = absurd first
appends_both (Some o) (Some m) None xs ys first second = absurd second
appends_both (Some o) (Some m) (Some n) xs ys first second = second ∙ ap (λ bytes. bytes ++ ys) first ∙ append_assoc o xs ys

-- after the first `at` bytes, n more of those that are left
pub taken_more : (old mid new : Option (List ℕ)) (bytes : List ℕ) (at n : ℕ) → IsTaken old mid bytes at
    → n ≤ length (take (length bytes - at) (drop at bytes)) → Appends mid new (take n (take (length bytes - at) (drop at bytes))) → IsTaken old new bytes (at + n)
taken_more old mid new bytes at n so within added =
    let left : length (drop at bytes) ≡ length bytes - at = length-drop at bytes in
    let whole : take (length bytes - at) (drop at bytes) ≡ drop at bytes = take_all _ (drop at bytes) (omega arith) in
    let fits = rw whole at within in
    record {
      within = omega (arith, so.within);
      added = rw (take-add at n bytes) (appends_both old mid new (take at bytes) (take n (drop at bytes)) so.added (rw whole at added));
    }
