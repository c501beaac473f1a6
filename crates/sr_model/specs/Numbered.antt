-- Lists whose items have numbers: the first one has the number 1. No item has the number 0.
use Rattle.std.specs.Prelude.{ℕ, zero, suc, List, slice_get, slice_set, Option, None}
use Rattle.std.specs.Option.{option_map_or}

module _ {A : Type 0} where
  -- the n-th item
  abbrev pub item : List A → ℕ → Option A
  item xs zero = None
  item xs (suc n) = slice_get xs n

  -- the items after a change of the n-th
  abbrev pub change : List A → ℕ → (A → A) → List A
  change xs zero f = xs
  change xs (suc n) f = option_map_or (λ x. slice_set xs n (f x)) (slice_get xs n) xs
