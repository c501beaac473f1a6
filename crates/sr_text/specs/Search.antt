-- Where a string stands in another.
use Rattle.std.specs.Prelude.{◌≡◌, ℕ, ◌+◌, ◌<◌, ◌≤◌, List, length, slice_range}

-- the part stands in the whole at this place (ECMA-262 6.1.4.1, step 4)
pub record StandsAt (whole part : List ℕ) (at : ℕ) : Type 0 where
  pub within : at + length part ≤ length whole
  pub same : slice_range whole at (at + length part) ≡ part

-- it stands at this place and at none between `from` and it (ECMA-262 6.1.4.1)
pub record IsFirstFrom (whole part : List ℕ) (from at : ℕ) : Type 0 where
  pub after : from ≤ at
  pub stands : StandsAt whole part at
  pub first : (place : ℕ) → from ≤ place → place < at → ¬ (StandsAt whole part place)

abbrev pub NowhereFrom : List ℕ → List ℕ → ℕ → Type 0
NowhereFrom whole part from = (place : ℕ) → from ≤ place → ¬ (StandsAt whole part place)

-- it stands at this place and at none between it and `from` (ECMA-262 6.1.4.2)
pub record IsLastUpTo (whole part : List ℕ) (from at : ℕ) : Type 0 where
  pub before : at ≤ from
  pub stands : StandsAt whole part at
  pub last : (place : ℕ) → at < place → place ≤ from → ¬ (StandsAt whole part place)

abbrev pub NowhereUpTo : List ℕ → List ℕ → ℕ → Type 0
NowhereUpTo whole part from = (place : ℕ) → place ≤ from → ¬ (StandsAt whole part place)
