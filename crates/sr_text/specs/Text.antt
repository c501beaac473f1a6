-- The strings of ECMA-262 6.1.4: sequences of 16-bit code units.
use Rattle.std.specs.Prelude.{ℕ, ◌<◌, ◌≤◌, List, length, All}

-- code units, few enough for a string
pub record IsText (units : List ℕ) : Type 0 where
  pub within : length units ≤ 16777216
  pub range : All (λ u. u < 65536) units
