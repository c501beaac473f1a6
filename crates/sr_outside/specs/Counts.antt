-- Counts that only rise, up to the end of their type.
use Rattle.std.specs.Prelude.{◌≡◌, ℕ, ◌+◌, ◌-◌, ◌^◌, ◌≤◌, min, max}

-- a count is higher than before, or stands at its end
abbrev pub Rose : ℕ → ℕ → Type 0
Rose before now = min (before + 1) (2 ^ 64 - 1) ≤ now

-- a count is higher by one, or stands at its end
abbrev pub Raised : ℕ → ℕ → Type 0
Raised before now = now ≡ max before (min (before + 1) (2 ^ 64 - 1))
