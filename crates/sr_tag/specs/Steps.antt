-- How the text of a path is read step by step.
use Rattle.std.specs.Prelude.{◌≡◌, ◌≢◌, ℕ, ◌≤◌, ◌==◌, min, Bool, List, [], ◌∷◌, ◌++◌, length, take}
use Rattle.sr_tag.specs.Path.{IsChildNumber, AreChildNumbers, step_text, path_text}

abbrev pub is_point : ℕ → Bool
is_point c = c == 46

abbrev pub HasNoPoint : List ℕ → Type 0
HasNoPoint [] = Unit {0}
HasNoPoint (c ∷ cs) = (c ≢ 46) × HasNoPoint cs

-- where a step may end: at the end of the text, or before the point of the next
abbrev pub IsBoundary : List ℕ → Type 0
IsBoundary [] = Unit {0}
IsBoundary (c ∷ cs) = c ≡ 46

-- the step of n is at the front of the text, and more follows it
pub record IsStep (text : List ℕ) (n : ℕ) (more : List ℕ) : Type 0 where
  pub number : IsChildNumber n
  pub whole : text ≡ step_text n ++ more
  pub end : IsBoundary more

-- the text is that of numbers which the array begins with where they are at most 63; it counts them, up to 64
pub record HasNumbers (text array : List ℕ) (count : ℕ) : Type 0 where
  pub numbers : List ℕ
  pub each : AreChildNumbers numbers
  pub whole : text ≡ path_text numbers
  pub counted : count ≡ min (length numbers) 64
  pub held : count ≤ 63 → take count array ≡ numbers
