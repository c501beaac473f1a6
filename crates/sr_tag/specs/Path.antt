-- The path of a realm: from the initial realm, whose path is 0, the number of each realm on the way to it among its parent's
-- children. Here a path is the list of these numbers, without the 0.
use Rattle.std.specs.Prelude.{◌≡◌, ℕ, ◌+◌, ◌^◌, ◌<◌, ◌≤◌, List, [], ◌∷◌, length}
use Rattle.std.specs.List.{flat_map}
use Rattle.std.specs.Fmt.{decimal}

-- the number of a child, from 1 to 2^32 - 1
pub record IsChildNumber (n : ℕ) : Type 0 where
  pub from : 1 ≤ n
  pub to : n < 2 ^ 32

abbrev pub AreChildNumbers : List ℕ → Type 0
AreChildNumbers [] = Unit {0}
AreChildNumbers (n ∷ numbers) = IsChildNumber n × AreChildNumbers numbers

-- how many numbers a path has, the 0 among them
abbrev pub number_count : List ℕ → ℕ
number_count numbers = 1 + length numbers

-- a path has at most 64 numbers
pub record IsPath (numbers : List ℕ) : Type 0 where
  pub each : AreChildNumbers numbers
  pub count : number_count numbers ≤ 64

-- `.` and a number in decimal
abbrev pub step_text : ℕ → List ℕ
step_text n = 46 ∷ decimal n

-- the text of a path: `0`, and then each step
abbrev pub path_text : List ℕ → List ℕ
path_text numbers = 48 ∷ flat_map step_text numbers

-- the text is `0` and then steps, however many
abbrev pub IsPathText : List ℕ → Type 0
IsPathText text = (numbers : List ℕ) × AreChildNumbers numbers × (text ≡ path_text numbers)

-- it is so with more than 64 numbers
abbrev pub IsLongPathText : List ℕ → Type 0
IsLongPathText text = (numbers : List ℕ) × AreChildNumbers numbers × (text ≡ path_text numbers) × (64 < number_count numbers)

-- no two paths have one text
abbrev pub TextDeterminesPath : Type 0
TextDeterminesPath = (p q : List ℕ) → AreChildNumbers p → AreChildNumbers q → path_text p ≡ path_text q → p ≡ q
