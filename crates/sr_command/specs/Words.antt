-- The words of the command.
use Rattle.std.specs.Prelude.{◌==◌, ℕ, Bool, false, not, ◌||◌, ◌&&◌, if◌then◌else◌, nat_eq, nat_le, List, [], ◌∷◌, Option, None, Some, option_and_then, codes}
use Rattle.std.specs.List.{list_all, list_any, ends_with}
use Rattle.std.specs.Str.{bytes_eq}
use Rattle.std.specs.Str.Parse.{digits_value}

-- what the words ask for: a bound of steps, and a file
pub record Command : Type 0 where
  pub bound : ℕ
  pub name : List ℕ

-- the bound where none is given, and the largest one
abbrev pub default_bound : ℕ
default_bound = 10000000

abbrev pub largest_bound : ℕ
largest_bound = 1000000000

-- decimal digits alone, and no 0 before another digit
abbrev pub is_digit : ℕ → Bool
is_digit b = nat_le 0x30 b && nat_le b 0x39

abbrev pub is_numeral : List ℕ → Bool
is_numeral [] = false
is_numeral (b ∷ []) = is_digit b
is_numeral (b ∷ c ∷ bs) = is_digit b && not (b == 0x30) && list_all is_digit (c ∷ bs)

-- a bound is from 1 to the largest one
abbrev pub is_bound : ℕ → Bool
is_bound n = nat_le 1 n && nat_le n largest_bound

abbrev pub bound_of : List ℕ → Option ℕ
bound_of word = if is_numeral word && is_bound (digits_value 10 word) then Some (digits_value 10 word) else None

-- a file's name is not empty and does not begin with `-`
abbrev pub file_of : List ℕ → Option (List ℕ)
file_of [] = None
file_of (b ∷ bs) = if b == 0x2D then None else Some (b ∷ bs)

-- the command of a bound and a file, where both are there
abbrev pub command_of : Option ℕ → Option (List ℕ) → Option Command
command_of None name = None
command_of (Some bound) None = None
command_of (Some bound) (Some name) = Some (record { bound = bound; name = name })

-- what is asked for by `FILE`, or by `--steps N FILE`. Other words are refused
abbrev pub command : List (List ℕ) → Option Command
command (file ∷ []) = command_of (Some default_bound) (file_of file)
command (option ∷ steps ∷ file ∷ []) = if bytes_eq option (codes "--steps") then command_of (bound_of steps) (file_of file) else None
command _ = None

-- a name that is not built: one with a `/`, or a module's, which ends in `.mjs`
abbrev pub is_unbuilt_name : List ℕ → Bool
is_unbuilt_name name = list_any (λ b. b == 0x2F) name || ends_with nat_eq name (codes ".mjs")

-- the file that the loader is asked for, where there is one
abbrev pub asked : List (List ℕ) → Option (List ℕ)
asked words = option_and_then (λ c. if is_unbuilt_name c.name then None else Some c.name) (command words)
