-- What a loader answers, and what it remembers of that.
use Rattle.std.specs.Prelude.{◌≡◌, ◌==◌, ℕ, List, map, Option, None, Some, Result, Ok, Err}
use Rattle.std.specs.Map.{lookup}
use Rattle.std.specs.Cmp.Lexicographic.{pointwise}
use Rattle.std.specs.declared.alloc.AllocError.{AllocError}
use Rattle.std.specs.declared.alloc.Global.{Global}
use Rattle.std.specs.declared.vec.Vec.{Vec}
use Rattle.sr_outside.specs.declared.loader.Loaded.{Loaded}
use Rattle.sr_outside.specs.declared.loader.Loaded.TheVariants.{Text, Absent, Failed}

-- the answer of a file that is there, or is not
abbrev pub answer_of : Option (List ℕ) → Loaded
answer_of None = Absent
answer_of (Some bytes) = Text bytes

-- the answer of these files to a name: of two files with one name the first counts
abbrev pub answer_in : List (List ℕ × List ℕ) → List ℕ → Loaded
answer_in files name = answer_of (lookup (pointwise ◌==◌ name) files)

-- the answer is that of what is held, where that is told and the loader did not fail
abbrev pub IsHeld : Option (List (List ℕ × List ℕ)) → List ℕ → Result Loaded AllocError → Type 0
IsHeld None name answer = Unit {0}
IsHeld (Some files) name (Ok Failed) = Unit {0}
IsHeld (Some files) name (Ok a) = a ≡ answer_in files name
IsHeld (Some files) name (Err e) = Unit {0}

-- the name and the answer, which a loader remembers; nothing after want of memory
abbrev pub last_of : List ℕ → Result Loaded AllocError → Option (List ℕ × Loaded)
last_of name (Ok a) = Some (name, a)
last_of name (Err e) = None

-- names and contents
abbrev pub files_of : List (Vec ℕ Global × Vec ℕ Global) → List (List ℕ × List ℕ)
files_of files = map (λ file. (file.0.items, file.1.items)) files
