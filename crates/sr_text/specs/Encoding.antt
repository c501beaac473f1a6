-- Code points, code units and bytes, as functions (ECMA-262 11.1).
use Rattle.std.specs.Prelude.{ℕ, List, [], ◌∷◌, ◌++◌}
use Rattle.std.specs.Char.Escape.{encode_utf16}
use Rattle.std.specs.Char.Utf16.{utf16_lossy_chars}
use Rattle.std.specs.Str.{encode_utf8_all}

-- The code units of code points (ECMA-262 11.1.2): one below 0x10000, else a pair of surrogates (11.1.1).
abbrev pub utf16_of : List ℕ → List ℕ
utf16_of [] = []
utf16_of (point ∷ points) = encode_utf16 point ++ utf16_of points

-- The code points of code units (ECMA-262 11.1.5): of each pair of surrogates the one that it stands for (11.1.3),
-- of any other unit itself, and U+FFFD for each surrogate that is in no pair.
abbrev pub points_of : List ℕ → List ℕ
points_of units = utf16_lossy_chars units

-- the code units in UTF-8, each surrogate that is in no pair as U+FFFD
abbrev pub utf8_of : List ℕ → List ℕ
utf8_of units = encode_utf8_all (points_of units)
