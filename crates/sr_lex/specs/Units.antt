-- The code units that the tokens of a text are told by.
use Rattle.std.specs.Prelude.{ℕ, Bool, false, ◌||◌, ◌==◌, nat_le, ◌&&◌, List, [], ◌∷◌}
use Rattle.sr_num.specs.StringToNumber as trimmed

abbrev pub line_feed : ℕ
line_feed = 0x000A

abbrev pub carriage_return : ℕ
carriage_return = 0x000D

-- LF, CR, LINE SEPARATOR, PARAGRAPH SEPARATOR (ECMA-262 12.3), which ToNumber trims too
unfoldable pub is_line_end : ℕ → Bool
is_line_end u = trimmed.is_line_terminator u

-- the unit lies from the first to the last of a range
abbrev pub is_between : ℕ → ℕ → ℕ → Bool
is_between first last u = nat_le first u && nat_le u last

-- ECMA-262 12.2: TAB, VT, FF, ZWNBSP and the space separators, which ToNumber trims too
unfoldable pub is_white_space : ℕ → Bool
is_white_space u = trimmed.is_white_space u

-- 0 to 9
unfoldable pub is_digit : ℕ → Bool
is_digit u = is_between 0x30 0x39 u

-- a letter A to Z, a to z, `_` or `$`
unfoldable pub is_name_start : ℕ → Bool
is_name_start u = is_between 0x41 0x5A u || is_between 0x61 0x7A u || u == 0x5F || u == 0x24

-- these or a digit
unfoldable pub is_name_part : ℕ → Bool
is_name_part u = is_name_start u || is_digit u

-- the first of the units is a digit
abbrev pub begins_with_digit : List ℕ → Bool
begins_with_digit [] = false
begins_with_digit (u ∷ us) = is_digit u

-- and it is this one
abbrev pub begins_with : ℕ → List ℕ → Bool
begins_with c [] = false
begins_with c (u ∷ us) = u == c
