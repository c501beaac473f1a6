-- String literals and their values (ECMA-262 12.9.4, 12.9.4.2): which units are one, and the units that it stands for.
use Rattle.std.specs.Prelude.{◌≡◌, ℕ, ◌+◌, ◌*◌, ◌<◌, ◌≤◌, Bool, false, not, cond, ◌||◌, ◌==◌, nat_lt, List, [], ◌∷◌, ◌++◌, length, fold, Option, Some, None, is_some, IsTrue}
use Rattle.std.specs.List.{list_all}
use Rattle.std.specs.Char.{digit_value}
use Rattle.std.specs.Char.Escape.{encode_utf16}
use Rattle.sr_lex.specs.Units.{line_feed, carriage_return, is_line_end, is_digit, begins_with_digit}

abbrev pub backslash : ℕ
backslash = 0x5C

-- `"` or `'`
unfoldable pub is_quote : ℕ → Bool
is_quote u = u == 0x22 || u == 0x27

-- A unit that stands for itself in a literal between these quotes. U+2028 and U+2029 do, and so do the two units of a
-- character above FFFF.
unfoldable pub is_plain : ℕ → ℕ → Bool
is_plain quote u = not (u == quote || u == backslash || u == line_feed || u == carriage_return)

-- what b, t, n, v, f and r stand for after a backslash
unfoldable pub single_escape : ℕ → Option ℕ
single_escape u =
    cond (u == 0x62) (Some 0x0008) (cond (u == 0x74) (Some 0x0009) (cond (u == 0x6E) (Some 0x000A)
    (cond (u == 0x76) (Some 0x000B) (cond (u == 0x66) (Some 0x000C) (cond (u == 0x72) (Some 0x000D) None)))))

-- a unit that stands for itself after a backslash: none of those, no digit, x or u, and no line end
unfoldable pub is_self_escape : ℕ → Bool
is_self_escape u = not (is_some (single_escape u) || is_digit u || u == 0x78 || u == 0x75 || is_line_end u)

unfoldable pub is_hex_digit : ℕ → Bool
is_hex_digit u = nat_lt (digit_value u) 16

-- the value of hexadecimal digits
abbrev pub hex_value : List ℕ → ℕ
hex_value ds = fold (λ n d. n * 16 + digit_value d) 0 ds

abbrev pub begins_with_line_feed : List ℕ → Bool
begins_with_line_feed [] = false
begins_with_line_feed (u ∷ us) = u == line_feed

-- An escape, what it stands for, and the units that follow it (ECMA-262 12.9.4 EscapeSequence and LineContinuation, 12.9.6
-- TemplateEscapeSequence).
pub data Escape : List ℕ → List ℕ → List ℕ → Type 0 where
  single : {u v : ℕ} {after : List ℕ} → single_escape u ≡ Some v → Escape (backslash ∷ u ∷ []) (v ∷ []) after
  -- `\0`, where no digit follows
  null : {after : List ℕ} → begins_with_digit after ≡ false → Escape (backslash ∷ 0x30 ∷ []) (0 ∷ []) after
  -- `\xHH`
  hex : {a b : ℕ} {after : List ℕ}
      → IsTrue (list_all is_hex_digit (a ∷ b ∷ []))
      → Escape (backslash ∷ 0x78 ∷ a ∷ b ∷ []) (hex_value (a ∷ b ∷ []) ∷ []) after
  -- `\uHHHH`
  unicode : {a b c d : ℕ} {after : List ℕ}
      → IsTrue (list_all is_hex_digit (a ∷ b ∷ c ∷ d ∷ []))
      → Escape (backslash ∷ 0x75 ∷ a ∷ b ∷ c ∷ d ∷ []) (hex_value (a ∷ b ∷ c ∷ d ∷ []) ∷ []) after
  -- `\u{H..}`, which stands for the code point's units (11.1.1 UTF16EncodeCodePoint)
  code_point : {after : List ℕ} (ds : List ℕ)
      → 0 < length ds → IsTrue (list_all is_hex_digit ds) → hex_value ds ≤ 0x10FFFF
      → Escape (backslash ∷ 0x75 ∷ 0x7B ∷ ds ++ 0x7D ∷ []) (encode_utf16 (hex_value ds)) after
  -- a line continuation: a backslash and a line terminator sequence, which is LF, CR not before LF, U+2028, U+2029 or CR LF
  line_continuation : {u : ℕ} {after : List ℕ}
      → IsTrue (is_line_end u) → (u ≡ carriage_return → begins_with_line_feed after ≡ false)
      → Escape (backslash ∷ u ∷ []) [] after
  crlf_continuation : {after : List ℕ} → Escape (backslash ∷ carriage_return ∷ line_feed ∷ []) [] after
  -- a backslash before any other unit
  itself : {u : ℕ} {after : List ℕ} → IsTrue (is_self_escape u) → Escape (backslash ∷ u ∷ []) (u ∷ []) after

-- The units that follow the opening quote of a literal, to the closing one, and what they stand for.
pub data StringRest : ℕ → List ℕ → List ℕ → Type 0 where
  closing_quote : {quote : ℕ} → StringRest quote (quote ∷ []) []
  plain : {quote u : ℕ} {us vs : List ℕ}
      → IsTrue (is_plain quote u) → StringRest quote us vs → StringRest quote (u ∷ us) (u ∷ vs)
  escaped : {quote : ℕ} {es us vs ws : List ℕ}
      → Escape es ws us → StringRest quote us vs → StringRest quote (es ++ us) (ws ++ vs)

-- A string literal and its string value.
pub data StringLiteral : List ℕ → List ℕ → Type 0 where
  quoted : {quote : ℕ} {us value : List ℕ}
      → IsTrue (is_quote quote) → StringRest quote us value → StringLiteral (quote ∷ us) value

abbrev pub IsLiteral : List ℕ → Type 0
IsLiteral us = (value : List ℕ) × StringLiteral us value
