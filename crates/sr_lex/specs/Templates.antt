-- Template pieces and their values (ECMA-262 12.9.6, with the template value TV): the units of a template up to a substitution,
-- between two substitutions, and after the last.
use Rattle.std.specs.Prelude.{◌≡◌, ℕ, Bool, false, not, ◌||◌, ◌==◌, List, [], ◌∷◌, ◌++◌, IsTrue}
use Rattle.sr_lex.specs.Units.{line_feed, carriage_return, begins_with}
use Rattle.sr_lex.specs.Strings.{backslash, begins_with_line_feed, Escape}

abbrev pub backquote : ℕ
backquote = 0x60

abbrev pub dollar_sign : ℕ
dollar_sign = 0x24

abbrev pub left_brace : ℕ
left_brace = 0x7B

abbrev pub right_brace : ℕ
right_brace = 0x7D

-- a unit that stands for itself in a template; LF, U+2028 and U+2029 do
unfoldable pub is_template_plain : ℕ → Bool
is_template_plain u = not (u == backquote || u == backslash || u == dollar_sign || u == carriage_return)

-- The units that follow the beginning of a piece, to its end, and what they stand for.
pub data PieceRest : List ℕ → List ℕ → Type 0 where
  -- the end of the template
  closing : PieceRest (backquote ∷ []) []
  -- the beginning of a substitution
  opening : PieceRest (dollar_sign ∷ left_brace ∷ []) []
  plain : {u : ℕ} {us vs : List ℕ} → IsTrue (is_template_plain u) → PieceRest us vs → PieceRest (u ∷ us) (u ∷ vs)
  dollar : {us vs : List ℕ} → begins_with left_brace us ≡ false → PieceRest us vs → PieceRest (dollar_sign ∷ us) (dollar_sign ∷ vs)
  -- CR and CR LF stand for LF
  lone_return : {us vs : List ℕ} → begins_with_line_feed us ≡ false → PieceRest us vs → PieceRest (carriage_return ∷ us) (line_feed ∷ vs)
  return_feed : {us vs : List ℕ} → PieceRest us vs → PieceRest (carriage_return ∷ line_feed ∷ us) (line_feed ∷ vs)
  escaped : {es us vs ws : List ℕ} → Escape es ws us → PieceRest us vs → PieceRest (es ++ us) (ws ++ vs)

-- a backquote begins a template, and `}` ends a substitution
unfoldable pub is_piece_start : ℕ → Bool
is_piece_start u = u == backquote || u == right_brace

-- A template piece and its value.
pub data TemplatePiece : List ℕ → List ℕ → Type 0 where
  begun : {first : ℕ} {us value : List ℕ}
      → IsTrue (is_piece_start first) → PieceRest us value → TemplatePiece (first ∷ us) value

abbrev pub IsPiece : List ℕ → Type 0
IsPiece us = (value : List ℕ) × TemplatePiece us value
