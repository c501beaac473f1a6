-- How far what stands at the front of some units reaches, unit by unit. The contracts of private functions cite this; the
-- relations of Tokens and Strings say what it means.
use Rattle.std.specs.Prelude.{◌≡◌, ℕ, zero, suc, ◌+◌, ◌*◌, ◌<◌, ◌≤◌, min, Bool, true, false, not, ◌||◌, ◌&&◌, ◌==◌, nat_lt, nat_le, if◌then◌else◌, List, [], ◌∷◌, ◌++◌, length, take, drop, slice_index, nat_eq, codes, Option, Some, None, unwrap_or, ⊤, IfSome, option_map, option_and_then}
use Rattle.std.specs.Option.{option_map_or}
use Rattle.std.specs.List.{list_any}
use Rattle.std.specs.Char.{digit_value}
use Rattle.std.specs.Char.Escape.{encode_utf16}
use Rattle.sr_lex.specs.Units.{line_feed, carriage_return, is_line_end, is_white_space, is_digit, is_name_start, is_name_part, begins_with_digit, begins_with}
use Rattle.sr_num.specs.StringToNumber.{base_of_letter}
use Rattle.sr_lex.specs.Strings.{backslash, is_quote, single_escape, is_hex_digit, begins_with_line_feed}
use Rattle.sr_lex.specs.Numbers.{digit_zero, separator, may_end}
use Rattle.sr_lex.specs.Templates.{backquote, dollar_sign, left_brace, right_brace}
use Rattle.sr_lex.specs.Brackets.{in_substitution, brackets_after}
use Rattle.sr_lex.specs.declared.token.Token.{Token}
use Rattle.sr_lex.specs.declared.token.TokenKind.{TokenKind}
use Rattle.sr_lex.specs.declared.token.TokenKind.TheVariants.{Name, Number, Text, Template, Punctuator}
use Rattle.sr_lex.specs.declared.brackets.Bracket.{Bracket}
use Rattle.sr_lex.specs.declared.gaps.Blank.{Blank}
use Rattle.sr_lex.specs.declared.characters.HexRun.{HexRun}
use Rattle.sr_lex.specs.declared.characters.Character.{Character}
use Rattle.sr_lex.specs.declared.characters.Meaning.{Meaning}
use Rattle.sr_lex.specs.declared.characters.Meaning.TheVariants.{Nothing, CodeUnit, CodePoint}
use Rattle.sr_lex.specs.declared.rows.Row.{Row}

-- ---- gaps

-- the units before the first line end
abbrev pub line_len : List ℕ → ℕ
line_len [] = 0
line_len (u ∷ us) = if is_line_end u then 0 else suc (line_len us)

abbrev pub nothing : Blank
nothing = record { units = 0; line = false }

-- the comment whose body goes on here, after n units of it and perhaps a line end
abbrev pub block_from : ℕ → Bool → List ℕ → Option Blank
block_from n line [] = None
block_from n line (u ∷ us) =
    if u == 0x2A && begins_with 0x2F us then Some (record { units = n + 4; line = line }) else block_from (n + 1) (line || is_line_end u) us

-- a comment to the end of the line
abbrev pub line_comment : List ℕ → Blank
line_comment us = record { units = line_len (drop 2 us) + 2; line = false }

-- the comment at the front, which is `/` and more
unfoldable pub slash_comment : List ℕ → Blank
slash_comment us =
    if begins_with 0x2F (drop 1 us) then line_comment us
    else (if begins_with 0x2A (drop 1 us) then unwrap_or (block_from 0 false (drop 2 us)) nothing else nothing)

-- white space, a line end or a comment at the front; the flag says that this is the start of the text
unfoldable pub piece : Bool → List ℕ → Blank
piece first [] = nothing
piece first (u ∷ us) =
    if is_white_space u then record { units = 1; line = false }
    else (if is_line_end u then record { units = 1; line = true }
    else (if u == 0x2F then slash_comment (u ∷ us)
    else (if first && (u == 0x23 && begins_with 0x21 us) then line_comment (u ∷ us) else nothing)))

abbrev pub join : Blank → Blank → Blank
join a b = record { units = a.units + b.units; line = a.line || b.line }

-- all of them at the front, in at most so many turns
abbrev pub gap : ℕ → Bool → List ℕ → Blank
gap zero first us = nothing
gap (suc m) first us =
    let b = piece first us in
    if b.units == 0 then nothing else join b (gap m false (drop b.units us))

-- ---- string literals and template pieces

-- after n hexadecimal digits of this value, those at the front; a value above 10FFFF shows as 110000
abbrev pub hex_from : ℕ → ℕ → List ℕ → HexRun
hex_from n v [] = record { digits = n; value = v }
hex_from n v (u ∷ us) =
    if is_hex_digit u then hex_from (n + 1) (min (v * 16 + digit_value u) 0x110000) us else record { digits = n; value = v }

abbrev pub character_of : ℕ → Meaning → Character
character_of units meaning = record { units = units; meaning = meaning }

abbrev pub IsCapped : Meaning → Type 0
IsCapped Nothing = ⊤
IsCapped (CodeUnit unit) = ⊤
IsCapped (CodePoint point) = point ≤ 0x110000

-- the character has a unit and lies within so many, and its code point is read up to 110000
pub record IsWithin (len : ℕ) (c : Character) : Type 0 where
  pub some : 0 < c.units
  pub within : c.units ≤ len
  pub capped : IsCapped c.meaning

-- what follows `\x`, `\u{` and `\u`
unfoldable pub hex_escape : List ℕ → Option Character
hex_escape us = let h = hex_from 0 0 (take 2 us) in if h.digits == 2 then Some (character_of 4 (CodePoint h.value)) else None

unfoldable pub braced_escape : List ℕ → Option Character
braced_escape us =
    let h = hex_from 0 0 us in
    if nat_lt 0 h.digits && (nat_le h.value 0x10FFFF && begins_with 0x7D (drop h.digits us)) then Some (character_of (h.digits + 4) (CodePoint h.value)) else None

unfoldable pub unicode_escape : List ℕ → Option Character
unicode_escape us =
    if begins_with 0x7B us then braced_escape (drop 1 us)
    else (let h = hex_from 0 0 (take 4 us) in if h.digits == 4 then Some (character_of 6 (CodePoint h.value)) else None)

-- a line end after a backslash; CR LF is one
abbrev pub continuation_len : ℕ → List ℕ → ℕ
continuation_len u us = if u == carriage_return && begins_with_line_feed us then 3 else 2

-- a character whose backslash stands before these units
unfoldable pub other_escape : List ℕ → Option Character
other_escape [] = None
other_escape (u ∷ us) =
    if is_digit u then (if u == 0x30 && not (begins_with_digit us) then Some (character_of 2 (CodeUnit 0)) else None)
    else (if u == 0x78 then hex_escape us
    else (if u == 0x75 then unicode_escape us
    else (if is_line_end u then Some (character_of (continuation_len u us) Nothing)
    else Some (character_of 2 (CodeUnit u)))))

unfoldable pub escape : List ℕ → Option Character
escape [] = None
escape (u ∷ us) = option_map_or (λ v. Some (character_of 2 (CodeUnit v))) (single_escape u) (other_escape (u ∷ us))

-- a unit of a template that begins no escape; CR and CR LF stand for LF
abbrev pub template_unit : ℕ → List ℕ → Character
template_unit u us =
    if u == carriage_return then character_of (if begins_with_line_feed us then 2 else 1) (CodeUnit line_feed)
    else character_of 1 (CodeUnit u)

-- the character at the front between these quotes, which closes nothing
unfoldable pub character : ℕ → List ℕ → Option Character
character quote [] = None
character quote (u ∷ us) =
    if u == backslash then escape us
    else (if quote == backquote then Some (template_unit u us)
    else (if u == line_feed || u == carriage_return then None else Some (character_of 1 (CodeUnit u))))

-- how many units close a literal between these quotes at the front: the quote, and `${` in a template; 0 where nothing does
unfoldable pub closing_len : ℕ → List ℕ → ℕ
closing_len quote us =
    if begins_with quote us then 1
    else (if quote == backquote && (begins_with dollar_sign us && begins_with left_brace (drop 1 us)) then 2 else 0)

-- the units that a character stands for
abbrev pub meant_units : Meaning → List ℕ
meant_units Nothing = []
meant_units (CodeUnit unit) = unit ∷ []
meant_units (CodePoint point) = encode_utf16 point

-- how many units a literal has, and its value
pub record Literal : Type 0 where
  pub units : ℕ
  pub value : List ℕ

abbrev pub before : Character → Literal → Literal
before c l = record { units = c.units + l.units; value = meant_units c.meaning ++ l.value }

-- the literal whose opening quote stands before these units, in at most so many turns; a template piece is one between
-- backquotes, whatever stands before
abbrev pub literal : ℕ → ℕ → List ℕ → Option Literal
literal zero quote us = None
literal (suc m) quote us =
    let closing = closing_len quote us in
    if closing == 0 then option_and_then (λ c. option_map (before c) (literal m quote (drop c.units us))) (character quote us)
    else Some (record { units = closing; value = [] })

-- how many units it has, without the opening quote
abbrev pub literal_units : ℕ → List ℕ → Option ℕ
literal_units quote us = option_map (λ l. l.units) (literal (length us) quote us)

-- its value, if it is one
abbrev pub IsValueOf : ℕ → List ℕ → List ℕ → Type 0
IsValueOf quote us value = IfSome (literal (length us) quote us) (λ l. value ≡ l.value)

-- ---- number literals

-- the value of digits of the base with separators, after digits of this value; 2^53 where it is more than 2^53 - 1. The flag
-- says that a digit stands before these units.
abbrev pub digits_from : ℕ → Bool → ℕ → List ℕ → Option ℕ
digits_from base after v [] = if after then Some v else None
digits_from base after v (u ∷ us) =
    if u == separator then (if after then digits_from base false v us else None)
    else (if nat_lt (digit_value u) base then digits_from base true (min (v * base + digit_value u) 0x20000000000000) us else None)

abbrev pub based_value : Option ℕ → List ℕ → Option ℕ
based_value None us = None
based_value (Some base) us = digits_from base false 0 us

-- the value of the literal whose leading 0 stands before these units
abbrev pub value_after_zero : List ℕ → Option ℕ
value_after_zero [] = Some 0
value_after_zero (letter ∷ us) = based_value (base_of_letter letter) us

-- the value of a literal, so far without an end
unfoldable pub number_value : List ℕ → Option ℕ
number_value [] = None
number_value (u ∷ us) = if u == digit_zero then value_after_zero us else digits_from 10 false 0 (u ∷ us)

abbrev pub is_safe_value : Option ℕ → Bool
is_safe_value None = false
is_safe_value (Some v) = nat_le v 9007199254740991

-- ---- rows

-- the units of names at the front
abbrev pub name_len : List ℕ → ℕ
name_len [] = 0
name_len (u ∷ us) = if is_name_part u then suc (name_len us) else 0

-- the units that are a punctuator alone; those before `=`; those that may stand twice, and those twice before `=`
abbrev pub is_among : List ℕ → ℕ → Bool
is_among us u = list_any (nat_eq u) us

unfoldable pub is_single : ℕ → Bool
is_single u = is_among (codes "{}()[];,<>+-*/%&|^!~?:=") u

unfoldable pub takes_equals : ℕ → Bool
takes_equals u = is_among (codes "<>=!+-*/%&|^") u

unfoldable pub is_doubled : ℕ → Bool
is_doubled u = is_among (codes "+-*<>&|?") u

unfoldable pub is_doubled_before_equals : ℕ → Bool
is_doubled_before_equals u = is_among (codes "*<>&|?") u

-- the first four units, 0 for none, begin with a punctuator of so many
unfoldable pub is_four : ℕ → ℕ → ℕ → ℕ → Bool
is_four a b c d = a == 0x3E && (b == 0x3E && (c == 0x3E && d == 0x3D))

unfoldable pub is_three : ℕ → ℕ → ℕ → Bool
is_three a b c =
    if c == 0x3D then (a == b && is_doubled_before_equals a) || (b == 0x3D && (a == 0x3D || a == 0x21))
    else a == b && (b == c && (a == 0x2E || a == 0x3E))

unfoldable pub is_two : ℕ → ℕ → ℕ → Bool
is_two a b c =
    (b == 0x3D && takes_equals a) || ((a == b && is_doubled a) || ((a == 0x3D && b == 0x3E) || (a == 0x3F && (b == 0x2E && not (is_digit c)))))

unfoldable pub is_one : ℕ → ℕ → Bool
is_one a b = is_single a || (a == 0x2E && not (is_digit b))

abbrev pub first_len : Bool → Bool → Bool → Bool → ℕ
first_len four three two one = if four then 4 else (if three then 3 else (if two then 2 else (if one then 1 else 0)))

-- how many units the punctuator at the front has, 0 for none
unfoldable pub punctuator_len : List ℕ → ℕ
punctuator_len us =
    let a = slice_index us 0 in
    let b = slice_index us 1 in
    let c = slice_index us 2 in
    let d = slice_index us 3 in
    first_len (is_four a b c d) (is_three a b c) (is_two a b c) (is_one a b)

abbrev pub row_of : TokenKind → ℕ → Row
row_of kind units = record { kind = kind; units = units }

-- the number at the front, which is all units of names there
unfoldable pub number_row : List ℕ → Option Row
number_row us =
    let n = name_len us in
    if is_safe_value (number_value (take n us)) && may_end (take n us) (drop n us) then Some (row_of Number n) else None

-- whether a template piece begins with the unit; the flag says that the innermost open bracket is a `${`
unfoldable pub begins_piece : Bool → ℕ → Bool
begins_piece inside u = u == backquote || (inside && u == right_brace)

-- the token at the front, with that flag
unfoldable pub row : Bool → List ℕ → Option Row
row inside [] = None
row inside (u ∷ us) =
    if is_name_start u then Some (row_of Name (name_len us + 1))
    else (if is_quote u then option_map (λ len. row_of Text (len + 1)) (literal_units u us)
    else (if is_digit u then number_row (u ∷ us)
    else (if begins_piece inside u then option_map (λ len. row_of Template (len + 1)) (literal_units backquote us)
    else (let n = punctuator_len (u ∷ us) in if n == 0 then None else Some (row_of Punctuator n)))))

-- ---- texts

abbrev pub token_of : Row → ℕ → Bool → Token
token_of r from line = record { kind = r.kind; from = from; to = from + r.units; line_before = line }

-- tokens, and the place of the failure that ends them
abbrev pub Run : Type 0
Run = List Token × Option ℕ

abbrev pub with_front : Token → Run → Run
with_front t r = (t ∷ r.0, r.1)

-- the tokens of a text whose units from a place on are these, where these brackets are open, up to its end or its failure, in at
-- most so many turns
abbrev pub lexed : ℕ → ℕ → List Bracket → List ℕ → Run
lexed zero at brackets us = ([], None)
lexed (suc m) at brackets us =
    let g = gap (length us) (at == 0) us in
    let from = at + g.units in
    let rest = drop g.units us in
    if length rest == 0 then ([], None)
    else option_map_or (λ r. with_front (token_of r from g.line) (lexed m (from + r.units) (brackets_after brackets r.kind (take r.units rest)) (drop r.units rest)))
    (row (in_substitution brackets) rest) ([], Some from)
