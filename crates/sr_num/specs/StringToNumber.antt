-- 7.1.4.1.1 StringToNumber: the number that a text writes, by the grammar of ECMA-262 7.1.4.1, and NaN where it writes none.
-- A text is the list of its code units.
use Rattle.std.specs.Prelude.{ℕ, pos, ◌+◌, ◌==◌, nat_lt, Bool, ◌&&◌, ◌||◌, if◌then◌else◌, List, [], ◌∷◌, take, drop, length, reverse, Option, None, Some, Ok, Err}
use Rattle.std.specs.List.{list_all, position}
use Rattle.std.specs.Int.{is_in_range}
use Rattle.std.specs.Char.{digit_value}
use Rattle.std.specs.Str.Parse.{digits_value}
use Rattle.std.specs.Cmp.Lexicographic.{pointwise}
use Rattle.sr_num.specs.declared.stop.NumStop.TheVariants.{Form}
use Rattle.sr_num.specs.Integer.{Outcome, checked}
use Rattle.sr_num.specs.Arithmetic.{negation}

-- ---- StrWhiteSpaceChar

-- 12.2 WhiteSpace: tab, vertical tab, form feed, space, no-break space, the other space separators of Unicode, and U+FEFF
abbrev pub is_white_space : ℕ → Bool
is_white_space c =
    c == 0x9 || c == 0xB || c == 0xC || c == 0x20 || c == 0xA0 || c == 0x1680 || is_in_range 0x2000 0x200A c
    || c == 0x202F || c == 0x205F || c == 0x3000 || c == 0xFEFF

-- 12.3 LineTerminator: line feed, carriage return, line separator, paragraph separator
abbrev pub is_line_terminator : ℕ → Bool
is_line_terminator c = c == 0xA || c == 0xD || c == 0x2028 || c == 0x2029

unfoldable pub is_white : ℕ → Bool
is_white c = is_white_space c || is_line_terminator c

abbrev pub without_leading_white : List ℕ → List ℕ
without_leading_white [] = []
without_leading_white (c ∷ cs) = if is_white c then without_leading_white cs else c ∷ cs

abbrev pub without_trailing_white : List ℕ → List ℕ
without_trailing_white text = reverse (without_leading_white (reverse text))

-- ---- digits

-- digits of the base alone, or nothing
abbrev pub are_digits : ℕ → List ℕ → Bool
are_digits base text = list_all (λ c. nat_lt (digit_value c) base) text

-- DecimalDigits, BinaryDigits, OctalDigits, HexDigits: one digit of the base or more, and nothing else
abbrev pub is_numeral : ℕ → List ℕ → Bool
is_numeral base text = nat_lt 0 (length text) && are_digits base text

-- ---- StrUnsignedDecimalLiteral

-- ExponentIndicator: e or E
abbrev pub is_exponent_indicator : ℕ → Bool
is_exponent_indicator c = c == 0x65 || c == 0x45

abbrev pub is_point : ℕ → Bool
is_point c = c == 0x2E

abbrev pub is_sign : ℕ → Bool
is_sign c = c == 0x2B || c == 0x2D

-- SignedInteger: DecimalDigits with an optional sign
abbrev pub is_signed_integer : List ℕ → Bool
is_signed_integer [] = is_numeral 10 []
is_signed_integer (c ∷ cs) = if is_sign c then is_numeral 10 cs else is_numeral 10 (c ∷ cs)

-- what stands around a point: DecimalDigits and perhaps more of them, or nothing and DecimalDigits
abbrev pub is_around_point : List ℕ → List ℕ → Bool
is_around_point whole fraction = (is_numeral 10 whole && are_digits 10 fraction) || (length whole == 0 && is_numeral 10 fraction)

-- what may stand before an ExponentPart: DecimalDigits, or digits with a point, which is at the place that is given
abbrev pub is_mantissa_with_point : Option ℕ → List ℕ → Bool
is_mantissa_with_point None text = is_numeral 10 text
is_mantissa_with_point (Some at) text = is_around_point (take at text) (drop (at + 1) text)

abbrev pub is_mantissa : List ℕ → Bool
is_mantissa text = is_mantissa_with_point (position is_point text) text

-- without an ExponentPart, or with one, whose indicator is at the place that is given
abbrev pub is_decimal_with_exponent : Option ℕ → List ℕ → Bool
is_decimal_with_exponent None text = is_mantissa text
is_decimal_with_exponent (Some at) text = is_mantissa (take at text) && is_signed_integer (drop (at + 1) text)

abbrev pub is_finite_decimal : List ℕ → Bool
is_finite_decimal text = is_decimal_with_exponent (position is_exponent_indicator text) text

-- `Infinity`
abbrev pub infinity : List ℕ
infinity = 0x49 ∷ 0x6E ∷ 0x66 ∷ 0x69 ∷ 0x6E ∷ 0x69 ∷ 0x74 ∷ 0x79 ∷ []

abbrev pub is_unsigned_decimal : List ℕ → Bool
is_unsigned_decimal text = pointwise ◌==◌ text infinity || is_finite_decimal text

-- ---- what a literal comes to

-- the integer that digits of the base write
unfoldable pub digits_number : ℕ → List ℕ → Outcome
digits_number base text = if is_numeral base text then checked (pos (digits_value base text)) else Ok None

-- the profile has a decimal with a point or an exponent, and Infinity, as a stop alone
unfoldable pub unsigned_decimal_number : List ℕ → Outcome
unsigned_decimal_number text =
    if is_numeral 10 text then digits_number 10 text
    else if is_unsigned_decimal text then Err Form
    else Ok None

abbrev pub minus : Outcome → Outcome
minus (Ok x) = negation x
minus (Err stop) = Err stop

-- StrDecimalLiteral: a StrUnsignedDecimalLiteral with an optional sign
unfoldable pub decimal_number : List ℕ → Outcome
decimal_number [] = Ok None
decimal_number (c ∷ cs) =
    if c == 0x2B then unsigned_decimal_number cs
    else if c == 0x2D then minus (unsigned_decimal_number cs)
    else unsigned_decimal_number (c ∷ cs)

-- the base that a letter names after a 0: b or B, o or O, x or X
unfoldable pub base_of_letter : ℕ → Option ℕ
base_of_letter c =
    if c == 0x62 || c == 0x42 then Some 2
    else if c == 0x6F || c == 0x4F then Some 8
    else if c == 0x78 || c == 0x58 then Some 16
    else None

abbrev pub named_base : List ℕ → Option ℕ
named_base [] = None
named_base (c ∷ []) = None
named_base (c ∷ letter ∷ cs) = if c == 0x30 then base_of_letter letter else None

-- StrNumericLiteral: a NonDecimalIntegerLiteral, whose first two characters name the base, or a StrDecimalLiteral
abbrev pub number_in_base : Option ℕ → List ℕ → Outcome
number_in_base None text = decimal_number text
number_in_base (Some base) text = digits_number base (drop 2 text)

-- StringNumericLiteral: nothing, or a StrNumericLiteral, between white space
abbrev pub literal_number : List ℕ → Outcome
literal_number [] = Ok (Some (pos 0))
literal_number (c ∷ cs) = number_in_base (named_base (c ∷ cs)) (c ∷ cs)

unfoldable pub string_to_number : List ℕ → Outcome
string_to_number text = literal_number (without_trailing_white (without_leading_white text))
