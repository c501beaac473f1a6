-- StrUnsignedDecimalLiteral (ECMA-262 7.1.4.1) as a relation, production by production. DecimalDigits is
-- `is_numeral 10`, and `are_digits 10` where they may be left out.
use Rattle.std.specs.Prelude.{ℕ, List, [], ◌∷◌, ◌++◌, IsTrue, ◌↔◌}
use Rattle.sr_num.specs.StringToNumber.{are_digits, is_numeral, is_exponent_indicator, is_sign, infinity, is_unsigned_decimal}

-- an ExponentPart, which may be left out: an ExponentIndicator and a SignedInteger
pub data IsExponentPart : List ℕ → Type 0 where
  left_out : IsExponentPart []
  unsigned : (e : ℕ) (digits : List ℕ) → IsTrue (is_exponent_indicator e) → IsTrue (is_numeral 10 digits) → IsExponentPart (e ∷ digits)
  signed : (e sign : ℕ) (digits : List ℕ) → IsTrue (is_exponent_indicator e) → IsTrue (is_sign sign) → IsTrue (is_numeral 10 digits) → IsExponentPart (e ∷ sign ∷ digits)

-- Infinity; DecimalDigits . DecimalDigits ExponentPart, the last two of which may be left out; . DecimalDigits
-- ExponentPart; DecimalDigits ExponentPart. The point is the code unit 0x2E
pub data IsUnsignedDecimal : List ℕ → Type 0 where
  infinite : IsUnsignedDecimal infinity
  with_point : (whole fraction exponent : List ℕ) → IsTrue (is_numeral 10 whole) → IsTrue (are_digits 10 fraction) → IsExponentPart exponent → IsUnsignedDecimal (whole ++ 0x2E ∷ (fraction ++ exponent))
  from_point : (fraction exponent : List ℕ) → IsTrue (is_numeral 10 fraction) → IsExponentPart exponent → IsUnsignedDecimal (0x2E ∷ (fraction ++ exponent))
  whole : (digits exponent : List ℕ) → IsTrue (is_numeral 10 digits) → IsExponentPart exponent → IsUnsignedDecimal (digits ++ exponent)

-- the texts that are taken for one are those of the grammar
abbrev pub DecimalsAreOfTheGrammar : Type 0
DecimalsAreOfTheGrammar = (text : List ℕ) → IsTrue (is_unsigned_decimal text) ↔ IsUnsignedDecimal text
