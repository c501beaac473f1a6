-- StringNumericLiteral (ECMA-262 7.1.4.1) with what ToNumber makes of it, as a relation, production by production.
use Rattle.std.specs.Prelude.{◌≡◌, ℕ, pos, List, [], ◌∷◌, ◌++◌, IsTrue, None, Some, Ok, Err}
use Rattle.std.specs.Str.Parse.{digits_value}
use Rattle.sr_num.specs.declared.stop.NumStop.TheVariants.{Form}
use Rattle.sr_num.specs.Integer.{Outcome, checked}
use Rattle.sr_num.specs.StringToNumber.{is_white, is_numeral, base_of_letter, minus, string_to_number}
use Rattle.sr_num.specs.DecimalGrammar.{IsUnsignedDecimal}

-- StrWhiteSpace, which may be left out
abbrev pub AreWhite : List ℕ → Type 0
AreWhite [] = Unit {0}
AreWhite (c ∷ cs) = IsTrue (is_white c) × AreWhite cs

-- StrUnsignedDecimalLiteral: DecimalDigits alone are an integer, and the others a stop
pub data UnsignedComesTo : List ℕ → Outcome → Type 0 where
  integer : (digits : List ℕ) → IsTrue (is_numeral 10 digits) → UnsignedComesTo digits (checked (pos (digits_value 10 digits)))
  decimal : (text : List ℕ) → IsUnsignedDecimal text → ¬ (IsTrue (is_numeral 10 text)) → UnsignedComesTo text (Err Form)

-- StrNumericLiteral: a StrUnsignedDecimalLiteral with an optional sign; or a NonDecimalIntegerLiteral: 0, the letter of a
-- base, and digits of it
pub data LiteralComesTo : List ℕ → Outcome → Type 0 where
  bare : (text : List ℕ) (v : Outcome) → UnsignedComesTo text v → LiteralComesTo text v
  positive : (text : List ℕ) (v : Outcome) → UnsignedComesTo text v → LiteralComesTo (0x2B ∷ text) v
  negative : (text : List ℕ) (v : Outcome) → UnsignedComesTo text v → LiteralComesTo (0x2D ∷ text) (minus v)
  in_base : (letter base : ℕ) (digits : List ℕ) → base_of_letter letter ≡ Some base → IsTrue (is_numeral base digits) → LiteralComesTo (0x30 ∷ letter ∷ digits) (checked (pos (digits_value base digits)))

-- StringNumericLiteral: white space alone, which is 0, or a StrNumericLiteral between white space
pub data TextComesTo : List ℕ → Outcome → Type 0 where
  blank : (white : List ℕ) → AreWhite white → TextComesTo white (Ok (Some (pos 0)))
  literal : (before text after : List ℕ) (v : Outcome) → AreWhite before → AreWhite after → LiteralComesTo text v → TextComesTo (before ++ (text ++ after)) v

-- ToNumber gives a text what it comes to by the grammar, and NaN where the grammar does not have it
pub record IsReadByTheGrammar (text : List ℕ) : Type 0 where
  pub literals : (v : Outcome) → TextComesTo text v → string_to_number text ≡ v
  pub others : ((v : Outcome) → ¬ (TextComesTo text v)) → string_to_number text ≡ Ok None

abbrev pub TextsAreReadByTheGrammar : Type 0
TextsAreReadByTheGrammar = (text : List ℕ) → IsReadByTheGrammar text
