-- The keys of properties, and their order (ECMA-262 6.1.7, 10.1.11.1).
use Rattle.std.specs.Prelude.{ℕ, Bool, false, ◌&&◌, Option, None, Some, cond, nat_le}
use Rattle.std.specs.Str.Parse.{digits_value}
use Rattle.sr_text.specs.Numerals.{numeral_of}
use Rattle.sr_props.specs.declared.key.Rank.{Rank}
use Rattle.sr_props.specs.declared.key.Rank.TheVariants.{Index, Text as OtherText, Symbol as OtherSymbol}
use Rattle.sr_model.specs.Values.{Text, same, Symbol}
use Rattle.sr_model.specs.Sameness.{same_symbol}

-- ECMA-262 6.1.7: the key of a property is a string or a symbol
pub data Key : Type 0 where
  TextKey : Text → Key
  SymbolKey : Symbol → Key

abbrev pub same_key : Key → Key → Bool
same_key (TextKey s) (TextKey t) = same s t
same_key (SymbolKey a) (SymbolKey b) = same_symbol a b
same_key j k = false

-- ECMA-262 6.1.7: a string is an array index where it is the numeral of an integer from 0 to 2^32 - 2
unfoldable pub array_index : Text → Option ℕ
array_index units =
    let n = digits_value 10 units in
    cond (nat_le n 4294967294 && same units (numeral_of n 10)) (Some n) None

-- what a key is in the order of the keys of an object: an array index, another string, or a symbol
abbrev pub rank_of_text : Option ℕ → Rank
rank_of_text None = OtherText
rank_of_text (Some n) = Index n

abbrev pub rank_of : Key → Rank
rank_of (TextKey text) = rank_of_text (array_index text)
rank_of (SymbolKey s) = OtherSymbol
