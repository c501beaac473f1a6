-- What the keys of the cases are.
use Rattle.std.specs.Prelude.{ℕ, List, nat_le, ◌&&◌, ◌==◌, if◌then◌else◌}
use Rattle.std.specs.Cmp.Lexicographic.{pointwise}
use Rattle.std.specs.Str.Parse.{digits_value}
use Rattle.sr_text.specs.Numerals.{numeral_of}
use Rattle.sr_props.specs.declared.key.Rank.{Rank}
use Rattle.sr_props.specs.declared.key.Rank.TheVariants.{Index, Text, Symbol}
use Rattle.props_cases.specs.declared.key.CaseKey.{CaseKey}
use Rattle.props_cases.specs.declared.key.CaseKey.TheVariants as key

-- the array index (ECMA-262 6.1.7) of which the code units are the decimal numeral, if there is one
abbrev pub rank_of_text : List ℕ → Rank
rank_of_text units =
    let n = digits_value 10 units in
    if nat_le n 4294967294 && pointwise ◌==◌ units (numeral_of n 10) then Index n else Text

abbrev pub rank_of_key : CaseKey → Rank
rank_of_key (key.Text units) = rank_of_text units
rank_of_key (key.Symbol n) = Symbol
