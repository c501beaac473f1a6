use Rattle.std.proofs.Common.{◌≡◌, ◌<◌, ◌^◌, take}
use Rattle.sr_text.specs.Numerals.{digits_in}
use Rattle.sr_text.proofs.numerals.decimal_value.Given as goal

abbrev pub invariant-loop-unit : goal.invariant-loop-unit
invariant-loop-unit l = record {
  small : l.value < 10 ^ l.unit-index;
  some : 0 < l.unit-index → 0 < l.value;
  digits : digits_in 10 l.value ≡ take l.unit-index l.units;
}
