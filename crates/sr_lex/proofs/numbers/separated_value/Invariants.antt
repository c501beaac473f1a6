use Rattle.std.proofs.Common.{◌≡◌, ◌≤◌, drop, false}
use Rattle.sr_lex.specs.Scan.{digits_from}
use Rattle.sr_lex.proofs.numbers.separated_value.Given as goal

abbrev pub invariant-loop-unit : goal.invariant-loop-unit
invariant-loop-unit l = record {
  told : digits_from l.base false 0 l.units ≡ digits_from l.base l.after_digit l.value (drop l.unit-index l.units);
  within : l.value ≤ 0x20000000000000;
}
