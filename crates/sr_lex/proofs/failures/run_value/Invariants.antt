use Rattle.std.proofs.Common.{◌≡◌, ◌≤◌, drop}
use Rattle.sr_lex.specs.Failures.{run_value}
use Rattle.sr_lex.proofs.NumberLaws.{cap}
use Rattle.sr_lex.proofs.failures.run_value.Given as goal

abbrev pub invariant-loop-unit : goal.invariant-loop-unit
invariant-loop-unit l = record {
  told : cap (run_value l.base 0 l.units) ≡ cap (run_value l.base l.value (drop l.unit-index l.units));
  within : l.value ≤ 0x20000000000000;
}
