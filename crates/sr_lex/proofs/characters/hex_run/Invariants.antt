use Rattle.std.proofs.Common.{◌≡◌, ◌≤◌, drop}
use Rattle.sr_lex.specs.Scan.{hex_from}
use Rattle.sr_lex.proofs.characters.hex_run.Given as goal

abbrev pub invariant-loop-i : goal.invariant-loop-i
invariant-loop-i l = record {
  told : hex_from 0 0 l.units ≡ hex_from l.i l.value (drop l.i l.units);
  capped : l.value ≤ 0x110000;
}
