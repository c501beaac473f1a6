use Rattle.std.proofs.Common.{◌≡◌, ◌-◌, ◌≤◌, drop, length}
use Rattle.std.specs.Prelude.{IsTrue}
use Rattle.sr_lex.specs.Scan as spec
use Rattle.sr_lex.specs.Closed.{NoClose}
use Rattle.sr_lex.proofs.gaps.gap.Given as goal

abbrev pub invariant-loop-turn : goal.invariant-loop-turn
invariant-loop-turn l = record {
  told : spec.join l.gap (spec.gap (l._turn-end - l._turn) l.first (drop l.gap.units l.units)) ≡ spec.gap (length l.units) l.start l.units;
  within : l.gap.units ≤ length l.units;
  unclosed : IsTrue l.unclosed → NoClose (drop 2 (drop l.gap.units l.units));
}
