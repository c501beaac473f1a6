use Rattle.std.proofs.Common.{◌≡◌, ◌-◌, ◌≤◌, drop, length}
use Rattle.std.specs.Prelude.{option_map}
use Rattle.sr_lex.specs.Scan.{literal}
use Rattle.sr_lex.proofs.LiteralSteps.{len_from}
use Rattle.sr_lex.proofs.literals.literal_len.Given as goal

abbrev pub invariant-loop-turn : goal.invariant-loop-turn
invariant-loop-turn l = record {
  told : len_from l.at (literal (l._turn-end - l._turn) l.quote (drop l.at l.units)) ≡ option_map (λ x. x.units) (literal (length l.units) l.quote l.units);
  within : l.at ≤ length l.units;
}
