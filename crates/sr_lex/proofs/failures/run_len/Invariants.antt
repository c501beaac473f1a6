use Rattle.std.proofs.Common.{◌≡◌, ◌+◌, false, drop}
use Rattle.sr_lex.specs.Failures.{run_len}
use Rattle.sr_lex.proofs.failures.run_len.Given as goal

abbrev pub invariant-loop-i : goal.invariant-loop-i
invariant-loop-i l = run_len l.base false l.units ≡ l.i + run_len l.base l.after (drop l.i l.units)
