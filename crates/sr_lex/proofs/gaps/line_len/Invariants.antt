use Rattle.std.proofs.Common.{◌≡◌, ◌+◌, drop}
use Rattle.sr_lex.specs.Scan.{line_len}
use Rattle.sr_lex.proofs.gaps.line_len.Given as goal

abbrev pub invariant-loop-i : goal.invariant-loop-i
invariant-loop-i l = line_len l.units ≡ l.i + line_len (drop l.i l.units)
