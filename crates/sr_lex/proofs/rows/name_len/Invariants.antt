use Rattle.std.proofs.Common.{◌≡◌, ◌+◌, drop}
use Rattle.sr_lex.specs.Scan.{name_len}
use Rattle.sr_lex.proofs.rows.name_len.Given as goal

abbrev pub invariant-loop-i : goal.invariant-loop-i
invariant-loop-i l = name_len l.units ≡ l.i + name_len (drop l.i l.units)
