use Rattle.std.proofs.Common.{◌≡◌, drop, false}
use Rattle.sr_lex.specs.Scan.{block_from}
use Rattle.sr_lex.proofs.gaps.block_comment.Given as goal

abbrev pub invariant-loop-i : goal.invariant-loop-i
invariant-loop-i l = block_from 0 false l.units ≡ block_from l.i l.line (drop l.i l.units)
