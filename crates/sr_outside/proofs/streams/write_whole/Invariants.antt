use Rattle.std.proofs.Common.{◌-◌, length}
use Rattle.sr_outside.proofs.Pieces.{IsTaken}
use Rattle.sr_outside.proofs.streams.write_whole.Given as goal

abbrev pub invariant-loop-at : goal.invariant-loop-at
invariant-loop-at g l = IsTaken (g.W.Write.contents l.fn.writer) (g.W.Write.contents l.writer) l.bytes l.at

abbrev pub decreases-loop-at : goal.decreases-loop-at
decreases-loop-at g l = length l.bytes - l.at
