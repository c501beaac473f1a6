use Rattle.sr_outside.proofs.Pieces.{taken_more}
use Rattle.sr_outside.proofs.streams.write_whole.Goals as goal

pub loop-at-preserved : goal.loop-at-preserved
loop-at-preserved g c = taken_more _ (g.W.Write.contents c.loop-at.writer) _ _ _ _ c.loop-at.invariant c.in-Ok.ensures.bound c.in-Ok.ensures.bytes
