use Rattle.sr_heap.specs.Live.{IsLive, extent}
use Rattle.object_cases.proofs.measures.filled.Given as goal

-- the object that was made last is live
abbrev pub invariant-loop : goal.invariant-loop
invariant-loop l = IsLive (extent l.heap) l.at
