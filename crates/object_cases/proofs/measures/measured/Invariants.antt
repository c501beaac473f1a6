use Rattle.sr_heap.specs.Live.{IsLive, extent}
use Rattle.object_cases.proofs.measures.measured.Given as goal

-- the object stays live as it is read and written
abbrev pub invariant-loop : goal.invariant-loop
invariant-loop l = IsLive (extent l.heap) l.at
