use Rattle.std.specs.Prelude.{◌≡◌}
use Rattle.sr_heap.specs.Live.{extent}
use Rattle.object_cases.proofs.measures.write.Given as goal

-- no object is made
abbrev pub invariant-loop-key : goal.invariant-loop-key
invariant-loop-key l = extent l.heap ≡ extent l.fn.heap
