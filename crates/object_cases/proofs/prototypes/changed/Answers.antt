use Rattle.sr_heap.specs.Live.{extent}
use Rattle.object_cases.proofs.prototypes.changed.Goals as goal

pub set_prototype-done-requires-clause-live : goal.set_prototype-done-requires-clause-live
set_prototype-done-requires-clause-live c = c.in_ok-at.ensures (extent c.loop-change.heap) (rw c.deref.ensures.value c.loop-change.invariant.2)

pub prototype-requires-in-loop-change : goal.prototype-requires-in-loop-change
prototype-requires-in-loop-change c =
    rw c.set_prototype-done.ensures.kept (c.in_ok-at.ensures (extent c.loop-change.heap) (rw c.deref.ensures.value c.loop-change.invariant.2))
