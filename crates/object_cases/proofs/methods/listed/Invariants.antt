use Rattle.sr_heap.specs.Live.{IsLive, extent}
use Rattle.object_cases.proofs.methods.listed.Given as goal

-- the object is live as its properties change
abbrev pub invariant-loop-cell : goal.invariant-loop-cell
invariant-loop-cell l =
    (goal.iterator-loop-cell).can_next l.cell-iterator
    × (goal.iterator-loop-cell).is_finite l.cell-iterator
    × IsLive (extent l.heap) l.at
