use Rattle.std.specs.List.{All}
use Rattle.sr_heap.specs.Live.{IsLive, extent}
use Rattle.object_cases.proofs.prototypes.changed.Given as goal

-- they stay live as their prototypes change
abbrev pub invariant-loop-change : goal.invariant-loop-change
invariant-loop-change l =
    (goal.iterator-loop-change).can_next l.change-iterator
    × (goal.iterator-loop-change).is_finite l.change-iterator
    × All (IsLive (extent l.heap)) l.made.items
