use Rattle.std.specs.List.{All}
use Rattle.sr_heap.specs.Live.{IsLiveScope, extent}
use Rattle.object_cases.proofs.environments.make.Given as goal

-- all environments that were made are live
abbrev pub invariant-loop-word : goal.invariant-loop-word
invariant-loop-word l =
    (goal.iterator-loop-word).can_next l.word-iterator
    × (goal.iterator-loop-word).is_finite l.word-iterator
    × All (IsLiveScope (extent l.heap)) l.made.items
