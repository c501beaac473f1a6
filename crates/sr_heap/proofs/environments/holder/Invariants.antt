use Rattle.std.proofs.Common.{◌≡◌, All, IfSome, length}
use Rattle.sr_model.specs.Environments as spec
use Rattle.sr_heap.specs.Live.{Extent, IsLiveScope}
use Rattle.sr_heap.specs.Plain.{scope_of}
use Rattle.sr_heap.specs.Records.{IsLiveEnvironment, environments_of}
use Rattle.sr_heap.proofs.environments.holder.Given as goal

-- the environment on the rest of the way is that of the whole way
abbrev pub invariant-loop-left : goal.invariant-loop-left
invariant-loop-left l =
    (spec.holder_along l.left (environments_of l.environments) (scope_of l.next) l.name
    ≡ spec.holder (environments_of l.environments) (scope_of l.fn.from) l.name)
    × ((e : Extent) → All (IsLiveEnvironment e) l.environments → IfSome l.fn.from (IsLiveScope e) → IfSome l.next (IsLiveScope e))

abbrev pub decreases-loop-left : goal.decreases-loop-left
decreases-loop-left l = l.left
