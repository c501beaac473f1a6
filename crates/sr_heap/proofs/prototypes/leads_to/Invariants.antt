use Rattle.std.proofs.Common.{◌≡◌, length}
use Rattle.std.specs.Prelude.{option_map}
use Rattle.sr_value.specs.Plain.{number_of}
use Rattle.sr_model.specs.Objects as spec
use Rattle.sr_heap.specs.Records.{objects_of}
use Rattle.sr_heap.proofs.prototypes.leads_to.Given as goal

-- the rest of the way comes there exactly where the whole way does
abbrev pub invariant-loop-left : goal.invariant-loop-left
invariant-loop-left g l =
    spec.leads_to l.left (objects_of l.objects) (option_map number_of l.next) (number_of l.to)
    ≡ spec.leads_to (length l.objects) (objects_of l.objects) (option_map number_of l.from) (number_of l.to)

abbrev pub decreases-loop-left : goal.decreases-loop-left
decreases-loop-left g l = l.left
