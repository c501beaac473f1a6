use Rattle.std.proofs.Common.{◌≡◌, length, Some}
use Rattle.std.specs.Prelude.{option_map}
use Rattle.sr_value.specs.Plain.{number_of, key_of}
use Rattle.sr_model.specs.Objects as spec
use Rattle.sr_heap.specs.Records.{objects_of}
use Rattle.sr_heap.proofs.prototypes.first_property.Given as goal

-- the first property on the rest of the way is that of the whole way
abbrev pub invariant-loop-left : goal.invariant-loop-left
invariant-loop-left g l =
    spec.property_along l.left (objects_of l.objects) (option_map number_of l.next) (key_of l.key)
    ≡ spec.property_along (length l.objects) (objects_of l.objects) (Some (number_of l.fn.at)) (key_of l.key)

abbrev pub decreases-loop-left : goal.decreases-loop-left
decreases-loop-left g l = l.left
