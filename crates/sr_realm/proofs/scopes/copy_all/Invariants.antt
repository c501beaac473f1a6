use Rattle.std.proofs.Common.{◌≡◌, drop}
use Rattle.sr_value.specs.Plain.{number_of}
use Rattle.sr_heap.specs.Live.{extent, with_environments}
use Rattle.sr_model.specs.Environments.{with_copies}
use Rattle.sr_realm.proofs.scopes.copy_all.Given as goal

abbrev pub invariant-loop-name : goal.invariant-loop-name
invariant-loop-name g l =
    (with_environments (with_copies l.heap.store.environments (number_of l.fn.from) (number_of l.fn.to) (drop l.name-index l.fn.names)) l.heap
    ≡ with_environments (with_copies l.fn.heap.store.environments (number_of l.fn.from) (number_of l.fn.to) l.fn.names) l.fn.heap)
    × (extent l.heap ≡ extent l.fn.heap)
