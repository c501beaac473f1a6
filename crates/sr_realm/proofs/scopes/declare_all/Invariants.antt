use Rattle.std.proofs.Common.{◌≡◌, drop}
use Rattle.sr_value.specs.Plain.{number_of}
use Rattle.sr_heap.specs.Live.{extent, with_environments}
use Rattle.sr_model.specs.Environments.{with_bindings}
use Rattle.sr_realm.proofs.scopes.declare_all.Given as goal

abbrev pub invariant-loop-name : goal.invariant-loop-name
invariant-loop-name g l =
    (with_environments (with_bindings l.heap.store.environments (number_of l.fn.at) (drop l.name-index l.fn.names)) l.heap
    ≡ with_environments (with_bindings l.fn.heap.store.environments (number_of l.fn.at) l.fn.names) l.fn.heap)
    × (extent l.heap ≡ extent l.fn.heap)
