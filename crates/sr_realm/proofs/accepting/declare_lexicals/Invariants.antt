use Rattle.std.proofs.Common.{◌≡◌, drop}
use Rattle.sr_heap.specs.Live.{extent, with_store}
use Rattle.sr_model.specs.Names.{with_lexical_names}
use Rattle.sr_realm.proofs.accepting.declare_lexicals.Given as goal

abbrev pub invariant-loop-name : goal.invariant-loop-name
invariant-loop-name g l =
    (with_store (with_lexical_names (drop l.name-index l.fn.names) l.heap.store) l.heap ≡ with_store (with_lexical_names l.fn.names l.fn.heap.store) l.fn.heap)
    × (extent l.heap ≡ extent l.fn.heap)
