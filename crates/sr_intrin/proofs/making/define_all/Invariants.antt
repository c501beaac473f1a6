use Rattle.std.proofs.Common.{◌≡◌, ◌+◌, ◌≤◌, suc, length, map, drop}
use Rattle.sr_heap.specs.Live.{extent, with_objects}
use Rattle.sr_intrin.specs.Rows.{entry_of}
use Rattle.sr_intrin.specs.Table as table
use Rattle.sr_intrin.proofs.making.define_all.Given as goal

abbrev pub invariant-loop-entry : goal.invariant-loop-entry
invariant-loop-entry g l =
    (with_objects (table.define_all (map entry_of (drop l.entry-index l.fn.entries)) l.heap.store.objects) l.heap
    ≡ with_objects (table.define_all (map entry_of l.fn.entries) l.fn.heap.store.objects) l.fn.heap)
    × (extent l.heap ≡ extent l.fn.heap)
