use Rattle.std.proofs.Common.{◌≡◌, ◌+◌, ◌≤◌, suc, length, map, drop}
use Rattle.sr_heap.specs.Live.{extent, with_objects}
use Rattle.sr_intrin.specs.Rows.{row_of}
use Rattle.sr_intrin.specs.Table as table
use Rattle.sr_intrin.proofs.making.make_objects.Given as goal

abbrev pub invariant-loop-row : goal.invariant-loop-row
invariant-loop-row g l =
    (with_objects (table.make_objects (map row_of (drop l.row-index l.fn.rows)) l.heap.store.objects) l.heap
    ≡ with_objects (table.make_objects (map row_of l.fn.rows) l.fn.heap.store.objects) l.fn.heap)
    × (length l.heap.store.objects ≡ length l.fn.heap.store.objects + l.row-index)
