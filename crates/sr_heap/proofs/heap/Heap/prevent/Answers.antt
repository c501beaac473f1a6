use Rattle.std.proofs.Common.{false, refl}
use Rattle.sr_heap.proofs.Lives.{object_at, object_set}
use Rattle.sr_heap.proofs.Objects as Objects
use Rattle.sr_heap.proofs.Inside.{parts}
use Rattle.sr_heap.proofs.Objects.{changed_heap}
use Rattle.sr_heap.proofs.heap.Heap.prevent.Goals as goal

pub returns-clause-after : goal.returns-clause-after
returns-clause-after g c =
    changed_heap (parts c.self.inside) c.args.self.now c.self.view_is c.args.at.now c.requires c.place.result c.index_mut.result.now c.place.ensures c.index_mut.ensures.value
    _ (λ o. record o { extensible = false }) refl

pub invariant_of-self : goal.invariant_of-self
invariant_of-self g c =
    let x = parts c.self.inside in
    let here = Objects.within x c.args.self.now c.self.view_is c.args.at.now c.requires in
    let old = object_at x c.self.invariant c.place.result c.index_mut.result.now (rw c.place.ensures here) c.index_mut.ensures.value in
    object_set x c.self.invariant c.place.result _ (record { kind = old.kind; prototype = old.prototype; properties = old.properties })
