use Rattle.std.proofs.Common.{sym, ◌∙◌}
use Rattle.sr_heap.specs.Records.{extent_of}
use Rattle.sr_value.specs.Plain.{key_of}
use Rattle.sr_heap.proofs.Methods.{may_delete_is}
use Rattle.sr_heap.proofs.Lives.{object_at, object_set}
use Rattle.sr_heap.proofs.Objects as Objects
use Rattle.sr_heap.proofs.Inside.{parts}
use Rattle.sr_heap.proofs.Methods.{delete_is}
use Rattle.sr_heap.proofs.heap.Heap.delete.Goals as goal

pub returns-clause-after : goal.returns-clause-after
returns-clause-after g c =
    delete_is (parts c.self.inside) c.args.self.now c.self.view_is c.args.at.now c.requires c.place.result c.index_mut.result.now
    c.place.ensures c.index_mut.ensures.value c.delete.new.self (key_of c.args.key.now) c.delete.ensures.after

pub invariant_of-self : goal.invariant_of-self
invariant_of-self g c =
    let x = parts c.self.inside in
    let here = Objects.within x c.args.self.now c.self.view_is c.args.at.now c.requires in
    let old = object_at x c.self.invariant c.place.result c.index_mut.result.now (rw c.place.ensures here) c.index_mut.ensures.value in
    object_set x c.self.invariant c.place.result _ (c.delete.ensures.live (extent_of x) old)

pub returns-clause-answer : goal.returns-clause-answer
returns-clause-answer g c =
    c.delete.ensures.answer
    ∙ sym (may_delete_is (parts c.self.inside) c.args.self.now c.self.view_is c.args.at.now c.requires c.place.result c.index_mut.result.now c.place.ensures c.index_mut.ensures.value (key_of c.args.key.now))
