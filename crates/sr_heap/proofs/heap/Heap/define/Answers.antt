use Rattle.std.proofs.Common.{◌≡◌, Bool, subst, sym}
use Rattle.std.specs.Prelude.{IfOk}
use Rattle.std.proofs.lemmas.Result.{on_ok_weaker}
use Rattle.sr_value.specs.Plain.{key_of, descriptor_of}
use Rattle.sr_heap.specs.Live.{Extent, IsLiveDescriptor}
use Rattle.sr_heap.specs.Records.{extent_of}
use Rattle.sr_heap.proofs.Inside.{parts}
use Rattle.sr_heap.proofs.Objects.{extent_is, within}
use Rattle.sr_heap.proofs.Lives.{object_set, object_at}
use Rattle.sr_heap.proofs.Methods.{may_define_is, define_is}
use Rattle.sr_heap.proofs.heap.Heap.define.Goals as goal

pub invariant_of-self : goal.invariant_of-self
invariant_of-self g c =
    let x = parts c.self.inside in
    let here = within x c.args.self.now c.self.view_is c.args.at.now c.requires.live in
    let own = subst (λ (e : Extent). IsLiveDescriptor e c.args.d) (extent_is x c.args.self.now c.self.view_is) c.requires.own in
    let old = object_at x c.self.invariant c.place.result c.index_mut.result.now (rw c.place.ensures here) c.index_mut.ensures.value in
    object_set x c.self.invariant c.place.result c.define.new.self (c.define.ensures.live (extent_of x) own old)

pub returns-clause-answer : goal.returns-clause-answer
returns-clause-answer g c =
    subst (λ (m : Bool). IfOk c.define.result (λ b. b ≡ m))
    (sym (may_define_is (parts c.self.inside) c.args.self.now c.self.view_is c.args.at.now c.requires.live c.place.result c.index_mut.result.now
    c.place.ensures c.index_mut.ensures.value (key_of c.args.key) (descriptor_of c.args.d)))
    c.define.ensures.answer

pub returns-clause-after : goal.returns-clause-after
returns-clause-after g c =
    on_ok_weaker c.define.result
    (define_is (parts c.self.inside) c.args.self.now c.self.view_is c.args.at.now c.requires.live c.place.result c.index_mut.result.now
    c.place.ensures c.index_mut.ensures.value c.define.new.self (key_of c.args.key) (descriptor_of c.args.d))
    c.define.ensures.after
