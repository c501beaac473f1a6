use Rattle.std.proofs.Common.{Some}
use Rattle.std.proofs.Common.{subst, sym, ◌∙◌}
use Rattle.sr_heap.specs.Live.{Extent, IsLiveKind}
use Rattle.std.proofs.Common.{ap}
use Rattle.sr_heap.specs.Plain.{kind_of}
use Rattle.sr_heap.specs.Records.{object_of}
use Rattle.sr_heap.proofs.Methods.{kind_is}
use Rattle.sr_heap.proofs.Lives.{object_at, object_set}
use Rattle.sr_heap.proofs.Objects as Objects
use Rattle.sr_heap.proofs.Inside.{parts}
use Rattle.sr_heap.proofs.Objects.{changed_heap, with_kind}
use Rattle.sr_heap.proofs.heap.Heap.set_kind.Goals as goal

pub returns-clause-after : goal.returns-clause-after
returns-clause-after g c =
    let old = c.index_mut.result.now in
    changed_heap (parts c.self.inside) c.args.self.now c.self.view_is c.args.at.now c.requires.live c.place.result old c.place.ensures c.index_mut.ensures.value
    (record old { kind = c.replace.new.dest }) (λ o. record o { kind = kind_of c.args.kind }) (ap (λ k. with_kind (object_of old) (kind_of k)) c.replace.ensures.after)

pub invariant_of-self : goal.invariant_of-self
invariant_of-self g c =
    let x = parts c.self.inside in
    let here = Objects.within x c.args.self.now c.self.view_is c.args.at.now c.requires.live in
    let old = object_at x c.self.invariant c.place.result c.index_mut.result.now (rw c.place.ensures here) c.index_mut.ensures.value in
    let own = subst (λ (e : Extent). IsLiveKind e c.args.kind) (Objects.extent_is x c.args.self.now c.self.view_is) c.requires.own in
    object_set x c.self.invariant c.place.result _ (record { kind = rw c.replace.ensures.after own; prototype = old.prototype; properties = old.properties })

pub returns-clause-old : goal.returns-clause-old
returns-clause-old g c =
    kind_is (parts c.self.inside) c.args.self.now c.self.view_is c.args.at.now c.requires.live c.place.result c.index_mut.result.now c.place.ensures c.index_mut.ensures.value
    ∙ ap (λ k. Some (kind_of k)) (sym c.replace.ensures.value)

pub returns-clause-old_live : goal.returns-clause-old_live
returns-clause-old_live g c =
    let x = parts c.self.inside in
    let here = Objects.within x c.args.self.now c.self.view_is c.args.at.now c.requires.live in
    let old = object_at x c.self.invariant c.place.result c.index_mut.result.now (rw c.place.ensures here) c.index_mut.ensures.value in
    rw c.replace.ensures.value (subst (λ (e : Extent). IsLiveKind e c.index_mut.result.now.kind) (sym (Objects.extent_is x c.args.self.now c.self.view_is)) old.kind)
