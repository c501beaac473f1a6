use Rattle.std.proofs.Common.{subst}
use Rattle.std.specs.Prelude.{IfSome}
use Rattle.sr_heap.specs.Live.{Extent, IsLive}
use Rattle.std.proofs.Common.{refl, sym, ◌∙◌}
use Rattle.std.specs.Prelude.{option_map}
use Rattle.sr_value.specs.Plain.{number_of}
use Rattle.sr_heap.proofs.Lives.{object_at, object_set}
use Rattle.sr_heap.proofs.Objects as Objects
use Rattle.sr_heap.proofs.Inside.{parts}
use Rattle.sr_heap.proofs.Methods.{set_prototype_is}
use Rattle.sr_heap.proofs.heap.Heap.set_prototype.Goals as goal

pub returns-then-may-clause-after : goal.returns-then-may-clause-after
returns-then-may-clause-after g c =
    let old = c.index_mut.result.now in
    set_prototype_is (parts c.self.inside) c.args.self.now c.self.view_is c.args.at.now c.requires.live c.place.result old c.place.ensures c.index_mut.ensures.value
    (record old { prototype = c.args.to }) (option_map number_of c.args.to)
    (sym c.if-may.true ∙ c.may_set_prototype-may.ensures) refl

pub invariant_of-self : goal.invariant_of-self
invariant_of-self g c =
    let x = parts c.self.inside in
    let here = Objects.within x c.args.self.now c.self.view_is c.args.at.now c.requires.live in
    let old = object_at x c.self.invariant c.place.result c.index_mut.result.now (rw c.place.ensures here) c.index_mut.ensures.value in
    let own = subst (λ (e : Extent). IfSome c.args.to (IsLive e)) (Objects.extent_is x c.args.self.now c.self.view_is) c.requires.own in
    object_set x c.self.invariant c.place.result _ (record { kind = old.kind; prototype = own; properties = old.properties })
