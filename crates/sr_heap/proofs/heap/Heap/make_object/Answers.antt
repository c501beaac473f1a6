use Rattle.std.proofs.Common.{subst, refl, ap, arith, length, length-append, [], ◌∷◌}
use Rattle.std.specs.Prelude.{IfSome}
use Rattle.sr_heap.specs.Live.{Extent, IsLive, IsLiveKind}
use Rattle.sr_heap.specs.Records.{extent_of}
use Rattle.sr_heap.proofs.Inside.{parts}
use Rattle.sr_heap.proofs.Lives.{object_pushed}
use Rattle.sr_heap.proofs.Objects.{extent_is, kept_by}
use Rattle.sr_heap.proofs.heap.Heap.make_object.Goals as goal

pub invariant_of-self : goal.invariant_of-self
invariant_of-self g c = rw c.in_err-push.ensures.items c.self.invariant

pub invariant_of-self-2 : goal.invariant_of-self-2
invariant_of-self-2 g c =
    let x = parts c.self.inside in
    let same = extent_is x c.args.self.now c.self.view_is in
    let kind = subst (λ (e : Extent). IsLiveKind e c.args.kind) same c.requires.kind in
    let prototype = subst (λ (e : Extent). IfSome c.args.prototype (IsLive e)) same c.requires.prototype in
    rw c.in_ok-push.ensures.items (object_pushed x c.self.invariant c.new-object.result (c.new-object.ensures.live (extent_of x) kind prototype))

pub returns-clause-kept : goal.returns-clause-kept
returns-clause-kept g c =
    let x = parts c.self.inside in
    kept_by x c.args.self.now c.self.view_is (record x { objects = c.push.new.self.items }) refl
    (omega (arith, ap length c.in_ok-push.ensures.items, length-append x.objects (c.new-object.result ∷ []))) (omega arith)
