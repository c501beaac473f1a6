use Rattle.std.proofs.Common.{subst, sym}
use Rattle.std.specs.Prelude.{IfSome}
use Rattle.std.specs.Option.{option_copied}
use Rattle.sr_heap.specs.Live.{Extent, IsLiveProperty, extent}
use Rattle.sr_heap.specs.Records.{extent_of}
use Rattle.sr_heap.proofs.Inside.{parts}
use Rattle.sr_heap.proofs.Objects.{extent_is}
use Rattle.sr_heap.proofs.heap.Heap.stop.Goals as goal

pub returns-clause-live : goal.returns-clause-live
returns-clause-live g c =
    let x = parts c.self.inside in
    let first = c.first_property.ensures.live (extent_of x) (rw c.deref.ensures.value c.self.invariant.objects) in
    c.stopped.ensures.live (extent c.args.self.now)
    (subst (λ (e : Extent). IfSome (option_copied c.first_property.result) (IsLiveProperty e)) (sym (extent_is x c.args.self.now c.self.view_is)) first)
