use Rattle.std.proofs.Common.{subst}
use Rattle.sr_heap.specs.Live.{Extent, IsLiveBinding}
use Rattle.sr_heap.specs.Records.{extent_of}
use Rattle.sr_heap.proofs.Inside.{parts}
use Rattle.sr_heap.proofs.Objects.{extent_is}
use Rattle.sr_heap.proofs.heap.Heap.set_lexical.Goals as goal

pub invariant_of-self : goal.invariant_of-self
invariant_of-self g c =
    let x = parts c.self.inside in
    let own = subst (λ (e : Extent). IsLiveBinding e c.args.binding) (extent_is x c.args.self.now c.self.view_is) c.requires.own in
    record {
      objects = c.self.invariant.objects;
      environments = c.self.invariant.environments;
      lexical = c.rebind.ensures.live (extent_of x) own c.self.invariant.lexical;
    }
