use Rattle.std.proofs.Common.{subst, sym}
use Rattle.std.specs.Prelude.{IfSome}
use Rattle.std.specs.Option.{option_copied}
use Rattle.sr_heap.specs.Live.{Extent, IsLiveBinding}
use Rattle.sr_heap.specs.Records.{extent_of}
use Rattle.sr_heap.proofs.Inside.{parts}
use Rattle.sr_heap.proofs.Objects.{extent_is}
use Rattle.sr_heap.proofs.heap.Heap.lexical.Goals as goal

pub returns-clause-live : goal.returns-clause-live
returns-clause-live g c =
    let x = parts c.self.inside in
    subst (λ (e : Extent). IfSome (option_copied c.bound.result) (IsLiveBinding e)) (sym (extent_is x c.args.self.now c.self.view_is))
    (c.bound.ensures.live (extent_of x) c.self.invariant.lexical)
