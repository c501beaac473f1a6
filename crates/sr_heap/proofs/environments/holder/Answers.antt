use Rattle.sr_heap.specs.Records.{environments_of}
use Rattle.sr_heap.proofs.Outward.{from_global}
use Rattle.sr_heap.proofs.environments.holder.Goals as goal

pub returns-in_default-clause-same : goal.returns-in_default-clause-same
returns-in_default-clause-same c =
    from_global c.loop-left.left (environments_of c.args.environments.now) c.args.name.now c.loop-left.next _ c.in_default.is c.loop-left.invariant.0
