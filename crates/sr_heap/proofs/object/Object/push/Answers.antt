use Rattle.sr_heap.proofs.Objects.{absent}
use Rattle.sr_heap.proofs.object.Object.push.Goals as goal

pub add-requires : goal.add-requires
add-requires g c = absent c.args.key c.args.self.now.properties c.requires
