use Rattle.sr_heap.proofs.EnvironmentRecords.{unbound}
use Rattle.sr_heap.proofs.bindings.create.Goals as goal

pub add-requires : goal.add-requires
add-requires c = unbound c.args.name c.args.bindings.now c.requires
