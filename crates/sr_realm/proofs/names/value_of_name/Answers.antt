use Rattle.sr_heap.specs.Live.{extent}
use Rattle.sr_realm.proofs.names.value_of_name.Goals as goal

pub returns-in-Some-clause-live : goal.returns-in-Some-clause-live
returns-in-Some-clause-live g c = c.known.ensures.live (extent c.args.heap.now) c.binding.ensures.live
