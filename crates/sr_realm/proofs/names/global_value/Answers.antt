use Rattle.sr_heap.specs.Live.{extent}
use Rattle.sr_realm.proofs.names.global_value.Goals as goal

pub returns-then-is_some-clause-live : goal.returns-then-is_some-clause-live
returns-then-is_some-clause-live g c = c.known.ensures.live (extent c.args.heap.now) c.lexical-binding.ensures.live

pub returns-clause-live : goal.returns-clause-live
returns-clause-live g c = c.known_property.ensures.live (extent c.args.heap.now) c.in_ok-global_property.ensures.live
