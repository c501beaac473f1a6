use Rattle.sr_heap.specs.Live.{extent}
use Rattle.sr_realm.proofs.names.value_at.Goals as goal

pub returns-in_ok-global_property-in-Property-clause-live : goal.returns-in_ok-global_property-in-Property-clause-live
returns-in_ok-global_property-in-Property-clause-live g c = c.known_property.ensures.live (extent c.args.heap.now) c.in_ok-global_property-in-Property.ensures.live

pub returns-in-Lexical-clause-live : goal.returns-in-Lexical-clause-live
returns-in-Lexical-clause-live g c = c.known.ensures.live (extent c.args.heap.now) c.lexical.ensures.live

pub returns-in-Local-clause-live : goal.returns-in-Local-clause-live
returns-in-Local-clause-live g c = c.known-in-Local.ensures.live (extent c.args.heap.now) c.binding.ensures.live
