use Rattle.sr_heap.specs.Live.{extent}
use Rattle.sr_realm.proofs.scopes.copy_of.Goals as goal

pub returns-in_ok-copied-in-Some-clause-live : goal.returns-in_ok-copied-in-Some-clause-live
returns-in_ok-copied-in-Some-clause-live g c = c.in_ok-copied-in-Some.ensures.live (extent c.args.heap.now) c.in-Some.ensures.live
