use Rattle.sr_heap.specs.Live.{extent}
use Rattle.sr_realm.proofs.writes.set_global.Goals as goal

pub returns-clause-live : goal.returns-clause-live
returns-clause-live g c = c.written_property.ensures.live (extent c.set.new.self) c.in_ok-setting.ensures.setter
