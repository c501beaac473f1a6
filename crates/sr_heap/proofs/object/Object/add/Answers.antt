use Rattle.sr_heap.proofs.object.Object.add.Goals as goal

pub returns-clause-live : goal.returns-clause-live
returns-clause-live g c = λ e given live. c.push.ensures.live e (c.new_property.ensures.live e given) live
