use Rattle.sr_heap.proofs.object.Object.define.Goals as goal

pub returns-clause-live : goal.returns-clause-live
returns-clause-live g c = λ e given live. c.replace.ensures.live e (c.in_ok-changed.ensures.live e given (c.in-Some.ensures.live e live)) live
