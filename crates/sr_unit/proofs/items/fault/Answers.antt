use Rattle.sr_unit.proofs.Judged.{faulty}
use Rattle.sr_unit.proofs.items.fault.Goals as goal

pub returns : goal.returns
returns c = faulty _ _ _ _ _ _ _ _ c.in_ok-here.ensures c.token_marker.ensures c.least_of.ensures c.refusal_at.ensures
