use Rattle.sr_unit.proofs.Outcomes.{one_unit}
use Rattle.sr_unit.proofs.laws.one_unit.Goals as goal

pub returns : goal.returns
returns c = one_unit c.one_reading.ensures c.one_failure.ensures c.one_front.ensures c.tokens_or_failure.ensures c.one_sorting.ensures
