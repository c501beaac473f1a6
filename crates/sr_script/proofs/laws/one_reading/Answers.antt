use Rattle.sr_script.proofs.Built.{one_built}
use Rattle.sr_script.proofs.laws.one_reading.Goals as goal

pub returns : goal.returns
returns c = one_built c.one_reading.ensures c.one_failure.ensures c.one_front.ensures c.tokens_or_failure.ensures c.one_sorting.ensures
