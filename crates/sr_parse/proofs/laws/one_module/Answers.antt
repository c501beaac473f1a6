use Rattle.sr_parse.proofs.OneOutcome.{module_read_once}
use Rattle.sr_parse.proofs.laws.one_module.Goals as goal

pub returns : goal.returns
returns c = module_read_once c.one_reading.ensures c.one_failure.ensures c.tokens_or_failure.ensures c.one_sorting.ensures
