use Rattle.sr_parse.proofs.OneOutcome.{module_read_or_refused}
use Rattle.sr_parse.proofs.laws.each_module.Goals as goal

pub returns : goal.returns
returns c = module_read_or_refused c.each_text_is_read.ensures
