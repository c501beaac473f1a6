use Rattle.sr_parse.proofs.OneOutcome.{read_or_refused}
use Rattle.sr_parse.proofs.laws.each_script.Goals as goal

pub returns : goal.returns
returns c = read_or_refused c.each_text_is_read.ensures
