use Rattle.sr_grammar.proofs.Laws.{longest_law}
use Rattle.sr_grammar.proofs.as_much_as_can_be_is_read.Goals as goal

pub returns : goal.returns
returns c = longest_law
