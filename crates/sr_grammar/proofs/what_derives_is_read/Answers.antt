use Rattle.sr_grammar.proofs.Laws.{complete_law}
use Rattle.sr_grammar.proofs.what_derives_is_read.Goals as goal

pub returns : goal.returns
returns c = complete_law
