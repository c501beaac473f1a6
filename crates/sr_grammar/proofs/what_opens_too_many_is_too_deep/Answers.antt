use Rattle.sr_grammar.proofs.Laws.{opens_too_many_law}
use Rattle.sr_grammar.proofs.what_opens_too_many_is_too_deep.Goals as goal

pub returns : goal.returns
returns c = opens_too_many_law
