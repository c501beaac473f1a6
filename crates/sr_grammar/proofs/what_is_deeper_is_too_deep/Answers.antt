use Rattle.sr_grammar.proofs.Laws.{too_tall_law}
use Rattle.sr_grammar.proofs.what_is_deeper_is_too_deep.Goals as goal

pub returns : goal.returns
returns c = too_tall_law
