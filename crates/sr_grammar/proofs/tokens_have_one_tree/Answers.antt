use Rattle.sr_grammar.proofs.Laws.{unique_law}
use Rattle.sr_grammar.proofs.tokens_have_one_tree.Goals as goal

pub returns : goal.returns
returns c = unique_law
