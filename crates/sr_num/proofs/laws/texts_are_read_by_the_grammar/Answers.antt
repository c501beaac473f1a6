use Rattle.sr_num.proofs.Literals.{TextsAreReadByTheGrammar_lem}
use Rattle.sr_num.proofs.laws.texts_are_read_by_the_grammar.Goals as goal

pub returns : goal.returns
returns c = TextsAreReadByTheGrammar_lem
