use Rattle.sr_num.proofs.Decimals.{DecimalsAreOfTheGrammar_lem}
use Rattle.sr_num.proofs.laws.decimals_are_of_the_grammar.Goals as goal

pub returns : goal.returns
returns c = DecimalsAreOfTheGrammar_lem
