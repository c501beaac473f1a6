use Rattle.sr_lex.proofs.NumberLaws.{one_number_law}
use Rattle.sr_lex.proofs.laws.one_number.Goals as goal

pub returns : goal.returns
returns c = one_number_law
