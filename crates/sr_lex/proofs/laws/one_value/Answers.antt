use Rattle.sr_lex.proofs.StringsComplete.{one_value_law}
use Rattle.sr_lex.proofs.laws.one_value.Goals as goal

pub returns : goal.returns
returns c = one_value_law
