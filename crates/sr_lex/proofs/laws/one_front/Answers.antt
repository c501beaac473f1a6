use Rattle.sr_lex.proofs.TextLaws.{one_front_law}
use Rattle.sr_lex.proofs.laws.one_front.Goals as goal

pub returns : goal.returns
returns c = one_front_law
