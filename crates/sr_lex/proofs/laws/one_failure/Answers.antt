use Rattle.sr_lex.proofs.TextLaws.{one_failure_law}
use Rattle.sr_lex.proofs.laws.one_failure.Goals as goal

pub returns : goal.returns
returns c = one_failure_law
