use Rattle.sr_lex.proofs.TextLaws.{tokens_or_failure_law}
use Rattle.sr_lex.proofs.laws.tokens_or_failure.Goals as goal

pub returns : goal.returns
returns c = tokens_or_failure_law
