use Rattle.sr_lex.proofs.TextLaws.{one_reading_law}
use Rattle.sr_lex.proofs.laws.one_reading.Goals as goal

pub returns : goal.returns
returns c = one_reading_law
