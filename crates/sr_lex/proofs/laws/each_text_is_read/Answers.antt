use Rattle.sr_lex.proofs.TextLaws.{each_text_law}
use Rattle.sr_lex.proofs.laws.each_text_is_read.Goals as goal

pub returns : goal.returns
returns c = each_text_law
