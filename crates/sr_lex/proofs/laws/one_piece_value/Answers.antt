use Rattle.sr_lex.proofs.StringsComplete.{one_piece_law}
use Rattle.sr_lex.proofs.laws.one_piece_value.Goals as goal

pub returns : goal.returns
returns c = one_piece_law
