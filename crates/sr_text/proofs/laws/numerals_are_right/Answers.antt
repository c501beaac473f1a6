use Rattle.sr_text.proofs.IndexKeys.{numerals}
use Rattle.sr_text.proofs.laws.numerals_are_right.Goals as goal

pub returns : goal.returns
returns c = numerals
