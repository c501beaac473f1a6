use Rattle.sr_text.proofs.Encoding.{utf8_of_decoded}
use Rattle.sr_text.proofs.laws.encodes_back.Goals as goal

pub returns : goal.returns
returns c = utf8_of_decoded
