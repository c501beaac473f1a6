use Rattle.sr_text.proofs.Decoding.{decoded_once}
use Rattle.sr_text.proofs.laws.decoded_once.Goals as goal

pub returns : goal.returns
returns c = decoded_once
