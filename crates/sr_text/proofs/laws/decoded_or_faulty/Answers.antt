use Rattle.sr_text.proofs.Decoding.{decoded_or_faulty}
use Rattle.sr_text.proofs.laws.decoded_or_faulty.Goals as goal

pub returns : goal.returns
returns c = decoded_or_faulty
