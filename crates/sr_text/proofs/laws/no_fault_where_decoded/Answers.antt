use Rattle.sr_text.proofs.Decoding.{no_fault_decoded}
use Rattle.sr_text.proofs.laws.no_fault_where_decoded.Goals as goal

pub returns : goal.returns
returns c = no_fault_decoded
