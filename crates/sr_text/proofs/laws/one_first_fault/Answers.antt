use Rattle.sr_text.proofs.Decoding.{one_first_fault}
use Rattle.sr_text.proofs.laws.one_first_fault.Goals as goal

pub returns : goal.returns
returns c = one_first_fault
