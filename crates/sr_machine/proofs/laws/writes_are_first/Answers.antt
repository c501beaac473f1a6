use Rattle.sr_machine.proofs.Begins.{writes_first}
use Rattle.sr_machine.proofs.laws.writes_are_first.Goals as goal

pub returns : goal.returns
returns c = writes_first
