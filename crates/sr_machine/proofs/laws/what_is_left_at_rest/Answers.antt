use Rattle.sr_machine.proofs.Begins.{ends_at_rest}
use Rattle.sr_machine.proofs.laws.what_is_left_at_rest.Goals as goal

pub returns : goal.returns
returns c = ends_at_rest
