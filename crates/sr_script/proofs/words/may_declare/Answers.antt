use Rattle.std.proofs.Common.{ap, not}
use Rattle.sr_script.specs.Form.{may_declare}
use Rattle.sr_script.proofs.words.may_declare.Goals as goal

pub returns : goal.returns
unfolding may_declare
returns c = ap not c.is_one_of.ensures
