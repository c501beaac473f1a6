use Rattle.sr_command.proofs.RunEnds.{too_long_comes}
use Rattle.sr_command.proofs.run.end_too_long.Goals as goal

pub returns-clause-comes : goal.returns-clause-comes
returns-clause-comes g c = λ out. too_long_comes c.end_by_name.result _ _ (c.end_by_name.ensures.comes out)
