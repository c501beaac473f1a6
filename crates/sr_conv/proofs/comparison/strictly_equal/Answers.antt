use Rattle.sr_conv.proofs.Equality.{strictly_equal_is}
use Rattle.sr_conv.proofs.comparison.strictly_equal.Goals as goal

pub returns-in_default : goal.returns-in_default
returns-in_default c = strictly_equal_is c.args.x.now c.args.y.now c.strict_equal.result c.in_default.not-Obj c.strict_equal.ensures
