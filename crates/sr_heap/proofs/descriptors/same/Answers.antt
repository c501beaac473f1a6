use Rattle.sr_value.proofs.Sameness.{same_value_is}
use Rattle.sr_heap.proofs.descriptors.same.Goals as goal

pub returns-in_default : goal.returns-in_default
returns-in_default c = same_value_is c.args.a.now c.args.b.now c.same_value.result c.in_default.not-Obj c.same_value.ensures
