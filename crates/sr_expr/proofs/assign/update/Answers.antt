use Rattle.std.proofs.Common.{rules}
use Rattle.sr_state.proofs.Results.{comes}
use Rattle.sr_expr.proofs.assign.update.Goals as goal

pub returns-in-Is : goal.returns-in-Is
returns-in-Is c = comes c.put_and_give.result _ _ (λ next puts. search rules) c.put_and_give.ensures
