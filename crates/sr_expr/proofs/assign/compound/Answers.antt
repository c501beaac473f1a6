use Rattle.std.proofs.Common.{rules}
use Rattle.sr_state.proofs.Results.{comes}
use Rattle.sr_expr.proofs.assign.compound.Goals as goal

pub returns-in_ok-value-in-2 : goal.returns-in_ok-value-in-2
returns-in_ok-value-in-2 c = comes c.put.result _ _ (λ next puts. search rules) c.put.ensures
