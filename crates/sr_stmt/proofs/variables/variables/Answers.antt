use Rattle.std.proofs.Common.{rules, None, Some}
use Rattle.sr_state.specs.declared.ends.Next.{Next}
use Rattle.sr_state.proofs.Results.{comes}
use Rattle.sr_stmt.specs.Stages.{StepsOn, variables_at}
use Rattle.sr_stmt.specs.Turns.{BeginsValue}
use Rattle.sr_stmt.proofs.variables.variables.Goals as goal

pub returns-in_ok-after-in-Some-value : goal.returns-in_ok-after-in-Some-value
returns-in_ok-after-in-Some-value c = comes c.begin_value-in-Some-value.result _ _ by c.begin_value-in-Some-value.ensures
  where
    by : (n : Next) → BeginsValue c.in_ok-after-in-Some-value.field-0 c.args.declarations.now c.put_name.new.self n c.begin_value-in-Some-value.new.state
        → StepsOn (variables_at c.args.at c.args.declarations.now) c.args.state.now n c.begin_value-in-Some-value.new.state
    by n (None, is, begins) = search rules
    by n (Some v, is, begins) = search rules
