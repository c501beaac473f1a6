use Rattle.std.proofs.Common.{sym, ◌∙◌, ap, subst}
use Rattle.std.specs.Prelude.{IfOk}
use Rattle.sr_state.specs.declared.frame.Activity.{Activity}
use Rattle.sr_state.specs.declared.frame.Activity.TheVariants as activity
use Rattle.sr_state.specs.declared.frame.Frame.{Frame}
use Rattle.sr_machine.specs.Stages.{StepsOf}
use Rattle.sr_machine.proofs.steps.carry_out.Goals as goal

pub returns-in_ok-source-in-Source : goal.returns-in_ok-source-in-Source
returns-in_ok-source-in-Source c =
    subst (λ (a : Activity). IfOk c.step_source.result (λ n. StepsOf a c.args.state.now n c.step_source.new.state))
    (ap activity.Source c.in_ok-source-in-Source.ensures ∙ sym c.in-Source.is ∙ ap (λ (f : Frame). f.activity) c.top.ensures.same) c.step_source.ensures
