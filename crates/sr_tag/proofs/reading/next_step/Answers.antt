use Rattle.sr_tag.proofs.Texts.{IsStep-digits}
use Rattle.sr_tag.proofs.reading.next_step.Goals as goal

pub returns-in-None-clause-none : goal.returns-in-None-clause-none
returns-in-None-clause-none c =
    let split = c.split_at_point.ensures in
    λ n more step. c.in-None.ensures.none n step.number (IsStep-digits c.args.text.now _ _ more n split.whole split.no_point split.boundary step)
