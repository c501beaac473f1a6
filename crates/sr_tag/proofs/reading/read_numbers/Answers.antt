use Rattle.std.proofs.Common.{sym, ◌∙◌}
use Rattle.sr_tag.proofs.Progress.{step, stuck, not_empty}
use Rattle.sr_tag.proofs.reading.read_numbers.Goals as goal

pub returns-in_default-next_step-clause-none : goal.returns-in_default-next_step-clause-none
returns-in_default-next_step-clause-none c =
    stuck c.args.text.now c.loop-rest.rest.now c.loop-rest.numbers c.loop-rest.count c.loop-rest.invariant
    (not_empty c.loop-rest.rest.now (sym c.is_empty.ensures ∙ c.loop-rest-test.true)) c.in_default-next_step.ensures.none

pub loop-rest-preserved : goal.loop-rest-preserved
loop-rest-preserved c =
    step c.args.text.now c.loop-rest.rest.now c.loop-rest.numbers c.loop-rest.count c.in-Some.number c.in-Some.more.now c.put-count.new.numbers c.put-count.result
    c.put-count.array_long c.loop-rest.invariant c.in-Some.ensures.some c.put-count.ensures.held c.put-count.ensures.counted
