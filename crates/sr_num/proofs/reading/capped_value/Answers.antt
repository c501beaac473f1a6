use Rattle.std.proofs.Common.{arith, ◌∙◌}
use Rattle.sr_num.specs.declared.reading.TheConstants.{TOO_LARGE}
use Rattle.sr_num.proofs.Digits.{capped_more}
use Rattle.sr_num.proofs.reading.capped_value.Goals as goal

pub loop-unit-preserved : goal.loop-unit-preserved
loop-unit-preserved c =
    c.min-value.ensures
    ∙ rw c.digit_value.ensures
    (capped_more c.args.base TOO_LARGE c.args.digits.now c.loop-unit.unit-index c.loop-unit.value (omega arith) (omega arith) c.loop-unit.invariant)
