use Rattle.sr_text.proofs.IndexKeys.{digit_at, digits_in_more, value_some, value_small}
use Rattle.sr_text.proofs.numerals.decimal_value.Goals as goal

pub returns-in_err-value-clause-none : goal.returns-in_err-value-clause-none
returns-in_err-value-clause-none c =
    rw c.from_residual.ensures (λ n e. c.in_err-value.ensures (digit_at _ n c.loop-unit.unit-index e c.loop-unit-test.true))

pub loop-unit-preserved : goal.loop-unit-preserved
loop-unit-preserved c =
    let some = value_some c.args.units.now c.loop-unit.value c.loop-unit.unit-index c.requires.first c.loop-unit.invariant.some c.in_ok-value.ensures.0 in
    rw c.in_ok-value.ensures.1 (record {
      small = value_small c.loop-unit.value c.loop-unit.unit-index _ c.loop-unit.invariant.small c.in_ok-value.ensures.0;
      some = λ _. some;
      digits = digits_in_more _ _ c.loop-unit.unit-index c.loop-unit-test.true c.in_ok-value.ensures.0 some c.loop-unit.invariant.digits;
    })
