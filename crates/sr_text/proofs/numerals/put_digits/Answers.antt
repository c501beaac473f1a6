use Rattle.sr_text.proofs.Digits.{written_further}
use Rattle.sr_text.proofs.numerals.put_digits.Goals as goal

pub loop-rest-preserved : goal.loop-rest-preserved
loop-rest-preserved c = rw c.digit_unit.ensures (written_further _ _ _ _ _ c.loop-rest.invariant c.requires.least c.loop-rest-test.true)
