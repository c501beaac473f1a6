use Rattle.sr_text.proofs.Digits.{IsWrittenTo}
use Rattle.sr_text.proofs.numerals.put_digits.Given as goal

abbrev pub invariant-loop-rest : goal.invariant-loop-rest
invariant-loop-rest l = IsWrittenTo l.radix l.n l.buffer l.at l.rest

abbrev pub decreases-loop-rest : goal.decreases-loop-rest
decreases-loop-rest l = l.rest
