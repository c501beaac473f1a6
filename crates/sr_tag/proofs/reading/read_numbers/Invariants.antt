use Rattle.std.proofs.Common.{length}
use Rattle.sr_tag.proofs.Progress.{Progress}
use Rattle.sr_tag.proofs.reading.read_numbers.Given as goal

abbrev pub invariant-loop-rest : goal.invariant-loop-rest
invariant-loop-rest l = Progress l.text l.rest l.numbers l.count

abbrev pub decreases-loop-rest : goal.decreases-loop-rest
decreases-loop-rest l = length l.rest
