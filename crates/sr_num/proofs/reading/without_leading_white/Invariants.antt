use Rattle.std.proofs.Common.{◌≡◌, length}
use Rattle.sr_num.specs.StringToNumber.{without_leading_white}
use Rattle.sr_num.proofs.reading.without_leading_white.Given as goal

abbrev pub invariant-loop-text : goal.invariant-loop-text
invariant-loop-text l = without_leading_white l.text ≡ without_leading_white l.fn.text

abbrev pub decreases-loop-text : goal.decreases-loop-text
decreases-loop-text l = length l.text
