use Rattle.std.proofs.Common.{◌≡◌, length}
use Rattle.sr_num.specs.StringToNumber.{without_trailing_white}
use Rattle.sr_num.proofs.reading.without_trailing_white.Given as goal

abbrev pub invariant-loop-last : goal.invariant-loop-last
invariant-loop-last l = without_trailing_white l.text ≡ without_trailing_white l.fn.text

abbrev pub decreases-loop-last : goal.decreases-loop-last
decreases-loop-last l = length l.text
