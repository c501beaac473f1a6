use Rattle.std.proofs.Common.{◌≡◌, ◌+◌, drop}
use Rattle.sr_marker.specs.Places.{tokens_before}
use Rattle.sr_marker.proofs.places.tokens_before.Given as goal

abbrev pub invariant-loop-i : goal.invariant-loop-i
invariant-loop-i l = tokens_before l.at l.lexemes ≡ l.i + tokens_before l.at (drop l.i l.lexemes)
