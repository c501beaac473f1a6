use Rattle.std.proofs.Common.{ℕ, ◌<◌, ◌≤◌}
use Rattle.sr_text.specs.Search.{StandsAt}
use Rattle.sr_text.proofs.text.Str.find.Given as goal

abbrev pub invariant-loop-at : goal.invariant-loop-at
invariant-loop-at l = (place : ℕ) → l.from ≤ place → place < l.at → ¬ (StandsAt l.whole l.part place)
