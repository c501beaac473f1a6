use Rattle.std.proofs.Common.{◌≡◌, drop}
use Rattle.sr_early.specs.Early.{least_from}
use Rattle.sr_early.proofs.places.least_from.Given as goal

abbrev pub invariant-loop-place : goal.invariant-loop-place
invariant-loop-place l = least_from l.least (drop l.place-index l.rest) ≡ least_from l.first l.rest
