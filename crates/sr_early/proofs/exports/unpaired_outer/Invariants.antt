use Rattle.std.proofs.Common.{◌≡◌, ◌++◌, drop}
use Rattle.sr_early.specs.Exports.{unpaired_outer}
use Rattle.sr_early.proofs.exports.unpaired_outer.Given as goal

abbrev pub invariant-loop-name : goal.invariant-loop-name
invariant-loop-name l = l.places ++ unpaired_outer (drop l.name-index l.names) ≡ l.initial.places ++ unpaired_outer l.names
