use Rattle.std.proofs.Common.{◌≡◌, ◌++◌, drop}
use Rattle.sr_early.specs.Exports.{unpaired_local}
use Rattle.sr_early.proofs.exports.unpaired_local.Given as goal

abbrev pub invariant-loop-name : goal.invariant-loop-name
invariant-loop-name l = l.places ++ unpaired_local (drop l.name-index l.names) ≡ l.initial.places ++ unpaired_local l.names
