use Rattle.std.proofs.Common.{◌≡◌, ◌++◌, drop}
use Rattle.sr_early.specs.Exports.{references_faults}
use Rattle.sr_early.proofs.exports.references.Given as goal

abbrev pub invariant-loop-name : goal.invariant-loop-name
invariant-loop-name l = l.places ++ references_faults l.strict (drop l.name-index l.names) ≡ l.initial.places ++ references_faults l.strict l.names
