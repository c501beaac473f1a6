use Rattle.std.proofs.Common.{◌≡◌, drop}
use Rattle.sr_early.specs.Exports.{is_paired, is_well_formed}
use Rattle.sr_early.proofs.exports.is_well_formed.Given as goal

abbrev pub invariant-loop-unit : goal.invariant-loop-unit
invariant-loop-unit l = is_paired l.behind (drop l.unit-index l.units) ≡ is_well_formed l.units
