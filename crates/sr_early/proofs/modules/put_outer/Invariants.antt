use Rattle.std.proofs.Common.{◌≡◌, ◌++◌, drop}
use Rattle.sr_early.specs.Exports.{outer_names}
use Rattle.sr_early.proofs.modules.put_outer.Given as goal

abbrev pub invariant-loop-name : goal.invariant-loop-name
invariant-loop-name l = l.names ++ outer_names (drop l.name-index l.exported) ≡ l.initial.names ++ outer_names l.exported
