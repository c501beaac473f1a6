use Rattle.std.proofs.Common.{◌≡◌, ◌++◌, drop}
use Rattle.sr_early.specs.Exports.{exported_names}
use Rattle.sr_early.proofs.modules.exported_names.Given as goal

abbrev pub invariant-loop-item : goal.invariant-loop-item
invariant-loop-item l = l.names ++ exported_names (drop l.item-index l.items) ≡ exported_names l.items
