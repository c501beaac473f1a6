use Rattle.std.proofs.Common.{◌≡◌, ◌++◌, drop}
use Rattle.sr_early.specs.Exports.{exported_bindings}
use Rattle.sr_early.proofs.modules.exported_bindings.Given as goal

abbrev pub invariant-loop-item : goal.invariant-loop-item
invariant-loop-item l = l.names ++ exported_bindings (drop l.item-index l.items) ≡ exported_bindings l.items
