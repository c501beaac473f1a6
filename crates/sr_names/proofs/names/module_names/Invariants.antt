use Rattle.std.proofs.Common.{◌≡◌, ◌++◌, drop}
use Rattle.sr_names.specs.Names.{module_names}
use Rattle.sr_names.proofs.names.module_names.Given as goal

abbrev pub invariant-loop-item : goal.invariant-loop-item
invariant-loop-item l = l.names ++ module_names (drop l.item-index l.items) ≡ module_names l.items
