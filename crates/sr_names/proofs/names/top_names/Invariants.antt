use Rattle.std.proofs.Common.{◌≡◌, ◌++◌, drop}
use Rattle.sr_names.specs.Names.{top_names}
use Rattle.sr_names.proofs.names.top_names.Given as goal

abbrev pub invariant-loop-item : goal.invariant-loop-item
invariant-loop-item l = l.names ++ top_names (drop l.item-index l.items) ≡ top_names l.items
