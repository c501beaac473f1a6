use Rattle.std.proofs.Common.{◌≡◌, ◌++◌, drop}
use Rattle.sr_names.specs.Names.{lexical_names}
use Rattle.sr_names.proofs.names.put_lexical_names.Given as goal

abbrev pub invariant-loop-item : goal.invariant-loop-item
invariant-loop-item l = l.names ++ lexical_names (drop l.item-index l.items) ≡ l.initial.names ++ lexical_names l.items
