use Rattle.std.proofs.Common.{◌≡◌, drop}
use Rattle.std.specs.List.{list_any}
use Rattle.sr_model.specs.Names.{is_taken}
use Rattle.sr_realm.proofs.accepting.any_taken.Given as goal

abbrev pub invariant-loop-name : goal.invariant-loop-name
invariant-loop-name g l = list_any (is_taken l.heap.store) (drop l.name-index l.names) ≡ list_any (is_taken l.heap.store) l.fn.names
