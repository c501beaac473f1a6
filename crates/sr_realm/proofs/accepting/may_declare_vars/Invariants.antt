use Rattle.std.proofs.Common.{◌≡◌, drop}
use Rattle.std.specs.List.{list_all}
use Rattle.sr_model.specs.Names.{may_declare_var}
use Rattle.sr_realm.proofs.accepting.may_declare_vars.Given as goal

abbrev pub invariant-loop-name : goal.invariant-loop-name
invariant-loop-name g l = list_all (may_declare_var l.heap.store) (drop l.name-index l.names) ≡ list_all (may_declare_var l.heap.store) l.fn.names
