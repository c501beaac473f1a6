use Rattle.std.proofs.Common.{◌≡◌, ◌++◌, drop}
use Rattle.sr_names.specs.Strictness.{bindings_faults}
use Rattle.sr_names.proofs.strictness.bindings.Given as goal

abbrev pub invariant-loop-name : goal.invariant-loop-name
invariant-loop-name l = l.places ++ bindings_faults l.strict (drop l.name-index l.names) ≡ l.initial.places ++ bindings_faults l.strict l.names
