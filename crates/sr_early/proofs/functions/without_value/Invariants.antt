use Rattle.std.proofs.Common.{◌≡◌, ◌++◌, drop}
use Rattle.sr_early.specs.Faults.{without_value}
use Rattle.sr_early.proofs.functions.without_value.Given as goal

abbrev pub invariant-loop-declaration : goal.invariant-loop-declaration
invariant-loop-declaration l = l.places ++ without_value (drop l.declaration-index l.declarations) ≡ l.initial.places ++ without_value l.declarations
