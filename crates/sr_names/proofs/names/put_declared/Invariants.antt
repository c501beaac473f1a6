use Rattle.std.proofs.Common.{◌≡◌, ◌++◌, drop, map}
use Rattle.sr_names.specs.Names.{declared_name}
use Rattle.sr_names.proofs.names.put_declared.Given as goal

abbrev pub invariant-loop-declaration : goal.invariant-loop-declaration
invariant-loop-declaration l = l.names ++ map declared_name (drop l.declaration-index l.declarations) ≡ l.initial.names ++ map declared_name l.declarations
