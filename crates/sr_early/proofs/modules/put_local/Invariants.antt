use Rattle.std.proofs.Common.{◌≡◌, ◌++◌, drop}
use Rattle.sr_early.specs.Exports.{local_names}
use Rattle.sr_early.proofs.modules.put_local.Given as goal

abbrev pub invariant-loop-name : goal.invariant-loop-name
invariant-loop-name l = l.names ++ local_names (drop l.name-index l.exported) ≡ l.initial.names ++ local_names l.exported
