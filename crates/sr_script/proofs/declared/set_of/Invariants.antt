use Rattle.std.proofs.Common.{take}
use Rattle.sr_script.specs.Table.{SameNames}
use Rattle.sr_script.proofs.declared.set_of.Given as goal

abbrev pub invariant-loop-name : goal.invariant-loop-name
invariant-loop-name l = SameNames l.set.keys (take l.name-index l.list)
