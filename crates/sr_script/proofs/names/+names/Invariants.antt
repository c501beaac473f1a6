use Rattle.std.proofs.Common.{◌≡◌, ◌++◌, drop}
use Rattle.sr_script.specs.Names.{script_names}
use Rattle.sr_script.proofs.names.+names.Given as goal

abbrev pub invariant-put_all-loop-tree : goal.invariant-put_all-loop-tree
invariant-put_all-loop-tree l = l.names ++ script_names (drop l.tree-index l.trees) ≡ l.initial.names ++ script_names l.trees
