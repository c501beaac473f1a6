use Rattle.std.proofs.Common.{◌≡◌, drop, map}
use Rattle.sr_script.specs.Form.{all_fit}
use Rattle.sr_script.specs.Parts.{tree_with, element_with, declaration_with}
use Rattle.sr_script.proofs.form.+fits.Given as goal

abbrev pub invariant-all_fit-loop-tree : goal.invariant-all_fit-loop-tree
invariant-all_fit-loop-tree l = all_fit (map (tree_with l.names) (drop l.tree-index l.trees)) ≡ all_fit (map (tree_with l.names) l.trees)

abbrev pub invariant-all_declared-loop-declaration : goal.invariant-all_declared-loop-declaration
invariant-all_declared-loop-declaration l =
    all_fit (map (declaration_with l.names) (drop l.declaration-index l.declarations)) ≡ all_fit (map (declaration_with l.names) l.declarations)

abbrev pub invariant-all_arguments-loop-argument : goal.invariant-all_arguments-loop-argument
invariant-all_arguments-loop-argument l =
    all_fit (map (element_with l.names) (drop l.argument-index l.arguments)) ≡ all_fit (map (element_with l.names) l.arguments)
