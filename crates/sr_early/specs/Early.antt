-- Early errors (ECMA-262 16.1.1, 16.2.1.1).
use Rattle.std.specs.Prelude.{ℕ, min, true, List, [], ◌∷◌, ◌++◌, Option, None, Some}
use Rattle.sr_ast.specs.declared.tree.Tree.{Tree}
use Rattle.sr_text.specs.declared.goal.Goal.{Goal}
use Rattle.sr_text.specs.declared.goal.Goal.TheVariants as goal
use Rattle.sr_names.specs.Strictness.{says_strict}
use Rattle.sr_names.specs.Names.{all_vars, module_names, top_names, top_vars}
use Rattle.sr_names.specs.Scopes.{scope_faults}
use Rattle.sr_early.specs.Targets.{around_items}
use Rattle.sr_early.specs.Exports.{export_faults}
use Rattle.sr_early.specs.Faults.{all_faults}

-- the places at which the items of a script or a module break a rule; a module is strict always
abbrev pub places : Goal → List Tree → List ℕ
places goal.Script items = all_faults items (around_items (says_strict items)) ++ scope_faults (top_names items) (top_vars items)
places goal.Module items = all_faults items (around_items true) ++ (scope_faults (module_names items) (all_vars items) ++ export_faults items)

-- the least of some numbers
abbrev pub least_from : ℕ → List ℕ → ℕ
least_from n [] = n
least_from n (m ∷ ms) = least_from (min n m) ms

abbrev pub least : List ℕ → Option ℕ
least [] = None
least (n ∷ ns) = Some (least_from n ns)

unfoldable pub early : Goal → List Tree → Option ℕ
early g items = least (places g items)
