-- What stands around a tree: labels, loops and functions (ECMA-262 8.3, 14.8.1, 14.9.1, 14.10.1, 14.13.1).
use Rattle.std.specs.Prelude.{ℕ, ◌==◌, Bool, true, false, not, ◌||◌, if◌then◌else◌, List, [], ◌∷◌, ◌++◌, Option, None, Some}
use Rattle.std.specs.List.{list_any}
use Rattle.std.specs.Cmp.Lexicographic.{pointwise}
use Rattle.sr_ast.specs.declared.tree.Tree.{Tree, Tree-F, fold-Tree}
use Rattle.sr_ast.specs.declared.tree.Case.{Case-F}
use Rattle.sr_ast.specs.declared.tree.Declaration.{Declaration-F}
use Rattle.sr_ast.specs.declared.tree.Element.{Element-F}
use Rattle.sr_ast.specs.declared.tree.Element.TheOpen as layer
use Rattle.sr_ast.specs.declared.tree.Node.{Node-F}
use Rattle.sr_ast.specs.declared.tree.Property.{Property-F}
use Rattle.sr_early.specs.declared.context.Context.{Context}
use Rattle.sr_names.specs.Strictness.{place_if}

-- ---- what stands around

-- around the items of a script or a module
abbrev pub around_items : Bool → Context
around_items strict = record { strict = strict; in_function = false; in_loop = false; in_switch = false; labels = []; loops = [] }

-- around the body of a function: no label and no loop outside of it counts
abbrev pub around_body : Bool → Context
around_body strict = record { strict = strict; in_function = true; in_loop = false; in_switch = false; labels = []; loops = [] }

abbrev pub in_loop : Context → Context
in_loop c = record c { in_loop = true }

abbrev pub in_switch : Context → Context
in_switch c = record c { in_switch = true }

-- behind a label, which stands before a loop or before another statement
abbrev pub labelled : List ℕ → Bool → Context → Context
labelled label is_loop c = record c { labels = c.labels ++ label ∷ []; loops = (if is_loop then c.loops ++ label ∷ [] else c.loops) }

-- ---- whether a statement is a loop, with labels before it or without (8.3.3, 14.13.4)

abbrev pub loop_of_node : Node-F Bool Bool Bool Bool Bool Bool → Bool
loop_of_node (layer.Do s c) = true
loop_of_node (layer.While c s) = true
loop_of_node (layer.For a b c s) = true
loop_of_node (layer.ForIn h a s) = true
loop_of_node (layer.ForInTarget a b s) = true
loop_of_node (layer.ForOf h a s) = true
loop_of_node (layer.ForOfTarget a b s) = true
loop_of_node (layer.Labelled label s) = s
loop_of_node l = false

abbrev pub loop_of_element : Element-F Bool Bool Bool Bool Bool Bool → Bool
loop_of_element x = false

abbrev pub loop_of_property : Property-F Bool Bool Bool Bool Bool Bool → Bool
loop_of_property x = false

abbrev pub loop_of_case : Case-F Bool Bool Bool Bool Bool Bool → Bool
loop_of_case x = false

abbrev pub loop_of_declaration : Declaration-F Bool Bool Bool Bool Bool Bool → Bool
loop_of_declaration x = false

abbrev pub loop_of_tree : Tree-F Bool Bool Bool Bool Bool Bool → Bool
loop_of_tree t = t.node

unfoldable pub is_loop : Tree → Bool
is_loop t = fold-Tree Bool Bool Bool Bool Bool Bool loop_of_element loop_of_node loop_of_property loop_of_case loop_of_declaration loop_of_tree t

-- ---- what is without its target

abbrev pub is_one_of : List (List ℕ) → List ℕ → Bool
is_one_of labels x = list_any (pointwise ◌==◌ x) labels

-- 8.3.3, 14.8.1: `continue` stands in a loop, and its label before one
abbrev pub continue_faults : Context → Option (List ℕ) → ℕ → List ℕ
continue_faults c None at = place_if (not c.in_loop) at
continue_faults c (Some label) at = place_if (not (is_one_of c.loops label)) at

-- 8.3.2, 14.9.1: `break` stands in a loop or a `switch`, or in a statement with its label. A label that is reserved is refused
-- where it is set, which is before its use
abbrev pub break_faults : Context → Option (List ℕ) → ℕ → List ℕ
break_faults c None at = place_if (not (c.in_loop || c.in_switch)) at
break_faults c (Some label) at = place_if (not (is_one_of c.labels label)) at

-- 14.10: `return` stands in a function
abbrev pub return_faults : Context → ℕ → List ℕ
return_faults c at = place_if (not c.in_function) at

-- 8.3.1: a label stands in no statement with the same one
abbrev pub label_faults : Context → List ℕ → ℕ → List ℕ
label_faults c label at = place_if (is_one_of c.labels label) at
