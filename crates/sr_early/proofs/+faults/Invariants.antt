use Rattle.std.proofs.Common.{◌≡◌, ◌++◌, drop}
use Rattle.sr_names.specs.Names.{all_vars, top_vars, clauses_vars}
use Rattle.sr_early.specs.Faults.{all_faults}
use Rattle.sr_early.specs.Parts.{elements_faults, properties_faults, cases_faults, declarations_faults}
use Rattle.sr_early.proofs.+faults.Given as goal

abbrev pub invariant-trees::expressions-loop-one : goal.invariant-trees::expressions-loop-one
invariant-trees::expressions-loop-one l =
    l.places ++ all_faults (drop l.one-index l.trees) l.context ≡ l.initial.places ++ all_faults l.trees l.context

abbrev pub invariant-trees::trees-loop-one : goal.invariant-trees::trees-loop-one
invariant-trees::trees-loop-one l =
    (l.vars ++ all_vars (drop l.one-index l.trees) ≡ l.initial.vars ++ all_vars l.trees)
    × (l.places ++ all_faults (drop l.one-index l.trees) l.context ≡ l.initial.places ++ all_faults l.trees l.context)

abbrev pub invariant-trees::top_trees-loop-item : goal.invariant-trees::top_trees-loop-item
invariant-trees::top_trees-loop-item l =
    (l.vars ++ top_vars (drop l.item-index l.items) ≡ l.initial.vars ++ top_vars l.items)
    × (l.places ++ all_faults (drop l.item-index l.items) l.context ≡ l.initial.places ++ all_faults l.items l.context)

abbrev pub invariant-expressions::elements-loop-one : goal.invariant-expressions::elements-loop-one
invariant-expressions::elements-loop-one l =
    l.places ++ elements_faults (drop l.one-index l.elements) l.context ≡ l.initial.places ++ elements_faults l.elements l.context

abbrev pub invariant-expressions::properties-loop-one : goal.invariant-expressions::properties-loop-one
invariant-expressions::properties-loop-one l =
    l.places ++ properties_faults (drop l.one-index l.properties) l.context ≡ l.initial.places ++ properties_faults l.properties l.context

abbrev pub invariant-statements::cases-loop-one : goal.invariant-statements::cases-loop-one
invariant-statements::cases-loop-one l =
    (l.vars ++ clauses_vars (drop l.one-index l.cases) ≡ l.initial.vars ++ clauses_vars l.cases)
    × (l.places ++ cases_faults (drop l.one-index l.cases) l.context ≡ l.initial.places ++ cases_faults l.cases l.context)

abbrev pub invariant-statements::declarations-loop-one : goal.invariant-statements::declarations-loop-one
invariant-statements::declarations-loop-one l =
    l.places ++ declarations_faults (drop l.one-index l.declarations) l.context ≡ l.initial.places ++ declarations_faults l.declarations l.context
