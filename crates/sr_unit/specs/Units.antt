-- Scripts and modules, as units of code (ECMA-262 16.1, 16.2, 11.2.2).
use Rattle.std.specs.Prelude.{◌≡◌, ℕ, Bool, true, List, Result, Ok, Err}
use Rattle.sr_ast.specs.declared.tree.Tree.{Tree}
use Rattle.sr_names.specs.Strictness.{says_strict}
use Rattle.sr_text.specs.declared.goal.Goal.{Goal}
use Rattle.sr_text.specs.declared.goal.Goal.TheVariants as goal
use Rattle.sr_unit.specs.declared.refusal.Refusal.{Refusal}
use Rattle.sr_unit.specs.declared.unit.Unit.{Unit}
use Rattle.sr_unit.specs.Numbers.{numbered_all}
use Rattle.sr_unit.specs.Refusals.{Reads}

-- a module is strict always
abbrev pub is_strict : Goal → List Tree → Bool
is_strict goal.Script items = says_strict items
is_strict goal.Module items = true

-- The unit of these items: its trees are numbered from 0.
abbrev pub unit_of : Goal → List Tree → Unit
unit_of g items = record { goal = g; strict = is_strict g items; items = (numbered_all items 0).0 }

abbrev pub mapped : Goal → Result (List Tree) Refusal → Result Unit Refusal
mapped g (Ok items) = Ok (unit_of g items)
mapped g (Err e) = Err e

-- The text is read as this unit, or refused.
abbrev pub IsUnit : Goal → List ℕ → Result Unit Refusal → Type 0
IsUnit g text outcome = (read : Result (List Tree) Refusal) × Reads g text read × (outcome ≡ mapped g read)
