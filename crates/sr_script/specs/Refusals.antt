-- Why a text is refused.
use Rattle.std.specs.Prelude.{ℕ, List, Err}
use Rattle.sr_text.specs.declared.goal.Goal.TheVariants as goal
use Rattle.sr_ast.specs.declared.refused.Refused.{Refused}
use Rattle.sr_unit.specs.declared.refusal.Refusal.TheVariants as unit
use Rattle.sr_unit.specs.Refusals.{Reads}

-- A text is no script, for this reason (ECMA-262 16.1.6).
abbrev pub IsRefused : List ℕ → Refused → Type 0
IsRefused text why = Reads goal.Script text (Err (unit.Refused why))
