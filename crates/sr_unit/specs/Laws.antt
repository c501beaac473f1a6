-- What holds of how texts are read.
use Rattle.std.specs.Prelude.{◌≡◌, ℕ, List, Result}
use Rattle.sr_unit.specs.declared.refusal.Refusal.{Refusal}
use Rattle.sr_text.specs.declared.goal.Goal.{Goal}
use Rattle.sr_unit.specs.declared.unit.Unit.{Unit}
use Rattle.sr_unit.specs.Units.{IsUnit}

-- a text is read as one unit, or refused for one reason
abbrev pub OneUnit : Type 0
OneUnit = (g : Goal) (text : List ℕ) (a b : Result Unit Refusal) → IsUnit g text a → IsUnit g text b → a ≡ b

-- and one of the two holds of each
abbrev pub EachUnit : Type 0
EachUnit = (g : Goal) (text : List ℕ) → (outcome : Result Unit Refusal) × IsUnit g text outcome
