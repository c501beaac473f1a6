-- Whether a tree is a literal or a name.
use Rattle.std.proofs.Common.{◌≡◌, refl, true, false, Option, Some, None}
use Rattle.std.specs.Prelude.{is_some}
use Rattle.sr_state.specs.Step.{Operand}

pub operand_there : (o : Option Operand) → is_some o ≡ true → (z : Operand) × (o ≡ Some z)
operand_there None h = cc
operand_there (Some z) h = (z, refl)

pub no_operand : (o : Option Operand) → is_some o ≡ false → o ≡ None
no_operand None h = refl
no_operand (Some z) h = cc
