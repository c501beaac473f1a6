-- A function value that parses what is open while it is read, to a depth.
use Rattle.std.specs.Prelude.{ℕ, Result}
use Rattle.std.specs.declared.alloc.Global.{Global}
use denote.Ref.{MutBor}
use Rattle.sr_syntax.specs.declared.refusal.Refusal.{Refusal}
use Rattle.sr_syntax.specs.declared.grown.Grown.{Grown}
use Rattle.sr_syntax.specs.declared.grown.Goal.{Goal}
use Rattle.sr_syntax.specs.Input.{Input, Reads}
use Rattle.sr_syntax.specs.Grammar.{tree}

pub record Nests (depth : ℕ) (pre : Global → MutBor Input → ℕ → Goal → Type 0)
    (post : Global → MutBor Input → ℕ → Goal → Result Grown Refusal → MutBor Input → Type 0) : Type 0 where
  pub callable : (alloc : Global) (old : MutBor Input) (goal : Goal) → pre alloc old depth goal
  pub reads : (alloc : Global) (old new : MutBor Input) (goal : Goal) (r : Result Grown Refusal) → post alloc old depth goal r new
      → Reads (tree depth goal old.now) r new.now
