-- A script, as contracts see it.
use Rattle.std.specs.Prelude.{ℕ, List}
use Rattle.sr_ast.specs.declared.tree.Tree.{Tree}

-- its statements, and the names that it declares by `var` in order
pub record Script : Type 0 where
  pub body : List Tree
  pub names : List (List ℕ)
