-- The grammar of scripts and modules (ECMA-262 16), as relations between tokens and trees.
use Rattle.std.specs.Prelude.{◌≡◌, ◌≤◌, ℕ, List, [], ◌∷◌, ◌++◌}
use Rattle.sr_ast.specs.declared.tree.Tree.{Tree}
use Rattle.sr_syntax.specs.declared.sorts.Sort.TheVariants as k
use Rattle.sr_syntax.specs.declared.sorts.Lexeme.{Lexeme}
use Rattle.sr_syntax.specs.declared.grown.Grown.{Grown}
use Rattle.sr_syntax.specs.Input.{sort_at, max_depth}
use Rattle.sr_grammar.specs.Derivations.{IsItem}
use Rattle.sr_grammar.specs.Modules.{IsModuleItem}

-- how many rules may be open in an item of a script or a module
abbrev pub open_in_item : ℕ
open_in_item = 1000

-- Script = Item*, to the end of the text; none of them is deeper than the greatest depth (16.1).
pub data Script : List Lexeme → List Tree → Type 0 where
  ended : {ts : List Lexeme} → sort_at ts ≡ k.End → Script ts []
  item : {us ts : List Lexeme} {x : Grown} {xs : List Tree} → IsItem open_in_item us ts x → x.height ≤ max_depth → Script ts xs → Script (us ++ ts) (x.tree ∷ xs)

-- Module = (Import | Export | Item)*, in the same way (16.2)
pub data Module : List Lexeme → List Tree → Type 0 where
  module_ended : {ts : List Lexeme} → sort_at ts ≡ k.End → Module ts []
  module_item : {us ts : List Lexeme} {x : Grown} {xs : List Tree} → IsModuleItem open_in_item us ts x → x.height ≤ max_depth → Module ts xs → Module (us ++ ts) (x.tree ∷ xs)
