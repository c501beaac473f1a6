-- What holds of how texts are read.
use Rattle.std.specs.Prelude.{◌≡◌, ℕ, List, Result}
use Rattle.sr_ast.specs.declared.tree.Tree.{Tree}
use Rattle.sr_syntax.specs.declared.refusal.Refusal.{Refusal}
use Rattle.sr_parse.specs.Readings.{IsScript, IsModule}

-- a text is read as one list of statements, or refused for one reason
abbrev pub OneScript : Type 0
OneScript = (text : List ℕ) (a b : Result (List Tree) Refusal) → IsScript text a → IsScript text b → a ≡ b

-- and one of the two holds of each
abbrev pub EachScript : Type 0
EachScript = (text : List ℕ) → (outcome : Result (List Tree) Refusal) × IsScript text outcome

-- and so are modules
abbrev pub OneModule : Type 0
OneModule = (text : List ℕ) (a b : Result (List Tree) Refusal) → IsModule text a → IsModule text b → a ≡ b

abbrev pub EachModule : Type 0
EachModule = (text : List ℕ) → (outcome : Result (List Tree) Refusal) × IsModule text outcome
