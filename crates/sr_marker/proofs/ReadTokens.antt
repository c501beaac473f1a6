-- What reading tokens gives.
use Rattle.std.proofs.Common.{◌≡◌, ◌≢◌, ℕ, List, Result, Err, ap, ◌∙◌, sym}
use Rattle.sr_ast.specs.declared.tree.Tree.{Tree}
use Rattle.sr_syntax.specs.declared.sorts.Lexeme.{Lexeme}
use Rattle.sr_syntax.specs.declared.refusal.Refusal.{Refusal}
use Rattle.sr_syntax.specs.declared.refusal.Refusal.TheVariants.{Memory}
use Rattle.sr_syntax.specs.Input.{Input, Reads, start}
use Rattle.sr_syntax.specs.Grammar.{script, script_of, module_items, module_of, value_of}
use Rattle.sr_text.specs.declared.goal.Goal.{Goal}
use Rattle.sr_text.specs.declared.goal.Goal.TheVariants.{Script, Module}
use Rattle.sr_parse.proofs.Outcomes.{value_read}
use Rattle.sr_marker.specs.Places.{read_by}

pub script_read : (ls : List Lexeme) (size : ℕ) (i new : Input) (r : Result (List Tree) Refusal)
    → i ≡ start ls size → Reads (script i) r new → r ≢ Err Memory → script_of ls size ≡ r
unfolding script_of
script_read ls size i new r at e known = ap (λ j. value_of (script j)) (sym at) ∙ value_read (script i) r new e known

pub module_read : (ls : List Lexeme) (size : ℕ) (i new : Input) (r : Result (List Tree) Refusal)
    → i ≡ start ls size → Reads (module_items i) r new → r ≢ Err Memory → module_of ls size ≡ r
unfolding module_of
module_read ls size i new r at e known = ap (λ j. value_of (module_items j)) (sym at) ∙ value_read (module_items i) r new e known

-- by the goal
pub script_goal : (goal : Goal) (ls : List Lexeme) (size : ℕ) (i new : Input) (r : Result (List Tree) Refusal)
    → goal ≡ Script → i ≡ start ls size → Reads (script i) r new → r ≢ Err Memory → read_by goal ls size ≡ r
script_goal goal ls size i new r is at e known = ap (λ g. read_by g ls size) is ∙ script_read ls size i new r at e known

pub module_goal : (goal : Goal) (ls : List Lexeme) (size : ℕ) (i new : Input) (r : Result (List Tree) Refusal)
    → goal ≡ Module → i ≡ start ls size → Reads (module_items i) r new → r ≢ Err Memory → read_by goal ls size ≡ r
module_goal goal ls size i new r is at e known = ap (λ g. read_by g ls size) is ∙ module_read ls size i new r at e known
