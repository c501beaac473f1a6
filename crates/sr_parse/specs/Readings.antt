-- What a text, or its tokens from one of them on, are read as.
use Rattle.std.specs.Prelude.{◌≡◌, ℕ, ◌-◌, List, length, drop, Result, Ok, Err}
use Rattle.sr_lex.specs.declared.token.Token.{Token}
use Rattle.sr_lex.specs.Tokens.{Tokens, FailsAt}
use Rattle.sr_ast.specs.declared.tree.Tree.{Tree}
use Rattle.sr_syntax.specs.declared.sorts.Lexeme.{Lexeme}
use Rattle.sr_syntax.specs.declared.refusal.Refusal.{Refusal}
use Rattle.sr_syntax.specs.declared.refusal.Refusal.TheVariants.{Syntax}
use Rattle.sr_syntax.specs.declared.grown.Grown.{Grown}
use Rattle.sr_syntax.specs.Lexemes.{Lexemes}
use Rattle.sr_syntax.specs.Input.{Outcome, Parser, left, start}
use Rattle.sr_syntax.specs.Grammar.{script_of, module_of}

-- the tree that was read, and the number of the first of so many tokens that is left
abbrev pub tree_and_number : ℕ → Outcome Grown → Result (Tree × ℕ) Refusal
tree_and_number count (Ok p) = Ok (p.0.tree, count - left p.1)
tree_and_number count (Err e) = Err e

-- By this rule the tokens of the text, from one of them on, are read as this tree, with the number of the first token that
-- is left, or are refused.
abbrev pub ReadsAs : Parser Grown → List ℕ → List Token → ℕ → Result (Tree × ℕ) Refusal → Type 0
ReadsAs rule text tokens from outcome =
    (ls : List Lexeme) × Lexemes text (drop from tokens) ls
    × (tree_and_number (length tokens) (rule (start ls (length text))) ≡ outcome)

-- what the tokens of a whole text, of this length, are
abbrev pub Whole : Type 0
Whole = List Lexeme → ℕ → Result (List Tree) Refusal

-- The tokens of the text are read as these items, or are refused.
abbrev pub ReadsWhole : Whole → List ℕ → List Token → Result (List Tree) Refusal → Type 0
ReadsWhole whole text ts outcome = (ls : List Lexeme) × Lexemes text ts ls × (whole ls (length text) ≡ outcome)

-- as a script, and as a module
abbrev pub ReadsStatements : List ℕ → List Token → Result (List Tree) Refusal → Type 0
ReadsStatements = ReadsWhole script_of

abbrev pub ReadsModule : List ℕ → List Token → Result (List Tree) Refusal → Type 0
ReadsModule = ReadsWhole module_of

-- A whole text is read as these items, or refused where it has no tokens or the grammar goes on with none of them.
pub data IsWhole (whole : Whole) : List ℕ → Result (List Tree) Refusal → Type 0 where
  no_tokens : {text : List ℕ} {place : ℕ} → FailsAt text place → IsWhole whole text (Err (Syntax place))
  tokens : {text : List ℕ} {ts : List Token} {ls : List Lexeme} {outcome : Result (List Tree) Refusal}
      → Tokens text ts → Lexemes text ts ls → whole ls (length text) ≡ outcome → IsWhole whole text outcome

-- as a script, and as a module
abbrev pub IsScript : List ℕ → Result (List Tree) Refusal → Type 0
IsScript = IsWhole script_of

abbrev pub IsModule : List ℕ → Result (List Tree) Refusal → Type 0
IsModule = IsWhole module_of
