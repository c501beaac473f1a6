-- What stands behind a `new` that has no arguments.
use Rattle.std.proofs.Common.{◌≡◌, ℕ, suc, ◌≤◌, true, false, List}
use Rattle.sr_syntax.specs.declared.sorts.Sort.TheVariants as k
use Rattle.sr_syntax.specs.declared.sorts.Lexeme.{Lexeme}
use Rattle.sr_syntax.specs.declared.grown.Grown.{Grown}
use Rattle.sr_syntax.specs.Sorts.{same_sort}
use Rattle.sr_syntax.specs.Input.{sort_at, max_depth}
use Rattle.sr_syntax.specs.Operators.{is_bare_new}
use Rattle.sr_grammar.specs.Derivations.{Derives, New}

-- the next token begins no part of a Member
pub record Unparted (ts : List Lexeme) : Type 0 where
  pub no_dot : same_sort (sort_at ts) k.Dot ≡ false
  pub no_bracket : same_sort (sort_at ts) k.LeftBracket ≡ false

-- and no Arguments
pub record Uncalled (ts : List Lexeme) : Type 0 where
  pub unparted : Unparted ts
  pub no_call : same_sort (sort_at ts) k.LeftParenthesis ≡ false

-- a New; where it has no Arguments, none stand behind it, and no part
pub data DerivedNew (d l n : ℕ) (us ts : List Lexeme) (x : Grown) : Type 0 where
  derived_new : Derives d New us x → x.height ≤ max_depth → (is_bare_new x ≡ true → Uncalled ts) → DerivedNew d l n us ts x

-- with one fewer that may be open
pub data OpenedNew : ℕ → ℕ → ℕ → List Lexeme → List Lexeme → Grown → Type 0 where
  opened_new : {d l n : ℕ} {us ts : List Lexeme} {x : Grown} → Derives d New us x → x.height ≤ max_depth → (is_bare_new x ≡ true → Uncalled ts) → OpenedNew (suc d) l n us ts x
