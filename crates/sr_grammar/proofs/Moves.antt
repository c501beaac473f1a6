-- What is read is read again wherever it stands, and where more rules may be open.
use Rattle.std.proofs.Common.{◌≡◌, ℕ, ◌<◌, ◌≤◌, Bool, List, ◌++◌, length}
use Rattle.sr_ast.specs.declared.tree.Declaration.{Declaration}
use Rattle.sr_syntax.specs.declared.sorts.Lexeme.{Lexeme}
use Rattle.sr_syntax.specs.declared.grown.Grown.{Grown}
use Rattle.sr_syntax.specs.Expressions.{expression, assign}
use Rattle.sr_syntax.specs.Declarations.{declarations}
use Rattle.sr_syntax.specs.Grammar.{tree}
use Rattle.sr_grammar.specs.Reading.{end_after, EndsThere}
use Rattle.sr_grammar.proofs.Steps.{inp, done}
use Rattle.sr_grammar.proofs.Alike.{read_again}
use Rattle.sr_grammar.proofs.AlikeRules.{expression_alike, assign_alike, declarations_alike}

-- ---- at another place, in a text of another length

pub expression_moves : (b : Bool) (d e l m n k : ℕ) (us ts : List Lexeme) (x : Grown) → d ≤ e → 0 < length us
    → expression (tree d) b (inp (us ++ ts) l n) ≡ done x (inp ts (end_after l us) n) → expression (tree e) b (inp (us ++ ts) m k) ≡ done x (inp ts (end_after m us) k)
expression_moves b d e l m n k us ts x more some h = read_again us ts x l m n k (expression_alike b d e more) some h

pub assign_moves : (b : Bool) (d e l m n k : ℕ) (us ts : List Lexeme) (x : Grown) → d ≤ e → 0 < length us
    → assign (tree d) b (inp (us ++ ts) l n) ≡ done x (inp ts (end_after l us) n) → assign (tree e) b (inp (us ++ ts) m k) ≡ done x (inp ts (end_after m us) k)
assign_moves b d e l m n k us ts x more some h = read_again us ts x l m n k (assign_alike b d e more) some h

pub declarations_moves : (b : Bool) (d e l m n k : ℕ) (us ts : List Lexeme) (x : List Declaration × ℕ) → d ≤ e → 0 < length us
    → declarations (tree d) b (inp (us ++ ts) l n) ≡ done x (inp ts (end_after l us) n) → declarations (tree e) b (inp (us ++ ts) m k) ≡ done x (inp ts (end_after m us) k)
declarations_moves b d e l m n k us ts x more some h = read_again us ts x l m n k (declarations_alike b d e more) some h

-- ---- and ends there

pub expression_ends : (b : Bool) (d e : ℕ) (us ts : List Lexeme) (x : Grown) → d ≤ e → 0 < length us
    → EndsThere (expression (tree d) b) us ts x → EndsThere (expression (tree e) b) us ts x
expression_ends b d e us ts x more some h = λ l n rs same. expression_moves b d e l l n n us rs x more some (h l n rs same)

pub assign_ends : (b : Bool) (d e : ℕ) (us ts : List Lexeme) (x : Grown) → d ≤ e → 0 < length us
    → EndsThere (assign (tree d) b) us ts x → EndsThere (assign (tree e) b) us ts x
assign_ends b d e us ts x more some h = λ l n rs same. assign_moves b d e l l n n us rs x more some (h l n rs same)

pub declarations_ends : (b : Bool) (d e : ℕ) (us ts : List Lexeme) (x : List Declaration × ℕ) → d ≤ e → 0 < length us
    → EndsThere (declarations (tree d) b) us ts x → EndsThere (declarations (tree e) b) us ts x
declarations_ends b d e us ts x more some h = λ l n rs same. declarations_moves b d e l l n n us rs x more some (h l n rs same)
