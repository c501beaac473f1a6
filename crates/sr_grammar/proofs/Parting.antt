-- How parts behind an expression are read.
use Rattle.std.proofs.Common.{◌≡◌, ℕ, zero, suc, ◌+◌, ◌≤◌, ◌<◌, max, Bool, true, false, List, [], ◌∷◌, ◌++◌, length, refl, ap, arith}
use Rattle.sr_ast.specs.declared.operators.Link.{Link}
use Rattle.sr_ast.specs.declared.operators.Link.TheVariants as link
use Rattle.sr_ast.specs.declared.tree.Node.TheVariants as node
use Rattle.sr_syntax.specs.declared.sorts.Sort.TheVariants as k
use Rattle.sr_syntax.specs.declared.sorts.Sort.{Sort}
use Rattle.sr_syntax.specs.declared.sorts.Lexeme.{Lexeme}
use Rattle.sr_syntax.specs.declared.grown.Grown.{Grown}
use Rattle.sr_syntax.specs.declared.grown.Elements.{Elements}
use Rattle.sr_syntax.specs.declared.operators.PartSort.{PartSort}
use Rattle.sr_syntax.specs.declared.operators.PartSort.TheVariants as part
use Rattle.sr_syntax.specs.Sorts.{same_sort}
use Rattle.sr_syntax.specs.Input.{Input, Parser, ◌>>=◌, and_then, expect, sort, sort_at, next, complete, text, text_of, is_word, sees_word}
use Rattle.sr_syntax.specs.Operators.{from_of, part_sort, property_name, member}
use Rattle.sr_syntax.specs.Expressions.{index, call, arguments, expression, optional_by, optional, part_by, parts_from, member_part_by, member_parts_from}
use Rattle.sr_syntax.specs.Grammar.{tree}
use Rattle.sr_grammar.specs.Continuing.{looseness, Ends}
use Rattle.sr_grammar.proofs.Steps.{inp, done, ending}
use Rattle.sr_grammar.proofs.Gets.{Gets, gets_is, gets_then, gets_trans, gets_whole}
use Rattle.sr_grammar.proofs.Completing.{Stands, expect_goes}
use Rattle.sr_grammar.specs.Reading.{end_after}
use Rattle.sr_grammar.proofs.Sorts.{right_bracket_self}

-- ---- what a part is

pub member_gets : (of : Link) (x : Grown) (u : Lexeme) (r : List Lexeme) (l n : ℕ) → is_word u.sort ≡ true
    → Gets (member of x (inp (u ∷ r) l n)) (x.height + 1) (done (ending (node.Member of x.tree (text_of u.content)) (from_of x) u.to x.height) (inp r u.to n))
unfolding member property_name sees_word sort text next
member_gets of x u r l n w =
    gets_is (complete (node.Member of x.tree (text_of u.content)) (from_of x) x.height (inp r u.to n)) (rw w refl) (gets_whole (node.Member of x.tree (text_of u.content)) (from_of x) x.height r u.to n)

pub index_gets : (d : ℕ) (of : Link) (x y : Grown) (vs : List Lexeme) (u : Lexeme) (r : List Lexeme) (l n : ℕ)
    → Gets (expression (tree d) true (inp (vs ++ u ∷ r) l n)) y.height (done y (inp (u ∷ r) (end_after l vs) n)) → u.sort ≡ k.RightBracket
    → Gets (index (tree d) of x (inp (vs ++ u ∷ r) l n)) (max x.height y.height + 1) (done (ending (node.Index of x.tree y.tree) (from_of x) u.to (max x.height y.height)) (inp r u.to n))
unfolding index
index_gets d of x y vs u r l n h c =
    let f : Grown → Parser Grown = λ y. expect k.RightBracket >>= (λ v. complete (node.Index of x.tree y.tree) (from_of x) (max x.height y.height)) in
    gets_trans y.height (max x.height y.height + 1) (omega arith) (gets_then h f)
    (gets_is (complete (node.Index of x.tree y.tree) (from_of x) (max x.height y.height) (inp r u.to n))
    (expect_goes k.RightBracket u r (end_after l vs) n c right_bracket_self (λ v. complete (node.Index of x.tree y.tree) (from_of x) (max x.height y.height)))
    (gets_whole (node.Index of x.tree y.tree) (from_of x) (max x.height y.height) r u.to n))

pub call_gets : (d : ℕ) (of : Link) (x : Grown) (xs : Elements) (ts r : List Lexeme) (l n last : ℕ)
    → Gets (arguments (tree d) (inp ts l n)) xs.tall (done xs (inp r last n))
    → Gets (call (tree d) of x (inp ts l n)) (max x.height xs.tall + 1) (done (ending (node.Call of x.tree xs.items) (from_of x) last (max x.height xs.tall)) (inp r last n))
unfolding call
call_gets d of x xs ts r l n last h =
    gets_trans xs.tall (max x.height xs.tall + 1) (omega arith) (gets_then h (λ all. complete (node.Call of x.tree all.items) (from_of x) (max x.height all.tall)))
    (gets_whole (node.Call of x.tree xs.items) (from_of x) (max x.height xs.tall) r last n)

-- a name behind `?.`
named_optional : (d : ℕ) (x : Grown) (s : Sort) (i : Input) → is_word s ≡ true → optional_by (tree d) x s i ≡ member link.Optional x i
named_optional d x k.LeftBracket i e = cc
named_optional d x k.LeftParenthesis i e = cc
named_optional d x _ i e = refl

pub optional_name : (d : ℕ) (x : Grown) (u : Lexeme) (ts : List Lexeme) (l n : ℕ) → is_word u.sort ≡ true
    → optional (tree d) x (inp (u ∷ ts) l n) ≡ member link.Optional x (inp (u ∷ ts) l n)
unfolding optional sort
optional_name d x u ts l n e = named_optional d x u.sort (inp (u ∷ ts) l n) e

-- a bracket behind `?.`
pub optional_is : (d : ℕ) (x : Grown) (u : Lexeme) (ts : List Lexeme) (l n : ℕ) (s : Sort) → u.sort ≡ s
    → optional (tree d) x (inp (u ∷ ts) l n) ≡ optional_by (tree d) x s (inp (u ∷ ts) l n)
unfolding optional sort
optional_is d x u ts l n s e = ap (λ a. optional_by (tree d) x a (inp (u ∷ ts) l n)) e

-- ---- turns

no_part : (o b : Bool) (r : List Lexeme) → Ends b 0 r → part_sort o (sort_at r) ≡ part.None
no_part true b [] e = refl
no_part false b [] e = refl
no_part o b (t ∷ ts) e = go o t.sort t.line_before e
  where
    go : (o : Bool) (s : Sort) (line : Bool) → 0 < looseness b line s → part_sort o s ≡ part.None
    go o k.Dot line e = absurd (omega (arith, e))
    go o k.LeftBracket line e = absurd (omega (arith, e))
    go o k.LeftParenthesis line e = absurd (omega (arith, e))
    go o k.QuestionDot line e = absurd (omega (arith, e))
    go true _ line e = refl
    go false _ line e = refl

pub parts_end : (d : ℕ) (o c b : Bool) (m : ℕ) (x : Grown) (r : List Lexeme) (l n : ℕ) → Ends b 0 r → parts_from (tree d) o m c x (inp r l n) ≡ done x (inp r l n)
unfolding parts_from sort
parts_end d o c b zero x r l n e = refl
parts_end d o c b (suc m) x r l n e = ap (λ s. part_by (tree d) (parts_from (tree d) o m) c x s (inp r l n)) (no_part o b r e)

pub part_step : (d : ℕ) (o c : Bool) (m : ℕ) (x : Grown) (t : Lexeme) (ts : List Lexeme) (l n : ℕ) (s : PartSort) → part_sort o t.sort ≡ s
    → parts_from (tree d) o (suc m) c x (inp (t ∷ ts) l n) ≡ part_by (tree d) (parts_from (tree d) o m) c x s (inp (t ∷ ts) l n)
unfolding parts_from sort
part_step d o c m x t ts l n s e = ap (λ s. part_by (tree d) (parts_from (tree d) o m) c x s (inp (t ∷ ts) l n)) e

pub part_goes : (d : ℕ) (o c e : Bool) (m : ℕ) (x y : Grown) (t : Lexeme) (ts r : List Lexeme) (l n last : ℕ) (p : Parser Grown) → length (t ∷ ts) ≤ m → length r ≤ length ts
    → ((m : ℕ) → parts_from (tree d) o (suc m) c x (inp (t ∷ ts) l n) ≡ and_then (p (inp ts t.to n)) (parts_from (tree d) o m e))
    → Gets (p (inp ts t.to n)) y.height (done y (inp r last n))
    → Stands (parts_from (tree d) o m c x (inp (t ∷ ts) l n)) y.height (λ m. parts_from (tree d) o m e y (inp r last n)) r
part_goes d o c e zero x y t ts r l n last p far fewer step given = absurd (omega (arith, far))
part_goes d o c e (suc m) x y t ts r l n last p far fewer step given = record {
  turns = m;
  enough = omega (arith, far, fewer);
  gets = gets_is (and_then (p (inp ts t.to n)) (parts_from (tree d) o m e)) (step m) (gets_then given (parts_from (tree d) o m e));
}

-- ---- turns behind a Member

pub member_parts_end : (d : ℕ) (m : ℕ) (x : Grown) (r : List Lexeme) (l n : ℕ) → same_sort (sort_at r) k.Dot ≡ false → same_sort (sort_at r) k.LeftBracket ≡ false
    → member_parts_from (tree d) m x (inp r l n) ≡ done x (inp r l n)
unfolding member_parts_from sort same_sort
member_parts_end d zero x r l n e f = refl
member_parts_end d (suc m) x r l n e f = go (sort_at r) e f
  where
    go : (s : Sort) → same_sort s k.Dot ≡ false → same_sort s k.LeftBracket ≡ false → member_part_by (tree d) (member_parts_from (tree d) m) x s (inp r l n) ≡ done x (inp r l n)
    go k.Dot e f = cc
    go k.LeftBracket e f = cc
    go _ e f = refl

pub member_step : (d m : ℕ) (x : Grown) (t : Lexeme) (ts : List Lexeme) (l n : ℕ) (s : Sort) → t.sort ≡ s
    → member_parts_from (tree d) (suc m) x (inp (t ∷ ts) l n) ≡ member_part_by (tree d) (member_parts_from (tree d) m) x s (inp (t ∷ ts) l n)
unfolding member_parts_from sort
member_step d m x t ts l n s e = ap (λ s. member_part_by (tree d) (member_parts_from (tree d) m) x s (inp (t ∷ ts) l n)) e

pub member_goes : (d m : ℕ) (x y : Grown) (t : Lexeme) (ts r : List Lexeme) (l n last : ℕ) (p : Parser Grown) → length (t ∷ ts) ≤ m → length r ≤ length ts
    → ((m : ℕ) → member_parts_from (tree d) (suc m) x (inp (t ∷ ts) l n) ≡ and_then (p (inp ts t.to n)) (member_parts_from (tree d) m))
    → Gets (p (inp ts t.to n)) y.height (done y (inp r last n))
    → Stands (member_parts_from (tree d) m x (inp (t ∷ ts) l n)) y.height (λ m. member_parts_from (tree d) m y (inp r last n)) r
member_goes d zero x y t ts r l n last p far fewer step given = absurd (omega (arith, far))
member_goes d (suc m) x y t ts r l n last p far fewer step given = record {
  turns = m;
  enough = omega (arith, far, fewer);
  gets = gets_is (and_then (p (inp ts t.to n)) (member_parts_from (tree d) m)) (step m) (gets_then given (member_parts_from (tree d) m));
}
