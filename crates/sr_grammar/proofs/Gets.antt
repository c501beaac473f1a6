-- What a parser answers with where a tree of some depth comes.
use Rattle.std.proofs.Common.{◌≡◌, ℕ, suc, ◌+◌, ◌≤◌, ◌<◌, max, nat_lt, Bool, true, false, List, [], ◌∷◌, Option, None, Some, Err, refl, ap, ◌∙◌, subst, arith, if◌then◌else◌, not, ◌==◌, ◌&&◌}
use Rattle.std.proofs.lemmas.Bool.{lt-ltb, le-ltb, ltb-true, ltb-false, eq-eqb, eqb-true}
use Rattle.sr_ast.specs.declared.operators.AssignOp.{AssignOp}
use Rattle.sr_ast.specs.declared.operators.UpdateOp.{UpdateOp}
use Rattle.sr_ast.specs.declared.tree.Node.{Node}
use Rattle.sr_syntax.specs.declared.sorts.Sort.{Sort}
use Rattle.sr_syntax.specs.declared.sorts.Sort.TheVariants as k
use Rattle.sr_syntax.specs.declared.sorts.Lexeme.{Lexeme}
use Rattle.sr_syntax.specs.declared.refusal.Refusal.TheVariants.{TooDeep}
use Rattle.sr_syntax.specs.Sorts.{same_sort}
use Rattle.sr_syntax.specs.Input.{Input, Outcome, Parser, and_then, sort_at, line_at, complete, max_depth}
use Rattle.sr_syntax.specs.Operators.{row, admits, is_in, assignment, update_after}
use Rattle.sr_grammar.specs.Continuing.{looseness, Ends}
use Rattle.sr_grammar.proofs.Steps.{inp, done, ending, complete_is, same_sort_true}

-- this answer where so much is not too deep, and else that it is too deep
pub record Gets {A : Type 0} (o : Outcome A) (h : ℕ) (v : Outcome A) : Type 0 where
  pub fits : h ≤ max_depth → o ≡ v
  pub deep : max_depth < h → o ≡ Err TooDeep

pub gets_is : {A : Type 0} {o : Outcome A} (p : Outcome A) {h : ℕ} {v : Outcome A} → o ≡ p → Gets p h v → Gets o h v
gets_is p e g = record { fits = λ f. e ∙ g.fits f; deep = λ f. e ∙ g.deep f }

pub gets_to : {A : Type 0} {o : Outcome A} {h : ℕ} {v w : Outcome A} → Gets o h v → v ≡ w → Gets o h w
gets_to g e = record { fits = λ f. g.fits f ∙ e; deep = g.deep }

pub gets_then : {A C : Type 0} {o : Outcome A} {h : ℕ} {x : A} {i : Input} → Gets o h (done x i) → (f : A → Parser C) → Gets (and_then o f) h (f x i)
gets_then g f = record { fits = λ p. ap (λ o. and_then o f) (g.fits p); deep = λ p. ap (λ o. and_then o f) (g.deep p) }

pub gets_trans : {A : Type 0} {o p v : Outcome A} (h j : ℕ) → h ≤ j → Gets o h p → Gets p j v → Gets o j v
gets_trans {o} h j less g k = record { fits = λ f. g.fits (omega arith) ∙ k.fits f; deep = λ f. split (nat_lt max_depth h) refl f }
  where
    split : (b : Bool) → nat_lt max_depth h ≡ b → max_depth < j → o ≡ Err TooDeep
    split true is f = g.deep (ltb-true max_depth h is)
    split false is f = g.fits (ltb-false max_depth h is) ∙ k.deep f

-- the deeper of two
pub gets_max : {A : Type 0} {o p v : Outcome A} (h j : ℕ) → Gets o h p → Gets p j v → Gets o (max h j) v
gets_max {o} h j g k = record { fits = λ f. g.fits (omega arith) ∙ k.fits (omega arith); deep = λ f. split (nat_lt max_depth h) refl f }
  where
    split : (b : Bool) → nat_lt max_depth h ≡ b → max_depth < max h j → o ≡ Err TooDeep
    split true is f = g.deep (ltb-true max_depth h is)
    split false is f = let low = ltb-false max_depth h is in g.fits low ∙ k.deep (omega (arith, low, f))

pub gets_at : {A : Type 0} {o v : Outcome A} (h j : ℕ) → h ≡ j → Gets o h v → Gets o j v
gets_at {A} {o} {v} h j e g = subst (λ m. Gets o m v) e g

pub gets_now : {A : Type 0} {o v : Outcome A} (h : ℕ) → o ≡ v → h ≤ max_depth → Gets o h v
gets_now h e f = record { fits = λ p. e; deep = λ p. absurd (omega arith) }

pub gets_whole : (node : Node) (from tall : ℕ) (r : List Lexeme) (l n : ℕ) → Gets (complete node from tall (inp r l n)) (tall + 1) (done (ending node from l tall) (inp r l n))
gets_whole node from tall r l n = record {
  fits = λ f. complete_is node from tall r l n true (lt-ltb tall max_depth (omega arith));
  deep = λ f. complete_is node from tall r l n false (le-ltb tall max_depth (omega arith));
}

-- ---- tests of the next token

pub not_sort : (b : Bool) (s : Sort) (bound : ℕ) → same_sort k.End s ≡ false → ((line : Bool) → looseness b line s ≤ bound) → (r : List Lexeme) → Ends b bound r → same_sort (sort_at r) s ≡ false
not_sort b s bound other loose [] e = other
not_sort b s bound other loose (t ∷ ts) e = go (same_sort t.sort s) refl
  where
    go : (same : Bool) → same_sort t.sort s ≡ same → same_sort t.sort s ≡ false
    go true is = absurd (omega (arith, e, loose t.line_before, ap (λ a. looseness b t.line_before a) (same_sort_true t.sort s is)))
    go false is = is

in_admitted : (b : Bool) → admits b k.In ≡ true → b ≡ true
unfolding same_sort
in_admitted true h = refl
in_admitted false h = h

pub row_looseness : (b line : Bool) (s : Sort) (level : ℕ) → row s ≡ suc level → admits b s ≡ true → looseness b line s ≡ 3 + level
row_looseness b line k.End level h a = absurd (omega (arith, h))
row_looseness b line k.In level h a = rw (in_admitted b a) (omega (arith, h))
row_looseness b line _ level h a = omega (arith, h)

-- an operator of a row stands in it and is admitted
pub in_row : (b : Bool) (level : ℕ) (s : Sort) → is_in b level s ≡ true → (row s ≡ level) × (admits b s ≡ true)
unfolding is_in
in_row b level s h = go (row s == level) (admits b s) refl refl h
  where
    go : (x y : Bool) → (row s == level) ≡ x → admits b s ≡ y → (x && y) ≡ true → (row s ≡ level) × (admits b s ≡ true)
    go true true e f h = (eqb-true (row s) level e, f)
    go true false e f h = cc
    go false y e f h = cc

pub not_in : (b : Bool) (level bound : ℕ) → 3 + level ≤ bound → (r : List Lexeme) → is_in b (suc level) k.End ≡ false → Ends b bound r → is_in b (suc level) (sort_at r) ≡ false
not_in b level bound low [] real e = real
not_in b level bound low (t ∷ ts) real e = go (is_in b (suc level) t.sort) refl
  where
    go : (is : Bool) → is_in b (suc level) t.sort ≡ is → is_in b (suc level) t.sort ≡ false
    go true is = let in_ = in_row b (suc level) t.sort is in absurd (omega (arith, e, low, row_looseness b t.line_before t.sort level in_.0 in_.1))
    go false is = is

pub is_in_level : (b : Bool) (level : ℕ) (s : Sort) → row s ≡ level → admits b s ≡ true → is_in b level s ≡ true
unfolding is_in
is_in_level b level s h a = rw (eq-eqb (row s) level h) a

pub assignment_looseness : (b line : Bool) (s : Sort) (op : AssignOp) → assignment s ≡ Some op → looseness b line s ≡ 15
assignment_looseness b line k.Assign op h = refl
assignment_looseness b line k.AssignPower op h = refl
assignment_looseness b line k.AssignMultiply op h = refl
assignment_looseness b line k.AssignDivide op h = refl
assignment_looseness b line k.AssignRemainder op h = refl
assignment_looseness b line k.AssignAdd op h = refl
assignment_looseness b line k.AssignSubtract op h = refl
assignment_looseness b line k.AssignShiftLeft op h = refl
assignment_looseness b line k.AssignShiftRight op h = refl
assignment_looseness b line k.AssignShiftRightUnsigned op h = refl
assignment_looseness b line k.AssignBitAnd op h = refl
assignment_looseness b line k.AssignBitXor op h = refl
assignment_looseness b line k.AssignBitOr op h = refl
assignment_looseness b line k.AssignAnd op h = refl
assignment_looseness b line k.AssignOr op h = refl
assignment_looseness b line k.AssignCoalesce op h = refl
assignment_looseness b line _ op h = cc

pub no_assignment : (b : Bool) (bound : ℕ) → 15 ≤ bound → (r : List Lexeme) → Ends b bound r → assignment (sort_at r) ≡ None
no_assignment b bound low [] e = refl
no_assignment b bound low (t ∷ ts) e = go (assignment t.sort) refl
  where
    go : (o : Option AssignOp) → assignment t.sort ≡ o → assignment t.sort ≡ None
    go None is = is
    go (Some op) is = absurd (omega (arith, e, low, assignment_looseness b t.line_before t.sort op is))

update_looseness : (b : Bool) (s : Sort) (op : UpdateOp) → update_after s ≡ Some op → looseness b false s ≡ 1
update_looseness b k.Increment op h = refl
update_looseness b k.Decrement op h = refl
update_looseness b _ op h = cc

pub no_update : (b : Bool) (bound : ℕ) → 1 ≤ bound → (r : List Lexeme) → Ends b bound r → (if not (line_at r) then update_after (sort_at r) else None) ≡ None
no_update b bound low [] e = refl
no_update b bound low (t ∷ ts) e = go t.line_before (update_after t.sort) refl refl e
  where
    go : (line : Bool) (o : Option UpdateOp) → t.line_before ≡ line → update_after t.sort ≡ o → bound < looseness b t.line_before t.sort → (if not t.line_before then update_after t.sort else None) ≡ None
    go true o line is e = rw line refl
    go false None line is e = rw line is
    go false (Some op) line is e = absurd (omega (arith, e, low, ap (λ a. looseness b a t.sort) line, update_looseness b t.sort op is))
