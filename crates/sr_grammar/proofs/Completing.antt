-- How the rules read what the grammar derives.
use Rattle.std.proofs.Common.{◌≡◌, ℕ, zero, suc, ◌+◌, ◌≤◌, ◌<◌, max, Bool, true, false, List, [], ◌∷◌, ◌++◌, length, Ok, refl, ap, ◌∙◌, length-append, arith, if◌then◌else◌}
use Rattle.sr_syntax.specs.declared.sorts.Sort.TheVariants as k
use Rattle.sr_syntax.specs.declared.sorts.Sort.{Sort}
use Rattle.sr_syntax.specs.declared.sorts.Lexeme.{Lexeme}
use Rattle.sr_syntax.specs.declared.grown.Grown.{Grown}
use Rattle.sr_syntax.specs.declared.grown.Grove.{Grove}
use Rattle.sr_syntax.specs.Sorts.{same_sort}
use Rattle.sr_syntax.specs.Input.{Input, Outcome, Parser, ◌>>=◌, and_then, pure, eat, expect, sort, sort_at, next}
use Rattle.sr_syntax.specs.Operators.{row, admits, is_in, joined_node, from_of, with, joined, row_from, assign_goal}
use Rattle.sr_syntax.specs.Expressions.{sequence_from, assign}
use Rattle.sr_syntax.specs.Grammar.{tree}
use Rattle.sr_grammar.specs.Continuing.{looseness, Ends}
use Rattle.sr_grammar.proofs.Steps.{inp, done, ending, eat_is, expect_is}
use Rattle.sr_grammar.proofs.Gets.{Gets, gets_is, gets_then, gets_trans, gets_whole, is_in_level}
use Rattle.sr_grammar.specs.Reading.{end_after}
use Rattle.sr_grammar.proofs.Sorts.{comma_self}

abbrev pub Reads : Parser Grown → List Lexeme → Grown → List Lexeme → ℕ → ℕ → Type 0
Reads P us x r l n = Gets (P (inp (us ++ r) l n)) x.height (done x (inp r (end_after l us) n))

-- The reading stands at the beginning of a turn, with turns enough.
pub record Stands {A : Type 0} (o : Outcome A) (h : ℕ) (L : ℕ → Outcome A) (r : List Lexeme) : Type 0 where
  pub turns : ℕ
  pub enough : length r ≤ turns
  pub gets : Gets o h (L turns)

-- the same, where a turn is left at the end
pub record Turns {A : Type 0} (o : Outcome A) (h : ℕ) (L : ℕ → Outcome A) (r : List Lexeme) : Type 0 where
  pub turns : ℕ
  pub enough : length r < turns
  pub gets : Gets o h (L turns)

pub stands_then : {A : Type 0} {o : Outcome A} {h : ℕ} {L M : ℕ → Outcome A} {ts r : List Lexeme} (j : ℕ) → h ≤ j → Stands o h L ts
    → ((m : ℕ) → length ts ≤ m → Stands (L m) j M r) → Stands o j M r
stands_then {h} j less s go =
    let next_turn = go s.turns s.enough in
    record { turns = next_turn.turns; enough = next_turn.enough; gets = gets_trans h j less s.gets next_turn.gets }

pub tail_fits : (us r : List Lexeme) → length r ≤ length (us ++ r)
tail_fits us r = omega (arith, length-append us r)

-- ---- tests

pub is_sort : (s t : Sort) → t ≡ s → same_sort s s ≡ true → same_sort t s ≡ true
is_sort s t e h = ap (λ a. same_sort a s) e ∙ h

pub looser : (b : Bool) (bound more : ℕ) → bound ≤ more → (r : List Lexeme) → Ends b more r → Ends b bound r
looser b bound more low [] e = tt
looser b bound more low (t ∷ ts) e = omega (arith, e, low)

-- what a token does not continue it does not where `in` is no operator
looser_in : (b line : Bool) (s : Sort) → looseness b line s ≤ looseness false line s
looser_in true line k.In = omega arith
looser_in false line k.In = omega arith
looser_in b line _ = omega arith

pub without_in : (b : Bool) (bound : ℕ) (r : List Lexeme) → Ends b bound r → Ends false bound r
without_in b bound [] e = tt
without_in b bound (t ∷ ts) e = omega (arith, e, looser_in b t.line_before t.sort)

pub loose_sort : (b : Bool) (t : Lexeme) (s : Sort) (bound : ℕ) → t.sort ≡ s → ((line : Bool) → bound < looseness b line s) → (r : List Lexeme) → Ends b bound (t ∷ r)
loose_sort b t s bound c loose r = omega (arith, loose t.line_before, ap (λ a. looseness b t.line_before a) c)

pub expect_goes : {A : Type 0} (v : Sort) (t : Lexeme) (r : List Lexeme) (l n : ℕ) → t.sort ≡ v → same_sort v v ≡ true → (f : Unit {0} → Parser A) → and_then (expect v (inp (t ∷ r) l n)) f ≡ f tt (inp r t.to n)
unfolding next
expect_goes v t r l n c self f = ap (λ o. and_then o f) (expect_is v (t ∷ r) l n true (is_sort v t.sort c self))

pub eat_yes : {A : Type 0} (v : Sort) (t : Lexeme) (r : List Lexeme) (l n : ℕ) → t.sort ≡ v → same_sort v v ≡ true → (f : Bool → Parser A) → and_then (eat v (inp (t ∷ r) l n)) f ≡ f true (inp r t.to n)
unfolding next
eat_yes v t r l n c self f = ap (λ o. and_then o f) (eat_is v (t ∷ r) l n true (is_sort v t.sort c self))

pub eat_no : {A : Type 0} (v : Sort) (r : List Lexeme) (l n : ℕ) → same_sort (sort_at r) v ≡ false → (f : Bool → Parser A) → and_then (eat v (inp r l n)) f ≡ f false (inp r l n)
eat_no v r l n c f = ap (λ o. and_then o f) (eat_is v r l n false c)

-- an Assign is open while it is read
pub nest_assign : (d : ℕ) (b : Bool) (i : Input) → tree (suc d) (assign_goal b) i ≡ assign (tree d) b i
unfolding tree
nest_assign d true i = refl
nest_assign d false i = refl

-- ---- rows

pub row_ends : (b : Bool) (operand : Parser Grown) (level m : ℕ) (x : Grown) (r : List Lexeme) (l n : ℕ) → is_in b level (sort_at r) ≡ false → row_from b operand level m x (inp r l n) ≡ done x (inp r l n)
unfolding row_from sort
row_ends b operand level zero x r l n e = refl
row_ends b operand level (suc m) x r l n e = rw e refl

row_step : (b : Bool) (operand : Parser Grown) (level m : ℕ) (x : Grown) (t : Lexeme) (ts : List Lexeme) (l n : ℕ) → row t.sort ≡ level → admits b t.sort ≡ true
    → row_from b operand level (suc m) x (inp (t ∷ ts) l n) ≡ and_then (operand (inp ts t.to n)) (λ y. joined t.sort x y >>= row_from b operand level m)
unfolding row_from sort next
row_step b operand level m x t ts l n c a = rw (is_in_level b level t.sort c a) refl

pub row_goes : (b : Bool) (operand : Parser Grown) (level m : ℕ) (x y : Grown) (t : Lexeme) (ts r : List Lexeme) (l n last : ℕ) → length (t ∷ ts) ≤ m → row t.sort ≡ level → admits b t.sort ≡ true → length r ≤ length ts
    → Gets (operand (inp ts t.to n)) y.height (done y (inp r last n))
    → Stands (row_from b operand level m x (inp (t ∷ ts) l n)) (max x.height y.height + 1) (λ m. row_from b operand level m (ending (joined_node t.sort x.tree y.tree) (from_of x) last (max x.height y.height)) (inp r last n)) r
unfolding joined
row_goes b operand level zero x y t ts r l n last far c a fewer right = absurd (omega arith)
row_goes b operand level (suc m) x y t ts r l n last far c a fewer right = record {
  turns = m;
  enough = omega arith;
  gets = gets_is (and_then (operand (inp ts t.to n)) (λ y. joined t.sort x y >>= row_from b operand level m)) (row_step b operand level m x t ts l n c a)
      (gets_trans y.height (max x.height y.height + 1) (omega arith) (gets_then right (λ y. joined t.sort x y >>= row_from b operand level m))
      (gets_then (gets_whole (joined_node t.sort x.tree y.tree) (from_of x) (max x.height y.height) r last n) (row_from b operand level m)));
}

-- ---- Assigns behind commas

pub sequence_ends : (b : Bool) (d m : ℕ) (xs : Grove) (r : List Lexeme) (l n : ℕ) → same_sort (sort_at r) k.Comma ≡ false → sequence_from (tree d) b m xs (inp r l n) ≡ Ok (xs, inp r l n)
unfolding sequence_from
sequence_ends b d zero xs r l n e = refl
sequence_ends b d (suc m) xs r l n e = ap (λ o. and_then o (λ more. if more then (tree d (assign_goal b) >>= (λ x. sequence_from (tree d) b m (with xs x))) else pure xs)) (eat_is k.Comma r l n false e)

sequence_step : (b : Bool) (d m : ℕ) (xs : Grove) (t : Lexeme) (ts : List Lexeme) (l n : ℕ) → t.sort ≡ k.Comma
    → sequence_from (tree d) b (suc m) xs (inp (t ∷ ts) l n) ≡ and_then (tree d (assign_goal b) (inp ts t.to n)) (λ x. sequence_from (tree d) b m (with xs x))
unfolding sequence_from next
sequence_step b d m xs t ts l n c =
    ap (λ o. and_then o (λ more. if more then (tree d (assign_goal b) >>= (λ x. sequence_from (tree d) b m (with xs x))) else pure xs)) (eat_is k.Comma (t ∷ ts) l n true (is_sort k.Comma t.sort c comma_self))

pub sequence_goes : (b : Bool) (d m : ℕ) (xs : Grove) (x : Grown) (t : Lexeme) (ts r : List Lexeme) (l n last : ℕ) → length (t ∷ ts) ≤ m → t.sort ≡ k.Comma → length r ≤ length ts
    → Gets (tree d (assign_goal b) (inp ts t.to n)) x.height (done x (inp r last n))
    → Stands (sequence_from (tree d) b m xs (inp (t ∷ ts) l n)) x.height (λ m. sequence_from (tree d) b m (with xs x) (inp r last n)) r
sequence_goes b d zero xs x t ts r l n last far c fewer given = absurd (omega arith)
sequence_goes b d (suc m) xs x t ts r l n last far c fewer given = record {
  turns = m;
  enough = omega arith;
  gets = gets_is (and_then (tree d (assign_goal b) (inp ts t.to n)) (λ x. sequence_from (tree d) b m (with xs x))) (sequence_step b d m xs t ts l n c)
      (gets_then given (λ x. sequence_from (tree d) b m (with xs x)));
}
