-- What the rules of lists read, and where they fail.
use Rattle.std.proofs.Common.{◌≡◌, ℕ, zero, suc, ◌+◌, ◌≤◌, ◌<◌, Bool, true, false, List, [], ◌∷◌, ◌++◌, length, Ok, Err, refl, sym, ap, ◌∙◌, subst, append_assoc, append-nil, arith, ◌⊎◌, inl, inr, if◌then◌else◌}
use Rattle.sr_ast.specs.declared.tree.Node.TheVariants as node
use Rattle.sr_syntax.specs.declared.sorts.Sort.TheVariants as k
use Rattle.sr_syntax.specs.declared.sorts.Lexeme.{Lexeme}
use Rattle.sr_syntax.specs.declared.grown.Grown.{Grown}
use Rattle.sr_syntax.specs.declared.grown.Grove.{Grove}
use Rattle.sr_syntax.specs.declared.grown.Goal.TheVariants as goal
use Rattle.sr_syntax.specs.Sorts.{same_sort}
use Rattle.sr_syntax.specs.Input.{Input, Outcome, Parser, ◌>>=◌, and_then, pure, eat, sees, after, sort, sort_at, left, max_depth}
use Rattle.sr_syntax.specs.Operators.{assign_goal, none, with, from_of}
use Rattle.sr_syntax.specs.Expressions.{sequence_from, sequence, expression}
use Rattle.sr_syntax.specs.Grammar.{tree}
use Rattle.sr_grammar.specs.Derivations.{Derives, Lists, Assign, Expression, Power, Unary, New, States}
use Rattle.sr_grammar.specs.Derivations as g
use Rattle.sr_grammar.specs.Faults.{Begins}
use Rattle.sr_grammar.proofs.Steps.{inp, Fact, Any, Parses, Both, both, Either, first, second, Never, Pure, nothing, Looked, looked, Eaten, ate, absent, Chosen, yes, no, ChosenFault, yes_fault, no_fault, Runs, stop, go, Breaks, break, later, map, then_any, look, sort_shallow, eaten, purely, choose_any, turns, finish, pred, not_both, done, ending, end_append}
use Rattle.sr_grammar.proofs.Depths.{by_more, list_by_more}
use Rattle.sr_grammar.proofs.Followers.{OpenedNew}
use Rattle.sr_grammar.proofs.Facts.{Derived, derived, Opened, opened, Mapped, mapped, mapping, Closed, closed, closing, bare, known_as, finished, end_behind, Start, start, Fill, begin_as, begin_behind, filled, OpenedOne, StartOne}
use Rattle.sr_grammar.specs.Reading.{end_after}
use Rattle.sr_grammar.proofs.Sorts.{end_no_comma}

pub record Nested (d : ℕ) : Type 0 where
  pub assign : (b : Bool) → Parses (λ e. tree e (assign_goal b)) d Any (Opened (Assign b) d) (Start (Assign b))
  pub power : Parses (λ e. tree e goal.Power) d Any (Opened Power d) (Start Power)
  pub unary : Parses (λ e. tree e goal.Unary) d Any (Opened Unary d) (Start Unary)
  pub new : Parses (λ e. tree e goal.New) d Any (OpenedNew d) (Start New)
  pub statement : Parses (λ e. tree e goal.Statement) d Any (OpenedOne States d) (StartOne States)

-- ---- Assigns behind commas

pub no_left : {X A : Type 0} {x : X} {a : A} → ◌≡◌ {A = X ⊎ A} (inr a) (inl x) → ⊥
no_left h = cc

pub no_right : {X A : Type 0} {x : X} {a : A} → ◌≡◌ {A = X ⊎ A} (inl x) (inr a) → ⊥
no_right h = cc

pub same_left : {X A : Type 0} {x y : X} → ◌≡◌ {A = X ⊎ A} (inl x) (inl y) → x ≡ y
same_left h = cc

pub same_right : {X A : Type 0} {a b : A} → ◌≡◌ {A = X ⊎ A} (inr a) (inr b) → a ≡ b
same_right h = cc

abbrev sequence_step : Bool → ℕ → Grove → Parser (Grove ⊎ Grove)
sequence_step has e found = eat k.Comma >>= (λ more. if more then (tree e (assign_goal has) >>= (λ x i. Ok (inl (with found x), i))) else (λ i. Ok (inr found, i)))

pub data OneMore (has : Bool) (d : ℕ) (found : Grove) (l n : ℕ) : List Lexeme → List Lexeme → Grove ⊎ Grove → Type 0 where
  one_more : {us ts : List Lexeme} {x : Grown} {o : Grove ⊎ Grove} (t : Lexeme) → t.sort ≡ k.Comma → Opened (Assign has) d t.to n us ts x → o ≡ inl (with found x) → OneMore has d found l n (t ∷ us) ts o
  no_more : {ts : List Lexeme} {o : Grove ⊎ Grove} → same_sort (sort_at ts) k.Comma ≡ false → o ≡ inr found → OneMore has d found l n [] ts o

pub data NotOneMore (has : Bool) (l n : ℕ) : List Lexeme → List Lexeme → Type 0 where
  not_one_more : {us ts : List Lexeme} (t : Lexeme) → t.sort ≡ k.Comma → Start (Assign has) t.to n us ts → NotOneMore has l n (t ∷ us) ts

sequence_fact : {has : Bool} {d l n : ℕ} {us ts : List Lexeme} {o : Grove ⊎ Grove} {found : Grove}
    → Both (Eaten k.Comma) (λ b. Chosen b (Mapped (Opened (Assign has) d) (λ x. inl (with found x))) (Pure (inr found))) l n us ts o → OneMore has d found l n us ts o
sequence_fact (both (ate t c e) (yes f (mapped x h is))) = one_more t c h is
sequence_fact (both (ate t c e) (no f h)) = absurd (not_both e f)
sequence_fact (both (absent e o) (yes f h)) = absurd (not_both f e)
sequence_fact (both (absent e o) (no f (nothing is))) = no_more o is

sequence_fault : {has : Bool} {l n : ℕ} {us ts : List Lexeme} → Either Never (Eaten k.Comma) (λ b. ChosenFault b (Start (Assign has)) Never) l n us ts → NotOneMore has l n us ts
sequence_fault (first c) = elim c [ ]
sequence_fault (second (ate t c e) (yes_fault f s)) = not_one_more t c s
sequence_fault (second (ate t c e) (no_fault f s)) = elim s [ ]
sequence_fault (second (absent e o) (yes_fault f s)) = absurd (not_both f e)
sequence_fault (second (absent e o) (no_fault f s)) = elim s [ ]

pub assoc : {A C D : Type 0} (o : Outcome A) (f : A → C) (F : C → Parser D) → and_then o (λ x i. F (f x) i) ≡ and_then (and_then o (λ x i. done (f x) i)) F
assoc (Ok p) f F = refl
assoc (Err e) f F = refl

module _ (has : Bool) (d : ℕ) (nest : Nested d) where
  abbrev turn_again : ℕ → ℕ → Grove ⊎ Grove → Parser Grove
  turn_again = finish (λ k e found. sequence_from (tree e) has k found) (sequence_step has) 0 d (OneMore has d) (λ found. NotOneMore has)

  sequence_steps : (found : Grove) → Parses (λ e. sequence_step has e found) d Any (OneMore has d found) (NotOneMore has)
  sequence_steps found = map (λ l n us ts x r. sequence_fact r) (λ l n us ts r. sequence_fault r)
      (then_any (eaten k.Comma end_no_comma) (λ b. choose_any b (mapping (nest.assign has) (λ x. inl (with found x))) (purely (inr found))))

  sequence_turn : (m e : ℕ) (found : Grove) (b : Bool) (i : Input)
      → (if b then (tree e (assign_goal has) >>= (λ x. sequence_from (tree e) has m (with found x))) else pure found) i
      ≡ and_then ((if b then (tree e (assign_goal has) >>= (λ x i. Ok (inl (with found x), i))) else (λ i. Ok (inr found, i))) i) (turn_again m e)
  sequence_turn m e found true i = assoc (tree e (assign_goal has) i) (λ x. inl (with found x)) (turn_again m e)
  sequence_turn m e found false i = refl

  sequence_unrolls : (m e : ℕ) (found : Grove) (all : List Lexeme) (l n : ℕ) → 0 + length all ≤ m
      → sequence_from (tree e) has m found (inp all l n) ≡ and_then (sequence_step has e found (inp all l n)) (turn_again (pred m) e)
  unfolding sequence_from sees after sort same_sort
  sequence_unrolls zero e found [] l n far = refl
  sequence_unrolls zero e found (t ∷ ts) l n far = absurd (omega arith)
  sequence_unrolls (suc m) e found all l n far = sequence_turn m e found (sees k.Comma (inp all l n)) (after k.Comma (inp all l n))

  sequence_grows : (found : Grove) (y : Grove) (l n : ℕ) (us ts : List Lexeme) → OneMore has d found l n us ts (inl y) → 0 < length us
  sequence_grows found y l n us ts h = some h refl
    where
      some : {us ts : List Lexeme} {o : Grove ⊎ Grove} → OneMore has d found l n us ts o → o ≡ inl y → 0 < length us
      some (one_more {us} t c h is) e = omega arith
      some (no_more o is) e = cc

  pub sequences : (found : Grove) → Parses (λ e. sequence (tree e) has found) d Any (Runs (OneMore has d) found) (Breaks (OneMore has d) (λ found. NotOneMore has) found)
  unfolding sequence left
  sequences found = turns (λ k e found. sequence_from (tree e) has k found) (sequence_step has) 0 d (OneMore has d) (λ found. NotOneMore has)
      sequence_unrolls sequence_steps sequence_grows left (λ all l n. omega arith) found

-- two and more
pub data Long (has : Bool) : ℕ → ℕ → List Lexeme → Grove → Type 0 where
  long : {d from : ℕ} {us vs : List Lexeme} {xs : Grove} {x : Grown} → Lists has (suc d) us from xs → (t : Lexeme) → t.sort ≡ k.Comma → Derives d (Assign has) vs x → Long has (suc d) from (us ++ t ∷ vs) (with xs x)

shorter : {has : Bool} {d from : ℕ} {us : List Lexeme} {xs : Grove} → Long has d from us xs → Lists has d us from xs
shorter (long h t c i) = g.one_more h t c i

long_runs : {has : Bool} {d l n : ℕ} {us ts : List Lexeme} {found all : Grove} → Runs (OneMore has d) found l n us ts all
    → (vs : List Lexeme) (from : ℕ) → Long has d from vs found → Long has d from (vs ++ us) all
long_runs (stop (one_more t c h is)) = λ vs from w. absurd (no_left is)
long_runs {has} {d} (stop {ts} {a = all} (no_more o is)) = λ vs from w.
    subst (λ zs. Long has d from zs all) (sym (append-nil vs)) (subst (λ xs. Long has d from vs xs) (sym (same_right is)) w)
long_runs {has} {d} (go {vs = ws} {a = all} (one_more {us = vs} t c (opened h b) is) rest) = λ us from w.
    subst (λ zs. Long has d from zs all) (append_assoc us (t ∷ vs) ws)
    (long_runs rest (us ++ t ∷ vs) from (subst (λ xs. Long has d from (us ++ t ∷ vs) xs) (sym (same_left is)) (long (shorter w) t c h)))
long_runs (go (no_more o is) rest) = λ vs from w. absurd (no_right is)

-- a comma stands behind the first ones
first_run : {has : Bool} {d l n : ℕ} {us ts : List Lexeme} {found all : Grove} → Runs (OneMore has d) found l n us ts all → same_sort (sort_at (us ++ ts)) k.Comma ≡ true
    → (vs : List Lexeme) (from : ℕ) → Lists has d vs from found → Long has d from (vs ++ us) all
first_run (stop (one_more t c h is)) = λ f vs from w. absurd (no_left is)
first_run (stop (no_more o is)) = λ f vs from w. absurd (not_both f o)
first_run {has} {d} (go {vs = ws} {a = all} (one_more {us = vs} t c (opened h b) is) rest) = λ f us from w.
    subst (λ zs. Long has d from zs all) (append_assoc us (t ∷ vs) ws)
    (long_runs rest (us ++ t ∷ vs) from (subst (λ xs. Long has d from (us ++ t ∷ vs) xs) (sym (same_left is)) (long w t c h)))
first_run (go (no_more o is) rest) = λ f vs from w. absurd (no_right is)

closed_long : {has : Bool} {d l n from : ℕ} {us ts : List Lexeme} {all : Grove} {x : Grown} → Long has d from us all
    → all.tall < max_depth → x ≡ ending (node.Sequence all.trees) from (end_after l us) all.tall → Derived d (Expression has) l n us ts x
closed_long {has} {d} {l} (long {us = vs} {vs = ws} h t c i) fits is = finished fits is (end_behind l 0 vs ws t) (g.sequence h t c i)

abbrev ExpressionFact : Bool → ℕ → Fact Grown
ExpressionFact has d = Both (Opened (Assign has) d)
    (λ x. Both (Looked sort) (λ s. Chosen (same_sort s k.Comma) (Closed (Runs (OneMore has d) (with none x)) (λ all. node.Sequence all.trees) (λ all. from_of x) (λ all. all.tall)) (Pure x)))

expression_fact : {has : Bool} {d l n : ℕ} {us ts : List Lexeme} {x : Grown} → ExpressionFact has d l n us ts x → Derived d (Expression has) l n us ts x
unfolding sort
expression_fact (both (opened h b) (both (looked e) (no f (nothing is)))) = bare (known_as is (derived (g.single h) b))
expression_fact {l = l} (both {us = vs} {x = x} (opened h b) (both {vs = ws} (looked e) (yes f (closed all runs fits is)))) =
    closed_long (first_run runs (ap (λ s. same_sort s k.Comma) (sym e) ∙ f) vs (from_of x) (g.one h)) fits
    (is ∙ ap (λ m. ending (node.Sequence all.trees) (from_of x) m all.tall) (sym (end_append l vs ws)))

fill_sequence : {has : Bool} {d from : ℕ} {us : List Lexeme} {xs : Grove} → Lists has d us from xs → (t : Lexeme) → t.sort ≡ k.Comma
    → (e : ℕ) (vs : List Lexeme) (x : Grown) → Derives e (Assign has) vs x → Fill (Expression has) (us ++ t ∷ vs)
fill_sequence {has} {d} {from} {us} {xs} w t c e vs x h =
    let z : suc e + d ≡ suc (d + e) = omega arith in
    filled (suc (d + e)) (us ++ t ∷ vs) _ (g.sequence (subst (λ m. Lists has m us from xs) z (list_by_more d (suc e) w)) t c (by_more e d h))

list_breaks : {has : Bool} {d l n : ℕ} {us ts : List Lexeme} {found : Grove} → Breaks (OneMore has d) (λ found. NotOneMore has) found l n us ts
    → (vs : List Lexeme) (from : ℕ) → Lists has d vs from found → Begins (Expression has) (vs ++ us)
list_breaks (break (not_one_more t c (start s))) = λ vs from w. begin_behind vs t (fill_sequence w t c) s
list_breaks {has} {d} (later {x = found} {vs = ws} (one_more {us = vs} t c (opened h b) is) rest) = λ us from w.
    subst (λ zs. Begins (Expression has) zs) (append_assoc us (t ∷ vs) ws)
    (list_breaks rest (us ++ t ∷ vs) from (subst (λ xs. Lists has d (us ++ t ∷ vs) from xs) (sym (same_left is)) (g.one_more w t c h)))
list_breaks (later (no_more o is) rest) = λ vs from w. absurd (no_right is)

expression_fault : {has : Bool} {d l n : ℕ} {us ts : List Lexeme}
    → Either (Start (Assign has)) (Opened (Assign has) d) (λ x. Either Never (Looked sort) (λ s. ChosenFault (same_sort s k.Comma) (Breaks (OneMore has d) (λ found. NotOneMore has) (with none x)) Never)) l n us ts
    → Start (Expression has) l n us ts
expression_fault (first (start s)) = start (begin_as (λ e vs x h. filled (suc e) vs x (g.single h)) s)
expression_fault (second (opened h b) (first c)) = elim c [ ]
expression_fault (second {us = vs} {x = x} (opened h b) (second (looked e) (yes_fault f w))) = start (list_breaks w vs (from_of x) (g.one h))
expression_fault (second (opened h b) (second (looked e) (no_fault f c))) = elim c [ ]

pub expressions : (has : Bool) (d : ℕ) → Nested d → Parses (λ e. expression (tree e) has) d Any (Derived d (Expression has)) (Start (Expression has))
unfolding expression
expressions has d nest = map (λ l n us ts x r. expression_fact r) (λ l n us ts r. expression_fault r)
    (then_any (nest.assign has) (λ x. then_any (look sort sort_shallow) (λ s.
    choose_any (same_sort s k.Comma) (closing (sequences has d nest (with none x)) (λ all. node.Sequence all.trees) (λ all. from_of x) (λ all. all.tall)) (purely x))))
