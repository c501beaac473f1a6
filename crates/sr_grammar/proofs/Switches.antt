-- What `switch` is read as, and where reading it fails.
use Rattle.std.proofs.Common.{◌≡◌, ℕ, zero, suc, ◌+◌, ◌≤◌, max, Bool, true, false, List, [], ◌∷◌, ◌++◌, length, Ok, Err, refl, sym, ap, subst, append_assoc, append-nil, arith, ◌⊎◌, inl, inr, if◌then◌else◌}
use Rattle.sr_ast.specs.declared.tree.Node.TheVariants as node
use Rattle.sr_syntax.specs.declared.sorts.Sort.{Sort}
use Rattle.sr_syntax.specs.declared.sorts.Sort.TheVariants as k
use Rattle.sr_syntax.specs.declared.sorts.Lexeme.{Lexeme}
use Rattle.sr_syntax.specs.declared.grown.Grown.{Grown}
use Rattle.sr_syntax.specs.declared.grown.Grove.{Grove}
use Rattle.sr_syntax.specs.declared.grown.Cases.{Cases}
use Rattle.sr_syntax.specs.Input.{Input, Outcome, Parser, ◌>>=◌, ◌>>◌, and_then, pure, refuse, peek, take_token, sort, next, left}
use Rattle.sr_syntax.specs.Operators.{none, with}
use Rattle.sr_syntax.specs.Statements.{item, no_cases, with_case, with_default, ends_clause, clause_from, clause_items, clause, case_, default_, cases_by, cases_from, cases, switch_}
use Rattle.sr_syntax.specs.Grammar.{tree}
use Rattle.sr_grammar.specs.Derivations.{Derives, Expression, Condition, States, IsItem, Items, Clauses}
use Rattle.sr_grammar.specs.Derivations as g
use Rattle.sr_grammar.proofs.Steps.{inp, Fact, Fault, Any, Parses, Both, both, Either, first, second, Never, Pure, nothing, Looked, looked, Expected, expected, Here, here, Chosen, yes, no, ChosenFault, yes_fault, no_fault, Runs, Breaks, map, given, then_any, look, sort_shallow, expecting, purely, refused, choose_any, turns, finish, pred, done, end_append}
use Rattle.sr_grammar.proofs.Depths.{lift, lift_condition, lift_items, lift_item, lift_clauses}
use Rattle.sr_grammar.proofs.Facts.{Derived, derived, Mapped, mapped, mapping, Closed, closed, closing, Start, token, Stood, stood, BeginsOne, StartOne, start_one}
use Rattle.sr_grammar.proofs.Peeks.{Sorted, by_sort, Token, one_token, taking}
use Rattle.sr_grammar.proofs.Followed.{same_first, closing_brace, items_before, clauses_before}
use Rattle.sr_grammar.proofs.SomeTokens.{item_some, at_first}
use Rattle.sr_grammar.proofs.Lists.{Nested, expressions, assoc}
use Rattle.sr_grammar.proofs.Beginnings.{Begun, carry, onward, begun_whole, begun_more, Turned, onwards, at_end, Broken, broken, turned_runs, turned_breaks, turned_grows}
use Rattle.sr_grammar.proofs.Standing.{Calm, carry_in, begun_at, Wanted, at_nothing, Behind, BehindFault, completed_behind}
use Rattle.sr_grammar.proofs.PlainItems.{items_of}
use Rattle.sr_grammar.proofs.Conditions.{Conditional, conditional, conditions}
use Rattle.sr_grammar.proofs.Sorts.{end_no_colon, end_no_left_brace}

-- ---- the items of a clause

abbrev brace : List Lexeme
brace = token k.RightBrace ∷ []

-- before a brace
abbrev BracedItems : ℕ → List Lexeme → Grove → Type 0
BracedItems e us xs = Items e us brace xs

abbrev clause_step : ℕ → Grove → Parser (Grove ⊎ Grove)
clause_step e found = peek >>= (λ s. if ends_clause s then (λ i. Ok (inr found, i)) else (item (tree e) >>= (λ x i. Ok (inl (with found x), i))))

abbrev ItemTurn : ℕ → Grove → Fact (Grove ⊎ Grove)
ItemTurn d found = Turned Items Items d found

abbrev NoItemTurn : ℕ → Grove → Fault
NoItemTurn d found = Broken Items BracedItems d found

item_turn_fact : {d l n : ℕ} {us ts : List Lexeme} {found : Grove} {o : Grove ⊎ Grove}
    → Both (Looked sort) (λ s. Chosen (ends_clause s) (Pure (inr found)) (Mapped (Stood IsItem d) (λ x. inl (with found x)))) l n us ts o → ItemTurn d found l n us ts o
item_turn_fact {d} {found = found} (both (looked e) (yes f (nothing {ts} is))) = at_end found (λ vs s. subst (λ zs. Items d zs ts found) (sym (append-nil vs)) s) is
item_turn_fact {found = found} (both (looked e) (no f (mapped x (stood h b) is))) = onwards (with found x) (λ vs s. g.one_more_item s h) (item_some h) is

-- one more that is begun
begun_item : {d : ℕ} {vs : List Lexeme} {found : Grove} (us ts : List Lexeme) → Items d vs (us ++ ts) found → BeginsOne IsItem us → Begun BracedItems (vs ++ us)
begun_item {d} {vs} {found} [] ts w b = at_nothing (begun_whole d vs found (items_before (closing_brace refl) w))
begun_item {d} {vs} {found} (t ∷ us) ts w b = begun_more (d + b.depth) vs (t ∷ us) b.more (with found b.made)
    (g.one_more_item (lift_items d (d + b.depth) (omega arith) (items_before (same_first refl) w)) (lift_item b.depth (d + b.depth) (omega arith) (b.is brace refl)))

item_turn_fault : {d l n : ℕ} {us ts : List Lexeme} {found : Grove}
    → Either Never (Looked sort) (λ s. ChosenFault (ends_clause s) Never (StartOne IsItem)) l n us ts → NoItemTurn d found l n us ts
item_turn_fault (first c) = elim c [ ]
item_turn_fault (second (looked e) (yes_fault f c)) = elim c [ ]
item_turn_fault {ts = ts} (second {vs = us} (looked e) (no_fault f (start_one b))) = broken (λ vs s. begun_item us ts s b)

module _ (d : ℕ) (nest : Nested d) where
  abbrev clause_again : ℕ → ℕ → Grove ⊎ Grove → Parser Grove
  clause_again = finish (λ m e found. clause_from (tree e) m found) clause_step 1 d (ItemTurn d) (NoItemTurn d)

  clause_turn : (m e : ℕ) (found : Grove) (b : Bool) (i : Input)
      → (if b then pure found else (item (tree e) >>= (λ x. clause_from (tree e) m (with found x)))) i
      ≡ and_then ((if b then (λ i. Ok (inr found, i)) else (item (tree e) >>= (λ x i. Ok (inl (with found x), i)))) i) (clause_again m e)
  clause_turn m e found true i = refl
  clause_turn m e found false i = assoc (item (tree e) i) (λ x. inl (with found x)) (clause_again m e)

  clause_unrolls : (m e : ℕ) (found : Grove) (all : List Lexeme) (l n : ℕ) → 1 + length all ≤ m
      → clause_from (tree e) m found (inp all l n) ≡ and_then (clause_step e found (inp all l n)) (clause_again (pred m) e)
  unfolding clause_from
  clause_unrolls zero e found all l n far = absurd (omega arith)
  clause_unrolls (suc m) e found all l n far = clause_turn m e found (ends_clause (sort (inp all l n))) (inp all l n)

  clause_steps : (found : Grove) → Parses (λ e. clause_step e found) d Any (ItemTurn d found) (NoItemTurn d found)
  clause_steps found = map (λ l n us ts x r. item_turn_fact r) (λ l n us ts r. item_turn_fault r)
      (then_any (look sort sort_shallow) (λ s. choose_any (ends_clause s) (purely (inr found)) (mapping (items_of d nest) (λ x. inl (with found x)))))

  clause_runs : Parses (λ e. clause_items (tree e)) d Any (Runs (ItemTurn d) none) (Breaks (ItemTurn d) (NoItemTurn d) none)
  unfolding clause_items left
  clause_runs = turns (λ m e found. clause_from (tree e) m found) clause_step 1 d (ItemTurn d) (NoItemTurn d) clause_unrolls clause_steps turned_grows (λ i. left i + 1) (λ all l n. omega arith) none

-- with the colon
data Clause (d l n : ℕ) : List Lexeme → List Lexeme → Grove → Type 0 where
  clause_of : {ws ts : List Lexeme} {xs : Grove} (u : Lexeme) → u.sort ≡ k.Colon → Items d ws ts xs → Clause d l n (u ∷ ws) ts xs

data ClauseBegun : ℕ → List Lexeme → Grove → Type 0 where
  clause_begun : {e : ℕ} {ws : List Lexeme} {xs : Grove} (u : Lexeme) → u.sort ≡ k.Colon → Items e ws brace xs → ClauseBegun e (u ∷ ws) xs

clause_fact : {d l n : ℕ} {us ts : List Lexeme} {xs : Grove} → Both (Expected k.Colon) (λ u. Runs (ItemTurn d) none) l n us ts xs → Clause d l n us ts xs
clause_fact (both (expected u c) runs) = clause_of u c (turned_runs runs [] g.no_items)

clause_fault : {d l n : ℕ} {us ts : List Lexeme} → Either Here (Expected k.Colon) (λ u. Breaks (ItemTurn d) (NoItemTurn d) none) l n us ts → Begun ClauseBegun us
clause_fault (first here) = record { depth = 0; more = token k.Colon ∷ []; made = none; has = clause_begun (token k.Colon) refl g.no_items }
clause_fault (second (expected u c) breaks) = carry (u ∷ []) (λ e ws xs h. begun_whole e (u ∷ ws) xs (clause_begun u c h)) (turned_breaks breaks [] g.no_items)

clauses_read : (d : ℕ) → Nested d → Parses (λ e. clause (tree e)) d Any (Clause d) (Wanted ClauseBegun)
unfolding clause
clauses_read d nest = map (λ l n us ts x r. clause_fact r) (λ l n us ts r. clause_fault r) (then_any (expecting k.Colon end_no_colon) (λ u. clause_runs d nest))

-- ---- one clause

-- with what it adds to
data OneCase (found : Cases) (d l n : ℕ) : List Lexeme → List Lexeme → Cases → Type 0 where
  one_case : {vs ws ts : List Lexeme} {x : Grown} {xs : Grove} {all : Cases} → Derives d (Expression true) vs x → (u : Lexeme) → u.sort ≡ k.Colon → Items d ws ts xs → all ≡ with_case found x xs
      → OneCase found d l n (vs ++ u ∷ ws) ts all

data OneDefault (found : Cases) (d l n : ℕ) : List Lexeme → List Lexeme → Cases → Type 0 where
  one_default : {ws ts : List Lexeme} {xs : Grove} {all : Cases} (u : Lexeme) → u.sort ≡ k.Colon → Items d ws ts xs → all ≡ with_default found xs → OneDefault found d l n (u ∷ ws) ts all

data CaseBegun (found : Cases) : ℕ → List Lexeme → Cases → Type 0 where
  case_begun : {e : ℕ} {vs ws : List Lexeme} {x : Grown} {xs : Grove} → Derives e (Expression true) vs x → (u : Lexeme) → u.sort ≡ k.Colon → Items e ws brace xs
      → CaseBegun found e (vs ++ u ∷ ws) (with_case found x xs)

one_case_fact : {found : Cases} {d l n : ℕ} {us ts : List Lexeme} {all : Cases} → Both (Derived d (Expression true)) (λ x. Mapped (Clause d) (λ xs. with_case found x xs)) l n us ts all → OneCase found d l n us ts all
one_case_fact (both (derived h b) (mapped xs (clause_of u c w) is)) = one_case h u c w is

case_end : {found : Cases} (e : ℕ) (us : List Lexeme) (x : Grown) → Derives e (Expression true) us x → Begun (CaseBegun found) us
case_end {found} e us x h = record { depth = e; more = token k.Colon ∷ []; made = with_case found x none; has = case_begun h (token k.Colon) refl g.no_items }

case_behind : {found : Cases} {d e : ℕ} {vs ws : List Lexeme} {x : Grown} {xs : Grove} → Derives d (Expression true) vs x → ClauseBegun e ws xs → CaseBegun found (d + e) (vs ++ ws) (with_case found x xs)
case_behind {d = d} {e = e} h (clause_begun u c w) = case_begun (lift d (d + e) (omega arith) h) u c (lift_items e (d + e) (omega arith) w)

one_case_fault : {found : Cases} {d l n : ℕ} {us ts : List Lexeme} → Either (Start (Expression true)) (Derived d (Expression true)) (λ x. Wanted ClauseBegun) l n us ts → Begun (CaseBegun found) us
one_case_fault (first s) = onward (λ e vs x h. case_end e vs x h) (begun_at s)
one_case_fault {found} {d} (second {us = us} {x = x} (derived h b) r) = carry us (λ e ws xs c. begun_whole (d + e) (us ++ ws) (with_case found x xs) (case_behind h c)) r

one_cases : (d : ℕ) → Nested d → (found : Cases) → Parses (λ e. case_ (tree e) found) d Any (OneCase found d) (Wanted (CaseBegun found))
unfolding case_
one_cases d nest found = map (λ l n us ts x r. one_case_fact r) (λ l n us ts r. one_case_fault r) (then_any (expressions true d nest) (λ x. mapping (clauses_read d nest) (λ xs. with_case found x xs)))

one_default_fact : {found : Cases} {d l n : ℕ} {us ts : List Lexeme} {all : Cases} → Mapped (Clause d) (λ xs. with_default found xs) l n us ts all → OneDefault found d l n us ts all
one_default_fact (mapped xs (clause_of u c w) is) = one_default u c w is

one_defaults : (d : ℕ) → Nested d → (found : Cases) → Parses (λ e. default_ (tree e) found) d Any (OneDefault found d) (Wanted ClauseBegun)
unfolding default_
one_defaults d nest found = map (λ l n us ts x r. one_default_fact r) (λ l n us ts r. r) (mapping (clauses_read d nest) (λ xs. with_default found xs))

-- ---- all of them

data CasesClosed (d : ℕ) : List Lexeme → List Lexeme → Cases → Type 0 where
  cases_closed : {vs ts : List Lexeme} {all : Cases} (u : Lexeme) → u.sort ≡ k.RightBrace → Clauses d vs (u ∷ ts) all → CasesClosed d (vs ++ u ∷ []) ts all

data CasesBegun : ℕ → List Lexeme → Cases → Type 0 where
  cases_begun : {e : ℕ} {vs : List Lexeme} {all : Cases} (u : Lexeme) → u.sort ≡ k.RightBrace → Clauses e vs (u ∷ []) all → CasesBegun e (vs ++ u ∷ []) all

cases_end : {e : ℕ} {vs : List Lexeme} {all : Cases} → Clauses e vs brace all → Begun CasesBegun vs
cases_end {e} {vs} {all} w = record { depth = e; more = brace; made = all; has = cases_begun (token k.RightBrace) refl w }

abbrev CaseTurn : ℕ → Cases → Fact (Cases ⊎ Cases)
CaseTurn d found = Turned Clauses CasesClosed d found

abbrev NoCaseTurn : ℕ → Cases → Fault
NoCaseTurn d found = Broken Clauses CasesBegun d found

abbrev case_step_by : ℕ → Cases → Sort → Parser (Cases ⊎ Cases)
case_step_by e found k.RightBrace = take_token >>= (λ u i. Ok (inr found, i))
case_step_by e found k.Case = take_token >> case_ (tree e) found >>= (λ all i. Ok (inl all, i))
case_step_by e found k.Default = if found.has_default then refuse else take_token >> default_ (tree e) found >>= (λ all i. Ok (inl all, i))
case_step_by e found _ = refuse

abbrev case_step : ℕ → Cases → Parser (Cases ⊎ Cases)
case_step e found = peek >>= (λ s. case_step_by e found s)

close_fact : {d l n : ℕ} {us ts : List Lexeme} {found : Cases} {o : Cases ⊎ Cases} → Mapped (Token k.RightBrace) (λ u. inr found) l n us ts o → CaseTurn d found l n us ts o
close_fact {found = found} (mapped x (one_token u c) is) = at_end found (λ vs s. cases_closed u c s) is

case_turn_fact : {d l n : ℕ} {us ts : List Lexeme} {found : Cases} {o : Cases ⊎ Cases}
    → Mapped (Both (Token k.Case) (λ u. OneCase found d)) (λ all. inl all) l n us ts o → CaseTurn d found l n us ts o
case_turn_fact {d} (mapped all (both {ts = ts} (one_token t c) (one_case {vs} {ws} h u e w is)) o) =
    onwards all (λ qs s. subst (λ a. Clauses d (qs ++ t ∷ (vs ++ u ∷ ws)) ts a) (sym is) (g.one_more_case t (clauses_before (same_first refl) s) c h u e w)) (at_first t (vs ++ u ∷ ws)) o

default_turn_fact : {d l n : ℕ} {us ts : List Lexeme} {found : Cases} {o : Cases ⊎ Cases} → found.has_default ≡ false
    → Mapped (Both (Token k.Default) (λ u. OneDefault found d)) (λ all. inl all) l n us ts o → CaseTurn d found l n us ts o
default_turn_fact {d} only (mapped all (both {ts = ts} (one_token t c) (one_default {ws} u e w is)) o) =
    onwards all (λ qs s. subst (λ a. Clauses d (qs ++ t ∷ u ∷ ws) ts a) (sym is) (g.one_default t (clauses_before (same_first refl) s) c only u e w)) (at_first t (u ∷ ws)) o

-- nothing more was read
stopped : {d l n : ℕ} {us ts : List Lexeme} {found : Cases} → Here l n us ts → NoCaseTurn d found l n us ts
stopped here = broken (λ vs s. at_nothing (cases_end (clauses_before (closing_brace refl) s)))

whole_case : {d e : ℕ} {qs zs rest : List Lexeme} {found all : Cases} (t : Lexeme) → t.sort ≡ k.Case → Clauses d qs (t ∷ rest) found → CaseBegun found e zs all → Clauses (d + e) (qs ++ t ∷ zs) brace all
whole_case {d} {e} t c s (case_begun h u q w) =
    g.one_more_case t (lift_clauses d (d + e) (omega arith) (clauses_before (same_first refl) s)) c (lift e (d + e) (omega arith) h) u q (lift_items e (d + e) (omega arith) w)

whole_default : {d e : ℕ} {qs zs rest : List Lexeme} {found : Cases} {xs : Grove} (t : Lexeme) → t.sort ≡ k.Default → found.has_default ≡ false → Clauses d qs (t ∷ rest) found → ClauseBegun e zs xs
    → Clauses (d + e) (qs ++ t ∷ zs) brace (with_default found xs)
whole_default {d} {e} t c only s (clause_begun u q w) = g.one_default t (lift_clauses d (d + e) (omega arith) (clauses_before (same_first refl) s)) c only u q (lift_items e (d + e) (omega arith) w)

case_turn_fault : {d l n : ℕ} {us ts : List Lexeme} {found : Cases} → Either Never (Token k.Case) (λ u. Wanted (CaseBegun found)) l n us ts → NoCaseTurn d found l n us ts
case_turn_fault (first c) = elim c [ ]
case_turn_fault (second {vs = us} (one_token t c) b) = broken (λ qs s. carry_in (λ zs. qs ++ t ∷ zs) (λ us vs. sym (append_assoc qs (t ∷ us) vs)) (λ e zs all h. cases_end (whole_case t c s h)) b)

default_turn_fault : {d l n : ℕ} {us ts : List Lexeme} {found : Cases} → found.has_default ≡ false → Either Never (Token k.Default) (λ u. Wanted ClauseBegun) l n us ts → NoCaseTurn d found l n us ts
default_turn_fault only (first c) = elim c [ ]
default_turn_fault only (second {vs = us} (one_token t c) b) = broken (λ qs s. carry_in (λ zs. qs ++ t ∷ zs) (λ us vs. sym (append_assoc qs (t ∷ us) vs)) (λ e zs xs h. cases_end (whole_default t c only s h)) b)

module _ (d : ℕ) (nest : Nested d) where
  default_steps : (found : Cases) (b : Bool) → found.has_default ≡ b
      → Parses (λ e. if b then refuse else take_token >> default_ (tree e) found >>= (λ all i. Ok (inl all, i))) d (Sorted k.Default) (CaseTurn d found) (NoCaseTurn d found)
  default_steps found true is = given (λ ts m. tt) (map (λ l n us ts x r. elim r [ ]) (λ l n us ts r. stopped r) refused)
  default_steps found false is = map (λ l n us ts x r. default_turn_fact is r) (λ l n us ts r. default_turn_fault is r)
      (mapping (then_any (taking k.Default (λ e. cc)) (λ u. one_defaults d nest found)) (λ all. inl all))

  case_steps_by : (found : Cases) (s : Sort) → Parses (λ e. case_step_by e found s) d (Sorted s) (CaseTurn d found) (NoCaseTurn d found)
  case_steps_by found k.RightBrace = map (λ l n us ts x r. close_fact r) (λ l n us ts r. elim r [ ]) (mapping (taking k.RightBrace (λ e. cc)) (λ u. inr found))
  case_steps_by found k.Case = map (λ l n us ts x r. case_turn_fact r) (λ l n us ts r. case_turn_fault r) (mapping (then_any (taking k.Case (λ e. cc)) (λ u. one_cases d nest found)) (λ all. inl all))
  case_steps_by found k.Default = default_steps found found.has_default refl
  case_steps_by found s = given (λ ts m. tt) (map (λ l n us ts x r. elim r [ ]) (λ l n us ts r. stopped r) refused)

  case_steps : (found : Cases) → Parses (λ e. case_step e found) d Any (CaseTurn d found) (NoCaseTurn d found)
  case_steps found = by_sort (λ e s. case_step_by e found s) (case_steps_by found)

  abbrev cases_again : ℕ → ℕ → Cases ⊎ Cases → Parser Cases
  cases_again = finish (λ m e found. cases_from (tree e) m found) case_step 1 d (CaseTurn d) (NoCaseTurn d)

  more_is : (m e : ℕ) (o : Outcome Cases) → and_then o (cases_from (tree e) m) ≡ and_then (and_then o (λ all i. done (inl all) i)) (cases_again m e)
  more_is m e (Ok p) = refl
  more_is m e (Err r) = refl

  default_turn : (m e : ℕ) (found : Cases) (b : Bool) (i : Input)
      → (if b then refuse else take_token >> default_ (tree e) found >>= cases_from (tree e) m) i
      ≡ and_then ((if b then refuse else take_token >> default_ (tree e) found >>= (λ all i. Ok (inl all, i))) i) (cases_again m e)
  default_turn m e found true i = refl
  default_turn m e found false i = more_is m e (default_ (tree e) found (next i))

  cases_turn : (m e : ℕ) (found : Cases) (s : Sort) (i : Input) → cases_by (tree e) (cases_from (tree e) m) found s i ≡ and_then (case_step_by e found s i) (cases_again m e)
  cases_turn m e found k.RightBrace i = refl
  cases_turn m e found k.Case i = more_is m e (case_ (tree e) found (next i))
  cases_turn m e found k.Default i = default_turn m e found found.has_default i
  cases_turn m e found s i = refl

  cases_unrolls : (m e : ℕ) (found : Cases) (all : List Lexeme) (l n : ℕ) → 1 + length all ≤ m
      → cases_from (tree e) m found (inp all l n) ≡ and_then (case_step e found (inp all l n)) (cases_again (pred m) e)
  unfolding cases_from
  cases_unrolls zero e found all l n far = absurd (omega arith)
  cases_unrolls (suc m) e found all l n far = cases_turn m e found (sort (inp all l n)) (inp all l n)

  cases_run : Parses (λ e. cases (tree e)) d Any (Runs (CaseTurn d) no_cases) (Breaks (CaseTurn d) (NoCaseTurn d) no_cases)
  unfolding cases left
  cases_run = turns (λ m e found. cases_from (tree e) m found) case_step 1 d (CaseTurn d) (NoCaseTurn d) cases_unrolls case_steps turned_grows (λ i. left i + 1) (λ all l n. omega arith) no_cases

data CasesRead (d l n : ℕ) (us ts : List Lexeme) (all : Cases) : Type 0 where
  cases_read : CasesClosed d us ts all → CasesRead d l n us ts all

casess : (d : ℕ) → Nested d → Parses (λ e. cases (tree e)) d Any (CasesRead d) (Wanted CasesBegun)
casess d nest = map (λ l n us ts x r. cases_read (turned_runs r [] g.no_clauses)) (λ l n us ts r. turned_breaks r [] g.no_clauses) (cases_run d nest)

-- ---- the statement

abbrev SwitchFact : ℕ → ℕ → Fact Grown
SwitchFact d from = Both (Conditional d) (λ x. Both (Expected k.LeftBrace) (λ u. Closed (CasesRead d) (λ all. node.Switch x.tree all.items) (λ all. from) (λ all. max x.height all.tall)))

switch_fact : {d l n : ℕ} {us ts : List Lexeme} {x : Grown} (from : ℕ) → SwitchFact d from l n us ts x → Behind States d from k.Switch l n us ts x
switch_fact {l = l} from (both {us = us} (conditional c) (both (expected u q) (closed all (cases_read (cases_closed {vs} v e w)) fits is))) = λ t o o_at at.
    completed_behind t o_at at fits is (sym (end_append l us (u ∷ (vs ++ v ∷ [])))) (g.switch t o c u q v e w)

whole_switch : {d e : ℕ} {us zs : List Lexeme} {x : Grown} {all : Cases} (t : Lexeme) → t.sort ≡ k.Switch → Condition d us x → (u : Lexeme) → u.sort ≡ k.LeftBrace → CasesBegun e zs all → Begun (Calm States) (t ∷ (us ++ u ∷ zs))
whole_switch {d} {e} {us} t o c u q (cases_begun {vs = vs} v r w) = begun_whole (d + e) (t ∷ (us ++ u ∷ (vs ++ v ∷ []))) _ (λ ts calm.
    g.switch t o (lift_condition d (d + e) (omega arith) c) u q v r (lift_clauses e (d + e) (omega arith) (clauses_before (same_first refl) w)))

-- with no clauses
switch_end : (e : ℕ) (us : List Lexeme) (x : Grown) → Condition e us x → (t : Lexeme) → t.sort ≡ k.Switch → Begun (Calm States) (t ∷ us)
switch_end e us x c t o = record {
  depth = e;
  more = token k.LeftBrace ∷ token k.RightBrace ∷ [];
  made = _;
  has = λ ts calm. g.switch {vs = []} t o c (token k.LeftBrace) refl (token k.RightBrace) refl g.no_clauses;
}

switch_fault : {d l n : ℕ} {us ts : List Lexeme} → Either (Wanted Condition) (Conditional d) (λ x. Either Here (Expected k.LeftBrace) (λ u. Wanted CasesBegun)) l n us ts → BehindFault States k.Switch l n us ts
switch_fault (first b) = λ t o. carry (t ∷ []) (λ e vs x c. switch_end e vs x c t o) b
switch_fault {d} (second {us = us} {x = x} (conditional c) (first here)) = λ t o. at_nothing (switch_end d us x c t o)
switch_fault (second {us = us} (conditional c) (second (expected u q) b)) = λ t o.
    carry_in (λ zs. t ∷ (us ++ u ∷ zs)) (λ ys zs. ap (λ qs. t ∷ qs) (sym (append_assoc us (u ∷ ys) zs))) (λ e zs all h. whole_switch t o c u q h) b

pub switches : (d : ℕ) → Nested d → (from : ℕ) → Parses (λ e. switch_ (tree e) from) d Any (Behind States d from k.Switch) (BehindFault States k.Switch)
unfolding switch_
switches d nest from = map (λ l n us ts x r. switch_fact from r) (λ l n us ts r. switch_fault r)
    (then_any (conditions d nest) (λ x. then_any (expecting k.LeftBrace end_no_left_brace) (λ u. closing (casess d nest) (λ all. node.Switch x.tree all.items) (λ all. from) (λ all. max x.height all.tall))))
