-- What derives is read: `switch` and its clauses.
use Rattle.std.proofs.Common.{◌≡◌, ℕ, suc, ◌+◌, max, true, false, List, [], ◌∷◌, ◌++◌, refl, ap, ◌∙◌, append-nil, arith}
use Rattle.sr_ast.specs.declared.tree.Node.TheVariants as node
use Rattle.sr_syntax.specs.declared.sorts.Sort.TheVariants as k
use Rattle.sr_syntax.specs.declared.sorts.Lexeme.{Lexeme}
use Rattle.sr_syntax.specs.declared.grown.Grown.{Grown}
use Rattle.sr_syntax.specs.declared.grown.Grove.{Grove}
use Rattle.sr_syntax.specs.declared.grown.Cases.{Cases}
use Rattle.sr_syntax.specs.Input.{◌>>=◌, pure, sort, sort_at, next, complete}
use Rattle.sr_syntax.specs.Statements.{no_cases, with_case, with_default, ends_clause, condition, clause_from, clause_items, clause, case_, default_, cases_by, cases_from, cases, switch_, statement}
use Rattle.sr_syntax.specs.Grammar.{tree}
use Rattle.sr_grammar.specs.Derivations.{Expression, whole}
use Rattle.sr_grammar.proofs.Steps.{inp}
use Rattle.sr_grammar.proofs.Completing.{loose_sort}
use Rattle.sr_grammar.proofs.Claims.{Claim}
use Rattle.sr_grammar.proofs.Taking.{Whatever, Follow, Like, Moves, Takes, moves_then, moves_on, moves_at, moves_when, moves_now, moves_whole, moves_tokens, moves_expect, Loops, loops_none, loops_more, loops_last, zero_max}
use Rattle.sr_grammar.proofs.FunctionClaims.{ItemsClaim}
use Rattle.sr_grammar.proofs.StatementClaims.{keyword}
use Rattle.sr_grammar.proofs.LoopClaims.{expression_takes}
use Rattle.sr_grammar.proofs.Sorts.{colon_self, left_brace_self}

-- what begins like these, and a clause or the brace comes
abbrev pub Clause : List Lexeme → Follow
Clause ts r = Like ts r × (ends_clause (sort_at r) ≡ true)

-- how clauses are read
abbrev pub ClausesClaim : ℕ → List Lexeme → List Lexeme → Cases → Type 0
ClausesClaim d us ts all = Loops (cases_from (tree d)) us all.tall no_cases all (Clause ts)

clause_over : (d m : ℕ) (xs : Grove) (ts : List Lexeme) → Moves (clause_from (tree d) (suc m) xs) [] 0 (pure xs) (Clause ts)
unfolding clause_from sort
clause_over d m xs ts = moves_now (λ r l n q. rw q.1 refl)

items_of : {d : ℕ} {ws ts : List Lexeme} {xs : Grove} → ItemsClaim d ws ts xs → Takes (clause_items (tree d)) ws xs.tall xs (Clause ts)
unfolding clause_items
items_of {d} {ws} {ts} {xs} w = moves_tokens (append-nil ws) (moves_at (max xs.tall 0) xs.tall (omega arith) (loops_last w.clause (λ r q. q.0) (λ m. clause_over d m xs ts)))

clause_read : {d : ℕ} {ws ts : List Lexeme} {xs : Grove} (u : Lexeme) → u.sort ≡ k.Colon → ItemsClaim d ws ts xs → Takes (clause (tree d)) (u ∷ ws) xs.tall xs (Clause ts)
unfolding clause
clause_read {xs = xs} u c w = moves_at (max 0 xs.tall) xs.tall (zero_max xs.tall) (moves_then (moves_expect k.Colon u c colon_self) (λ r q. tt) (items_of w))

pub no_clauses_read : (d : ℕ) (ts : List Lexeme) → ClausesClaim d [] ts no_cases
no_clauses_read d ts = loops_none (cases_from (tree d)) no_cases (Clause ts)

-- ---- `case`

case_step : (d m : ℕ) (all : Cases) (t : Lexeme) → t.sort ≡ k.Case → Moves (cases_from (tree d) (suc m) all) (t ∷ []) 0 (case_ (tree d) all >>= cases_from (tree d) m) Whatever
unfolding cases_from sort next
case_step d m all t c = moves_now (λ r l n q. ap (λ s. cases_by (tree d) (cases_from (tree d) m) all s (inp (t ∷ r) l n)) c)

case_read : {ws ts : List Lexeme} {xs : Grove} (d : ℕ) (vs : List Lexeme) (x : Grown) (all : Cases) (u : Lexeme) → Claim d (Expression true) vs x → u.sort ≡ k.Colon → ItemsClaim d ws ts xs
    → Takes (case_ (tree d) all) (vs ++ u ∷ ws) (max x.height xs.tall) (with_case all x xs) (Clause ts)
unfolding case_
case_read {ws} d vs x all u h c w =
    moves_then (moves_on (expression_takes d true vs x h) _) (λ r q. loose_sort true u k.Colon 16 c (λ line. omega arith) (ws ++ r)) (moves_on (clause_read u c w) (λ xs. pure (with_case all x xs)))

pub one_more_case_read : {us ws ts : List Lexeme} {xs : Grove} {all : Cases} (d : ℕ) (vs : List Lexeme) (x : Grown) (t u : Lexeme) → ClausesClaim d us (t ∷ (vs ++ ts)) all → t.sort ≡ k.Case → Claim d (Expression true) vs x
    → u.sort ≡ k.Colon → ItemsClaim d ws ts xs → ClausesClaim d (us ++ t ∷ (vs ++ u ∷ ws)) ts (with_case all x xs)
one_more_case_read {xs = xs} {all} d vs x t u w c h e i =
    loops_more w (λ r q. (refl, ap ends_clause c)) (omega arith)
    (λ m. moves_at (max 0 (max x.height xs.tall)) (max x.height xs.tall) (omega arith) (moves_then (case_step d m all t c) (λ r q. tt) (moves_on (case_read d vs x all u h e i) (cases_from (tree d) m))))

-- ---- `default`

default_step : (d m : ℕ) (all : Cases) (t : Lexeme) → t.sort ≡ k.Default → all.has_default ≡ false → Moves (cases_from (tree d) (suc m) all) (t ∷ []) 0 (default_ (tree d) all >>= cases_from (tree d) m) Whatever
unfolding cases_from sort next
default_step d m all t c e = moves_now (λ r l n q. ap (λ s. cases_by (tree d) (cases_from (tree d) m) all s (inp (t ∷ r) l n)) c ∙ rw e refl)

default_read : {d : ℕ} {ws ts : List Lexeme} {xs : Grove} (all : Cases) (u : Lexeme) → u.sort ≡ k.Colon → ItemsClaim d ws ts xs → Takes (default_ (tree d) all) (u ∷ ws) xs.tall (with_default all xs) (Clause ts)
unfolding default_
default_read all u c w = moves_on (clause_read u c w) (λ xs. pure (with_default all xs))

pub one_default_read : {us ws ts : List Lexeme} {xs : Grove} {all : Cases} (d : ℕ) (t u : Lexeme) → ClausesClaim d us (t ∷ ts) all → t.sort ≡ k.Default → all.has_default ≡ false → u.sort ≡ k.Colon → ItemsClaim d ws ts xs
    → ClausesClaim d (us ++ t ∷ u ∷ ws) ts (with_default all xs)
one_default_read {xs = xs} {all} d t u w c f e i =
    loops_more w (λ r q. (refl, ap ends_clause c)) (omega arith)
    (λ m. moves_at (max 0 xs.tall) xs.tall (zero_max xs.tall) (moves_then (default_step d m all t c f) (λ r q. tt) (moves_on (default_read all u e i) (cases_from (tree d) m))))

-- ---- `switch`

cases_over : (d m : ℕ) (all : Cases) (v : Lexeme) → v.sort ≡ k.RightBrace → Takes (cases_from (tree d) (suc m) all) (v ∷ []) 0 all Whatever
unfolding cases_from sort next
cases_over d m all v c = moves_now (λ r l n q. ap (λ s. cases_by (tree d) (cases_from (tree d) m) all s (inp (v ∷ r) l n)) c)

cases_read : {us : List Lexeme} {all : Cases} (d : ℕ) (ts : List Lexeme) (v : Lexeme) → v.sort ≡ k.RightBrace → ClausesClaim d us (v ∷ ts) all → Takes (cases (tree d)) (us ++ v ∷ []) all.tall all Whatever
unfolding cases
cases_read {all = all} d ts v c w = moves_at (max all.tall 0) all.tall (omega arith) (loops_last w (λ r q. (refl, ap ends_clause c)) (λ m. cases_over d m all v c))

pub switch_reads : {all : Cases} (d : ℕ) (us vs ts : List Lexeme) (x : Grown) (t u v : Lexeme) → t.sort ≡ k.Switch → Takes (condition (tree d)) us x.height x Whatever → u.sort ≡ k.LeftBrace → v.sort ≡ k.RightBrace
    → ClausesClaim d vs (v ∷ ts) all
    → Takes (statement (tree d)) (t ∷ (us ++ u ∷ (vs ++ v ∷ []))) (max x.height all.tall + 1) (whole (node.Switch x.tree all.items) t.from (t ∷ (us ++ u ∷ (vs ++ v ∷ []))) (max x.height all.tall)) (Like ts)
unfolding switch_
switch_reads {all} d us vs ts x t u v c i e f w =
    moves_when (λ r q. tt) (moves_whole (node.Switch x.tree all.items) t.from (max x.height all.tall) (omega arith) (omega arith)
    (moves_then (keyword d t k.Switch (switch_ (tree d) t.from) c (λ i. refl)) (λ r q. tt)
    (moves_then (moves_on i _) (λ r q. tt)
    (moves_then (moves_expect k.LeftBrace u e left_brace_self) (λ r q. tt) (moves_on (cases_read d ts v f w) (λ all. complete (node.Switch x.tree all.items) t.from (max x.height all.tall)))))))
