-- What conditions, `if`, `do` and `while` are read as, and where reading them fails.
use Rattle.std.proofs.Common.{◌≡◌, ℕ, suc, ◌+◌, max, true, List, [], ◌∷◌, ◌++◌, Some, None, refl, sym, ap, ◌∙◌, subst, append_assoc, append-nil, arith}
use Rattle.sr_ast.specs.declared.tree.Node.TheVariants as node
use Rattle.sr_syntax.specs.declared.sorts.Sort.TheVariants as k
use Rattle.sr_syntax.specs.declared.sorts.Lexeme.{Lexeme}
use Rattle.sr_syntax.specs.declared.grown.Grown.{Grown}
use Rattle.sr_syntax.specs.Operators.{tallest}
use Rattle.sr_syntax.specs.Statements.{condition, if_else, if_, do_while, do_, while_}
use Rattle.sr_syntax.specs.Grammar.{tree}
use Rattle.sr_grammar.specs.Derivations.{Derives, Expression, Condition, States}
use Rattle.sr_grammar.specs.Derivations as g
use Rattle.sr_grammar.specs.Reading.{end_after}
use Rattle.sr_grammar.proofs.Steps.{Fact, Fault, Any, Parses, Both, both, Either, first, second, Never, Eaten, ate, absent, Expected, expected, Here, here, Chosen, yes, no, ChosenFault, yes_fault, no_fault, Completed, completed, completing, map, then_any, eaten, expecting, choose_any, not_both, end_append}
use Rattle.sr_grammar.proofs.Depths.{lift_condition, lift_states}
use Rattle.sr_grammar.proofs.Facts.{Derived, derived, Mapped, mapped, mapping, Closed, closed, closing, Start, token, Stood, OpenedOne, opened_one, StartOne}
use Rattle.sr_grammar.proofs.Followed.{same_first, states_before}
use Rattle.sr_grammar.proofs.Lists.{Nested, expressions}
use Rattle.sr_grammar.proofs.Targets.{a_name}
use Rattle.sr_grammar.proofs.Beginnings.{Begun, carry, begun_whole}
use Rattle.sr_grammar.proofs.Standing.{Calm, carry_in, begun_calm, calm_no, no_statement, started, begun_at, Wanted, at_nothing, some_expression, Behind, BehindFault, completed_behind}
use Rattle.sr_grammar.proofs.Calms.{calms, behind_two}
use Rattle.sr_grammar.proofs.Sorts.{end_no_else, end_no_left_parenthesis, end_no_right_parenthesis, end_no_semicolon, end_no_while}

-- ---- conditions

pub data Conditional (d l n : ℕ) (us ts : List Lexeme) (x : Grown) : Type 0 where
  conditional : Condition d us x → Conditional d l n us ts x

condition_fact : {d l n : ℕ} {us ts : List Lexeme} {x : Grown}
    → Both (Expected k.LeftParenthesis) (λ u. Both (Derived d (Expression true)) (λ x. Mapped (Expected k.RightParenthesis) (λ u. x))) l n us ts x → Conditional d l n us ts x
condition_fact {d} {l} {n} (both (expected t c) (both {us = us} (derived h b) (mapped v (expected {ts} u e) is))) =
    subst (λ y. Conditional d l n (t ∷ (us ++ u ∷ [])) ts y) (sym is) (conditional (g.condition t c h u e))

-- a name in parentheses
some_condition : Condition 4 (token k.LeftParenthesis ∷ token k.Identifier ∷ token k.RightParenthesis ∷ []) a_name
some_condition = g.condition {us = token k.Identifier ∷ []} (token k.LeftParenthesis) refl (some_expression true) (token k.RightParenthesis) refl

condition_end : (e : ℕ) (us : List Lexeme) (x : Grown) (t : Lexeme) → t.sort ≡ k.LeftParenthesis → Derives e (Expression true) us x → Begun Condition (t ∷ us)
condition_end e us x t c h = record { depth = e; more = token k.RightParenthesis ∷ []; made = x; has = g.condition t c h (token k.RightParenthesis) refl }

condition_fault : {d l n : ℕ} {us ts : List Lexeme}
    → Either Here (Expected k.LeftParenthesis) (λ u. Either (Start (Expression true)) (Derived d (Expression true)) (λ x. Here)) l n us ts → Begun Condition us
condition_fault (first here) = record { depth = 4; more = _; made = a_name; has = some_condition }
condition_fault (second (expected t c) (first s)) = carry (t ∷ []) (λ e vs x h. condition_end e vs x t c h) (begun_at s)
condition_fault {d} (second (expected t c) (second {us = us} {x = x} (derived h b) here)) = at_nothing (condition_end d us x t c h)

pub conditions : (d : ℕ) → Nested d → Parses (λ e. condition (tree e)) d Any (Conditional d) (Wanted Condition)
unfolding condition
conditions d nest = map (λ l n us ts x r. condition_fact r) (λ l n us ts r. condition_fault r)
    (then_any (expecting k.LeftParenthesis end_no_left_parenthesis) (λ u. then_any (expressions true d nest) (λ x. mapping (expecting k.RightParenthesis end_no_right_parenthesis) (λ u. x))))

-- ---- if

abbrev IfFact : ℕ → ℕ → Fact Grown
IfFact d from = Both (Conditional d) (λ x. Both (OpenedOne States d) (λ y. Both (Eaten k.Else) (λ b. Chosen b
    (Closed (OpenedOne States d) (λ z. node.If x.tree y.tree (Some z.tree)) (λ z. from) (λ z. tallest x.height y.height z.height))
    (Completed (node.If x.tree y.tree None) from (max x.height y.height)))))

if_fact : {d l n : ℕ} {us ts : List Lexeme} {x : Grown} (from : ℕ) → IfFact d from l n us ts x → Behind States d from k.If l n us ts x
if_fact {l = l} from (both {us = us} {x = x} (conditional c) (both {us = vs} {x = y} (opened_one h b) (both {vs = ws} (ate u q i) (yes f (closed z (opened_one j r) fits is))))) = λ t v o at.
    completed_behind t o at fits is (sym (end_append l us (vs ++ u ∷ ws) ∙ end_append (end_after l us) vs (u ∷ ws))) (g.if_else t v c u h q j)
if_fact from (both c (both h (both (ate u q i) (no f r)))) = absurd (not_both i f)
if_fact from (both c (both h (both (absent i o) (yes f r)))) = absurd (not_both f i)
if_fact {d} {l} {n} {x = p} from (both {us = us} {x = x} (conditional c) (both {us = vs} {x = y} (opened_one h b) (both (absent i o) (no f (completed {ts} fits is))))) = λ t v q at.
    subst (λ zs. Stood States d l n (t ∷ (us ++ zs)) ts p) (sym (append-nil vs))
    (completed_behind t q at fits is (sym (end_append l us vs)) (g.if_alone t v c h o))

abbrev IfFault : ℕ → Fault
IfFault d = Either (Wanted Condition) (Conditional d) (λ x. Either (StartOne States) (OpenedOne States d) (λ y. Either Never (Eaten k.Else) (λ b. ChosenFault b (StartOne States) Never)))

if_fault : {d l n : ℕ} {us ts : List Lexeme} → IfFault d l n us ts → BehindFault States k.If l n us ts
if_fault (first b) = λ t v. carry (t ∷ []) (λ e vs x h. begun_calm (suc e) (t ∷ vs) (token k.Semicolon ∷ []) _ (λ ts calm.
    g.if_alone t v (lift_condition e (suc e) (omega arith) h) no_statement (calm_no k.Else refl ts calm))) b
if_fault {d} (second {us = us} (conditional c) (first s)) = λ t v. carry (t ∷ us) (λ e vs y h. begun_whole (suc (d + e)) (t ∷ (us ++ vs)) _ (λ ts calm.
    g.if_alone t v (lift_condition d (suc (d + e)) (omega arith) c) (lift_states e (d + e) (omega arith) (h ts calm)) (calm_no k.Else refl ts calm))) (started s)
if_fault (second c (second h (first r))) = elim r [ ]
if_fault (second {us = us} (conditional c) (second {us = vs} (opened_one {d} h b) (second (ate u q i) (yes_fault f s)))) = λ t v.
    carry_in (λ zs. t ∷ (us ++ (vs ++ u ∷ zs))) (λ ws zs. behind_two us vs ws zs t u) (λ m zs z j. begun_whole (suc (d + m)) (t ∷ (us ++ (vs ++ u ∷ zs))) _ (λ ts calm.
    g.if_else t v (lift_condition (suc d) (suc (d + m)) (omega arith) c) u (lift_states d (d + m) (omega arith) (states_before (same_first refl) h)) q (lift_states m (d + m) (omega arith) (j ts calm)))) (started s)
if_fault (second c (second h (second (ate u q i) (no_fault f r)))) = elim r [ ]
if_fault (second c (second h (second (absent i o) (yes_fault f r)))) = absurd (not_both f i)
if_fault (second c (second h (second (absent i o) (no_fault f r)))) = elim r [ ]

pub ifs : (d : ℕ) → Nested d → (from : ℕ) → Parses (λ e. if_ (tree e) from) d Any (Behind States d from k.If) (BehindFault States k.If)
unfolding if_ if_else
ifs d nest from = map (λ l n us ts x r. if_fact from r) (λ l n us ts r. if_fault r)
    (then_any (conditions d nest) (λ x. then_any nest.statement (λ y. then_any (eaten k.Else end_no_else) (λ b. choose_any b
    (closing nest.statement (λ z. node.If x.tree y.tree (Some z.tree)) (λ z. from) (λ z. tallest x.height y.height z.height))
    (completing (node.If x.tree y.tree None) from (max x.height y.height))))))

-- ---- do

abbrev DoFact : ℕ → ℕ → Fact Grown
DoFact d from = Both (OpenedOne States d) (λ y. Both (Expected k.While) (λ u. Both (Conditional d) (λ x.
    Closed (Eaten k.Semicolon) (λ b. node.Do y.tree x.tree) (λ b. from) (λ b. max y.height x.height))))

do_fact : {d l n : ℕ} {us ts : List Lexeme} {x : Grown} (from : ℕ) → DoFact d from l n us ts x → Behind States d from k.Do l n us ts x
do_fact {l = l} from (both {us = us} {x = y} (opened_one {d} h b) (both (expected u c) (both {us = vs} {x = x} (conditional i) (closed r (ate {ts} v q e) fits is)))) = λ t w o at.
    completed_behind t o at fits is (sym (end_append l us (u ∷ (vs ++ v ∷ [])) ∙ end_append u.to vs (v ∷ [])))
    (g.do_ended t w u v (subst (λ zs. States d us (u ∷ zs) y) (append_assoc vs (v ∷ []) ts) h) c i q)
do_fact {l = l} {n = n} {x = p} from (both {us = us} {x = y} (opened_one {d} h b) (both (expected u c) (both {us = vs} {x = x} (conditional i) (closed r (absent {ts} e o) fits is)))) = λ t w q at.
    subst (λ zs. Stood States (suc d) l n (t ∷ (us ++ u ∷ zs)) ts p) (sym (append-nil vs))
    (completed_behind t q at fits is (sym (end_append l us (u ∷ vs)))
    (g.do_alone t w u (subst (λ zs. States d us (u ∷ (zs ++ ts)) y) (append-nil vs) h) c i o))

abbrev DoFault : ℕ → Fault
DoFault d = Either (StartOne States) (OpenedOne States d) (λ y. Either Here (Expected k.While) (λ u. Either (Wanted Condition) (Conditional d) (λ x. Never)))

-- a statement, and any condition
do_end : (e : ℕ) (us : List Lexeme) (y : Grown) → Calm States e us y → (t : Lexeme) → t.sort ≡ k.Do → Begun (Calm States) (t ∷ us)
do_end e us y h t v = begun_calm (suc (e + 4)) (t ∷ us) (token k.While ∷ token k.LeftParenthesis ∷ token k.Identifier ∷ token k.RightParenthesis ∷ []) _ (λ ts calm.
    g.do_alone t v (token k.While) (lift_states e (e + 4) (omega arith) (h _ refl)) refl (lift_condition 4 (suc (e + 4)) (omega arith) some_condition) (calm_no k.Semicolon refl ts calm))

do_fault : {d l n : ℕ} {us ts : List Lexeme} → DoFault d l n us ts → BehindFault States k.Do l n us ts
do_fault (first s) = λ t v. carry (t ∷ []) (λ e vs y h. do_end e vs y h t v) (started s)
do_fault (second (opened_one h b) (first here)) = λ t v. at_nothing (carry (t ∷ []) (λ e vs y h. do_end e vs y h t v) (calms h))
do_fault (second {us = us} (opened_one {d} h b) (second (expected u c) (first r))) = λ t v.
    carry_in (λ zs. t ∷ (us ++ u ∷ zs)) (λ ws zs. ap (λ ys. t ∷ ys) (sym (append_assoc us (u ∷ ws) zs))) (λ m zs x i. begun_whole (suc (d + m)) (t ∷ (us ++ u ∷ zs)) _ (λ ts calm.
    g.do_alone t v u (lift_states d (d + m) (omega arith) (states_before (same_first refl) h)) c (lift_condition m (suc (d + m)) (omega arith) i) (calm_no k.Semicolon refl ts calm))) r
do_fault (second h (second w (second c r))) = elim r [ ]

pub dos : (d : ℕ) → Nested d → (from : ℕ) → Parses (λ e. do_ (tree e) from) d Any (Behind States d from k.Do) (BehindFault States k.Do)
unfolding do_ do_while
dos d nest from = map (λ l n us ts x r. do_fact from r) (λ l n us ts r. do_fault r)
    (then_any nest.statement (λ y. then_any (expecting k.While end_no_while) (λ u. then_any (conditions d nest) (λ x.
    closing (eaten k.Semicolon end_no_semicolon) (λ b. node.Do y.tree x.tree) (λ b. from) (λ b. max y.height x.height)))))

-- ---- while

while_fact : {d l n : ℕ} {us ts : List Lexeme} {x : Grown} (from : ℕ)
    → Both (Conditional d) (λ x. Closed (OpenedOne States d) (λ y. node.While x.tree y.tree) (λ y. from) (λ y. max x.height y.height)) l n us ts x → Behind States d from k.While l n us ts x
while_fact {l = l} from (both {us = us} {vs = vs} (conditional c) (closed y (opened_one h b) fits is)) = λ t v o at. completed_behind t o at fits is (sym (end_append l us vs)) (g.while t v c h)

while_fault : {d l n : ℕ} {us ts : List Lexeme} → Either (Wanted Condition) (Conditional d) (λ x. StartOne States) l n us ts → BehindFault States k.While l n us ts
while_fault (first b) = λ t v. carry (t ∷ []) (λ e vs x h. begun_calm (suc e) (t ∷ vs) (token k.Semicolon ∷ []) _ (λ ts calm.
    g.while t v (lift_condition e (suc e) (omega arith) h) no_statement)) b
while_fault {d} (second {us = us} (conditional c) s) = λ t v. carry (t ∷ us) (λ e vs y h. begun_whole (suc (d + e)) (t ∷ (us ++ vs)) _ (λ ts calm.
    g.while t v (lift_condition d (suc (d + e)) (omega arith) c) (lift_states e (d + e) (omega arith) (h ts calm)))) (started s)

pub whiles : (d : ℕ) → Nested d → (from : ℕ) → Parses (λ e. while_ (tree e) from) d Any (Behind States d from k.While) (BehindFault States k.While)
unfolding while_
whiles d nest from = map (λ l n us ts x r. while_fact from r) (λ l n us ts r. while_fault r)
    (then_any (conditions d nest) (λ x. closing nest.statement (λ y. node.While x.tree y.tree) (λ y. from) (λ y. max x.height y.height)))
