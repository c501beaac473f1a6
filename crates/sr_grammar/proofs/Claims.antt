-- What derives is read: for each symbol, before what cannot continue it.
use Rattle.std.proofs.Common.{◌≡◌, ℕ, zero, suc, ◌+◌, ◌≤◌, ◌<◌, max, Bool, true, false, List, [], ◌∷◌, ◌++◌, Option, None, Some, Ok, refl, sym, ap, ◌∙◌, subst, append_assoc, arith, ◌⊎◌, if◌then◌else◌}
use Rattle.sr_ast.specs.declared.operators.UnaryOp.{UnaryOp}
use Rattle.sr_ast.specs.declared.operators.UpdateOp.{UpdateOp}
use Rattle.sr_ast.specs.declared.tree.Node.{Node}
use Rattle.sr_ast.specs.declared.tree.Node.TheVariants as node
use Rattle.sr_syntax.specs.declared.sorts.Sort.TheVariants as k
use Rattle.sr_syntax.specs.declared.sorts.Sort.{Sort}
use Rattle.sr_syntax.specs.declared.sorts.Lexeme.{Lexeme}
use Rattle.sr_syntax.specs.declared.grown.Grown.{Grown}
use Rattle.sr_syntax.specs.declared.grown.Goal.TheVariants as goal
use Rattle.sr_syntax.specs.Input.{Outcome, Parser, ◌>>=◌, and_then, pure, expect, sort, sort_at, line_at, line_before, place, next, complete, refuse, text, number, text_of, number_of}
use Rattle.sr_syntax.specs.Operators.{prefix, is_prefix, is_prefix_of, update_before, update_after, bit_or_row, coalesce_row, joined_node, from_of, is_target, is_bare_new, steps, joined, row_from}
use Rattle.sr_syntax.specs.Expressions.{expression, parenthesized, primary_by, primary, parts_from, left_side, member_parts_from, constructor, new_, stepped, step_by, step_after, update_by, update, unary_by, unary_, raised, power, binary_, short_circuit, cond_, assign}
use Rattle.sr_syntax.specs.Grammar.{tree}
use Rattle.sr_grammar.specs.Derivations.{Symbol, Derives, Expression, Assign, Cond, Short, Coalesce, CoalesceHead, Row, Power, Unary, Update, Left, Chain, New, Constructor, Member, Primary, whole, joining}
use Rattle.sr_grammar.specs.Continuing.{looseness, Ends}
use Rattle.sr_grammar.proofs.Steps.{inp, done, ending, eat_is, expect_is, end_append, not_both}
use Rattle.sr_grammar.proofs.Gets.{Gets, gets_is, gets_to, gets_then, gets_trans, gets_whole, not_sort, no_update}
use Rattle.sr_grammar.proofs.Heads.{left_head, update_head}
use Rattle.sr_grammar.proofs.Completing.{Reads, Stands, is_sort, looser, loose_sort}
use Rattle.sr_grammar.specs.Reading.{end_after}
use Rattle.sr_grammar.proofs.Sorts.{end_no_power, power_self, right_parenthesis_self}

-- before what a condition does not continue, a target before an operator of an assignment too
abbrev pub EndsCond : Bool → Grown → List Lexeme → Type 0
EndsCond b x r = Ends b 15 r ⊎ ((is_target x ≡ true) × Ends b 14 r)

-- What is no target is read where `?.` may stand in it; a New without Arguments before what is no part.
abbrev pub Claim : ℕ → Symbol → List Lexeme → Grown → Type 0
Claim d (Expression b) us x = (r : List Lexeme) (l n : ℕ) → Ends b 16 r → Reads (expression (tree d) b) us x r l n
Claim d (Assign b) us x = (r : List Lexeme) (l n : ℕ) → Ends b 15 r → Reads (assign (tree d) b) us x r l n
Claim d (Cond b) us x = (r : List Lexeme) (l n : ℕ) → EndsCond b x r → Reads (cond_ (tree d) b) us x r l n
Claim d (Short b) us x = (r : List Lexeme) (l n : ℕ) → Ends b 13 r → Reads (short_circuit (tree d) b) us x r l n
Claim d (Coalesce b) us x = (r : List Lexeme) (l n : ℕ) → Ends b 10 r
    → Stands (short_circuit (tree d) b (inp (us ++ r) l n)) x.height (λ m. row_from b (binary_ (tree d) b bit_or_row) coalesce_row m x (inp r (end_after l us) n)) r
Claim d (CoalesceHead b) us x = (r : List Lexeme) (l n : ℕ) → sort_at r ≡ k.Coalesce
    → Stands (short_circuit (tree d) b (inp (us ++ r) l n)) x.height (λ m. row_from b (binary_ (tree d) b bit_or_row) coalesce_row m x (inp r (end_after l us) n)) r
Claim d (Row b zero) us x = (r : List Lexeme) (l n : ℕ) → Ends b 2 r → Reads (binary_ (tree d) b zero) us x r l n
Claim d (Row b (suc level)) us x = (r : List Lexeme) (l n : ℕ) → Ends b (2 + level) r
    → Stands (binary_ (tree d) b (suc level) (inp (us ++ r) l n)) x.height (λ m. row_from b (binary_ (tree d) b level) (suc level) m x (inp r (end_after l us) n)) r
Claim d Power us x = (r : List Lexeme) (l n : ℕ) → Ends false 2 r → Reads (power (tree d)) us x r l n
Claim d Unary us x = (r : List Lexeme) (l n : ℕ) → Ends false 1 r → Reads (unary_ (tree d)) us x r l n
Claim d Update us x = (r : List Lexeme) (l n : ℕ) → Ends false 1 r → Reads (update (tree d)) us x r l n
Claim d Left us x = (o : Bool) → (is_target x ≡ false → o ≡ true) → (r : List Lexeme) (l n : ℕ) → Ends false 0 r → Reads (left_side (tree d) o) us x r l n
Claim d (Chain c) us x = (o : Bool) → (c ≡ true → o ≡ true) → (r : List Lexeme) (l n : ℕ)
    → Stands (left_side (tree d) o (inp (us ++ r) l n)) x.height (λ m. parts_from (tree d) o m c x (inp r (end_after l us) n)) r
Claim d New us x = (r : List Lexeme) (l n : ℕ) → (is_bare_new x ≡ true → Ends false 0 r) → Reads (new_ (tree d)) us x r l n
Claim d Constructor us x = (r : List Lexeme) (l n : ℕ) → Ends false 0 r → Reads (constructor (tree d)) us x r l n
Claim d Member us x = (r : List Lexeme) (l n : ℕ)
    → Stands (constructor (tree d) (inp (us ++ r) l n)) x.height (λ m. member_parts_from (tree d) m x (inp r (end_after l us) n)) r
Claim d Primary us x = (r : List Lexeme) (l n : ℕ) → Reads (primary (tree d)) us x r l n

-- ---- places

pub stands_move : {A : Type 0} {o : Outcome A} {h : ℕ} {r : List Lexeme} (F : ℕ → ℕ → ℕ → Outcome A) (e a b : ℕ) → e ≡ a → e ≡ b → Stands o h (λ m. F e e m) r → Stands o h (λ m. F a b m) r
stands_move {A} {o} {h} {r} F e a b p q s = subst (λ c. Stands o h (λ m. F a c m) r) q (subst (λ c. Stands o h (λ m. F c e m) r) p s)

pub gets_move : {A : Type 0} {o : Outcome A} {h : ℕ} (F : ℕ → ℕ → Outcome A) (e a b : ℕ) → e ≡ a → e ≡ b → Gets o h (F e e) → Gets o h (F a b)
gets_move {A} {o} {h} F e a b p q s = subst (λ c. Gets o h (F a c)) q (subst (λ c. Gets o h (F c e)) p s)

pub end_at : (l : ℕ) (us vs : List Lexeme) (t : Lexeme) → end_after t.to vs ≡ end_after l (us ++ t ∷ vs)
end_at l us vs t = sym (end_append l us (t ∷ vs))

-- ---- primaries

pub primary_is : (d : ℕ) (t : Lexeme) (r : List Lexeme) (l n : ℕ) (s : Sort) → t.sort ≡ s → primary (tree d) (inp (t ∷ r) l n) ≡ primary_by (tree d) t.from s (inp (t ∷ r) l n)
unfolding primary sort place
primary_is d t r l n s c = ap (λ a. primary_by (tree d) t.from a (inp (t ∷ r) l n)) c

module _ (d : ℕ) (t : Lexeme) (r : List Lexeme) (l n : ℕ) where
  leaf_reads : (nd : Node) → primary (tree d) (inp (t ∷ r) l n) ≡ complete nd t.from 0 (inp r t.to n) → Reads (primary (tree d)) (t ∷ []) (whole nd t.from (t ∷ []) 0) r l n
  leaf_reads nd e = gets_is (complete nd t.from 0 (inp r t.to n)) e (gets_whole nd t.from 0 r t.to n)

  pub name_reads : t.sort ≡ k.Identifier → Reads (primary (tree d)) (t ∷ []) (whole (node.Name (text_of t.content)) t.from (t ∷ []) 0) r l n
  unfolding text next
  name_reads c = leaf_reads (node.Name (text_of t.content)) (primary_is d t r l n k.Identifier c)

  pub this_reads : t.sort ≡ k.This → Reads (primary (tree d)) (t ∷ []) (whole node.This t.from (t ∷ []) 0) r l n
  unfolding next
  this_reads c = leaf_reads node.This (primary_is d t r l n k.This c)

  pub null_reads : t.sort ≡ k.Null → Reads (primary (tree d)) (t ∷ []) (whole node.Null t.from (t ∷ []) 0) r l n
  unfolding next
  null_reads c = leaf_reads node.Null (primary_is d t r l n k.Null c)

  pub true_reads : t.sort ≡ k.True → Reads (primary (tree d)) (t ∷ []) (whole (node.Bool true) t.from (t ∷ []) 0) r l n
  unfolding next
  true_reads c = leaf_reads (node.Bool true) (primary_is d t r l n k.True c)

  pub false_reads : t.sort ≡ k.False → Reads (primary (tree d)) (t ∷ []) (whole (node.Bool false) t.from (t ∷ []) 0) r l n
  unfolding next
  false_reads c = leaf_reads (node.Bool false) (primary_is d t r l n k.False c)

  pub number_reads : t.sort ≡ k.Number → Reads (primary (tree d)) (t ∷ []) (whole (node.Num (number_of t.content)) t.from (t ∷ []) 0) r l n
  unfolding number next
  number_reads c = leaf_reads (node.Num (number_of t.content)) (primary_is d t r l n k.Number c)

  pub text_reads : t.sort ≡ k.Text → Reads (primary (tree d)) (t ∷ []) (whole (node.Text (text_of t.content)) t.from (t ∷ []) 0) r l n
  unfolding text next
  text_reads c = leaf_reads (node.Text (text_of t.content)) (primary_is d t r l n k.Text c)

pub parenthesized_reads : (d : ℕ) (t u : Lexeme) (us : List Lexeme) (x : Grown) → t.sort ≡ k.LeftParenthesis → Claim d (Expression true) us x → u.sort ≡ k.RightParenthesis → Claim d Primary (t ∷ (us ++ u ∷ [])) x
unfolding parenthesized next
parenthesized_reads d t u us x c h e r l n =
    let inner = h (u ∷ r) t.to n (loose_sort true u k.RightParenthesis 16 e (λ line. omega arith) r) in
    let f : Grown → Parser Grown = λ x. expect k.RightParenthesis >>= (λ v. pure x) in
    let after_ : f x (inp (u ∷ r) (end_after t.to us) n) ≡ done x (inp r u.to n) =
    ap (λ o. and_then o (λ v. pure x)) (expect_is k.RightParenthesis (u ∷ r) (end_after t.to us) n true (is_sort k.RightParenthesis u.sort e right_parenthesis_self)) in
    gets_is (primary_by (tree d) t.from k.LeftParenthesis (inp (t ∷ ((us ++ u ∷ []) ++ r)) l n)) (primary_is d t ((us ++ u ∷ []) ++ r) l n k.LeftParenthesis c)
    (subst (λ zs. Gets (and_then (expression (tree d) true (inp zs t.to n)) f) x.height (done x (inp r (end_after t.to (us ++ u ∷ [])) n))) (sym (append_assoc us (u ∷ []) r))
    (gets_to (gets_then inner f) (after_ ∙ ap (λ m. done x (inp r m n)) (end_at t.to us [] u))))

-- ---- `++` and `--`

update_is : (d : ℕ) (ts : List Lexeme) (l n : ℕ) (o : Option UpdateOp) → update_before (sort_at ts) ≡ o → update (tree d) (inp ts l n) ≡ update_by (tree d) (place (inp ts l n)) o (inp ts l n)
unfolding update sort
update_is d ts l n o e = ap (λ o. update_by (tree d) (place (inp ts l n)) o (inp ts l n)) e

pub before_reads : (d : ℕ) (us : List Lexeme) (t : Lexeme) (x : Grown) (op : UpdateOp) → update_before t.sort ≡ Some op → Claim d Left us x → is_target x ≡ true
    → Claim d Update (t ∷ us) (whole (node.Update op x.tree) t.from (t ∷ us) x.height)
unfolding stepped next place
before_reads d us t x op c h is r l n e =
    let f : Grown → Parser Grown = λ of. if is_target of then complete (node.Update op of.tree) t.from of.height else refuse in
    gets_is (stepped (tree d) t.from op (inp (us ++ r) t.to n)) (update_is d (t ∷ (us ++ r)) l n (Some op) c)
    (gets_trans x.height (x.height + 1) (omega arith) (gets_then (h false (λ no. absurd (not_both is no)) r t.to n (looser false 0 1 (omega arith) r e)) f)
    (gets_is (complete (node.Update op x.tree) t.from x.height (inp r (end_after t.to us) n))
    (ap (λ b. (if b then complete (node.Update op x.tree) t.from x.height else refuse) (inp r (end_after t.to us) n)) is)
    (gets_whole (node.Update op x.tree) t.from x.height r (end_after t.to us) n)))

-- what stands behind a target
steps_is : (x : Grown) (r : List Lexeme) (l n : ℕ) (op : UpdateOp) → is_target x ≡ true → line_at r ≡ false → update_after (sort_at r) ≡ Some op → steps x (inp r l n) ≡ Some op
unfolding steps line_before sort
steps_is x r l n op is line c = rw is (rw line c)

steps_none : (x : Grown) (r : List Lexeme) (l n bound : ℕ) → 1 ≤ bound → Ends false bound r → steps x (inp r l n) ≡ None
unfolding steps line_before sort
steps_none x r l n bound low e = go (is_target x) refl
  where
    go : (b : Bool) → is_target x ≡ b → steps x (inp r l n) ≡ None
    go true is = rw is (no_update false bound low r e)
    go false is = rw is refl

-- an operator behind its operand continues no Left
step_ends : (t : Lexeme) (op : UpdateOp) → update_after t.sort ≡ Some op → (r : List Lexeme) → Ends false 0 (t ∷ r)
step_ends t op c r = go t.sort t.line_before c
  where
    go : (s : Sort) (line : Bool) → update_after s ≡ Some op → 0 < looseness false line s
    go k.Increment true h = omega arith
    go k.Increment false h = omega arith
    go k.Decrement true h = omega arith
    go k.Decrement false h = omega arith
    go _ line h = cc

pub after_reads : (d : ℕ) (us : List Lexeme) (t : Lexeme) (x : Grown) (op : UpdateOp) → Derives d Left us x → Claim d Left us x → is_target x ≡ true → update_after t.sort ≡ Some op → t.line_before ≡ false
    → Claim d Update (us ++ t ∷ []) (whole (node.Update op x.tree) (from_of x) (us ++ t ∷ []) x.height)
unfolding step_after next
after_reads d us t x op derives h is c line r l n e =
    let of = h true (λ no. refl) (t ∷ r) l n (step_ends t op c r) in
    let f : Grown → Parser Grown = λ of. (λ i. Ok (steps of i, i)) >>= (λ op. step_by (tree d) of op) in
    let made : Gets (f x (inp (t ∷ r) (end_after l us) n)) (x.height + 1) (done (ending (node.Update op x.tree) (from_of x) t.to x.height) (inp r t.to n)) =
    gets_is (complete (node.Update op x.tree) (from_of x) x.height (inp r t.to n)) (ap (λ o. step_by (tree d) x o (inp (t ∷ r) (end_after l us) n)) (steps_is x (t ∷ r) (end_after l us) n op is line c))
    (gets_whole (node.Update op x.tree) (from_of x) x.height r t.to n) in
    gets_is (step_after (tree d) (inp ((us ++ t ∷ []) ++ r) l n)) (update_is d ((us ++ t ∷ []) ++ r) l n None (subst (λ zs. update_before (sort_at zs) ≡ None) (sym (append_assoc us (t ∷ []) r)) (left_head derives (t ∷ r)).update))
    (subst (λ zs. Gets (step_after (tree d) (inp zs l n)) (x.height + 1) (done (whole (node.Update op x.tree) (from_of x) (us ++ t ∷ []) x.height) (inp r (end_after l (us ++ t ∷ [])) n))) (sym (append_assoc us (t ∷ []) r))
    (gets_move (λ a b. done (ending (node.Update op x.tree) (from_of x) a x.height) (inp r b n)) t.to (end_after 0 (us ++ t ∷ [])) (end_after l (us ++ t ∷ [])) (end_at 0 us [] t) (end_at l us [] t)
    (gets_trans x.height (x.height + 1) (omega arith) (gets_then of f) made)))

pub no_step_reads : (d : ℕ) (us : List Lexeme) (x : Grown) → Derives d Left us x → Claim d Left us x → Claim d Update us x
unfolding step_after
no_step_reads d us x derives h r l n e =
    let f : Grown → Parser Grown = λ of. (λ i. Ok (steps of i, i)) >>= (λ op. step_by (tree d) of op) in
    gets_is (step_after (tree d) (inp (us ++ r) l n)) (update_is d (us ++ r) l n None (left_head derives r).update)
    (gets_to (gets_then (h true (λ no. refl) r l n (looser false 0 1 (omega arith) r e)) f)
    (ap (λ o. step_by (tree d) x o (inp r (end_after l us) n)) (steps_none x r (end_after l us) n 1 (omega arith) e)))

-- ---- operators before their operands

unary_is : (d : ℕ) (ts : List Lexeme) (l n : ℕ) (o : Option UnaryOp) → prefix (sort_at ts) ≡ o → unary_ (tree d) (inp ts l n) ≡ unary_by (tree d) (place (inp ts l n)) o (inp ts l n)
unfolding unary_ sort
unary_is d ts l n o e = ap (λ o. unary_by (tree d) (place (inp ts l n)) o (inp ts l n)) e

pub unary_reads : (d : ℕ) (us : List Lexeme) (t : Lexeme) (x : Grown) (op : UnaryOp) → prefix t.sort ≡ Some op → Claim d Unary us x → Claim (suc d) Unary (t ∷ us) (whole (node.Unary op x.tree) t.from (t ∷ us) x.height)
unfolding next place tree
unary_reads d us t x op c h r l n e =
    let f : Grown → Parser Grown = λ x. complete (node.Unary op x.tree) t.from x.height in
    gets_is (and_then (unary_ (tree d) (inp (us ++ r) t.to n)) f) (unary_is (suc d) (t ∷ (us ++ r)) l n (Some op) c)
    (gets_trans x.height (x.height + 1) (omega arith) (gets_then (h r t.to n e) f) (gets_whole (node.Unary op x.tree) t.from x.height r (end_after t.to us) n))

pub no_operator_reads : (d : ℕ) (us : List Lexeme) (x : Grown) → Derives d Update us x → Claim d Update us x → Claim d Unary us x
no_operator_reads d us x derives h r l n e = gets_is (update (tree d) (inp (us ++ r) l n)) (unary_is d (us ++ r) l n None (update_head derives r)) (h r l n e)

-- ---- powers

raised_ends : (d : ℕ) (x : Grown) (b : Bool) (r : List Lexeme) (l n : ℕ) → Ends false 2 r → (if b then pure x else raised (tree d) x) (inp r l n) ≡ done x (inp r l n)
unfolding raised
raised_ends d x true r l n e = refl
raised_ends d x false r l n e =
    ap (λ o. and_then o (λ is_raised. if is_raised then (tree d goal.Power >>= (λ y. joined k.Power x y)) else pure x)) (eat_is k.Power r l n false (not_sort false k.Power 2 end_no_power (λ line. omega arith) r e))

pub unraised_reads : (d : ℕ) (us : List Lexeme) (x : Grown) → Claim d Unary us x → Claim (suc d) Power us x
unfolding power tree sort
unraised_reads d us x h r l n e =
    let s = sort_at (us ++ r) in
    let f : Grown → Parser Grown = λ x. if is_prefix s then pure x else raised (tree (suc d)) x in
    gets_to (gets_then (h r l n (looser false 1 2 (omega arith) r e)) f) (raised_ends (suc d) x (is_prefix s) r (end_after l us) n e)

power_goes : (d : ℕ) (x : Grown) (t : Lexeme) (ts : List Lexeme) (l n : ℕ) → t.sort ≡ k.Power → raised (tree d) x (inp (t ∷ ts) l n) ≡ and_then (tree d goal.Power (inp ts t.to n)) (λ y. joined k.Power x y)
unfolding raised next
power_goes d x t ts l n c =
    ap (λ o. and_then o (λ is_raised. if is_raised then (tree d goal.Power >>= (λ y. joined k.Power x y)) else pure x)) (eat_is k.Power (t ∷ ts) l n true (is_sort k.Power t.sort c power_self))

no_prefix : (s : Sort) → prefix s ≡ None → is_prefix s ≡ false
unfolding is_prefix
no_prefix s e = ap is_prefix_of e

pub raised_reads : (d : ℕ) (us vs : List Lexeme) (t : Lexeme) (x y : Grown) → Derives d Update us x → Claim d Update us x → t.sort ≡ k.Power → Claim d Power vs y
    → Claim (suc d) Power (us ++ t ∷ vs) (joining t x y (us ++ t ∷ vs))
unfolding power tree sort joined
raised_reads d us vs t x y derives h c i r l n e =
    let ts = t ∷ (vs ++ r) in
    let s = sort_at (us ++ ts) in
    let f : Grown → Parser Grown = λ x. if is_prefix s then pure x else raised (tree (suc d)) x in
    let loose : Ends false 1 ts = omega (arith, ap (λ s. looseness false t.line_before s) c) in
    let base = no_operator_reads d us x derives h ts l n loose in
    let tall = max x.height y.height in
    let is : f x (inp ts (end_after l us) n) ≡ and_then (power (tree d) (inp (vs ++ r) t.to n)) (λ y. joined k.Power x y) =
    ap (λ b. (if b then pure x else raised (tree (suc d)) x) (inp ts (end_after l us) n)) (no_prefix s (update_head derives ts)) ∙ power_goes (suc d) x t (vs ++ r) (end_after l us) n c in
    let made : Gets (f x (inp ts (end_after l us) n)) (tall + 1) (done (ending (joined_node k.Power x.tree y.tree) (from_of x) (end_after t.to vs) tall) (inp r (end_after t.to vs) n)) =
    gets_is (and_then (power (tree d) (inp (vs ++ r) t.to n)) (λ y. joined k.Power x y)) is
    (gets_trans y.height (tall + 1) (omega arith) (gets_then (i r t.to n e) (λ y. joined k.Power x y)) (gets_whole (joined_node k.Power x.tree y.tree) (from_of x) tall r (end_after t.to vs) n)) in
    let known : ending (joined_node k.Power x.tree y.tree) (from_of x) (end_after t.to vs) tall ≡ ending (joined_node t.sort x.tree y.tree) (from_of x) (end_after t.to vs) tall =
    ap (λ s. ending (joined_node s x.tree y.tree) (from_of x) (end_after t.to vs) tall) (sym c) in
    subst (λ zs. Gets (power (tree (suc d)) (inp zs l n)) (tall + 1) (done (joining t x y (us ++ t ∷ vs)) (inp r (end_after l (us ++ t ∷ vs)) n))) (sym (append_assoc us (t ∷ vs) r))
    (gets_move (λ a b. done (ending (joined_node t.sort x.tree y.tree) (from_of x) a tall) (inp r b n)) (end_after t.to vs) (end_after 0 (us ++ t ∷ vs)) (end_after l (us ++ t ∷ vs)) (end_at 0 us vs t) (end_at l us vs t)
    (gets_to (gets_trans x.height (tall + 1) (omega arith) (gets_then base f) made) (ap (λ z. done z (inp r (end_after t.to vs) n)) known)))
