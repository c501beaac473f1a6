-- What derives is read: rows, conditions, assignments and lists.
use Rattle.std.proofs.Common.{◌≡◌, ℕ, zero, suc, ◌+◌, ◌<◌, max, Bool, true, false, List, [], ◌∷◌, ◌++◌, length, None, Some, Ok, Err, refl, sym, ap, ◌∙◌, subst, append_assoc, arith, inl, inr, if◌then◌else◌, nat_lt}
use Rattle.std.proofs.Math.Dec.{eqb-zero-suc}
use Rattle.std.proofs.lemmas.Bool.{ltb-true, ltb-false}
use Rattle.sr_ast.specs.declared.operators.AssignOp.{AssignOp}
use Rattle.sr_ast.specs.declared.tree.Node.TheVariants as node
use Rattle.sr_ast.specs.declared.tree.Node as tree_of
use denote.Hole.Carrier as hole
use Rattle.sr_syntax.specs.declared.sorts.Sort.TheVariants as k
use Rattle.sr_syntax.specs.declared.sorts.Sort.{Sort}
use Rattle.sr_syntax.specs.declared.sorts.Lexeme.{Lexeme}
use Rattle.sr_syntax.specs.declared.grown.Grown.{Grown}
use Rattle.sr_syntax.specs.declared.grown.Grove.{Grove}
use Rattle.sr_syntax.specs.declared.refusal.Refusal.TheVariants.{TooDeep}
use Rattle.sr_syntax.specs.Sorts.{same_sort}
use Rattle.sr_syntax.specs.Input.{Input, Outcome, Parser, ◌>>=◌, and_then, pure, eat, expect, sees, sort, sort_at, ahead, place, place_at, left, next, complete, max_depth}
use Rattle.sr_syntax.specs.Operators.{row, admits, is_in, assignment, assign_goal, bit_or_row, and_row, or_row, coalesce_row, joined_node, from_of, is_target, gives_name, assigns, tallest, none, with, row_from, row_of}
use Rattle.sr_syntax.specs.Expressions.{sequence_from, sequence, expression, binary_, either, short_circuit, otherwise, chosen, cond_, assign_by, assign_or_cond, assign}
use Rattle.sr_syntax.specs.Bodies.{begins_arrow}
use Rattle.sr_syntax.specs.Grammar.{tree}
use Rattle.sr_grammar.specs.Names.{is_arrow}
use Rattle.sr_grammar.specs.Derivations.{Derives, Expression, Assign, Cond, Short, Coalesce, CoalesceHead, Row, Power, start_of, whole, joining}
use Rattle.sr_grammar.specs.Continuing.{looseness, Ends}
use Rattle.sr_grammar.proofs.Steps.{inp, done, ending, eat_is, expect_is, not_both, same_sort_true, along}
use Rattle.sr_grammar.proofs.Starting.{place_of, some_tokens}
use Rattle.sr_grammar.proofs.Gets.{Gets, gets_is, gets_to, gets_then, gets_trans, gets_max, gets_at, gets_whole, not_sort, row_looseness, not_in, assignment_looseness, no_assignment}
use Rattle.sr_grammar.proofs.Completing.{Reads, Stands, stands_then, tail_fits, is_sort, looser, without_in, loose_sort, nest_assign, row_ends, row_goes, sequence_ends, sequence_goes}
use Rattle.sr_grammar.proofs.Claims.{Claim, EndsCond, stands_move, gets_move, end_at}
use Rattle.sr_grammar.specs.Reading.{end_after}
use Rattle.sr_grammar.proofs.Sorts.{coalesce_self, colon_self, comma_self, end_no_coalesce, end_no_comma, end_no_question, question_self}

-- ---- rows

real_level : (b : Bool) (level : ℕ) → is_in b (suc level) k.End ≡ false
unfolding is_in
real_level b level = rw (eqb-zero-suc level) refl

pub operand_reads : (b : Bool) (d : ℕ) (us : List Lexeme) (x : Grown) → Claim d Power us x → Claim (suc d) (Row b zero) us x
unfolding binary_ tree
operand_reads b d us x h r l n e = h r l n (without_in b 2 r e)

-- a row before what none of its operators is
row_whole : (b : Bool) (d level : ℕ) (us : List Lexeme) (x : Grown) → Claim d (Row b level) us x → (r : List Lexeme) (l n : ℕ) → Ends b (2 + level) r → Reads (binary_ (tree d) b level) us x r l n
row_whole b d zero us x h r l n e = h r l n e
row_whole b d (suc level) us x h r l n e =
    let s = h r l n (looser b (2 + level) (2 + suc level) (omega arith) r e) in
    gets_to s.gets (row_ends b (binary_ (tree d) b level) (suc level) s.turns x r (end_after l us) n (not_in b level (2 + suc level) (omega arith) r (real_level b level) e))

pub tighter_reads : (b : Bool) (d level : ℕ) (us : List Lexeme) (x : Grown) → Claim d (Row b level) us x → Claim d (Row b (suc level)) us x
unfolding binary_ row_of left
tighter_reads b d level us x h r l n e = record { turns = length r; enough = omega arith; gets = gets_then (row_whole b d level us x h r l n e) (row_of b (binary_ (tree d) b level) (suc level)) }

pub binary_reads : (b : Bool) (d level : ℕ) (us vs : List Lexeme) (t : Lexeme) (x y : Grown) → Claim d (Row b (suc level)) us x → row t.sort ≡ suc level → admits b t.sort ≡ true → Claim d (Row b level) vs y
    → Claim d (Row b (suc level)) (us ++ t ∷ vs) (joining t x y (us ++ t ∷ vs))
binary_reads b d level us vs t x y h c a i r l n e =
    let loose : 2 + level < looseness b t.line_before t.sort = omega (arith, row_looseness b t.line_before t.sort level c a) in
    subst (λ zs. Stands (binary_ (tree d) b (suc level) (inp zs l n)) (max x.height y.height + 1) (λ m. row_from b (binary_ (tree d) b level) (suc level) m (joining t x y (us ++ t ∷ vs)) (inp r (end_after l (us ++ t ∷ vs)) n)) r)
    (sym (append_assoc us (t ∷ vs) r))
    (stands_move (λ at to m. row_from b (binary_ (tree d) b level) (suc level) m (ending (joined_node t.sort x.tree y.tree) (from_of x) at (max x.height y.height)) (inp r to n))
    (end_after t.to vs) (end_after 0 (us ++ t ∷ vs)) (end_after l (us ++ t ∷ vs)) (end_at 0 us vs t) (end_at l us vs t)
    (stands_then (max x.height y.height + 1) (omega arith) (h (t ∷ (vs ++ r)) l n loose)
    (λ m far. row_goes b (binary_ (tree d) b level) (suc level) m x y t (vs ++ r) r (end_after l us) n (end_after t.to vs) far c a (tail_fits vs r) (row_whole b d level vs y i r t.to n e))))

-- ---- `??`

coalesce_admitted : (b : Bool) (s : Sort) → s ≡ k.Coalesce → admits b s ≡ true
unfolding same_sort
coalesce_admitted true s c = refl
coalesce_admitted false s c = ap (admits false) c

pub coalesce_ends : (b : Bool) (r : List Lexeme) → sort_at r ≡ k.Coalesce → Ends b 10 r
coalesce_ends b [] c = tt
coalesce_ends b (t ∷ ts) c = omega (arith, row_looseness b t.line_before t.sort 10 (ap row c) (coalesce_admitted b t.sort c))

pub head_reads : (b : Bool) (d : ℕ) (us : List Lexeme) (x : Grown) → Claim d (Row b bit_or_row) us x → Claim d (CoalesceHead b) us x
unfolding short_circuit row_of left sort
head_reads b d us x h r l n c =
    let f : Grown → Parser Grown = λ x i. (if same_sort (sort i) k.Coalesce then row_of b (binary_ (tree d) b bit_or_row) coalesce_row x else either (tree d) b x) i in
    let one = row_whole b d bit_or_row us x h r l n (coalesce_ends b r c) in
    record {
      turns = length r;
      enough = omega arith;
      gets = gets_to (gets_then one f) (ap (λ c. (if c then row_of b (binary_ (tree d) b bit_or_row) coalesce_row x else either (tree d) b x) (inp r (end_after l us) n)) (is_sort k.Coalesce (sort_at r) c coalesce_self));
    }

pub coalesce_reads : (b : Bool) (d : ℕ) (us vs : List Lexeme) (t : Lexeme) (x y : Grown) → Claim d (CoalesceHead b) us x → t.sort ≡ k.Coalesce → Claim d (Row b bit_or_row) vs y → Claim d (Coalesce b) (us ++ t ∷ vs) (joining t x y (us ++ t ∷ vs))
coalesce_reads b d us vs t x y h c i r l n e =
    subst (λ zs. Stands (short_circuit (tree d) b (inp zs l n)) (max x.height y.height + 1) (λ m. row_from b (binary_ (tree d) b bit_or_row) coalesce_row m (joining t x y (us ++ t ∷ vs)) (inp r (end_after l (us ++ t ∷ vs)) n)) r)
    (sym (append_assoc us (t ∷ vs) r))
    (stands_move (λ at to m. row_from b (binary_ (tree d) b bit_or_row) coalesce_row m (ending (joined_node t.sort x.tree y.tree) (from_of x) at (max x.height y.height)) (inp r to n))
    (end_after t.to vs) (end_after 0 (us ++ t ∷ vs)) (end_after l (us ++ t ∷ vs)) (end_at 0 us vs t) (end_at l us vs t)
    (stands_then (max x.height y.height + 1) (omega arith) (h (t ∷ (vs ++ r)) l n c)
    (λ m far. row_goes b (binary_ (tree d) b bit_or_row) coalesce_row m x y t (vs ++ r) r (end_after l us) n (end_after t.to vs) far (ap row c) (coalesce_admitted b t.sort c) (tail_fits vs r) (row_whole b d bit_or_row vs y i r t.to n e))))

pub coalesced_reads : (b : Bool) (d : ℕ) (us : List Lexeme) (x : Grown) → Claim d (Coalesce b) us x → Claim d (Short b) us x
coalesced_reads b d us x h r l n e =
    let s = h r l n (looser b 10 13 (omega arith) r e) in
    gets_to s.gets (row_ends b (binary_ (tree d) b bit_or_row) coalesce_row s.turns x r (end_after l us) n (not_in b 10 13 (omega arith) r (real_level b 10) e))

-- ---- `&&` and `||`

-- where no `??` comes after a row of `|`, a Short is read as a row of `||`
assoc_then : {A C D : Type 0} (o : Outcome A) (f : A → Parser C) (F : C → Parser D) → and_then (and_then o f) F ≡ and_then o (λ x i. and_then (f x i) F)
assoc_then (Ok p) f F = refl
assoc_then (Err e) f F = refl

no_row : (b : Bool) (level : ℕ) → is_in b level k.Coalesce ≡ false → (j : Input) → same_sort (sort j) k.Coalesce ≡ true → is_in b level (sort j) ≡ false
no_row b level h j e = ap (λ s. is_in b level s) (same_sort_true (sort j) k.Coalesce e) ∙ h

no_and : (b : Bool) → is_in b and_row k.Coalesce ≡ false
unfolding is_in
no_and b = refl

no_or : (b : Bool) → is_in b or_row k.Coalesce ≡ false
unfolding is_in
no_or b = refl

-- what follows the row of `|` where a `??` comes
stuck_rows : (b : Bool) (d : ℕ) (x : Grown) (j : Input) → same_sort (sort j) k.Coalesce ≡ true
    → and_then (row_of b (binary_ (tree d) b bit_or_row) and_row x j) (row_of b (binary_ (tree d) b and_row) or_row) ≡ done x j
unfolding row_of sort
stuck_rows b d x j e =
    ap (λ o. and_then o (row_of b (binary_ (tree d) b and_row) or_row)) (row_ends b (binary_ (tree d) b bit_or_row) and_row (left j) x j.rest j.last j.size (no_row b and_row (no_and b) j e))
    ∙ row_ends b (binary_ (tree d) b and_row) or_row (left j) x j.rest j.last j.size (no_row b or_row (no_or b) j e)

short_rows : (b : Bool) (d : ℕ) (i : Input) → ((x : Grown) (j : Input) → binary_ (tree d) b or_row i ≡ done x j → same_sort (sort j) k.Coalesce ≡ false) → short_circuit (tree d) b i ≡ binary_ (tree d) b or_row i
unfolding short_circuit either binary_
short_rows b d i h = go (binary_ (tree d) b bit_or_row i) refl
  where
    rows : Grown → Parser Grown
    rows x j = and_then (row_of b (binary_ (tree d) b bit_or_row) and_row x j) (row_of b (binary_ (tree d) b and_row) or_row)

    body : Grown → Parser Grown
    body x j = (if same_sort (sort j) k.Coalesce then row_of b (binary_ (tree d) b bit_or_row) coalesce_row x else either (tree d) b x) j

    choice : (x : Grown) (j : Input) (c : Bool) → binary_ (tree d) b bit_or_row i ≡ done x j → same_sort (sort j) k.Coalesce ≡ c
        → (if c then row_of b (binary_ (tree d) b bit_or_row) coalesce_row x else either (tree d) b x) j ≡ rows x j
    choice x j true e is =
        let all : binary_ (tree d) b or_row i ≡ done x j = assoc_then (binary_ (tree d) b bit_or_row i) (row_of b (binary_ (tree d) b bit_or_row) and_row) (row_of b (binary_ (tree d) b and_row) or_row) ∙ ap (λ o. and_then o rows) e ∙ stuck_rows b d x j is in
        absurd (not_both is (h x j all))
    choice x j false e is = refl

    go : (o : Outcome Grown) → binary_ (tree d) b bit_or_row i ≡ o → and_then (binary_ (tree d) b bit_or_row i) body ≡ binary_ (tree d) b or_row i
    go (Ok p) e =
        ap (λ o. and_then o body) e ∙ ap (λ c. (if c then row_of b (binary_ (tree d) b bit_or_row) coalesce_row p.0 else either (tree d) b p.0) p.1) refl ∙ choice p.0 p.1 (same_sort (sort p.1) k.Coalesce) e refl
        ∙ sym (ap (λ o. and_then o rows) e) ∙ sym (assoc_then (binary_ (tree d) b bit_or_row i) (row_of b (binary_ (tree d) b bit_or_row) and_row) (row_of b (binary_ (tree d) b and_row) or_row))
    go (Err r) e = ap (λ o. and_then o body) e ∙ sym (ap (λ o. and_then o rows) e) ∙ sym (assoc_then (binary_ (tree d) b bit_or_row i) (row_of b (binary_ (tree d) b bit_or_row) and_row) (row_of b (binary_ (tree d) b and_row) or_row))

pub logical_reads : (b : Bool) (d : ℕ) (us : List Lexeme) (x : Grown) → Claim d (Row b or_row) us x → Claim d (Short b) us x
unfolding sort
logical_reads b d us x h r l n e =
    let whole_row = row_whole b d or_row us x h r l n (looser b 12 13 (omega arith) r e) in
    gets_is (binary_ (tree d) b or_row (inp (us ++ r) l n)) (short_rows b d (inp (us ++ r) l n) (λ y j is. behind y j is whole_row)) whole_row
  where
    behind : (y : Grown) (j : Input) → binary_ (tree d) b or_row (inp (us ++ r) l n) ≡ done y j → Gets (binary_ (tree d) b or_row (inp (us ++ r) l n)) x.height (done x (inp r (end_after l us) n)) → same_sort (sort j) k.Coalesce ≡ false
    behind y j is w = go (nat_lt max_depth x.height) refl
      where
        go : (deep : Bool) → nat_lt max_depth x.height ≡ deep → same_sort (sort j) k.Coalesce ≡ false
        go true low = let no : done y j ≡ Err TooDeep = sym is ∙ w.deep (ltb-true max_depth x.height low) in cc
        go false low = let known : done x (inp r (end_after l us) n) ≡ done y j = sym (w.fits (ltb-false max_depth x.height low)) ∙ is in
            along (λ p. same_sort (sort p.1) k.Coalesce ≡ false) known (not_sort b k.Coalesce 13 end_no_coalesce (λ line. omega arith) r e)

-- ---- conditions

cond_ends : (b : Bool) (x : Grown) (r : List Lexeme) → EndsCond b x r → Ends b 14 r
cond_ends b x r (inl e) = looser b 14 15 (omega arith) r e
cond_ends b x r (inr e) = e.1

pub unchosen_reads : (b : Bool) (d : ℕ) (us : List Lexeme) (x : Grown) → Claim d (Short b) us x → Claim d (Cond b) us x
unfolding cond_
unchosen_reads b d us x h r l n e =
    let e14 = cond_ends b x r e in
    let f : Grown → Parser Grown = λ x. eat k.Question >>= (λ is_chosen. if is_chosen then chosen (tree d) b x else pure x) in
    gets_to (gets_then (h r l n (looser b 13 14 (omega arith) r e14)) f)
    (ap (λ o. and_then o (λ is_chosen. if is_chosen then chosen (tree d) b x else pure x)) (eat_is k.Question r (end_after l us) n false (not_sort b k.Question 14 end_no_question (λ line. omega arith) r e14)))

-- what is chosen among by a condition that was read
chosen_goes : (b : Bool) (d : ℕ) (x y z : Grown) (vs ws : List Lexeme) (u : Lexeme) (r : List Lexeme) (l n : ℕ) → Claim d (Assign true) vs y → u.sort ≡ k.Colon → Claim d (Assign b) ws z → Ends b 15 r
    → Gets (chosen (tree (suc d)) b x (inp (vs ++ u ∷ (ws ++ r)) l n)) (max y.height (max z.height (tallest x.height y.height z.height + 1)))
    (done (ending (node.Cond x.tree y.tree z.tree) (from_of x) (end_after u.to ws) (tallest x.height y.height z.height)) (inp r (end_after u.to ws) n))
unfolding chosen otherwise tree next
chosen_goes b d x y z vs ws u r l n h c i e =
    let tall = tallest x.height y.height z.height in
    let close : Grown → Parser Grown = λ z. complete (node.Cond x.tree y.tree z.tree) (from_of x) (tallest x.height y.height z.height) in
    let behind : Grown → Parser Grown = λ y. expect k.Colon >>= (λ u. otherwise (tree (suc d)) b x y) in
    let last = gets_max z.height (tall + 1) (gets_then (gets_is (assign (tree d) b (inp (ws ++ r) u.to n)) (nest_assign d b (inp (ws ++ r) u.to n)) (i r u.to n e)) close) (gets_whole (node.Cond x.tree y.tree z.tree) (from_of x) tall r (end_after u.to ws) n) in
    gets_max y.height (max z.height (tall + 1)) (gets_then (h (u ∷ (ws ++ r)) l n (loose_sort true u k.Colon 15 c (λ line. omega arith) (ws ++ r))) behind)
    (gets_is (and_then (tree (suc d) (assign_goal b) (inp (ws ++ r) u.to n)) close)
    (ap (λ o. and_then o (λ u. otherwise (tree (suc d)) b x y)) (expect_is k.Colon (u ∷ (ws ++ r)) (end_after l vs) n true (is_sort k.Colon u.sort c colon_self))) last)

tallest_is : (a b c : ℕ) → max a (max b (max c (tallest a b c + 1))) ≡ tallest a b c + 1
unfolding tallest
tallest_is a b c = omega arith

no_cond_target : (x y z : Grown) (from tall : ℕ) (us : List Lexeme) → is_target (whole (node.Cond x.tree y.tree z.tree) from us tall) ≡ true → ⊥
unfolding is_target tree_of.out-Node hole.out
no_cond_target x y z from tall us e = let f : false ≡ true = e in cc

pub chosen_reads : (b : Bool) (d : ℕ) (us vs ws : List Lexeme) (t u : Lexeme) (x y z : Grown) → Claim (suc d) (Short b) us x → t.sort ≡ k.Question → Claim d (Assign true) vs y → u.sort ≡ k.Colon → Claim d (Assign b) ws z
    → Claim (suc d) (Cond b) (us ++ t ∷ (vs ++ u ∷ ws)) (whole (node.Cond x.tree y.tree z.tree) (from_of x) (us ++ t ∷ (vs ++ u ∷ ws)) (tallest x.height y.height z.height))
unfolding cond_ next
chosen_reads b d us vs ws t u x y z h c i p j r l n e = go e
  where
    go : EndsCond b (whole (node.Cond x.tree y.tree z.tree) (from_of x) (us ++ t ∷ (vs ++ u ∷ ws)) (tallest x.height y.height z.height)) r
        → Reads (cond_ (tree (suc d)) b) (us ++ t ∷ (vs ++ u ∷ ws)) (whole (node.Cond x.tree y.tree z.tree) (from_of x) (us ++ t ∷ (vs ++ u ∷ ws)) (tallest x.height y.height z.height)) r l n
    go (inr e) = absurd (no_cond_target x y z (from_of x) (tallest x.height y.height z.height) (us ++ t ∷ (vs ++ u ∷ ws)) e.0)
    go (inl e) =
        let tall = tallest x.height y.height z.height in
        let ts = vs ++ u ∷ (ws ++ r) in
        let f : Grown → Parser Grown = λ x. eat k.Question >>= (λ is_chosen. if is_chosen then chosen (tree (suc d)) b x else pure x) in
        let first = gets_then (h (t ∷ ts) l n (loose_sort b t k.Question 13 c (λ line. omega arith) ts)) f in
        let goes : f x (inp (t ∷ ts) (end_after l us) n) ≡ chosen (tree (suc d)) b x (inp ts t.to n) =
        ap (λ o. and_then o (λ is_chosen. if is_chosen then chosen (tree (suc d)) b x else pure x)) (eat_is k.Question (t ∷ ts) (end_after l us) n true (is_sort k.Question t.sort c question_self)) in
        let all = gets_at (max x.height (max y.height (max z.height (tall + 1)))) (tall + 1) (tallest_is x.height y.height z.height)
        (gets_max x.height (max y.height (max z.height (tall + 1))) first (gets_is (chosen (tree (suc d)) b x (inp ts t.to n)) goes (chosen_goes b d x y z vs ws u r t.to n i p j e))) in
        let ends : (m : ℕ) → end_after u.to ws ≡ end_after m (us ++ t ∷ (vs ++ u ∷ ws)) = λ m. end_at t.to vs ws u ∙ end_at m us (vs ++ u ∷ ws) t in
        let split : (us ++ t ∷ (vs ++ u ∷ ws)) ++ r ≡ us ++ t ∷ ts = append_assoc us (t ∷ (vs ++ u ∷ ws)) r ∙ ap (λ zs. us ++ t ∷ zs) (append_assoc vs (u ∷ ws) r) in
        subst (λ zs. Gets (cond_ (tree (suc d)) b (inp zs l n)) (tall + 1) (done (whole (node.Cond x.tree y.tree z.tree) (from_of x) (us ++ t ∷ (vs ++ u ∷ ws)) tall) (inp r (end_after l (us ++ t ∷ (vs ++ u ∷ ws))) n))) (sym split)
        (gets_move (λ a b. done (ending (node.Cond x.tree y.tree z.tree) (from_of x) a tall) (inp r b n)) (end_after u.to ws) (end_after 0 (us ++ t ∷ (vs ++ u ∷ ws))) (end_after l (us ++ t ∷ (vs ++ u ∷ ws))) (ends 0) (ends l) all)

-- ---- assignments

assigns_none : (b : Bool) (x : Grown) (r : List Lexeme) (l n : ℕ) → Ends b 15 r → assigns x (inp r l n) ≡ None
unfolding assigns sort
assigns_none b x r l n e = go (is_target x) refl
  where
    go : (target : Bool) → is_target x ≡ target → assigns x (inp r l n) ≡ None
    go true is = rw is (no_assignment b 15 (omega arith) r e)
    go false is = rw is refl

assigns_is : (x : Grown) (t : Lexeme) (r : List Lexeme) (l n : ℕ) (op : AssignOp) → is_target x ≡ true → assignment t.sort ≡ Some op → assigns x (inp (t ∷ r) l n) ≡ Some op
unfolding assigns sort
assigns_is x t r l n op is c = rw is c

arrow_in : (us r : List Lexeme) → 0 < length us → is_arrow (us ++ r) ≡ is_arrow us
arrow_in [] r some = absurd (omega (arith, some))
arrow_in (t ∷ us) r some = refl

no_arrow : (b : Bool) (d : ℕ) (us r : List Lexeme) (l n : ℕ) → 0 < length us → is_arrow us ≡ false → assign (tree d) b (inp (us ++ r) l n) ≡ assign_or_cond (tree d) b (inp (us ++ r) l n)
unfolding assign begins_arrow sees sort ahead
no_arrow b d us r l n some a = rw (arrow_in us r some ∙ a) refl

pub unassigned_reads : (b : Bool) (d : ℕ) (us : List Lexeme) (x : Grown) → 0 < length us → is_arrow us ≡ false → Claim d (Cond b) us x → Claim d (Assign b) us x
unfolding assign_or_cond place
unassigned_reads b d us x some a h r l n e =
    gets_is (assign_or_cond (tree d) b (inp (us ++ r) l n)) (no_arrow b d us r l n some a) (
    let f : Grown → Parser Grown = λ x. (λ i. Ok (assigns x i, i)) >>= (λ o. assign_by (tree d) b (place_at n (us ++ r)) x o) in
    gets_to (gets_then (h r l n (inl e)) f) (ap (λ o. assign_by (tree d) b (place_at n (us ++ r)) x o (inp r (end_after l us) n)) (assigns_none b x r (end_after l us) n e)))

pub assigned_reads : (b : Bool) (d : ℕ) (us vs : List Lexeme) (t : Lexeme) (x y : Grown) (op : AssignOp) → Derives (suc d) (Cond b) us x → is_arrow us ≡ false → Claim (suc d) (Cond b) us x → is_target x ≡ true → assignment t.sort ≡ Some op → Claim d (Assign b) vs y
    → Claim (suc d) (Assign b) (us ++ t ∷ vs) (whole (node.Assign op x.tree y.tree (gives_name (start_of us) x)) (from_of x) (us ++ t ∷ vs) (max x.height y.height))
unfolding assign_or_cond next place
assigned_reads b d us vs t x y op derives a h is c i r l n e =
    let tall = max x.height y.height in
    let ts = t ∷ (vs ++ r) in
    let from = place_at n (us ++ ts) in
    let nd = node.Assign op x.tree y.tree (gives_name from x) in
    let f : Grown → Parser Grown = λ x. (λ i. Ok (assigns x i, i)) >>= (λ o. assign_by (tree (suc d)) b (place_at n (us ++ ts)) x o) in
    let g : Grown → Parser Grown = λ y. complete (node.Assign op x.tree y.tree (gives_name from x)) (from_of x) (max x.height y.height) in
    let loose : Ends b 14 ts = omega (arith, assignment_looseness b t.line_before t.sort op c) in
    let first = gets_then (h ts l n (inr (is, loose))) f in
    let goes : f x (inp ts (end_after l us) n) ≡ and_then (tree (suc d) (assign_goal b) (inp (vs ++ r) t.to n)) g =
    ap (λ o. assign_by (tree (suc d)) b (place_at n (us ++ ts)) x o (inp ts (end_after l us) n)) (assigns_is x t (vs ++ r) (end_after l us) n op is c) in
    let value = gets_is (assign (tree d) b (inp (vs ++ r) t.to n)) (nest_assign d b (inp (vs ++ r) t.to n)) (i r t.to n e) in
    let last = gets_trans y.height (tall + 1) (omega arith) (gets_then value g) (gets_whole nd (from_of x) tall r (end_after t.to vs) n) in
    let all = gets_trans x.height (tall + 1) (omega arith) first (gets_is (and_then (tree (suc d) (assign_goal b) (inp (vs ++ r) t.to n)) g) goes last) in
    let named = gets_to (gets_is (assign_or_cond (tree (suc d)) b (inp (us ++ ts) l n)) (no_arrow b (suc d) us ts l n (some_tokens derives) a) all) (ap (λ a. done (ending (node.Assign op x.tree y.tree (gives_name a x)) (from_of x) (end_after t.to vs) tall) (inp r (end_after t.to vs) n)) (place_of derives n ts)) in
    subst (λ zs. Gets (assign (tree (suc d)) b (inp zs l n)) (tall + 1) (done (whole (node.Assign op x.tree y.tree (gives_name (start_of us) x)) (from_of x) (us ++ t ∷ vs) tall) (inp r (end_after l (us ++ t ∷ vs)) n))) (sym (append_assoc us (t ∷ vs) r))
    (gets_move (λ a b. done (ending (node.Assign op x.tree y.tree (gives_name (start_of us) x)) (from_of x) a tall) (inp r b n)) (end_after t.to vs) (end_after 0 (us ++ t ∷ vs)) (end_after l (us ++ t ∷ vs)) (end_at 0 us vs t) (end_at l us vs t) named)

-- ---- expressions and lists

-- what is behind the first Assign of an expression
abbrev tail_of : ℕ → Bool → Grown → Parser Grown
tail_of d b x i = (if same_sort (sort i) k.Comma then (sequence (tree d) b (with none x) >>= (λ all. complete (node.Sequence all.trees) (from_of x) all.tall)) else pure x) i

-- an expression begins with an Assign
expression_is : (b : Bool) (d : ℕ) (us : List Lexeme) (x : Grown) (r : List Lexeme) (l n : ℕ) → Reads (assign (tree d) b) us x r l n → Gets (expression (tree (suc d)) b (inp (us ++ r) l n)) x.height (tail_of (suc d) b x (inp r (end_after l us) n))
unfolding expression
expression_is b d us x r l n h = gets_then (gets_is (assign (tree d) b (inp (us ++ r) l n)) (nest_assign d b (inp (us ++ r) l n)) h) (tail_of (suc d) b)

pub single_reads : (b : Bool) (d : ℕ) (us : List Lexeme) (x : Grown) → Claim d (Assign b) us x → Claim (suc d) (Expression b) us x
unfolding sort
single_reads b d us x h r l n e =
    gets_to (expression_is b d us x r l n (h r l n (looser b 15 16 (omega arith) r e)))
    (ap (λ c. (if c then (sequence (tree (suc d)) b (with none x) >>= (λ all. complete (node.Sequence all.trees) (from_of x) all.tall)) else pure x) (inp r (end_after l us) n)) (not_sort b k.Comma 16 end_no_comma (λ line. omega arith) r e))

comma_ends : (b : Bool) (r : List Lexeme) → sort_at r ≡ k.Comma → Ends b 15 r
comma_ends b [] c = tt
comma_ends b (t ∷ ts) c = loose_sort b t k.Comma 15 c (λ line. omega arith) ts

none_tall : (a : ℕ) → a ≡ max 0 a
none_tall a = omega arith

stands_at : {A : Type 0} {o : Outcome A} {L : ℕ → Outcome A} {r : List Lexeme} (h j : ℕ) → h ≡ j → Stands o h L r → Stands o j L r
stands_at {A} {o} {L} {r} h j e s = subst (λ a. Stands o a L r) e s

-- how Assigns with commas between are read at the beginning of an expression, before a comma
abbrev pub ListClaim : Bool → ℕ → List Lexeme → ℕ → Grove → Type 0
ListClaim b d us from xs = (r : List Lexeme) (l n : ℕ) → sort_at r ≡ k.Comma
    → Stands (expression (tree d) b (inp (us ++ r) l n)) xs.tall (λ m. and_then (sequence_from (tree d) b m xs (inp r (end_after l us) n)) (λ all. complete (node.Sequence all.trees) from all.tall)) r

pub one_list : (b : Bool) (d : ℕ) (us : List Lexeme) (x : Grown) → Claim d (Assign b) us x → ListClaim b (suc d) us (from_of x) (with none x)
unfolding sequence sort left
one_list b d us x h r l n c =
    let stands : Stands (expression (tree (suc d)) b (inp (us ++ r) l n)) x.height (λ m. and_then (sequence_from (tree (suc d)) b m (with none x) (inp r (end_after l us) n)) (λ all. complete (node.Sequence all.trees) (from_of x) all.tall)) r = record {
      turns = length r;
      enough = omega arith;
      gets = gets_to (expression_is b d us x r l n (h r l n (comma_ends b r c)))
          (ap (λ a. (if a then (sequence (tree (suc d)) b (with none x) >>= (λ all. complete (node.Sequence all.trees) (from_of x) all.tall)) else pure x) (inp r (end_after l us) n)) (is_sort k.Comma (sort_at r) c comma_self));
    } in
    stands_at x.height (max 0 x.height) (none_tall x.height) stands

gets_through : {A C : Type 0} {o v : Outcome A} {h : ℕ} (f : A → Parser C) → Gets o h v → Gets (and_then o f) h (and_then v f)
gets_through f g = record { fits = λ p. ap (λ o. and_then o f) (g.fits p); deep = λ p. ap (λ o. and_then o f) (g.deep p) }

more_sequences : (b : Bool) (d from : ℕ) (us vs : List Lexeme) (t : Lexeme) (xs : Grove) (x : Grown) (r : List Lexeme) (l n : ℕ) → ListClaim b (suc d) us from xs → t.sort ≡ k.Comma → Claim d (Assign b) vs x → Ends b 15 r
    → Stands (expression (tree (suc d)) b (inp ((us ++ t ∷ vs) ++ r) l n)) (max xs.tall x.height)
    (λ m. and_then (sequence_from (tree (suc d)) b m (with xs x) (inp r (end_after l (us ++ t ∷ vs)) n)) (λ all. complete (node.Sequence all.trees) from all.tall)) r
more_sequences b d from us vs t xs x r l n w c h e =
    let s = w (t ∷ (vs ++ r)) l n c in
    let f : Grove → Parser Grown = λ all. complete (node.Sequence all.trees) from all.tall in
    let given = gets_is (assign (tree d) b (inp (vs ++ r) t.to n)) (nest_assign d b (inp (vs ++ r) t.to n)) (h r t.to n e) in
    let one = sequence_goes b (suc d) s.turns xs x t (vs ++ r) r (end_after l us) n (end_after t.to vs) s.enough c (tail_fits vs r) given in
    record {
      turns = one.turns;
      enough = one.enough;
      gets = subst (λ zs. Gets (expression (tree (suc d)) b (inp zs l n)) (max xs.tall x.height) (and_then (sequence_from (tree (suc d)) b one.turns (with xs x) (inp r (end_after l (us ++ t ∷ vs)) n)) f))
          (sym (append_assoc us (t ∷ vs) r))
          (gets_max xs.tall x.height s.gets (gets_through f (gets_to one.gets (ap (λ a. sequence_from (tree (suc d)) b one.turns (with xs x) (inp r a n)) (end_at l us vs t)))));
    }

pub more_list : (b : Bool) (d from : ℕ) (us vs : List Lexeme) (t : Lexeme) (xs : Grove) (x : Grown) → ListClaim b (suc d) us from xs → t.sort ≡ k.Comma → Claim d (Assign b) vs x → ListClaim b (suc d) (us ++ t ∷ vs) from (with xs x)
more_list b d from us vs t xs x w c h r l n p = more_sequences b d from us vs t xs x r l n w c h (comma_ends b r p)

pub sequence_reads : (b : Bool) (d from : ℕ) (us vs : List Lexeme) (t : Lexeme) (xs : Grove) (x : Grown) → ListClaim b (suc d) us from xs → t.sort ≡ k.Comma → Claim d (Assign b) vs x
    → Claim (suc d) (Expression b) (us ++ t ∷ vs) (whole (node.Sequence (with xs x).trees) from (us ++ t ∷ vs) (with xs x).tall)
sequence_reads b d from us vs t xs x w c h r l n e =
    let tall = max xs.tall x.height in
    let f : Grove → Parser Grown = λ all. complete (node.Sequence all.trees) from all.tall in
    let s = more_sequences b d from us vs t xs x r l n w c h (looser b 15 16 (omega arith) r e) in
    let all : Gets (expression (tree (suc d)) b (inp ((us ++ t ∷ vs) ++ r) l n)) tall (f (with xs x) (inp r (end_after l (us ++ t ∷ vs)) n)) =
    gets_to s.gets (ap (λ o. and_then o f) (sequence_ends b (suc d) s.turns (with xs x) r (end_after l (us ++ t ∷ vs)) n (not_sort b k.Comma 16 end_no_comma (λ line. omega arith) r e))) in
    gets_move (λ a b. done (ending (node.Sequence (with xs x).trees) from a tall) (inp r b n)) (end_after l (us ++ t ∷ vs)) (end_after 0 (us ++ t ∷ vs)) (end_after l (us ++ t ∷ vs))
    (sym (end_at l us vs t) ∙ end_at 0 us vs t) refl
    (gets_trans tall (tall + 1) (omega arith) all (gets_whole (node.Sequence (with xs x).trees) from tall r (end_after l (us ++ t ∷ vs)) n))
