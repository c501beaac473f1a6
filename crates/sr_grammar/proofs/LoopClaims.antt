-- What derives is read: `if`, `do` and `while`.
use Rattle.std.proofs.Common.{◌≡◌, ℕ, suc, ◌+◌, max, Bool, true, false, List, [], ◌∷◌, ◌++◌, None, Some, refl, ap, ◌∙◌, subst, append-nil, arith, if◌then◌else◌}
use Rattle.sr_ast.specs.declared.tree.Node.TheVariants as node
use Rattle.sr_syntax.specs.declared.sorts.Sort.TheVariants as k
use Rattle.sr_syntax.specs.declared.sorts.Lexeme.{Lexeme}
use Rattle.sr_syntax.specs.declared.grown.Grown.{Grown}
use Rattle.sr_syntax.specs.Sorts.{same_sort}
use Rattle.sr_syntax.specs.Input.{Parser, ◌>>=◌, pure, eat, expect, sort_at, complete}
use Rattle.sr_syntax.specs.Operators.{tallest}
use Rattle.sr_syntax.specs.Expressions.{expression}
use Rattle.sr_syntax.specs.Statements.{condition, if_else, if_, do_while, do_, while_, statement}
use Rattle.sr_syntax.specs.Grammar.{tree}
use Rattle.sr_grammar.specs.Derivations.{Expression, whole}
use Rattle.sr_grammar.specs.Continuing.{Ends}
use Rattle.sr_grammar.proofs.Steps.{sort_alike}
use Rattle.sr_grammar.proofs.Completing.{loose_sort, eat_yes, eat_no}
use Rattle.sr_grammar.proofs.Claims.{Claim}
use Rattle.sr_grammar.proofs.Taking.{Whatever, Like, Moves, Takes, moves_then, moves_on, moves_at, moves_when, moves_now, moves_whole, moves_expect, moves_eat, moves_over}
use Rattle.sr_grammar.proofs.StatementClaims.{keyword, nest_states}
use Rattle.sr_grammar.proofs.Sorts.{else_self, left_parenthesis_self, right_parenthesis_self, semicolon_self, while_self}

-- an expression, by its claim
pub expression_takes : (d : ℕ) (b : Bool) (us : List Lexeme) (x : Grown) → Claim d (Expression b) us x → Takes (expression (tree d) b) us x.height x (Ends b 16)
expression_takes d b us x h = record { gets = h }

pub condition_read : (d : ℕ) (us : List Lexeme) (x : Grown) (t u : Lexeme) → t.sort ≡ k.LeftParenthesis → Claim d (Expression true) us x → u.sort ≡ k.RightParenthesis → Takes (condition (tree d)) (t ∷ (us ++ u ∷ [])) x.height x Whatever
unfolding condition
condition_read d us x t u c h e =
    moves_at (max 0 (max x.height 0)) x.height (omega arith)
    (moves_then (moves_expect k.LeftParenthesis t c left_parenthesis_self) (λ r q. tt)
    (moves_then (moves_on (expression_takes d true us x h) (λ x. expect k.RightParenthesis >>= (λ v. pure x))) (λ r q. loose_sort true u k.RightParenthesis 16 e (λ line. omega arith) r) (moves_expect k.RightParenthesis u e right_parenthesis_self)))

pub while_reads : (d : ℕ) (us vs ts : List Lexeme) (x y : Grown) (t : Lexeme) → t.sort ≡ k.While → Takes (condition (tree (suc d))) us x.height x Whatever → Takes (statement (tree d)) vs y.height y (Like ts)
    → Takes (statement (tree (suc d))) (t ∷ (us ++ vs)) (max x.height y.height + 1) (whole (node.While x.tree y.tree) t.from (t ∷ (us ++ vs)) (max x.height y.height)) (Like ts)
unfolding while_
while_reads d us vs ts x y t c i h =
    moves_whole (node.While x.tree y.tree) t.from (max x.height y.height) (omega arith) (omega arith)
    (moves_then (keyword (suc d) t k.While (while_ (tree (suc d)) t.from) c (λ i. refl)) (λ r q. tt)
    (moves_then (moves_on i _) (λ r q. tt) (moves_on (nest_states d h) (λ y. complete (node.While x.tree y.tree) t.from (max x.height y.height)))))

-- ---- `if`

-- up to the first statement
if_goes : {h : ℕ} {ws : List Lexeme} {V : Parser Grown} {Q R : List Lexeme → Type 0} (d : ℕ) (us vs : List Lexeme) (x y : Grown) (t : Lexeme) → t.sort ≡ k.If → Takes (condition (tree (suc d))) us x.height x Whatever
    → Takes (statement (tree d)) vs y.height y Q → ((r : List Lexeme) → R r → Q (ws ++ r))
    → Moves (eat k.Else >>= (λ is_else. if is_else then if_else (tree (suc d)) t.from x y else complete (node.If x.tree y.tree None) t.from (max x.height y.height))) ws h V R
    → Moves (statement (tree (suc d))) (t ∷ (us ++ (vs ++ ws))) (max x.height (max y.height h)) V R
unfolding if_
if_goes {h} d us vs x y t c i j follow m =
    moves_at (max 0 (max x.height (max y.height h))) (max x.height (max y.height h)) (omega arith)
    (moves_then (keyword (suc d) t k.If (if_ (tree (suc d)) t.from) c (λ i. refl)) (λ r q. tt)
    (moves_then (moves_on i _) (λ r q. tt)
    (moves_then (moves_on (nest_states d j) (λ y. eat k.Else >>= (λ is_else. if is_else then if_else (tree (suc d)) t.from x y else complete (node.If x.tree y.tree None) t.from (max x.height y.height)))) follow m)))

pub if_alone_reads : (d : ℕ) (us vs ts : List Lexeme) (x y : Grown) (t : Lexeme) → t.sort ≡ k.If → Takes (condition (tree (suc d))) us x.height x Whatever → Takes (statement (tree d)) vs y.height y (Like ts)
    → same_sort (sort_at ts) k.Else ≡ false
    → Takes (statement (tree (suc d))) (t ∷ (us ++ vs)) (max x.height y.height + 1) (whole (node.If x.tree y.tree None) t.from (t ∷ (us ++ vs)) (max x.height y.height)) (Like ts)
if_alone_reads d us vs ts x y t c i j e =
    moves_whole (node.If x.tree y.tree None) t.from (max x.height y.height) (omega arith) (omega arith)
    (subst (λ zs. Moves (statement (tree (suc d))) (t ∷ (us ++ zs)) (max x.height (max y.height 0)) (complete (node.If x.tree y.tree None) t.from (max x.height y.height)) (Like ts)) (append-nil vs)
    (if_goes d us vs x y t c i j (λ r q. q) (moves_when (λ r q. ap (λ s. same_sort s k.Else) (sort_alike ts r q) ∙ e) (moves_over k.Else _ _))))

pub if_else_reads : (d : ℕ) (us vs ws ts : List Lexeme) (x y z : Grown) (t u : Lexeme) → t.sort ≡ k.If → Takes (condition (tree (suc d))) us x.height x Whatever → Takes (statement (tree d)) vs y.height y (Like (u ∷ (ws ++ ts)))
    → u.sort ≡ k.Else → Takes (statement (tree d)) ws z.height z (Like ts)
    → Takes (statement (tree (suc d))) (t ∷ (us ++ (vs ++ u ∷ ws))) (tallest x.height y.height z.height + 1)
    (whole (node.If x.tree y.tree (Some z.tree)) t.from (t ∷ (us ++ (vs ++ u ∷ ws))) (tallest x.height y.height z.height)) (Like ts)
unfolding if_else tallest
if_else_reads d us vs ws ts x y z t u c i h e j =
    moves_whole (node.If x.tree y.tree (Some z.tree)) t.from (tallest x.height y.height z.height) (omega arith) (omega arith)
    (if_goes d us vs x y t c i h (λ r q. refl) (moves_then (moves_eat k.Else _ _ u e else_self) (λ r q. tt)
    (moves_on (nest_states d j) (λ z. complete (node.If x.tree y.tree (Some z.tree)) t.from (tallest x.height y.height z.height)))))

-- ---- `do`

-- up to the `)`
do_goes : {h : ℕ} {ws : List Lexeme} {V : Parser Grown} {Q R : List Lexeme → Type 0} (d : ℕ) (us vs : List Lexeme) (x y : Grown) (t u : Lexeme) → t.sort ≡ k.Do → Takes (statement (tree d)) us y.height y Q
    → ((r : List Lexeme) → Q (u ∷ r)) → u.sort ≡ k.While → Takes (condition (tree (suc d))) vs x.height x Whatever
    → Moves (eat k.Semicolon >>= (λ is_ended. complete (node.Do y.tree x.tree) t.from (max y.height x.height))) ws h V R
    → Moves (statement (tree (suc d))) (t ∷ (us ++ u ∷ (vs ++ ws))) (max y.height (max x.height h)) V R
unfolding do_ do_while
do_goes {h} {ws} d us vs x y t u c j follow e i m =
    moves_at (max 0 (max y.height (max 0 (max x.height h)))) (max y.height (max x.height h)) (omega arith)
    (moves_then (keyword (suc d) t k.Do (do_ (tree (suc d)) t.from) c (λ i. refl)) (λ r q. tt)
    (moves_then (moves_on (nest_states d j) _) (λ r q. follow ((vs ++ ws) ++ r))
    (moves_then (moves_expect k.While u e while_self) (λ r q. tt) (moves_then (moves_on i (λ x. eat k.Semicolon >>= (λ is_ended. complete (node.Do y.tree x.tree) t.from (max y.height x.height)))) (λ r q. tt) m))))

pub do_alone_reads : (d : ℕ) (us vs ts : List Lexeme) (x y : Grown) (t u : Lexeme) → t.sort ≡ k.Do → Takes (statement (tree d)) us y.height y (Like (u ∷ (vs ++ ts))) → u.sort ≡ k.While
    → Takes (condition (tree (suc d))) vs x.height x Whatever → same_sort (sort_at ts) k.Semicolon ≡ false
    → Takes (statement (tree (suc d))) (t ∷ (us ++ u ∷ vs)) (max y.height x.height + 1) (whole (node.Do y.tree x.tree) t.from (t ∷ (us ++ u ∷ vs)) (max y.height x.height)) (Like ts)
do_alone_reads d us vs ts x y t u c j e i f =
    let none : Moves (eat k.Semicolon >>= (λ is_ended. complete (node.Do y.tree x.tree) t.from (max y.height x.height))) [] 0 (complete (node.Do y.tree x.tree) t.from (max y.height x.height)) (Like ts) =
    moves_now (λ r l n q. eat_no k.Semicolon r l n (ap (λ s. same_sort s k.Semicolon) (sort_alike ts r q) ∙ f) (λ is_ended. complete (node.Do y.tree x.tree) t.from (max y.height x.height))) in
    moves_whole (node.Do y.tree x.tree) t.from (max y.height x.height) (omega arith) (omega arith)
    (subst (λ zs. Moves (statement (tree (suc d))) (t ∷ (us ++ u ∷ zs)) (max y.height (max x.height 0)) (complete (node.Do y.tree x.tree) t.from (max y.height x.height)) (Like ts)) (append-nil vs)
    (do_goes d us vs x y t u c j (λ r. refl) e i none))

pub do_ended_reads : (d : ℕ) (us vs ts : List Lexeme) (x y : Grown) (t u v : Lexeme) → t.sort ≡ k.Do → Takes (statement (tree d)) us y.height y (Like (u ∷ (vs ++ v ∷ ts))) → u.sort ≡ k.While
    → Takes (condition (tree (suc d))) vs x.height x Whatever → v.sort ≡ k.Semicolon
    → Takes (statement (tree (suc d))) (t ∷ (us ++ u ∷ (vs ++ v ∷ []))) (max y.height x.height + 1) (whole (node.Do y.tree x.tree) t.from (t ∷ (us ++ u ∷ (vs ++ v ∷ []))) (max y.height x.height)) (Like ts)
do_ended_reads d us vs ts x y t u v c j e i f =
    let one : Moves (eat k.Semicolon >>= (λ is_ended. complete (node.Do y.tree x.tree) t.from (max y.height x.height))) (v ∷ []) 0 (complete (node.Do y.tree x.tree) t.from (max y.height x.height)) (Like ts) =
    moves_now (λ r l n q. eat_yes k.Semicolon v r l n f semicolon_self (λ is_ended. complete (node.Do y.tree x.tree) t.from (max y.height x.height))) in
    moves_whole (node.Do y.tree x.tree) t.from (max y.height x.height) (omega arith) (omega arith) (do_goes d us vs x y t u c j (λ r. refl) e i one)
