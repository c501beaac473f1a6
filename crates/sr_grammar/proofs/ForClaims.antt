-- What derives is read: `for`.
use Rattle.std.proofs.Common.{◌≡◌, ℕ, suc, ◌+◌, ◌<◌, max, Bool, true, false, ◌&&◌, List, [], ◌∷◌, ◌++◌, Some, refl, sym, ap, subst, append_assoc, arith, if◌then◌else◌}
use Rattle.std.specs.Prelude.{codes}
use Rattle.sr_ast.specs.declared.binding.HeadBinding.{HeadBinding}
use Rattle.sr_ast.specs.declared.binding.HeadKind.{HeadKind}
use Rattle.sr_ast.specs.declared.tree.Node.TheVariants as node
use Rattle.sr_ast.specs.declared.tree.Declaration.{Declaration}
use Rattle.sr_syntax.specs.declared.sorts.Sort.TheVariants as k
use Rattle.sr_syntax.specs.declared.sorts.Sort.{Sort}
use Rattle.sr_syntax.specs.declared.sorts.Lexeme.{Lexeme}
use Rattle.sr_syntax.specs.declared.grown.Grown.{Grown}
use Rattle.sr_syntax.specs.declared.grown.Part.{Part}
use Rattle.sr_syntax.specs.declared.grown.Goal.TheVariants as goal
use Rattle.sr_syntax.specs.Sorts.{same_sort}
use Rattle.sr_syntax.specs.Input.{Input, Parser, ◌>>=◌, pure, expect, sees, sees_text, sort, sort_at, place, next, complete, text_of}
use Rattle.sr_syntax.specs.Operators.{is_target, nothing, part_of, tallest}
use Rattle.sr_syntax.specs.Expressions.{expression}
use Rattle.sr_syntax.specs.Declarations.{declaring}
use Rattle.sr_syntax.specs.Statements.{more_declarations, perhaps, for_body, for_rest, keys_of, values_of, for_in, for_of, for_in_target, for_of_target, for_declarations, for_declared, for_named, for_declaring, for_expression, for_by, for_, statement}
use Rattle.sr_syntax.specs.Declarations as p
use Rattle.sr_syntax.specs.Grammar.{tree}
use Rattle.sr_grammar.specs.Names.{binding_of, is_text, declaring_word}
use Rattle.sr_grammar.specs.Derivations.{Derives, Expression, Assign, whole}
use Rattle.sr_grammar.specs.Continuing.{looseness, Ends}
use Rattle.sr_grammar.proofs.Steps.{inp, some_is}
use Rattle.sr_grammar.proofs.Starting.{starting, starts, not_close}
use Rattle.sr_grammar.proofs.Completing.{is_sort, loose_sort}
use Rattle.sr_grammar.proofs.Claims.{Claim}
use Rattle.sr_grammar.proofs.Taking.{Whatever, Follow, Like, Moves, Takes, moves_then, moves_first, moves_on, moves_at, moves_is, moves_now, moves_whole, moves_whole_on, moves_expect, moves_eat, moves_over, moves_through, moves_both, moves_tokens}
use Rattle.sr_grammar.proofs.ParameterClaims.{other_sort, binding_read}
use Rattle.sr_grammar.proofs.FunctionClaims.{nest_takes}
use Rattle.sr_grammar.proofs.KeyClaims.{word_sort}
use Rattle.sr_grammar.proofs.DeclarationClaims.{behind_name, HeadClaim, head_claim, behind_first}
use Rattle.sr_grammar.proofs.StatementClaims.{keyword, nest_states}
use Rattle.sr_grammar.proofs.LoopClaims.{expression_takes}
use Rattle.sr_grammar.proofs.Sorts.{identifier_no_in, in_self, left_parenthesis_self, right_parenthesis_self, semicolon_no_identifier, semicolon_no_in, semicolon_self}

-- ---- an expression, or none

-- what may close it
pub record Closing (b : Bool) (v : Sort) : Type 0 where
  pub self : same_sort v v ≡ true
  pub other : starting v ≡ false
  pub loose : (line : Bool) → 16 < looseness b line v

pub by_semicolon : (b : Bool) → Closing b k.Semicolon
by_semicolon b = record { self = semicolon_self; other = refl; loose = λ line. omega arith }

pub by_parenthesis : Closing true k.RightParenthesis
by_parenthesis = record { self = right_parenthesis_self; other = refl; loose = λ line. omega arith }

abbrev pub PerhapsClaim : Bool → ℕ → Sort → List Lexeme → Part → Type 0
PerhapsClaim b d v us x = Closing b v → Takes (perhaps (tree d) b v) us x.height x Whatever

pub no_expression_read : (b : Bool) (d : ℕ) (v : Sort) (u : Lexeme) → u.sort ≡ v → PerhapsClaim b d v (u ∷ []) nothing
unfolding perhaps
no_expression_read b d v u c z = moves_eat v _ _ u c z.self

pub an_expression_read : (b : Bool) (d : ℕ) (v : Sort) (us : List Lexeme) (x : Grown) (u : Lexeme) → Derives d (Expression b) us x → Claim d (Expression b) us x → u.sort ≡ v → PerhapsClaim b d v (us ++ u ∷ []) (part_of x)
unfolding perhaps
an_expression_read b d v us x u derives h c z =
    moves_at (max (max 0 x.height) 0) x.height (omega arith)
    (moves_then (moves_first (moves_over v _ _) (λ r q. not_close v (sort_at (us ++ r)) z.other (starts derives r)) (moves_on (expression_takes d b us x h) (λ x. expect v >>= (λ w. pure (part_of x)))))
    (λ r q. loose_sort b u v 16 c z.loose r) (moves_expect v u c z.self))

-- ---- the first part

-- behind the `(`
abbrev pub for_start : ℕ → ℕ → Parser Grown
for_start d from i = for_by (tree d) from (place i) (sort i) i

-- how the first part is read, up to the rest of a plain `for`
abbrev pub FirstClaim : ℕ → List Lexeme → Part → Type 0
FirstClaim d us x = (from : ℕ) → Moves (for_start d from) us x.height (for_rest (tree d) from x) Whatever

pub nothing_first : (d : ℕ) (u : Lexeme) → u.sort ≡ k.Semicolon → FirstClaim d (u ∷ []) nothing
unfolding sort place next
nothing_first d u c from = moves_now (λ r l n q. ap (λ s. for_by (tree d) from u.from s (inp (u ∷ r) l n)) c)

expression_by : (d from start : ℕ) (s : Sort) (i : Input) → starting s ≡ true → for_by (tree d) from start s i ≡ (expression (tree d) false >>= for_expression (tree d) from) i
expression_by d from start k.Var i e = cc
expression_by d from start k.Let i e = cc
expression_by d from start k.Const i e = cc
expression_by d from start k.Semicolon i e = cc
expression_by d from start _ i e = refl

expression_goes : (d from : ℕ) (us : List Lexeme) (x : Grown) → Derives d (Expression false) us x → Claim d (Expression false) us x → Moves (for_start d from) us x.height (for_expression (tree d) from x) (Ends false 16)
unfolding sort
expression_goes d from us x derives h =
    moves_is {V = expression (tree d) false >>= for_expression (tree d) from} (λ r l n q. expression_by d from (place (inp (us ++ r) l n)) (sort_at (us ++ r)) (inp (us ++ r) l n) (starts derives r))
    (moves_on (expression_takes d false us x h) (for_expression (tree d) from))

neither : {A : Type 0} (b : Bool) (x y z : A) → (if b && false then x else (if b && false then y else z)) ≡ z
neither true x y z = refl
neither false x y z = refl

plain_for : (d from : ℕ) (x : Grown) (u : Lexeme) → u.sort ≡ k.Semicolon → Moves (for_expression (tree d) from x) (u ∷ []) 0 (for_rest (tree d) from (part_of x)) Whatever
unfolding for_expression sees sees_text sort
plain_for d from x u c =
    moves_is {V = expect k.Semicolon >>= (λ v. for_rest (tree d) from (part_of x))} (λ r l n q. rw (other_sort u k.Semicolon k.In c semicolon_no_in) (rw (other_sort u k.Semicolon k.Identifier c semicolon_no_identifier)
    (neither (is_target x) (for_in_target (tree d) from x (inp (u ∷ r) l n)) (for_of_target (tree d) from x (inp (u ∷ r) l n)) ((expect k.Semicolon >>= (λ v. for_rest (tree d) from (part_of x))) (inp (u ∷ r) l n)))))
    (moves_expect k.Semicolon u c semicolon_self)

pub expression_first : (d : ℕ) (us : List Lexeme) (x : Grown) (u : Lexeme) → Derives d (Expression false) us x → Claim d (Expression false) us x → u.sort ≡ k.Semicolon → FirstClaim d (us ++ u ∷ []) (part_of x)
expression_first d us x u derives h c from =
    moves_at (max x.height 0) x.height (omega arith) (moves_then (expression_goes d from us x derives h) (λ r q. loose_sort false u k.Semicolon 16 c (λ line. omega arith) r) (plain_for d from x u c))

-- ---- with declarations

declaring_is : (d from start : ℕ) (how : HeadKind) (s : Sort) (i : Input) → declaring_word s ≡ Some how → for_by (tree d) from start s i ≡ for_declaring (tree d) from start how (next i)
declaring_is d from start how k.Var i e = some_is (λ a. for_by (tree d) from start k.Var i ≡ for_declaring (tree d) from start a (next i)) e refl
declaring_is d from start how k.Let i e = some_is (λ a. for_by (tree d) from start k.Let i ≡ for_declaring (tree d) from start a (next i)) e refl
declaring_is d from start how k.Const i e = some_is (λ a. for_by (tree d) from start k.Const i ≡ for_declaring (tree d) from start a (next i)) e refl
declaring_is d from start how _ i e = cc

-- up to the name
named_goes : (d from : ℕ) (how : HeadKind) (t w : Lexeme) → declaring_word t.sort ≡ Some how → w.sort ≡ k.Identifier
    → Moves (for_start d from) (t ∷ w ∷ []) 0 (for_named (tree d) from t.from (record { kind = how; binding = binding_of w })) Whatever
unfolding for_declaring sort place next
named_goes d from how t w e c =
    let step : Moves (for_start d from) (t ∷ []) 0 (for_declaring (tree d) from t.from how) Whatever = moves_now (λ r l n q. declaring_is d from t.from how t.sort (inp (t ∷ r) l n) e) in
    moves_then step (λ r q. tt) (moves_on (binding_read w c) (λ x. for_named (tree d) from t.from (record { kind = how; binding = x })))

name_no_more : (s : Sort) → behind_name s ≡ true → (same_sort s k.In ≡ false) × (same_sort s k.Identifier ≡ false)
unfolding same_sort
name_no_more k.Assign e = (refl, refl)
name_no_more k.Comma e = (refl, refl)
name_no_more k.Semicolon e = (refl, refl)
name_no_more _ e = cc

declared_is : (d from start : ℕ) (h : HeadBinding) (i : Input) → behind_name (sort_at i.rest) ≡ true → for_named (tree d) from start h i ≡ for_declared (tree d) from start h i
unfolding for_named sees sees_text sort
declared_is d from start h i e = let no = name_no_more (sort_at i.rest) e in rw no.0 (rw no.1 refl)

head_goes : (d start tall : ℕ) (how : HeadKind) (us : List Lexeme) (ds : List Declaration) (w u : Lexeme) → Takes (behind_first d w) us tall (ds, tall) (Ends false 16) → u.sort ≡ k.Semicolon
    → Moves (for_declarations (tree d) start (record { kind = how; binding = binding_of w })) (us ++ u ∷ []) tall (complete (declaring how ds) start tall) Whatever
unfolding for_declarations
head_goes d start tall how us ds w u h c =
    let f : List Declaration × ℕ → Parser Grown = λ all. expect k.Semicolon >>= (λ v. complete (declaring how all.0) start all.1) in
    moves_at (max tall 0) tall (omega arith)
    (moves_then (moves_both (p.declared (tree d) false w.from (text_of w.content)) (λ first. more_declarations (tree d) first.0 first.1) h f) (λ r q. loose_sort false u k.Semicolon 16 c (λ line. omega arith) r)
    (moves_expect k.Semicolon u c semicolon_self))

-- behind the name
declared_goes : (d from start tall : ℕ) (how : HeadKind) (us : List Lexeme) (ds : List Declaration) (w u : Lexeme) → ((r : List Lexeme) → behind_name (sort_at r) ≡ true → behind_name (sort_at (us ++ r)) ≡ true)
    → Takes (behind_first d w) us tall (ds, tall) (Ends false 16) → u.sort ≡ k.Semicolon
    → Moves (for_named (tree d) from start (record { kind = how; binding = binding_of w })) (us ++ u ∷ []) tall (complete (declaring how ds) start tall >>= (λ x. for_rest (tree d) from (part_of x))) Whatever
unfolding for_declared
declared_goes d from start tall how us ds w u after h c =
    let head : HeadBinding = record { kind = how; binding = binding_of w } in
    moves_is {V = for_declarations (tree d) start head >>= (λ x. for_rest (tree d) from (part_of x))}
    (λ r l n q. declared_is d from start head (inp ((us ++ u ∷ []) ++ r) l n) (subst (λ zs. behind_name (sort_at zs) ≡ true) (sym (append_assoc us (u ∷ []) r)) (after (u ∷ r) (ap behind_name c))))
    (moves_through (head_goes d start tall how us ds w u h c) (λ x. for_rest (tree d) from (part_of x)))

pub declarations_first : (d tall : ℕ) (us : List Lexeme) (ds : List Declaration) (how : HeadKind) (t u : Lexeme) → declaring_word t.sort ≡ Some how → HeadClaim d us (ds, tall) → u.sort ≡ k.Semicolon
    → FirstClaim d (t ∷ (us ++ u ∷ [])) (part_of (whole (declaring how ds) t.from (t ∷ (us ++ u ∷ [])) tall))
declarations_first d tall us ds how t u e claim c from = go claim
  where
    rest : Grown → Parser Grown
    rest x = for_rest (tree d) from (part_of x)

    go : {zs : List Lexeme} → HeadClaim d zs (ds, tall) → Moves (for_start d from) (t ∷ (zs ++ u ∷ [])) (tall + 1) (rest (whole (declaring how ds) t.from (t ∷ (zs ++ u ∷ [])) tall)) Whatever
    go (head_claim {us = vs} w i after l) =
        moves_whole_on (declaring how ds) t.from tall (omega arith) (omega arith) rest
        (moves_then (named_goes d from how t w e i) (λ r q. tt) (declared_goes d from t.from tall how vs ds w u after l.by_end c))

-- ---- a plain `for`

-- up to what stands in the parentheses
for_goes : {h : ℕ} {us : List Lexeme} {V : Parser Grown} {Q : Follow} (d : ℕ) (t u : Lexeme) → t.sort ≡ k.For → u.sort ≡ k.LeftParenthesis → Moves (for_start d t.from) us h V Q → Moves (statement (tree d)) (t ∷ u ∷ us) h V Q
unfolding for_
for_goes {h} d t u c e m =
    moves_at (max 0 (max 0 h)) h (omega arith) (moves_then (keyword d t k.For (for_ (tree d) t.from) c (λ i. refl)) (λ r q. tt) (moves_then (moves_expect k.LeftParenthesis u e left_parenthesis_self) (λ r q. tt) m))

pub for_reads : (d : ℕ) (us vs ws zs ts : List Lexeme) (first test step : Part) (y : Grown) (t u : Lexeme) → t.sort ≡ k.For → u.sort ≡ k.LeftParenthesis
    → FirstClaim (suc d) us first → PerhapsClaim true (suc d) k.Semicolon vs test → PerhapsClaim true (suc d) k.RightParenthesis ws step → Takes (statement (tree d)) zs y.height y (Like ts)
    → Takes (statement (tree (suc d))) (t ∷ u ∷ (us ++ (vs ++ (ws ++ zs)))) (max first.height (tallest test.height step.height y.height) + 1)
    (whole (node.For first.tree test.tree step.tree y.tree) t.from (t ∷ u ∷ (us ++ (vs ++ (ws ++ zs)))) (max first.height (tallest test.height step.height y.height))) (Like ts)
unfolding for_rest for_body tallest
for_reads d us vs ws zs ts first test step y t u c e f g h j =
    moves_whole (node.For first.tree test.tree step.tree y.tree) t.from (max first.height (tallest test.height step.height y.height)) (omega arith) (omega arith)
    (for_goes (suc d) t u c e (moves_then (f t.from) (λ r q. tt)
    (moves_then (moves_on (g (by_semicolon true)) _) (λ r q. tt)
    (moves_then (moves_on (h by_parenthesis) _) (λ r q. tt)
    (moves_on (nest_states d j) (λ y. complete (node.For first.tree test.tree step.tree y.tree) t.from (max first.height (tallest test.height step.height y.height))))))))

-- ---- over keys and values

keys_read : (d : ℕ) (us : List Lexeme) (x : Grown) (p : Lexeme) → Claim d (Expression true) us x → p.sort ≡ k.RightParenthesis → Takes (keys_of (tree d)) (us ++ p ∷ []) x.height x Whatever
unfolding keys_of
keys_read d us x p h c =
    moves_at (max x.height 0) x.height (omega arith)
    (moves_then (moves_on (expression_takes d true us x h) (λ x. expect k.RightParenthesis >>= (λ v. pure x))) (λ r q. loose_sort true p k.RightParenthesis 16 c (λ line. omega arith) r) (moves_expect k.RightParenthesis p c right_parenthesis_self))

values_read : (d : ℕ) (us : List Lexeme) (x : Grown) (p : Lexeme) → Claim d (Assign true) us x → p.sort ≡ k.RightParenthesis → Takes (values_of (tree (suc d))) (us ++ p ∷ []) x.height x Whatever
unfolding values_of
values_read d us x p h c =
    moves_at (max x.height 0) x.height (omega arith)
    (moves_then (moves_on (nest_takes d true us x h) (λ x. expect k.RightParenthesis >>= (λ v. pure x))) (λ r q. loose_sort true p k.RightParenthesis 15 c (λ line. omega arith) r) (moves_expect k.RightParenthesis p c right_parenthesis_self))

in_step : (d from start : ℕ) (h : HeadBinding) (i : Lexeme) → i.sort ≡ k.In → Moves (for_named (tree d) from start h) (i ∷ []) 0 (keys_of (tree d) >>= (λ x. tree d goal.Statement >>= (λ y. complete (node.ForIn h x.tree y.tree) from (max x.height y.height)))) Whatever
unfolding for_named for_in sees sort next
in_step d from start h i c = moves_now (λ r l n q. rw (is_sort k.In i.sort c in_self) refl)

of_step : (d from start : ℕ) (h : HeadBinding) (i : Lexeme) → is_text (codes "of") i ≡ true
    → Moves (for_named (tree d) from start h) (i ∷ []) 0 (values_of (tree d) >>= (λ x. tree d goal.Statement >>= (λ y. complete (node.ForOf h x.tree y.tree) from (max x.height y.height)))) Whatever
unfolding for_named for_of sees sees_text sort next
of_step d from start h i e = moves_now (λ r l n q. rw (other_sort i k.Identifier k.In (word_sort (codes "of") i e) identifier_no_in) (rw e refl))

pub for_in_reads : (d : ℕ) (us vs ts : List Lexeme) (x y : Grown) (how : HeadKind) (t u v w i p : Lexeme) → t.sort ≡ k.For → u.sort ≡ k.LeftParenthesis → declaring_word v.sort ≡ Some how → w.sort ≡ k.Identifier → i.sort ≡ k.In
    → Claim (suc d) (Expression true) us x → p.sort ≡ k.RightParenthesis → Takes (statement (tree d)) vs y.height y (Like ts)
    → Takes (statement (tree (suc d))) (t ∷ u ∷ v ∷ w ∷ i ∷ (us ++ p ∷ vs)) (max x.height y.height + 1)
    (whole (node.ForIn (record { kind = how; binding = binding_of w }) x.tree y.tree) t.from (t ∷ u ∷ v ∷ w ∷ i ∷ (us ++ p ∷ vs)) (max x.height y.height)) (Like ts)
for_in_reads d us vs ts x y how t u v w i p c e f a g h q j =
    let head : HeadBinding = record { kind = how; binding = binding_of w } in
    moves_whole (node.ForIn head x.tree y.tree) t.from (max x.height y.height) (omega arith) (omega arith)
    (for_goes (suc d) t u c e (moves_then (named_goes (suc d) t.from how v w f a) (λ r z. tt)
    (moves_then (in_step (suc d) t.from v.from head i g) (λ r z. tt)
    (moves_tokens (append_assoc us (p ∷ []) vs) (moves_then (moves_on (keys_read (suc d) us x p h q) _) (λ r z. tt)
    (moves_on (nest_states d j) (λ y. complete (node.ForIn head x.tree y.tree) t.from (max x.height y.height))))))))

pub for_of_reads : (d : ℕ) (us vs ts : List Lexeme) (x y : Grown) (how : HeadKind) (t u v w i p : Lexeme) → t.sort ≡ k.For → u.sort ≡ k.LeftParenthesis → declaring_word v.sort ≡ Some how → w.sort ≡ k.Identifier
    → is_text (codes "of") i ≡ true → Claim d (Assign true) us x → p.sort ≡ k.RightParenthesis → Takes (statement (tree d)) vs y.height y (Like ts)
    → Takes (statement (tree (suc d))) (t ∷ u ∷ v ∷ w ∷ i ∷ (us ++ p ∷ vs)) (max x.height y.height + 1)
    (whole (node.ForOf (record { kind = how; binding = binding_of w }) x.tree y.tree) t.from (t ∷ u ∷ v ∷ w ∷ i ∷ (us ++ p ∷ vs)) (max x.height y.height)) (Like ts)
for_of_reads d us vs ts x y how t u v w i p c e f a g h q j =
    let head : HeadBinding = record { kind = how; binding = binding_of w } in
    moves_whole (node.ForOf head x.tree y.tree) t.from (max x.height y.height) (omega arith) (omega arith)
    (for_goes (suc d) t u c e (moves_then (named_goes (suc d) t.from how v w f a) (λ r z. tt)
    (moves_then (of_step (suc d) t.from v.from head i g) (λ r z. tt)
    (moves_tokens (append_assoc us (p ∷ []) vs) (moves_then (moves_on (values_read d us x p h q) _) (λ r z. tt)
    (moves_on (nest_states d j) (λ y. complete (node.ForOf head x.tree y.tree) t.from (max x.height y.height))))))))

-- ---- with a target

in_target_step : (d from : ℕ) (z : Grown) (i : Lexeme) → is_target z ≡ true → i.sort ≡ k.In
    → Moves (for_expression (tree d) from z) (i ∷ []) 0 (keys_of (tree d) >>= (λ x. tree d goal.Statement >>= (λ y. complete (node.ForInTarget z.tree x.tree y.tree) from (tallest z.height x.height y.height)))) Whatever
unfolding for_expression for_in_target sees sort next
in_target_step d from z i is c = moves_now (λ r l n q. rw is (rw (is_sort k.In i.sort c in_self) refl))

of_target_step : (d from : ℕ) (z : Grown) (i : Lexeme) → is_target z ≡ true → is_text (codes "of") i ≡ true
    → Moves (for_expression (tree d) from z) (i ∷ []) 0 (values_of (tree d) >>= (λ x. tree d goal.Statement >>= (λ y. complete (node.ForOfTarget z.tree x.tree y.tree) from (tallest z.height x.height y.height)))) Whatever
unfolding for_expression for_of_target sees sees_text sort next
of_target_step d from z i is e = moves_now (λ r l n q. rw is (rw (other_sort i k.Identifier k.In (word_sort (codes "of") i e) identifier_no_in) (rw e refl)))

pub for_in_target_reads : (d : ℕ) (us vs ws ts : List Lexeme) (z x y : Grown) (t u i p : Lexeme) → t.sort ≡ k.For → u.sort ≡ k.LeftParenthesis → Derives (suc d) (Expression false) us z → Claim (suc d) (Expression false) us z
    → is_target z ≡ true → i.sort ≡ k.In → Claim (suc d) (Expression true) vs x → p.sort ≡ k.RightParenthesis → Takes (statement (tree d)) ws y.height y (Like ts)
    → Takes (statement (tree (suc d))) (t ∷ u ∷ (us ++ i ∷ (vs ++ p ∷ ws))) (tallest z.height x.height y.height + 1)
    (whole (node.ForInTarget z.tree x.tree y.tree) t.from (t ∷ u ∷ (us ++ i ∷ (vs ++ p ∷ ws))) (tallest z.height x.height y.height)) (Like ts)
unfolding tallest
for_in_target_reads d us vs ws ts z x y t u i p c e derives a is g h q j =
    moves_whole (node.ForInTarget z.tree x.tree y.tree) t.from (tallest z.height x.height y.height) (omega arith) (omega arith)
    (for_goes (suc d) t u c e (moves_then (expression_goes (suc d) t.from us z derives a) (λ r w. loose_sort false i k.In 16 g (λ line. omega arith) ((vs ++ p ∷ ws) ++ r))
    (moves_then (in_target_step (suc d) t.from z i is g) (λ r w. tt)
    (moves_tokens (append_assoc vs (p ∷ []) ws) (moves_then (moves_on (keys_read (suc d) vs x p h q) _) (λ r w. tt)
    (moves_on (nest_states d j) (λ y. complete (node.ForInTarget z.tree x.tree y.tree) t.from (tallest z.height x.height y.height))))))))

pub for_of_target_reads : (d : ℕ) (us vs ws ts : List Lexeme) (z x y : Grown) (t u i p : Lexeme) → t.sort ≡ k.For → u.sort ≡ k.LeftParenthesis → Derives (suc d) (Expression false) us z → Claim (suc d) (Expression false) us z
    → is_target z ≡ true → is_text (codes "of") i ≡ true → Claim d (Assign true) vs x → p.sort ≡ k.RightParenthesis → Takes (statement (tree d)) ws y.height y (Like ts)
    → Takes (statement (tree (suc d))) (t ∷ u ∷ (us ++ i ∷ (vs ++ p ∷ ws))) (tallest z.height x.height y.height + 1)
    (whole (node.ForOfTarget z.tree x.tree y.tree) t.from (t ∷ u ∷ (us ++ i ∷ (vs ++ p ∷ ws))) (tallest z.height x.height y.height)) (Like ts)
unfolding tallest
for_of_target_reads d us vs ws ts z x y t u i p c e derives a is g h q j =
    moves_whole (node.ForOfTarget z.tree x.tree y.tree) t.from (tallest z.height x.height y.height) (omega arith) (omega arith)
    (for_goes (suc d) t u c e (moves_then (expression_goes (suc d) t.from us z derives a) (λ r w. loose_sort false i k.Identifier 16 (word_sort (codes "of") i g) (λ line. omega arith) ((vs ++ p ∷ ws) ++ r))
    (moves_then (of_target_step (suc d) t.from z i is g) (λ r w. tt)
    (moves_tokens (append_assoc vs (p ∷ []) ws) (moves_then (moves_on (values_read d vs x p h q) _) (λ r w. tt)
    (moves_on (nest_states d j) (λ y. complete (node.ForOfTarget z.tree x.tree y.tree) t.from (tallest z.height x.height y.height))))))))
