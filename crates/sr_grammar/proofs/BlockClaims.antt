-- What derives is read: blocks, `try`, and items one after the other.
use Rattle.std.proofs.Common.{◌≡◌, ℕ, suc, ◌+◌, max, true, false, List, [], ◌∷◌, ◌++◌, Option, None, Some, refl, ap, ◌∙◌, subst, append-nil, arith, if◌then◌else◌}
use Rattle.sr_ast.specs.declared.binding.Binding.{Binding}
use Rattle.sr_ast.specs.declared.binding.Parameters.{Parameters}
use Rattle.sr_ast.specs.declared.tree.Node.TheVariants as node
use Rattle.sr_syntax.specs.declared.sorts.Sort.TheVariants as k
use Rattle.sr_syntax.specs.declared.sorts.Sort.{Sort}
use Rattle.sr_syntax.specs.declared.sorts.Lexeme.{Lexeme}
use Rattle.sr_syntax.specs.declared.grown.Grown.{Grown}
use Rattle.sr_syntax.specs.declared.grown.Grove.{Grove}
use Rattle.sr_syntax.specs.declared.grown.Part.{Part}
use Rattle.sr_syntax.specs.Sorts.{same_sort}
use Rattle.sr_syntax.specs.Input.{Parser, ◌>>=◌, eat, expect, sort, sort_at, place, complete}
use Rattle.sr_syntax.specs.Operators.{none, with, nothing, part_of, tallest}
use Rattle.sr_syntax.specs.Bodies.{items, block, function_declaration}
use Rattle.sr_syntax.specs.Statements.{ends_clause, clause_from, catch_parameter, inner_block, finally_, catch_end, catch_, try_, statement, item}
use Rattle.sr_syntax.specs.Grammar.{tree}
use Rattle.sr_grammar.specs.Names.{binding_of}
use Rattle.sr_grammar.specs.Derivations.{IsItem, whole}
use Rattle.sr_grammar.proofs.Steps.{sort_alike}
use Rattle.sr_grammar.proofs.Taking.{Whatever, Follow, Like, Moves, Takes, moves_then, moves_first, moves_on, moves_at, moves_is, moves_when, moves_whole, moves_expect, moves_eat, No, moves_over, loops_none, loops_more, goes_none, goes_then}
use Rattle.sr_grammar.proofs.ParameterClaims.{other_sort}
use Rattle.sr_grammar.proofs.FunctionClaims.{in_body, ItemClaim, ItemsClaim, FunctionClaim, declaration_end, function_inside}
use Rattle.sr_grammar.proofs.Statings.{itemizing, item_begins, item_some}
use Rattle.sr_grammar.proofs.StatementClaims.{keyword, item_step}
use Rattle.sr_grammar.proofs.Sorts.{catch_self, finally_no_catch, finally_self, left_brace_no_left_parenthesis, left_brace_self}

-- ---- items one after the other

pub no_items_read : (d : ℕ) (ts : List Lexeme) → ItemsClaim d [] ts none
no_items_read d ts = record { items = λ outer. goes_none (in_body d outer none) (Like ts); clause = loops_none (clause_from (tree d)) none (Like ts) }

item_no_end : (s : Sort) → itemizing s ≡ true → ends_clause s ≡ false
item_no_end k.Case e = cc
item_no_end k.Default e = cc
item_no_end k.RightBrace e = cc
item_no_end _ e = refl

clause_turn : {d : ℕ} {us ts : List Lexeme} {x : Grown} (m : ℕ) (xs : Grove) → IsItem d us ts x → Takes (item (tree d)) us x.height x (Like ts) → Moves (clause_from (tree d) (suc m) xs) us x.height (clause_from (tree d) m (with xs x)) (Like ts)
unfolding clause_from sort
clause_turn {d} {us} {x = x} m xs derives h =
    moves_is {V = item (tree d) >>= (λ x. clause_from (tree d) m (with xs x))} (λ r l n q. rw (item_no_end (sort_at (us ++ r)) (item_begins derives r)) refl) (moves_on h (λ x. clause_from (tree d) m (with xs x)))

pub one_more_item_read : {d : ℕ} {us vs ts : List Lexeme} {xs : Grove} {x : Grown} → ItemsClaim d us (vs ++ ts) xs → IsItem d vs ts x → ItemClaim d vs ts x → ItemsClaim d (us ++ vs) ts (with xs x)
one_more_item_read {vs = vs} {ts} {xs} w derives h = record {
  items = λ outer. goes_then (w.items outer) (λ r q. alike vs r q) (h.inside outer xs);
  clause = loops_more w.clause (λ r q. alike vs r q) (item_some derives) (λ m. clause_turn m xs derives h.alone);
}
  where
    alike : (vs r : List Lexeme) → Like ts r → Like (vs ++ ts) (vs ++ r)
    alike [] r q = q
    alike (v ∷ vs) r q = refl

-- ---- functions that are declared

function_alone : {d : ℕ} {us : List Lexeme} {ps : Parameters} {xs : Grove} (ts : List Lexeme) (t u : Lexeme) → t.sort ≡ k.Function → u.sort ≡ k.Identifier → FunctionClaim d us ps xs
    → Takes (item (tree d)) (t ∷ u ∷ us) (xs.tall + 1) (whole (node.FunctionDeclaration (Some (binding_of u)) ps xs.trees) t.from (t ∷ u ∷ us) xs.tall) (Like ts)
function_alone {d} {ps = ps} {xs} ts t u c e w =
    moves_when (λ r q. tt) (moves_whole (node.FunctionDeclaration (Some (binding_of u)) ps xs.trees) t.from xs.tall (omega arith) (omega arith)
    (moves_then (item_step d t k.Function (function_declaration (tree d) t.from) c (λ i. refl)) (λ r q. tt) (declaration_end w t.from u e)))

pub function_item_reads : {d : ℕ} {us : List Lexeme} {ps : Parameters} {xs : Grove} (ts : List Lexeme) (t u : Lexeme) → t.sort ≡ k.Function → u.sort ≡ k.Identifier → FunctionClaim d us ps xs
    → ItemClaim d (t ∷ u ∷ us) ts (whole (node.FunctionDeclaration (Some (binding_of u)) ps xs.trees) t.from (t ∷ u ∷ us) xs.tall)
function_item_reads ts t u c e w = record { alone = function_alone ts t u c e w; inside = function_inside ts t u c e w }

-- ---- blocks

pub data BlockClaim (d : ℕ) : List Lexeme → Grown → Type 0 where
  block_claim : {us : List Lexeme} {xs : Grove} (t : Lexeme) → t.sort ≡ k.LeftBrace → Takes (items (tree d)) us xs.tall xs Whatever → BlockClaim d (t ∷ us) (whole (node.Block xs.trees) t.from (t ∷ us) xs.tall)

pub block_reads : {d : ℕ} {us : List Lexeme} {x : Grown} (ts : List Lexeme) → BlockClaim d us x → Takes (statement (tree d)) us x.height x (Like ts)
unfolding block
block_reads {d} ts (block_claim {us} {xs} t c w) =
    moves_when (λ r q. tt) (moves_whole (node.Block xs.trees) t.from xs.tall (omega arith) (omega arith)
    (moves_then (keyword d t k.LeftBrace (block (tree d) t.from) c (λ i. refl)) (λ r q. tt) (moves_on w (λ all. complete (node.Block all.trees) t.from all.tall))))

inner_is : (d : ℕ) (t : Lexeme) → t.sort ≡ k.LeftBrace → Moves (inner_block (tree d)) (t ∷ []) 0 (block (tree d) t.from) Whatever
unfolding inner_block place
inner_is d t c = moves_is {V = expect k.LeftBrace >>= (λ u. block (tree d) t.from)} (λ r l n q. refl) (moves_expect k.LeftBrace t c left_brace_self)

inner_read : {d : ℕ} {us : List Lexeme} {x : Grown} → BlockClaim d us x → Takes (inner_block (tree d)) us x.height x Whatever
unfolding block
inner_read {d} (block_claim {us} {xs} t c w) =
    moves_whole (node.Block xs.trees) t.from xs.tall (omega arith) (omega arith) (moves_then (inner_is d t c) (λ r q. tt) (moves_on w (λ all. complete (node.Block all.trees) t.from all.tall)))

block_first : {d : ℕ} {us : List Lexeme} {x : Grown} → BlockClaim d us x → (r : List Lexeme) → sort_at (us ++ r) ≡ k.LeftBrace
block_first (block_claim t c w) r = c

-- ---- `try`

pub data CatchClaim (d : ℕ) : List Lexeme → Option Binding → Grown → Type 0 where
  catch_claim : {us vs : List Lexeme} {p : Option Binding} {x : Grown} (t : Lexeme) → t.sort ≡ k.Catch → Takes catch_parameter us 0 p (No k.LeftParenthesis) → BlockClaim d vs x → CatchClaim d (t ∷ (us ++ vs)) p x

pub data FinallyClaim (d : ℕ) : List Lexeme → Grown → Type 0 where
  finally_claim : {us : List Lexeme} {x : Grown} (t : Lexeme) → t.sort ≡ k.Finally → BlockClaim d us x → FinallyClaim d (t ∷ us) x

finally_end : {d : ℕ} {us : List Lexeme} {z : Grown} (from : ℕ) (x : Grown) (p : Option Binding) (handler : Part) → BlockClaim d us z
    → Moves (finally_ (tree d) from x p handler) us z.height (complete (node.Try x.tree p handler.tree (Some z.tree)) from (tallest x.height handler.height z.height)) Whatever
unfolding finally_
finally_end from x p handler w = moves_on (inner_read w) (λ y. complete (node.Try x.tree p handler.tree (Some y.tree)) from (tallest x.height handler.height y.height))

-- "try" and its block
try_goes : {h : ℕ} {us vs : List Lexeme} {x : Grown} {V : Parser Grown} {Q : Follow} (d : ℕ) (t : Lexeme) → t.sort ≡ k.Try → BlockClaim d us x
    → Moves (eat k.Catch >>= (λ has_catch. if has_catch then catch_ (tree d) t.from x else (expect k.Finally >>= (λ u. finally_ (tree d) t.from x None nothing)))) vs h V Q
    → Moves (statement (tree d)) (t ∷ (us ++ vs)) (max x.height h) V Q
unfolding try_
try_goes {h} {x = x} d t c w m =
    moves_at (max 0 (max x.height h)) (max x.height h) (omega arith)
    (moves_then (keyword d t k.Try (try_ (tree d) t.from) c (λ i. refl)) (λ r q. tt)
    (moves_then (moves_on (inner_read w) (λ x. eat k.Catch >>= (λ has_catch. if has_catch then catch_ (tree d) t.from x else (expect k.Finally >>= (λ u. finally_ (tree d) t.from x None nothing))))) (λ r q. tt) m))

pub try_finally_reads : {d : ℕ} {us vs : List Lexeme} {x z : Grown} (ts : List Lexeme) (t : Lexeme) → t.sort ≡ k.Try → BlockClaim d us x → FinallyClaim d vs z
    → Takes (statement (tree d)) (t ∷ (us ++ vs)) (tallest x.height 0 z.height + 1) (whole (node.Try x.tree None None (Some z.tree)) t.from (t ∷ (us ++ vs)) (tallest x.height 0 z.height)) (Like ts)
unfolding tallest
try_finally_reads {d} {x = x} {z} ts t c w (finally_claim u e h) =
    moves_when (λ r q. tt) (moves_whole (node.Try x.tree None None (Some z.tree)) t.from (tallest x.height 0 z.height) (omega arith) (omega arith)
    (try_goes d t c w (moves_first (moves_over k.Catch _ _) (λ r q. other_sort u k.Finally k.Catch e finally_no_catch) (moves_then (moves_expect k.Finally u e finally_self) (λ r q. tt) (finally_end t.from x None nothing h)))))

-- "catch", its parameter and its block
catch_goes : {h : ℕ} {us vs : List Lexeme} {p : Option Binding} {y : Grown} {V : Parser Grown} {Q : Follow} (d from : ℕ) (x : Grown) → CatchClaim d us p y → Moves (catch_end (tree d) from x p y) vs h V Q
    → Moves (eat k.Catch >>= (λ has_catch. if has_catch then catch_ (tree d) from x else (expect k.Finally >>= (λ u. finally_ (tree d) from x None nothing)))) (us ++ vs) (max y.height h) V Q
unfolding catch_
catch_goes {h} {y = y} d from x (catch_claim t c p w) m =
    moves_at (max (max 0 (max 0 y.height)) h) (max y.height h) (omega arith)
    (moves_then (moves_then (moves_eat k.Catch _ _ t c catch_self) (λ r q. tt) (moves_then (moves_on p _) (λ r q. ap (λ s. same_sort s k.LeftParenthesis) (block_first w r) ∙ left_brace_no_left_parenthesis) (moves_on (inner_read w) _))) (λ r q. tt) m)

pub try_catch_reads : {d : ℕ} {us vs : List Lexeme} {p : Option Binding} {x y : Grown} (ts : List Lexeme) (t : Lexeme) → t.sort ≡ k.Try → BlockClaim d us x → CatchClaim d vs p y → same_sort (sort_at ts) k.Finally ≡ false
    → Takes (statement (tree d)) (t ∷ (us ++ vs)) (max x.height y.height + 1) (whole (node.Try x.tree p (Some y.tree) None) t.from (t ∷ (us ++ vs)) (max x.height y.height)) (Like ts)
unfolding catch_end
try_catch_reads {d} {us} {vs} {p} {x} {y} ts t c w h e =
    moves_whole (node.Try x.tree p (Some y.tree) None) t.from (max x.height y.height) (omega arith) (omega arith)
    (try_goes d t c w (subst (λ zs. Moves (eat k.Catch >>= (λ has_catch. if has_catch then catch_ (tree d) t.from x else (expect k.Finally >>= (λ u. finally_ (tree d) t.from x None nothing)))) zs (max y.height 0) (complete (node.Try x.tree p (Some y.tree) None) t.from (max x.height y.height)) (Like ts)) (append-nil vs)
    (catch_goes d t.from x h (moves_when (λ r q. ap (λ s. same_sort s k.Finally) (sort_alike ts r q) ∙ e) (moves_over k.Finally _ _)))))

pub try_both_reads : {d : ℕ} {us vs ws : List Lexeme} {p : Option Binding} {x y z : Grown} (ts : List Lexeme) (t : Lexeme) → t.sort ≡ k.Try → BlockClaim d us x → CatchClaim d vs p y → FinallyClaim d ws z
    → Takes (statement (tree d)) (t ∷ (us ++ (vs ++ ws))) (tallest x.height y.height z.height + 1)
    (whole (node.Try x.tree p (Some y.tree) (Some z.tree)) t.from (t ∷ (us ++ (vs ++ ws))) (tallest x.height y.height z.height)) (Like ts)
unfolding catch_end tallest
try_both_reads {d} {p = p} {x} {y} {z} ts t c w h (finally_claim u e f) =
    moves_when (λ r q. tt) (moves_whole (node.Try x.tree p (Some y.tree) (Some z.tree)) t.from (tallest x.height y.height z.height) (omega arith) (omega arith)
    (try_goes d t c w (catch_goes d t.from x h (moves_then (moves_eat k.Finally _ _ u e finally_self) (λ r q. tt) (finally_end t.from x p (part_of y) f)))))
