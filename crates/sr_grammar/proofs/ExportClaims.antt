-- What derives is read: exports of declarations, functions and values.
use Rattle.std.proofs.Common.{◌≡◌, ℕ, suc, ◌+◌, ◌≤◌, ◌<◌, true, false, List, [], ◌∷◌, ◌++◌, length, None, Some, refl, sym, ap, ◌∙◌, subst, append_assoc, arith}
use Rattle.sr_ast.specs.declared.binding.HeadKind.{HeadKind}
use Rattle.sr_ast.specs.declared.binding.Parameters.{Parameters}
use Rattle.sr_ast.specs.declared.tree.Node.{Node}
use Rattle.sr_ast.specs.declared.tree.Node.TheVariants as node
use Rattle.sr_ast.specs.declared.tree.Declaration.{Declaration}
use Rattle.sr_syntax.specs.declared.sorts.Sort.TheVariants as k
use Rattle.sr_syntax.specs.declared.sorts.Sort.{Sort}
use Rattle.sr_syntax.specs.declared.sorts.Lexeme.{Lexeme}
use Rattle.sr_syntax.specs.declared.grown.Grown.{Grown}
use Rattle.sr_syntax.specs.declared.grown.Grove.{Grove}
use Rattle.sr_syntax.specs.Sorts.{same_sort}
use Rattle.sr_syntax.specs.Input.{Input, Parser, ◌>>=◌, sees, sort, sort_at, place, next, complete, semicolon, max_depth}
use Rattle.sr_syntax.specs.Bodies.{binding_if_there, declared_function}
use Rattle.sr_syntax.specs.Expressions.{assign}
use Rattle.sr_syntax.specs.Declarations.{declaring, declarations}
use Rattle.sr_syntax.specs.Modules.{exported_by, exported_function, default_function, default_value, export_default, export_by, module_item}
use Rattle.sr_syntax.specs.Grammar.{tree}
use Rattle.sr_grammar.specs.Names.{binding_of, declaring_word}
use Rattle.sr_grammar.specs.Reading.{EndsThere}
use Rattle.sr_grammar.specs.Derivations.{Derives, Assign, Semicolon, whole}
use Rattle.sr_grammar.specs.Continuing.{Ends}
use Rattle.sr_grammar.proofs.Steps.{inp, some_is}
use Rattle.sr_grammar.proofs.Starting.{some_tokens}
use Rattle.sr_grammar.proofs.Completing.{is_sort, looser}
use Rattle.sr_grammar.proofs.Claims.{Claim}
use Rattle.sr_grammar.proofs.Taking.{Whatever, Follow, Like, Moves, Takes, moves_then, moves_first, moves_on, moves_to, moves_is, moves_when, moves_now, moves_whole, moves_whole_on, moves_through}
use Rattle.sr_grammar.proofs.FunctionClaims.{sort_in, FunctionClaim, first_no_name, no_binding_read, some_binding_read, declaration_end}
use Rattle.sr_grammar.proofs.StatementClaims.{ended_by}
use Rattle.sr_grammar.proofs.StatementClaims as statements
use Rattle.sr_grammar.proofs.FunctionClaims as functions
use Rattle.sr_grammar.proofs.ModuleClaims.{export_step}
use Rattle.sr_grammar.proofs.Sorts.{function_self}

plus_one : (a : ℕ) → a + 1 ≡ suc a
plus_one a = omega arith

-- a whole tree around the whole tree of all tokens but the first
around : {P : Parser Grown} {Q : Follow} {us : List Lexeme} {h : ℕ} (outer : Grown → Node) (t : Lexeme) (nd : Node) (from tall : ℕ) → 0 < length us → h ≤ tall
    → Moves P (t ∷ us) h (complete nd from tall >>= (λ x. complete (outer x) t.from x.height)) Q
    → Takes P (t ∷ us) (suc tall + 1) (whole (outer (whole nd from (t ∷ us) tall)) t.from (t ∷ us) (suc tall)) Q
around {us = us} {h} outer t nd from tall some low m =
    let inner : Grown = whole nd from (t ∷ us) tall in
    moves_whole (outer inner) t.from (suc tall) (omega arith) (omega arith)
    (moves_to (moves_whole_on nd from tall (omega arith) low (λ x. complete (outer x) t.from x.height) m) (λ i. ap (λ a. complete (outer inner) t.from a i) (plus_one tall)))

-- ---- declarations

exported_is : (d from start : ℕ) (how : HeadKind) (s : Sort) (i : Input) → declaring_word s ≡ Some how → export_by (tree d) from start s i ≡ exported_by (tree d) how from start (next i)
exported_is d from start how k.Var i e = some_is (λ a. export_by (tree d) from start k.Var i ≡ exported_by (tree d) a from start (next i)) e refl
exported_is d from start how k.Let i e = some_is (λ a. export_by (tree d) from start k.Let i ≡ exported_by (tree d) a from start (next i)) e refl
exported_is d from start how k.Const i e = some_is (λ a. export_by (tree d) from start k.Const i ≡ exported_by (tree d) a from start (next i)) e refl
exported_is d from start how _ i e = cc

pub export_declarations_reads : (d tall : ℕ) (us vs ts : List Lexeme) (ds : List Declaration) (how : HeadKind) (t w : Lexeme) → t.sort ≡ k.Export → declaring_word w.sort ≡ Some how
    → Takes (declarations (tree d) true) us tall (ds, tall) (Ends true 16) → (EndsThere (declarations (tree d) true) us ts (ds, tall) → tall ≤ max_depth)
    → Semicolon (EndsThere (declarations (tree d) true) us ts (ds, tall)) vs ts
    → Takes (module_item (tree d)) (t ∷ w ∷ (us ++ vs)) (suc tall + 1)
    (whole (node.Export (whole (declaring how ds) w.from (w ∷ (us ++ vs)) tall).tree) t.from (t ∷ w ∷ (us ++ vs)) (suc tall)) (Like ts)
unfolding exported_by
export_declarations_reads d tall us vs ts ds how t w c e i low f =
    around (λ x. node.Export x.tree) t (declaring how ds) w.from tall (omega arith) (omega arith)
    (moves_then (export_step d t w w.sort (exported_by (tree d) how t.from w.from) c refl (λ j. exported_is d t.from w.from how w.sort j e)) (λ r q. tt)
    (moves_through (statements.declared_end d tall us vs ts ds how w.from i low f) (λ x. complete (node.Export x.tree) t.from x.height)))

-- ---- functions

pub export_function_reads : {ps : Parameters} {xs : Grove} (d : ℕ) (us ts : List Lexeme) (t f u : Lexeme) → t.sort ≡ k.Export → f.sort ≡ k.Function → u.sort ≡ k.Identifier → FunctionClaim d us ps xs
    → Takes (module_item (tree d)) (t ∷ f ∷ u ∷ us) (suc xs.tall + 1)
    (whole (node.Export (whole (node.FunctionDeclaration (Some (binding_of u)) ps xs.trees) f.from (f ∷ u ∷ us) xs.tall).tree) t.from (t ∷ f ∷ u ∷ us) (suc xs.tall)) (Like ts)
unfolding exported_function
export_function_reads {ps} {xs} d us ts t f u c e i w =
    moves_when (λ r q. tt) (around (λ x. node.Export x.tree) t (node.FunctionDeclaration (Some (binding_of u)) ps xs.trees) f.from xs.tall (omega arith) (omega arith)
    (moves_then (export_step d t f k.Function (exported_function (tree d) t.from f.from) c e (λ j. refl)) (λ r q. tt)
    (moves_through (declaration_end w f.from u i) (λ x. complete (node.Export x.tree) t.from x.height))))

-- "export" "default" "function"
default_function_goes : (d : ℕ) (t m f : Lexeme) → t.sort ≡ k.Export → m.sort ≡ k.Default → f.sort ≡ k.Function
    → Moves (module_item (tree d)) (t ∷ m ∷ f ∷ []) 0 (binding_if_there >>= (λ called. declared_function (tree d) f.from called >>= (λ x. complete (node.ExportDefault x.tree) t.from x.height))) Whatever
unfolding export_default default_function sees sort place next
default_function_goes d t m f c e i =
    moves_then (export_step d t m k.Default (export_default (tree d) t.from) c e (λ j. refl)) (λ r q. tt) (moves_now (λ r l n q. rw (is_sort k.Function f.sort i function_self) refl))

pub export_default_function_reads : {ps : Parameters} {xs : Grove} (d : ℕ) (us ts : List Lexeme) (t m f : Lexeme) → t.sort ≡ k.Export → m.sort ≡ k.Default → f.sort ≡ k.Function → FunctionClaim d us ps xs
    → Takes (module_item (tree d)) (t ∷ m ∷ f ∷ us) (suc xs.tall + 1)
    (whole (node.ExportDefault (whole (node.FunctionDeclaration None ps xs.trees) f.from (f ∷ us) xs.tall).tree) t.from (t ∷ m ∷ f ∷ us) (suc xs.tall)) (Like ts)
export_default_function_reads {ps} {xs} d us ts t m f c e i w =
    moves_when (λ r q. tt) (around (λ x. node.ExportDefault x.tree) t (node.FunctionDeclaration None ps xs.trees) f.from xs.tall (omega arith) (omega arith)
    (moves_then (default_function_goes d t m f c e i) (λ r q. tt)
    (moves_first (moves_on no_binding_read _) (λ r q. first_no_name w r) (moves_through (functions.declared_end w f.from None) (λ x. complete (node.ExportDefault x.tree) t.from x.height)))))

pub export_default_named_reads : {ps : Parameters} {xs : Grove} (d : ℕ) (us ts : List Lexeme) (t m f u : Lexeme) → t.sort ≡ k.Export → m.sort ≡ k.Default → f.sort ≡ k.Function → u.sort ≡ k.Identifier → FunctionClaim d us ps xs
    → Takes (module_item (tree d)) (t ∷ m ∷ f ∷ u ∷ us) (suc xs.tall + 1)
    (whole (node.ExportDefault (whole (node.FunctionDeclaration (Some (binding_of u)) ps xs.trees) f.from (f ∷ u ∷ us) xs.tall).tree) t.from (t ∷ m ∷ f ∷ u ∷ us) (suc xs.tall)) (Like ts)
export_default_named_reads {ps} {xs} d us ts t m f u c e i j w =
    moves_when (λ r q. tt) (around (λ x. node.ExportDefault x.tree) t (node.FunctionDeclaration (Some (binding_of u)) ps xs.trees) f.from xs.tall (omega arith) (omega arith)
    (moves_then (default_function_goes d t m f c e i) (λ r q. tt)
    (moves_then (moves_on (some_binding_read u j) _) (λ r q. tt) (moves_through (functions.declared_end w f.from (Some (binding_of u))) (λ x. complete (node.ExportDefault x.tree) t.from x.height)))))

-- ---- values

pub export_default_value_reads : (d : ℕ) (us vs ts : List Lexeme) (x : Grown) (t m : Lexeme) → t.sort ≡ k.Export → m.sort ≡ k.Default → same_sort (sort_at us) k.Function ≡ false → Derives d (Assign true) us x
    → Claim d (Assign true) us x → (EndsThere (assign (tree d) true) us ts x → x.height ≤ max_depth) → Semicolon (EndsThere (assign (tree d) true) us ts x) vs ts
    → Takes (module_item (tree (suc d))) (t ∷ m ∷ (us ++ vs)) (x.height + 1) (whole (node.ExportDefault x.tree) t.from (t ∷ m ∷ (us ++ vs)) x.height) (Like ts)
unfolding export_default default_value sees sort tree
export_default_value_reads d us vs ts x t m c e o derives h low f =
    let close : Grown → Parser Grown = λ x. complete (node.ExportDefault x.tree) t.from x.height in
    let goes : Parser Grown = assign (tree d) true >>= (λ x. semicolon >>= (λ u. close x)) in
    moves_whole (node.ExportDefault x.tree) t.from x.height (omega arith) (omega arith)
    (moves_then (export_step (suc d) t m k.Default (export_default (tree (suc d)) t.from) c e (λ j. refl)) (λ r q. tt)
    (moves_is {V = goes} (λ r l n q. subst (λ zs. export_default (tree (suc d)) t.from (inp zs l n) ≡ goes (inp zs l n)) (sym (append_assoc us vs r)) (rw (ap (λ s. same_sort s k.Function) (sort_in us (vs ++ r) (some_tokens derives)) ∙ o) refl))
    (ended_by (assign (tree d) true) us x.height (λ r l n q. h r l n (looser true 15 16 (omega arith) r q)) low f close)))
