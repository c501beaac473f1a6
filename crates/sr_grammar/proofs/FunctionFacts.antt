-- What the rules of bodies, blocks and functions read, and where they fail.
use Rattle.std.proofs.Common.{◌≡◌, ℕ, ◌≤◌, ◌<◌, List, [], ◌∷◌, ◌++◌, length, Option, Some, Ok, Err, refl, sym, ap, ◌∙◌, subst, append-nil, length-append, arith}
use Rattle.sr_ast.specs.declared.tree.Node.{Node}
use Rattle.sr_ast.specs.declared.tree.Node.TheVariants as node
use Rattle.sr_ast.specs.declared.binding.Binding.{Binding}
use Rattle.sr_ast.specs.declared.binding.Parameters.{Parameters}
use Rattle.sr_syntax.specs.declared.sorts.Sort.TheVariants as k
use Rattle.sr_syntax.specs.declared.sorts.Lexeme.{Lexeme}
use Rattle.sr_syntax.specs.declared.grown.Grown.{Grown}
use Rattle.sr_syntax.specs.declared.grown.Grove.{Grove}
use Rattle.sr_syntax.specs.Input.{Outcome, Parser, ◌>>=◌, and_then, max_depth, complete}
use Rattle.sr_syntax.specs.Operators.{none}
use Rattle.sr_syntax.specs.Bodies.{body, block, parameter_list, declared_function, function_declaration}
use Rattle.sr_syntax.specs.Grammar.{tree}
use Rattle.sr_grammar.specs.Names.{binding_of}
use Rattle.sr_grammar.specs.Derivations.{Body, Block, Function, whole}
use Rattle.sr_grammar.specs.Derivations as g
use Rattle.sr_grammar.specs.Reading.{end_after}
use Rattle.sr_grammar.proofs.Steps.{Fact, Any, Parses, Both, both, Either, first, second, Never, Expected, expected, Here, here, Completed, completed, map, then_any, expecting, completing, ending}
use Rattle.sr_grammar.proofs.Facts.{Mapped, mapped, mapping, Closed, closed, closing, token}
use Rattle.sr_grammar.proofs.Starting.{end_some}
use Rattle.sr_grammar.proofs.Lists.{Nested}
use Rattle.sr_grammar.proofs.Beginnings.{Begun, begun_more, Wholly, wholly, Partly, partly, carry, begun_whole}
use Rattle.sr_grammar.proofs.Choices.{alike}
use Rattle.sr_grammar.proofs.ParameterFacts.{Bound, bound, bindings, ParamList, parameter_lists}
use Rattle.sr_grammar.proofs.PlainFunctions.{Braced, braced, body_of, empty_body, Parts, FunctionOf, function_from, parameters_begin, body_begins, NamedFunction, unnamed, name_begins}
use Rattle.sr_grammar.proofs.OpenFunctions.{Itemed, BeginsItems, begins_items, items_read, braced_of, itemed_fits}
use Rattle.sr_grammar.proofs.Sorts.{end_no_left_brace}

-- ---- bodies

-- a body, no deeper than is read
pub data Bodied (d l n : ℕ) (us ts : List Lexeme) (xs : Grove) : Type 0 where
  bodied : Body d us xs → xs.tall ≤ max_depth → Bodied d l n us ts xs

body_fact : {d l n : ℕ} {us ts : List Lexeme} {xs : Grove} → Both (Expected k.LeftBrace) (λ u. Itemed d) l n us ts xs → Bodied d l n us ts xs
body_fact (both (expected t c) r) = bodied (body_of t c (braced_of r)) (itemed_fits r)

body_fault : {l n : ℕ} {us ts : List Lexeme} → Either Here (Expected k.LeftBrace) (λ u. BeginsItems) l n us ts → Partly Body l n us ts
body_fault (first here) = partly (begun_more 0 [] [] (token k.LeftBrace ∷ token k.RightBrace ∷ []) none empty_body)
body_fault (second (expected t c) (begins_items b)) = partly (carry (t ∷ []) (λ e vs xs h. begun_whole e (t ∷ vs) xs (body_of t c h)) b)

pub bodies : (d : ℕ) → Nested d → Parses (λ e. body (tree e)) d Any (Bodied d) (Partly Body)
unfolding body
bodies d nest = map (λ l n us ts x r. body_fact r) (λ l n us ts r. body_fault r) (then_any (expecting k.LeftBrace end_no_left_brace) (λ u. items_read d nest))

-- ---- blocks, behind their first brace

pub block_of : {d : ℕ} {us : List Lexeme} {xs : Grove} (t : Lexeme) → t.sort ≡ k.LeftBrace → Braced d us xs → Block d (t ∷ us) (whole (node.Block xs.trees) t.from (t ∷ us) xs.tall)
block_of t c (braced u e h) = g.items_in_braces t c u e h

-- with a brace before them, at this place, the tokens are a block
pub data Blocked (from d l n : ℕ) (us ts : List Lexeme) (x : Grown) : Type 0 where
  blocked : ((t : Lexeme) → t.sort ≡ k.LeftBrace → t.from ≡ from → Block d (t ∷ us) x) → x.height ≤ max_depth → Blocked from d l n us ts x

-- and begin one
pub data NotBlocked (l n : ℕ) (us ts : List Lexeme) : Type 0 where
  not_blocked : ((t : Lexeme) → t.sort ≡ k.LeftBrace → Begun Block (t ∷ us)) → NotBlocked l n us ts

braced_some : {d : ℕ} {us : List Lexeme} {xs : Grove} → Braced d us xs → 0 < length us
braced_some (braced {us} u c h) = omega (arith, length-append us (u ∷ []))

block_fact : {d l n from : ℕ} {us ts : List Lexeme} {x : Grown} → Closed (Itemed d) (λ xs. node.Block xs.trees) (λ xs. from) (λ xs. xs.tall) l n us ts x → Blocked from d l n us ts x
block_fact {d} {l} {from = from} {us = us} {x = x} (closed xs r fits is) = blocked
    (λ t c at. subst (λ y. Block d (t ∷ us) y)
    (sym (is ∙ (ap (λ a. ending (node.Block xs.trees) a (end_after l us) xs.tall) (sym at) ∙ ap (λ a. ending (node.Block xs.trees) t.from a xs.tall) (end_some l t.to us (braced_some (braced_of r))))))
    (block_of t c (braced_of r)))
    (subst (λ y. y.height ≤ max_depth) (sym is) (omega (arith, fits)))

block_fault : {l n : ℕ} {us ts : List Lexeme} → BeginsItems l n us ts → NotBlocked l n us ts
block_fault (begins_items b) = not_blocked (λ t c. carry (t ∷ []) (λ e vs xs h. begun_whole e (t ∷ vs) _ (block_of t c h)) b)

pub blocks : (from d : ℕ) → Nested d → Parses (λ e. block (tree e) from) d Any (Blocked from d) NotBlocked
unfolding block
blocks from d nest = map (λ l n us ts x r. block_fact r) (λ l n us ts r. block_fault r) (closing (items_read d nest) (λ xs. node.Block xs.trees) (λ xs. from) (λ xs. xs.tall))

-- ---- functions, behind their names

pub data Functioned (d l n : ℕ) (us ts : List Lexeme) (p : Parts) : Type 0 where
  functioned : Function d us p.0 p.1 → p.1.tall ≤ max_depth → Functioned d l n us ts p

tail_fact : {d l n : ℕ} {us ts : List Lexeme} {p : Parts} → Both (Wholly ParamList d) (λ ps. Mapped (Bodied d) (λ xs. (ps, xs))) l n us ts p → Functioned d l n us ts p
tail_fact {d} {l} {n} (both {us} {vs} {ts} {x = ps} (wholly h) (mapped xs (bodied i b) is)) =
    subst (λ p. Functioned d l n (us ++ vs) ts p) (sym is) (functioned (function_from h i) b)

tail_fault : {d l n : ℕ} {us ts : List Lexeme} → Either (Partly ParamList) (Wholly ParamList d) (λ ps. Partly Body) l n us ts → Partly FunctionOf l n us ts
tail_fault (first (partly b)) = partly (parameters_begin b)
tail_fault (second (wholly h) (partly b)) = partly (body_begins h b)

abbrev pair_with : Parameters → Grove → Parser Parts
pair_with ps xs i = Ok ((ps, xs), i)

abbrev body_with : ℕ → Parameters → Parser Parts
body_with e ps = body (tree e) >>= pair_with ps

pub functions_tail : (d : ℕ) → Nested d → Parses (λ e. parameter_list >>= (λ ps. body_with e ps)) d Any (Functioned d) (Partly FunctionOf)
functions_tail d nest = map (λ l n us ts x r. tail_fact r) (λ l n us ts r. tail_fault r) (then_any parameter_lists (λ ps. mapping (bodies d nest) (λ xs. (ps, xs))))

-- and what is made of them
tail_alike : {A : Type 0} (e : ℕ) (K : Parameters → Grove → Parser A) (o : Outcome Parameters)
    → and_then o (λ ps. body (tree e) >>= (λ xs. K ps xs)) ≡ and_then (and_then o (λ ps. body_with e ps)) (λ p. K p.0 p.1)
tail_alike e K (Ok p) = go (body (tree e) p.1)
  where
    go : (o : Outcome Grove) → and_then o (λ xs. K p.0 xs) ≡ and_then (and_then o (pair_with p.0)) (λ q. K q.0 q.1)
    go (Ok q) = refl
    go (Err r) = refl
tail_alike e K (Err r) = refl

pub functions_then : {A : Type 0} (d : ℕ) → Nested d → (K : Parameters → Grove → Parser A) {R : Parts → Fact A} → ((p : Parts) → Parses (λ e. K p.0 p.1) d Any (R p) Never)
    → Parses (λ e. parameter_list >>= (λ ps. body (tree e) >>= (λ xs. K ps xs))) d Any (Both (Functioned d) R) (Partly FunctionOf)
functions_then {A} d nest K {R} q = alike (λ e i. tail_alike e K (parameter_list i)) (map (λ l n us ts x r. r) (λ l n us ts r. fault r) (then_any (functions_tail d nest) q))
  where
    fault : {l n : ℕ} {us ts : List Lexeme} → Either (Partly FunctionOf) (Functioned d) (λ p. Never) l n us ts → Partly FunctionOf l n us ts
    fault (first b) = b
    fault (second r c) = elim c [ ]

-- ---- what a function makes

-- a function, and the tree that is made of it at this place
pub data FunctionMade (make : Parameters → Grove → Node) (from d l n : ℕ) (us ts : List Lexeme) (x : Grown) : Type 0 where
  function_made : {ps : Parameters} {xs : Grove} → Function d us ps xs → xs.tall < max_depth → x ≡ ending (make ps xs) from (end_after l us) xs.tall → FunctionMade make from d l n us ts x

made_fact : {make : Parameters → Grove → Node} {from d l n : ℕ} {us ts : List Lexeme} {x : Grown}
    → Both (Functioned d) (λ p. Completed (make p.0 p.1) from p.1.tall) l n us ts x → FunctionMade make from d l n us ts x
made_fact {make} {from} {d} {l} {n} (both {us} {ts = ts} {y = x} (functioned h b) (completed fits is)) =
    subst (λ zs. FunctionMade make from d l n zs ts x) (sym (append-nil us)) (function_made h fits is)

pub functions_made : (make : Parameters → Grove → Node) (from d : ℕ) → Nested d
    → Parses (λ e. parameter_list >>= (λ ps. body (tree e) >>= (λ xs. complete (make ps xs) from xs.tall))) d Any (FunctionMade make from d) (Partly FunctionOf)
functions_made make from d nest = map (λ l n us ts x r. made_fact r) (λ l n us ts r. r)
    (functions_then d nest (λ ps xs. complete (make ps xs) from xs.tall) (λ p. completing (make p.0 p.1) from p.1.tall))

-- ---- functions that are declared, behind `function`

abbrev pub declares : Option Binding → Parameters → Grove → Node
declares called ps xs = node.FunctionDeclaration called ps xs.trees

pub declared_functions : (called : Option Binding) (from d : ℕ) → Nested d
    → Parses (λ e. declared_function (tree e) from called) d Any (FunctionMade (declares called) from d) (Partly FunctionOf)
unfolding declared_function
declared_functions called from d nest = functions_made (declares called) from d nest

-- a name, and a function of that name
pub data DeclaredFunction (from d l n : ℕ) : List Lexeme → List Lexeme → Grown → Type 0 where
  declared_by_name : {us ts : List Lexeme} {x : Grown} (u : Lexeme) → u.sort ≡ k.Identifier → FunctionMade (declares (Some (binding_of u))) from d u.to n us ts x
      → DeclaredFunction from d l n (u ∷ us) ts x

declaration_fact : {from d l n : ℕ} {us ts : List Lexeme} {x : Grown} → Both Bound (λ b. FunctionMade (declares (Some b)) from d) l n us ts x → DeclaredFunction from d l n us ts x
declaration_fact {from} {d} {l} {n} (both {vs = us} {ts = ts} {y = x} (bound u c e) r) = declared_by_name u c (subst (λ b. FunctionMade (declares (Some b)) from d u.to n us ts x) e r)

declaration_fault : {l n : ℕ} {us ts : List Lexeme} → Either Here Bound (λ b. Partly FunctionOf) l n us ts → Partly NamedFunction l n us ts
declaration_fault (first here) = partly unnamed
declaration_fault (second (bound u c e) (partly b)) = partly (name_begins u c b)

pub function_declarations : (from d : ℕ) → Nested d → Parses (λ e. function_declaration (tree e) from) d Any (DeclaredFunction from d) (Partly NamedFunction)
unfolding function_declaration
function_declarations from d nest = map (λ l n us ts x r. declaration_fact r) (λ l n us ts r. declaration_fault r) (then_any bindings (λ b. declared_functions (Some b) from d nest))
