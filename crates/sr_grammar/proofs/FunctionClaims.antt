-- What derives is read: bodies, functions and arrow functions.
use Rattle.std.proofs.Common.{◌≡◌, ℕ, suc, ◌+◌, ◌<◌, max, Bool, false, List, [], ◌∷◌, ◌++◌, length, Option, None, Some, refl, ap, ◌∙◌, subst, append_assoc, length-append, arith}
use Rattle.sr_ast.specs.declared.binding.Binding.{Binding}
use Rattle.sr_ast.specs.declared.binding.Parameters.{Parameters}
use Rattle.sr_ast.specs.declared.tree.Node.{Node}
use Rattle.sr_ast.specs.declared.tree.Node.TheVariants as node
use Rattle.sr_syntax.specs.declared.sorts.Sort.{Sort}
use Rattle.sr_syntax.specs.declared.sorts.Sort.TheVariants as k
use Rattle.sr_syntax.specs.declared.sorts.Lexeme.{Lexeme}
use Rattle.sr_syntax.specs.declared.grown.Grown.{Grown}
use Rattle.sr_syntax.specs.declared.grown.Grove.{Grove}
use Rattle.sr_syntax.specs.declared.grown.OpenFunction.{OpenFunction}
use Rattle.sr_syntax.specs.Sorts.{same_sort}
use Rattle.sr_syntax.specs.Input.{Input, Parser, ◌>>=◌, and_then, pure, sees, sort, sort_at, place, ahead, next, complete}
use Rattle.sr_syntax.specs.Operators.{none, with, assign_goal}
use Rattle.sr_syntax.specs.Bodies.{binding_if_there, parameter_list, opened, closed, items_by, items_from, items, body, function_of, function_, declared_function, function_declaration, begins_arrow, arrow_parameters, arrow_token, arrow_body, arrow_end, arrow}
use Rattle.sr_syntax.specs.Expressions.{primary, assign}
use Rattle.sr_syntax.specs.Statements.{item, clause_from}
use Rattle.sr_syntax.specs.Grammar.{tree}
use Rattle.sr_grammar.specs.Names.{binding_of, ArrowHead, one_name, in_parentheses}
use Rattle.sr_grammar.specs.Reading.{end_after}
use Rattle.sr_grammar.specs.Derivations.{Derives, Assign, start_of, whole}
use Rattle.sr_grammar.specs.Continuing.{Ends}
use Rattle.sr_grammar.proofs.Steps.{inp, ending}
use Rattle.sr_grammar.proofs.Starting.{some_tokens}
use Rattle.sr_grammar.proofs.Gets.{gets_is, gets_then, gets_whole}
use Rattle.sr_grammar.proofs.Completing.{is_sort, nest_assign}
use Rattle.sr_grammar.proofs.Claims.{Claim, end_at, primary_is}
use Rattle.sr_grammar.proofs.Taking.{Whatever, Like, Moves, Takes, moves_then, moves_first, moves_on, moves_at, moves_is, moves_now, moves_whole, moves_expect, moves_eat, No, moves_over, Loops, Goes, goes_turn, goes_then, goes_last, goes_at, goes_tokens, goes_when, zero_max}
use Rattle.sr_grammar.proofs.ParameterClaims.{other_sort, binding_read, head_read, arrow_token_read}
use Rattle.sr_grammar.proofs.Sorts.{identifier_self, left_brace_self, left_parenthesis_no_identifier, left_parenthesis_self}

-- the sort of the first of some tokens, where there is one
pub sort_in : (us r : List Lexeme) → 0 < length us → sort_at (us ++ r) ≡ sort_at us
sort_in [] r some = absurd (omega (arith, some))
sort_in (t ∷ us) r some = refl

-- an Assign that is open while it is read
pub nest_takes : (d : ℕ) (b : Bool) (us : List Lexeme) (x : Grown) → Claim d (Assign b) us x → Takes (tree (suc d) (assign_goal b)) us x.height x (Ends b 15)
nest_takes d b us x h = record { gets = λ r l n e. gets_is (assign (tree d) b (inp (us ++ r) l n)) (nest_assign d b (inp (us ++ r) l n)) (h r l n e) }

-- ---- items and bodies

-- the loop over items, in a function that is in these others, behind these items
abbrev pub in_body : ℕ → List OpenFunction → Grove → ℕ → Parser Grove
in_body d outer found m = items_from (tree d) m outer found

-- how an item is read, alone and among others in braces
pub record ItemClaim (d : ℕ) (us ts : List Lexeme) (x : Grown) : Type 0 where
  pub alone : Takes (item (tree d)) us x.height x (Like ts)
  pub inside : (outer : List OpenFunction) (found : Grove) → Goes (in_body d outer found) (in_body d outer (with found x)) us x.height (Like ts)

-- how items are read, in braces and in a clause of a `switch`
pub record ItemsClaim (d : ℕ) (us ts : List Lexeme) (xs : Grove) : Type 0 where
  pub items : (outer : List OpenFunction) → Goes (in_body d outer none) (in_body d outer xs) us xs.tall (Like ts)
  pub clause : Loops (clause_from (tree d)) us xs.tall none xs (Like ts)

-- by the first token
pub items_step : (d m : ℕ) (outer : List OpenFunction) (found : Grove) (t : Lexeme) (v : Sort) (rule : Parser Grove) → t.sort ≡ v
    → ((i : Input) → items_by (tree d) (items_from (tree d) m) outer found t.from v i ≡ rule (next i)) → Moves (in_body d outer found (suc m)) (t ∷ []) 0 rule Whatever
unfolding items_from sort place next
items_step d m outer found t v rule c e = moves_now (λ r l n q. ap (λ a. items_by (tree d) (items_from (tree d) m) outer found t.from a (inp (t ∷ r) l n)) c ∙ e (inp (t ∷ r) l n))

items_over : (d m : ℕ) (xs : Grove) (u : Lexeme) → u.sort ≡ k.RightBrace → Takes (in_body d [] xs (suc m)) (u ∷ []) 0 xs Whatever
items_over d m xs u c = items_step d m [] xs u k.RightBrace (pure xs) c (λ i. refl)

pub items_read : {d : ℕ} {us ts : List Lexeme} {xs : Grove} (u : Lexeme) → u.sort ≡ k.RightBrace → ItemsClaim d us (u ∷ ts) xs → Takes (items (tree d)) (us ++ u ∷ []) xs.tall xs Whatever
unfolding items
items_read {d} {xs = xs} u c w = moves_at (max xs.tall 0) xs.tall (omega arith) (goes_last (w.items []) (λ r q. refl) (λ m. items_over d m xs u c))

-- "{" items "}"
pub data BodyClaim (d : ℕ) : List Lexeme → Grove → Type 0 where
  body_claim : {us ts : List Lexeme} {xs : Grove} (t : Lexeme) → t.sort ≡ k.LeftBrace → (u : Lexeme) → u.sort ≡ k.RightBrace → ItemsClaim d us (u ∷ ts) xs → BodyClaim d (t ∷ (us ++ u ∷ [])) xs

body_read : {d : ℕ} {us : List Lexeme} {xs : Grove} → BodyClaim d us xs → Takes (body (tree d)) us xs.tall xs Whatever
unfolding body
body_read {xs = xs} (body_claim t c u e w) = moves_at (max 0 xs.tall) xs.tall (zero_max xs.tall) (moves_then (moves_expect k.LeftBrace t c left_brace_self) (λ r q. tt) (items_read u e w))

-- what begins with a body and goes on
pub body_goes : {A : Type 0} {d : ℕ} {us : List Lexeme} {xs : Grove} → BodyClaim d us xs → (f : Grove → Parser A) → Moves (body (tree d) >>= f) us xs.tall (f xs) Whatever
body_goes w f = moves_on (body_read w) f

-- ---- functions

-- "(" parameters ")" and a body
pub data FunctionClaim (d : ℕ) : List Lexeme → Parameters → Grove → Type 0 where
  function_claim : {us vs : List Lexeme} {ps : Parameters} {xs : Grove} (t : Lexeme) → t.sort ≡ k.LeftParenthesis → Takes parameter_list (t ∷ us) 0 ps Whatever → BodyClaim d vs xs
      → FunctionClaim d (t ∷ (us ++ vs)) ps xs

pub function_goes : {A : Type 0} {d : ℕ} {us : List Lexeme} {ps : Parameters} {xs : Grove} → FunctionClaim d us ps xs → (f : Parameters → Grove → Parser A)
    → Moves (parameter_list >>= (λ ps. body (tree d) >>= f ps)) us xs.tall (f ps xs) Whatever
function_goes {d} {xs = xs} (function_claim {ps} t c p b) f =
    moves_at (max 0 xs.tall) xs.tall (zero_max xs.tall) (moves_then (moves_on p (λ ps. body (tree d) >>= f ps)) (λ r q. tt) (body_goes b (f ps)))

pub function_first : {d : ℕ} {us : List Lexeme} {ps : Parameters} {xs : Grove} → FunctionClaim d us ps xs → (r : List Lexeme) → sort_at (us ++ r) ≡ k.LeftParenthesis
function_first (function_claim t c p b) r = c

pub no_binding_read : Takes binding_if_there [] 0 None (No k.Identifier)
unfolding binding_if_there sees sort
no_binding_read = moves_now (λ r l n q. rw q refl)

pub some_binding_read : (u : Lexeme) → u.sort ≡ k.Identifier → Takes binding_if_there (u ∷ []) 0 (Some (binding_of u)) Whatever
unfolding binding_if_there sees sort
some_binding_read u c = moves_is (λ r l n q. rw (is_sort k.Identifier u.sort c identifier_self) refl) (moves_on (binding_read u c) (λ x. pure (Some x)))

pub first_no_name : {d : ℕ} {us : List Lexeme} {ps : Parameters} {xs : Grove} → FunctionClaim d us ps xs → (r : List Lexeme) → same_sort (sort_at (us ++ r)) k.Identifier ≡ false
first_no_name w r = ap (λ s. same_sort s k.Identifier) (function_first w r) ∙ left_parenthesis_no_identifier

-- behind the name
function_end : {d : ℕ} {us : List Lexeme} {ps : Parameters} {xs : Grove} → FunctionClaim d us ps xs → (from : ℕ) (called : Option Binding)
    → Moves (function_of (tree d) from called) us xs.tall (complete (node.Function called ps xs.trees) from xs.tall) Whatever
unfolding function_of
function_end w from called = function_goes w (λ ps all. complete (node.Function called ps all.trees) from all.tall)

function_step : (d : ℕ) (t : Lexeme) → t.sort ≡ k.Function → Moves (primary (tree d)) (t ∷ []) 0 (function_ (tree d) t.from) Whatever
unfolding next
function_step d t c = moves_now (λ r l n q. primary_is d t r l n k.Function c)

pub function_alone_reads : {d : ℕ} {us : List Lexeme} {ps : Parameters} {xs : Grove} (t : Lexeme) → t.sort ≡ k.Function → FunctionClaim d us ps xs
    → Takes (primary (tree d)) (t ∷ us) (xs.tall + 1) (whole (node.Function None ps xs.trees) t.from (t ∷ us) xs.tall) Whatever
unfolding function_
function_alone_reads {d} {us} {ps} {xs} t c w =
    moves_whole (node.Function None ps xs.trees) t.from xs.tall (omega arith) (omega arith)
    (moves_then (function_step d t c) (λ r q. tt) (moves_first (moves_on no_binding_read _) (λ r q. first_no_name w r) (function_end w t.from None)))

pub function_named_reads : {d : ℕ} {us : List Lexeme} {ps : Parameters} {xs : Grove} (t u : Lexeme) → t.sort ≡ k.Function → u.sort ≡ k.Identifier → FunctionClaim d us ps xs
    → Takes (primary (tree d)) (t ∷ u ∷ us) (xs.tall + 1) (whole (node.Function (Some (binding_of u)) ps xs.trees) t.from (t ∷ u ∷ us) xs.tall) Whatever
unfolding function_
function_named_reads {d} {us} {ps} {xs} t u c e w =
    moves_whole (node.Function (Some (binding_of u)) ps xs.trees) t.from xs.tall (omega arith) (omega arith)
    (moves_then (function_step d t c) (λ r q. tt) (moves_then (moves_on (some_binding_read u e) _) (λ r q. tt) (function_end w t.from (Some (binding_of u)))))

-- a function that is declared, behind its name, or with none
pub declared_end : {d : ℕ} {us : List Lexeme} {ps : Parameters} {xs : Grove} → FunctionClaim d us ps xs → (from : ℕ) (called : Option Binding)
    → Moves (declared_function (tree d) from called) us xs.tall (complete (node.FunctionDeclaration called ps xs.trees) from xs.tall) Whatever
unfolding declared_function
declared_end w from called = function_goes w (λ ps all. complete (node.FunctionDeclaration called ps all.trees) from all.tall)

pub declaration_end : {d : ℕ} {us : List Lexeme} {ps : Parameters} {xs : Grove} → FunctionClaim d us ps xs → (from : ℕ) (u : Lexeme) → u.sort ≡ k.Identifier
    → Moves (function_declaration (tree d) from) (u ∷ us) xs.tall (complete (node.FunctionDeclaration (Some (binding_of u)) ps xs.trees) from xs.tall) Whatever
unfolding function_declaration
declaration_end {xs = xs} w from u c =
    moves_at (max 0 xs.tall) xs.tall (zero_max xs.tall) (moves_then (moves_on (binding_read u c) _) (λ r q. tt) (declared_end w from (Some (binding_of u))))

-- ---- functions that are declared, among items in braces

-- up to the brace of the body
opened_read : {us : List Lexeme} {ps : Parameters} (from : ℕ) (found : Grove) (u b : Lexeme) → u.sort ≡ k.Identifier → Takes parameter_list us 0 ps Whatever → b.sort ≡ k.LeftBrace
    → Takes (opened from found) (u ∷ (us ++ b ∷ [])) 0 (record { from = from; name = binding_of u; parameters = ps; before = found }) Whatever
unfolding opened
opened_read from found u b c w e =
    moves_at (max 0 (max 0 0)) 0 (omega arith) (moves_then (moves_on (binding_read u c) _) (λ r q. tt) (moves_then (moves_on w _) (λ r q. tt) (moves_expect k.LeftBrace b e left_brace_self)))

opening : {us : List Lexeme} {ps : Parameters} (d m : ℕ) (outer : List OpenFunction) (found : Grove) (t u b : Lexeme) → t.sort ≡ k.Function → u.sort ≡ k.Identifier → Takes parameter_list us 0 ps Whatever → b.sort ≡ k.LeftBrace
    → Moves (in_body d outer found (suc m)) (t ∷ u ∷ (us ++ b ∷ [])) 0 (in_body d (record { from = t.from; name = binding_of u; parameters = ps; before = found } ∷ outer) none m) Whatever
opening d m outer found t u b c e w f =
    moves_at (max 0 0) 0 (omega arith)
    (moves_then (items_step d m outer found t k.Function (opened t.from found >>= (λ f. items_from (tree d) m (f ∷ outer) none)) c (λ i. refl)) (λ r q. tt)
    (moves_on (opened_read t.from found u b e w f) (λ f. items_from (tree d) m (f ∷ outer) none)))

-- the brace behind the body
closing : (d m : ℕ) (f : OpenFunction) (outer : List OpenFunction) (xs : Grove) (v : Lexeme) → v.sort ≡ k.RightBrace
    → Moves (in_body d (f ∷ outer) xs (suc m)) (v ∷ []) (xs.tall + 1) (in_body d outer (with f.before (ending (node.FunctionDeclaration (Some f.name) f.parameters xs.trees) f.from v.to xs.tall)) m) Whatever
unfolding items_from closed sort place next
closing d m f outer xs v c = record {
  gets = λ r l n q.
      gets_is (and_then (closed f xs (inp r v.to n)) (items_from (tree d) m outer)) (ap (λ a. items_by (tree d) (items_from (tree d) m) (f ∷ outer) xs v.from a (inp (v ∷ r) l n)) c)
      (gets_then (gets_then (gets_whole (node.FunctionDeclaration (Some f.name) f.parameters xs.trees) f.from xs.tall r v.to n) (λ x. pure (with f.before x))) (items_from (tree d) m outer));
}

pub function_inside : {d : ℕ} {us : List Lexeme} {ps : Parameters} {xs : Grove} (ts : List Lexeme) (t u : Lexeme) → t.sort ≡ k.Function → u.sort ≡ k.Identifier → FunctionClaim d us ps xs → (outer : List OpenFunction) (found : Grove)
    → Goes (in_body d outer found) (in_body d outer (with found (whole (node.FunctionDeclaration (Some (binding_of u)) ps xs.trees) t.from (t ∷ u ∷ us) xs.tall))) (t ∷ u ∷ us) (xs.tall + 1) (Like ts)
function_inside {d} ts t u c e (function_claim {us} {ps = ps} p g w (body_claim {us = ws} {xs = xs} b f v i items)) outer found =
    let nd : Node = node.FunctionDeclaration (Some (binding_of u)) ps xs.trees in
    let one : OpenFunction = record { from = t.from; name = binding_of u; parameters = ps; before = found } in
    let first : Goes (in_body d outer found) (in_body d (one ∷ outer) none) (t ∷ u ∷ ((p ∷ us) ++ b ∷ [])) 0 Whatever = goes_turn (omega arith) (λ m. opening d m outer found t u b c e w f) in
    let last : Goes (in_body d (one ∷ outer) xs) (in_body d outer (with found (ending nd t.from v.to xs.tall))) (v ∷ []) (xs.tall + 1) Whatever = goes_turn (omega arith) (λ m. closing d m one outer xs v i) in
    let all : Goes (in_body d outer found) (in_body d outer (with found (ending nd t.from v.to xs.tall))) ((t ∷ u ∷ ((p ∷ us) ++ b ∷ [])) ++ (ws ++ v ∷ [])) (max 0 (max xs.tall (xs.tall + 1))) Whatever =
    goes_then first (λ r q. tt) (goes_then (items.items (one ∷ outer)) (λ r q. refl) last) in
    let to : v.to ≡ end_after 0 (t ∷ u ∷ p ∷ (us ++ b ∷ (ws ++ v ∷ []))) = end_at b.to ws [] v ∙ end_at p.to us (ws ++ v ∷ []) b in
    goes_when (λ r q. tt)
    (subst (λ a. Goes (in_body d outer found) (in_body d outer (with found (ending nd t.from a xs.tall))) (t ∷ u ∷ p ∷ (us ++ b ∷ (ws ++ v ∷ []))) (xs.tall + 1) Whatever) to
    (goes_at (max 0 (max xs.tall (xs.tall + 1))) (xs.tall + 1) (omega arith) (goes_tokens (ap (λ zs. t ∷ u ∷ p ∷ zs) (append_assoc us (b ∷ []) (ws ++ v ∷ []))) all)))

-- ---- arrow functions

-- what stands before the body
arrow_start : {us : List Lexeme} {ps : Parameters} → ArrowHead us ps → (d : ℕ) (b : Bool) (vs r : List Lexeme) (l n : ℕ)
    → assign (tree d) b (inp ((us ++ vs) ++ r) l n) ≡ (arrow_parameters >>= (λ ps. arrow_token >>= (λ u. arrow_end (tree d) b (start_of us) ps))) (inp ((us ++ vs) ++ r) l n)
unfolding assign begins_arrow arrow place sees sort ahead
arrow_start (one_name t c a) d b vs r l n = rw (is_sort k.Identifier t.sort c identifier_self) (rw a refl)
arrow_start (in_parentheses t c a w) d b vs r l n = rw (other_sort t k.LeftParenthesis k.Identifier c left_parenthesis_no_identifier) (rw (is_sort k.LeftParenthesis t.sort c left_parenthesis_self) (rw a refl))

arrow_goes : {us vs : List Lexeme} {ps : Parameters} {h : ℕ} {V : Parser Grown} {Q : List Lexeme → Type 0} (d : ℕ) (b : Bool) → ArrowHead us ps → (t : Lexeme) → t.sort ≡ k.Arrow → t.line_before ≡ false
    → Moves (arrow_end (tree d) b (start_of us) ps) vs h V Q → Moves (assign (tree d) b) (us ++ t ∷ vs) h V Q
arrow_goes {us} {vs} {ps} {h} d b w t c e m =
    moves_at (max 0 (max 0 h)) h (omega arith) (moves_is (λ r l n q. arrow_start w d b (t ∷ vs) r l n)
    (moves_then (moves_on (head_read w) (λ ps. arrow_token >>= (λ u. arrow_end (tree d) b (start_of us) ps))) (λ r q. tt)
    (moves_then (arrow_token_read t c e (arrow_end (tree d) b (start_of us) ps)) (λ r q. tt) m)))

arrow_body_end : {d : ℕ} {vs : List Lexeme} {xs : Grove} (b : Bool) (from : ℕ) (ps : Parameters) → BodyClaim d vs xs → Moves (arrow_end (tree d) b from ps) vs xs.tall (complete (node.Arrow ps xs.trees) from xs.tall) Whatever
unfolding arrow_end arrow_body
arrow_body_end {d} {xs = xs} b from ps (body_claim t c u e w) =
    moves_at (max 0 xs.tall) xs.tall (zero_max xs.tall) (moves_then (moves_eat k.LeftBrace _ _ t c left_brace_self) (λ r q. tt) (moves_on (items_read u e w) (λ all. complete (node.Arrow ps all.trees) from all.tall)))

pub arrow_reads : {d : ℕ} (b : Bool) {us vs : List Lexeme} {ps : Parameters} {xs : Grove} → ArrowHead us ps → (t : Lexeme) → t.sort ≡ k.Arrow → t.line_before ≡ false → BodyClaim d vs xs
    → Takes (assign (tree d) b) (us ++ t ∷ vs) (xs.tall + 1) (whole (node.Arrow ps xs.trees) (start_of us) (us ++ t ∷ vs) xs.tall) Whatever
arrow_reads {d} b {us} {vs} {ps} {xs} w t c e h =
    moves_whole (node.Arrow ps xs.trees) (start_of us) xs.tall (omega (arith, length-append us (t ∷ vs))) (omega arith) (arrow_goes d b w t c e (arrow_body_end b (start_of us) ps h))

expression_end : {d : ℕ} {vs : List Lexeme} {x : Grown} (b : Bool) (from : ℕ) (ps : Parameters) → Derives d (Assign b) vs x → same_sort (sort_at vs) k.LeftBrace ≡ false → Claim d (Assign b) vs x
    → Moves (arrow_end (tree (suc d)) b from ps) vs x.height (complete (node.ExpressionArrow ps x.tree) from x.height) (Ends b 15)
unfolding arrow_end
expression_end {d} {vs} {x} b from ps derives o h =
    moves_at (max 0 x.height) x.height (zero_max x.height)
    (moves_first (moves_over k.LeftBrace _ _) (λ r q. ap (λ s. same_sort s k.LeftBrace) (sort_in vs r (some_tokens derives)) ∙ o) (moves_on (nest_takes d b vs x h) (λ x. complete (node.ExpressionArrow ps x.tree) from x.height)))

pub expression_arrow_reads : (d : ℕ) (b : Bool) {us vs : List Lexeme} {ps : Parameters} {x : Grown} → ArrowHead us ps → (t : Lexeme) → t.sort ≡ k.Arrow → t.line_before ≡ false
    → same_sort (sort_at vs) k.LeftBrace ≡ false → Derives d (Assign b) vs x → Claim d (Assign b) vs x
    → Takes (assign (tree (suc d)) b) (us ++ t ∷ vs) (x.height + 1) (whole (node.ExpressionArrow ps x.tree) (start_of us) (us ++ t ∷ vs) x.height) (Ends b 15)
expression_arrow_reads d b {us} {vs} {ps} {x} w t c e o derives h =
    moves_whole (node.ExpressionArrow ps x.tree) (start_of us) x.height (omega (arith, length-append us (t ∷ vs))) (omega arith) (arrow_goes (suc d) b w t c e (expression_end b (start_of us) ps derives o h))
