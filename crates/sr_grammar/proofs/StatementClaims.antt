-- What derives is read: statements that end with a semicolon.
use Rattle.std.proofs.Common.{◌≡◌, ℕ, suc, ◌+◌, ◌≤◌, ◌<◌, max, Bool, true, false, not, ◌&&◌, ◌||◌, List, [], ◌∷◌, ◌++◌, length, Option, None, Some, Ok, refl, sym, ap, ◌∙◌, subst, append_assoc, length-append, arith, if◌then◌else◌}
use Rattle.sr_ast.specs.declared.tree.Node.TheVariants as node
use Rattle.sr_ast.specs.declared.binding.HeadKind.{HeadKind}
use Rattle.sr_ast.specs.declared.binding.HeadKind.TheVariants as head_kind
use Rattle.sr_ast.specs.declared.tree.Declaration.{Declaration}
use Rattle.sr_syntax.specs.declared.sorts.Sort.TheVariants as k
use Rattle.sr_syntax.specs.declared.sorts.Sort.{Sort}
use Rattle.sr_syntax.specs.declared.sorts.Lexeme.{Lexeme}
use Rattle.sr_syntax.specs.declared.grown.Grown.{Grown}
use Rattle.sr_syntax.specs.declared.grown.Grove.{Grove}
use Rattle.sr_syntax.specs.declared.grown.OpenFunction.{OpenFunction}
use Rattle.sr_syntax.specs.declared.grown.Goal.TheVariants as goal
use Rattle.sr_syntax.specs.Sorts.{same_sort}
use Rattle.sr_syntax.specs.Input.{Input, Parser, ◌>>=◌, expect, sees, sort, sort_at, line_at, line_before, place, place_at, ahead, next, complete, semicolon, text, text_of, max_depth}
use Rattle.sr_syntax.specs.Operators.{from_of, with, statement_node}
use Rattle.sr_syntax.specs.Bodies.{items_by, items_from}
use Rattle.sr_syntax.specs.Expressions.{expression}
use Rattle.sr_syntax.specs.Declarations.{declaring, declarations, declared_by}
use Rattle.sr_syntax.specs.Statements.{ends_statement, label_if_there, continue_, break_, debugger_, return_, throw_, labelled, plain, begins_label, plain_or_labelled, statement_by, statement, item_by, item}
use Rattle.sr_syntax.specs.Grammar.{tree}
use Rattle.sr_grammar.specs.Names.{is_label, lexical_word}
use Rattle.sr_grammar.specs.Reading.{end_after, EndsThere}
use Rattle.sr_grammar.specs.Derivations.{Derives, Expression, Semicolon, written, before_brace, before_line, begins_statement, start_of, whole}
use Rattle.sr_grammar.specs.Continuing.{Ends, EndsExpression}
use Rattle.sr_grammar.proofs.Steps.{inp, some_is, sort_alike, line_alike}
use Rattle.sr_grammar.proofs.Starting.{starting, starts, some_tokens, place_of, not_close}
use Rattle.sr_grammar.proofs.Gets.{Gets, gets_now}
use Rattle.sr_grammar.proofs.Completing.{is_sort, loose_sort}
use Rattle.sr_grammar.proofs.Claims.{Claim}
use Rattle.sr_grammar.proofs.Taking.{Whatever, Follow, Like, Moves, Takes, moves_then, moves_first, moves_on, moves_at, moves_is, moves_when, moves_now, moves_whole, moves_whole_on, moves_through, moves_expect, Goes, goes_turn}
use Rattle.sr_grammar.proofs.ParameterClaims.{other_sort}
use Rattle.sr_grammar.proofs.FunctionClaims.{sort_in, in_body, ItemClaim, items_step}
use Rattle.sr_grammar.proofs.Statings.{stating}
use Rattle.sr_grammar.proofs.Sorts.{colon_self, identifier_self, right_brace_no_identifier, right_brace_no_semicolon, right_brace_self, semicolon_no_identifier, semicolon_self}

-- ---- semicolons

or_true : (a : Bool) → (a || true) ≡ true
or_true true = refl
or_true false = refl

and_false : (a : Bool) → (a && false) ≡ false
and_false true = refl
and_false false = refl

pub semicolon_read : {ends : Type 0} {vs ts : List Lexeme} → Semicolon ends vs ts → {A : Type 0} (V : Parser A) → Moves (semicolon >>= (λ u. V)) vs 0 V (Like ts)
unfolding semicolon sees sort line_before next
semicolon_read (written t c) V = moves_now (λ r l n q. rw (is_sort k.Semicolon t.sort c semicolon_self) refl)
semicolon_read (before_brace {ts} c) V = moves_now (λ r l n q.
    let is = sort_alike ts r q ∙ c in rw (ap (λ a. same_sort a k.Semicolon) is ∙ right_brace_no_semicolon) (rw (is_sort k.RightBrace (sort_at r) is right_brace_self) refl))
semicolon_read (before_line {ts} c e w) V = moves_now (λ r l n q.
    rw (ap (λ a. same_sort a k.Semicolon) (sort_alike ts r q) ∙ e) (rw (line_alike ts r q ∙ c) (rw (or_true (same_sort (sort_at r) k.RightBrace)) refl)))

brace_ends : (r : List Lexeme) → sort_at r ≡ k.RightBrace → EndsExpression true r
brace_ends [] c = tt
brace_ends (t ∷ ts) c = loose_sort true t k.RightBrace 16 c (λ line. omega arith) ts

max_none : (a : ℕ) → max a 0 ≡ a
max_none a = omega arith

-- what goes as far as it can, and a semicolon behind it
pub ended_by : {A B : Type 0} (rule : Parser A) (us : List Lexeme) {vs ts : List Lexeme} {a : A} (h : ℕ) → ((r : List Lexeme) (l n : ℕ) → Ends true 16 r → Gets (rule (inp (us ++ r) l n)) h (Ok (a, inp r (end_after l us) n)))
    → (EndsThere rule us ts a → h ≤ max_depth) → Semicolon (EndsThere rule us ts a) vs ts → (f : A → Parser B) → Moves (rule >>= (λ a. semicolon >>= (λ u. f a))) (us ++ vs) h (f a) (Like ts)
ended_by rule us {a = a} h claim low (written {ts} t c) f =
    let one : Takes rule us h a (Ends true 16) = record { gets = claim } in
    let end : Semicolon (Unit {0}) (t ∷ []) ts = written t c in
    moves_at (max h 0) h (max_none h) (moves_then (moves_on one (λ a. semicolon >>= (λ u. f a))) (λ r q. loose_sort true t k.Semicolon 16 c (λ line. omega arith) r) (semicolon_read end (f a)))
ended_by rule us {a = a} h claim low (before_brace {ts} c) f =
    let one : Takes rule us h a (Ends true 16) = record { gets = claim } in
    let end : Semicolon (Unit {0}) [] ts = before_brace c in
    moves_at (max h 0) h (max_none h) (moves_then (moves_on one (λ a. semicolon >>= (λ u. f a))) (λ r q. brace_ends r (sort_alike ts r q ∙ c)) (semicolon_read end (f a)))
ended_by rule us {a = a} h claim low (before_line {ts} c e ends) f =
    let one : Takes rule us h a (Like ts) = record { gets = λ r l n q. gets_now h (ends l n r q) (low ends) } in
    let end : Semicolon (Unit {0}) [] ts = before_line c e tt in
    moves_at (max h 0) h (max_none h) (moves_then (moves_on one (λ a. semicolon >>= (λ u. f a))) (λ r q. q) (semicolon_read end (f a)))

-- ---- the first token of a statement

pub statement_is : (d : ℕ) (t : Lexeme) (r : List Lexeme) (l n : ℕ) (v : Sort) → t.sort ≡ v → statement (tree d) (inp (t ∷ r) l n) ≡ statement_by (tree d) t.from v (inp (t ∷ r) l n)
unfolding statement sort place
statement_is d t r l n v c = ap (λ a. statement_by (tree d) t.from a (inp (t ∷ r) l n)) c

pub keyword : (d : ℕ) (t : Lexeme) (v : Sort) (rule : Parser Grown) → t.sort ≡ v → ((i : Input) → statement_by (tree d) t.from v i ≡ rule (next i)) → Moves (statement (tree d)) (t ∷ []) 0 rule Whatever
unfolding next
keyword d t v rule c e = moves_now (λ r l n q. statement_is d t r l n v c ∙ e (inp (t ∷ r) l n))

-- a statement that is open while it is read
pub nest_states : (d : ℕ) {us : List Lexeme} {x : Grown} {Q : Follow} → Takes (statement (tree d)) us x.height x Q → Takes (tree (suc d) goal.Statement) us x.height x Q
unfolding tree
nest_states d m = m

-- ---- expressions

plain_by : (d from : ℕ) (v : Sort) → starting v ≡ true → begins_statement v ≡ false → (i : Input) → statement_by (tree d) from v i ≡ plain_or_labelled (tree d) from i
plain_by d from k.LeftBrace e f i = cc
plain_by d from k.Var e f i = cc
plain_by d from k.Semicolon e f i = cc
plain_by d from k.If e f i = cc
plain_by d from k.Do e f i = cc
plain_by d from k.While e f i = cc
plain_by d from k.For e f i = cc
plain_by d from k.Continue e f i = cc
plain_by d from k.Break e f i = cc
plain_by d from k.Return e f i = cc
plain_by d from k.Throw e f i = cc
plain_by d from k.Debugger e f i = cc
plain_by d from k.Switch e f i = cc
plain_by d from k.Try e f i = cc
plain_by d from k.Function e f i = cc
plain_by d from _ e f i = refl

label_in : (us r : List Lexeme) → 0 < length us → is_label (us ++ r) ≡ is_label us
label_in [] r some = absurd (omega (arith, some))
label_in (t ∷ us) r some = refl

plain_is : {d : ℕ} {us : List Lexeme} {x : Grown} → Derives d (Expression true) us x → begins_statement (sort_at us) ≡ false → is_label us ≡ false → (r : List Lexeme) (l n : ℕ)
    → statement (tree d) (inp (us ++ r) l n) ≡ plain (tree d) (start_of us) (inp (us ++ r) l n)
unfolding statement plain_or_labelled begins_label sees sort ahead place
plain_is {d} {us} h b a r l n =
    plain_by d (place_at n (us ++ r)) (sort_at (us ++ r)) (starts h r) (ap begins_statement (sort_in us r (some_tokens h)) ∙ b) (inp (us ++ r) l n)
    ∙ ap (λ c. if c then labelled (tree d) (place_at n (us ++ r)) (inp (us ++ r) l n) else plain (tree d) (place_at n (us ++ r)) (inp (us ++ r) l n)) (label_in us r (some_tokens h) ∙ a)
    ∙ ap (λ from. plain (tree d) from (inp (us ++ r) l n)) (place_of h n r)

-- whether an expression is not too deep that is known by how it is read
abbrev pub ExpressionLow : ℕ → List Lexeme → List Lexeme → Grown → Type 0
ExpressionLow d us ts x = EndsThere (expression (tree d) true) us ts x → x.height ≤ max_depth

pub expression_statement_reads : (d : ℕ) (us vs ts : List Lexeme) (x : Grown) → begins_statement (sort_at us) ≡ false → is_label us ≡ false → Derives d (Expression true) us x → Claim d (Expression true) us x
    → ExpressionLow d us ts x → Semicolon (EndsThere (expression (tree d) true) us ts x) vs ts
    → Takes (statement (tree d)) (us ++ vs) (x.height + 1) (whole (statement_node (start_of us) x) (from_of x) (us ++ vs) x.height) (Like ts)
unfolding plain
expression_statement_reads d us vs ts x b a derives h low e =
    moves_whole (statement_node (start_of us) x) (from_of x) x.height (omega (arith, some_tokens derives, length-append us vs)) (omega arith)
    (moves_is (λ r l n q. subst (λ zs. statement (tree d) (inp zs l n) ≡ plain (tree d) (start_of us) (inp zs l n)) (sym (append_assoc us vs r)) (plain_is derives b a (vs ++ r) l n))
    (ended_by (expression (tree d) true) us x.height h low e (λ x. complete (statement_node (start_of us) x) (from_of x) x.height)))

label_step : (d : ℕ) (t : Lexeme) → t.sort ≡ k.Identifier → same_sort t.ahead k.Colon ≡ true
    → Moves (statement (tree d)) (t ∷ []) 0 (expect k.Colon >>= (λ u. tree d goal.Statement >>= (λ x. complete (node.Labelled (text_of t.content) x.tree) t.from x.height))) Whatever
unfolding plain_or_labelled begins_label labelled sees sort ahead text next
label_step d t c a = moves_now (λ r l n q. statement_is d t r l n k.Identifier c ∙ rw (is_sort k.Identifier t.sort c identifier_self) (rw a refl))

pub labelled_reads : (d : ℕ) (us ts : List Lexeme) (x : Grown) (t u : Lexeme) → t.sort ≡ k.Identifier → same_sort t.ahead k.Colon ≡ true → u.sort ≡ k.Colon → Takes (statement (tree d)) us x.height x (Like ts)
    → Takes (statement (tree (suc d))) (t ∷ u ∷ us) (x.height + 1) (whole (node.Labelled (text_of t.content) x.tree) t.from (t ∷ u ∷ us) x.height) (Like ts)
labelled_reads d us ts x t u c a e h =
    moves_whole (node.Labelled (text_of t.content) x.tree) t.from x.height (omega arith) (omega arith)
    (moves_then (label_step (suc d) t c a) (λ r q. tt) (moves_then (moves_expect k.Colon u e colon_self) (λ r q. tt) (moves_on (nest_states d h) (λ x. complete (node.Labelled (text_of t.content) x.tree) t.from x.height))))

-- ---- declarations

pub declared_end : (d tall : ℕ) (us vs ts : List Lexeme) (ds : List Declaration) (how : HeadKind) (from : ℕ) → Takes (declarations (tree d) true) us tall (ds, tall) (Ends true 16)
    → (EndsThere (declarations (tree d) true) us ts (ds, tall) → tall ≤ max_depth) → Semicolon (EndsThere (declarations (tree d) true) us ts (ds, tall)) vs ts
    → Moves (declared_by (tree d) how from) (us ++ vs) tall (complete (declaring how ds) from tall) (Like ts)
unfolding declared_by
declared_end d tall us vs ts ds how from w low e = ended_by (declarations (tree d) true) us tall w.gets low e (λ all. complete (declaring how all.0) from all.1)

pub var_reads : (d tall : ℕ) (us vs ts : List Lexeme) (ds : List Declaration) (t : Lexeme) → t.sort ≡ k.Var → Takes (declarations (tree d) true) us tall (ds, tall) (Ends true 16)
    → (EndsThere (declarations (tree d) true) us ts (ds, tall) → tall ≤ max_depth) → Semicolon (EndsThere (declarations (tree d) true) us ts (ds, tall)) vs ts
    → Takes (statement (tree d)) (t ∷ (us ++ vs)) (tall + 1) (whole (node.Var ds) t.from (t ∷ (us ++ vs)) tall) (Like ts)
var_reads d tall us vs ts ds t c w low e =
    moves_whole (node.Var ds) t.from tall (omega arith) (omega arith)
    (moves_then (keyword d t k.Var (declared_by (tree d) head_kind.Var t.from) c (λ i. refl)) (λ r q. tt) (declared_end d tall us vs ts ds head_kind.Var t.from w low e))

-- ---- statements of a word

pub empty_reads : (d : ℕ) (ts : List Lexeme) (t : Lexeme) → t.sort ≡ k.Semicolon → Takes (statement (tree d)) (t ∷ []) 1 (whole node.Empty t.from (t ∷ []) 0) (Like ts)
empty_reads d ts t c = moves_when (λ r q. tt) (moves_whole node.Empty t.from 0 (omega arith) (omega arith) (keyword d t k.Semicolon (complete node.Empty t.from 0) c (λ i. refl)))

pub debugger_reads : (d : ℕ) (vs ts : List Lexeme) (t : Lexeme) → t.sort ≡ k.Debugger → Semicolon (Unit {0}) vs ts → Takes (statement (tree d)) (t ∷ vs) 1 (whole node.Debugger t.from (t ∷ vs) 0) (Like ts)
unfolding debugger_
debugger_reads d vs ts t c e =
    moves_whole node.Debugger t.from 0 (omega arith) (omega arith) (moves_then (keyword d t k.Debugger (debugger_ t.from) c (λ i. refl)) (λ r q. tt) (semicolon_read e (complete node.Debugger t.from 0)))

-- no label stands before a semicolon
no_label : {ends : Type 0} {vs ts : List Lexeme} → Semicolon ends vs ts → (r : List Lexeme) → Like ts r → (same_sort (sort_at (vs ++ r)) k.Identifier && not (line_at (vs ++ r))) ≡ false
no_label (written t c) r q = rw (other_sort t k.Semicolon k.Identifier c semicolon_no_identifier) refl
no_label (before_brace {ts} c) r q = rw (ap (λ a. same_sort a k.Identifier) (sort_alike ts r q ∙ c) ∙ right_brace_no_identifier) refl
no_label (before_line {ts} c e w) r q = rw (line_alike ts r q ∙ c) (and_false (same_sort (sort_at r) k.Identifier))

no_label_read : {ends : Type 0} {vs ts : List Lexeme} → Semicolon ends vs ts → {A : Type 0} (f : Option (List ℕ) → Parser A) → Moves (label_if_there >>= f) [] 0 (f None) (λ r. (same_sort (sort_at r) k.Identifier && not (line_at r)) ≡ false)
unfolding label_if_there sees sort line_before
no_label_read e f = moves_now (λ r l n q. rw q refl)

label_read : (u : Lexeme) → u.sort ≡ k.Identifier → u.line_before ≡ false → {A : Type 0} (f : Option (List ℕ) → Parser A) → Moves (label_if_there >>= f) (u ∷ []) 0 (f (Some (text_of u.content))) Whatever
unfolding label_if_there sees sort line_before text next
label_read u c e f = moves_now (λ r l n q. rw (is_sort k.Identifier u.sort c identifier_self) (rw e refl))

pub continue_alone_reads : (d : ℕ) (vs ts : List Lexeme) (t : Lexeme) → t.sort ≡ k.Continue → Semicolon (Unit {0}) vs ts → Takes (statement (tree d)) (t ∷ vs) 1 (whole (node.Continue None) t.from (t ∷ vs) 0) (Like ts)
unfolding continue_
continue_alone_reads d vs ts t c e =
    moves_whole (node.Continue None) t.from 0 (omega arith) (omega arith)
    (moves_then (keyword d t k.Continue (continue_ t.from) c (λ i. refl)) (λ r q. tt) (moves_first (no_label_read e _) (λ r q. no_label e r q) (semicolon_read e (complete (node.Continue None) t.from 0))))

pub continue_to_reads : (d : ℕ) (vs ts : List Lexeme) (t u : Lexeme) → t.sort ≡ k.Continue → u.sort ≡ k.Identifier → u.line_before ≡ false → Semicolon (Unit {0}) vs ts
    → Takes (statement (tree d)) (t ∷ u ∷ vs) 1 (whole (node.Continue (Some (text_of u.content))) t.from (t ∷ u ∷ vs) 0) (Like ts)
unfolding continue_
continue_to_reads d vs ts t u c i b e =
    moves_whole (node.Continue (Some (text_of u.content))) t.from 0 (omega arith) (omega arith)
    (moves_then (keyword d t k.Continue (continue_ t.from) c (λ i. refl)) (λ r q. tt) (moves_then (label_read u i b _) (λ r q. tt) (semicolon_read e (complete (node.Continue (Some (text_of u.content))) t.from 0))))

pub break_alone_reads : (d : ℕ) (vs ts : List Lexeme) (t : Lexeme) → t.sort ≡ k.Break → Semicolon (Unit {0}) vs ts → Takes (statement (tree d)) (t ∷ vs) 1 (whole (node.Break None) t.from (t ∷ vs) 0) (Like ts)
unfolding break_
break_alone_reads d vs ts t c e =
    moves_whole (node.Break None) t.from 0 (omega arith) (omega arith)
    (moves_then (keyword d t k.Break (break_ t.from) c (λ i. refl)) (λ r q. tt) (moves_first (no_label_read e _) (λ r q. no_label e r q) (semicolon_read e (complete (node.Break None) t.from 0))))

pub break_from_reads : (d : ℕ) (vs ts : List Lexeme) (t u : Lexeme) → t.sort ≡ k.Break → u.sort ≡ k.Identifier → u.line_before ≡ false → Semicolon (Unit {0}) vs ts
    → Takes (statement (tree d)) (t ∷ u ∷ vs) 1 (whole (node.Break (Some (text_of u.content))) t.from (t ∷ u ∷ vs) 0) (Like ts)
unfolding break_
break_from_reads d vs ts t u c i b e =
    moves_whole (node.Break (Some (text_of u.content))) t.from 0 (omega arith) (omega arith)
    (moves_then (keyword d t k.Break (break_ t.from) c (λ i. refl)) (λ r q. tt) (moves_then (label_read u i b _) (λ r q. tt) (semicolon_read e (complete (node.Break (Some (text_of u.content))) t.from 0))))

-- ---- `return` and `throw`

over_here : {ends : Type 0} {vs ts : List Lexeme} → Semicolon ends vs ts → (r : List Lexeme) → Like ts r → (same_sort (sort_at (vs ++ r)) k.Semicolon || (same_sort (sort_at (vs ++ r)) k.RightBrace || line_at (vs ++ r))) ≡ true
over_here (written t c) r q = rw (is_sort k.Semicolon t.sort c semicolon_self) refl
over_here (before_brace {ts} c) r q =
    let is = sort_alike ts r q ∙ c in rw (ap (λ a. same_sort a k.Semicolon) is ∙ right_brace_no_semicolon) (rw (is_sort k.RightBrace (sort_at r) is right_brace_self) refl)
over_here (before_line {ts} c e w) r q = rw (line_alike ts r q ∙ c) (rw (or_true (same_sort (sort_at r) k.RightBrace)) (or_true (same_sort (sort_at r) k.Semicolon)))

pub return_alone_reads : (d : ℕ) (vs ts : List Lexeme) (t : Lexeme) → t.sort ≡ k.Return → Semicolon (Unit {0}) vs ts → Takes (statement (tree d)) (t ∷ vs) 1 (whole (node.Return None) t.from (t ∷ vs) 0) (Like ts)
unfolding return_ ends_statement sees sort line_before
return_alone_reads d vs ts t c e =
    moves_whole (node.Return None) t.from 0 (omega arith) (omega arith)
    (moves_then (keyword d t k.Return (return_ (tree d) t.from) c (λ i. refl)) (λ r q. tt)
    (moves_is {V = semicolon >>= (λ u. complete (node.Return None) t.from 0)} (λ r l n q. rw (over_here e r q) refl) (semicolon_read e (complete (node.Return None) t.from 0))))

line_in : (us r : List Lexeme) → 0 < length us → line_at (us ++ r) ≡ line_at us
line_in [] r some = absurd (omega (arith, some))
line_in (t ∷ us) r some = refl

not_over : {d : ℕ} {us : List Lexeme} {x : Grown} → Derives d (Expression true) us x → line_at us ≡ false → (r : List Lexeme)
    → (same_sort (sort_at (us ++ r)) k.Semicolon || (same_sort (sort_at (us ++ r)) k.RightBrace || line_at (us ++ r))) ≡ false
not_over {us} h e r =
    rw (not_close k.Semicolon (sort_at (us ++ r)) refl (starts h r)) (rw (not_close k.RightBrace (sort_at (us ++ r)) refl (starts h r)) (line_in us r (some_tokens h) ∙ e))

pub return_value_reads : (d : ℕ) (us vs ts : List Lexeme) (x : Grown) (t : Lexeme) → t.sort ≡ k.Return → line_at us ≡ false → Derives d (Expression true) us x → Claim d (Expression true) us x
    → ExpressionLow d us ts x → Semicolon (EndsThere (expression (tree d) true) us ts x) vs ts
    → Takes (statement (tree d)) (t ∷ (us ++ vs)) (x.height + 1) (whole (node.Return (Some x.tree)) t.from (t ∷ (us ++ vs)) x.height) (Like ts)
unfolding return_ ends_statement sees sort line_before
return_value_reads d us vs ts x t c b derives h low e =
    let f : Grown → Parser Grown = λ x. complete (node.Return (Some x.tree)) t.from x.height in
    let goes : Parser Grown = expression (tree d) true >>= (λ x. semicolon >>= (λ u. f x)) in
    moves_whole (node.Return (Some x.tree)) t.from x.height (omega arith) (omega arith)
    (moves_then (keyword d t k.Return (return_ (tree d) t.from) c (λ i. refl)) (λ r q. tt)
    (moves_is {V = goes} (λ r l n q. subst (λ zs. return_ (tree d) t.from (inp zs l n) ≡ goes (inp zs l n)) (sym (append_assoc us vs r)) (rw (not_over derives b (vs ++ r)) refl)) (ended_by (expression (tree d) true) us x.height h low e f)))

pub throw_reads : (d : ℕ) (us vs ts : List Lexeme) (x : Grown) (t : Lexeme) → t.sort ≡ k.Throw → line_at us ≡ false → Derives d (Expression true) us x → Claim d (Expression true) us x
    → ExpressionLow d us ts x → Semicolon (EndsThere (expression (tree d) true) us ts x) vs ts
    → Takes (statement (tree d)) (t ∷ (us ++ vs)) (x.height + 1) (whole (node.Throw x.tree) t.from (t ∷ (us ++ vs)) x.height) (Like ts)
unfolding throw_ line_before
throw_reads d us vs ts x t c b derives h low e =
    let f : Grown → Parser Grown = λ x. complete (node.Throw x.tree) t.from x.height in
    let goes : Parser Grown = expression (tree d) true >>= (λ x. semicolon >>= (λ u. f x)) in
    moves_whole (node.Throw x.tree) t.from x.height (omega arith) (omega arith)
    (moves_then (keyword d t k.Throw (throw_ (tree d) t.from) c (λ i. refl)) (λ r q. tt)
    (moves_is {V = goes} (λ r l n q. subst (λ zs. throw_ (tree d) t.from (inp zs l n) ≡ goes (inp zs l n)) (sym (append_assoc us vs r)) (rw (line_in us (vs ++ r) (some_tokens derives) ∙ b) refl)) (ended_by (expression (tree d) true) us x.height h low e f)))

-- ---- items

nest_statement : (d : ℕ) {us : List Lexeme} {x : Grown} {Q : Follow} → Takes (statement (tree d)) us x.height x Q → Takes (tree (suc d) goal.Statement) us x.height x Q
unfolding tree
nest_statement d h = h

item_is : (d from : ℕ) (s : Sort) (i : Input) → stating s ≡ true → item_by (tree d) from s i ≡ tree d goal.Statement i
item_is d from k.Function i e = cc
item_is d from k.Let i e = cc
item_is d from k.Const i e = cc
item_is d from _ i e = refl

statement_alone : (d : ℕ) {us : List Lexeme} (ts : List Lexeme) {x : Grown} → ((r : List Lexeme) → stating (sort_at (us ++ r)) ≡ true) → Takes (tree d goal.Statement) us x.height x (Like ts) → Takes (item (tree d)) us x.height x (Like ts)
unfolding item sort
statement_alone d {us} ts begins h = moves_is (λ r l n q. item_is d (place (inp (us ++ r) l n)) (sort_at (us ++ r)) (inp (us ++ r) l n) (begins r)) h

inside_is : (d m : ℕ) (outer : List OpenFunction) (found : Grove) (from : ℕ) (s : Sort) (i : Input) → stating s ≡ true
    → items_by (tree d) (items_from (tree d) m) outer found from s i ≡ (tree d goal.Statement >>= (λ x. items_from (tree d) m outer (with found x))) i
inside_is d m outer found from k.RightBrace i e = cc
inside_is d m outer found from k.Function i e = cc
inside_is d m outer found from k.Let i e = cc
inside_is d m outer found from k.Const i e = cc
inside_is d m outer found from _ i e = refl

statement_inside : (d : ℕ) {us : List Lexeme} (ts : List Lexeme) {x : Grown} → 0 < length us → ((r : List Lexeme) → stating (sort_at (us ++ r)) ≡ true) → Takes (tree d goal.Statement) us x.height x (Like ts) → (outer : List OpenFunction) (found : Grove)
    → Goes (in_body d outer found) (in_body d outer (with found x)) us x.height (Like ts)
unfolding items_from sort
statement_inside d {us} ts {x} some begins h outer found =
    goes_turn some (λ m. moves_is {V = tree d goal.Statement >>= (λ x. items_from (tree d) m outer (with found x))} (λ r l n q. inside_is d m outer found (place (inp (us ++ r) l n)) (sort_at (us ++ r)) (inp (us ++ r) l n) (begins r))
    (moves_on h (λ x. items_from (tree d) m outer (with found x))))

pub statement_item_reads : (d : ℕ) {us : List Lexeme} (ts : List Lexeme) {x : Grown} → 0 < length us → ((r : List Lexeme) → stating (sort_at (us ++ r)) ≡ true) → Takes (statement (tree d)) us x.height x (Like ts) → ItemClaim (suc d) us ts x
statement_item_reads d ts some begins h = let open_ = nest_statement d h in record { alone = statement_alone (suc d) ts begins open_; inside = statement_inside (suc d) ts some begins open_ }

pub item_step : (d : ℕ) (t : Lexeme) (v : Sort) (rule : Parser Grown) → t.sort ≡ v → ((i : Input) → item_by (tree d) t.from v i ≡ rule (next i)) → Moves (item (tree d)) (t ∷ []) 0 rule Whatever
unfolding item sort place next
item_step d t v rule c e = moves_now (λ r l n q. ap (λ a. item_by (tree d) t.from a (inp (t ∷ r) l n)) c ∙ e (inp (t ∷ r) l n))

lexical_step : (d : ℕ) (t : Lexeme) (how : HeadKind) (s : Sort) → t.sort ≡ s → lexical_word s ≡ Some how → Moves (item (tree d)) (t ∷ []) 0 (declared_by (tree d) how t.from) Whatever
lexical_step d t how k.Let c e = item_step d t k.Let (declared_by (tree d) how t.from) c (λ i. how_is how e i)
  where
    how_is : (how : HeadKind) → Some head_kind.Let ≡ Some how → (i : Input) → declared_by (tree d) head_kind.Let t.from (next i) ≡ declared_by (tree d) how t.from (next i)
    how_is how e i = let same : head_kind.Let ≡ how = cc in ap (λ a. declared_by (tree d) a t.from (next i)) same
lexical_step d t how k.Const c e = item_step d t k.Const (declared_by (tree d) how t.from) c (λ i. how_is how e i)
  where
    how_is : (how : HeadKind) → Some head_kind.Const ≡ Some how → (i : Input) → declared_by (tree d) head_kind.Const t.from (next i) ≡ declared_by (tree d) how t.from (next i)
    how_is how e i = let same : head_kind.Const ≡ how = cc in ap (λ a. declared_by (tree d) a t.from (next i)) same
lexical_step d t how _ c e = cc

-- the same among others in braces
lexical_start : (d m : ℕ) (outer : List OpenFunction) (found : Grove) (t : Lexeme) (how : HeadKind) (s : Sort) → t.sort ≡ s → lexical_word s ≡ Some how
    → Moves (in_body d outer found (suc m)) (t ∷ []) 0 (declared_by (tree d) how t.from >>= (λ x. items_from (tree d) m outer (with found x))) Whatever
lexical_start d m outer found t how k.Let c e =
    items_step d m outer found t k.Let (declared_by (tree d) how t.from >>= (λ x. items_from (tree d) m outer (with found x))) c
    (λ i. some_is (λ a. items_by (tree d) (items_from (tree d) m) outer found t.from k.Let i ≡ (declared_by (tree d) a t.from >>= (λ x. items_from (tree d) m outer (with found x))) (next i)) e refl)
lexical_start d m outer found t how k.Const c e =
    items_step d m outer found t k.Const (declared_by (tree d) how t.from >>= (λ x. items_from (tree d) m outer (with found x))) c
    (λ i. some_is (λ a. items_by (tree d) (items_from (tree d) m) outer found t.from k.Const i ≡ (declared_by (tree d) a t.from >>= (λ x. items_from (tree d) m outer (with found x))) (next i)) e refl)
lexical_start d m outer found t how _ c e = cc

lexical_inside : (d tall : ℕ) (us vs ts : List Lexeme) (ds : List Declaration) (how : HeadKind) (t : Lexeme) → lexical_word t.sort ≡ Some how → Takes (declarations (tree d) true) us tall (ds, tall) (Ends true 16)
    → (EndsThere (declarations (tree d) true) us ts (ds, tall) → tall ≤ max_depth) → Semicolon (EndsThere (declarations (tree d) true) us ts (ds, tall)) vs ts → (outer : List OpenFunction) (found : Grove)
    → Goes (in_body d outer found) (in_body d outer (with found (whole (declaring how ds) t.from (t ∷ (us ++ vs)) tall))) (t ∷ (us ++ vs)) (tall + 1) (Like ts)
lexical_inside d tall us vs ts ds how t c w low e outer found =
    goes_turn (omega arith) (λ m.
    let f : Grown → Parser Grove = λ x. items_from (tree d) m outer (with found x) in
    moves_whole_on (declaring how ds) t.from tall (omega arith) (omega arith) f
    (moves_then (lexical_start d m outer found t how t.sort refl c) (λ r q. tt) (moves_through (declared_end d tall us vs ts ds how t.from w low e) f)))

lexical_alone : (d tall : ℕ) (us vs ts : List Lexeme) (ds : List Declaration) (how : HeadKind) (t : Lexeme) → lexical_word t.sort ≡ Some how → Takes (declarations (tree d) true) us tall (ds, tall) (Ends true 16)
    → (EndsThere (declarations (tree d) true) us ts (ds, tall) → tall ≤ max_depth) → Semicolon (EndsThere (declarations (tree d) true) us ts (ds, tall)) vs ts
    → Takes (item (tree d)) (t ∷ (us ++ vs)) (tall + 1) (whole (declaring how ds) t.from (t ∷ (us ++ vs)) tall) (Like ts)
lexical_alone d tall us vs ts ds how t c w low e =
    moves_whole (declaring how ds) t.from tall (omega arith) (omega arith) (moves_then (lexical_step d t how t.sort refl c) (λ r q. tt) (declared_end d tall us vs ts ds how t.from w low e))

pub lexical_item_reads : (d tall : ℕ) (us vs ts : List Lexeme) (ds : List Declaration) (how : HeadKind) (t : Lexeme) → lexical_word t.sort ≡ Some how → Takes (declarations (tree d) true) us tall (ds, tall) (Ends true 16)
    → (EndsThere (declarations (tree d) true) us ts (ds, tall) → tall ≤ max_depth) → Semicolon (EndsThere (declarations (tree d) true) us ts (ds, tall)) vs ts
    → ItemClaim d (t ∷ (us ++ vs)) ts (whole (declaring how ds) t.from (t ∷ (us ++ vs)) tall)
lexical_item_reads d tall us vs ts ds how t c w low e = record { alone = lexical_alone d tall us vs ts ds how t c w low e; inside = lexical_inside d tall us vs ts ds how t c w low e }
