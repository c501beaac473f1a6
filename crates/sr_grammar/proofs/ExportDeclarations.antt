-- What exports of declarations, functions and values are read as, and where reading them fails.
use Rattle.std.proofs.Common.{◌≡◌, ℕ, suc, ◌+◌, ◌<◌, true, false, List, [], ◌∷◌, ◌++◌, length, Option, None, Some, refl, sym, ap, ◌∙◌, subst, append_assoc, arith}
use Rattle.std.proofs.Math.Numerals.{suc-eq-add-one}
use Rattle.sr_ast.specs.declared.binding.Binding.{Binding}
use Rattle.sr_ast.specs.declared.binding.HeadKind.{HeadKind}
use Rattle.sr_ast.specs.declared.tree.Declaration.{Declaration}
use Rattle.sr_ast.specs.declared.tree.Node.{Node}
use Rattle.sr_ast.specs.declared.tree.Node.TheVariants as node
use Rattle.sr_syntax.specs.declared.sorts.Sort.{Sort}
use Rattle.sr_syntax.specs.declared.sorts.Sort.TheVariants as k
use Rattle.sr_syntax.specs.declared.sorts.Lexeme.{Lexeme}
use Rattle.sr_syntax.specs.declared.grown.Grown.{Grown}
use Rattle.sr_syntax.specs.declared.grown.Goal.TheVariants as goal
use Rattle.sr_syntax.specs.Sorts.{same_sort}
use Rattle.sr_syntax.specs.Input.{sees, place}
use Rattle.sr_syntax.specs.Expressions.{assign}
use Rattle.sr_syntax.specs.Declarations.{declaring, declarations}
use Rattle.sr_syntax.specs.Bodies.{parameters_of}
use Rattle.sr_syntax.specs.Operators.{none}
use Rattle.sr_syntax.specs.Grammar.{tree}
use Rattle.sr_syntax.specs.Modules.{exported_by, exported_function, default_function, default_value, export_default}
use Rattle.sr_grammar.specs.Names.{binding_of, declaring_word}
use Rattle.sr_grammar.specs.Derivations.{Derives, Assign, Declarations, Function, Semicolon, whole}
use Rattle.sr_grammar.specs.Modules.{IsModuleItem}
use Rattle.sr_grammar.specs.Modules as g
use Rattle.sr_grammar.specs.Reading.{end_after, head, EndsThere}
use Rattle.sr_grammar.proofs.Steps.{inp, done, Fact, Fault, Any, Parses, Both, both, Either, first, second, Never, Looked, looked, Taken, taken, Here, here, map, given, then_any, bind, look, take, place_shallow, ending, end_append, same_sort_true, map_again}
use Rattle.sr_grammar.proofs.Facts.{Opened, opened, Closed, closed, closing, token, Stood, stood, Start, start}
use Rattle.sr_grammar.proofs.Beginnings.{Begun, begun_whole, Partly, partly, carry}
use Rattle.sr_grammar.proofs.Peeks.{unit_of, unit_shallow}
use Rattle.sr_grammar.proofs.Choices.{Decided, decided, denied, DecidedFault, decided_fault, denied_fault, deciding, Sees, sees_test, seen_left}
use Rattle.sr_grammar.proofs.SomeTokens.{some_tokens}
use Rattle.sr_grammar.proofs.Moves.{assign_moves}
use Rattle.sr_grammar.proofs.Lists.{Nested}
use Rattle.sr_grammar.proofs.Targets.{a_name, some_assign}
use Rattle.sr_grammar.proofs.ParameterFacts.{BoundIfThere, one_bound, none_bound, bindings_if_there}
use Rattle.sr_grammar.proofs.PlainFunctions.{Parts, FunctionOf, NamedFunction, named_function, empty_function}
use Rattle.sr_grammar.proofs.FunctionFacts.{declares, FunctionMade, function_made, declared_functions, DeclaredFunction, declared_by_name, function_declarations}
use Rattle.sr_grammar.proofs.Standing.{Calm, Behind, at_nothing}
use Rattle.sr_grammar.proofs.Semicolons.{Closing, closing_by, ends_with, ended, semicolons}
use Rattle.sr_grammar.proofs.Declaring.{declared_bys}
use Rattle.sr_grammar.proofs.ExportItems.{Second, SecondFault, second_whole}
use Rattle.sr_grammar.proofs.Sorts.{end_no_function}

-- the tree of what is exported, one deeper than it
abbrev Above : ℕ → List Lexeme → List Lexeme → Node → Lexeme → ℕ → Type 0
Above d zs ts nd t tall = IsModuleItem d (t ∷ zs) ts (whole nd t.from (t ∷ zs) tall)

as_height : {d : ℕ} (tall : ℕ) {zs ts : List Lexeme} {nd : Node} {t : Lexeme} → Above d zs ts nd t (suc tall) → Above d zs ts nd t (tall + 1)
as_height {d} tall {zs} {ts} {nd} {t} h = subst (λ m. Above d zs ts nd t m) (suc-eq-add-one tall) h

abbrev exports_tree : Grown → Node
exports_tree x = node.Export x.tree

abbrev exports_default : Grown → Node
exports_default x = node.ExportDefault x.tree

-- ---- declarations

-- declarations and a semicolon, behind their first token
data Declared (how : HeadKind) (v : Sort) : ℕ → List Lexeme → List Lexeme → Grown → Type 0 where
  declared_then : {d tall : ℕ} {us vs ts : List Lexeme} {ds : List Declaration} (w : Lexeme) → w.sort ≡ v → Declarations true d us ds tall
      → Semicolon (EndsThere (declarations (tree d) true) us ts (ds, tall)) vs ts → Declared how v d (w ∷ (us ++ vs)) ts (whole (declaring how ds) w.from (w ∷ (us ++ vs)) tall)

module _ (how : HeadKind) (v : Sort) (is_word : declaring_word v ≡ Some how) where
  declared_item : {d : ℕ} {zs ts : List Lexeme} {x : Grown} (t : Lexeme) → t.sort ≡ k.Export → Declared how v d zs ts x → Above d zs ts (exports_tree x) t x.height
  declared_item t p (declared_then w q h c) = as_height _ (g.export_declarations t p w (ap declaring_word q ∙ is_word) h c)

  declared_fact : {d from begin l n : ℕ} {us ts : List Lexeme} {x : Grown} → Closed (Behind (Declared how v) d begin v) exports_tree (λ x. from) (λ x. x.height) l n us ts x → Second d from begin v l n us ts x
  declared_fact {d} {from} {begin} {l} {n} {us} {ts} {x} (closed y r fits is) = λ w q b e t p at. made w e t p at (r w q b e)
    where
      made : (w : Lexeme) → w.to ≡ l → (t : Lexeme) → t.sort ≡ k.Export → t.from ≡ from → Stood (Declared how v) d l n (w ∷ us) ts y → Stood IsModuleItem d l n (t ∷ w ∷ us) ts x
      made w e t p at (stood h b) = second_whole t w at fits is (ap (λ m. end_after m us) (sym e)) (declared_item t p h)

  declared_fault : {us : List Lexeme} (w : Lexeme) (t : Lexeme) → t.sort ≡ k.Export → Begun (Calm (Declared how v)) (w ∷ us) → Begun (Calm IsModuleItem) (t ∷ w ∷ us)
  declared_fault w t p b = carry (t ∷ []) (λ e zs x h. begun_whole e (t ∷ zs) _ (λ ts calm. declared_item t p (h ts calm))) b

  pub declared_exports : (d : ℕ) → Nested d → (from begin : ℕ) → Parses (λ e. exported_by (tree e) how from begin) d Any (Second d from begin v) (SecondFault v)
  unfolding exported_by
  declared_exports d nest from begin = map (λ l n us ts x r. declared_fact r) (λ l n us ts r w q t p. declared_fault w t p (r w q))
      (closing (declared_bys (Declared how v) how v (λ d tall us vs ts ds t q h c. declared_then t q h c) d nest begin) exports_tree (λ x. from) (λ x. x.height))

-- ---- functions

abbrev a_function : Option Binding → Parts → Lexeme → List Lexeme → Grown
a_function called p w us = whole (declares called p.0 p.1) w.from (w ∷ us) p.1.tall

function_item : {d : ℕ} {us ts : List Lexeme} {p : Parts} (t w u : Lexeme) → t.sort ≡ k.Export → w.sort ≡ k.Function → u.sort ≡ k.Identifier → Function d us p.0 p.1
    → Above d (w ∷ u ∷ us) ts (exports_tree (a_function (Some (binding_of u)) p w (u ∷ us))) t (p.1.tall + 1)
function_item t w u a q i h = as_height _ (g.export_function t a w q u i h)

function_fact : {d from begin l n : ℕ} {us ts : List Lexeme} {x : Grown} → Closed (DeclaredFunction begin d) exports_tree (λ x. from) (λ x. x.height) l n us ts x → Second d from begin k.Function l n us ts x
function_fact {d} {ts = ts} (closed y (declared_by_name {us} u i (function_made {ps} {xs} h few are)) fits is) = λ w q b e t p at.
    let same : y ≡ a_function (Some (binding_of u)) (ps, xs) w (u ∷ us) = are ∙ ap (λ a. ending (declares (Some (binding_of u)) ps xs) a (end_after u.to us) xs.tall) (sym b) in
    second_whole t w at fits is refl (subst (λ z. Above d (w ∷ u ∷ us) ts (exports_tree z) t z.height) (sym same) (function_item t w u p q i h))

function_end : {e : ℕ} {us : List Lexeme} {p : Parts} (t w : Lexeme) → t.sort ≡ k.Export → w.sort ≡ k.Function → NamedFunction e us p → Begun (Calm IsModuleItem) (t ∷ w ∷ us)
function_end {e} {p = p} t w a q (named_function {us = us} u i h) = begun_whole e (t ∷ w ∷ u ∷ us) _ (λ ts calm. function_item {p = p} t w u a q i h)

function_fault : {l n : ℕ} {us ts : List Lexeme} → Partly NamedFunction l n us ts → SecondFault k.Function l n us ts
function_fault (partly b) = λ w q t a. carry (t ∷ w ∷ []) (λ e vs p h. function_end t w a q h) b

pub function_exports : (d : ℕ) → Nested d → (from begin : ℕ) → Parses (λ e. exported_function (tree e) from begin) d Any (Second d from begin k.Function) (SecondFault k.Function)
unfolding exported_function
function_exports d nest from begin = map (λ l n us ts x r. function_fact r) (λ l n us ts r. function_fault r) (closing (function_declarations begin d nest) exports_tree (λ x. from) (λ x. x.height))

-- ---- functions behind `default`

alone_item : {d : ℕ} {us ts : List Lexeme} {p : Parts} (t w f : Lexeme) → t.sort ≡ k.Export → w.sort ≡ k.Default → f.sort ≡ k.Function → Function d us p.0 p.1
    → Above d (w ∷ f ∷ us) ts (exports_default (a_function None p f us)) t (p.1.tall + 1)
alone_item t w f a q c h = as_height _ (g.export_default_function t a w q f c h)

named_item : {d : ℕ} {us ts : List Lexeme} {p : Parts} (t w f u : Lexeme) → t.sort ≡ k.Export → w.sort ≡ k.Default → f.sort ≡ k.Function → u.sort ≡ k.Identifier → Function d us p.0 p.1
    → Above d (w ∷ f ∷ u ∷ us) ts (exports_default (a_function (Some (binding_of u)) p f (u ∷ us))) t (p.1.tall + 1)
named_item t w f u a q c i h = as_height _ (g.export_default_named t a w q f c u i h)

abbrev DefaultFunction : ℕ → ℕ → Fact Grown
DefaultFunction from d = Both (Looked place) (λ begin. Both (Taken unit_of) (λ u. Both BoundIfThere (λ called. Closed (FunctionMade (declares called) begin d) exports_default (λ x. from) (λ x. x.height))))

default_function_fact : {d from begin l n : ℕ} {us ts : List Lexeme} {x : Grown} → Sees k.Function (us ++ ts) ≡ true → DefaultFunction from d l n us ts x → Second d from begin k.Default l n us ts x
unfolding place
default_function_fact {d} {ts = ts} m (both {x = begin} (looked o) (both (taken f j) (both {vs = us} {x = called} (one_bound u i c) (closed y (function_made {ps} {xs} h few are) fits is)))) = λ w q b e t p at.
    let same : y ≡ a_function (Some (binding_of u)) (ps, xs) f (u ∷ us) =
    are ∙ ap (λ a. ending (declares called ps xs) a (end_after u.to us) xs.tall) o ∙ ap (λ a. ending (declares a ps xs) f.from (end_after u.to us) xs.tall) c in
    second_whole t w at fits is refl (subst (λ z. Above d (w ∷ f ∷ u ∷ us) ts (exports_default z) t z.height) (sym same) (named_item t w f u p q (same_sort_true f.sort k.Function m) i h))
default_function_fact {d} {ts = ts} m (both {x = begin} (looked o) (both (taken f j) (both {vs = us} {x = called} (none_bound other c) (closed y (function_made {ps} {xs} h few are) fits is)))) = λ w q b e t p at.
    let same : y ≡ a_function None (ps, xs) f us =
    are ∙ ap (λ a. ending (declares called ps xs) a (end_after f.to us) xs.tall) o ∙ ap (λ a. ending (declares a ps xs) f.from (end_after f.to us) xs.tall) c in
    second_whole t w at fits is refl (subst (λ z. Above d (w ∷ f ∷ us) ts (exports_default z) t z.height) (sym same) (alone_item t w f p q (same_sort_true f.sort k.Function m) h))

alone_end : {e : ℕ} {us : List Lexeme} {p : Parts} (t w f : Lexeme) → t.sort ≡ k.Export → w.sort ≡ k.Default → f.sort ≡ k.Function → FunctionOf e us p → Begun (Calm IsModuleItem) (t ∷ w ∷ f ∷ us)
alone_end {e} {us} {p} t w f a q c h = begun_whole e (t ∷ w ∷ f ∷ us) _ (λ ts calm. alone_item {p = p} t w f a q c h)

named_end : {e : ℕ} {us : List Lexeme} {p : Parts} (t w f u : Lexeme) → t.sort ≡ k.Export → w.sort ≡ k.Default → f.sort ≡ k.Function → u.sort ≡ k.Identifier → FunctionOf e us p → Begun (Calm IsModuleItem) (t ∷ w ∷ f ∷ u ∷ us)
named_end {e} {us} {p} t w f u a q c i h = begun_whole e (t ∷ w ∷ f ∷ u ∷ us) _ (λ ts calm. named_item {p = p} t w f u a q c i h)

-- no parameters, and no items
some_function : Begun FunctionOf []
some_function = record { depth = 0; more = _; made = (parameters_of [] None, none); has = empty_function }

abbrev DefaultFunctionFault : Fault
DefaultFunctionFault = Either Never (Looked place) (λ begin. Either Never (Taken unit_of) (λ u. Either Here BoundIfThere (λ called. Partly FunctionOf)))

default_function_fault : {l n : ℕ} {us ts : List Lexeme} → Sees k.Function (us ++ ts) ≡ true → DefaultFunctionFault l n us ts → SecondFault k.Default l n us ts
default_function_fault m (first c) = elim c [ ]
default_function_fault m (second (looked o) (first c)) = elim c [ ]
default_function_fault m (second (looked o) (second (taken f j) (first here))) = λ w q t a. carry (t ∷ w ∷ f ∷ []) (λ e vs p h. alone_end {p = p} t w f a q (same_sort_true f.sort k.Function m) h) some_function
default_function_fault m (second (looked o) (second (taken f j) (second (one_bound u i c) (partly b)))) = λ w q t a.
    carry (t ∷ w ∷ f ∷ u ∷ []) (λ e vs p h. named_end {p = p} t w f u a q (same_sort_true f.sort k.Function m) i h) b
default_function_fault m (second (looked o) (second (taken f j) (second (none_bound other c) (partly b)))) = λ w q t a.
    carry (t ∷ w ∷ f ∷ []) (λ e vs p h. alone_end {p = p} t w f a q (same_sort_true f.sort k.Function m) h) b

default_functions : (d : ℕ) → Nested d → (from : ℕ) → Parses (λ e. default_function (tree e) from) d (λ ts. Sees k.Function ts ≡ true)
    (DefaultFunction from d) DefaultFunctionFault
unfolding default_function
default_functions d nest from = bind (λ l n us ts o m r. still m r) (given {M = λ ts. Sees k.Function ts ≡ true} (λ ts m. tt) (look place place_shallow))
    (λ begin. then_any (given (seen_left k.Function end_no_function) (take unit_of unit_shallow))
    (λ u. then_any bindings_if_there (λ called. closing (declared_functions called begin d nest) exports_default (λ x. from) (λ x. x.height))))
  where
    still : {l n : ℕ} {us ts : List Lexeme} {o : ℕ} → Sees k.Function (us ++ ts) ≡ true → Looked place l n us ts o → Sees k.Function ts ≡ true
    still m (looked e) = m

-- ---- values behind `default`

-- an Assign, as far as it goes
data ValueThere : ℕ → ℕ → ℕ → List Lexeme → List Lexeme → Grown → Type 0 where
  value_there : {d l n : ℕ} {us ts : List Lexeme} {x : Grown} → Derives d (Assign true) us x → EndsThere (assign (tree d) true) us ts x → ValueThere (suc d) l n us ts x

moved : {e : ℕ} (l n : ℕ) (us ts : List Lexeme) (x : Grown) → Derives e (Assign true) us x
    → ((rs : List Lexeme) → head rs ≡ head ts → tree (suc e) goal.Assign (inp (us ++ rs) l n) ≡ done x (inp rs (end_after l us) n)) → EndsThere (assign (tree e) true) us ts x
unfolding tree
moved {e} l n us ts x h again = λ last size rs same. assign_moves true e e l last n size us rs x (omega arith) (some_tokens h) (again rs same)

values_there : (d : ℕ) → Nested d → Parses (λ e. tree e goal.Assign) d Any (ValueThere d) (Start (Assign true))
values_there d nest = map_again (λ l n us ts x r again. whole_of us ts x r again) (nest.assign true)
  where
    whole_of : {d l n : ℕ} (us ts : List Lexeme) (x : Grown) → Opened (Assign true) d l n us ts x
        → ((rs : List Lexeme) → head rs ≡ head ts → tree d goal.Assign (inp (us ++ rs) l n) ≡ done x (inp rs (end_after l us) n)) → ValueThere d l n us ts x
    whole_of {l = l} {n = n} us ts x (opened h b) again = value_there h (moved l n us ts x h again)

-- a value that begins with no `function`
abbrev Unlike : List Lexeme → Type 0
Unlike us = Sees k.Function us ≡ false

abbrev ValueOf : ℕ → List Lexeme → Grown → Type 0
ValueOf e us x = Derives e (Assign true) us x × Unlike us

unlike_first : (us rs : List Lexeme) → 0 < length us → Unlike (us ++ rs) → Unlike us
unlike_first [] rs some m = absurd (omega (arith, some))
unlike_first (u ∷ us) rs some m = m

default_value_fact : {d from begin l n : ℕ} {us ts : List Lexeme} {x : Grown} → Unlike (us ++ ts)
    → Both (ValueThere d) (λ y. Closed Closing (λ u. exports_default y) (λ u. from) (λ u. y.height)) l n us ts x → Second d from begin k.Default l n us ts x
default_value_fact {ts = ts} m (both {us = us} {vs = vs} {x = y} (value_there {d} h f) (closed u (closing_by c) fits is)) = λ w q b e t p at.
    second_whole t w at fits is (ap (λ k. end_after (end_after k us) vs) (sym e) ∙ sym (end_append w.to us vs))
    (g.export_default_value t p w q (unlike_first us (vs ++ ts) (some_tokens h) (subst Unlike (append_assoc us vs ts) m)) h (ends_with (λ zs. EndsThere (assign (tree d) true) us zs y) f c))

value_end : {e : ℕ} {us : List Lexeme} {x : Grown} (t w : Lexeme) → t.sort ≡ k.Export → w.sort ≡ k.Default → ValueOf e us x → Begun (Calm IsModuleItem) (t ∷ w ∷ us)
value_end {e} {us} {x} t w p q h = record { depth = suc e; more = token k.Semicolon ∷ []; made = _; has = λ ts calm. g.export_default_value t p w q h.1 h.0 ended }

a_name_alone : Unlike (token k.Identifier ∷ [])
unfolding same_sort
a_name_alone = refl

value_begins : {l n : ℕ} (us ts : List Lexeme) → Unlike (us ++ ts) → Start (Assign true) l n us ts → Begun ValueOf us
value_begins [] ts m s = record { depth = 3; more = token k.Identifier ∷ []; made = a_name; has = (some_assign true, a_name_alone) }
value_begins (u ∷ us) ts m (start b) = record { depth = b.open_at_most; more = b.more; made = b.made; has = (b.derives, m) }

default_value_fault : {d l n : ℕ} {us ts : List Lexeme} → Unlike (us ++ ts) → Either (Start (Assign true)) (ValueThere d) (λ y. Here) l n us ts → SecondFault k.Default l n us ts
default_value_fault {us = us} {ts = ts} m (first s) = λ w q t p. carry (t ∷ w ∷ []) (λ e vs x h. value_end t w p q h) (value_begins us ts m s)
default_value_fault {ts = ts} m (second {us = us} (value_there h f) here) = λ w q t p.
    at_nothing {us = t ∷ w ∷ us} (value_end t w p q (h, unlike_first us ts (some_tokens h) (subst Unlike (append_assoc us [] ts) m)))

default_values : (d : ℕ) → Nested d → (from : ℕ) → Parses (λ e. default_value (tree e) from) d Any
    (Both (ValueThere d) (λ y. Closed Closing (λ u. exports_default y) (λ u. from) (λ u. y.height))) (Either (Start (Assign true)) (ValueThere d) (λ y. Here))
unfolding default_value
default_values d nest from = then_any (values_there d nest) (λ y. closing (semicolons d) (λ u. exports_default y) (λ u. from) (λ u. y.height))

-- ---- all that stands behind `default`

abbrev DefaultFact : ℕ → ℕ → Fact Grown
DefaultFact from d = Decided (Sees k.Function) (DefaultFunction from d)
    (Both (ValueThere d) (λ y. Closed Closing (λ u. exports_default y) (λ u. from) (λ u. y.height)))

default_fact : {d from begin l n : ℕ} {us ts : List Lexeme} {x : Grown} → DefaultFact from d l n us ts x → Second d from begin k.Default l n us ts x
default_fact (decided is r) = default_function_fact is r
default_fact (denied is r) = default_value_fact is r

abbrev DefaultFault : ℕ → Fault
DefaultFault d = DecidedFault (Sees k.Function) DefaultFunctionFault (Either (Start (Assign true)) (ValueThere d) (λ y. Here))

default_fault : {d l n : ℕ} {us ts : List Lexeme} → DefaultFault d l n us ts → SecondFault k.Default l n us ts
default_fault (decided_fault is r) = default_function_fault is r
default_fault (denied_fault is r) = default_value_fault is r

pub default_exports : (d : ℕ) → Nested d → (from begin : ℕ) → Parses (λ e. export_default (tree e) from) d Any (Second d from begin k.Default) (SecondFault k.Default)
unfolding export_default
default_exports d nest from begin = map (λ l n us ts x r. default_fact r) (λ l n us ts r. default_fault r)
    (deciding (sees k.Function) (Sees k.Function) (sees_test k.Function) (default_functions d nest from) (given (λ ts m. tt) (default_values d nest from)))
