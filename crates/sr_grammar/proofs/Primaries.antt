-- What a primary expression reads, and where it fails.
use Rattle.std.proofs.Common.{◌≡◌, ℕ, true, false, List, [], ◌∷◌, ◌++◌, Option, refl, sym, ap, ◌∙◌, subst, append-nil}
use Rattle.sr_ast.specs.declared.tree.Node.{Node}
use Rattle.sr_ast.specs.declared.tree.Node.TheVariants as node
use Rattle.sr_ast.specs.declared.binding.Binding.{Binding}
use Rattle.sr_ast.specs.declared.binding.Parameters.{Parameters}
use Rattle.sr_syntax.specs.declared.sorts.Sort.TheVariants as k
use Rattle.sr_syntax.specs.declared.sorts.Sort.{Sort}
use Rattle.sr_syntax.specs.declared.sorts.Lexeme.{Lexeme}
use Rattle.sr_syntax.specs.declared.grown.Grown.{Grown}
use Rattle.sr_syntax.specs.declared.grown.Grove.{Grove}
use Rattle.sr_syntax.specs.declared.grown.Pieces.{Pieces}
use Rattle.sr_syntax.specs.Input.{Input, ◌>>=◌, complete, text, number, text_of, number_of, next}
use Rattle.sr_syntax.specs.Operators.{plain_template, one_piece}
use Rattle.sr_syntax.specs.Expressions.{parenthesized, template, array, primary_by, primary}
use Rattle.sr_syntax.specs.Bodies.{function_, function_of}
use Rattle.sr_syntax.specs.Objects.{object}
use Rattle.sr_syntax.specs.Grammar.{tree}
use Rattle.sr_grammar.specs.Derivations.{Derives, Object, Expression, Primary, whole}
use Rattle.sr_grammar.specs.Derivations as g
use Rattle.sr_grammar.specs.Faults.{Begins}
use Rattle.sr_grammar.proofs.Steps.{inp, Fact, Any, Parses, Both, both, Either, first, second, Never, Taken, taken, Expected, expected, Here, here, map, map_given, given, then_any, take, Shallow, Some_left, At, by_first, expecting, refused, done, ending}
use Rattle.sr_grammar.proofs.Facts.{Derived, derived, Mapped, mapped, mapping, Closed, closed, closing, known_as, finished, Start, start, begins_of_fill, begin_behind, token}
use Rattle.sr_grammar.proofs.Lists.{Nested, expressions}
use Rattle.sr_grammar.proofs.Beginnings.{Begun, carry, begun_whole, begun_more, begins_of, Wholly, wholly, Partly, partly}
use Rattle.sr_grammar.proofs.Peeks.{text_shallow, unit_of, unit_shallow, number_shallow}
use Rattle.sr_grammar.proofs.Elements.{Arrayed, arrayed, NotArrayed, not_arrayed, arraying}
use Rattle.sr_grammar.proofs.Templates.{Ended, ended, Templated, templated, NotTemplated, not_templated, templating}
use Rattle.sr_grammar.proofs.ParameterFacts.{BoundIfThere, one_bound, none_bound, bindings_if_there}
use Rattle.sr_grammar.proofs.PlainFunctions.{FunctionOf, empty_function}
use Rattle.sr_grammar.proofs.FunctionFacts.{FunctionMade, function_made, functions_made}
use Rattle.sr_grammar.proofs.ObjectFacts.{propertiess}
use Rattle.sr_grammar.specs.Reading.{end_after}
use Rattle.sr_grammar.proofs.Sorts.{end_no_right_parenthesis}

-- a token that is a tree by itself
leaf : {A : Type 0} {d : ℕ} (f : Input → A) (value : Lexeme → A) (node_of : A → Node) (s : Sort) (from : ℕ)
    → Shallow f → ((t : Lexeme) (ts : List Lexeme) (l n : ℕ) → f (inp (t ∷ ts) l n) ≡ value t) → (k.End ≡ s → ⊥)
    → ((t : Lexeme) → t.sort ≡ s → Derives d Primary (t ∷ []) (whole (node_of (value t)) t.from (t ∷ []) 0))
    → Parses (λ e. (λ i. done (f i) (next i)) >>= (λ x. complete (node_of x) from 0)) d (At (λ s. s) s from) (Derived d Primary) (Start Primary)
leaf {A} {d} f value node_of s from shallow same other makes =
    map_given (λ l n us ts x m r. fact m r) (λ l n us ts m c. elim c [ ])
    (closing (given some (take f shallow)) node_of (λ x. from) (λ x. 0))
  where
    some : (ts : List Lexeme) → At (λ s. s) s from ts → Some_left ts
    some [] m = absurd (other m)
    some (t ∷ ts) m = tt

    fact : {l n : ℕ} {us ts : List Lexeme} {x : Grown} → At (λ s. s) s from (us ++ ts) → Closed (Taken f) node_of (λ x. from) (λ x. 0) l n us ts x → Derived d Primary l n us ts x
    fact {l} {n} m (closed v (taken {ts} t e) fits is) =
        finished fits (is ∙ ap (λ a. ending (node_of a) from t.to 0) (e ∙ same t ts l n) ∙ ap (λ a. ending (node_of (value t)) a t.to 0) (sym m.1)) refl (makes t m.0)

start_primary : Begins Primary []
start_primary = record { open_at_most = 0; more = token k.Identifier ∷ []; made = _; derives = g.name refl }

-- ---- parentheses

parenthesized_fact : {d l n : ℕ} {us ts : List Lexeme} {x : Grown} (from : ℕ) → At (λ s. s) k.LeftParenthesis from (us ++ ts)
    → Both (Taken unit_of) (λ u. Both (Derived d (Expression true)) (λ x. Mapped (Expected k.RightParenthesis) (λ u. x))) l n us ts x → Derived d Primary l n us ts x
parenthesized_fact from m (both (taken t e) (both (derived h b) (mapped v (expected u c) is))) = known_as is (derived (g.parenthesized m.0 h u c) b)

parenthesized_fault : {d l n : ℕ} {us ts : List Lexeme} (from : ℕ) → At (λ s. s) k.LeftParenthesis from (us ++ ts)
    → Either Never (Taken unit_of) (λ u. Either (Start (Expression true)) (Derived d (Expression true)) (λ x. Here)) l n us ts → Start Primary l n us ts
parenthesized_fault from m (first c) = elim c [ ]
parenthesized_fault from m (second (taken t e) (first (start s))) =
    start (begin_behind [] t (λ e vs x h. record { depth = e; more = token k.RightParenthesis ∷ []; made = x; derives = g.parenthesized m.0 h (token k.RightParenthesis) refl }) s)
parenthesized_fault {d} from m (second (taken t e) (second {us = us} {x = x} (derived h b) here)) =
    start (subst (λ zs. Begins Primary (t ∷ zs)) (sym (append-nil us))
    (begins_of_fill (record { depth = d; more = token k.RightParenthesis ∷ []; made = x; derives = g.parenthesized m.0 h (token k.RightParenthesis) refl })))

-- ---- arrays

array_fact : {d l n : ℕ} {us ts : List Lexeme} {x : Grown} (from : ℕ) → At (λ s. s) k.LeftBracket from (us ++ ts)
    → Both (Taken unit_of) (λ u. Closed (Arrayed d) (λ all. node.Array all.items) (λ all. from) (λ all. all.tall)) l n us ts x → Derived d Primary l n us ts x
array_fact from m (both {vs = us} (taken t e) (closed all (arrayed a) fits is)) =
    finished fits (is ∙ ap (λ a. ending (node.Array all.items) a (end_after t.to us) all.tall) (sym m.1)) refl (g.array m.0 a)

array_fault : {l n : ℕ} {us ts : List Lexeme} (from : ℕ) → At (λ s. s) k.LeftBracket from (us ++ ts) → Either Never (Taken unit_of) (λ u. NotArrayed) l n us ts → Start Primary l n us ts
array_fault from m (first c) = elim c [ ]
array_fault from m (second (taken t e) (not_arrayed b)) = start (begins_of (carry (t ∷ []) (λ e vs xs a. begun_whole e (t ∷ vs) _ (g.array m.0 a)) b))

-- ---- templates

-- the whole of a template, behind its first piece
template_of : {d : ℕ} {us : List Lexeme} {all : Pieces} (t : Lexeme) → t.sort ≡ k.TemplateHead → Ended (text_of t.content) d us all
    → Derives d Primary (t ∷ us) (whole (node.Template all.texts all.trees) t.from (t ∷ us) all.tall)
template_of t c (ended w h u e) = g.template c w h u e

template_fact : {d l n : ℕ} {us ts : List Lexeme} {x : Grown} (from : ℕ) → At (λ s. s) k.TemplateHead from (us ++ ts)
    → Both (Taken text) (λ text. Closed (Templated text d) (λ all. node.Template all.texts all.trees) (λ all. from) (λ all. all.tall)) l n us ts x → Derived d Primary l n us ts x
unfolding text
template_fact {d} from m (both {vs = us} (taken t e) (closed all (templated a) fits is)) =
    finished fits (is ∙ ap (λ a. ending (node.Template all.texts all.trees) a (end_after t.to us) all.tall) (sym m.1)) refl
    (template_of t m.0 (subst (λ text. Ended text d us all) e a))

template_fault : {l n : ℕ} {us ts : List Lexeme} (from : ℕ) → At (λ s. s) k.TemplateHead from (us ++ ts) → Either Never (Taken text) (λ text. NotTemplated text) l n us ts → Start Primary l n us ts
unfolding text
template_fault from m (first c) = elim c [ ]
template_fault from m (second {vs = us} (taken t e) (not_templated b)) =
    start (begins_of (carry (t ∷ []) (λ e vs all a. begun_whole e (t ∷ vs) _ (template_of t m.0 a)) (subst (λ text. Begun (Ended text) us) e b)))

-- ---- objects

object_fact : {d l n : ℕ} {us ts : List Lexeme} {x : Grown} (from : ℕ) → At (λ s. s) k.LeftBrace from (us ++ ts)
    → Both (Taken unit_of) (λ u. Closed (Wholly Object d) (λ all. node.Object all.items) (λ all. from) (λ all. all.tall)) l n us ts x → Derived d Primary l n us ts x
object_fact from m (both {vs = us} (taken t e) (closed all (wholly a) fits is)) =
    finished fits (is ∙ ap (λ a. ending (node.Object all.items) a (end_after t.to us) all.tall) (sym m.1)) refl (g.object m.0 a)

object_fault : {l n : ℕ} {us ts : List Lexeme} (from : ℕ) → At (λ s. s) k.LeftBrace from (us ++ ts) → Either Never (Taken unit_of) (λ u. Partly Object) l n us ts → Start Primary l n us ts
object_fault from m (first c) = elim c [ ]
object_fault from m (second (taken t e) (partly b)) = start (begins_of (carry (t ∷ []) (λ e vs all a. begun_whole e (t ∷ vs) _ (g.object m.0 a)) b))

-- ---- functions

abbrev makes : Option Binding → Parameters → Grove → Node
makes called ps xs = node.Function called ps xs.trees

abbrev FunctionFact : ℕ → ℕ → Fact Grown
FunctionFact d from = Both (Taken unit_of) (λ u. Both BoundIfThere (λ called. FunctionMade (makes called) from d))

-- with a name, or without
function_fact : {d l n : ℕ} {us ts : List Lexeme} {x : Grown} (from : ℕ) → At (λ s. s) k.Function from (us ++ ts) → FunctionFact d from l n us ts x → Derived d Primary l n us ts x
function_fact from m (both (taken t e) (both {vs = us} {x = called} (one_bound v c o) (function_made {ps} {xs} h fits is))) =
    finished fits
    (is ∙ ap (λ a. ending (makes called ps xs) a (end_after v.to us) xs.tall) (sym m.1) ∙ ap (λ a. ending (makes a ps xs) t.from (end_after v.to us) xs.tall) o)
    refl (g.function_named m.0 c h)
function_fact from m (both (taken t e) (both {vs = us} {x = called} (none_bound f o) (function_made {ps} {xs} h fits is))) =
    finished fits
    (is ∙ ap (λ a. ending (makes called ps xs) a (end_after t.to us) xs.tall) (sym m.1) ∙ ap (λ a. ending (makes a ps xs) t.from (end_after t.to us) xs.tall) o)
    refl (g.function_alone m.0 h)

function_fault : {l n : ℕ} {us ts : List Lexeme} (from : ℕ) → At (λ s. s) k.Function from (us ++ ts)
    → Either Never (Taken unit_of) (λ u. Either Here BoundIfThere (λ called. Partly FunctionOf)) l n us ts → Start Primary l n us ts
function_fault from m (first c) = elim c [ ]
function_fault from m (second (taken t e) (first here)) = start (begins_of (begun_more 0 (t ∷ []) [] _ _ (g.function_alone m.0 empty_function)))
function_fault from m (second (taken t e) (second (one_bound v c o) (partly b))) = start (begins_of (carry (t ∷ v ∷ []) (λ e vs p h. begun_whole e (t ∷ v ∷ vs) _ (g.function_named m.0 c h)) b))
function_fault from m (second (taken t e) (second (none_bound f o) (partly b))) = start (begins_of (carry (t ∷ []) (λ e vs p h. begun_whole e (t ∷ vs) _ (g.function_alone m.0 h)) b))

-- ---- by the first token

module _ (d : ℕ) (nest : Nested d) where
  token_needs : (s : Sort) (from : ℕ) → (k.End ≡ s → ⊥) → (ts : List Lexeme) → At (λ s. s) s from ts → Some_left ts
  token_needs s from other [] m = absurd (other m)
  token_needs s from other (t ∷ ts) m = tt

  primaries_by : (from : ℕ) (s : Sort) → Parses (λ e. primary_by (tree e) from s) d (At (λ s. s) s from) (Derived d Primary) (Start Primary)
  unfolding parenthesized text number array object function_ function_of template plain_template
  primaries_by from k.This = leaf unit_of (λ t. tt) (λ u. node.This) k.This from unit_shallow (λ t ts l n. refl) (λ e. cc) (λ t c. g.this c)
  primaries_by from k.Identifier = leaf text (λ t. text_of t.content) node.Name k.Identifier from text_shallow (λ t ts l n. refl) (λ e. cc) (λ t c. g.name c)
  primaries_by from k.Null = leaf unit_of (λ t. tt) (λ u. node.Null) k.Null from unit_shallow (λ t ts l n. refl) (λ e. cc) (λ t c. g.null c)
  primaries_by from k.True = leaf unit_of (λ t. tt) (λ u. node.Bool true) k.True from unit_shallow (λ t ts l n. refl) (λ e. cc) (λ t c. g.true_literal c)
  primaries_by from k.False = leaf unit_of (λ t. tt) (λ u. node.Bool false) k.False from unit_shallow (λ t ts l n. refl) (λ e. cc) (λ t c. g.false_literal c)
  primaries_by from k.Number = leaf number (λ t. number_of t.content) node.Num k.Number from number_shallow (λ t ts l n. refl) (λ e. cc) (λ t c. g.number c)
  primaries_by from k.Text = leaf text (λ t. text_of t.content) node.Text k.Text from text_shallow (λ t ts l n. refl) (λ e. cc) (λ t c. g.text c)
  primaries_by from k.TemplateWhole = leaf text (λ t. text_of t.content) (λ text. node.Template (one_piece text).texts (one_piece text).trees) k.TemplateWhole from text_shallow
      (λ t ts l n. refl) (λ e. cc) (λ t c. g.plain_template c)
  primaries_by from k.TemplateHead = map_given (λ l n us ts x m r. template_fact from m r) (λ l n us ts m r. template_fault from m r)
      (then_any (given (token_needs k.TemplateHead from (λ e. cc)) (take text text_shallow))
      (λ text. closing (templating text d nest) (λ all. node.Template all.texts all.trees) (λ all. from) (λ all. all.tall)))
  primaries_by from k.LeftBracket = map_given (λ l n us ts x m r. array_fact from m r) (λ l n us ts m r. array_fault from m r)
      (then_any (given (token_needs k.LeftBracket from (λ e. cc)) (take unit_of unit_shallow))
      (λ u. closing (arraying d nest) (λ all. node.Array all.items) (λ all. from) (λ all. all.tall)))
  primaries_by from k.LeftBrace = map_given (λ l n us ts x m r. object_fact from m r) (λ l n us ts m r. object_fault from m r)
      (then_any (given (token_needs k.LeftBrace from (λ e. cc)) (take unit_of unit_shallow))
      (λ u. closing (propertiess d nest) (λ all. node.Object all.items) (λ all. from) (λ all. all.tall)))
  primaries_by from k.Function = map_given (λ l n us ts x m r. function_fact from m r) (λ l n us ts m r. function_fault from m r)
      (then_any (given (token_needs k.Function from (λ e. cc)) (take unit_of unit_shallow))
      (λ u. then_any bindings_if_there (λ called. functions_made (makes called) from d nest)))
  primaries_by from k.LeftParenthesis = map_given (λ l n us ts x m r. parenthesized_fact from m r) (λ l n us ts m r. parenthesized_fault from m r)
      (then_any (given (token_needs k.LeftParenthesis from (λ e. cc)) (take unit_of unit_shallow))
      (λ u. then_any (expressions true d nest) (λ x. mapping (expecting k.RightParenthesis end_no_right_parenthesis) (λ u. x))))
  primaries_by from _ = given (λ ts m. tt) (map (λ l n us ts x r. elim r [ ]) (λ l n us ts r. elim r as (λ vs ws h. Start Primary l n vs ws) [ here ↦ start start_primary ]) refused)

  pub primaries : Parses (λ e. primary (tree e)) d Any (Derived d Primary) (Start Primary)
  unfolding primary
  primaries = by_first (λ s. s) (λ e from s. primary_by (tree e) from s) primaries_by
