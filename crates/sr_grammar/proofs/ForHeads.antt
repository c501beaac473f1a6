-- What the parts in the head of a `for` are read as, and where reading them fails.
use Rattle.std.proofs.Common.{◌≡◌, ℕ, suc, max, Bool, true, false, List, [], ◌∷◌, ◌++◌, Option, Some, refl, sym, ap, ◌∙◌, subst, append_assoc, append-nil, arith}
use Rattle.sr_ast.specs.declared.tree.Declaration.{Declaration}
use Rattle.sr_ast.specs.declared.binding.Binding.{Binding}
use Rattle.sr_ast.specs.declared.binding.HeadKind.{HeadKind}
use Rattle.sr_syntax.specs.declared.sorts.Sort.{Sort}
use Rattle.sr_syntax.specs.declared.sorts.Sort.TheVariants as k
use Rattle.sr_syntax.specs.declared.sorts.Lexeme.{Lexeme}
use Rattle.sr_syntax.specs.declared.grown.Grown.{Grown}
use Rattle.sr_syntax.specs.declared.grown.Part.{Part}
use Rattle.sr_syntax.specs.Sorts.{same_sort}
use Rattle.sr_syntax.specs.Operators.{nothing, part_of}
use Rattle.sr_syntax.specs.Declarations.{declaring}
use Rattle.sr_syntax.specs.Statements.{perhaps, keys_of, values_of, for_declarations}
use Rattle.sr_syntax.specs.Grammar.{tree}
use Rattle.sr_grammar.specs.Names.{binding_of, declaring_word}
use Rattle.sr_grammar.specs.Derivations.{Symbol, Derives, Expression, Assign, Perhaps, no_expression, an_expression, First, Declarations, one_declaration, declared, value_height, whole}
use Rattle.sr_grammar.specs.Derivations as g
use Rattle.sr_grammar.specs.Reading.{end_after}
use Rattle.sr_grammar.proofs.Steps.{Fact, Fault, Any, Parses, Both, both, Either, first, second, Never, Pure, Eaten, ate, absent, Expected, expected, Here, here, Chosen, yes, no, ChosenFault, yes_fault, no_fault, map, then_any, eaten, expecting, purely, choose_any, not_both, ending, end_append}
use Rattle.sr_grammar.proofs.Steps as steps
use Rattle.sr_grammar.proofs.Facts.{Derived, derived, Opened, opened, Mapped, mapped, mapping, Closed, closed, closing, Start, token}
use Rattle.sr_grammar.proofs.Lists.{Nested, expressions}
use Rattle.sr_grammar.proofs.Beginnings.{Begun, carry, onward, begun_whole}
use Rattle.sr_grammar.proofs.Standing.{begun_at, Wanted, at_nothing}
use Rattle.sr_grammar.proofs.Declaring.{Value, Valued, value_is, values, declares_of, any_declared, declared_begins, made_of, made_is, AllOf, MoreDeclared, more_declared, NotMoreDeclared, not_more_declared, more_declarationss}
use Rattle.sr_grammar.proofs.Sorts.{end_no_right_parenthesis, end_no_semicolon}

-- ---- an expression, or none

pub data Maybe (has : Bool) (d : ℕ) (close : Sort) (l n : ℕ) (us ts : List Lexeme) (x : Part) : Type 0 where
  maybe : Perhaps has d close us x → Maybe has d close l n us ts x

abbrev pub PerhapsOf : Bool → Sort → ℕ → List Lexeme → Part → Type 0
PerhapsOf has close e us x = Perhaps has e close us x

perhaps_fact : {has : Bool} {d l n : ℕ} {close : Sort} {us ts : List Lexeme} {x : Part}
    → Both (Eaten close) (λ b. Chosen b (Pure nothing) (Both (Derived d (Expression has)) (λ x. Mapped (Expected close) (λ u. part_of x)))) l n us ts x → Maybe has d close l n us ts x
perhaps_fact {has} {d} {l} {n} {close} (both (ate {ts} t c e) (yes f (steps.nothing is))) = subst (λ y. Maybe has d close l n (t ∷ []) ts y) (sym is) (maybe (no_expression t c))
perhaps_fact (both (ate t c e) (no f r)) = absurd (not_both e f)
perhaps_fact (both (absent e o) (yes f r)) = absurd (not_both f e)
perhaps_fact {has} {d} {l} {n} {close} (both (absent e o) (no f (both {us = us} (derived h b) (mapped v (expected {ts} u c) is)))) =
    subst (λ y. Maybe has d close l n (us ++ u ∷ []) ts y) (sym is) (maybe (an_expression h u c))

perhaps_end : {has : Bool} {close : Sort} (e : ℕ) (us : List Lexeme) (x : Grown) → Derives e (Expression has) us x → Begun (PerhapsOf has close) us
perhaps_end {has} {close} e us x h = record { depth = e; more = token close ∷ []; made = part_of x; has = an_expression h (token close) refl }

perhaps_fault : {has : Bool} {d l n : ℕ} {close : Sort} {us ts : List Lexeme}
    → Either Never (Eaten close) (λ b. ChosenFault b Never (Either (Start (Expression has)) (Derived d (Expression has)) (λ x. Here))) l n us ts → Begun (PerhapsOf has close) us
perhaps_fault (first c) = elim c [ ]
perhaps_fault (second (ate t c e) (yes_fault f r)) = elim r [ ]
perhaps_fault (second (ate t c e) (no_fault f r)) = absurd (not_both e f)
perhaps_fault (second (absent e o) (yes_fault f r)) = elim r [ ]
perhaps_fault (second (absent e o) (no_fault f (first s))) = onward (λ e vs x h. perhaps_end e vs x h) (begun_at s)
perhaps_fault {d = d} (second (absent e o) (no_fault f (second {us = us} {x = x} (derived h b) here))) = at_nothing (perhaps_end d us x h)

pub perhapss : (has : Bool) (d : ℕ) → Nested d → (close : Sort) → same_sort k.End close ≡ false → Parses (λ e. perhaps (tree e) has close) d Any (Maybe has d close) (Wanted (PerhapsOf has close))
unfolding perhaps
perhapss has d nest close other = map (λ l n us ts x r. perhaps_fact r) (λ l n us ts r. perhaps_fault r)
    (then_any (eaten close other) (λ b. choose_any b (purely nothing) (then_any (expressions has d nest) (λ x. mapping (expecting close other) (λ u. part_of x)))))

-- ---- keys and values

-- and the parenthesis behind it
pub data Headed (s : Symbol) : ℕ → List Lexeme → Grown → Type 0 where
  headed : {d : ℕ} {us : List Lexeme} {x : Grown} → Derives d s us x → (p : Lexeme) → p.sort ≡ k.RightParenthesis → Headed s d (us ++ p ∷ []) x

pub data Keys (d l n : ℕ) (us ts : List Lexeme) (x : Grown) : Type 0 where
  keys_are : Headed (Expression true) d us x → Keys d l n us ts x

-- with one fewer that may be open
pub data Values : ℕ → ℕ → ℕ → List Lexeme → List Lexeme → Grown → Type 0 where
  values_are : {d l n : ℕ} {us ts : List Lexeme} {x : Grown} → Headed (Assign true) d us x → Values (suc d) l n us ts x

headed_end : {s : Symbol} (e : ℕ) (us : List Lexeme) (x : Grown) → Derives e s us x → Begun (Headed s) us
headed_end e us x h = record { depth = e; more = token k.RightParenthesis ∷ []; made = x; has = headed h (token k.RightParenthesis) refl }

keys_fact : {d l n : ℕ} {us ts : List Lexeme} {x : Grown} → Both (Derived d (Expression true)) (λ x. Mapped (Expected k.RightParenthesis) (λ u. x)) l n us ts x → Keys d l n us ts x
keys_fact {d} {l} {n} (both {us = us} (derived h b) (mapped v (expected {ts} u e) is)) = subst (λ y. Keys d l n (us ++ u ∷ []) ts y) (sym is) (keys_are (headed h u e))

keys_fault : {d l n : ℕ} {us ts : List Lexeme} → Either (Start (Expression true)) (Derived d (Expression true)) (λ x. Here) l n us ts → Begun (Headed (Expression true)) us
keys_fault (first s) = onward (λ e vs x h. headed_end e vs x h) (begun_at s)
keys_fault {d} (second {us = us} {x = x} (derived h b) here) = at_nothing (headed_end d us x h)

pub keyss : (d : ℕ) → Nested d → Parses (λ e. keys_of (tree e)) d Any (Keys d) (Wanted (Headed (Expression true)))
unfolding keys_of
keyss d nest = map (λ l n us ts x r. keys_fact r) (λ l n us ts r. keys_fault r) (then_any (expressions true d nest) (λ x. mapping (expecting k.RightParenthesis end_no_right_parenthesis) (λ u. x)))

values_fact : {d l n : ℕ} {us ts : List Lexeme} {x : Grown} → Both (Opened (Assign true) d) (λ x. Mapped (Expected k.RightParenthesis) (λ u. x)) l n us ts x → Values d l n us ts x
values_fact {l = l} {n = n} (both {us = us} (opened {d} h b) (mapped v (expected {ts} u e) is)) = subst (λ y. Values (suc d) l n (us ++ u ∷ []) ts y) (sym is) (values_are (headed h u e))

values_fault : {d l n : ℕ} {us ts : List Lexeme} → Either (Start (Assign true)) (Opened (Assign true) d) (λ x. Here) l n us ts → Begun (Headed (Assign true)) us
values_fault (first s) = onward (λ e vs x h. headed_end e vs x h) (begun_at s)
values_fault (second {us = us} {x = x} (opened {d} h b) here) = at_nothing (headed_end d us x h)

pub valuess : (d : ℕ) → Nested d → Parses (λ e. values_of (tree e)) d Any (Values d) (Wanted (Headed (Assign true)))
unfolding values_of
valuess d nest = map (λ l n us ts x r. values_fact r) (λ l n us ts r. values_fault r) (then_any (nest.assign true) (λ x. mapping (expecting k.RightParenthesis end_no_right_parenthesis) (λ u. x)))

-- ---- declarations and their semicolon, behind the first name

-- with the word and the name that stand before them
abbrev pub Naming : HeadKind → Binding → Lexeme → Lexeme → Type 0
Naming how b v w = (declaring_word v.sort ≡ Some how) × (w.sort ≡ k.Identifier) × (b ≡ binding_of w)

abbrev pub FirstDeclared : ℕ → ℕ → HeadKind → Binding → Fact Grown
FirstDeclared d from how b l n us ts x = (v w : Lexeme) → Naming how b v w → v.from ≡ from → w.to ≡ l → First d (v ∷ w ∷ us) (part_of x)

abbrev pub FirstFault : HeadKind → Binding → Fault
FirstFault how b l n us ts = (v w : Lexeme) → Naming how b v w → Begun First (v ∷ w ∷ us)

abbrev DeclaredFact : ℕ → ℕ → HeadKind → Binding → Fact Grown
DeclaredFact d from how b = Both (Valued false b.name b.from d) (λ one. Both (MoreDeclared d one) (λ all. Closed (Expected k.Semicolon) (λ u. declaring how all.0) (λ u. from) (λ u. all.1)))

-- the first declaration
one_of : {d : ℕ} {us : List Lexeme} {b : Binding} {p : Declaration × ℕ} (w : Lexeme) (o : Option Grown) → w.sort ≡ k.Identifier → b ≡ binding_of w
    → Value false d us o → p ≡ made_of b.name b.from o → Declarations false d (w ∷ us) (p.0 ∷ []) p.1
one_of {d} {us = us} {b = b} {p = p} w o c e h is =
    let same : p ≡ (declared w o, value_height o) = is ∙ ap (λ (a : Binding). made_of a.name a.from o) e ∙ made_is w o in
    let none_taller : max 0 (value_height o) ≡ value_height o = omega arith in
    subst (λ (q : Declaration × ℕ). Declarations false d (w ∷ us) (q.0 ∷ []) q.1) (sym same)
    (subst (λ m. Declarations false d (w ∷ us) (declared w o ∷ []) m) none_taller (one_declaration (declares_of h w c)))

first_end : {how : HeadKind} (e : ℕ) (us : List Lexeme) (all : List Declaration × ℕ) (v : Lexeme) → AllOf false e us all → declaring_word v.sort ≡ Some how → Begun First (v ∷ us)
first_end {how} e us all v h q = record { depth = e; more = token k.Semicolon ∷ []; made = part_of (whole (declaring how all.0) v.from (v ∷ (us ++ token k.Semicolon ∷ [])) all.1); has = g.first_declarations v q h (token k.Semicolon) refl }

-- a name with no value
pub first_named : {how : HeadKind} (v : Lexeme) → declaring_word v.sort ≡ Some how → Begun First (v ∷ [])
first_named v q = carry (v ∷ []) (λ e vs all h. first_end e vs all v h q) (onward (λ e vs p h. begun_whole e vs (declared p.0 p.1 ∷ [], max 0 (value_height p.1)) (one_declaration h)) any_declared)

declared_fact : {d from l n : ℕ} {how : HeadKind} {b : Binding} {us ts : List Lexeme} {x : Grown} → DeclaredFact d from how b l n us ts x → FirstDeclared d from how b l n us ts x
declared_fact {d} {from} {how = how} {x = x} (both {us = us} (value_is o h e) (both {us = vs} {x = all} (more_declared f) (closed r (expected z c) fits is))) = λ v w s o_at at.
    let ws : List Lexeme = w ∷ (us ++ (vs ++ z ∷ [])) in
    let split : (w ∷ (us ++ vs)) ++ z ∷ [] ≡ ws = ap (λ zs. w ∷ zs) (append_assoc us vs (z ∷ [])) in
    let made : x ≡ whole (declaring how all.0) v.from (v ∷ ws) all.1 =
    is ∙ ap (λ a. ending (declaring how all.0) a z.to all.1) (sym o_at)
    ∙ ap (λ a. ending (declaring how all.0) v.from a all.1) (sym (end_append w.to us (vs ++ z ∷ []) ∙ end_append (end_after w.to us) vs (z ∷ []))) in
    let all_of : Declarations false d (w ∷ (us ++ vs)) all.0 all.1 = f (w ∷ us) (one_of w o s.1 s.2 h e) in
    subst (λ y. First d (v ∷ ws) (part_of y)) (sym made)
    (subst (λ zs. First d (v ∷ zs) (part_of (whole (declaring how all.0) v.from (v ∷ zs) all.1))) split (g.first_declarations v s.0 all_of z c))

abbrev DeclaredFault : ℕ → Binding → Fault
DeclaredFault d b = Either (Wanted (Value false)) (Valued false b.name b.from d) (λ one. Either (NotMoreDeclared d one) (MoreDeclared d one) (λ all. Here))

declared_fault : {d l n : ℕ} {how : HeadKind} {b : Binding} {us ts : List Lexeme} → DeclaredFault d b l n us ts → FirstFault how b l n us ts
declared_fault (first r) = λ v w s.
    carry (v ∷ []) (λ e vs all h. first_end e vs all v h s.0) (onward (λ e vs p h. begun_whole e vs (declared p.0 p.1 ∷ [], max 0 (value_height p.1)) (one_declaration h)) (declared_begins w s.1 r))
declared_fault (second {us = us} (value_is o h e) (first (not_more_declared f))) = λ v w s. carry (v ∷ []) (λ e vs all h. first_end e vs all v h s.0) (f (w ∷ us) (one_of w o s.1 s.2 h e))
declared_fault {d} (second {us = us} (value_is o h e) (second {us = vs} {x = all} (more_declared f) here)) = λ v w s.
    subst (λ zs. Begun First (v ∷ w ∷ (us ++ zs))) (sym (append-nil vs)) (first_end d (w ∷ (us ++ vs)) all v (f (w ∷ us) (one_of w o s.1 s.2 h e)) s.0)

pub firsts_declared : (d : ℕ) → Nested d → (from : ℕ) (how : HeadKind) (b : Binding)
    → Parses (λ e. for_declarations (tree e) from (record { kind = how; binding = b })) d Any (FirstDeclared d from how b) (FirstFault how b)
unfolding for_declarations
firsts_declared d nest from how b = map (λ l n us ts x r. declared_fact r) (λ l n us ts r. declared_fault r)
    (then_any (values false d nest b.from b.name) (λ one. then_any (more_declarationss d nest one) (λ all.
    closing (expecting k.Semicolon end_no_semicolon) (λ u. declaring how all.0) (λ u. from) (λ u. all.1))))
