-- What exports read of names, and where they fail.
use Rattle.std.proofs.Common.{◌≡◌, ℕ, suc, Bool, true, false, ◌&&◌, List, [], ◌∷◌, ◌++◌, Option, None, Some, refl, sym, ap, ◌∙◌, subst}
use Rattle.std.specs.Prelude.{codes}
use Rattle.sr_ast.specs.declared.binding.Binding.{Binding}
use Rattle.sr_ast.specs.declared.module.ExportName.{ExportName}
use Rattle.sr_syntax.specs.declared.sorts.Sort.TheVariants as k
use Rattle.sr_syntax.specs.declared.sorts.Lexeme.{Lexeme}
use Rattle.sr_syntax.specs.Input.{Input, sees, sees_text, sort}
use Rattle.sr_syntax.specs.Modules.{export_spec, export_specs_from, export_specs, exported_as}
use Rattle.sr_grammar.specs.Names.{binding_of, is_text}
use Rattle.sr_grammar.specs.Modules.{OneExport, exported, renamed_there, ExportsWithCommas, no_exports, one_more_export, ExportNames, export_comma_at_last, export_at_last, ExportedAs, under_no_name, under_a_name}
use Rattle.sr_grammar.proofs.Steps.{Fact, Fault, Any, Parses, Both, both, Either, first, second, Never, Pure, nothing, Looked, looked, Taken, taken, Here, here, Chosen, yes, no, ChosenFault, yes_fault, no_fault, Some_left, map, given, then_any, bind, look, take, choose, purely}
use Rattle.sr_grammar.proofs.Facts.{Mapped, mapped, mapping}
use Rattle.sr_grammar.proofs.Beginnings.{begun_more, Wholly, wholly, Partly, partly}
use Rattle.sr_grammar.proofs.Peeks.{unit_of, unit_shallow}
use Rattle.sr_grammar.proofs.Choices.{Decided, decided, denied, DecidedFault, decided_fault, denied_fault, deciding}
use Rattle.sr_grammar.proofs.NamesInBraces.{turn, in_braces}
use Rattle.sr_grammar.proofs.ImportFacts.{First, first_left, word, text_is, text_is_shallow, text_test, sees_identifier, Placed, placed, placing}

-- ---- one name that is exported

-- with whether its name here is one that is not reserved
abbrev Checked : Type 0
Checked = ExportName × Bool

abbrev OneExportOf : List Lexeme → Checked → Type 0
OneExportOf us p = OneExport us p.0 p.1

abbrev export_pair : Binding → Bool → Binding → Checked
export_pair inner is_name outer = (record { local = inner; exported = outer }, is_name)

abbrev as_seen : Input → Bool
as_seen i = sees_text (codes "as") i

as_needs : {l n : ℕ} {us ts : List Lexeme} (b : Bool) → Looked as_seen l n us ts b → (b ≡ true → Some_left ts) × (b ≡ false → Unit {0})
as_needs {l} {n} b (looked {ts} e) = (λ f. first_left (is_text (codes "as")) ts (text_is (codes "as") ts l n true (sym e ∙ f)), λ f. tt)

abbrev OneExportFact : Fact Checked
OneExportFact = Both (Looked (λ i. sees k.Identifier i)) (λ is_name. Both Placed (λ inner. Both (Looked as_seen) (λ b. Chosen b (Both (Taken unit_of) (λ u. Mapped Placed (export_pair inner is_name))) (Pure (export_pair inner is_name inner)))))

one_export_fact : {d l n : ℕ} {us ts : List Lexeme} {p : Checked} → OneExportFact l n us ts p → Wholly (λ e. OneExportOf) d l n us ts p
unfolding sees sort
one_export_fact (both {x = is_name} (looked e) (both (placed t c is) (both (looked {ts} f) (yes g (both (taken a q) (mapped y (placed u i j) h)))))) =
    wholly (subst (λ p. OneExportOf (t ∷ a ∷ u ∷ []) p)
    (sym (h ∙ ap (λ z. export_pair z is_name y) is ∙ ap (λ z. export_pair (binding_of t) is_name z) j ∙ ap (λ b. export_pair (binding_of t) b (binding_of u)) e))
    (renamed_there t c a (text_is (codes "as") _ _ _ true (sym f ∙ g)) u i))
one_export_fact (both {x = is_name} (looked e) (both (placed t c is) (both (looked f) (no g (nothing h))))) =
    wholly (subst (λ p. OneExportOf (t ∷ []) p) (sym (h ∙ ap (λ z. export_pair z is_name z) is ∙ ap (λ b. export_pair (binding_of t) b (binding_of t)) e)) (exported t c))

abbrev OneExportFault : Fault
OneExportFault = Either Never (Looked (λ i. sees k.Identifier i)) (λ is_name. Either Here Placed (λ inner. Either Never (Looked as_seen) (λ b. ChosenFault b (Either Never (Taken unit_of) (λ u. Here)) Never)))

one_export_fault : {l n : ℕ} {us ts : List Lexeme} → OneExportFault l n us ts → Partly (λ e. OneExportOf) l n us ts
one_export_fault (first c) = elim c [ ]
one_export_fault (second (looked e) (first here)) = partly (record { depth = 0; more = word [] ∷ []; made = (_, _); has = exported (word []) refl })
one_export_fault (second (looked e) (second (placed t c is) (first h))) = elim h [ ]
one_export_fault (second (looked e) (second (placed t c is) (second (looked f) (yes_fault g (first h))))) = elim h [ ]
one_export_fault (second (looked e) (second (placed t c is) (second (looked f) (yes_fault g (second (taken a q) here))))) =
    partly (begun_more 0 [] (t ∷ a ∷ []) (word [] ∷ []) (_, _) (renamed_there t c a (text_is (codes "as") _ _ _ true (sym f ∙ g)) (word []) refl))
one_export_fault (second (looked e) (second (placed t c is) (second (looked f) (no_fault g h)))) = elim h [ ]

one_exports : {d : ℕ} → Parses (λ e. export_spec) d Any (Wholly (λ e. OneExportOf) d) (Partly (λ e. OneExportOf))
unfolding export_spec
one_exports = map (λ l n us ts x r. one_export_fact r) (λ l n us ts r. one_export_fault r)
    (then_any (look (λ i. sees k.Identifier i) sees_identifier) (λ is_name. then_any placing (λ inner. bind (λ l n us ts b m r. as_needs b r) (look as_seen (text_is_shallow (codes "as")))
    (λ b. choose b (then_any (take unit_of unit_shallow) (λ u. mapping placing (export_pair inner is_name))) (purely (export_pair inner is_name inner))))))

-- ---- names in braces

-- with whether all their names here are names that are not reserved
abbrev pub AllChecked : Type 0
AllChecked = List ExportName × Bool

abbrev with_export : AllChecked → Checked → AllChecked
with_export all x = (all.0 ++ x.0 ∷ [], all.1 && x.1)

export_turns : (m : ℕ) (found : AllChecked) (i : Input) → export_specs_from (suc m) found.0 found.1 i ≡ turn export_spec with_export (λ found. export_specs_from m found.0 found.1) found i
unfolding export_specs_from
export_turns m found i = refl

abbrev pub ExportNamesOf : List Lexeme → AllChecked → Type 0
ExportNamesOf us p = ExportNames us p.0 p.1

pub export_lists : {d : ℕ} → Parses (λ e. export_specs) d Any (Wholly (λ e. ExportNamesOf) d) (Partly (λ e. ExportNamesOf))
unfolding export_specs
export_lists {d} = in_braces export_spec with_export (λ m found. export_specs_from m found.0 found.1) export_turns ExportNamesOf (λ us p. ExportsWithCommas us p.0 p.1) OneExportOf
    (λ us vs xs x w h t c. one_more_export w h t c) (λ us xs w u c. export_comma_at_last w u c) (λ us vs xs x w h u c. export_at_last w h u c) d one_exports ([], true) no_exports

-- ---- ["as" nm]

abbrev pub ExportedAsOf : ℕ → List Lexeme → Option Binding → Type 0
ExportedAsOf e us o = ExportedAs us o

abbrev AsFact : Fact (Option Binding)
AsFact = Decided (First (is_text (codes "as"))) (Mapped (Both (Taken unit_of) (λ u. Placed)) (λ x. Some x)) (Pure None)

as_fact : {d l n : ℕ} {us ts : List Lexeme} {o : Option Binding} → AsFact l n us ts o → Wholly ExportedAsOf d l n us ts o
as_fact (decided is (mapped y (both (taken a q) (placed u i j)) h)) = wholly (subst (λ o. ExportedAs (a ∷ u ∷ []) o) (sym (h ∙ ap (λ x. Some x) j)) (under_a_name a is u i))
as_fact (denied is (nothing h)) = wholly (subst (λ o. ExportedAs [] o) (sym h) under_no_name)

as_fault : {l n : ℕ} {us ts : List Lexeme} → DecidedFault (First (is_text (codes "as"))) (Either Never (Taken unit_of) (λ u. Here)) Never l n us ts → Partly ExportedAsOf l n us ts
as_fault (decided_fault is (first c)) = elim c [ ]
as_fault (decided_fault is (second (taken a q) here)) = partly (begun_more 0 [] (a ∷ []) (word [] ∷ []) _ (under_a_name a is (word []) refl))
as_fault (denied_fault is c) = elim c [ ]

pub exported_ass : {d : ℕ} → Parses (λ e. exported_as) d Any (Wholly ExportedAsOf d) (Partly ExportedAsOf)
unfolding exported_as
exported_ass = map (λ l n us ts x r. as_fact r) (λ l n us ts r. as_fault r)
    (deciding as_seen (First (is_text (codes "as"))) (text_test (codes "as"))
    (given (first_left (is_text (codes "as"))) (mapping (then_any (take unit_of unit_shallow) (λ u. placing)) (λ x. Some x))) (given (λ ts m. tt) (purely None)))
