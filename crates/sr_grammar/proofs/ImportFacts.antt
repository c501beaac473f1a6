-- What imports read of names, strings and modules, and where they fail.
use Rattle.std.proofs.Common.{◌≡◌, ℕ, suc, Bool, true, false, not, ◌||◌, List, [], ◌∷◌, ◌++◌, refl, sym, ap, ◌∙◌, subst}
use Rattle.std.specs.Prelude.{codes}
use Rattle.sr_ast.specs.declared.binding.Binding.{Binding}
use Rattle.sr_ast.specs.declared.module.ImportName.{ImportName}
use Rattle.sr_ast.specs.declared.module.Imports.{Imports}
use Rattle.sr_ast.specs.declared.module.Imports.TheVariants as imports
use Rattle.sr_syntax.specs.declared.sorts.Content.TheVariants.{Name}
use Rattle.sr_syntax.specs.declared.sorts.Sort.{Sort}
use Rattle.sr_syntax.specs.declared.sorts.Sort.TheVariants as k
use Rattle.sr_syntax.specs.declared.sorts.Lexeme.{Lexeme}
use Rattle.sr_syntax.specs.Sorts.{same_sort}
use Rattle.sr_syntax.specs.Input.{Input, expect_text, sees, sees_text, sees_word, sort, text, text_of, place}
use Rattle.sr_syntax.specs.Modules.{module_name, from_clause, export_name, local_name, import_name, import_names_from, import_names, imported_by, imported}
use Rattle.sr_grammar.specs.Names.{binding_of, is_text}
use Rattle.sr_grammar.specs.Modules.{is_export_name, FromClause, from_module, OneImport, by_its_name, renamed_here, ImportsWithCommas, no_imports, one_more_import, ImportNames, import_comma_at_last, import_at_last, Imported, namespace, names}
use Rattle.sr_grammar.specs.Reading.{head}
use Rattle.sr_grammar.proofs.Steps.{inp, Fact, Fault, Any, Parses, Both, both, Either, first, second, Never, Nowhere, Pure, nothing, Looked, looked, Taken, taken, Here, here, Chosen, yes, no, ChosenFault, yes_fault, no_fault, Shallow, Some_left, map, given, then_any, bind, look, take, place_shallow, sort_alike, purely, refused, choose_any, same_sort_true}
use Rattle.sr_grammar.proofs.Facts.{Mapped, mapped, mapping, token}
use Rattle.sr_grammar.proofs.Beginnings.{Begun, begun_more, Wholly, wholly, Partly, partly, carry, begun_whole}
use Rattle.sr_grammar.proofs.Peeks.{Sorted, by_sort, Token, one_token, taking, text_shallow, unit_of, unit_shallow}
use Rattle.sr_grammar.proofs.Choices.{Decided, decided, denied, DecidedFault, decided_fault, denied_fault, Test, deciding, Sees, sees_test, seen_left}
use Rattle.sr_grammar.proofs.ParameterFacts.{Bound, bound, bindings}
use Rattle.sr_grammar.proofs.NamesInBraces.{turn, in_braces}
use Rattle.sr_grammar.proofs.Sorts.{end_no_text}

-- ---- the first token

-- Such a token comes first.
abbrev pub First : (Lexeme → Bool) → List Lexeme → Bool
First p [] = false
First p (t ∷ ts) = p t

first_alike : (p : Lexeme → Bool) (ts rs : List Lexeme) → head rs ≡ head ts → First p rs ≡ First p ts
first_alike p [] [] h = refl
first_alike p [] (r ∷ rs) h = cc
first_alike p (t ∷ ts) [] h = cc
first_alike p (t ∷ ts) (r ∷ rs) h = let e : r ≡ t = cc in ap p e

pub first_left : (p : Lexeme → Bool) (ts : List Lexeme) → First p ts ≡ true → Some_left ts
first_left p [] is = cc
first_left p (t ∷ ts) is = tt

-- a name that is not reserved
abbrev pub word : List ℕ → Lexeme
word units = record { sort = k.Identifier; content = Name units; from = 0; to = 0; line_before = false; ahead = k.End }

from_is : is_text (codes "from") (word (codes "from")) ≡ true
unfolding same_sort
from_is = refl

as_is : is_text (codes "as") (word (codes "as")) ≡ true
unfolding same_sort
as_is = refl

-- ---- names that are no more than text

pub text_test : (units : List ℕ) → Test (sees_text units) (First (is_text units))
unfolding sees_text same_sort
text_test units = record { shows = shows; shallow = λ ts rs same. first_alike (is_text units) ts rs same }
  where
    shows : (all : List Lexeme) (l n : ℕ) → sees_text units (inp all l n) ≡ First (is_text units) all
    shows [] l n = refl
    shows (t ∷ ts) l n = refl

pub text_is_shallow : (units : List ℕ) → Shallow (sees_text units)
text_is_shallow units l n ts rs h = (text_test units).shows rs l n ∙ (text_test units).shallow ts rs h ∙ sym ((text_test units).shows ts l n)

-- whether it is there
pub text_is : (units : List ℕ) (ts : List Lexeme) (l n : ℕ) (b : Bool) → sees_text units (inp ts l n) ≡ b → First (is_text units) ts ≡ b
text_is units ts l n b h = sym ((text_test units).shows ts l n) ∙ h

-- a token that is this name
data Said (units : List ℕ) (l n : ℕ) : List Lexeme → List Lexeme → Unit {0} → Type 0 where
  said : {ts : List Lexeme} {x : Unit {0}} (t : Lexeme) → is_text units t ≡ true → Said units l n (t ∷ []) ts x

said_fact : {units : List ℕ} {l n : ℕ} {us ts : List Lexeme} {x : Unit {0}} → Decided (First (is_text units)) (Taken unit_of) Nowhere l n us ts x → Said units l n us ts x
said_fact (decided is (taken t e)) = said t is
said_fact (denied is r) = elim r [ ]

here_of : {g : List Lexeme → Bool} {l n : ℕ} {us ts : List Lexeme} → DecidedFault g Never Here l n us ts → Here l n us ts
here_of (decided_fault is c) = elim c [ ]
here_of (denied_fault is h) = h

saying : (units : List ℕ) {d : ℕ} → Parses (λ e. expect_text units) d Any (Said units) Here
unfolding expect_text
saying units = map (λ l n us ts x r. said_fact r) (λ l n us ts r. here_of r)
    (deciding (sees_text units) (First (is_text units)) (text_test units) (given (first_left (is_text units)) (take unit_of unit_shallow)) (given (λ ts m. tt) refused))

-- ---- the module that is named

abbrev pub FromOf : ℕ → List Lexeme → List ℕ → Type 0
FromOf e us x = FromClause us x

data Quoted (l n : ℕ) : List Lexeme → List Lexeme → List ℕ → Type 0 where
  quoted : {ts : List Lexeme} {x : List ℕ} (t : Lexeme) → t.sort ≡ k.Text → x ≡ text_of t.content → Quoted l n (t ∷ []) ts x

quoted_fact : {l n : ℕ} {us ts : List Lexeme} {x : List ℕ} → Decided (Sees k.Text) (Taken text) Nowhere l n us ts x → Quoted l n us ts x
unfolding text
quoted_fact (decided is (taken t e)) = quoted t (same_sort_true t.sort k.Text is) e
quoted_fact (denied is r) = elim r [ ]

quoting : {d : ℕ} → Parses (λ e. module_name) d Any Quoted Here
unfolding module_name text
quoting = map (λ l n us ts x r. quoted_fact r) (λ l n us ts r. here_of r)
    (deciding (sees k.Text) (Sees k.Text) (sees_test k.Text) (given (seen_left k.Text end_no_text) (take text text_shallow)) (given (λ ts m. tt) refused))

from_fact : {d l n : ℕ} {us ts : List Lexeme} {x : List ℕ} → Both (Said (codes "from")) (λ u. Quoted) l n us ts x → Wholly FromOf d l n us ts x
from_fact {d} {l} {n} (both {us = us} (said t c) (quoted {ts} u e is)) = wholly (subst (λ x. FromClause (t ∷ u ∷ []) x) (sym is) (from_module t c u e))

-- the clause from its beginning
pub some_from : Begun FromOf []
some_from = record { depth = 0; more = word (codes "from") ∷ token k.Text ∷ []; made = []; has = from_module (word (codes "from")) from_is (token k.Text) refl }

from_fault : {l n : ℕ} {us ts : List Lexeme} → Either Here (Said (codes "from")) (λ u. Here) l n us ts → Partly FromOf l n us ts
from_fault (first here) = partly some_from
from_fault (second (said t c) here) = partly (begun_more 0 [] (t ∷ []) (token k.Text ∷ []) [] (from_module t c (token k.Text) refl))

pub from_clauses : {d : ℕ} → Parses (λ e. from_clause) d Any (Wholly FromOf d) (Partly FromOf)
unfolding from_clause
from_clauses = map (λ l n us ts x r. from_fact r) (λ l n us ts r. from_fault r) (then_any (saying (codes "from")) (λ u. quoting))

-- ---- names with their places

-- a name, reserved or not, or a string, with its place
pub data Placed (l n : ℕ) : List Lexeme → List Lexeme → Binding → Type 0 where
  placed : {ts : List Lexeme} {x : Binding} (t : Lexeme) → is_export_name t ≡ true → x ≡ binding_of t → Placed l n (t ∷ []) ts x

abbrev named_at : ℕ → List ℕ → Binding
named_at from called = record { name = called; from = from }

name_test : Test (λ i. sees_word i || sees k.Text i) (First is_export_name)
unfolding sees_word sees sort same_sort
name_test = record { shows = shows; shallow = λ ts rs same. first_alike is_export_name ts rs same }
  where
    shows : (all : List Lexeme) (l n : ℕ) → (sees_word (inp all l n) || sees k.Text (inp all l n)) ≡ First is_export_name all
    shows [] l n = refl
    shows (t ∷ ts) l n = refl

placed_fact : {l n : ℕ} {us ts : List Lexeme} {x : Binding} → Decided (First is_export_name) (Both (Looked place) (λ from. Mapped (Taken text) (named_at from))) Nowhere l n us ts x → Placed l n us ts x
unfolding place text
placed_fact (decided is (both {x = from} (looked e) (mapped called (taken t f) i))) = placed t is (i ∙ ap (λ a. named_at from a) f ∙ ap (λ a. named_at a (text_of t.content)) e)
placed_fact (denied is r) = elim r [ ]

placed_fault : {l n : ℕ} {us ts : List Lexeme} → DecidedFault (First is_export_name) (Either Never (Looked place) (λ from. Never)) Here l n us ts → Here l n us ts
placed_fault (decided_fault is (first c)) = elim c [ ]
placed_fault (decided_fault is (second (looked e) c)) = elim c [ ]
placed_fault (denied_fault is h) = h

pub placing : {d : ℕ} → Parses (λ e. export_name) d Any Placed Here
unfolding export_name text
placing {d} = map (λ l n us ts x r. placed_fact r) (λ l n us ts r. placed_fault r)
    (deciding (λ i. sees_word i || sees k.Text i) (First is_export_name) name_test
    (given (first_left is_export_name) (bind (λ l n us ts from m r. still m r) (given {M = Some_left} (λ ts m. tt) (look place place_shallow)) (λ from. mapping (take text text_shallow) (named_at from))))
    (given (λ ts m. tt) refused))
  where
    still : {l n : ℕ} {us ts : List Lexeme} {from : ℕ} → Some_left (us ++ ts) → Looked place l n us ts from → Some_left ts
    still m (looked e) = m

-- ---- "as" and the name here

-- as two tokens
data Renamed (l n : ℕ) : List Lexeme → List Lexeme → Binding → Type 0 where
  renamed : {ts : List Lexeme} {x : Binding} (a u : Lexeme) → is_text (codes "as") a ≡ true → u.sort ≡ k.Identifier → x ≡ binding_of u → Renamed l n (a ∷ u ∷ []) ts x

-- none of them, or the first one
data NotRenamed (l n : ℕ) : List Lexeme → List Lexeme → Type 0 where
  no_as : {ts : List Lexeme} → NotRenamed l n [] ts
  as_alone : {ts : List Lexeme} (a : Lexeme) → is_text (codes "as") a ≡ true → NotRenamed l n (a ∷ []) ts

renamed_fact : {l n : ℕ} {us ts : List Lexeme} {x : Binding} → Both (Said (codes "as")) (λ u. Bound) l n us ts x → Renamed l n us ts x
renamed_fact (both (said a c) (bound u e is)) = renamed a u c e is

renamed_fault : {l n : ℕ} {us ts : List Lexeme} → Either Here (Said (codes "as")) (λ u. Here) l n us ts → NotRenamed l n us ts
renamed_fault (first here) = no_as
renamed_fault (second (said a c) here) = as_alone a c

renaming : {d : ℕ} → Parses (λ e. local_name) d Any Renamed NotRenamed
unfolding local_name
renaming = map (λ l n us ts x r. renamed_fact r) (λ l n us ts r. renamed_fault r) (then_any (saying (codes "as")) (λ u. bindings))

-- ---- one name that is imported

abbrev OneImportOf : ℕ → List Lexeme → ImportName → Type 0
OneImportOf e us x = OneImport us x

abbrev renames_to : Bool → Input → Bool
renames_to is_name i = sees_text (codes "as") i || not is_name

renames_shallow : (is_name : Bool) → Shallow (renames_to is_name)
renames_shallow is_name l n ts rs h = ap (λ b. b || not is_name) (text_is_shallow (codes "as") l n ts rs h)

pub sees_identifier : Shallow (λ i. sees k.Identifier i)
unfolding sees sort
sees_identifier l n ts rs h = ap (λ a. same_sort a k.Identifier) (sort_alike ts rs h)

pub or_false : (a b : Bool) → (a || not b) ≡ false → b ≡ true
or_false true b h = cc
or_false false true h = refl
or_false false false h = cc

abbrev import_pair : Binding → Binding → ImportName
import_pair outer inner = record { imported = outer; local = inner }

abbrev OneImportFact : Fact ImportName
OneImportFact = Both (Looked (λ i. sees k.Identifier i)) (λ is_name. Both Placed (λ outer. Both (Looked (renames_to is_name)) (λ b. Chosen b (Mapped Renamed (import_pair outer)) (Pure (import_pair outer outer)))))

one_import_fact : {d l n : ℕ} {us ts : List Lexeme} {x : ImportName} → OneImportFact l n us ts x → Wholly OneImportOf d l n us ts x
unfolding sees sort
one_import_fact (both (looked e) (both (placed t c is) (both (looked f) (yes g (mapped y (renamed a u i j k) h))))) =
    wholly (subst (λ x. OneImport (t ∷ a ∷ u ∷ []) x) (sym (h ∙ ap (λ z. import_pair z y) is ∙ ap (λ z. import_pair (binding_of t) z) k)) (renamed_here t c a i u j))
one_import_fact {l = l} {n = n} (both {x = is_name} (looked e) (both (placed t c is) (both {vs = vs} (looked {ts} f) (no g (nothing h))))) =
    wholly (subst (λ x. OneImport (t ∷ []) x) (sym (h ∙ ap (λ z. import_pair z z) is))
    (by_its_name t (same_sort_true t.sort k.Identifier (sym e ∙ or_false (sees_text (codes "as") (inp ts t.to n)) is_name (sym f ∙ g)))))

-- from its beginning, and behind its first name
some_import : Begun OneImportOf []
some_import = record { depth = 0; more = word [] ∷ []; made = _; has = by_its_name (word []) refl }

abbrev OneImportFault : Fault
OneImportFault = Either Never (Looked (λ i. sees k.Identifier i)) (λ is_name. Either Here Placed (λ outer. Either Never (Looked (renames_to is_name)) (λ b. ChosenFault b NotRenamed Never)))

one_import_fault : {l n : ℕ} {us ts : List Lexeme} → OneImportFault l n us ts → Partly OneImportOf l n us ts
one_import_fault (first c) = elim c [ ]
one_import_fault (second (looked e) (first here)) = partly some_import
one_import_fault (second (looked e) (second (placed t c is) (first h))) = elim h [ ]
one_import_fault (second (looked e) (second (placed t c is) (second (looked f) (yes_fault g no_as)))) =
    partly (begun_more 0 [] (t ∷ []) (word (codes "as") ∷ word [] ∷ []) _ (renamed_here t c (word (codes "as")) as_is (word []) refl))
one_import_fault (second (looked e) (second (placed t c is) (second (looked f) (yes_fault g (as_alone a i))))) =
    partly (begun_more 0 [] (t ∷ a ∷ []) (word [] ∷ []) _ (renamed_here t c a i (word []) refl))
one_import_fault (second (looked e) (second (placed t c is) (second (looked f) (no_fault g h)))) = elim h [ ]

one_imports : {d : ℕ} → Parses (λ e. import_name) d Any (Wholly OneImportOf d) (Partly OneImportOf)
unfolding import_name
one_imports = map (λ l n us ts x r. one_import_fact r) (λ l n us ts r. one_import_fault r)
    (then_any (look (λ i. sees k.Identifier i) sees_identifier) (λ is_name. then_any placing (λ outer. then_any (look (renames_to is_name) (renames_shallow is_name))
    (λ b. choose_any b (mapping renaming (import_pair outer)) (purely (import_pair outer outer))))))

-- ---- names in braces

import_turns : (m : ℕ) (found : List ImportName) (i : Input) → import_names_from (suc m) found i ≡ turn import_name (λ xs x. xs ++ x ∷ []) (import_names_from m) found i
unfolding import_names_from
import_turns m found i = refl

abbrev ImportNamesOf : ℕ → List Lexeme → List ImportName → Type 0
ImportNamesOf e us xs = ImportNames us xs

import_lists : {d : ℕ} → Parses (λ e. import_names) d Any (Wholly ImportNamesOf d) (Partly ImportNamesOf)
unfolding import_names
import_lists {d} = in_braces import_name (λ xs x. xs ++ x ∷ []) import_names_from import_turns ImportNames ImportsWithCommas OneImport
    (λ us vs xs x w h t c. one_more_import w h t c) (λ us xs w u c. import_comma_at_last w u c) (λ us vs xs x w h u c. import_at_last w h u c) d one_imports [] no_imports

-- ---- a namespace, or names

abbrev pub ImportedOf : ℕ → List Lexeme → Imports → Type 0
ImportedOf e us x = Imported us x

-- the names from their beginning
pub some_imported : Begun ImportedOf []
some_imported = record { depth = 0; more = token k.LeftBrace ∷ token k.RightBrace ∷ []; made = imports.Names []; has = names (token k.LeftBrace) refl (import_comma_at_last no_imports (token k.RightBrace) refl) }

namespace_fact : {d l n : ℕ} {us ts : List Lexeme} {x : Imports} → Mapped (Both (Token k.Multiply) (λ u. Renamed)) imports.Namespace l n us ts x → Wholly ImportedOf d l n us ts x
namespace_fact (mapped y (both (one_token t c) (renamed a u i j e)) is) =
    wholly (subst (λ x. Imported (t ∷ a ∷ u ∷ []) x) (sym (is ∙ ap imports.Namespace e)) (namespace t c a i u j))

namespace_fault : {l n : ℕ} {us ts : List Lexeme} → Either Never (Token k.Multiply) (λ u. NotRenamed) l n us ts → Partly ImportedOf l n us ts
namespace_fault (first c) = elim c [ ]
namespace_fault (second (one_token t c) no_as) = partly (begun_more 0 [] (t ∷ []) (word (codes "as") ∷ word [] ∷ []) _ (namespace t c (word (codes "as")) as_is (word []) refl))
namespace_fault (second (one_token t c) (as_alone a i)) = partly (begun_more 0 [] (t ∷ a ∷ []) (word [] ∷ []) _ (namespace t c a i (word []) refl))

names_fact : {d l n : ℕ} {us ts : List Lexeme} {x : Imports} → Mapped (Both (Token k.LeftBrace) (λ u. Wholly ImportNamesOf d)) imports.Names l n us ts x → Wholly ImportedOf d l n us ts x
names_fact (mapped xs (both {vs = us} (one_token t c) (wholly h)) is) = wholly (subst (λ x. Imported (t ∷ us) x) (sym is) (names t c h))

names_fault : {l n : ℕ} {us ts : List Lexeme} → Either Never (Token k.LeftBrace) (λ u. Partly ImportNamesOf) l n us ts → Partly ImportedOf l n us ts
names_fault (first c) = elim c [ ]
names_fault (second (one_token t c) (partly b)) = partly (carry (t ∷ []) (λ e vs xs h. begun_whole e (t ∷ vs) (imports.Names xs) (names t c h)) b)

importeds_by : {d : ℕ} (s : Sort) → Parses (λ e. imported_by s) d (Sorted s) (Wholly ImportedOf d) (Partly ImportedOf)
importeds_by k.Multiply = map (λ l n us ts x r. namespace_fact r) (λ l n us ts r. namespace_fault r) (mapping (then_any (taking k.Multiply (λ e. cc)) (λ u. renaming)) imports.Namespace)
importeds_by k.LeftBrace = map (λ l n us ts x r. names_fact r) (λ l n us ts r. names_fault r) (mapping (then_any (taking k.LeftBrace (λ e. cc)) (λ u. import_lists)) imports.Names)
importeds_by _ = given (λ ts m. tt) (map (λ l n us ts x r. elim r [ ]) (λ l n us ts r. elim r as (λ vs ws h. Partly ImportedOf l n vs ws) [ here ↦ partly some_imported ]) refused)

pub importeds : {d : ℕ} → Parses (λ e. imported) d Any (Wholly ImportedOf d) (Partly ImportedOf)
unfolding imported
importeds = by_sort (λ e s. imported_by s) importeds_by
