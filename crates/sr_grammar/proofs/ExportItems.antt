-- What exports of names are read as, and where reading them fails.
use Rattle.std.proofs.Common.{◌≡◌, ℕ, ◌<◌, Bool, true, false, not, ◌||◌, List, [], ◌∷◌, ◌++◌, Option, None, Some, Ok, refl, sym, ap, ◌∙◌, subst, append_assoc}
use Rattle.std.specs.Prelude.{codes}
use Rattle.sr_ast.specs.declared.binding.Binding.{Binding}
use Rattle.sr_ast.specs.declared.module.ExportName.{ExportName}
use Rattle.sr_ast.specs.declared.tree.Node.{Node}
use Rattle.sr_ast.specs.declared.tree.Node.TheVariants as node
use Rattle.sr_syntax.specs.declared.sorts.Sort.{Sort}
use Rattle.sr_syntax.specs.declared.sorts.Sort.TheVariants as k
use Rattle.sr_syntax.specs.declared.sorts.Lexeme.{Lexeme}
use Rattle.sr_syntax.specs.declared.grown.Grown.{Grown}
use Rattle.sr_syntax.specs.Input.{Input, Parser, ◌>>=◌, sees_text, next, max_depth}
use Rattle.sr_syntax.specs.Modules.{export_names, export_all}
use Rattle.sr_grammar.specs.Names.{is_text}
use Rattle.sr_grammar.specs.Derivations.{written, whole}
use Rattle.sr_grammar.specs.Modules.{starts_with, ExportNames, export_comma_at_last, no_exports, ExportedAs, IsModuleItem}
use Rattle.sr_grammar.specs.Modules as g
use Rattle.sr_grammar.specs.Reading.{end_after}
use Rattle.sr_grammar.proofs.Steps.{inp, Fact, Fault, Any, Parses, Both, both, Either, first, second, Never, Looked, looked, Taken, taken, Here, here, Chosen, yes, no, ChosenFault, yes_fault, no_fault, Shallow, map, map_given, given, then_any, look, take, choose_any, ending, end_append}
use Rattle.sr_grammar.proofs.Facts.{Closed, closed, closing, token, Stood}
use Rattle.sr_grammar.proofs.Beginnings.{Begun, begun_whole, Wholly, wholly, Partly, partly, carry}
use Rattle.sr_grammar.proofs.Peeks.{unit_of, unit_shallow}
use Rattle.sr_grammar.proofs.Standing.{Calm, Behind, BehindFault, StartAt, token_needs, anywhere, completed_behind, at_nothing}
use Rattle.sr_grammar.proofs.Semicolons.{Closing, closing_by, ends_with, ended, semicolons}
use Rattle.sr_grammar.proofs.ImportFacts.{First, text_is, text_is_shallow, or_false}
use Rattle.sr_grammar.proofs.ImportItems.{FromEnded, from_ended, FromEnd, from_end, from_ends, some_end, no_depth}
use Rattle.sr_grammar.proofs.ExportFacts.{ExportNamesOf, AllChecked, export_lists, ExportedAsOf, exported_ass}

-- ---- the token behind `export`

-- what is one with `export` and this token before it
abbrev pub Second : ℕ → ℕ → ℕ → Sort → Fact Grown
Second d from start v l n us ts x = (w : Lexeme) → w.sort ≡ v → w.from ≡ start → w.to ≡ l → (t : Lexeme) → t.sort ≡ k.Export → t.from ≡ from → Stood IsModuleItem d l n (t ∷ w ∷ us) ts x

abbrev pub SecondFault : Sort → Fault
SecondFault v l n us ts = (w : Lexeme) → w.sort ≡ v → (t : Lexeme) → t.sort ≡ k.Export → Begun (Calm IsModuleItem) (t ∷ w ∷ us)

pub behind_second : {d : ℕ} {Q : ℕ → Parser Grown} (v : Sort) (from start : ℕ) → (k.End ≡ v → ⊥) → Parses Q d Any (Second d from start v) (SecondFault v)
    → Parses (λ e. (λ i. Ok (unit_of i, next i)) >>= (λ u. Q e)) d (StartAt v start) (Behind IsModuleItem d from k.Export) (BehindFault IsModuleItem k.Export)
behind_second {d} v from start other q = map_given (λ l n us ts x m r. fact m r) (λ l n us ts m r. fault m r) (then_any (given (token_needs v start other) (take unit_of unit_shallow)) (λ u. q))
  where
    fact : {l n : ℕ} {us ts : List Lexeme} {x : Grown} → StartAt v start (us ++ ts) → Both (Taken unit_of) (λ u. Second d from start v) l n us ts x → Behind IsModuleItem d from k.Export l n us ts x
    fact m (both (taken w e) r) = λ t p at o. anywhere (r w m.0 m.1 refl t p at)

    fault : {l n : ℕ} {us ts : List Lexeme} → StartAt v start (us ++ ts) → Either Never (Taken unit_of) (λ u. SecondFault v) l n us ts → BehindFault IsModuleItem k.Export l n us ts
    fault m (first c) = elim c [ ]
    fault m (second (taken w e) r) = λ t p. r w m.0 t p

-- the tree of these tokens, which ends where they do
pub second_whole : {d l n from tall end : ℕ} {us ts : List Lexeme} {nd : Node} {x : Grown} (t w : Lexeme) → t.from ≡ from → tall < max_depth → x ≡ ending nd from end tall
    → end ≡ end_after w.to us → IsModuleItem d (t ∷ w ∷ us) ts (whole nd t.from (t ∷ w ∷ us) tall) → Stood IsModuleItem d l n (t ∷ w ∷ us) ts x
second_whole {n = n} t w at fits is e h = anywhere (completed_behind {Is = IsModuleItem} {n = n} t at refl fits is e h)

-- ---- everything that a module exports

abbrev exports_all : Option Binding → List ℕ → Node
exports_all outer called = node.ExportAll outer called

all_fact : {d from start l n : ℕ} {us ts : List Lexeme} {x : Grown} → Both (Wholly ExportedAsOf d) (λ outer. FromEnded (exports_all outer) from) l n us ts x → Second d from start k.Multiply l n us ts x
all_fact {l = l} (both {us = us} (wholly h) (from_ended {ws} {vs} f c is)) = λ w q s e t p at.
    second_whole t w at no_depth is (sym (end_append l us (ws ++ vs)) ∙ ap (λ m. end_after m (us ++ (ws ++ vs))) (sym e)) (g.export_all t p w q h f c)

all_end : {e : ℕ} {us vs : List Lexeme} {outer : Option Binding} {called : List ℕ} (t w : Lexeme) → t.sort ≡ k.Export → w.sort ≡ k.Multiply → ExportedAs us outer → FromEnd e vs called
    → Begun (Calm IsModuleItem) (t ∷ w ∷ (us ++ vs))
all_end {e} {us} t w p q h (from_end {ws = ws} f s c) = begun_whole e (t ∷ w ∷ (us ++ (ws ++ s ∷ []))) _ (λ ts calm. g.export_all t p w q h f (written s c))

-- behind these, the clause from its beginning
with_some_end : {us : List Lexeme} → Begun (Calm IsModuleItem) (us ++ some_end.more) → Begun (Calm IsModuleItem) us
with_some_end {us} b = record {
  depth = b.depth;
  more = some_end.more ++ b.more;
  made = b.made;
  has = λ ts calm. subst (λ zs. IsModuleItem b.depth zs ts b.made) (append_assoc us some_end.more b.more) (b.has ts calm);
}

all_fault : {d l n : ℕ} {us ts : List Lexeme} → Either (Partly ExportedAsOf) (Wholly ExportedAsOf d) (λ outer. Partly FromEnd) l n us ts → SecondFault k.Multiply l n us ts
all_fault (first (partly b)) = λ w q t p. carry (t ∷ w ∷ []) (λ e vs outer h. with_some_end (all_end t w p q h some_end.has)) b
all_fault (second {us = us} (wholly h) (partly b)) = λ w q t p. carry (t ∷ w ∷ us) (λ e vs called i. all_end t w p q h i) b

pub all_exports : (from start d : ℕ) → Parses (λ e. export_all from) d Any (Second d from start k.Multiply) (SecondFault k.Multiply)
unfolding export_all
all_exports from start d = map (λ l n us ts x r. all_fact r) (λ l n us ts r. all_fault r) (then_any exported_ass (λ outer. from_ends (exports_all outer) from d))

-- ---- names

abbrev exports_names : List ExportName → Option (List ℕ) → Node
exports_names xs called = node.ExportNames xs called

-- whether a module must be named
abbrev named_from : Bool → Input → Bool
named_from all i = sees_text (codes "from") i || not all

named_shallow : (all : Bool) → Shallow (named_from all)
named_shallow all l n ts rs h = ap (λ b. b || not all) (text_is_shallow (codes "from") l n ts rs h)

left_false : (a b : Bool) → (a || b) ≡ false → a ≡ false
left_false true b h = cc
left_false false b h = refl

starts_is : (units : List ℕ) (ts : List Lexeme) → First (is_text units) ts ≡ false → starts_with units ts ≡ false
starts_is units [] h = refl
starts_is units (t ∷ ts) h = h

abbrev NamesEnd : AllChecked → ℕ → Fact Grown
NamesEnd all from = Both (Looked (named_from all.1)) (λ b. Chosen b (FromEnded (λ called. exports_names all.0 (Some called)) from) (Closed Closing (λ u. exports_names all.0 None) (λ u. from) (λ u. 0)))

names_fact : {d from start l n : ℕ} {us ts : List Lexeme} {x : Grown} → Both (Wholly (λ e. ExportNamesOf) d) (λ all. NamesEnd all from) l n us ts x → Second d from start k.LeftBrace l n us ts x
names_fact {l = l} (both {us = us} (wholly h) (both (looked f) (yes i (from_ended {ws} {vs} c s is)))) = λ w q b e t p at.
    second_whole t w at no_depth is (sym (end_append l us (ws ++ vs)) ∙ ap (λ m. end_after m (us ++ (ws ++ vs))) (sym e)) (g.export_from t p w q h c s)
names_fact {l = l} {n = n} (both {us = us} {x = all} (wholly h) (both {vs = vs} {ts = ts} (looked f) (no i (closed u (closing_by c) fits is)))) = λ w q b e t p at.
    let none : named_from all.1 (inp (vs ++ ts) (end_after l us) n) ≡ false = sym f ∙ i in
    let seen : Bool = sees_text (codes "from") (inp (vs ++ ts) (end_after l us) n) in
    second_whole t w at no_depth is (sym (end_append l us vs) ∙ ap (λ m. end_after m (us ++ vs)) (sym e))
    (g.export_names t p w q (subst (λ a. ExportNames us all.0 a) (or_false seen all.1 none) h)
    (ends_with (λ zs. starts_with (codes "from") zs ≡ false)
    (starts_is (codes "from") (vs ++ ts) (text_is (codes "from") (vs ++ ts) (end_after l us) n false (left_false seen (not all.1) none))) c))

names_from_end : {e : ℕ} {us vs : List Lexeme} {all : AllChecked} {called : List ℕ} (t w : Lexeme) → t.sort ≡ k.Export → w.sort ≡ k.LeftBrace → ExportNamesOf us all → FromEnd e vs called
    → Begun (Calm IsModuleItem) (t ∷ w ∷ (us ++ vs))
names_from_end {e} {us} t w p q h (from_end {ws = ws} f s c) = begun_whole e (t ∷ w ∷ (us ++ (ws ++ s ∷ []))) _ (λ ts calm. g.export_from t p w q h f (written s c))

names_end : {us : List Lexeme} {all : AllChecked} (t w : Lexeme) → t.sort ≡ k.Export → w.sort ≡ k.LeftBrace → ExportNamesOf us all → all.1 ≡ true → Begun (Calm IsModuleItem) (t ∷ w ∷ us)
names_end {us} {all} t w p q h is = record {
  depth = 0;
  more = token k.Semicolon ∷ [];
  made = _;
  has = λ ts calm. g.export_names {d = 0} t p w q (subst (λ a. ExportNames us all.0 a) is h) ended;
}

abbrev NamesFault : ℕ → Fault
NamesFault d = Either (Partly (λ e. ExportNamesOf)) (Wholly (λ e. ExportNamesOf) d) (λ all. Either Never (Looked (named_from all.1)) (λ b. ChosenFault b (Partly FromEnd) Here))

names_fault : {d l n : ℕ} {us ts : List Lexeme} → NamesFault d l n us ts → SecondFault k.LeftBrace l n us ts
names_fault (first (partly b)) = λ w q t p. carry (t ∷ w ∷ []) (λ e vs all h. with_some_end (names_from_end t w p q h some_end.has)) b
names_fault (second h (first c)) = elim c [ ]
names_fault (second {us = us} (wholly h) (second (looked f) (yes_fault i (partly b)))) = λ w q t p. carry (t ∷ w ∷ us) (λ e vs called j. names_from_end t w p q h j) b
names_fault {l = l} {n = n} (second {us = us} {x = all} (wholly h) (second {ts = ts} (looked f) (no_fault i here))) = λ w q t p.
    at_nothing (names_end t w p q h (or_false (sees_text (codes "from") (inp ts (end_after l us) n)) all.1 (sym f ∙ i)))

pub names_exports : (from start d : ℕ) → Parses (λ e. export_names from) d Any (Second d from start k.LeftBrace) (SecondFault k.LeftBrace)
unfolding export_names
names_exports from start d = map (λ l n us ts x r. names_fact r) (λ l n us ts r. names_fault r)
    (then_any export_lists (λ all. then_any (look (named_from all.1) (named_shallow all.1))
    (λ b. choose_any b (from_ends (λ called. exports_names all.0 (Some called)) from d) (closing (semicolons d) (λ u. exports_names all.0 None) (λ u. from) (λ u. 0)))))

-- no names at all
pub some_export : (t : Lexeme) → t.sort ≡ k.Export → Begun (Calm IsModuleItem) (t ∷ [])
some_export t p = record {
  depth = 0;
  more = token k.LeftBrace ∷ token k.RightBrace ∷ token k.Semicolon ∷ [];
  made = _;
  has = λ ts calm. g.export_names {d = 0} t p (token k.LeftBrace) refl (export_comma_at_last no_exports (token k.RightBrace) refl) ended;
}
