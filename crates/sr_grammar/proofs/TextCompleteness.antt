-- What is an item of a module, a script or a module is read.
use Rattle.std.proofs.Common.{◌≡◌, ℕ, zero, suc, ◌+◌, ◌≤◌, ◌<◌, Bool, true, false, List, [], ◌∷◌, ◌++◌, length, Ok, refl, sym, ap, ◌∙◌, subst, append_assoc, append-nil, length-append, arith}
use Rattle.sr_ast.specs.declared.tree.Tree.{Tree}
use Rattle.sr_syntax.specs.declared.sorts.Sort.TheVariants as k
use Rattle.sr_syntax.specs.declared.sorts.Sort.{Sort}
use Rattle.sr_syntax.specs.declared.sorts.Lexeme.{Lexeme}
use Rattle.sr_syntax.specs.declared.grown.Grown.{Grown}
use Rattle.sr_syntax.specs.Sorts.{same_sort}
use Rattle.sr_syntax.specs.Input.{and_then, sort, sort_at, left, max_depth}
use Rattle.sr_syntax.specs.Modules.{module_item}
use Rattle.sr_syntax.specs.Grammar.{tree, whole_item, whole_module_item, script_from, script, module_from, module_items, value_of, script_of, module_of}
use Rattle.sr_grammar.specs.Reading.{end_after, head}
use Rattle.sr_grammar.specs.Derivations.{IsItem}
use Rattle.sr_grammar.specs.Modules.{IsModuleItem}
use Rattle.sr_grammar.specs.Modules as m
use Rattle.sr_grammar.specs.Scripts.{open_in_item, Script, ended, Module, module_ended}
use Rattle.sr_grammar.specs.Scripts as s
use Rattle.sr_grammar.specs.Laws.{CompleteScript, CompleteModule}
use Rattle.sr_grammar.proofs.Steps.{inp, done}
use Rattle.sr_grammar.proofs.Heights.{assign_low, declarations_low}
use Rattle.sr_grammar.proofs.Completing.{Reads, is_sort}
use Rattle.sr_grammar.proofs.Taking.{Like, Takes}
use Rattle.sr_grammar.proofs.Statings.{itemizing, item_begins, item_some, not_item}
use Rattle.sr_grammar.proofs.ModuleClaims.{item_reads, import_module_reads, import_default_reads, import_default_and_reads, import_names_reads, export_all_reads, export_from_reads, export_names_reads}
use Rattle.sr_grammar.proofs.ExportClaims.{export_declarations_reads, export_function_reads, export_default_function_reads, export_default_named_reads, export_default_value_reads}
use Rattle.sr_grammar.proofs.Completeness.{reads, function_reads, declarations_read, item_is_read, item_read}
use Rattle.sr_grammar.proofs.Sorts.{end_self}

-- ---- items of modules

module_item_is_read : {d : ℕ} {us ts : List Lexeme} {x : Grown} → IsModuleItem d us ts x → Takes (module_item (tree d)) us x.height x (Like ts)
module_item_is_read (m.item {d} {us} {ts} {x} h) = item_reads d us ts x (item_begins h) (item_is_read h)
module_item_is_read (m.import_module {d} {vs} {ts} t c s e w) = import_module_reads d vs ts t s c e w
module_item_is_read (m.import_default {d} {us} {vs} {ts} {called} t c u e w f) = import_default_reads d us vs ts called t u c e w f
module_item_is_read (m.import_default_and {d} {us} {ws} {vs} {ts} {others} {called} t c u e p q i w f) = import_default_and_reads d us ws vs ts others called t u p c e q i w f
module_item_is_read (m.import_names {d} {us} {ws} {vs} {ts} {others} {called} t c i w f) = import_names_reads d us ws vs ts others called t c i w f
module_item_is_read (m.export_all {d} {us} {ws} {vs} {ts} {outer} {called} t c p e a w f) = export_all_reads d us ws vs ts outer called t p c e a w f
module_item_is_read (m.export_from {d} {us} {ws} {vs} {ts} {xs} {all} {called} t c p e a w f) = export_from_reads d us ws vs ts xs all called t p c e a w f
module_item_is_read (m.export_names {d} {us} {vs} {ts} {xs} t c p e a f) = export_names_reads d us vs ts xs t p c e a f
module_item_is_read (m.export_declarations {d} {tall} {us} {vs} {ts} {ds} {how} t c w e i f) =
    export_declarations_reads d tall us vs ts ds how t w c e (declarations_read i).by_end (declarations_low true d us ts ds tall) f
module_item_is_read (m.export_function {d} {us} {ts} t c f e u i w) = export_function_reads d us ts t f u c e i (function_reads w)
module_item_is_read (m.export_default_function {d} {us} {ts} t c p e f i w) = export_default_function_reads d us ts t p f c e i (function_reads w)
module_item_is_read (m.export_default_named {d} {us} {ts} t c p e f i u j w) = export_default_named_reads d us ts t p f u c e i j (function_reads w)
module_item_is_read (m.export_default_value {d} {us} {vs} {ts} {x} t c p e o h f) = export_default_value_reads d us vs ts x t p c e o h (reads h) (assign_low true d us ts x) f

pub module_item_read : {d : ℕ} {us ts : List Lexeme} {x : Grown} → IsModuleItem d us ts x → (r : List Lexeme) (l n : ℕ) → head r ≡ head ts → Reads (module_item (tree d)) us x r l n
module_item_read h = (module_item_is_read h).gets

-- ---- items of texts

item_goes : {us ts : List Lexeme} {x : Grown} → IsItem open_in_item us ts x → x.height ≤ max_depth → (l n : ℕ) → whole_item (inp (us ++ ts) l n) ≡ done x (inp ts (end_after l us) n)
unfolding whole_item
item_goes {us} {ts} h fits l n = (item_read h ts l n refl).fits fits

module_item_goes : {us ts : List Lexeme} {x : Grown} → IsModuleItem open_in_item us ts x → x.height ≤ max_depth → (l n : ℕ) → whole_module_item (inp (us ++ ts) l n) ≡ done x (inp ts (end_after l us) n)
unfolding whole_module_item
module_item_goes {us} {ts} h fits l n = (module_item_read h ts l n refl).fits fits

-- ---- the end of the text

-- the tokens that items of modules begin with
abbrev module_itemizing : Sort → Bool
module_itemizing k.Import = true
module_itemizing k.Export = true
module_itemizing s = itemizing s

itemizing_module : (s : Sort) → itemizing s ≡ true → module_itemizing s ≡ true
itemizing_module k.Import e = refl
itemizing_module k.Export e = refl
itemizing_module _ e = e

module_item_begins : {d : ℕ} {us ts : List Lexeme} {x : Grown} → IsModuleItem d us ts x → (r : List Lexeme) → module_itemizing (sort_at (us ++ r)) ≡ true
module_item_begins (m.item {us = us} h) r = itemizing_module (sort_at (us ++ r)) (item_begins h r)
module_item_begins (m.import_module t c s e w) r = ap module_itemizing c
module_item_begins (m.import_default t c u e w f) r = ap module_itemizing c
module_item_begins (m.import_default_and t c u e p q i w f) r = ap module_itemizing c
module_item_begins (m.import_names t c i w f) r = ap module_itemizing c
module_item_begins (m.export_all t c p e a w f) r = ap module_itemizing c
module_item_begins (m.export_from t c p e a w f) r = ap module_itemizing c
module_item_begins (m.export_names t c p e a f) r = ap module_itemizing c
module_item_begins (m.export_declarations t c w e i f) r = ap module_itemizing c
module_item_begins (m.export_function t c f e u i w) r = ap module_itemizing c
module_item_begins (m.export_default_function t c p e f i w) r = ap module_itemizing c
module_item_begins (m.export_default_named t c p e f i u j w) r = ap module_itemizing c
module_item_begins (m.export_default_value t c p e o h f) r = ap module_itemizing c

not_end : (s : Sort) → module_itemizing s ≡ true → same_sort s k.End ≡ false
unfolding same_sort
not_end k.End e = cc
not_end _ e = refl

some_there : (us : List Lexeme) → module_itemizing (sort_at us) ≡ true → 0 < length us
some_there [] e = cc
some_there (t ∷ us) e = omega arith

module_item_some : {d : ℕ} {us ts : List Lexeme} {x : Grown} → IsModuleItem d us ts x → 0 < length us
module_item_some {us = us} h = subst (λ zs. 0 < length zs) (append-nil us) (some_there (us ++ []) (module_item_begins h []))

-- ---- whole texts

script_goes : {ts : List Lexeme} {xs : List Tree} → Script ts xs → (found : List Tree) (l n m : ℕ) → length ts < m → value_of (script_from m found (inp ts l n)) ≡ Ok (found ++ xs)
unfolding script_from sort
script_goes (ended c) found l n zero far = absurd (omega arith)
script_goes (ended {ts} c) found l n (suc m) far = rw (is_sort k.End (sort_at ts) c end_self) (ap Ok (sym (append-nil found)))
script_goes (s.item h fits w) found l n zero far = absurd (omega arith)
script_goes (s.item {us} {ts} {x} {xs} h fits w) found l n (suc m) far =
    rw (not_item k.End (sort_at (us ++ ts)) refl (item_begins h ts))
    (ap (λ o. value_of (and_then o (λ x. script_from m (found ++ x.tree ∷ [])))) (item_goes h fits l n)
    ∙ script_goes w (found ++ x.tree ∷ []) (end_after l us) n m (omega (arith, far, length-append us ts, item_some h))
    ∙ ap Ok (append_assoc found (x.tree ∷ []) xs))

module_goes : {ts : List Lexeme} {xs : List Tree} → Module ts xs → (found : List Tree) (l n m : ℕ) → length ts < m → value_of (module_from m found (inp ts l n)) ≡ Ok (found ++ xs)
unfolding module_from sort
module_goes (module_ended c) found l n zero far = absurd (omega arith)
module_goes (module_ended {ts} c) found l n (suc m) far = rw (is_sort k.End (sort_at ts) c end_self) (ap Ok (sym (append-nil found)))
module_goes (s.module_item h fits w) found l n zero far = absurd (omega arith)
module_goes (s.module_item {us} {ts} {x} {xs} h fits w) found l n (suc m) far =
    rw (not_end (sort_at (us ++ ts)) (module_item_begins h ts))
    (ap (λ o. value_of (and_then o (λ x. module_from m (found ++ x.tree ∷ [])))) (module_item_goes h fits l n)
    ∙ module_goes w (found ++ x.tree ∷ []) (end_after l us) n m (omega (arith, far, length-append us ts, module_item_some h))
    ∙ ap Ok (append_assoc found (x.tree ∷ []) xs))

pub complete_script_law : CompleteScript
unfolding script_of script left
complete_script_law ts size xs w = script_goes w [] 0 size (length ts + 1) (omega arith)

pub complete_module_law : CompleteModule
unfolding module_of module_items left
complete_module_law ts size xs w = module_goes w [] 0 size (length ts + 1) (omega arith)
