-- What imports are read as, and where reading them fails.
use Rattle.std.proofs.Common.{◌≡◌, ℕ, ◌<◌, List, [], ◌∷◌, ◌++◌, Option, None, Some, refl, sym, ap, ◌∙◌, subst, append-nil, arith}
use Rattle.sr_ast.specs.declared.binding.Binding.{Binding}
use Rattle.sr_ast.specs.declared.module.Imports.{Imports}
use Rattle.sr_ast.specs.declared.module.Imports.TheVariants as imports
use Rattle.sr_ast.specs.declared.tree.Node.{Node}
use Rattle.sr_ast.specs.declared.tree.Node.TheVariants as node
use Rattle.sr_syntax.specs.declared.sorts.Sort.{Sort}
use Rattle.sr_syntax.specs.declared.sorts.Sort.TheVariants as k
use Rattle.sr_syntax.specs.declared.sorts.Lexeme.{Lexeme}
use Rattle.sr_syntax.specs.declared.grown.Grown.{Grown}
use Rattle.sr_syntax.specs.Input.{◌>>=◌, semicolon, complete}
use Rattle.sr_syntax.specs.Modules.{from_clause, imported, import_end, import_default, import_module, import_by, import_}
use Rattle.sr_grammar.specs.Derivations.{Semicolon, written}
use Rattle.sr_grammar.specs.Modules.{FromClause, Imported, IsModuleItem}
use Rattle.sr_grammar.specs.Modules as g
use Rattle.sr_grammar.specs.Reading.{end_after}
use Rattle.sr_grammar.proofs.Steps.{Fact, Fault, Any, Parses, Both, both, Either, first, second, Never, Eaten, ate, absent, Here, here, Chosen, yes, no, ChosenFault, yes_fault, no_fault, map, given, then_any, eaten, choose_any, not_both, ending, end_append}
use Rattle.sr_grammar.proofs.Facts.{Closed, closed, closing, token}
use Rattle.sr_grammar.proofs.Beginnings.{Begun, begun_whole, Wholly, wholly, Partly, partly, carry}
use Rattle.sr_grammar.proofs.Peeks.{Sorted, by_sort, Texted, texted, taking_text}
use Rattle.sr_grammar.proofs.Standing.{Calm, Behind, BehindFault, completed_behind}
use Rattle.sr_grammar.proofs.Semicolons.{Closing, closing_by, ended, semicolons}
use Rattle.sr_grammar.proofs.ParameterFacts.{Bound, bound, bindings}
use Rattle.sr_grammar.proofs.ImportFacts.{FromOf, some_from, from_clauses, ImportedOf, some_imported, importeds}
use Rattle.sr_grammar.proofs.Sorts.{end_no_comma}

-- ---- the module and a semicolon

-- the tree that ends there
pub data FromEnded (make : List ℕ → Node) (from l n : ℕ) : List Lexeme → List Lexeme → Grown → Type 0 where
  from_ended : {ws vs ts : List Lexeme} {called : List ℕ} {x : Grown} → FromClause ws called → Semicolon (Unit {0}) vs ts → x ≡ ending (make called) from (end_after l (ws ++ vs)) 0
      → FromEnded make from l n (ws ++ vs) ts x

-- with a semicolon that is written
pub data FromEnd : ℕ → List Lexeme → List ℕ → Type 0 where
  from_end : {e : ℕ} {ws : List Lexeme} {called : List ℕ} → FromClause ws called → (s : Lexeme) → s.sort ≡ k.Semicolon → FromEnd e (ws ++ s ∷ []) called

end_fact : {make : List ℕ → Node} {d from l n : ℕ} {us ts : List Lexeme} {x : Grown}
    → Both (Wholly FromOf d) (λ called. Closed Closing (λ u. make called) (λ u. from) (λ u. 0)) l n us ts x → FromEnded make from l n us ts x
end_fact {make} {from = from} {l = l} (both {us = ws} {vs = vs} {x = called} (wholly f) (closed u (closing_by c) fits is)) =
    from_ended f c (is ∙ ap (λ m. ending (make called) from m 0) (sym (end_append l ws vs)))

-- the end from a clause that is begun, or that is whole
clause_begins : {us : List Lexeme} → Begun FromOf us → Begun FromEnd us
clause_begins b = carry [] (λ e vs called f. record { depth = e; more = token k.Semicolon ∷ []; made = called; has = from_end f (token k.Semicolon) refl }) b

end_fault : {d l n : ℕ} {us ts : List Lexeme} → Either (Partly FromOf) (Wholly FromOf d) (λ called. Here) l n us ts → Partly FromEnd l n us ts
end_fault (first (partly b)) = partly (clause_begins b)
end_fault {d} (second {us = us} {x = called} (wholly f) here) = partly (clause_begins (subst (λ zs. Begun FromOf zs) (sym (append-nil us)) (begun_whole d us called f)))

pub from_ends : (make : List ℕ → Node) (from d : ℕ) → Parses (λ e. from_clause >>= (λ called. semicolon >>= (λ u. complete (make called) from 0))) d Any (FromEnded make from) (Partly FromEnd)
from_ends make from d = map (λ l n us ts x r. end_fact r) (λ l n us ts r. end_fault r) (then_any from_clauses (λ called. closing (semicolons d) (λ u. make called) (λ u. from) (λ u. 0)))

-- from the beginning of the clause
pub some_end : Begun FromEnd []
some_end = clause_begins some_from

pub no_depth : 0 < 1000
no_depth = omega arith

abbrev imports_as : Option Binding → Imports → List ℕ → Node
imports_as name others called = node.Import name others called

import_ends : (name : Option Binding) (others : Imports) (from d : ℕ) → Parses (λ e. import_end from name others) d Any (FromEnded (imports_as name others) from) (Partly FromEnd)
unfolding import_end
import_ends name others from d = from_ends (imports_as name others) from d

-- ---- what is imported, with no name before it

abbrev WithOthers : Option Binding → ℕ → ℕ → Fact Grown
WithOthers name from d = Both (Wholly ImportedOf d) (λ others. FromEnded (imports_as name others) from)

others_fact : {d from l n : ℕ} {us ts : List Lexeme} {x : Grown} → WithOthers None from d l n us ts x → Behind IsModuleItem d from k.Import l n us ts x
others_fact {l = l} (both {us = us} {x = others} (wholly h) (from_ended {ws} {vs} f c is)) = λ t q at e.
    completed_behind {Is = IsModuleItem} t at e no_depth is (sym (end_append l us (ws ++ vs))) (g.import_names t q h f c)

others_end : {e : ℕ} {us vs : List Lexeme} {others : Imports} {called : List ℕ} (t : Lexeme) → t.sort ≡ k.Import → Imported us others → FromEnd e vs called → Begun (Calm IsModuleItem) (t ∷ (us ++ vs))
others_end {e} {us} t q h (from_end {ws = ws} f s c) = begun_whole e (t ∷ (us ++ (ws ++ s ∷ []))) _ (λ ts calm. g.import_names t q h f (written s c))

-- the names and the end from their beginning
abbrev OthersFault : ℕ → Fault
OthersFault d = Either (Partly ImportedOf) (Wholly ImportedOf d) (λ others. Partly FromEnd)

data OthersEnd : ℕ → List Lexeme → Imports × List ℕ → Type 0 where
  others_then : {e : ℕ} {us vs : List Lexeme} {others : Imports} {called : List ℕ} → Imported us others → FromEnd e vs called → OthersEnd e (us ++ vs) (others, called)

others_begin : {d l n : ℕ} {us ts : List Lexeme} → OthersFault d l n us ts → Begun OthersEnd us
others_begin (first (partly b)) = carry [] (λ e vs others h. record { depth = some_end.depth; more = some_end.more; made = (others, some_end.made); has = others_then h some_end.has }) b
others_begin (second {us = us} {x = others} (wholly h) (partly b)) = carry us (λ e vs called i. begun_whole e (us ++ vs) (others, called) (others_then h i)) b

others_whole : {e : ℕ} {us : List Lexeme} {p : Imports × List ℕ} (t : Lexeme) → t.sort ≡ k.Import → OthersEnd e us p → Begun (Calm IsModuleItem) (t ∷ us)
others_whole t q (others_then h i) = others_end t q h i

others_fault : {d l n : ℕ} {us ts : List Lexeme} → OthersFault d l n us ts → BehindFault IsModuleItem k.Import l n us ts
others_fault r = λ t q. carry (t ∷ []) (λ e vs p h. others_whole t q h) (others_begin r)

with_others : (from d : ℕ) → Parses (λ e. imported >>= import_end from None) d Any (Behind IsModuleItem d from k.Import) (BehindFault IsModuleItem k.Import)
with_others from d = map (λ l n us ts x r. others_fact r) (λ l n us ts r. others_fault r) (then_any importeds (λ others. import_ends None others from d))

-- ---- behind a name

abbrev DefaultFact : ℕ → ℕ → Fact Grown
DefaultFact from d = Both Bound (λ name. Both (Eaten k.Comma) (λ b. Chosen b (WithOthers (Some name) from d) (FromEnded (imports_as (Some name) imports.Nothing) from)))

default_fact : {d from l n : ℕ} {us ts : List Lexeme} {x : Grown} → DefaultFact from d l n us ts x → Behind IsModuleItem d from k.Import l n us ts x
default_fact {d} {from} {l} (both (bound u i j) (both (ate c p r) (yes s (both {us = us} {x = others} (wholly h) (from_ended {ws} {vs} {called = called} f q is))))) = λ t e at o.
    completed_behind {Is = IsModuleItem} t at o no_depth (is ∙ ap (λ a. ending (imports_as (Some a) others called) from (end_after (end_after c.to us) (ws ++ vs)) 0) j)
    (sym (end_append c.to us (ws ++ vs))) (g.import_default_and t e u i c p h f q)
default_fact (both b (both (ate c p r) (no s h))) = absurd (not_both r s)
default_fact (both b (both (absent p r) (yes s h))) = absurd (not_both s p)
default_fact {d} {from} {l} (both (bound u i j) (both (absent p r) (no s (from_ended {ws} {vs} {called = called} f q is)))) = λ t e at o.
    completed_behind {Is = IsModuleItem} t at o no_depth (is ∙ ap (λ a. ending (imports_as (Some a) imports.Nothing called) from (end_after u.to (ws ++ vs)) 0) j) refl (g.import_default t e u i f q)

default_end : {e : ℕ} {vs : List Lexeme} {called : List ℕ} (t u : Lexeme) → t.sort ≡ k.Import → u.sort ≡ k.Identifier → FromEnd e vs called → Begun (Calm IsModuleItem) (t ∷ u ∷ vs)
default_end {e} t u q i (from_end {ws = ws} f s c) = begun_whole e (t ∷ u ∷ (ws ++ s ∷ [])) _ (λ ts calm. g.import_default t q u i f (written s c))

default_others_end : {e : ℕ} {us : List Lexeme} {p : Imports × List ℕ} (t u c : Lexeme) → t.sort ≡ k.Import → u.sort ≡ k.Identifier → c.sort ≡ k.Comma → OthersEnd e us p → Begun (Calm IsModuleItem) (t ∷ u ∷ c ∷ us)
default_others_end {e} t u c q i j (others_then {us = us} h (from_end {ws = ws} f s o)) = begun_whole e (t ∷ u ∷ c ∷ (us ++ (ws ++ s ∷ []))) _ (λ ts calm. g.import_default_and t q u i c j h f (written s o))

abbrev DefaultFault : ℕ → Fault
DefaultFault d = Either Here Bound (λ name. Either Never (Eaten k.Comma) (λ b. ChosenFault b (OthersFault d) (Partly FromEnd)))

default_fault : {d l n : ℕ} {us ts : List Lexeme} → DefaultFault d l n us ts → BehindFault IsModuleItem k.Import l n us ts
default_fault (first here) = λ t q. carry (t ∷ []) (λ e vs p h. others_whole t q h) (others_begin {d = 0} {l = 0} {n = 0} {ts = []} (first (partly some_imported)))
default_fault (second b (first c)) = elim c [ ]
default_fault (second (bound u i j) (second (ate c p r) (yes_fault s h))) = λ t q. carry (t ∷ u ∷ c ∷ []) (λ e vs w m. default_others_end t u c q i p m) (others_begin h)
default_fault (second b (second (ate c p r) (no_fault s h))) = absurd (not_both r s)
default_fault (second b (second (absent p r) (yes_fault s h))) = absurd (not_both s p)
default_fault (second (bound u i j) (second (absent p r) (no_fault s (partly b)))) = λ t q. carry (t ∷ u ∷ []) (λ e vs called m. default_end t u q i m) b

import_defaults : (from d : ℕ) → Parses (λ e. import_default from) d Any (Behind IsModuleItem d from k.Import) (BehindFault IsModuleItem k.Import)
unfolding import_default
import_defaults from d = map (λ l n us ts x r. default_fact r) (λ l n us ts r. default_fault r)
    (then_any bindings (λ name. then_any (eaten k.Comma end_no_comma) (λ b. choose_any b (then_any importeds (λ others. import_ends (Some name) others from d)) (import_ends (Some name) imports.Nothing from d))))

-- ---- the module alone

abbrev ModuleFact : ℕ → Fact Grown
ModuleFact from = Both (Texted k.Text) (λ called. Closed Closing (λ u. imports_as None imports.Nothing called) (λ u. from) (λ u. 0))

module_fact : {d from l n : ℕ} {us ts : List Lexeme} {x : Grown} → ModuleFact from l n us ts x → Behind IsModuleItem d from k.Import l n us ts x
module_fact {from = from} (both {vs = vs} (texted s c i) (closed u (closing_by q) fits is)) = λ t e at o.
    completed_behind {Is = IsModuleItem} t at o no_depth (is ∙ ap (λ a. ending (imports_as None imports.Nothing a) from (end_after s.to vs) 0) i) refl (g.import_module t e s c q)

module_fault : {l n : ℕ} {us ts : List Lexeme} → Either Never (Texted k.Text) (λ called. Here) l n us ts → BehindFault IsModuleItem k.Import l n us ts
module_fault (first c) = elim c [ ]
module_fault (second (texted s c i) here) = λ t e. record { depth = 0; more = token k.Semicolon ∷ []; made = _; has = λ ts calm. g.import_module t e s c ended }

-- ---- by the token behind `import`

imports_by : (from d : ℕ) (s : Sort) → Parses (λ e. import_by from s) d (Sorted s) (Behind IsModuleItem d from k.Import) (BehindFault IsModuleItem k.Import)
unfolding import_module
imports_by from d k.Text = map (λ l n us ts x r. module_fact r) (λ l n us ts r. module_fault r)
    (then_any (taking_text k.Text (λ e. cc)) (λ called. closing (semicolons d) (λ u. imports_as None imports.Nothing called) (λ u. from) (λ u. 0)))
imports_by from d k.Identifier = given (λ ts m. tt) (import_defaults from d)
imports_by from d _ = given (λ ts m. tt) (with_others from d)

-- What stands behind `import`.
pub importing : (from d : ℕ) → Parses (λ e. import_ from) d Any (Behind IsModuleItem d from k.Import) (BehindFault IsModuleItem k.Import)
unfolding import_
importing from d = by_sort (λ e s. import_by from s) (imports_by from d)
