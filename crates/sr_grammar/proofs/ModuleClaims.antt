-- What derives is read: items of modules.
use Rattle.std.proofs.Common.{◌≡◌, ℕ, Bool, true, false, not, ◌&&◌, ◌||◌, List, [], ◌∷◌, ◌++◌, Option, None, Some, refl, sym, ap, ◌∙◌, subst, append_assoc, arith, if◌then◌else◌}
use Rattle.std.specs.Prelude.{codes}
use Rattle.std.specs.Str.{bytes_eq}
use Rattle.sr_ast.specs.declared.binding.Binding.{Binding}
use Rattle.sr_ast.specs.declared.module.Imports.{Imports}
use Rattle.sr_ast.specs.declared.module.Imports.TheVariants as imports
use Rattle.sr_ast.specs.declared.module.ExportName.{ExportName}
use Rattle.sr_ast.specs.declared.tree.Node.TheVariants as node
use Rattle.sr_syntax.specs.declared.sorts.Sort.TheVariants as k
use Rattle.sr_syntax.specs.declared.sorts.Sort.{Sort}
use Rattle.sr_syntax.specs.declared.sorts.Lexeme.{Lexeme}
use Rattle.sr_syntax.specs.declared.grown.Grown.{Grown}
use Rattle.sr_syntax.specs.Sorts.{same_sort}
use Rattle.sr_syntax.specs.Input.{Input, Parser, ◌>>=◌, pure, eat, sees_text, sort, sort_at, content_at, place, next, complete, semicolon, text, text_of}
use Rattle.sr_syntax.specs.Statements.{item}
use Rattle.sr_syntax.specs.Modules.{from_clause, imported, import_end, import_default, import_module, import_by, import_, export_names, exported_as, export_name, export_all, export_by, export_, module_item_by, module_item}
use Rattle.sr_syntax.specs.Grammar.{tree}
use Rattle.sr_grammar.specs.Names.{binding_of, is_text}
use Rattle.sr_grammar.specs.Derivations.{Semicolon, written, before_brace, before_line, whole}
use Rattle.sr_grammar.specs.Modules.{starts_with, FromClause, from_module, Imported, namespace, names, ExportNames, ExportedAs, under_no_name, under_a_name}
use Rattle.sr_grammar.proofs.Steps.{inp, sort_alike}
use Rattle.sr_grammar.proofs.Taking.{Whatever, Follow, Like, Moves, Takes, moves_then, moves_first, moves_on, moves_is, moves_when, moves_now, moves_whole, moves_eat, moves_over}
use Rattle.sr_grammar.proofs.ParameterClaims.{other_sort, binding_read}
use Rattle.sr_grammar.proofs.KeyClaims.{word_sort, word_text}
use Rattle.sr_grammar.proofs.Statings.{itemizing}
use Rattle.sr_grammar.proofs.StatementClaims.{semicolon_read}
use Rattle.sr_grammar.proofs.ImportClaims.{from_clause_read, export_name_read, imported_read, import_end_goes, export_names_read}
use Rattle.sr_grammar.proofs.Sorts.{comma_self, end_no_identifier, identifier_no_comma, right_brace_no_identifier, semicolon_no_identifier}

-- ---- the first tokens

item_by_sort : (d from : ℕ) (s : Sort) (i : Input) → itemizing s ≡ true → module_item_by (tree d) from s i ≡ item (tree d) i
item_by_sort d from k.Import i e = cc
item_by_sort d from k.Export i e = cc
item_by_sort d from _ i e = refl

pub item_reads : (d : ℕ) (us ts : List Lexeme) (x : Grown) → ((r : List Lexeme) → itemizing (sort_at (us ++ r)) ≡ true) → Takes (item (tree d)) us x.height x (Like ts) → Takes (module_item (tree d)) us x.height x (Like ts)
unfolding module_item sort
item_reads d us ts x begins h = moves_is (λ r l n q. item_by_sort d (place (inp (us ++ r) l n)) (sort_at (us ++ r)) (inp (us ++ r) l n) (begins r)) h

module_step : (d : ℕ) (t : Lexeme) (v : Sort) (rule : Parser Grown) → t.sort ≡ v → ((i : Input) → module_item_by (tree d) t.from v i ≡ rule (next i)) → Moves (module_item (tree d)) (t ∷ []) 0 rule Whatever
unfolding module_item sort place next
module_step d t v rule c e = moves_now (λ r l n q. ap (λ a. module_item_by (tree d) t.from a (inp (t ∷ r) l n)) c ∙ e (inp (t ∷ r) l n))

import_step : (d : ℕ) (t : Lexeme) → t.sort ≡ k.Import → Moves (module_item (tree d)) (t ∷ []) 0 (import_ t.from) Whatever
import_step d t c = module_step d t k.Import (import_ t.from) c (λ i. refl)

-- "export" and the token behind it
pub export_step : (d : ℕ) (t m : Lexeme) (v : Sort) (rule : Parser Grown) → t.sort ≡ k.Export → m.sort ≡ v → ((i : Input) → export_by (tree d) t.from m.from v i ≡ rule (next i)) → Moves (module_item (tree d)) (t ∷ m ∷ []) 0 rule Whatever
unfolding export_ sort place next
export_step d t m v rule c e f =
    moves_then (module_step d t k.Export (export_ (tree d) t.from) c (λ i. refl)) (λ r q. tt)
    (moves_now (λ r l n q. ap (λ a. export_by (tree d) t.from m.from a (inp (m ∷ r) l n)) e ∙ f (inp (m ∷ r) l n)))

-- ---- imports

import_is : (t : Lexeme) (v : Sort) (from : ℕ) → t.sort ≡ v → (r : List Lexeme) (l n : ℕ) → import_ from (inp (t ∷ r) l n) ≡ import_by from v (inp (t ∷ r) l n)
unfolding import_ sort
import_is t v from c r l n = ap (λ a. import_by from a (inp (t ∷ r) l n)) c

pub import_module_reads : (d : ℕ) (vs ts : List Lexeme) (t s : Lexeme) → t.sort ≡ k.Import → s.sort ≡ k.Text → Semicolon (Unit {0}) vs ts
    → Takes (module_item (tree d)) (t ∷ s ∷ vs) 1 (whole (node.Import None imports.Nothing (text_of s.content)) t.from (t ∷ s ∷ vs) 0) (Like ts)
unfolding import_module text next
import_module_reads d vs ts t s c e w =
    let step : Moves (import_ t.from) (s ∷ []) 0 (semicolon >>= (λ u. complete (node.Import None imports.Nothing (text_of s.content)) t.from 0)) Whatever = moves_now (λ r l n q. import_is s k.Text t.from e r l n) in
    moves_whole (node.Import None imports.Nothing (text_of s.content)) t.from 0 (omega arith) (omega arith)
    (moves_then (import_step d t c) (λ r q. tt) (moves_then step (λ r q. tt) (semicolon_read w (complete (node.Import None imports.Nothing (text_of s.content)) t.from 0))))

-- "import" and a name
default_goes : (d : ℕ) (t u : Lexeme) → t.sort ≡ k.Import → u.sort ≡ k.Identifier
    → Moves (module_item (tree d)) (t ∷ u ∷ []) 0 (eat k.Comma >>= (λ more. if more then (imported >>= import_end t.from (Some (binding_of u))) else import_end t.from (Some (binding_of u)) imports.Nothing)) Whatever
unfolding import_default
default_goes d t u c e =
    moves_then (import_step d t c) (λ r q. tt) (moves_is {V = import_default t.from} (λ r l n q. import_is u k.Identifier t.from e r l n) (moves_on (binding_read u e) _))

from_no_comma : {us : List Lexeme} {called : List ℕ} → FromClause us called → (r : List Lexeme) → same_sort (sort_at (us ++ r)) k.Comma ≡ false
from_no_comma (from_module f e s c) r = other_sort f k.Identifier k.Comma (word_sort (codes "from") f e) identifier_no_comma

pub import_default_reads : (d : ℕ) (us vs ts : List Lexeme) (called : List ℕ) (t u : Lexeme) → t.sort ≡ k.Import → u.sort ≡ k.Identifier → FromClause us called → Semicolon (Unit {0}) vs ts
    → Takes (module_item (tree d)) (t ∷ u ∷ (us ++ vs)) 1 (whole (node.Import (Some (binding_of u)) imports.Nothing called) t.from (t ∷ u ∷ (us ++ vs)) 0) (Like ts)
import_default_reads d us vs ts called t u c e w f =
    moves_whole (node.Import (Some (binding_of u)) imports.Nothing called) t.from 0 (omega arith) (omega arith)
    (moves_then (default_goes d t u c e) (λ r q. tt)
    (moves_first (moves_over k.Comma _ _) (λ r q. subst (λ zs. same_sort (sort_at zs) k.Comma ≡ false) (sym (append_assoc us vs r)) (from_no_comma w (vs ++ r))) (import_end_goes t.from (Some (binding_of u)) imports.Nothing w f)))

pub import_default_and_reads : (d : ℕ) (us ws vs ts : List Lexeme) (others : Imports) (called : List ℕ) (t u m : Lexeme) → t.sort ≡ k.Import → u.sort ≡ k.Identifier → m.sort ≡ k.Comma → Imported us others
    → FromClause ws called → Semicolon (Unit {0}) vs ts
    → Takes (module_item (tree d)) (t ∷ u ∷ m ∷ (us ++ (ws ++ vs))) 1 (whole (node.Import (Some (binding_of u)) others called) t.from (t ∷ u ∷ m ∷ (us ++ (ws ++ vs))) 0) (Like ts)
import_default_and_reads d us ws vs ts others called t u m c e p i w f =
    moves_whole (node.Import (Some (binding_of u)) others called) t.from 0 (omega arith) (omega arith)
    (moves_then (default_goes d t u c e) (λ r q. tt)
    (moves_then (moves_eat k.Comma _ _ m p comma_self) (λ r q. tt)
    (moves_then (moves_on (imported_read i) (import_end t.from (Some (binding_of u)))) (λ r q. tt) (import_end_goes t.from (Some (binding_of u)) others w f))))

names_is : {us : List Lexeme} {others : Imports} → Imported us others → (from : ℕ) (r : List Lexeme) (l n : ℕ) → import_ from (inp (us ++ r) l n) ≡ (imported >>= import_end from None) (inp (us ++ r) l n)
names_is (namespace t c a e u d) from r l n = import_is t k.Multiply from c (a ∷ u ∷ r) l n
names_is (names {us} t c w) from r l n = import_is t k.LeftBrace from c (us ++ r) l n

pub import_names_reads : (d : ℕ) (us ws vs ts : List Lexeme) (others : Imports) (called : List ℕ) (t : Lexeme) → t.sort ≡ k.Import → Imported us others → FromClause ws called → Semicolon (Unit {0}) vs ts
    → Takes (module_item (tree d)) (t ∷ (us ++ (ws ++ vs))) 1 (whole (node.Import None others called) t.from (t ∷ (us ++ (ws ++ vs))) 0) (Like ts)
import_names_reads d us ws vs ts others called t c i w f =
    let first : Moves (import_ t.from) us 0 (import_end t.from None others) Whatever = moves_is {V = imported >>= import_end t.from None} (λ r l n q. names_is i t.from r l n) (moves_on (imported_read i) (import_end t.from None)) in
    moves_whole (node.Import None others called) t.from 0 (omega arith) (omega arith)
    (moves_then (import_step d t c) (λ r q. tt) (moves_then first (λ r q. tt) (import_end_goes t.from None others w f)))

-- ---- exports of names

from_no_as : (f : Lexeme) → is_text (codes "from") f ≡ true → is_text (codes "as") f ≡ false
from_no_as f e = ap (λ a. same_sort f.sort k.Identifier && bytes_eq a (codes "as")) (word_text (codes "from") f e) ∙ go (same_sort f.sort k.Identifier)
  where
    go : (b : Bool) → (b && bytes_eq (codes "from") (codes "as")) ≡ false
    go true = refl
    go false = refl

-- no `as` comes
abbrev NoAs : Follow
NoAs r = (same_sort (sort_at r) k.Identifier && bytes_eq (text_of (content_at r)) (codes "as")) ≡ false

exported_as_read : {us : List Lexeme} {outer : Option Binding} → ExportedAs us outer → Takes exported_as us 0 outer NoAs
unfolding exported_as sees_text next
exported_as_read under_no_name = moves_now (λ r l n q. rw q refl)
exported_as_read (under_a_name a e u c) =
    let step : Moves exported_as (a ∷ []) 0 (export_name >>= (λ x. pure (Some x))) Whatever = moves_now (λ r l n q. rw e refl) in
    moves_when (λ r q. tt) (moves_then step (λ r q. tt) (moves_on (export_name_read u c) (λ x. pure (Some x))))

from_follows : {us : List Lexeme} {called : List ℕ} → FromClause us called → (r : List Lexeme) → NoAs (us ++ r)
from_follows (from_module f e s c) r = from_no_as f e

pub export_all_reads : (d : ℕ) (us ws vs ts : List Lexeme) (outer : Option Binding) (called : List ℕ) (t m : Lexeme) → t.sort ≡ k.Export → m.sort ≡ k.Multiply → ExportedAs us outer → FromClause ws called → Semicolon (Unit {0}) vs ts
    → Takes (module_item (tree d)) (t ∷ m ∷ (us ++ (ws ++ vs))) 1 (whole (node.ExportAll outer called) t.from (t ∷ m ∷ (us ++ (ws ++ vs))) 0) (Like ts)
unfolding export_all
export_all_reads d us ws vs ts outer called t m c e a w f =
    moves_whole (node.ExportAll outer called) t.from 0 (omega arith) (omega arith)
    (moves_then (export_step d t m k.Multiply (export_all t.from) c e (λ i. refl)) (λ r q. tt)
    (moves_then (moves_on (exported_as_read a) _) (λ r q. subst NoAs (sym (append_assoc ws vs r)) (from_follows w (vs ++ r)))
    (moves_then (moves_on (from_clause_read w) _) (λ r q. tt) (semicolon_read f (complete (node.ExportAll outer called) t.from 0)))))

-- behind the names
abbrev behind_names : ℕ → List ExportName × Bool → Parser Grown
behind_names from all i =
    (if sees_text (codes "from") i || not all.1 then (from_clause >>= (λ called. semicolon >>= (λ u. complete (node.ExportNames all.0 (Some called)) from 0)))
    else (semicolon >>= (λ u. complete (node.ExportNames all.0 None) from 0))) i

names_goes : (d : ℕ) (us : List Lexeme) (xs : List ExportName) (all : Bool) (t m : Lexeme) → t.sort ≡ k.Export → m.sort ≡ k.LeftBrace → ExportNames us xs all
    → Moves (module_item (tree d)) (t ∷ m ∷ us) 0 (behind_names t.from (xs, all)) Whatever
unfolding export_names
names_goes d us xs all t m c e w = moves_then (export_step d t m k.LeftBrace (export_names t.from) c e (λ i. refl)) (λ r q. tt) (moves_on (export_names_read w) (behind_names t.from))

from_is : {us : List Lexeme} {called : List ℕ} → FromClause us called → (from : ℕ) (all : List ExportName × Bool) (r : List Lexeme) (l n : ℕ)
    → behind_names from all (inp (us ++ r) l n) ≡ (from_clause >>= (λ called. semicolon >>= (λ u. complete (node.ExportNames all.0 (Some called)) from 0))) (inp (us ++ r) l n)
unfolding sees_text
from_is (from_module f e s c) from all r l n = rw e refl

pub export_from_reads : (d : ℕ) (us ws vs ts : List Lexeme) (xs : List ExportName) (all : Bool) (called : List ℕ) (t m : Lexeme) → t.sort ≡ k.Export → m.sort ≡ k.LeftBrace → ExportNames us xs all
    → FromClause ws called → Semicolon (Unit {0}) vs ts
    → Takes (module_item (tree d)) (t ∷ m ∷ (us ++ (ws ++ vs))) 1 (whole (node.ExportNames xs (Some called)) t.from (t ∷ m ∷ (us ++ (ws ++ vs))) 0) (Like ts)
export_from_reads d us ws vs ts xs all called t m c e a w f =
    let goes : Parser Grown = from_clause >>= (λ called. semicolon >>= (λ u. complete (node.ExportNames xs (Some called)) t.from 0)) in
    let first : Moves (behind_names t.from (xs, all)) ws 0 (semicolon >>= (λ u. complete (node.ExportNames xs (Some called)) t.from 0)) Whatever =
    moves_is {V = goes} (λ r l n q. from_is w t.from (xs, all) r l n) (moves_on (from_clause_read w) (λ called. semicolon >>= (λ u. complete (node.ExportNames xs (Some called)) t.from 0))) in
    moves_whole (node.ExportNames xs (Some called)) t.from 0 (omega arith) (omega arith)
    (moves_then (names_goes d us xs all t m c e a) (λ r q. tt) (moves_then first (λ r q. tt) (semicolon_read f (complete (node.ExportNames xs (Some called)) t.from 0))))

-- no `from` comes
abbrev NoFrom : Follow
NoFrom r = (same_sort (sort_at r) k.Identifier && bytes_eq (text_of (content_at r)) (codes "from")) ≡ false

from_alike : (ts r : List Lexeme) → starts_with (codes "from") ts ≡ false → Like ts r → NoFrom r
from_alike ts [] e q = rw end_no_identifier refl
from_alike [] (u ∷ r) e q = cc
from_alike (t ∷ ts) (u ∷ r) e q = let same : t ≡ u = cc in subst (λ v. is_text (codes "from") v ≡ false) same e

no_from : {vs ts : List Lexeme} → Semicolon (starts_with (codes "from") ts ≡ false) vs ts → (r : List Lexeme) → Like ts r → NoFrom (vs ++ r)
no_from (written t c) r q = rw (other_sort t k.Semicolon k.Identifier c semicolon_no_identifier) refl
no_from (before_brace {ts} c) r q = rw (ap (λ a. same_sort a k.Identifier) (sort_alike ts r q ∙ c) ∙ right_brace_no_identifier) refl
no_from (before_line {ts} c e w) r q = from_alike ts r w q

names_alone : (from : ℕ) (xs : List ExportName) → Moves (behind_names from (xs, true)) [] 0 (semicolon >>= (λ u. complete (node.ExportNames xs None) from 0)) NoFrom
unfolding sees_text
names_alone from xs = moves_is {V = semicolon >>= (λ u. complete (node.ExportNames xs None) from 0)} (λ r l n q. rw q refl) (moves_now (λ r l n q. refl))

pub export_names_reads : (d : ℕ) (us vs ts : List Lexeme) (xs : List ExportName) (t m : Lexeme) → t.sort ≡ k.Export → m.sort ≡ k.LeftBrace → ExportNames us xs true → Semicolon (starts_with (codes "from") ts ≡ false) vs ts
    → Takes (module_item (tree d)) (t ∷ m ∷ (us ++ vs)) 1 (whole (node.ExportNames xs None) t.from (t ∷ m ∷ (us ++ vs)) 0) (Like ts)
export_names_reads d us vs ts xs t m c e a f =
    moves_whole (node.ExportNames xs None) t.from 0 (omega arith) (omega arith)
    (moves_then (names_goes d us xs true t m c e a) (λ r q. tt) (moves_first (names_alone t.from xs) (λ r q. no_from f r q) (semicolon_read f (complete (node.ExportNames xs None) t.from 0))))
