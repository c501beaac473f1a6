-- What derives is read: imports, and the names of exports.
use Rattle.std.proofs.Common.{◌≡◌, ℕ, suc, ◌<◌, Bool, true, false, not, ◌&&◌, ◌||◌, List, [], ◌∷◌, ◌++◌, length, Option, refl, ap, ◌∙◌, length-append, arith, if◌then◌else◌}
use Rattle.std.specs.Prelude.{codes}
use Rattle.sr_ast.specs.declared.binding.Binding.{Binding}
use Rattle.sr_ast.specs.declared.module.ImportName.{ImportName}
use Rattle.sr_ast.specs.declared.module.Imports.{Imports}
use Rattle.sr_ast.specs.declared.module.Imports.TheVariants as imports
use Rattle.sr_ast.specs.declared.module.ExportName.{ExportName}
use Rattle.sr_ast.specs.declared.tree.Node.TheVariants as node
use Rattle.sr_syntax.specs.declared.sorts.Sort.TheVariants as k
use Rattle.sr_syntax.specs.declared.sorts.Sort.{Sort}
use Rattle.sr_syntax.specs.declared.sorts.Lexeme.{Lexeme}
use Rattle.sr_syntax.specs.Sorts.{same_sort}
use Rattle.sr_syntax.specs.Input.{Input, Parser, ◌>>=◌, pure, eat, expect, expect_text, take_token, sees, sees_word, sees_text, sort, sort_at, is_word, place, next, complete, text, text_of}
use Rattle.sr_syntax.specs.Modules.{module_name, from_clause, export_name, local_name, import_name, import_names_from, import_names, imported_by, imported, import_end, export_spec, export_specs_from, export_specs}
use Rattle.sr_grammar.specs.Names.{binding_of, is_text}
use Rattle.sr_grammar.specs.Derivations.{Semicolon}
use Rattle.sr_grammar.specs.Modules.{is_export_name, FromClause, from_module, OneImport, by_its_name, renamed_here, ImportsWithCommas, no_imports, one_more_import, ImportNames, import_comma_at_last, import_at_last, Imported, namespace, names, OneExport, exported, renamed_there, ExportsWithCommas, no_exports, one_more_export, ExportNames, export_comma_at_last, export_at_last}
use Rattle.sr_grammar.proofs.Steps.{inp, same_sort_true, not_both}
use Rattle.sr_grammar.proofs.Completing.{is_sort}
use Rattle.sr_grammar.proofs.Taking.{Whatever, Like, Moves, Takes, moves_then, moves_first, moves_last, moves_on, moves_is, moves_when, moves_now, moves_expect, moves_eat, moves_over, Loops, loops_none, loops_more, loops_last}
use Rattle.sr_grammar.proofs.ParameterClaims.{other_sort, binding_read}
use Rattle.sr_grammar.proofs.KeyClaims.{closes, Closes}
use Rattle.sr_grammar.proofs.StatementClaims.{semicolon_read}
use Rattle.sr_grammar.proofs.Sorts.{comma_self, identifier_self, right_brace_no_comma, right_brace_self, text_self}

brace_no_text : (is_word k.RightBrace || same_sort k.RightBrace k.Text) ≡ false
unfolding same_sort
brace_no_text = refl

closes_no_name : (s : Sort) → closes s ≡ true → same_sort s k.Identifier ≡ false
unfolding same_sort
closes_no_name k.Comma e = refl
closes_no_name k.RightBrace e = refl
closes_no_name _ e = cc

-- ---- names

pub text_expected : {A : Type 0} (word : List ℕ) (t : Lexeme) → is_text word t ≡ true → (V : Parser A) → Moves (expect_text word >>= (λ u. V)) (t ∷ []) 0 V Whatever
unfolding expect_text sees_text next
text_expected word t e V = moves_now (λ r l n q. rw e refl)

module_name_read : (s : Lexeme) → s.sort ≡ k.Text → Takes module_name (s ∷ []) 0 (text_of s.content) Whatever
unfolding module_name sees sort text next
module_name_read s c = moves_now (λ r l n q. rw (is_sort k.Text s.sort c text_self) refl)

pub from_clause_read : {us : List Lexeme} {called : List ℕ} → FromClause us called → Takes from_clause us 0 called Whatever
unfolding from_clause
from_clause_read (from_module f e s c) = moves_then (text_expected (codes "from") f e module_name) (λ r q. tt) (module_name_read s c)

pub export_name_read : (t : Lexeme) → is_export_name t ≡ true → Takes export_name (t ∷ []) 0 (binding_of t) Whatever
unfolding export_name sees_word sees sort place text next
export_name_read t e = moves_now (λ r l n q. rw e refl)

local_name_read : (a u : Lexeme) → is_text (codes "as") a ≡ true → u.sort ≡ k.Identifier → Takes local_name (a ∷ u ∷ []) 0 (binding_of u) Whatever
unfolding local_name
local_name_read a u e c = moves_then (text_expected (codes "as") a e _) (λ r q. tt) (binding_read u c)

-- the name of an export is no brace
no_brace : (t : Lexeme) → is_export_name t ≡ true → same_sort t.sort k.RightBrace ≡ false
no_brace t e = go (same_sort t.sort k.RightBrace) refl
  where
    other : (s : Sort) → s ≡ k.RightBrace → (is_word s || same_sort s k.Text) ≡ false
    other s c = ap (λ a. is_word a || same_sort a k.Text) c ∙ brace_no_text

    go : (b : Bool) → same_sort t.sort k.RightBrace ≡ b → same_sort t.sort k.RightBrace ≡ false
    go true is = absurd (not_both e (other t.sort (same_sort_true t.sort k.RightBrace is)))
    go false is = is

-- a name that is not reserved may be one
name_exported : (t : Lexeme) → t.sort ≡ k.Identifier → is_export_name t ≡ true
name_exported t c = ap (λ s. is_word s || same_sort s k.Text) c

-- ---- the names of an import

-- behind the first name, which is reserved or is not
abbrev import_behind : Bool → Binding → Parser ImportName
import_behind is_name outer i =
    (if sees_text (codes "as") i || not is_name then (local_name >>= (λ inner. pure (record { imported = outer; local = inner }))) else pure (record { imported = outer; local = outer })) i

import_name_goes : (b : Bool) (t : Lexeme) → same_sort t.sort k.Identifier ≡ b → is_export_name t ≡ true → Moves import_name (t ∷ []) 0 (import_behind b (binding_of t)) Whatever
unfolding import_name sees sort
import_name_goes b t c e =
    moves_is {V = export_name >>= import_behind b} (λ r l n q. ap (λ b. (export_name >>= import_behind b) (inp (t ∷ r) l n)) c) (moves_on (export_name_read t e) (import_behind b))

record ImportClaim (us : List Lexeme) (x : ImportName) : Type 0 where
  reads : Takes import_name us 0 x Closes
  first : (r : List Lexeme) → same_sort (sort_at (us ++ r)) k.RightBrace ≡ false
  some : 0 < length us

import_alone : (t : Lexeme) → Moves (import_behind true (binding_of t)) [] 0 (pure (record { imported = binding_of t; local = binding_of t })) Closes
unfolding sees_text
import_alone t = moves_now (λ r l n q. rw (closes_no_name (sort_at r) q) refl)

import_as : (b : Bool) (outer : Binding) (a u : Lexeme) → is_text (codes "as") a ≡ true → u.sort ≡ k.Identifier → Takes (import_behind b outer) (a ∷ u ∷ []) 0 (record { imported = outer; local = binding_of u }) Whatever
unfolding sees_text
import_as b outer a u e c =
    moves_is {V = local_name >>= (λ inner. pure (record { imported = outer; local = inner }))} (λ r l n q. rw e refl) (moves_on (local_name_read a u e c) (λ inner. pure (record { imported = outer; local = inner })))

import_reads : {us : List Lexeme} {x : ImportName} → OneImport us x → ImportClaim us x
import_reads (by_its_name t c) = record {
  reads = moves_last (import_name_goes true t (is_sort k.Identifier t.sort c identifier_self) (name_exported t c)) (λ r q. tt) (import_alone t);
  first = λ r. no_brace t (name_exported t c);
  some = omega arith;
}
import_reads (renamed_here t e a f u c) = record {
  reads = moves_when (λ r q. tt) (moves_then (import_name_goes (same_sort t.sort k.Identifier) t refl e) (λ r q. tt) (import_as (same_sort t.sort k.Identifier) (binding_of t) a u f c));
  first = λ r. no_brace t e;
  some = omega arith;
}

import_turn : {us : List Lexeme} {x : ImportName} (m : ℕ) (xs : List ImportName) → ImportClaim us x
    → Moves (import_names_from (suc m) xs) us 0 (eat k.Comma >>= (λ more. if more then import_names_from m (xs ++ x ∷ []) else (expect k.RightBrace >>= (λ u. pure (xs ++ x ∷ []))))) Closes
unfolding import_names_from
import_turn m xs w = moves_first (moves_over k.RightBrace _ _) (λ r q. w.first r) (moves_on w.reads _)

imports_read : {us : List Lexeme} {xs : List ImportName} → ImportsWithCommas us xs → Loops import_names_from us 0 [] xs Whatever
imports_read no_imports = loops_none import_names_from [] Whatever
imports_read (one_more_import {us} {vs} {xs} w h t c) =
    let one = import_reads h in
    loops_more (imports_read w) (λ r q. tt) (omega (arith, one.some, length-append vs (t ∷ []))) (λ m. moves_then (import_turn m xs one) (λ r q. ap closes c) (moves_eat k.Comma _ _ t c comma_self))

imports_over : (m : ℕ) (xs : List ImportName) (u : Lexeme) → u.sort ≡ k.RightBrace → Takes (import_names_from (suc m) xs) (u ∷ []) 0 xs Whatever
unfolding import_names_from
imports_over m xs u c = moves_eat k.RightBrace _ _ u c right_brace_self

import_names_read : {us : List Lexeme} {xs : List ImportName} → ImportNames us xs → Takes import_names us 0 xs Whatever
unfolding import_names
import_names_read (import_comma_at_last {us} {xs} w u c) = loops_last (imports_read w) (λ r q. tt) (λ m. imports_over m xs u c)
import_names_read (import_at_last {us} {vs} {xs} {x} w h u c) =
    loops_last (imports_read w) (λ r q. tt) (λ m. moves_then (import_turn m xs (import_reads h)) (λ r q. ap closes c)
    (moves_first (moves_over k.Comma _ _) (λ r q. other_sort u k.RightBrace k.Comma c right_brace_no_comma) (moves_expect k.RightBrace u c right_brace_self)))

-- ---- what is imported

imported_step : (t : Lexeme) (v : Sort) (rule : Parser Imports) → t.sort ≡ v → ((i : Input) → imported_by v i ≡ rule (next i)) → Moves imported (t ∷ []) 0 rule Whatever
unfolding imported sort next
imported_step t v rule c e = moves_now (λ r l n q. ap (λ a. imported_by a (inp (t ∷ r) l n)) c ∙ e (inp (t ∷ r) l n))

pub imported_read : {us : List Lexeme} {xs : Imports} → Imported us xs → Takes imported us 0 xs Whatever
imported_read (namespace t c a e u d) =
    moves_then (imported_step t k.Multiply (local_name >>= (λ x. pure (imports.Namespace x))) c (λ i. refl)) (λ r q. tt) (moves_on (local_name_read a u e d) (λ x. pure (imports.Namespace x)))
imported_read (names t c w) = moves_then (imported_step t k.LeftBrace (import_names >>= (λ xs. pure (imports.Names xs))) c (λ i. refl)) (λ r q. tt) (moves_on (import_names_read w) (λ xs. pure (imports.Names xs)))

pub import_end_goes : {ends : Type 0} {us vs ts : List Lexeme} {called : List ℕ} (from : ℕ) (first : Option Binding) (others : Imports) → FromClause us called → Semicolon ends vs ts
    → Moves (import_end from first others) (us ++ vs) 0 (complete (node.Import first others called) from 0) (Like ts)
unfolding import_end
import_end_goes {called = called} from first others w e = moves_then (moves_on (from_clause_read w) _) (λ r q. tt) (semicolon_read e (complete (node.Import first others called) from 0))

-- ---- the names of an export

abbrev export_behind : Bool → Binding → Parser (ExportName × Bool)
export_behind is_name inner i =
    (if sees_text (codes "as") i then (take_token >>= (λ u. export_name >>= (λ outer. pure (record { local = inner; exported = outer }, is_name)))) else pure (record { local = inner; exported = inner }, is_name)) i

export_spec_goes : (t : Lexeme) → is_export_name t ≡ true → Moves export_spec (t ∷ []) 0 (export_behind (same_sort t.sort k.Identifier) (binding_of t)) Whatever
unfolding export_spec sees sort
export_spec_goes t e =
    moves_is {V = export_name >>= export_behind (same_sort t.sort k.Identifier)} (λ r l n q. refl) (moves_on (export_name_read t e) (export_behind (same_sort t.sort k.Identifier)))

record ExportClaim (us : List Lexeme) (x : ExportName) (one : Bool) : Type 0 where
  reads : Takes export_spec us 0 (x, one) Closes
  first : (r : List Lexeme) → same_sort (sort_at (us ++ r)) k.RightBrace ≡ false
  some : 0 < length us

export_alone : (b : Bool) (inner : Binding) → Takes (export_behind b inner) [] 0 (record { local = inner; exported = inner }, b) Closes
unfolding sees_text
export_alone b inner = moves_now (λ r l n q. rw (closes_no_name (sort_at r) q) refl)

export_as : (b : Bool) (inner : Binding) (a u : Lexeme) → is_text (codes "as") a ≡ true → is_export_name u ≡ true → Takes (export_behind b inner) (a ∷ u ∷ []) 0 (record { local = inner; exported = binding_of u }, b) Whatever
unfolding sees_text next
export_as b inner a u e c =
    let step : Moves (export_behind b inner) (a ∷ []) 0 (export_name >>= (λ outer. pure (record { local = inner; exported = outer }, b))) Whatever = moves_now (λ r l n q. rw e refl) in
    moves_then step (λ r q. tt) (moves_on (export_name_read u c) (λ outer. pure (record { local = inner; exported = outer }, b)))

export_reads : {us : List Lexeme} {x : ExportName} {one : Bool} → OneExport us x one → ExportClaim us x one
export_reads (exported t e) = record {
  reads = moves_last (export_spec_goes t e) (λ r q. tt) (export_alone (same_sort t.sort k.Identifier) (binding_of t));
  first = λ r. no_brace t e;
  some = omega arith;
}
export_reads (renamed_there t e a f u c) = record {
  reads = moves_when (λ r q. tt) (moves_then (export_spec_goes t e) (λ r q. tt) (export_as (same_sort t.sort k.Identifier) (binding_of t) a u f c));
  first = λ r. no_brace t e;
  some = omega arith;
}

abbrev specs_of : ℕ → List ExportName × Bool → Parser (List ExportName × Bool)
specs_of m found = export_specs_from m found.0 found.1

export_turn : {us : List Lexeme} {x : ExportName} {one : Bool} (m : ℕ) (xs : List ExportName) (all : Bool) → ExportClaim us x one
    → Moves (specs_of (suc m) (xs, all)) us 0 (eat k.Comma >>= (λ more. if more then export_specs_from m (xs ++ x ∷ []) (all && one) else (expect k.RightBrace >>= (λ u. pure (xs ++ x ∷ [], all && one))))) Closes
unfolding export_specs_from
export_turn m xs all w = moves_first (moves_over k.RightBrace _ _) (λ r q. w.first r) (moves_on w.reads _)

exports_read : {us : List Lexeme} {xs : List ExportName} {all : Bool} → ExportsWithCommas us xs all → Loops specs_of us 0 ([], true) (xs, all) Whatever
exports_read no_exports = loops_none specs_of ([], true) Whatever
exports_read (one_more_export {us} {vs} {xs} {x} {all} {one} w h t c) =
    let claim = export_reads h in
    loops_more (exports_read w) (λ r q. tt) (omega (arith, claim.some, length-append vs (t ∷ []))) (λ m. moves_then (export_turn m xs all claim) (λ r q. ap closes c) (moves_eat k.Comma _ _ t c comma_self))

exports_over : (m : ℕ) (xs : List ExportName) (all : Bool) (u : Lexeme) → u.sort ≡ k.RightBrace → Takes (specs_of (suc m) (xs, all)) (u ∷ []) 0 (xs, all) Whatever
unfolding export_specs_from
exports_over m xs all u c = moves_eat k.RightBrace _ _ u c right_brace_self

pub export_names_read : {us : List Lexeme} {xs : List ExportName} {all : Bool} → ExportNames us xs all → Takes export_specs us 0 (xs, all) Whatever
unfolding export_specs
export_names_read (export_comma_at_last {us} {xs} {all} w u c) = loops_last (exports_read w) (λ r q. tt) (λ m. exports_over m xs all u c)
export_names_read (export_at_last {us} {vs} {xs} {x} {all} {one} w h u c) =
    loops_last (exports_read w) (λ r q. tt) (λ m. moves_then (export_turn m xs all (export_reads h)) (λ r q. ap closes c)
    (moves_first (moves_over k.Comma _ _) (λ r q. other_sort u k.RightBrace k.Comma c right_brace_no_comma) (moves_expect k.RightBrace u c right_brace_self)))
