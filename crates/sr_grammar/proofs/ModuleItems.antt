-- What items of modules are read as, and where reading them fails.
use Rattle.std.proofs.Common.{ℕ, List, refl}
use Rattle.sr_ast.specs.declared.binding.HeadKind.TheVariants as head_kind
use Rattle.sr_syntax.specs.declared.sorts.Sort.{Sort}
use Rattle.sr_syntax.specs.declared.sorts.Sort.TheVariants as k
use Rattle.sr_syntax.specs.declared.sorts.Lexeme.{Lexeme}
use Rattle.sr_syntax.specs.declared.grown.Grown.{Grown}
use Rattle.sr_syntax.specs.Modules.{export_by, export_, module_item_by, module_item}
use Rattle.sr_syntax.specs.Grammar.{tree}
use Rattle.sr_grammar.specs.Derivations.{IsItem}
use Rattle.sr_grammar.specs.Modules.{IsModuleItem}
use Rattle.sr_grammar.specs.Modules as g
use Rattle.sr_grammar.proofs.Steps.{Any, Parses, Here, here, map, given, by_first, refused}
use Rattle.sr_grammar.proofs.Facts.{Stood, stood, BeginsOne, StartOne, start_one}
use Rattle.sr_grammar.proofs.Lists.{Nested}
use Rattle.sr_grammar.proofs.Standing.{Behind, BehindFault, StartAt, behind_first}
use Rattle.sr_grammar.proofs.ImportItems.{importing}
use Rattle.sr_grammar.proofs.ExportItems.{behind_second, all_exports, names_exports, some_export}
use Rattle.sr_grammar.proofs.ExportDeclarations.{declared_exports, function_exports, default_exports}
use Rattle.sr_grammar.proofs.PlainItems.{items_of}

module _ (d : ℕ) (nest : Nested d) (from : ℕ) where
  no_export : {l n : ℕ} {us ts : List Lexeme} → Here l n us ts → BehindFault IsModuleItem k.Export l n us ts
  no_export here = λ t q. some_export t q

  exports_by : (begin : ℕ) (v : Sort) → Parses (λ e. export_by (tree e) from begin v) d (StartAt v begin) (Behind IsModuleItem d from k.Export) (BehindFault IsModuleItem k.Export)
  exports_by begin k.Multiply = behind_second k.Multiply from begin (λ e. cc) (all_exports from begin d)
  exports_by begin k.LeftBrace = behind_second k.LeftBrace from begin (λ e. cc) (names_exports from begin d)
  exports_by begin k.Var = behind_second k.Var from begin (λ e. cc) (declared_exports head_kind.Var k.Var refl d nest from begin)
  exports_by begin k.Let = behind_second k.Let from begin (λ e. cc) (declared_exports head_kind.Let k.Let refl d nest from begin)
  exports_by begin k.Const = behind_second k.Const from begin (λ e. cc) (declared_exports head_kind.Const k.Const refl d nest from begin)
  exports_by begin k.Function = behind_second k.Function from begin (λ e. cc) (function_exports d nest from begin)
  exports_by begin k.Default = behind_second k.Default from begin (λ e. cc) (default_exports d nest from begin)
  exports_by begin _ = given (λ ts m. tt) (map (λ l n us ts x r. elim r [ ]) (λ l n us ts r. no_export r) refused)

  exporting : Parses (λ e. export_ (tree e) from) d Any (Behind IsModuleItem d from k.Export) (BehindFault IsModuleItem k.Export)
  unfolding export_
  exporting = by_first (λ s. s) (λ e begin v. export_by (tree e) from begin v) exports_by

  module_stood : {l n : ℕ} {us ts : List Lexeme} {x : Grown} → Stood IsItem d l n us ts x → Stood IsModuleItem d l n us ts x
  module_stood (stood h b) = stood (g.item h) b

  begins_item : {us : List Lexeme} → BeginsOne IsItem us → BeginsOne IsModuleItem us
  begins_item b = record { depth = b.depth; more = b.more; made = b.made; is = λ ts calm. g.item (b.is ts calm) }

  module_start : {l n : ℕ} {us ts : List Lexeme} → StartOne IsItem l n us ts → StartOne IsModuleItem l n us ts
  module_start (start_one b) = start_one (begins_item b)

  module_items_by : (v : Sort) → Parses (λ e. module_item_by (tree e) from v) d (StartAt v from) (Stood IsModuleItem d) (StartOne IsModuleItem)
  module_items_by k.Import = behind_first k.Import from (λ e. cc) (importing from d)
  module_items_by k.Export = behind_first k.Export from (λ e. cc) exporting
  module_items_by _ = given (λ ts m. tt) (map (λ l n us ts x r. module_stood r) (λ l n us ts r. module_start r) (items_of d nest))

pub module_items_of : (d : ℕ) → Nested d → Parses (λ e. module_item (tree e)) d Any (Stood IsModuleItem d) (StartOne IsModuleItem)
unfolding module_item
module_items_of d nest = by_first (λ s. s) (λ e from v. module_item_by (tree e) from v) (λ from v. module_items_by d nest from v)
