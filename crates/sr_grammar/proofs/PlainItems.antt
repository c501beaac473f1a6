-- What items are read as, and where reading them fails.
use Rattle.std.proofs.Common.{ℕ, List, refl}
use Rattle.sr_syntax.specs.declared.sorts.Sort.{Sort}
use Rattle.sr_syntax.specs.declared.sorts.Sort.TheVariants as k
use Rattle.sr_syntax.specs.declared.sorts.Lexeme.{Lexeme}
use Rattle.sr_syntax.specs.declared.grown.Grown.{Grown}
use Rattle.sr_syntax.specs.Statements.{item_by, item}
use Rattle.sr_syntax.specs.Grammar.{tree}
use Rattle.sr_grammar.specs.Derivations.{IsItem}
use Rattle.sr_grammar.specs.Derivations as g
use Rattle.sr_grammar.proofs.Steps.{Any, Parses, map, given, by_first}
use Rattle.sr_grammar.proofs.Facts.{Stood, StartOne}
use Rattle.sr_grammar.proofs.Lists.{Nested}
use Rattle.sr_grammar.proofs.Beginnings.{Partly, partly}
use Rattle.sr_grammar.proofs.PlainFunctions.{NamedFunction}
use Rattle.sr_grammar.proofs.OpenFunctions.{statement_items, let_items, const_items, function_begins}
use Rattle.sr_grammar.proofs.FunctionFacts.{function_made, DeclaredFunction, declared_by_name, function_declarations}
use Rattle.sr_grammar.proofs.Standing.{Behind, BehindFault, StartAt, behind_first, completed_behind}

module _ (d : ℕ) (nest : Nested d) (from : ℕ) where
  function_fact : {l n : ℕ} {us ts : List Lexeme} {x : Grown} → DeclaredFunction from d l n us ts x → Behind IsItem d from k.Function l n us ts x
  function_fact (declared_by_name u c (function_made h fits is)) = λ t v o at. completed_behind t o at fits is refl (g.function_item t u v c h)

  function_fault : {l n : ℕ} {us ts : List Lexeme} → Partly NamedFunction l n us ts → BehindFault IsItem k.Function l n us ts
  function_fault (partly b) = λ t v. function_begins t v b

  items_by : (v : Sort) → Parses (λ e. item_by (tree e) from v) d (StartAt v from) (Stood IsItem d) (StartOne IsItem)
  items_by k.Function = behind_first k.Function from (λ e. cc) (map (λ l n us ts x r. function_fact r) (λ l n us ts r. function_fault r) (function_declarations from d nest))
  items_by k.Let = let_items d nest from
  items_by k.Const = const_items d nest from
  items_by v = given (λ ts m. tt) (statement_items d nest)

pub items_of : (d : ℕ) → Nested d → Parses (λ e. item (tree e)) d Any (Stood IsItem d) (StartOne IsItem)
unfolding item
items_of d nest = by_first (λ s. s) (λ e from v. item_by (tree e) from v) (λ from v. items_by d nest from v)
