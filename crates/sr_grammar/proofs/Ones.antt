-- The laws of statements, of items and of items of modules.
use Rattle.std.proofs.Common.{◌≡◌, ℕ, refl}
use Rattle.sr_syntax.specs.Input.{Input}
use Rattle.sr_syntax.specs.Statements.{statement}
use Rattle.sr_syntax.specs.Grammar.{tree}
use Rattle.sr_grammar.specs.Derivations.{States, IsItem}
use Rattle.sr_grammar.specs.Modules.{IsModuleItem}
use Rattle.sr_grammar.specs.Laws.{a_statement, a_nested_statement, an_item, a_module_item, SoundAs, CompleteAs, TooTallAs, UniqueAs, MoreOpenAs, FirstFaultAs}
use Rattle.sr_grammar.proofs.Steps.{Any, Parses}
use Rattle.sr_grammar.proofs.Facts.{Stood, StartOne}
use Rattle.sr_grammar.proofs.Depths.{lift_states, lift_item}
use Rattle.sr_grammar.proofs.ModuleDepths.{lift_module_item}
use Rattle.sr_grammar.proofs.Nests.{nests}
use Rattle.sr_grammar.proofs.Statements.{statements}
use Rattle.sr_grammar.proofs.PlainItems.{items_of}
use Rattle.sr_grammar.proofs.ModuleItems.{module_items_of}
use Rattle.sr_grammar.proofs.Gets.{gets_is}
use Rattle.sr_grammar.proofs.Completeness.{states_read, item_read}
use Rattle.sr_grammar.proofs.TextCompleteness.{module_item_read}
use Rattle.sr_grammar.proofs.GoalLaws as laws

statement_at : (d : ℕ) (i : Input) → a_statement d i ≡ statement (tree d) i
unfolding tree
statement_at d i = refl

statements_parse : (d : ℕ) → Parses a_statement d Any (Stood States d) (StartOne States)
unfolding tree
statements_parse d = statements d (nests d)

items_parse : (d : ℕ) → Parses an_item d Any (Stood IsItem d) (StartOne IsItem)
items_parse d = items_of d (nests d)

module_items_parse : (d : ℕ) → Parses a_module_item d Any (Stood IsModuleItem d) (StartOne IsModuleItem)
module_items_parse d = module_items_of d (nests d)

-- ---- statements

pub sound_statements : SoundAs a_statement States
sound_statements = laws.sound_as a_statement States statements_parse

pub complete_statements : CompleteAs a_statement States
complete_statements d size us rest x is fits = (gets_is _ (statement_at d _) (states_read is rest 0 size refl)).fits fits

pub too_tall_statements : TooTallAs a_statement States
too_tall_statements d size us rest x is deep = (gets_is _ (statement_at d _) (states_read is rest 0 size refl)).deep deep

pub unique_statements : UniqueAs States
unique_statements = laws.unique_as a_statement States statements_parse (λ d e us ts x. lift_states d e) complete_statements too_tall_statements

pub more_open_statements : MoreOpenAs a_nested_statement
more_open_statements = laws.more_open_as a_nested_statement (λ d. (nests d).statement)

pub first_fault_statements : FirstFaultAs a_statement States
first_fault_statements = laws.first_fault_as a_statement States statements_parse (λ d e us ts x. lift_states d e) complete_statements too_tall_statements

-- ---- items

pub sound_items : SoundAs an_item IsItem
sound_items = laws.sound_as an_item IsItem items_parse

pub complete_items : CompleteAs an_item IsItem
complete_items d size us rest x is fits = (item_read is rest 0 size refl).fits fits

pub too_tall_items : TooTallAs an_item IsItem
too_tall_items d size us rest x is deep = (item_read is rest 0 size refl).deep deep

pub unique_items : UniqueAs IsItem
unique_items = laws.unique_as an_item IsItem items_parse (λ d e us ts x. lift_item d e) complete_items too_tall_items

pub more_open_items : MoreOpenAs an_item
more_open_items = laws.more_open_as an_item items_parse

pub first_fault_items : FirstFaultAs an_item IsItem
first_fault_items = laws.first_fault_as an_item IsItem items_parse (λ d e us ts x. lift_item d e) complete_items too_tall_items

-- ---- items of modules

pub sound_module_items : SoundAs a_module_item IsModuleItem
sound_module_items = laws.sound_as a_module_item IsModuleItem module_items_parse

pub complete_module_items : CompleteAs a_module_item IsModuleItem
complete_module_items d size us rest x is fits = (module_item_read is rest 0 size refl).fits fits

pub too_tall_module_items : TooTallAs a_module_item IsModuleItem
too_tall_module_items d size us rest x is deep = (module_item_read is rest 0 size refl).deep deep

pub unique_module_items : UniqueAs IsModuleItem
unique_module_items = laws.unique_as a_module_item IsModuleItem module_items_parse (λ d e us ts x. lift_module_item d e) complete_module_items too_tall_module_items

pub more_open_module_items : MoreOpenAs a_module_item
more_open_module_items = laws.more_open_as a_module_item module_items_parse

pub first_fault_module_items : FirstFaultAs a_module_item IsModuleItem
first_fault_module_items = laws.first_fault_as a_module_item IsModuleItem module_items_parse (λ d e us ts x. lift_module_item d e) complete_module_items too_tall_module_items
