use Rattle.sr_grammar.proofs.Ones.{first_fault_statements, first_fault_items, first_fault_module_items}
use Rattle.sr_grammar.proofs.the_first_fault_of_one_is_found.Goals as goal

pub returns-clause-statements : goal.returns-clause-statements
returns-clause-statements c = first_fault_statements

pub returns-clause-items : goal.returns-clause-items
returns-clause-items c = first_fault_items

pub returns-clause-module_items : goal.returns-clause-module_items
returns-clause-module_items c = first_fault_module_items
