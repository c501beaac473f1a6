use Rattle.sr_grammar.proofs.Ones.{complete_statements, complete_items, complete_module_items}
use Rattle.sr_grammar.proofs.what_is_one_is_read.Goals as goal

pub returns-clause-statements : goal.returns-clause-statements
returns-clause-statements c = complete_statements

pub returns-clause-items : goal.returns-clause-items
returns-clause-items c = complete_items

pub returns-clause-module_items : goal.returns-clause-module_items
returns-clause-module_items c = complete_module_items
