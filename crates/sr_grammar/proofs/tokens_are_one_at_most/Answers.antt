use Rattle.sr_grammar.proofs.Ones.{unique_statements, unique_items, unique_module_items}
use Rattle.sr_grammar.proofs.tokens_are_one_at_most.Goals as goal

pub returns-clause-statements : goal.returns-clause-statements
returns-clause-statements c = unique_statements

pub returns-clause-items : goal.returns-clause-items
returns-clause-items c = unique_items

pub returns-clause-module_items : goal.returns-clause-module_items
returns-clause-module_items c = unique_module_items
