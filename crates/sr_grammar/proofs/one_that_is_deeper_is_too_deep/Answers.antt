use Rattle.sr_grammar.proofs.Ones.{too_tall_statements, too_tall_items, too_tall_module_items}
use Rattle.sr_grammar.proofs.one_that_is_deeper_is_too_deep.Goals as goal

pub returns-clause-statements : goal.returns-clause-statements
returns-clause-statements c = too_tall_statements

pub returns-clause-items : goal.returns-clause-items
returns-clause-items c = too_tall_items

pub returns-clause-module_items : goal.returns-clause-module_items
returns-clause-module_items c = too_tall_module_items
