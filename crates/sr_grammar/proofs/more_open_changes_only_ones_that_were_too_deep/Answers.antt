use Rattle.sr_grammar.proofs.Ones.{more_open_statements, more_open_items, more_open_module_items}
use Rattle.sr_grammar.proofs.more_open_changes_only_ones_that_were_too_deep.Goals as goal

pub returns-clause-statements : goal.returns-clause-statements
returns-clause-statements c = more_open_statements

pub returns-clause-items : goal.returns-clause-items
returns-clause-items c = more_open_items

pub returns-clause-module_items : goal.returns-clause-module_items
returns-clause-module_items c = more_open_module_items
