use Rattle.sr_grammar.proofs.Ones.{sound_statements, sound_items, sound_module_items}
use Rattle.sr_grammar.proofs.what_is_read_is_one.Goals as goal

pub returns-clause-statements : goal.returns-clause-statements
returns-clause-statements c = sound_statements

pub returns-clause-items : goal.returns-clause-items
returns-clause-items c = sound_items

pub returns-clause-module_items : goal.returns-clause-module_items
returns-clause-module_items c = sound_module_items
