use Rattle.sr_grammar.proofs.TextCompleteness.{complete_script_law, complete_module_law}
use Rattle.sr_grammar.proofs.what_is_a_text_is_read.Goals as goal

pub returns-clause-scripts : goal.returns-clause-scripts
returns-clause-scripts c = complete_script_law

pub returns-clause-modules : goal.returns-clause-modules
returns-clause-modules c = complete_module_law
