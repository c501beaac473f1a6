use Rattle.sr_grammar.proofs.TextSoundness.{sound_script_law, sound_module_law}
use Rattle.sr_grammar.proofs.what_is_read_is_a_text.Goals as goal

pub returns-clause-scripts : goal.returns-clause-scripts
returns-clause-scripts c = sound_script_law

pub returns-clause-modules : goal.returns-clause-modules
returns-clause-modules c = sound_module_law
