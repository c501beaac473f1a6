use Rattle.sr_grammar.proofs.Laws.{sound_law}
use Rattle.sr_grammar.proofs.what_is_read_derives.Goals as goal

pub returns : goal.returns
returns c = sound_law
