use Rattle.sr_grammar.proofs.Laws.{more_open_law}
use Rattle.sr_grammar.proofs.more_open_changes_only_what_was_too_deep.Goals as goal

pub returns : goal.returns
returns c = more_open_law
