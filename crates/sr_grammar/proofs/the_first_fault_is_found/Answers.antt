use Rattle.sr_grammar.proofs.Laws.{first_fault_law}
use Rattle.sr_grammar.proofs.the_first_fault_is_found.Goals as goal

pub returns : goal.returns
returns c = first_fault_law
