use Rattle.sr_syntax.proofs.OneSorting.{sorted_once}
use Rattle.sr_syntax.proofs.laws.one_sorting.Goals as goal

pub returns : goal.returns
returns c = sorted_once c.one_value.ensures c.one_number.ensures c.one_piece_value.ensures
