use Rattle.std.proofs.Common.{sym}
use Rattle.sr_value.proofs.Keys.{rank_of_index, rank_of_other}
use Rattle.sr_value.proofs.prop_key.KeyPropKey.rank.Goals as goal

pub returns-in-Some : goal.returns-in-Some
returns-in-Some c = rw c.in-Text.is (sym (rank_of_index c.in-Text.text c.in-Some.index c.in-Some.ensures.key))

pub returns-in-None : goal.returns-in-None
returns-in-None c = rw c.in-Text.is (sym (rank_of_other c.in-Text.text c.in-None.ensures.none))
