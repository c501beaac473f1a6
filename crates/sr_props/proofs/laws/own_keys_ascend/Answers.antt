use Rattle.sr_props.proofs.Listed.{ascend}
use Rattle.sr_props.proofs.laws.own_keys_ascend.Goals as goal

pub returns : goal.returns
returns g c = ascend g.K.PropKey.rank_of
