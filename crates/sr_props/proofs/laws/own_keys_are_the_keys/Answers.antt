use Rattle.sr_props.proofs.Listed.{are_the_keys}
use Rattle.sr_props.proofs.laws.own_keys_are_the_keys.Goals as goal

pub returns : goal.returns
returns g c = are_the_keys g.K.PropKey.rank_of
