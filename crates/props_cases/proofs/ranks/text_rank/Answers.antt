use Rattle.std.proofs.Common.{sym}
use Rattle.props_cases.proofs.Ranked.{ranked_index}
use Rattle.props_cases.proofs.ranks.text_rank.Goals as goal

pub returns-in-Some : goal.returns-in-Some
returns-in-Some c = sym (ranked_index c.args.text.now c.in-Some.number c.in-Some.ensures.key)
