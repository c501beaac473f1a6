use Rattle.sr_unit.proofs.Judged.{failed}
use Rattle.sr_unit.proofs.items.read_tokens.Goals as goal

pub returns-in-Some : goal.returns-in-Some
returns-in-Some c = λ known. failed _ _ _ _ _ c.in-Some.at _ c.requires.tokens c.in-Some.is c.deref-in-Some.ensures.value c.no_token.ensures
