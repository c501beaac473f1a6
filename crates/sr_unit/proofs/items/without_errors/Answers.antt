use Rattle.sr_unit.proofs.Judged.{no_error, an_error}
use Rattle.sr_unit.proofs.items.without_errors.Goals as goal

pub returns-in-None : goal.returns-in-None
returns-in-None c = λ known. no_error _ _ _ _ _ _ c.as_slice.ensures c.in_ok-early.ensures c.in-None.is

pub returns-in-Some : goal.returns-in-Some
returns-in-Some c = λ known. an_error _ _ _ _ _ _ c.in-Some.at _ _ c.as_slice.ensures c.in_ok-early.ensures c.in-Some.is c.token_marker.ensures c.refusal_at.ensures
