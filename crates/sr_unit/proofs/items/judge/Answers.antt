use Rattle.sr_unit.proofs.Judged.{at_fault, too_far, items_read}
use Rattle.sr_unit.proofs.items.judge.Goals as goal

pub returns-in-Ok : goal.returns-in-Ok
returns-in-Ok c = λ known. items_read _ _ _ c.in-Ok.items _ c.requires.tokens c.in-Ok.ensures (c.without_errors.ensures known)

pub returns-in_ok-fault-in-Err-Syntax : goal.returns-in_ok-fault-in-Err-Syntax
returns-in_ok-fault-in-Err-Syntax c = λ known.
    at_fault _ _ _ c.in-Err-Syntax.field-0 c.in-Err-Syntax.at _ c.requires.tokens c.in-Err-Syntax.ensures c.in-Err-Syntax.field-0-is c.in_ok-fault-in-Err-Syntax.ensures

pub returns-in-Err-TooDeep : goal.returns-in-Err-TooDeep
returns-in-Err-TooDeep c = λ known. too_far _ _ _ c.in-Err-TooDeep.field-0 c.requires.tokens c.in-Err-TooDeep.ensures c.in-Err-TooDeep.field-0-is
