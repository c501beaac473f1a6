use Rattle.sr_command.proofs.Ended.{completes, breaks_off, starves}
use Rattle.sr_command.proofs.top.shadow_run.Goals as goal

pub returns-in-Ok-clause-completes : goal.returns-in-Ok-clause-completes
returns-in-Ok-clause-completes g c = λ _ _. rw (c.code.ensures, ← c.deref.ensures.value) (completes _ _ _ _ _ _ c.in-Ok.ensures.reaches)

pub returns-in-Err-Failed-clause-breaks_off : goal.returns-in-Err-Failed-clause-breaks_off
returns-in-Err-Failed-clause-breaks_off g c = λ _.
    let w = c.write_all in
    let f = c.in-Err-Failed in
    rw (← c.deref.ensures.value) (breaks_off c.one_run.ensures.each _ _ _ _ _ _ _ f.field-0 f.field-0-is f.ensures.reaches w.result (w.ensures.ok, w.ensures.part, w.ensures.memory))

pub returns-in-Err-Memory-clause-starves : goal.returns-in-Err-Memory-clause-starves
returns-in-Err-Memory-clause-starves g c = λ _.
    let w = c.write_all-in-Err-Memory in
    let f = c.in-Err-Memory in
    rw (← c.deref.ensures.value) (starves c.one_run.ensures.each _ _ _ _ _ _ _ f.field-0 f.field-0-is f.ensures.reaches w.result (w.ensures.ok, w.ensures.part, w.ensures.memory))
