use Rattle.sr_ast.specs.Script.{Script}
use Rattle.sr_script.specs.Built.{HasBody}
use Rattle.sr_script.proofs.Built.{script_read, nothing_read, is_refused}
use Rattle.sr_script.proofs.script.read_text.Goals as goal

pub returns-in-Some-clause-reading : goal.returns-in-Some-clause-reading
returns-in-Some-clause-reading c =
    let has : HasBody c.deref.result.now c.in-Ok.body c.in-Some.script = rw c.in-Some.is at c.in_ok-script-in-Ok.ensures.script in
    script_read c.args.text.now _ _ c.in-Ok.body c.in-Some.script c.in_ok-lexed.ensures.tokens c.in-Ok.ensures (rw c.deref.ensures.value at has)

pub returns-in-Ok-clause-no_reading : goal.returns-in-Ok-clause-no_reading
returns-in-Ok-clause-no_reading c =
    let none : (x : Script) → ¬ (HasBody c.deref.result.now c.in-Ok.body x) = rw c.in-None.is at c.in_ok-script-in-Ok.ensures.no_script in
    nothing_read c.args.text.now _ _ c.in-Ok.body c.in_ok-lexed.ensures.tokens c.in-Ok.ensures (rw c.deref.ensures.value at none)

pub returns-in-Err-Refused-clause-reading : goal.returns-in-Err-Refused-clause-reading
returns-in-Err-Refused-clause-reading c =
    rw c.in-Err-Refused.field-0-is (is_refused c.args.text.now c.in-Err-Refused.field-0 _ c.in-Err-Refused.ensures c.in-Err-Refused.field-0-is)
