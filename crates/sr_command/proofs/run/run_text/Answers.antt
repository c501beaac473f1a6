use Rattle.sr_ast.specs.declared.reading.Reading.{Reading}
use Rattle.sr_script.specs.Built.{IsReading, IsSource}
use Rattle.sr_command.specs.Runs.{no_reading, read}
use Rattle.sr_command.proofs.Reached.{reached, reached_along}
use Rattle.sr_command.proofs.run.run_text.Goals as goal

pub run_source-requires : goal.run_source-requires
run_source-requires g c =
    let is : IsSource c.args.text.now c.in-Some.code = rw c.in-Some.is at c.in_ok-code.ensures.source in
    is.units

pub returns-in-Some-clause-reaches : goal.returns-in-Some-clause-reaches
returns-in-Some-clause-reaches g c =
    let is : IsSource c.args.text.now c.in-Some.code = rw c.in-Some.is at c.in_ok-code.ensures.source in
    reached_along (λ course runs. read is.reads runs) c.run_source.ensures.reaches

pub returns-in-None-clause-reaches : goal.returns-in-None-clause-reaches
returns-in-None-clause-reaches g c =
    let not : (r : Reading) → ¬ (IsReading c.args.text.now r) = rw c.in-None.is at c.in_ok-code.ensures.no_source in
    reached _ (no_reading not) (c.end_not_built.ensures.comes _)
