use Rattle.std.proofs.Common.{Some, None, refl, arith}
use Rattle.sr_machine.specs.Running.{Running}
use Rattle.sr_command.proofs.Running.{begun_so, goes_so, falls, starved, broken}
use Rattle.sr_command.proofs.RunEnds.{done, stopped_by}
use Rattle.sr_command.proofs.run.run_to_end.Goals as goal

pub steps-init : goal.steps-init
steps-init g c = record {
  open_run = rw c.requires.2 refl;
  so_far = λ text x is. begun_so c.args.asked.bound c.args.asked.name.now text x _ _ is;
  faults = omega arith;
  err_written = refl;
  err_faults = refl;
}

pub steps-preserved : goal.steps-preserved
steps-preserved g c =
    let so = c.steps.invariant in
    record {
      open_run = c.in-Going.ensures.on refl;
      so_far = λ text x is. goes_so _ _ text x _ _ _ (so.so_far text x is) _ _ (c.in-Going.ensures.going refl);
      faults = omega (arith, so.faults, c.in-Going.ensures.faults);
      err_written = so.err_written;
      err_faults = so.err_faults;
    }

pub steps-smaller : goal.steps-smaller
steps-smaller g c = falls _ _ c.requires.0 c.requires.1 _ _ _ (c.steps.invariant.so_far c.requires.0 c.requires.1 c.requires.2) _ _ (c.in-Going.ensures.going refl)

pub returns-in-Thrown-clause-reaches : goal.returns-in-Thrown-clause-reaches
returns-in-Thrown-clause-reaches g c =
    let so = c.steps.invariant in
    let end = c.in-Thrown.ensures.thrown c.in-Thrown.text refl in
    λ text x is.
    done _ _ text x _ _ _ (so.so_far text x is) c.end_of_run.result _ (g.E.Sink.written c.args.err.now) _ (Some c.in-Thrown.text) end.0 (c.in-Thrown.ensures.thrown_unwritten c.in-Thrown.text refl) end.1
    (rw so.err_written at (c.end_of_run.ensures.comes (g.O.Sink.written c.advance.new.out)))

pub returns-in-Done-clause-reaches : goal.returns-in-Done-clause-reaches
returns-in-Done-clause-reaches g c =
    let so = c.steps.invariant in
    let end = c.in-Done.ensures.done refl in
    λ text x is.
    done _ _ text x _ _ _ (so.so_far text x is) c.end_of_run-in-Done.result _ (g.E.Sink.written c.args.err.now) _ None end.0 (c.in-Done.ensures.done_unwritten refl) end.1
    (rw so.err_written at (c.end_of_run-in-Done.ensures.comes (g.O.Sink.written c.advance.new.out)))

pub returns-in-Stop-clause-reaches : goal.returns-in-Stop-clause-reaches
returns-in-Stop-clause-reaches g c =
    let so = c.steps.invariant in
    λ text x is.
    stopped_by _ _ text x _ _ _ (so.so_far text x is) c.end_by_stop.result _ (g.E.Sink.written c.args.err.now) _ (let r : Running = c.advance.new.self in r.held) c.in-Stop.stop (c.in-Stop.ensures.stop so.open_run c.in-Stop.stop refl) (c.in-Stop.ensures.stop_unwritten c.in-Stop.stop refl)
    (rw so.err_written at (c.end_by_stop.ensures.comes (g.O.Sink.written c.advance.new.out)))

pub returns-in-Write-clause-reaches : goal.returns-in-Write-clause-reaches
returns-in-Write-clause-reaches g c =
    let so = c.steps.invariant in
    λ text x is. rw so.err_written (broken _ _ text x _ _ _ (so.so_far text x is) _ (c.in-Write.ensures.write refl so.open_run) (g.E.Sink.written c.args.err.now))

pub returns-in-Memory-clause-reaches : goal.returns-in-Memory-clause-reaches
returns-in-Memory-clause-reaches g c =
    let so = c.steps.invariant in
    λ text x is. rw so.err_written (starved _ _ text x _ _ _ (so.so_far text x is) _ (c.in-Memory.ensures.memory refl) (g.E.Sink.written c.args.err.now))
