use Rattle.std.proofs.Common.{◌≡◌, ◌≤◌, ℕ, List, None}
use Rattle.sr_ast.specs.declared.reading.Reading.{Reading}
use Rattle.sr_machine.specs.Going.{left_of}
use Rattle.sr_machine.specs.Running.{given, source_as}
use Rattle.sr_command.proofs.Running.{SoFar}
use Rattle.sr_command.proofs.run.run_to_end.Given as goal

abbrev pub invariant-steps : goal.invariant-steps
invariant-steps g l = record {
  open_run : l.live.over ≡ None;
  so_far : (text : List ℕ) (x : Reading) → l.fn.live ≡ given l.fn.asked.bound (source_as (λ _. x) text) → SoFar l.fn.asked.bound l.fn.asked.name.now text x l.live.held (g.O.Sink.written l.fn.out) (g.O.Sink.written l.out);
  faults : g.O.Sink.faults l.fn.out ≤ g.O.Sink.faults l.out;
  err_written : g.E.Sink.written l.err ≡ g.E.Sink.written l.fn.err;
  err_faults : g.E.Sink.faults l.err ≡ g.E.Sink.faults l.fn.err;
}

abbrev pub decreases-steps : goal.decreases-steps
decreases-steps g l = left_of l.live.held
