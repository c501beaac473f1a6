use Rattle.std.proofs.Common.{◌∙◌, inl, inr}
use Rattle.sr_outside.specs.declared.loader.Loaded.TheVariants.{Absent, Failed}
use Rattle.sr_command.specs.Runs.{absent, failed}
use Rattle.sr_command.proofs.Gaining.{is_memory, nothing_gained}
use Rattle.sr_command.proofs.Reached.{reached}
use Rattle.sr_command.proofs.run.run_file.Goals as goal

pub returns-in_err-line-in-Absent-clause-reaches :
    goal.returns-in_err-line-in-Absent-clause-reaches
returns-in_err-line-in-Absent-clause-reaches g c =
    inr (record { memory = is_memory c.from_residual-in_err-line-in-Absent.result c.from_residual-in_err-line-in-Absent.ensures.1; nothing = nothing_gained _ })

pub returns-in_err-line-in-Failed-clause-reaches :
    goal.returns-in_err-line-in-Failed-clause-reaches
returns-in_err-line-in-Failed-clause-reaches g c =
    inr (record { memory = is_memory c.from_residual-in_err-line-in-Failed.result c.from_residual-in_err-line-in-Failed.ensures.1; nothing = nothing_gained _ })

pub returns-in_ok-line-in-Absent-clause-reaches : goal.returns-in_ok-line-in-Absent-clause-reaches
returns-in_ok-line-in-Absent-clause-reaches g c =
    inl (
      Absent,
      rw (c.as_bytes.ensures.value, c.in-Absent.is) at c.in_ok-bytes.ensures.last,
      reached _ absent (rw (c.as_bytes-in-Absent.ensures.value ∙ c.in_ok-line-in-Absent.ensures.ok) at (c.end_with.ensures.comes (g.O.Sink.written c.args.out.now))),
    )

pub returns-in_ok-line-in-Failed-clause-reaches : goal.returns-in_ok-line-in-Failed-clause-reaches
returns-in_ok-line-in-Failed-clause-reaches g c =
    inl (
      Failed,
      rw (c.as_bytes.ensures.value, c.in-Failed.is) at c.in_ok-bytes.ensures.last,
      reached _ failed (rw (c.as_bytes-in-Failed.ensures.value ∙ c.in_ok-line-in-Failed.ensures.ok) at (c.end_with-in-Failed.ensures.comes (g.O.Sink.written c.args.out.now))),
    )
