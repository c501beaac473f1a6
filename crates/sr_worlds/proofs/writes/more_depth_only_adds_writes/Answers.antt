use Rattle.sr_worlds.proofs.LiveLarger.{run_writes}
use Rattle.sr_worlds.proofs.writes.more_depth_only_adds_writes.Goals as goal

pub returns-clause-run : goal.returns-clause-run
returns-clause-run g c = λ l bound n m files le. run_writes l bound n m files le
