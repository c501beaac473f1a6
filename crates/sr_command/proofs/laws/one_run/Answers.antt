use Rattle.sr_command.proofs.RunLaws.{one_run, each_leads}
use Rattle.sr_command.proofs.laws.one_run.Goals as goal

pub returns-clause-one : goal.returns-clause-one
returns-clause-one c = one_run c.one_reading.ensures

pub returns-clause-each : goal.returns-clause-each
returns-clause-each c = each_leads c.one_reading.ensures
