-- The statuses of the command.
use Rattle.std.specs.Prelude.{ℕ}
use Rattle.sr_command.specs.declared.status.Status.{Status}
use Rattle.sr_command.specs.declared.status.Status.TheVariants.{Ran, Threw, WordsRefused, Stopped, OutOfSteps, NoText, ReadFailed, NotBuilt}

-- the status of the process
abbrev pub code_of : Status → ℕ
code_of Ran = 0
code_of Threw = 1
code_of WordsRefused = 2
code_of Stopped = 3
code_of OutOfSteps = 4
code_of NoText = 5
code_of ReadFailed = 6
code_of NotBuilt = 9
