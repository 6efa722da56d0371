-- The numbers of the exit statuses.
use Rattle.std.specs.Prelude.{ℕ}
use Rattle.safl_task.specs.declared.status.Status.{Status}
use Rattle.safl_task.specs.declared.status.Status.TheVariants as status

abbrev pub number_of : Status → ℕ
number_of status.Ok = 0
number_of status.SourceRefused = 1
number_of status.Usage = 2
number_of status.ReadFault = 3
number_of status.WriteFault = 4
number_of status.NoMemory = 5
number_of status.NoResult = 6
number_of status.VerilogRefused = 7
number_of status.BadArgs = 8
number_of status.ProbeFault = 9
number_of status.TooLong = 10
number_of status.AigRefused = 11
number_of status.CircuitTooLarge = 12
number_of status.ReshapeRefused = 13
number_of status.NotZero = 14
