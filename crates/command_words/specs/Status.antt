-- The status with which a program ends.
use Rattle.std.specs.Prelude.{ℕ}
use Rattle.command_words.specs.declared.status.Status.{Status}
use Rattle.command_words.specs.declared.status.Status.TheVariants as status

-- the number with which the program ends
abbrev pub exit_number : Status → ℕ
exit_number status.Done = 0
exit_number status.Usage = 1
exit_number status.Source = 2
exit_number status.Signals = 3
exit_number status.Restart = 4
exit_number status.Limit = 5
exit_number status.Read = 6
exit_number status.Write = 7
exit_number status.Memory = 8
exit_number status.Certificate = 9
exit_number status.Table = 11
exit_number status.Change = 12
exit_number status.Filter = 13
