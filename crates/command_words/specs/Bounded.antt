-- The bounds of a run.
use Rattle.std.specs.Prelude.{ℕ, ◌≤◌, IfSome}
use Rattle.plex_limits.specs.declared.limits.TheConstants.{MOST_JOBS, MOST_WORKERS}
use Rattle.command_words.specs.declared.command.Bounds.{Bounds}
use Rattle.command_words.specs.declared.command.RunWords.{RunWords}
use Rattle.command_words.specs.declared.options.OptionValues.{OptionValues}
use Rattle.command_words.specs.declared.command.Command.{Command}
use Rattle.command_words.specs.declared.command.Command.TheVariants.{Run, Single, Analyse, Certify}
use Rattle.command_words.specs.declared.command.Command.TheVariants.{List as Listing, Load, Timed}
use Rattle.command_words.specs.declared.command.Command.TheVariants.{Change, Trace}

-- from 1 to 64 workers
pub record AreWorkers (n : ℕ) : Type 0 where
  pub some : 1 ≤ n
  pub few : n ≤ MOST_WORKERS

-- what options tell is in range
pub record IsTold (t : OptionValues) : Type 0 where
  pub workers : IfSome t.workers AreWorkers
  pub jobs : IfSome t.jobs (λ n. n ≤ MOST_JOBS)

-- so many workers, and at most 10,000,000 jobs
pub record AreWithin (b : Bounds) : Type 0 where
  pub workers : AreWorkers b.workers
  pub jobs : b.jobs ≤ MOST_JOBS

-- a run has such bounds
abbrev pub HasBounds : RunWords → Type 0
HasBounds w = AreWithin w.bounds

-- a command that runs has bounds
abbrev pub IsBounded : Command → Type 0
IsBounded (Run w) = HasBounds w
IsBounded (Single w) = HasBounds w
IsBounded (Analyse name) = Unit {0}
IsBounded (Certify name) = Unit {0}
IsBounded (Listing name) = Unit {0}
IsBounded (Load calls) = Unit {0}
IsBounded (Timed w) = HasBounds w.run
IsBounded (Change w) = HasBounds w.run
IsBounded (Trace w) = HasBounds w.run
