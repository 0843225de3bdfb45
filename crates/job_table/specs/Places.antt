-- New numbers of lines, looked up by their old ones.
use Rattle.std.specs.Prelude.{◌≡◌, ℕ, nat_eq, List, Option, Some, None, if◌then◌else◌}
use Rattle.std.specs.HashMap.{get}
use Rattle.std.specs.Option.{option_or}
use Rattle.signal_file.specs.declared.line.Line.{Line}
use Rattle.job_table.specs.declared.places.Places.{Places}
use Rattle.job_table.specs.Merged.{number_in}

-- the number that was noted of an old one
abbrev pub noted : Places → ℕ → Option ℕ
noted p old = get nat_eq p.numbers old

-- a number is noted of an old one, unless one was, and what was noted stays
abbrev pub HasNoted : Places → Places → ℕ → ℕ → Type 0
HasNoted before after old number = (n : ℕ) → noted after n
    ≡ option_or (noted before n) (if nat_eq old n then Some number else None)

-- what is noted is where the lines stand, from 1
abbrev pub ArePlaces : Places → List Line → Type 0
ArePlaces p lines = (n : ℕ) → noted p n ≡ number_in lines n
