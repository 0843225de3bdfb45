-- What the words of the command ask for, and what is wrong with words that are no command.
--
-- A command begins with its name; behind it stand its files and numbers, each at its place, and
-- behind these options, each a name and a value. What is wrong is the first thing that is, where
-- words are looked at from the first one on; that words are missing comes before the others.
use Rattle.std.specs.Prelude.{ℕ, nat_le, ◌&&◌, Bool, true, false, List, [], ◌∷◌, Option, Some, None}
use Rattle.std.specs.Prelude.{Result, Ok, Err, if◌then◌else◌, codes}
use Rattle.std.specs.Option.{is_some, ok_or, option_map, unwrap_or}
use Rattle.std.specs.Result.{result_ok}
use Rattle.std.specs.Str.{bytes_eq}
use Rattle.plex_limits.specs.declared.limits.TheConstants.{MOST_JOBS, MOST_WORKERS}
use Rattle.plex_num.specs.Number.{number_of}
use Rattle.command_words.specs.declared.command.TheConstants.{MOST_CALLS, USUAL_JOBS, USUAL_WORKERS}
use Rattle.command_words.specs.declared.command.Bounds.{Bounds}
use Rattle.command_words.specs.declared.command.Command.{Command}
use Rattle.command_words.specs.declared.command.Command.TheVariants as command
use Rattle.command_words.specs.declared.command.ChangeWords.{ChangeWords}
use Rattle.command_words.specs.declared.command.RunWords.{RunWords}
use Rattle.command_words.specs.declared.command.TimedWords.{TimedWords}
use Rattle.command_words.specs.declared.command.TraceWords.{TraceWords}
use Rattle.command_words.specs.declared.fault.CommandName.{CommandName}
use Rattle.command_words.specs.declared.fault.CommandName.TheVariants as name
use Rattle.command_words.specs.declared.fault.CommandOption.{CommandOption}
use Rattle.command_words.specs.declared.fault.CommandOption.TheVariants.{Workers, Jobs, Certificate}
use Rattle.command_words.specs.declared.fault.WordsFault.{WordsFault}
use Rattle.command_words.specs.declared.fault.WordsFault.TheVariants as fault
use Rattle.command_words.specs.declared.options.OptionValues.{OptionValues}

-- a word
abbrev pub Word : Type 0
Word = List ℕ

-- what is read on with what was read, or the fault that was found
abbrev pub then_read : {A B : Type 0} → Result A WordsFault → (A → Result B WordsFault)
    → Result B WordsFault
then_read (Ok a) more = more a
then_read (Err f) more = Err f

-- the same, where what is read on has no fault
abbrev pub made_of : {A B : Type 0} → (A → B) → Result A WordsFault → Result B WordsFault
made_of make read = then_read read (λ a. Ok (make a))

-- ---- numbers

-- the number, where it is from 1 up to the most
abbrev pub within : (most : ℕ) → Option ℕ → Option ℕ
within most None = None
within most (Some n) = (if nat_le 1 n && nat_le n most then Some n else None)

-- the number that a word is, where it is from 1 up to the most
abbrev pub count_of : (most : ℕ) → Word → Option ℕ
count_of most word = within most (number_of word)

-- ---- options

-- the option of this name
abbrev pub option_named : Word → Option CommandOption
option_named word =
    (if bytes_eq word (codes "--workers") then Some Workers
    else (if bytes_eq word (codes "--jobs") then Some Jobs
    else (if bytes_eq word (codes "--cert") then Some Certificate
    else None)))

-- whether a command takes an option
abbrev pub takes : CommandName → CommandOption → Bool
takes name.Run o = true
takes name.Single Workers = false
takes name.Single Jobs = true
takes name.Single Certificate = false
takes name.Analyse o = false
takes name.Certify o = false
takes name.List o = false
takes name.Load o = false
takes name.Timed Workers = true
takes name.Timed Jobs = true
takes name.Timed Certificate = false
takes name.Change Workers = true
takes name.Change Jobs = true
takes name.Change Certificate = false
takes name.Trace Workers = false
takes name.Trace Jobs = true
takes name.Trace Certificate = false

-- the option, where the command takes it
abbrev pub taken : CommandName → Option CommandOption → Option CommandOption
taken c None = None
taken c (Some o) = (if takes c o then Some o else None)

abbrev pub nothing_told : OptionValues
nothing_told = record { workers = None; jobs = None; certificate = None }

-- whether so much tells this option
abbrev pub has_told : OptionValues → CommandOption → Bool
has_told t Workers = is_some t.workers
has_told t Jobs = is_some t.jobs
has_told t Certificate = is_some t.certificate

-- the option, where so much does not tell it
abbrev pub once_told : OptionValues → CommandOption → Result CommandOption WordsFault
once_told t o = (if has_told t o then Err (fault.OptionTwice o) else Ok o)

-- the option that this word names behind so much, where the command may have it there
abbrev pub open_option : CommandName → OptionValues → Word → Result CommandOption WordsFault
open_option c t word =
    then_read (ok_or (taken c (option_named word)) (fault.UnknownOption c word)) (once_told t)

-- what is told once this option has this value too, where it may have it
abbrev pub told_with : OptionValues → CommandOption → Word → Option OptionValues
told_with t Workers value =
    option_map (λ n. record t { workers = Some n }) (count_of MOST_WORKERS value)
told_with t Jobs value =
    option_map (λ n. record t { jobs = Some n }) (count_of MOST_JOBS value)
told_with t Certificate value = Some (record t { certificate = Some value })

-- the same of the option that a word names
abbrev pub added : OptionValues → Word → Result CommandOption WordsFault
    → Result OptionValues WordsFault
added t value read = then_read read (λ o. ok_or (told_with t o value) (fault.BadValue o value))

-- what is wrong with a word where an option may stand, and behind which nothing stands
abbrev pub fault_of_bare : Result CommandOption WordsFault → WordsFault
fault_of_bare (Ok o) = fault.MissingValue o
fault_of_bare (Err f) = f

-- what these options of a command tell, behind so much
abbrev pub options_of : CommandName → OptionValues → List Word → Result OptionValues WordsFault
options_of c t [] = Ok t
options_of c t (word ∷ []) = Err (fault_of_bare (open_option c t word))
options_of c t (word ∷ value ∷ rest) =
    then_read (added t value (open_option c t word)) (λ more. options_of c more rest)

-- ---- runs

-- how many workers a run of a command has, as options tell: a command that takes none has one
abbrev pub workers_of : CommandName → OptionValues → ℕ
workers_of c t = (if takes c Workers then unwrap_or t.workers USUAL_WORKERS else 1)

-- how many workers a run of a command has, and after how many jobs it ends
abbrev pub bounds_of : CommandName → OptionValues → Bounds
bounds_of c t = record { workers = workers_of c t; jobs = unwrap_or t.jobs USUAL_JOBS }

-- a run of these files, as options of a command tell
abbrev pub run_told : CommandName → (exchange signals : Word) → OptionValues → RunWords
run_told c e s t = record {
  exchange = e;
  signals = s;
  bounds = bounds_of c t;
  certificate = t.certificate;
}

abbrev pub run_by : CommandName → (exchange signals : Word) → (options : List Word)
    → Result RunWords WordsFault
run_by c e s options = made_of (run_told c e s) (options_of c nothing_told options)

-- an exchange file, a signal file and options
abbrev pub run_words : CommandName → List Word → Result RunWords WordsFault
run_words c [] = Err (fault.MissingWords c)
run_words c (e ∷ []) = Err (fault.MissingWords c)
run_words c (e ∷ s ∷ options) = run_by c e s options

-- an exchange file, a signal file, a table and options
abbrev pub timed_words : List Word → Result TimedWords WordsFault
timed_words [] = Err (fault.MissingWords name.Timed)
timed_words (e ∷ []) = Err (fault.MissingWords name.Timed)
timed_words (e ∷ s ∷ []) = Err (fault.MissingWords name.Timed)
timed_words (e ∷ s ∷ t ∷ options) =
    made_of (λ (w : RunWords). record { run = w; table = t }) (run_by name.Timed e s options)

-- an exchange file, a signal file, another exchange file, after how many jobs, and options
abbrev pub change_words : List Word → Result ChangeWords WordsFault
change_words [] = Err (fault.MissingWords name.Change)
change_words (e ∷ []) = Err (fault.MissingWords name.Change)
change_words (e ∷ s ∷ []) = Err (fault.MissingWords name.Change)
change_words (e ∷ s ∷ n ∷ []) = Err (fault.MissingWords name.Change)
change_words (e ∷ s ∷ n ∷ k ∷ options) =
    then_read (ok_or (count_of MOST_JOBS k) (fault.BadNumber name.Change k))
    (λ at. made_of (λ (w : RunWords). record { run = w; new = n; at = at })
    (run_by name.Change e s options))

-- an exchange file, a signal file, a filter and options
abbrev pub trace_words : List Word → Result TraceWords WordsFault
trace_words [] = Err (fault.MissingWords name.Trace)
trace_words (e ∷ []) = Err (fault.MissingWords name.Trace)
trace_words (e ∷ s ∷ []) = Err (fault.MissingWords name.Trace)
trace_words (e ∷ s ∷ q ∷ options) =
    made_of (λ (w : RunWords). record { run = w; filter = q }) (run_by name.Trace e s options)

-- ---- commands without options

-- what is wrong with the first of these words, which stand where a command has none
abbrev pub no_more : CommandName → List Word → Option WordsFault
no_more c [] = None
no_more c (word ∷ rest) = Some (fault.UnknownOption c word)

-- the value, where no words stand behind it
abbrev pub alone : {A : Type 0} → A → Option WordsFault → Result A WordsFault
alone a None = Ok a
alone a (Some f) = Err f

-- a file
abbrev pub only_word : CommandName → List Word → Result Word WordsFault
only_word c [] = Err (fault.MissingWords c)
only_word c (word ∷ rest) = alone word (no_more c rest)

-- how many calls
abbrev pub load_words : List Word → Result ℕ WordsFault
load_words [] = Err (fault.MissingWords name.Load)
load_words (value ∷ rest) =
    then_read (ok_or (count_of MOST_CALLS value) (fault.BadNumber name.Load value))
    (λ n. alone n (no_more name.Load rest))

-- ---- all commands

-- the command of this name
abbrev pub command_named : Word → Option CommandName
command_named word =
    (if bytes_eq word (codes "run") then Some name.Run
    else (if bytes_eq word (codes "single") then Some name.Single
    else (if bytes_eq word (codes "analyse") then Some name.Analyse
    else (if bytes_eq word (codes "certify") then Some name.Certify
    else (if bytes_eq word (codes "list") then Some name.List
    else (if bytes_eq word (codes "load") then Some name.Load
    else (if bytes_eq word (codes "timed") then Some name.Timed
    else (if bytes_eq word (codes "change") then Some name.Change
    else (if bytes_eq word (codes "trace") then Some name.Trace
    else None)))))))))

-- the command of this name that words behind it make
abbrev pub command_behind : CommandName → List Word → Result Command WordsFault
command_behind name.Run rest = made_of command.Run (run_words name.Run rest)
command_behind name.Single rest = made_of command.Single (run_words name.Single rest)
command_behind name.Analyse rest = made_of command.Analyse (only_word name.Analyse rest)
command_behind name.Certify rest = made_of command.Certify (only_word name.Certify rest)
command_behind name.List rest = made_of command.List (only_word name.List rest)
command_behind name.Load rest = made_of command.Load (load_words rest)
command_behind name.Timed rest = made_of command.Timed (timed_words rest)
command_behind name.Change rest = made_of command.Change (change_words rest)
command_behind name.Trace rest = made_of command.Trace (trace_words rest)

-- the command that words are, or what is wrong with them
abbrev pub command_of : List Word → Result Command WordsFault
command_of [] = Err fault.NoWords
command_of (word ∷ rest) =
    then_read (ok_or (command_named word) (fault.UnknownCommand word))
    (λ c. command_behind c rest)

-- the command that words are, where they are one
abbrev pub shape : List Word → Option Command
shape words = result_ok (command_of words)
