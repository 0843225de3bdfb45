-- The shapes of commands: which words are a command, and what it asks for.
--
-- A command begins with its name; behind it stand its files and numbers, each at its place, and
-- behind these options in any order, each at most once. What has none of these shapes is no
-- command.
use Rattle.std.specs.Prelude.{◌≡◌, ◌≤◌, ◌↔◌, ℕ, List, [], ◌∷◌, Option, Some, None, codes}
use Rattle.std.specs.Prelude.{Result, Ok}
use Rattle.std.specs.Option.{unwrap_or}
use Rattle.plex_limits.specs.declared.limits.TheConstants.{MOST_JOBS, MOST_WORKERS}
use Rattle.plex_num.specs.Number.{number_of}
use Rattle.command_words.specs.declared.command.TheConstants.{MOST_CALLS}
use Rattle.command_words.specs.declared.command.TheConstants.{USUAL_JOBS, USUAL_WORKERS}
use Rattle.command_words.specs.declared.command.Command.{Command}
use Rattle.command_words.specs.declared.command.Command.TheVariants.{Run, Single, Analyse, Certify}
use Rattle.command_words.specs.declared.command.Command.TheVariants.{List as Listing, Load, Timed}
use Rattle.command_words.specs.declared.command.Command.TheVariants.{Change, Trace}
use Rattle.command_words.specs.declared.command.RunWords.{RunWords}
use Rattle.command_words.specs.declared.fault.WordsFault.{WordsFault}
use Rattle.command_words.specs.Words.{Word}

-- this word is a number from 1 up to the most
pub record IsCount (most : ℕ) (word : Word) (n : ℕ) : Type 0 where
  pub number : number_of word ≡ Some n
  pub some : 1 ≤ n
  pub few : n ≤ most

-- these words are options, in any order and each at most once: they tell so many workers, so many
-- jobs and this certificate file
pub data AreOptions : List Word → Option ℕ → Option ℕ → Option Word → Type 0 where
  NoOptions : AreOptions [] None None None
  TellWorkers : (value : Word) (n : ℕ) (rest : List Word) (j : Option ℕ) (c : Option Word)
      → IsCount MOST_WORKERS value n → AreOptions rest None j c
      → AreOptions (codes "--workers" ∷ value ∷ rest) (Some n) j c
  TellJobs : (value : Word) (n : ℕ) (rest : List Word) (w : Option ℕ) (c : Option Word)
      → IsCount MOST_JOBS value n → AreOptions rest w None c
      → AreOptions (codes "--jobs" ∷ value ∷ rest) w (Some n) c
  TellCertificate : (file : Word) (rest : List Word) (w j : Option ℕ)
      → AreOptions rest w j None
      → AreOptions (codes "--cert" ∷ file ∷ rest) w j (Some file)

-- the run of these files with so many workers, this limit of jobs and a certificate file or none
abbrev pub run_of : (exchange signals : Word) → (workers jobs : ℕ) → Option Word → RunWords
run_of e s workers jobs certificate = record {
  exchange = e;
  signals = s;
  bounds = record { workers = workers; jobs = jobs };
  certificate = certificate;
}

-- how many workers and jobs there are where options tell so
abbrev pub or_usual_workers : Option ℕ → ℕ
or_usual_workers told = unwrap_or told USUAL_WORKERS

abbrev pub or_usual_jobs : Option ℕ → ℕ
or_usual_jobs told = unwrap_or told USUAL_JOBS

-- these words are this command
pub data IsShape : List Word → Command → Type 0 where
  Runs : (e s : Word) (options : List Word) (w j : Option ℕ) (c : Option Word)
      → AreOptions options w j c
      → IsShape (codes "run" ∷ e ∷ s ∷ options)
      (Run (run_of e s (or_usual_workers w) (or_usual_jobs j) c))
  RunsBySource : (e s : Word) (options : List Word) (j : Option ℕ)
      → AreOptions options None j None
      → IsShape (codes "single" ∷ e ∷ s ∷ options) (Single (run_of e s 1 (or_usual_jobs j) None))
  Analyses : (e : Word) → IsShape (codes "analyse" ∷ e ∷ []) (Analyse e)
  Certifies : (e : Word) → IsShape (codes "certify" ∷ e ∷ []) (Certify e)
  Lists : (e : Word) → IsShape (codes "list" ∷ e ∷ []) (Listing e)
  Loads : (value : Word) (n : ℕ) → IsCount MOST_CALLS value n
      → IsShape (codes "load" ∷ value ∷ []) (Load n)
  RunsTimed : (e s t : Word) (options : List Word) (w j : Option ℕ)
      → AreOptions options w j None
      → IsShape (codes "timed" ∷ e ∷ s ∷ t ∷ options)
      (Timed (record { run = run_of e s (or_usual_workers w) (or_usual_jobs j) None; table = t }))
  Changes : (e s new k : Word) (at : ℕ) (options : List Word) (w j : Option ℕ)
      → IsCount MOST_JOBS k at → AreOptions options w j None
      → IsShape (codes "change" ∷ e ∷ s ∷ new ∷ k ∷ options)
      (Change (record {
        run = run_of e s (or_usual_workers w) (or_usual_jobs j) None;
        new = new;
        at = at;
      }))
  Traces : (e s q : Word) (options : List Word) (j : Option ℕ)
      → AreOptions options None j None
      → IsShape (codes "trace" ∷ e ∷ s ∷ q ∷ options)
      (Trace (record { run = run_of e s 1 (or_usual_jobs j) None; filter = q }))

-- the words were read as a command exactly where they are that one
abbrev pub AreReadAs : List Word → Result Command WordsFault → Type 0
AreReadAs words read = (c : Command) → (read ≡ Ok c) ↔ IsShape words c
