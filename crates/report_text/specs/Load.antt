-- The summary of a load, line by line: how many calls, ended jobs, signals that left the exchange,
-- released forlopps and lost lines there were, and how the run ended.
use Rattle.std.specs.Prelude.{ℕ, Bool, true, false, List, [], ◌∷◌, ◌++◌, codes}
use Rattle.std.specs.List.{count_by}
use Rattle.std.specs.Fmt.{decimal}
use Rattle.source_meaning.specs.SingleRun.{Ending}
use Rattle.source_meaning.specs.State.{RunEvent, Lost, Out, Release, Restart, State}
use Rattle.report_text.specs.Report.{end_line, jobs_line, text_of}

abbrev pub is_out : RunEvent → Bool
is_out (Out job signal values forlopp) = true
is_out _ = false

abbrev pub is_release : RunEvent → Bool
is_release (Release forlopp job fault point jobs records) = true
is_release _ = false

abbrev pub is_lost : RunEvent → Bool
is_lost (Lost line) = true
is_lost _ = false

abbrev pub load_lines : ℕ → State → Ending → List (List ℕ)
load_lines calls s ending =
    (codes "LOAD " ++ decimal calls)
    ∷ jobs_line s.ended
    ∷ (codes "OUTS " ++ decimal (count_by is_out s.events))
    ∷ (codes "RELEASES " ++ decimal (count_by is_release s.events))
    ∷ (codes "LOST " ++ decimal (count_by is_lost s.events))
    ∷ end_line ending
    ∷ []

-- the text of the summary
unfoldable pub load_text : ℕ → State → Ending → List ℕ
load_text calls s ending = text_of (load_lines calls s ending)
