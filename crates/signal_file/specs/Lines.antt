-- The lines of a signal file, or its first fault.
--
-- Each line is looked at behind all lines before it, those that are skipped too, so that it has
-- their number. The first faulty line decides.
use Rattle.std.specs.Prelude.{◌≡◌, ℕ, List, [], ◌∷◌, ◌++◌, Result, Ok, Err}
use Rattle.std.specs.Str.Lines.{lines}
use Rattle.std.specs.List.{cons_option}
use Rattle.exchange_model.specs.declared.exchange.Exchange.{Exchange}
use Rattle.signal_file.specs.declared.fault.SignalsFault.{SignalsFault}
use Rattle.signal_file.specs.declared.line.Line.{Line}
use Rattle.signal_file.specs.Rules.{added, and_then, before_of}

-- the signal lines of these lines, which stand behind those before
unfoldable pub lines_behind : Exchange → List (List ℕ) → List (List ℕ)
    → Result (List Line) SignalsFault
lines_behind x before [] = Ok []
lines_behind x before (line ∷ rest) =
    and_then (added x (before_of before) line)
    (λ first. and_then (lines_behind x (before ++ line ∷ []) rest)
    (λ ls. Ok (cons_option first ls)))

-- the signal lines of a text, or its first fault
abbrev pub signal_lines : Exchange → List ℕ → Result (List Line) SignalsFault
signal_lines x text = lines_behind x [] (lines text)

-- where the lines before a line are right, its first fault is that of all lines, whatever stands
-- behind it
abbrev pub FirstFaultyDecides : Exchange → Type 0
FirstFaultyDecides x = (front rest : List (List ℕ)) (line : List ℕ) (list : List Line)
    (f : SignalsFault) → lines_behind x [] front ≡ Ok list → added x (before_of front) line ≡ Err f
    → lines_behind x [] (front ++ line ∷ rest) ≡ Err f
