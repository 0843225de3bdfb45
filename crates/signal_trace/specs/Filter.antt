-- The lines of a filter, or its first fault.
--
-- Each line is looked at with its number, from 1; the lines that are skipped are counted too. The
-- first faulty line decides.
use Rattle.std.specs.Prelude.{ℕ, ◌+◌, List, [], ◌∷◌, codes, position, Option, Some, None, Result}
use Rattle.std.specs.Prelude.{Ok, if◌then◌else◌}
use Rattle.std.specs.Str.{bytes_eq}
use Rattle.std.specs.Str.Lines.{lines}
use Rattle.std.specs.List.{cons_option}
use Rattle.exchange_model.specs.declared.exchange.Exchange.{Exchange}
use Rattle.signal_file.specs.declared.directory.Directory.{Directory}
use Rattle.signal_file.specs.Form.{with}
use Rattle.signal_file.specs.Rules.{and_then, need}
use Rattle.text_lines.specs.Words.{is_skipped, words}
use Rattle.exchange_model.specs.Names.{names_of_blocks, names_of_signals}
use Rattle.signal_trace.specs.declared.fault.FilterFault.{FilterFault}
use Rattle.signal_trace.specs.declared.fault.FilterRule.{FilterRule}
use Rattle.signal_trace.specs.declared.fault.FilterRule.TheVariants.{TooLarge, BadLine}
use Rattle.signal_trace.specs.declared.fault.FilterRule.TheVariants.{UnknownBlock, UnknownSignal}
use Rattle.signal_trace.specs.declared.show.Show.{Show}
use Rattle.signal_trace.specs.Form.{Asking, asked_in}

-- the number of the name that is asked for, if one is; nothing where it is not among these names
abbrev pub sought : List (List ℕ) → Option (List ℕ) → Option (Option ℕ)
sought names None = Some None
sought names (Some name) = with (position (bytes_eq name) names) (λ number. Some (Some number))

-- the word of a rule in what is told of a fault
abbrev pub filter_rule_name : FilterRule → List ℕ
filter_rule_name TooLarge = codes "TOOLARGE"
filter_rule_name BadLine = codes "BADLINE"
filter_rule_name UnknownBlock = codes "UNKNOWNBLOCK"
filter_rule_name UnknownSignal = codes "UNKNOWNSIGNAL"

-- the fault of a line that breaks this rule
abbrev pub breach : FilterRule → ℕ → FilterFault
breach rule line = record { line = line; rule = rule }

-- what the line of this number shows that asks for this, by the names of the exchange; or its first
-- fault
unfoldable pub meaning : Directory → ℕ → Asking → Result Show FilterFault
meaning d number a =
    need (breach UnknownBlock number) (sought d.blocks a.block) (λ block.
    need (breach UnknownSignal number) (sought d.signals a.signal) (λ signal.
    Ok (record {
      block = block;
      signal = signal;
      forlopp = a.forlopp;
      from = a.from;
      upto = a.upto;
      faults = a.faults;
    })))

-- what a line adds, nothing where it is skipped; or its first fault
unfoldable pub added : Directory → ℕ → List ℕ → Result (Option Show) FilterFault
added d number line =
    (if is_skipped line then Ok None
    else need (breach BadLine number) (asked_in (words line))
    (λ a. and_then (meaning d number a) (λ l. Ok (Some l))))

-- what these lines show, the first of which has this number; or their first fault
unfoldable pub lines_from : Directory → ℕ → List (List ℕ) → Result (List Show) FilterFault
lines_from d number [] = Ok []
lines_from d number (line ∷ rest) =
    and_then (added d number line) (λ first. and_then (lines_from d (number + 1) rest)
    (λ ls. Ok (cons_option first ls)))

-- the names of an exchange, in the order of their numbers
abbrev pub names_of : Exchange → Directory
names_of x = record { signals = names_of_signals x.signals; blocks = names_of_blocks x.blocks }

-- the lines of a filter, or its first fault
abbrev pub filter_of : Exchange → List ℕ → Result (List Show) FilterFault
filter_of x text = lines_from (names_of x) 1 (lines text)
