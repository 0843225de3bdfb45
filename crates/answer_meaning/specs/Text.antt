-- The lines that are written instead of a report, and the answers to refused input.
use Rattle.std.specs.Prelude.{◌≡◌, List, ℕ, [], ◌∷◌, ◌++◌, codes, slice_get}
use Rattle.std.specs.Fmt.{decimal}
use Rattle.std.specs.List.{flat_map}
use Rattle.std.specs.Option.{option_map_or}
use Rattle.exchange_model.specs.declared.exchange.Exchange.{Exchange}
use Rattle.exchange_model.specs.Cells.{Placed, placed_files}
use Rattle.exchange_model.specs.Names.{name_of_block, name_of_entry}
use Rattle.block_change.specs.declared.misfit.Misfit.{Misfit}
use Rattle.block_change.specs.declared.misfit.Misfit.TheVariants.{Entry as EntryMisfit}
use Rattle.block_change.specs.declared.misfit.Misfit.TheVariants.{File as FileMisfit}
use Rattle.flow_points.specs.declared.fact.Fact.{Fact}
use Rattle.certificate_text.specs.declared.certificate.Shape.{Shape}
use Rattle.certificate_text.specs.Text.{fact_line}
use Rattle.text_rules.specs.declared.rule.LinkRule.{LinkRule}
use Rattle.text_rules.specs.declared.rule.LinkRule.TheVariants as link
use Rattle.answer_meaning.specs.declared.fault.CertificateFault.{CertificateFault}
use Rattle.answer_meaning.specs.declared.fault.CertificateFault.TheVariants as certificate
use Rattle.answer_meaning.specs.declared.fault.Rule.{Rule}
use Rattle.answer_meaning.specs.declared.fault.Rule.TheVariants as rule
use Rattle.signal_file.specs.declared.fault.SignalsFault.{SignalsFault}
use Rattle.job_table.specs.declared.fault.TableFault.{TableFault}
use Rattle.signal_trace.specs.declared.fault.FilterFault.{FilterFault}
use Rattle.signal_file.specs.Rules.{signals_rule_name}
use Rattle.job_table.specs.Rules.{table_rule_name}
use Rattle.signal_trace.specs.Filter.{filter_rule_name}
use Rattle.answer_meaning.specs.declared.fault.FileFault.{FileFault}
use Rattle.answer_meaning.specs.declared.fault.FileFault.TheVariants as file
use Rattle.answer_meaning.specs.declared.fault.SourceFault.{SourceFault}
use Rattle.answer_meaning.specs.declared.fault.Which.{Which}
use Rattle.answer_meaning.specs.declared.fault.Which.TheVariants.{First, New}
use Rattle.answer_meaning.specs.declared.answer.Answer.{Answer}
use Rattle.command_words.specs.declared.status.Status.TheVariants as status

-- the end of a line
abbrev pub LF : List ℕ
LF = 10 ∷ []

-- these words, the line's number, and the rule's word
abbrev pub rule_line : List ℕ → ℕ → List ℕ → List ℕ
rule_line words line rule = words ++ decimal line ++ codes " " ++ rule ++ LF

-- `N` and a number
abbrev pub numbered_name : ℕ → List ℕ
numbered_name number = codes "N" ++ decimal number

abbrev pub link_name : LinkRule → List ℕ
link_name link.NoReceiver = codes "NORECEIVER"
link_name link.NeedsReference = codes "NEEDSREFERENCE"
link_name link.NotReceived = codes "NOTRECEIVED"
link_name link.NotInSurvey = codes "NOTINSURVEY"
link_name link.TwoEnters = codes "TWOENTERS"
link_name link.NoEnter = codes "NOENTER"
link_name link.Limit = codes "LIMIT"

abbrev pub rule_name : Rule → List ℕ
rule_name rule.TooLarge = codes "TOOLARGE"
rule_name rule.BadByte = codes "BADBYTE"
rule_name rule.BadNumber = codes "BADNUMBER"
rule_name rule.LongName = codes "LONGNAME"
rule_name rule.Unexpected = codes "UNEXPECTED"
rule_name rule.Ended = codes "ENDED"
rule_name rule.TooDeep = codes "TOODEEP"
rule_name (rule.Numbered number) = numbered_name number
rule_name (rule.Link r) = link_name r

-- a space, then a number
abbrev pub spaced : ℕ → List ℕ
spaced n = codes " " ++ decimal n

-- the six numbers of an exchange's shape
abbrev pub shape_numbers : Shape → List ℕ
shape_numbers s = s.signals ∷ s.blocks ∷ s.points ∷ s.cells ∷ s.entries ∷ s.references ∷ []

-- the exchange's numbers, then the certificate's
abbrev pub other_exchange : Shape → Shape → List ℕ
other_exchange x c =
    codes "CERTIFICATE WRONGEXCHANGE" ++ flat_map spaced (shape_numbers x) ++ codes " AND"
    ++ flat_map spaced (shape_numbers c) ++ LF

-- these words, then the line of a fact
abbrev pub fact_text : List ℕ → Fact → List ℕ
fact_text words f = words ++ fact_line f ++ LF

-- the first fault of a certificate
abbrev pub certificate_text : CertificateFault → List ℕ
certificate_text certificate.TooLarge = rule_line (codes "CERTIFICATE line ") 0 (codes "TOOLARGE")
certificate_text (certificate.BadText line) =
    rule_line (codes "CERTIFICATE line ") line (codes "BADTEXT")
certificate_text (certificate.WrongExchange x c) = other_exchange x c
certificate_text (certificate.Strange f) = fact_text (codes "CERTIFICATE STRANGE ") f
certificate_text (certificate.Missing f) = fact_text (codes "CERTIFICATE MISSING ") f

-- the words before the line of a fault of an exchange text
abbrev pub source_words : Which → List ℕ
source_words First = codes "SOURCE line "
source_words New = codes "NEWSOURCE line "

-- the answer to the first fault of an exchange text
unfoldable pub source_refusal : Which → SourceFault → Answer
source_refusal which f = record {
  status = status.Source;
  text = rule_line (source_words which) f.line (rule_name f.rule);
}

unfoldable pub signals_refusal : SignalsFault → Answer
signals_refusal f = record {
  status = status.Signals;
  text = rule_line (codes "SIGNALS line ") f.line (signals_rule_name f.rule);
}

unfoldable pub certificate_refusal : CertificateFault → Answer
certificate_refusal f = record { status = status.Certificate; text = certificate_text f }

unfoldable pub table_refusal : TableFault → Answer
table_refusal f = record {
  status = status.Table;
  text = rule_line (codes "TABLE line ") f.line (table_rule_name f.rule);
}

unfoldable pub filter_refusal : FilterFault → Answer
filter_refusal f = record {
  status = status.Filter;
  text = rule_line (codes "FILTER line ") f.line (filter_rule_name f.rule);
}

-- `BLOCK.FILE` for a file's number
abbrev pub file_words : Exchange → ℕ → List ℕ
file_words x n = option_map_or (λ (p : Placed). name_of_block x.blocks p.block ++ codes "."
    ++ p.file.name) (slice_get (placed_files x.blocks) n) []

-- `CHANGE ENTRY SIG BLOCK` or `CHANGE FILE BLOCK.FILE`: what the other exchange lacks
abbrev pub misfit_text : Exchange → Misfit → List ℕ
misfit_text x (EntryMisfit e) = codes "CHANGE ENTRY " ++ name_of_entry x e ++ LF
misfit_text x (FileMisfit f) = codes "CHANGE FILE " ++ file_words x f ++ LF

-- the refusal of a new exchange that lacks something
abbrev pub misfit_refusal : Exchange → Misfit → Answer
misfit_refusal old m = record { status = status.Change; text = misfit_text old m }

-- the refusal of a file's fault; the line of a misfit has names of the exchange that has the part
abbrev pub IsRefusalOf : FileFault → Answer → Type 0
IsRefusalOf (file.Source which f) a = source_refusal which f ≡ a
IsRefusalOf (file.Signals f) a = signals_refusal f ≡ a
IsRefusalOf (file.Certificate f) a = certificate_refusal f ≡ a
IsRefusalOf (file.Table f) a = table_refusal f ≡ a
IsRefusalOf (file.Filter f) a = filter_refusal f ≡ a
IsRefusalOf (file.Change m) a = (old : Exchange) × (misfit_refusal old m ≡ a)

-- `CHANGE job K`
abbrev pub change_text : ℕ → List ℕ
change_text at = codes "CHANGE job " ++ decimal at ++ LF

-- the usage line
unfoldable pub usage_text : List ℕ
usage_text = codes "usage: plex run E S [--workers N] [--jobs N] [--cert F] | plex single E S [--jobs N] | plex analyse E | plex certify E | plex list E | plex load N | plex timed E S T [--workers N] [--jobs N] | plex change E S E2 K [--workers N] [--jobs N] | plex trace E S Q [--jobs N]" ++ LF
