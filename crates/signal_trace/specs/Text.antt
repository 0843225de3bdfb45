-- The text of traced jobs: for each of them its line, and then a line for each signal that it sent.
--
-- What an exchange does not have is named by no bytes, as in a report.
use Rattle.std.specs.Prelude.{ℕ, true, List, ◌++◌, codes, flat_map}
use Rattle.std.specs.Fmt.{decimal}
use Rattle.exchange_model.specs.declared.exchange.Exchange.{Exchange}
use Rattle.job_types.specs.declared.outbox.SendTo.{SendTo}
use Rattle.job_types.specs.declared.outbox.SendTo.TheVariants.{Outside, Queue}
use Rattle.job_types.specs.declared.outbox.Sent.{Sent}
use Rattle.job_types.specs.declared.outcome.Outcome.{Outcome}
use Rattle.job_types.specs.declared.outcome.Outcome.TheVariants.{Ended, Faulted}
use Rattle.report_text.specs.Names.{fault_word}
use Rattle.exchange_model.specs.Names.{name_of_entry, name_of_signal}
use Rattle.report_text.specs.Report.{value_words, written}
use Rattle.signal_trace.specs.declared.tracer.TracedJob.{TracedJob}

-- `ENDED`, or the word of the fault
abbrev pub outcome_word : Outcome → List ℕ
outcome_word Ended = codes "ENDED"
outcome_word (Faulted fault point) = fault_word fault

-- `JOB j SIG BLOCK v1 v2 Fn ENDED`: the job's number, its entry, its values, its forlopp and how it
-- ended
abbrev pub job_line : Exchange → TracedJob → List ℕ
job_line x t =
    codes "JOB " ++ decimal t.number ++ codes " " ++ name_of_entry x t.start.job.entry
    ++ value_words t.start.job.values ++ codes " F" ++ decimal t.start.job.forlopp ++ codes " "
    ++ outcome_word t.outcome

-- where a signal goes: to an entry, or out of the exchange
abbrev pub place_words : Exchange → SendTo → List ℕ
place_words x (Queue entry level fresh) = name_of_entry x entry
place_words x (Outside signal) = name_of_signal x.signals signal ++ codes " OUTSIDE"

-- the forlopp of a signal: that of its job, or a new one
abbrev pub forlopp_word : ℕ → SendTo → List ℕ
forlopp_word forlopp (Queue entry level true) = codes "NEW"
forlopp_word forlopp _ = codes "F" ++ decimal forlopp

-- `SEND j SIG BLOCK v1 Fn`: the job's number, where the signal goes, its values and its forlopp
abbrev pub send_line : Exchange → (number forlopp : ℕ) → Sent → List ℕ
send_line x number forlopp s =
    codes "SEND " ++ decimal number ++ codes " " ++ place_words x s.to ++ value_words s.values
    ++ codes " " ++ forlopp_word forlopp s.to

abbrev pub send_text : Exchange → (number forlopp : ℕ) → Sent → List ℕ
send_text x number forlopp s = written (send_line x number forlopp s)

-- the signals that a job sent, in order
abbrev pub sends_text : Exchange → TracedJob → List ℕ
sends_text x t = flat_map (send_text x t.number t.start.job.forlopp) t.sends

-- a job, and the signals that it sent
abbrev pub job_text : Exchange → TracedJob → List ℕ
job_text x t = written (job_line x t) ++ sends_text x t

-- the text of these jobs
unfoldable pub trace_text : Exchange → List TracedJob → List ℕ
trace_text x ts = flat_map (job_text x) ts
