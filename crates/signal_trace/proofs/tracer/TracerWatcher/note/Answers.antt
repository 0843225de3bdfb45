use Rattle.std.proofs.Common.{rules, ◌≡◌, ◌++◌, true, false, sym, ◌∙◌}
use Rattle.std.proofs.lemmas.Grind.{common_steps}
use Rattle.text_parts.proofs.Joined.{put_back}
use Rattle.signal_trace.specs.declared.tracer.TracedJob.{TracedJob}
use Rattle.signal_trace.specs.Text.{job_text}
use Rattle.signal_trace.specs.Trace.{traced}
use Rattle.signal_trace.proofs.Tracing.{told_none, told_one}
use Rattle.signal_trace.proofs.tracer.TracerWatcher.note.Goals as goal

pub returns-then-not-is_shown : goal.returns-then-not-is_shown
returns-then-not-is_shown c =
    let job : TracedJob = traced c.args.number c.args.start.now c.args.done.now in
    let off : c.is_shown.result ≡ false = search (rules, common_steps) in
    let same = told_none c.args.exchange.now c.args.self.now.shows.now job c.args.self.now.text (sym c.is_shown.ensures ∙ off) in
    λ i. record c.args.self.now { text = same i }

pub returns : goal.returns
returns c =
    let x = c.args.exchange.now in
    let t = c.args.self.now in
    let job : TracedJob = traced c.args.number c.args.start.now c.args.done.now in
    let on : c.is_shown.result ≡ true = search (rules, common_steps) in
    let longer : c.add_job.new.text ≡ c.take_end-end.result ++ job_text x job =
    c.in_ok-add_job.ensures ∙ (λ i. c.take_end-end.result ++ job_text x (record job { start = c.copy.ensures i; sends = c.in_ok-sends.ensures i })) in
    let wrote : c.put.new.self ≡ t.text ++ job_text x job =
    put_back t.text c.take_end-end.new.self c.take_end-end.result c.add_job.new.text (job_text x job) c.put.new.self
    c.take_end-end.ensures longer c.in_ok-put.ensures in
    let more = told_one x t.shows.now job t.text c.put.new.self (sym c.is_shown.ensures ∙ on) wrote in
    λ i. record t { text = more i }
