-- The jobs that a filter shows, turn by turn, and their text.
use Rattle.std.proofs.Common.{◌≡◌, ℕ, true, false, List, [], ◌∷◌, ◌++◌, refl, sym, ap, ◌∙◌}
use Rattle.std.proofs.Common.{if◌then◌else◌, zero, suc, ◌+◌, Option, Some, None, append_assoc}
use Rattle.std.proofs.Common.{arith, ◌≤◌, map}
use Rattle.std.proofs.lemmas.List.{append-nil, map-append}
use Rattle.std.proofs.lemmas.List.Concat.{flat_map-append}
use Rattle.exchange_model.specs.declared.exchange.Exchange.{Exchange}
use Rattle.signal_trace.specs.declared.show.Show.{Show}
use Rattle.signal_trace.specs.declared.tracer.TracedJob.{TracedJob}
use Rattle.signal_trace.specs.Text.{job_text, trace_text}
use Rattle.signal_trace.specs.Trace.{is_shown, first_jobs, next_job, trace, traced, full_trace}
use Rattle.signal_trace.specs.Turns.{one_if_shown, shown_next, told}
use Rattle.std.specs.List.{cons_option, filter, filter_map, range_with_len}
use Rattle.std.specs.Option.{option_map, option_map_or}
use Rattle.std.proofs.lemmas.List.Elements.{filter-append, filter_map-append}
use Rattle.job_types.specs.declared.job.JobStart.{JobStart}
use Rattle.source_meaning.specs.SingleRun.{after, jobs_at_end, next_start, end_state, ending_at}
use Rattle.source_meaning.specs.State.{State}
use Rattle.exchange_run.specs.Runs.{left_by, told_next, told_of}
use Rattle.exchange_run.proofs.Turning.{counted, some_start}
use Rattle.signal_trace.specs.declared.tracer.Tracer.{Tracer}
use Rattle.exchange_run.proofs.Ending.{before_end}

pub none_told : (x : Exchange) → trace_text x [] ≡ []
unfolding trace_text
none_told x = refl

pub told_both : (x : Exchange) (ts us : List TracedJob) → trace_text x (ts ++ us) ≡ trace_text x ts ++ trace_text x us
unfolding trace_text
told_both x ts us = flat_map-append (job_text x) ts us

one_told : (x : Exchange) (t : TracedJob) → trace_text x (t ∷ []) ≡ job_text x t
unfolding trace_text
one_told x t = append-nil (job_text x t)

-- a job that no line shows
pub told_none : (x : Exchange) (ls : List Show) (t : TracedJob) (text : List ℕ) → is_shown x ls t ≡ false → text ≡ text ++ trace_text x (one_if_shown x ls t)
told_none x ls t text is =
    sym (ap (λ b. text ++ trace_text x (if b then t ∷ [] else [])) is ∙ ap (λ s. text ++ s) (none_told x) ∙ append-nil text)

-- a job that some line shows
pub told_one : (x : Exchange) (ls : List Show) (t : TracedJob) (text more : List ℕ) → is_shown x ls t ≡ true
    → more ≡ text ++ job_text x t → more ≡ text ++ trace_text x (one_if_shown x ls t)
told_one x ls t text more is wrote =
    wrote ∙ sym (ap (λ b. text ++ trace_text x (if b then t ∷ [] else [])) is ∙ ap (λ s. text ++ s) (one_told x t))

-- ## Turn by turn

-- one more number at the end of a range
pub range_more : (a n : ℕ) → range_with_len a (suc n) ≡ range_with_len a n ++ (a + n) ∷ []
range_more a zero = let same : a ≡ a + 0 = omega arith in ap (λ (k : ℕ). k ∷ []) same
range_more a (suc n) =
    let same : a + 1 + n ≡ a + suc n = omega arith in
    ap (λ (ks : List ℕ). a ∷ ks) (range_more (a + 1) n ∙ ap (λ (k : ℕ). range_with_len (a + 1) n ++ k ∷ []) same)

-- one more job is the one that begins behind the others
pub jobs_more : (x : Exchange) (first : State) (n : ℕ) → first_jobs x first (suc n) ≡ first_jobs x first n ++ cons_option (next_job x (after x first n)) []
unfolding first_jobs
jobs_more x first n =
    let same : 0 + n ≡ n = omega arith in
    ap (filter_map (λ i. next_job x (after x first i))) (range_more 0 n ∙ ap (λ (k : ℕ). range_with_len 0 n ++ k ∷ []) same)
    ∙ filter_map-append (λ i. next_job x (after x first i)) (range_with_len 0 n) (n ∷ [])

one_filtered : (x : Exchange) (ls : List Show) (o : Option TracedJob) → filter (is_shown x ls) (cons_option o []) ≡ option_map_or (one_if_shown x ls) o []
one_filtered x ls None = refl
one_filtered x ls (Some t) = refl

shown_more : (x : Exchange) (first : State) (ls : List Show) (n : ℕ)
    → filter (is_shown x ls) (first_jobs x first n)
    ++ shown_next x ls (after x first n) ≡ filter (is_shown x ls) (first_jobs x first (suc n))
shown_more x first ls n =
    sym (ap (filter (is_shown x ls)) (jobs_more x first n)
    ∙ filter-append (is_shown x ls) (first_jobs x first n) (cons_option (next_job x (after x first n)) [])
    ∙ ap (λ ts. filter (is_shown x ls) (first_jobs x first n) ++ ts) (one_filtered x ls (next_job x (after x first n))))

-- where no job is shown, the text stays
unchanged : (x : Exchange) (t : Tracer) → t ≡ record t { text = t.text ++ trace_text x [] }
unchanged x t = λ i. record t { text = sym (ap (λ s. t.text ++ s) (none_told x) ∙ append-nil t.text) i }

next_told : (x : Exchange) (s : State) (t : Tracer) → told_next told x s t ≡ record t { text = t.text ++ trace_text x (shown_next x t.shows.now s) }
next_told x s t = by (next_start s)
  where
    by : (o : Option JobStart) → option_map_or (λ start. told t x (s.ended + 1) start (left_by x start s.store)) o t
        ≡ record t {
          text = t.text ++ trace_text x
              (option_map_or (one_if_shown x t.shows.now)
              (option_map (λ start. traced (s.ended + 1) start (left_by x start s.store)) o) []);
        }
    by None = unchanged x t
    by (Some start) = refl

-- a tracer that was told of the first jobs has the text of those that are shown
told_text : (x : Exchange) (first : State) (n : ℕ) (t : Tracer)
    → told_of told x first n t ≡ record t {
      text = t.text
          ++ trace_text x (filter (is_shown x t.shows.now) (first_jobs x first n));
    }
unfolding told_of first_jobs
told_text x first zero t = unchanged x t
told_text x first (suc n) t =
    let ls = t.shows.now in
    let so_far = filter (is_shown x ls) (first_jobs x first n) in
    let next = shown_next x ls (after x first n) in
    let joined : t.text ++ trace_text x so_far ++ trace_text x next ≡ t.text ++ trace_text x (filter (is_shown x ls) (first_jobs x first (suc n))) =
    append_assoc t.text (trace_text x so_far) (trace_text x next)
    ∙ ap (λ s. t.text ++ s) (sym (told_both x so_far next) ∙ ap (trace_text x) (shown_more x first ls n)) in
    ap (told_next told x (after x first n)) (told_text x first n t)
    ∙ next_told x (after x first n) (record t { text = t.text ++ trace_text x so_far })
    ∙ (λ i. record t { text = joined i })

-- at the end of a run that begins before the first job has ended, it has the text of the trace
pub told_all : (x : Exchange) (first : State) (limit : ℕ) (ls : List Show) (t u : Tracer) → first.ended ≡ 0
    → t.text ≡ [] → t.shows.now ≡ ls → u ≡ told_of told x first (jobs_at_end x limit first) t
    → u.text ≡ trace_text x (trace x limit first ls)
told_all x first limit ls t u none empty lines is =
    let n = jobs_at_end x limit first in
    ap (λ (w : Tracer). w.text) (is ∙ told_text x first n t)
    ∙ (λ i. empty i ++ trace_text x (filter (is_shown x (lines i)) (first_jobs x first n)))
    ∙ ap (λ k. trace_text x (filter (is_shown x ls) (first_jobs x first k))) (sym (counted x first none limit n (omega arith)))

-- ## Each job that ends is one of the full trace

-- where the run goes on, a job begins
one_number : (x : Exchange) (s : State) (limit : ℕ) → ending_at limit s ≡ None
    → map (λ (t : TracedJob). t.number) (cons_option (next_job x s) []) ≡ (s.ended + 1) ∷ []
one_number x s limit goes =
    let some = some_start s limit goes in
    ap (λ o. map (λ (t : TracedJob). t.number) (cons_option (option_map (λ start. traced (s.ended + 1) start (left_by x start s.store)) o) [])) some.1

numbers : (x : Exchange) (s : State) (limit n : ℕ) → s.ended ≡ 0 → n ≤ jobs_at_end x limit s
    → map (λ (t : TracedJob). t.number) (first_jobs x s n) ≡ range_with_len 1 n
unfolding first_jobs
numbers x s limit zero none le = refl
numbers x s limit (suc n) none le =
    let number : TracedJob → ℕ = λ t. t.number in
    let count = counted x s none limit n (omega (arith, le)) in
    let next : (after x s n).ended + 1 ≡ 1 + n = omega (arith, count) in
    ap (map number) (jobs_more x s n)
    ∙ map-append number (first_jobs x s n) (cons_option (next_job x (after x s n)) [])
    ∙ ap (λ ns. ns ++ map number (cons_option (next_job x (after x s n)) [])) (numbers x s limit n none (omega (arith, le)))
    ∙ ap (λ ns. range_with_len 1 n ++ ns) (one_number x (after x s n) limit (before_end x s limit n (omega (arith, le))) ∙ ap (λ (k : ℕ). k ∷ []) next)
    ∙ sym (range_more 1 n)

pub all_numbered : (x : Exchange) (limit : ℕ) (s : State) → s.ended ≡ 0
    → map (λ (t : TracedJob). t.number) (full_trace x limit s) ≡ range_with_len 1 (end_state x limit s).ended
all_numbered x limit s none =
    let count = counted x s none limit (jobs_at_end x limit s) (omega arith) in
    numbers x s limit (end_state x limit s).ended none (omega (arith, count))
