-- What a filter of the lines of two shows, and one without lines.
use Rattle.std.proofs.Common.{◌≡◌, ℕ, Bool, false, List, [], ◌∷◌, ◌++◌, Option, Some, None, refl}
use Rattle.std.proofs.Common.{ap, ◌∙◌}
use Rattle.std.specs.Prelude.{◌||◌, cond, slice_get}
use Rattle.std.specs.List.{filter, list_any}
use Rattle.std.specs.Option.{option_map_or}
use Rattle.std.proofs.lemmas.List.Folds.{list_any-append}
use Rattle.exchange_model.specs.declared.entry.Entry.{Entry}
use Rattle.exchange_model.specs.declared.exchange.Exchange.{Exchange}
use Rattle.source_meaning.specs.State.{State}
use Rattle.signal_trace.specs.declared.show.Show.{Show}
use Rattle.signal_trace.specs.declared.tracer.TracedJob.{TracedJob}
use Rattle.signal_trace.specs.Trace.{full_trace, is_shown, shows, trace}

either : (p : Entry → Show → Bool) (o : Option Entry) (one other : List Show)
    → option_map_or (λ e. list_any (p e) (one ++ other)) o false
    ≡ (option_map_or (λ e. list_any (p e) one) o false || option_map_or (λ e. list_any (p e) other) o false)
either p None one other = refl
either p (Some e) one other = list_any-append (p e) one other

pub shows_either : (x : Exchange) (one other : List Show) (t : TracedJob) → is_shown x (one ++ other) t ≡ (is_shown x one t || is_shown x other t)
shows_either x one other t = either (λ e. shows e t.start.job.forlopp t.number t.outcome) (slice_get x.entries t.start.job.entry) one other

pub traces_either : (x : Exchange) (limit : ℕ) (first : State) (one other : List Show)
    → trace x limit first (one ++ other) ≡ filter (λ t. is_shown x one t || is_shown x other t)
    (full_trace x limit first)
traces_either x limit first one other = λ i. filter (λ t. shows_either x one other t i) (full_trace x limit first)

nothing : (p : Entry → Show → Bool) (o : Option Entry) → option_map_or (λ e. list_any (p e) []) o false ≡ false
nothing p None = refl
nothing p (Some e) = refl

none_kept : (p : TracedJob → Bool) (ts : List TracedJob) → ((t : TracedJob) → p t ≡ false) → filter p ts ≡ []
none_kept p [] none = refl
none_kept p (t ∷ ts) none = ap (λ b. cond b (t ∷ filter p ts) (filter p ts)) (none t) ∙ none_kept p ts none

pub shows_nothing : (x : Exchange) (limit : ℕ) (first : State) → trace x limit first [] ≡ []
shows_nothing x limit first =
    none_kept (is_shown x []) (full_trace x limit first)
    (λ t. nothing (λ e. shows e t.start.job.forlopp t.number t.outcome) (slice_get x.entries t.start.job.entry))
