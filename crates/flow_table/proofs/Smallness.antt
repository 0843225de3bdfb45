-- What a way says is small: names are few, and the number of an answer is too.
use Rattle.std.proofs.Common.{◌≡◌, ℕ, ◌+◌, ◌<◌, ◌≤◌, ◌^◌, length, Option, Some, slice_get, refl}
use Rattle.std.proofs.Common.{sym, subst, arith}
use Rattle.std.specs.List.{AllByRecursion}
use Rattle.std.proofs.lemmas.Option.{slice_get_within}
use Rattle.plex_limits.specs.declared.limits.TheConstants.{MOST_VALUES}
use Rattle.plex_num.proofs.Lists.{all_at}
use Rattle.exchange_model.specs.declared.exchange.Exchange.{Exchange}
use Rattle.exchange_model.specs.declared.signal.SignalKind.{SignalKind}
use Rattle.exchange_model.specs.declared.signal.SignalKind.TheVariants.{Buffered, Direct, Combined}
use Rattle.exchange_model.specs.declared.signal.SignalKind.TheVariants.{Answer}
use Rattle.exchange_model.specs.Fits.{Scope, EnterFits, AnswerFits, KindNames}
use Rattle.exchange_model.specs.Kept.{IsExchange, signal_count, scope_of}
use Rattle.source_meaning.specs.Named.{Layer}
use Rattle.source_meaning.specs.Rests.{IsOfBlock}
use Rattle.flow_points.specs.Places.{Place}
use Rattle.flow_table.specs.declared.way.Way.{Way}
use Rattle.flow_table.specs.Shapes.{Shape, Stays, Assigns, Finds, TakesGiven, TakesAnswer, Starts}
use Rattle.flow_table.specs.Shapes.{Transfers, Asks, GivesAnswer}
use Rattle.flow_table.specs.Small.{IsSmall}
use Rattle.flow_table.specs.Ways.{ways_of}
use Rattle.flow_table.proofs.Shaping.{each_way}

few_values : (x : Exchange) (kept : IsExchange x) (signal : ℕ) (s : SignalKind) → slice_get x.signals signal ≡ Some s → signal_count s ≤ MOST_VALUES
few_values x kept signal s there = all_at (λ s. signal_count s ≤ MOST_VALUES) x.signals signal s kept.signals.values there

enter_few : (x : Exchange) (kept : IsExchange x) (signal n : ℕ) (o : Option SignalKind) → slice_get x.signals signal ≡ o → EnterFits o n → n ≤ MOST_VALUES
enter_few x kept signal n (Some (Buffered name level count)) there
    fits = (let few = few_values x kept signal (Buffered name level count) there in omega (arith, fits, few))
enter_few x kept signal n (Some (Direct name count)) there fits = (let few = few_values x kept signal (Direct name count) there in omega (arith, fits, few))
enter_few x kept signal n (Some (Combined name count answer)) there
    fits = (let few = few_values x kept signal (Combined name count answer) there in omega (arith, fits, few))
enter_few x kept signal n _ there fits = absurd fits

answer_few : (x : Exchange) (kept : IsExchange x) (signal n : ℕ) (o : Option SignalKind) → slice_get x.signals signal ≡ o → AnswerFits o n → n ≤ MOST_VALUES
answer_few x kept signal n (Some (Answer name count combined)) there
    fits = (let few = few_values x kept signal (Answer name count combined) there in omega (arith, fits, few))
answer_few x kept signal n _ there fits = absurd fits

shape_small : (x : Exchange) (kept : IsExchange x) (s : Scope) → s.signals ≡ x.signals → (l : Layer) → KindNames s l → (w : Way) → Shape x l w → IsSmall w.how
shape_small x kept s same l names w (Stays is) = subst IsSmall (sym is) tt
shape_small x kept s same l names w (Assigns temp e own is) = subst IsSmall (sym is) tt
shape_small x kept s same l names w (Finds temp is) = subst IsSmall (sym is) tt
shape_small x kept s same l names w (TakesGiven signal temps kind is) =
    let fits = subst (λ (k : Layer). KindNames s k) kind names in
    subst IsSmall (sym is) (enter_few x kept signal (length temps) (slice_get x.signals signal) refl
    (subst (λ ss. EnterFits (slice_get ss signal) (length temps)) same fits.0))
shape_small x kept s same l names w (TakesAnswer answer temps kind is) =
    let fits = subst (λ (k : Layer). KindNames s k) kind names in
    subst IsSmall (sym is) (answer_few x kept answer (length temps) (slice_get x.signals answer) refl
    (subst (λ ss. AnswerFits (slice_get ss answer) (length temps)) same fits.0))
shape_small x kept s same l names w (Starts values own is) = subst IsSmall (sym is) tt
shape_small x kept s same l names w (Transfers count is) = subst IsSmall (sym is) tt
shape_small x kept s same l names w (Asks signal name count answer values there own is) =
    let next = (kept.signals.answers signal (Combined name count answer) there).0 in
    let below = slice_get_within x.signals signal (Combined name count answer) there in
    let few = kept.signals.few in
    subst IsSmall (sym is) (let small : answer + 1 < 2 ^ 32 = omega (arith, next, below, few) in small)
shape_small x kept s same l names w (GivesAnswer answer values kind is to) = subst IsSmall (sym is) tt

pub ways_small : (x : Exchange) (at : Place) → IsExchange x → IsOfBlock x at.block at.layer → AllByRecursion (λ (w : Way). IsSmall w.how) (ways_of x at)
ways_small x at kept h = each_way x at (λ w. IsSmall w.how) (shape_small x kept (scope_of x at.block h.block) refl at.layer h.fits.names)
