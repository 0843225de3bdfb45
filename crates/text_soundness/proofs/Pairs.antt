-- A combined SEND and the RETRIEVE of its answer: what neighbours in a list of events say of typed
-- statements.
use Rattle.std.proofs.Common.{unwrap_or, ◌≡◌, ℕ, Bool, false, not, ◌&&◌, List, Some, None, Option}
use Rattle.std.proofs.Common.{is_some, refl, sym, ap, nat_eq, slice_get}
use Rattle.std.proofs.lemmas.Bool.{eqb-true, not-false}
use Rattle.exchange_model.specs.declared.signal.SignalKind.{SignalKind}
use Rattle.exchange_model.specs.declared.signal.SignalKind.TheVariants.{Buffered, Direct, Combined}
use Rattle.exchange_model.specs.declared.signal.SignalKind.TheVariants.{Answer, Outside}
use Rattle.exchange_model.specs.Fits.{answer_of as answer_awaited}
use Rattle.signal_types.specs.Found.{number_in, kind_in, kind_at}
use Rattle.text_events.specs.Note.{Head, Nothing, Other, Enters, Sends, Retrieves, Returns}
use Rattle.text_events.specs.Note.{Transfers}
use Rattle.text_events.specs.Note.{Nothing, Other, Enters, Sends, Retrieves, Returns}
use Rattle.text_events.specs.declared.role.Role.TheVariants.{Sent}
use Rattle.text_rules.specs.Blocks.{answer_of, same_number, retrieves, asks, apart, stands}

abbrev pub signal_in : Option ℕ → ℕ
signal_in o = unwrap_or o 0

-- the answer that a statement asks for, and the answer that one retrieves
abbrev pub asked : List SignalKind → Head → Option ℕ
asked signals (Sends n way count fresh) = answer_of (kind_in signals n)
asked signals _ = None

abbrev pub retrieved_by : List SignalKind → Head → Option ℕ
retrieved_by signals (Retrieves n count) = Some (signal_in (number_in signals n))
retrieved_by signals _ = None

-- what one asks for, the next retrieves
abbrev pub Meet : List SignalKind → Head → Head → Type 0
Meet signals before after = (is_some (asked signals before) && not (retrieves (number_in signals) (asked signals before) after)) ≡ false

-- two neighbours keep the rule, with what stands before them
abbrev pub Together : List SignalKind → Head → Head → Head → Type 0
Together signals here before after = apart (number_in signals) (kind_in signals) here before after ≡ false

pub meets_next : (signals : List SignalKind) (here before after : Head) → Together signals here before after → Meet signals here after
meets_next signals Nothing before after h = refl
meets_next signals Other before after h = refl
meets_next signals (Enters n count) before after h = refl
meets_next signals (Sends n way count fresh) before after h = h
meets_next signals (Retrieves n count) before after h = refl
meets_next signals (Returns n count) before after h = refl
meets_next signals (Transfers n way) before after h = refl

none_asked : (o : Option ℕ) → (is_some o && not false) ≡ false → o ≡ None
none_asked None h = refl
none_asked (Some a) h = cc

-- nothing is asked for before what retrieves nothing
pub asks_nothing : (signals : List SignalKind) (before after : Head) → retrieved_by signals after ≡ None
    → Meet signals before after → asked signals before ≡ None
asks_nothing signals before Nothing none h = none_asked (asked signals before) h
asks_nothing signals before Other none h = none_asked (asked signals before) h
asks_nothing signals before (Enters n count) none h = none_asked (asked signals before) h
asks_nothing signals before (Sends n way count fresh) none h = none_asked (asked signals before) h
asks_nothing signals before (Retrieves n count) none h = cc
asks_nothing signals before (Returns n count) none h = none_asked (asked signals before) h
asks_nothing signals before (Transfers n way) none h = none_asked (asked signals before) h

same_both : (a b : Option ℕ) → not (same_number a b) ≡ false → Some (signal_in b) ≡ a
same_both (Some x) (Some y) h = ap Some (sym (eqb-true x y (not-false (nat_eq x y) h)))
same_both (Some x) None h = cc
same_both None (Some y) h = cc
same_both None None h = cc

asks_it : (signals : List SignalKind) (before : Head) (answer : Option ℕ)
    → not (asks (kind_in signals) answer before) ≡ false → Some (signal_in answer) ≡ asked signals before
asks_it signals Nothing answer h = cc
asks_it signals Other answer h = cc
asks_it signals (Enters n count) answer h = cc
asks_it signals (Sends n way count fresh) answer h = same_both (answer_of (kind_in signals n)) answer h
asks_it signals (Retrieves n count) answer h = cc
asks_it signals (Returns n count) answer h = cc
asks_it signals (Transfers n way) answer h = cc

-- a statement retrieves what the one before it asks for
pub retrieves_asked : (signals : List SignalKind) (here before after : Head) → Together signals here before after
    → Meet signals before here → retrieved_by signals here ≡ asked signals before
retrieves_asked signals Nothing before after t m = sym (asks_nothing signals before Nothing refl m)
retrieves_asked signals Other before after t m = sym (asks_nothing signals before Other refl m)
retrieves_asked signals (Enters n count) before after t m = sym (asks_nothing signals before (Enters n count) refl m)
retrieves_asked signals (Sends n way count fresh) before after t m = sym (asks_nothing signals before (Sends n way count fresh) refl m)
retrieves_asked signals (Retrieves n count) before after t m = asks_it signals before (number_in signals n) t
retrieves_asked signals (Returns n count) before after t m = sym (asks_nothing signals before (Returns n count) refl m)
retrieves_asked signals (Transfers n way) before after t m = sym (asks_nothing signals before (Transfers n way) refl m)

same_answers : (k : Option SignalKind) → answer_awaited k ≡ answer_of k
same_answers (Some (Buffered name level count)) = refl
same_answers (Some (Direct name count)) = refl
same_answers (Some (Combined name count answer)) = refl
same_answers (Some (Answer name count of)) = refl
same_answers (Some (Outside name count)) = refl
same_answers None = refl

-- a SEND of a signal that may be sent awaits what it asks for
pub awaits_asked : (signals : List SignalKind) (n : List ℕ) (reference : Bool)
    → not (stands (Sent reference) (kind_in signals n)) ≡ false
    → answer_awaited (slice_get signals (signal_in (number_in signals n))) ≡ answer_of (kind_in signals n)
awaits_asked signals n reference h = found (number_in signals n) h
  where
    found : (o : Option ℕ) → not (stands (Sent reference) (kind_at signals o)) ≡ false
        → answer_awaited (slice_get signals (signal_in o)) ≡ answer_of (kind_at signals o)
    found (Some i) g = same_answers (slice_get signals i)
    found None g = cc
