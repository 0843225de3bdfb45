-- The link rules and the limits, each a condition on one event, with what the surveys of all
-- blocks, the own block and the events before it say.
use Rattle.std.specs.Prelude.{ℕ, zero, suc, ◌+◌, Bool, true, false, not, ◌&&◌, ◌||◌, List, [], ◌∷◌}
use Rattle.std.specs.Prelude.{◌++◌, length, Option, Some, None, nat_eq, nat_lt, nat_le, slice_get}
use Rattle.std.specs.Str.{bytes_eq}
use Rattle.first_fault.specs.First.{any, total}
use Rattle.exchange_model.specs.Inside.{joined}
use Rattle.exchange_model.specs.declared.signal.SignalKind.{SignalKind}
use Rattle.exchange_model.specs.declared.signal.SignalKind.TheVariants.{Buffered, Outside}
use Rattle.plex_limits.specs.declared.limits.TheConstants.{MOST_SIGNALS, MOST_BLOCKS, MOST_ENTRIES}
use Rattle.plex_limits.specs.declared.limits.TheConstants.{MOST_STATEMENTS, MOST_CELLS}
use Rattle.plex_ast.specs.declared.block.Block.{Block as TreeBlock}
use Rattle.signal_types.specs.Found.{kind_in}
use Rattle.text_events.specs.Note.{Event, Note, Head, SignalWay, Open, To, Enters, Sends, Transfers}
use Rattle.text_events.specs.Note.{Signals, Block, Cells, Receives, Begins, Ends, begun}
use Rattle.text_rules.specs.Surveys.{block_named, receiver_count, receives_at, sends, enters, is_so}
use Rattle.text_rules.specs.declared.rule.LinkRule.{LinkRule}
use Rattle.text_rules.specs.declared.rule.LinkRule.TheVariants as rule

-- a signal leaves the exchange, and one starts a job

abbrev pub is_outside : Option SignalKind → Bool
is_outside (Some (Outside name count)) = true
is_outside _ = false

abbrev pub is_buffered : Option SignalKind → Bool
is_buffered (Some (Buffered name level count)) = true
is_buffered _ = false

-- what one event says: that a signal is entered

abbrev pub head_enters : List ℕ → Head → Bool
head_enters s (Enters n count) = bytes_eq n s
head_enters s _ = false

abbrev pub enters_here : List ℕ → Event → Bool
enters_here s e = head_enters s (begun e.note)

-- the numbers that have limits
pub record Amounts : Type 0 where
  pub signals : ℕ
  pub blocks : ℕ
  pub entries : ℕ
  pub statements : ℕ
  pub cells : ℕ

-- how much an event adds to each

abbrev pub signals_note : Note → ℕ
signals_note (Signals n) = n
signals_note _ = 0

abbrev pub blocks_note : Note → ℕ
blocks_note Block = 1
blocks_note _ = 0

-- an ENTER of a buffered signal is an entry
abbrev pub one_if : Bool → ℕ
one_if true = 1
one_if false = 0

abbrev pub entries_head : (List ℕ → Option SignalKind) → Head → ℕ
entries_head kind (Enters s count) = one_if (is_buffered (kind s))
entries_head kind _ = 0

-- the end of a text is a statement too
abbrev pub statements_note : Note → ℕ
statements_note (Begins here before after) = 1
statements_note Ends = 1
statements_note _ = 0

abbrev pub cells_note : Note → ℕ
cells_note (Cells n) = n
cells_note _ = 0

abbrev pub adds : (List ℕ → Option SignalKind) → Note → Amounts
adds kind note = record {
  signals = signals_note note;
  blocks = blocks_note note;
  entries = entries_head kind (begun note);
  statements = statements_note note;
  cells = cells_note note;
}

abbrev pub amounts_in : (List ℕ → Option SignalKind) → List Event → Amounts
amounts_in kind events = record {
  signals = total (λ (e : Event). (adds kind e.note).signals) events;
  blocks = total (λ (e : Event). (adds kind e.note).blocks) events;
  entries = total (λ (e : Event). (adds kind e.note).entries) events;
  statements = total (λ (e : Event). (adds kind e.note).statements) events;
  cells = total (λ (e : Event). (adds kind e.note).cells) events;
}

abbrev pub plus : Amounts → Amounts → Amounts
plus a b = record {
  signals = a.signals + b.signals;
  blocks = a.blocks + b.blocks;
  entries = a.entries + b.entries;
  statements = a.statements + b.statements;
  cells = a.cells + b.cells;
}

-- what a rule may look at besides its event
pub record KnownForLinks : Type 0 where
  -- the signal of a name
  pub kind : List ℕ → Option SignalKind
  -- how many blocks receive a signal, the number of the block of a name, and whether the block of a
  -- number receives a signal
  pub receivers : List ℕ → ℕ
  pub named : List ℕ → Option ℕ
  pub received_by : ℕ → List ℕ → Bool
  -- whether the own block receives a signal, sends it, and enters it anywhere and before
  pub received : List ℕ → Bool
  pub sent : List ℕ → Bool
  pub entered : List ℕ → Bool
  pub entered_before : List ℕ → Bool
  -- what there is of each limit before
  pub before : Amounts

-- the block of the part of a number; the first part is that of the signals
abbrev pub block_of : List TreeBlock → ℕ → Option TreeBlock
block_of blocks zero = None
block_of blocks (suc b) = slice_get blocks b

abbrev pub known_of : List SignalKind → List TreeBlock → Option TreeBlock → List Event → List Event
    → KnownForLinks
known_of signals blocks own_one all_before before = record {
  kind = kind_in signals;
  receivers = receiver_count blocks;
  named = block_named blocks;
  received_by = receives_at blocks;
  received = λ s. is_so (Rattle.text_rules.specs.Surveys.receives s) own_one;
  sent = λ s. is_so (sends s) own_one;
  entered = λ s. is_so (enters s) own_one;
  entered_before = λ s. any (enters_here s) before;
  before = amounts_in (kind_in signals) all_before;
}

abbrev pub known_in_part : List SignalKind → List TreeBlock → List (List Event) → List Event
    → List Event → KnownForLinks
known_in_part signals blocks done own before =
    known_of signals blocks (block_of blocks (length done)) (joined done ++ before) before

-- the rules

-- a test of what a statement sends and of its way
abbrev pub at_sending : (List ℕ → SignalWay → Bool) → Head → Bool
at_sending test (Sends s way count fresh) = test s way
at_sending test (Transfers s way) = test s way
at_sending test _ = false

-- no block receives what is sent, and it does not leave the exchange
abbrev pub no_receiver : KnownForLinks → List ℕ → SignalWay → Bool
no_receiver k s way = not (is_outside (k.kind s)) && nat_eq (k.receivers s) 0

-- several blocks receive it, and nothing is said of the way
abbrev pub is_open : SignalWay → Bool
is_open Open = true
is_open _ = false

abbrev pub needs_reference : KnownForLinks → List ℕ → SignalWay → Bool
needs_reference k s way = not (is_outside (k.kind s)) && (nat_lt 1 (k.receivers s) && is_open way)

-- the named block does not receive it, or there is no such block
abbrev pub is_not_received : KnownForLinks → List ℕ → Option ℕ → Bool
is_not_received k s None = true
is_not_received k s (Some b) = not (k.received_by b s)

abbrev pub is_wrong_way : KnownForLinks → List ℕ → SignalWay → Bool
is_wrong_way k s (To n) = is_not_received k s (k.named n)
is_wrong_way k s _ = false

abbrev pub not_received : KnownForLinks → List ℕ → SignalWay → Bool
not_received k s way = not (is_outside (k.kind s)) && is_wrong_way k s way

-- the block's survey does not send what it sends, or does not receive what it enters
abbrev pub not_in_survey : KnownForLinks → Head → Bool
not_in_survey k (Sends s way count fresh) = not (k.sent s)
not_in_survey k (Transfers s way) = not (k.sent s)
not_in_survey k (Enters s count) = not (k.received s)
not_in_survey k _ = false

-- the block entered it before
abbrev pub two_enters : KnownForLinks → Head → Bool
two_enters k (Enters s count) = k.entered_before s
two_enters k _ = false

-- the block enters it nowhere
abbrev pub no_enter : KnownForLinks → Note → Bool
no_enter k (Receives s) = not (k.entered s)
no_enter k _ = false

-- a number goes over its limit here, and not before
abbrev pub goes_over : ℕ → ℕ → ℕ → Bool
goes_over limit before more = nat_le before limit && nat_lt limit (before + more)

abbrev pub one_goes_over : Amounts → Amounts → Bool
one_goes_over a more =
    goes_over MOST_SIGNALS a.signals more.signals
    || (goes_over MOST_BLOCKS a.blocks more.blocks
    || (goes_over MOST_ENTRIES a.entries more.entries
    || (goes_over MOST_STATEMENTS a.statements more.statements
    || goes_over MOST_CELLS a.cells more.cells)))

abbrev pub over_limit : KnownForLinks → Note → Bool
over_limit k note = one_goes_over k.before (adds k.kind note)

abbrev pub broken : LinkRule → KnownForLinks → Note → Bool
broken rule.NoReceiver k note = at_sending (no_receiver k) (begun note)
broken rule.NeedsReference k note = at_sending (needs_reference k) (begun note)
broken rule.NotReceived k note = at_sending (not_received k) (begun note)
broken rule.NotInSurvey k note = not_in_survey k (begun note)
broken rule.TwoEnters k note = two_enters k (begun note)
broken rule.NoEnter k note = no_enter k note
broken rule.Limit k note = over_limit k note

abbrev pub number_of : LinkRule → ℕ
number_of rule.NoReceiver = 1
number_of rule.NeedsReference = 2
number_of rule.NotReceived = 3
number_of rule.NotInSurvey = 4
number_of rule.TwoEnters = 5
number_of rule.NoEnter = 6
number_of rule.Limit = 7

abbrev pub all_rules : List LinkRule
all_rules = rule.NoReceiver ∷ rule.NeedsReference ∷ rule.NotReceived ∷ rule.NotInSurvey
    ∷ rule.TwoEnters ∷ rule.NoEnter ∷ rule.Limit ∷ []
