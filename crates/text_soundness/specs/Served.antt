-- What is so of each event of a block that breaks no rule, by what the names of the whole block
-- stand for, by the signals, and by what the blocks of the text say of signals.
use Rattle.std.specs.Prelude.{◌≡◌, ℕ, true, false, ◌&&◌, List, Option, Some, is_some, nat_eq}
use Rattle.std.specs.List.{AllByRecursion}
use Rattle.plex_ast.specs.declared.block.Block.{Block}
use Rattle.exchange_model.specs.declared.signal.SignalKind.{SignalKind}
use Rattle.signal_types.specs.Found.{kind_in}
use Rattle.text_events.specs.declared.role.Meaning.{Meaning}
use Rattle.text_events.specs.declared.role.Meaning.TheVariants.{Label}
use Rattle.text_events.specs.Note.{Event, Note, Head, SignalWay, To, Uses, Reads, Refers, Goes}
use Rattle.text_events.specs.Note.{Searches, Compares, Holds, Names, Receives, Begins, Enters}
use Rattle.text_events.specs.Note.{Sends, Retrieves, Returns, Transfers}
use Rattle.text_events.specs.Named.{naming_of}
use Rattle.text_events.specs.Blocks.{block_events}
use Rattle.text_rules.specs.Surveys.{block_named, receiver_count, receives_at, sends, enters}
use Rattle.text_rules.specs.Blocks.{serves, is_plain_file, is_field_of, is_forlopp_file, stands}
use Rattle.text_rules.specs.Blocks.{other_data, is_other_kind}
use Rattle.text_rules.specs.Links.{is_outside}

-- a name that stands for a label
pub record IsLabelled (names : List ℕ → Option Meaning) (n : List ℕ) : Type 0 where
  pub number : ℕ
  pub stands : names n ≡ Some (Label number)

-- the block that a way names receives the signal
abbrev pub WayLeads : List Block → List ℕ → SignalWay → Type 0
WayLeads blocks s (To n) =
    (b : ℕ) × (block_named blocks n ≡ Some b) × (receives_at blocks b s ≡ true)
WayLeads blocks s _ = Unit {0}

-- some block receives what is sent, and the one that is named does
pub record IsSent (blocks : List Block) (s : List ℕ) (way : SignalWay) : Type 0 where
  pub received : nat_eq (receiver_count blocks s) 0 ≡ false
  pub leads : WayLeads blocks s way

-- the own survey sends it, and it arrives unless it leaves the exchange
pub record IsSending (signals : List SignalKind) (blocks : List Block) (own : Block) (s : List ℕ)
    (way : SignalWay) : Type 0 where
  pub sent : sends s own ≡ true
  pub arrives : is_outside (kind_in signals s) ≡ false → IsSent blocks s way

module _ (signals : List SignalKind) (blocks : List Block) (own : Block) where
  -- a statement's signal has as many values, begins a forlopp of its own where it may, and arrives
  abbrev pub HeadSaid : Head → Type 0
  HeadSaid (Enters n count) = other_data count (kind_in signals n) ≡ false
  HeadSaid (Sends n way count fresh) = ((other_data count (kind_in signals n) ≡ false)
      × ((fresh && is_other_kind (kind_in signals n)) ≡ false)) × IsSending signals blocks own n way
  HeadSaid (Retrieves n count) = other_data count (kind_in signals n) ≡ false
  HeadSaid (Returns n count) = other_data count (kind_in signals n) ≡ false
  HeadSaid (Transfers n way) = IsSending signals blocks own n way
  HeadSaid _ = Unit {0}

  abbrev pub Said : (List ℕ → Option Meaning) → Note → Type 0
  Said names (Uses n need) = serves need (names n) ≡ true
  Said names (Reads n need o) = serves need (names n) ≡ true
  Said names (Refers n o) = is_some (block_named blocks n) ≡ true
  Said names (Goes n) = IsLabelled names n
  Said names (Searches file) = is_plain_file (names file) ≡ true
  Said names (Compares field file) = is_field_of (names file) (names field) ≡ true
  Said names (Holds file) = is_forlopp_file (names file) ≡ true
  Said names (Names n role) = stands role (kind_in signals n) ≡ true
  Said names (Receives n) = enters n own ≡ true
  Said names (Begins here before after) = HeadSaid here
  Said names _ = Unit {0}

-- all that stands in a block
abbrev pub SaidOf : List SignalKind → List Block → Block → Type 0
SaidOf signals blocks b = AllByRecursion (λ (e : Event). Said signals blocks b
    (naming_of (block_events b)) e.note) (block_events b)
