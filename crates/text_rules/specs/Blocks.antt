-- The rules of a block: each is a condition on one event, with what the events before it, the whole
-- block, the signals and the names of blocks say.
use Rattle.std.specs.Prelude.{◌≡◌, ℕ, ◌+◌, ◌^◌, if◌then◌else◌, Bool, true, false, not, ◌&&◌, ◌||◌}
use Rattle.std.specs.Prelude.{List, [], ◌∷◌, Option, None, Some, is_some, get_or, nat_eq, nat_lt}
use Rattle.std.specs.Str.{bytes_eq}
use Rattle.std.specs.List.{list_any}
use Rattle.first_fault.specs.First.{any, count, or_else}
use Rattle.plex_limits.specs.declared.limits.TheConstants.{MOST_TEMPORARIES, MOST_OPERANDS}
use Rattle.plex_limits.specs.declared.limits.TheConstants.{MOST_RECORDS}
use Rattle.exchange_model.specs.declared.signal.SignalKind.{SignalKind}
use Rattle.exchange_model.specs.declared.signal.SignalKind.TheVariants as signal
use Rattle.exchange_model.specs.Kept.{signal_count}
use Rattle.plex_ast.specs.declared.block.Block.{Block}
use Rattle.signal_types.specs.Found.{number_in, kind_in}
use Rattle.text_events.specs.Named.{naming_of, meaning_of_note}
use Rattle.text_events.specs.declared.role.Meaning.{Meaning}
use Rattle.text_events.specs.declared.role.Meaning.TheVariants.{Variable, Temporary, File, Field}
use Rattle.text_events.specs.declared.role.Meaning.TheVariants.{Label}
use Rattle.text_events.specs.declared.role.Need.{Need}
use Rattle.text_events.specs.declared.role.Need.TheVariants as need
use Rattle.text_events.specs.declared.role.Role.{Role}
use Rattle.text_events.specs.declared.role.Role.TheVariants as role
use Rattle.text_events.specs.Note.{Event, Note, Head, Enters, Sends, Retrieves, Returns, Declares}
use Rattle.text_events.specs.Note.{Width, Init, Size, Names, Uses, Reads, Counts, Refers, Goes}
use Rattle.text_events.specs.Note.{Searches, Compares, Holds, Chooses, begun, before_begun}
use Rattle.text_events.specs.Note.{after_begun}
use Rattle.text_rules.specs.Surveys.{block_named}
use Rattle.text_rules.specs.declared.rule.BlockRule.{BlockRule}
use Rattle.text_rules.specs.declared.rule.BlockRule.TheVariants as rule

-- what one event says

-- that a label of this name is declared
abbrev pub labels_note : List ℕ → Note → Bool
labels_note n (Declares m (Label l)) = bytes_eq m n
labels_note n _ = false

abbrev pub labels : List ℕ → Event → Bool
labels n e = labels_note n e.note

-- whose operand it is: a number, name, field or block of an expression of a statement
abbrev pub operand_of : Note → Option ℕ
operand_of (Counts o) = Some o
operand_of (Reads n need o) = Some o
operand_of (Refers n o) = Some o
operand_of _ = None

abbrev pub is_owner : ℕ → Option ℕ → Bool
is_owner o (Some p) = nat_eq o p
is_owner o None = false

abbrev pub counts_for : ℕ → Event → Bool
counts_for o e = is_owner o (operand_of e.note)

-- that it is this number after a WHEN of this CASE
abbrev pub chooses_note : ℕ → ℕ → Note → Bool
chooses_note o n (Chooses p m) = nat_eq o p && nat_eq n m
chooses_note o n _ = false

abbrev pub chooses : ℕ → ℕ → Event → Bool
chooses o n e = chooses_note o n e.note

-- what a rule may look at besides its event
pub record KnownInBlock : Type 0 where
  -- the last meaning of a name among the declarations before
  pub declared : List ℕ → Option Meaning
  -- how many operands of a statement stand before, and whether a CASE has a number before
  pub counted : ℕ → ℕ
  pub chosen : ℕ → ℕ → Bool
  -- whether a label is declared anywhere in the block
  pub label : List ℕ → Bool
  -- the signal of a name
  pub number : List ℕ → Option ℕ
  pub kind : List ℕ → Option SignalKind
  -- whether there is a block of a name
  pub block : List ℕ → Bool

abbrev pub known_of : List SignalKind → List Block → List Event → List Event → KnownInBlock
known_of signals blocks own before = record {
  declared = naming_of before;
  counted = λ o. count (counts_for o) before;
  chosen = λ o n. any (chooses o n) before;
  label = λ n. any (labels n) own;
  number = number_in signals;
  kind = kind_in signals;
  block = λ n. is_some (block_named blocks n);
}

-- nothing is known of the parts before
abbrev pub known_in_part : List SignalKind → List Block → List (List Event) → List Event
    → List Event → KnownInBlock
known_in_part signals blocks done own before = known_of signals blocks own before

-- 1
abbrev pub declared_twice : KnownInBlock → Note → Bool
declared_twice k (Declares n meaning) = is_some (k.declared n)
declared_twice k _ = false

-- 2
abbrev pub wrong_width : Note → Bool
wrong_width (Width bits) = nat_eq bits 0 || nat_lt 32 bits
wrong_width _ = false

-- 3
abbrev pub wrong_init : Note → Bool
wrong_init (Init value bits) = not (nat_lt value (2 ^ bits))
wrong_init _ = false

-- 4
abbrev pub wrong_size : Note → Bool
wrong_size (Size records) = nat_eq records 0 || nat_lt MOST_RECORDS records
wrong_size _ = false

-- 5: temporaries are numbered from 0
abbrev pub too_many_temporaries : Note → Bool
too_many_temporaries (Declares n (Temporary t)) = nat_eq t MOST_TEMPORARIES
too_many_temporaries _ = false

-- 6
abbrev pub serves : Need → Option Meaning → Bool
serves need.Value (Some (Variable v)) = true
serves need.Value (Some (Temporary t)) = true
serves need.Temporary (Some (Temporary t)) = true
serves need.Field (Some (Field f g)) = true
serves _ _ = false

abbrev pub wrong_name : KnownInBlock → Note → Bool
wrong_name k (Uses n need) = not (serves need (k.declared n))
wrong_name k (Reads n need o) = not (serves need (k.declared n))
wrong_name k _ = false

-- 7
abbrev pub no_label : KnownInBlock → Note → Bool
no_label k (Goes n) = not (k.label n)
no_label k _ = false

-- 8
abbrev pub is_plain_file : Option Meaning → Bool
is_plain_file (Some (File f forlopp)) = not forlopp
is_plain_file _ = false

abbrev pub is_field_of : Option Meaning → Option Meaning → Bool
is_field_of (Some (File f forlopp)) (Some (Field g place)) = nat_eq f g
is_field_of _ _ = false

abbrev pub not_searched : KnownInBlock → Note → Bool
not_searched k (Searches file) = not (is_plain_file (k.declared file))
not_searched k (Compares field file) = not (is_field_of (k.declared file) (k.declared field))
not_searched k _ = false

-- 9
abbrev pub is_forlopp_file : Option Meaning → Bool
is_forlopp_file (Some (File f forlopp)) = forlopp
is_forlopp_file _ = false

abbrev pub not_held : KnownInBlock → Note → Bool
not_held k (Holds file) = not (is_forlopp_file (k.declared file))
not_held k _ = false

-- 10: an outside signal is sent without REFERENCE
abbrev pub stands : Role → Option SignalKind → Bool
stands role.Received (Some (signal.Buffered name level count)) = true
stands role.Received (Some (signal.Direct name count)) = true
stands role.Received (Some (signal.Combined name count answer)) = true
stands (role.Sent reference) (Some (signal.Buffered name level count)) = true
stands (role.Sent reference) (Some (signal.Direct name count)) = true
stands (role.Sent reference) (Some (signal.Combined name count answer)) = true
stands (role.Sent reference) (Some (signal.Outside name count)) = not reference
stands role.Transferred (Some (signal.Direct name count)) = true
stands role.Answer (Some (signal.Answer name count of)) = true
stands _ _ = false

abbrev pub wrong_signal : KnownInBlock → Note → Bool
wrong_signal k (Names n role) = not (stands role (k.kind n))
wrong_signal k _ = false

-- 11: a name that is no signal's has no DATA
abbrev pub other_data : ℕ → Option SignalKind → Bool
other_data count (Some kind) = not (nat_eq count (signal_count kind))
other_data count None = false

abbrev pub wrong_count : KnownInBlock → Head → Bool
wrong_count k (Enters n count) = other_data count (k.kind n)
wrong_count k (Sends n way count fresh) = other_data count (k.kind n)
wrong_count k (Retrieves n count) = other_data count (k.kind n)
wrong_count k (Returns n count) = other_data count (k.kind n)
wrong_count k _ = false

-- 12
abbrev pub answer_of : Option SignalKind → Option ℕ
answer_of (Some (signal.Combined name count answer)) = Some answer
answer_of _ = None

abbrev pub same_number : Option ℕ → Option ℕ → Bool
same_number (Some a) (Some b) = nat_eq a b
same_number _ _ = false

-- whether a statement retrieves this answer, and whether it sends the combined signal of this
-- answer
abbrev pub retrieves : (List ℕ → Option ℕ) → Option ℕ → Head → Bool
retrieves number answer (Retrieves n count) = same_number answer (number n)
retrieves number answer _ = false

abbrev pub asks : (List ℕ → Option SignalKind) → Option ℕ → Head → Bool
asks kind answer (Sends n way count fresh) = same_number (answer_of (kind n)) answer
asks kind answer _ = false

-- a statement between two neighbours
abbrev pub apart : (List ℕ → Option ℕ) → (List ℕ → Option SignalKind) → Head → Head → Head → Bool
apart number kind (Sends n way count fresh) before after =
    is_some (answer_of (kind n)) && not (retrieves number (answer_of (kind n)) after)
apart number kind (Retrieves n count) before after = not (asks kind (number n) before)
apart number kind _ before after = false

-- 13
abbrev pub too_many_operands : KnownInBlock → Option ℕ → Bool
too_many_operands k (Some o) = nat_eq (k.counted o) MOST_OPERANDS
too_many_operands k None = false

-- 14
abbrev pub is_other_kind : Option SignalKind → Bool
is_other_kind None = false
is_other_kind (Some (signal.Buffered name level count)) = false
is_other_kind (Some _) = true

abbrev pub wrong_fresh : KnownInBlock → Head → Bool
wrong_fresh k (Sends n way count fresh) = fresh && is_other_kind (k.kind n)
wrong_fresh k _ = false

-- 15
abbrev pub chosen_twice : KnownInBlock → Note → Bool
chosen_twice k (Chooses o n) = k.chosen o n
chosen_twice k _ = false

-- 17
abbrev pub no_block : KnownInBlock → Note → Bool
no_block k (Refers n o) = not (k.block n)
no_block k _ = false

abbrev pub broken : BlockRule → KnownInBlock → Note → Bool
broken rule.DeclaredTwice k note = declared_twice k note
broken rule.Width k note = wrong_width note
broken rule.Init k note = wrong_init note
broken rule.Size k note = wrong_size note
broken rule.Temporaries k note = too_many_temporaries note
broken rule.WrongName k note = wrong_name k note
broken rule.NoLabel k note = no_label k note
broken rule.NotSearched k note = not_searched k note
broken rule.NotHeld k note = not_held k note
broken rule.WrongSignal k note = wrong_signal k note
broken rule.WrongCount k note = wrong_count k (begun note)
broken rule.Apart k note = apart k.number k.kind (begun note) (before_begun note) (after_begun note)
broken rule.Operands k note = too_many_operands k (operand_of note)
broken rule.WrongFresh k note = wrong_fresh k (begun note)
broken rule.ChosenTwice k note = chosen_twice k note
broken rule.NoBlock k note = no_block k note

abbrev pub number_of : BlockRule → ℕ
number_of rule.DeclaredTwice = 1
number_of rule.Width = 2
number_of rule.Init = 3
number_of rule.Size = 4
number_of rule.Temporaries = 5
number_of rule.WrongName = 6
number_of rule.NoLabel = 7
number_of rule.NotSearched = 8
number_of rule.NotHeld = 9
number_of rule.WrongSignal = 10
number_of rule.WrongCount = 11
number_of rule.Apart = 12
number_of rule.Operands = 13
number_of rule.WrongFresh = 14
number_of rule.ChosenTwice = 15
number_of rule.NoBlock = 17

abbrev pub all_rules : List BlockRule
all_rules = rule.DeclaredTwice ∷ rule.Width ∷ rule.Init ∷ rule.Size ∷ rule.Temporaries
    ∷ rule.WrongName ∷ rule.NoLabel ∷ rule.NotSearched ∷ rule.NotHeld ∷ rule.WrongSignal
    ∷ rule.WrongCount ∷ rule.Apart ∷ rule.Operands ∷ rule.WrongFresh ∷ rule.ChosenTwice
    ∷ rule.NoBlock ∷ []

-- before the first event
pub record KnowsNothing (k : KnownInBlock) : Type 0 where
  pub declared : (n : List ℕ) → k.declared n ≡ None
  pub counted : (o : ℕ) → k.counted o ≡ 0
  pub chosen : (o n : ℕ) → k.chosen o n ≡ false

-- after one event more
pub record Sees (k : KnownInBlock) (note : Note) (l : KnownInBlock) : Type 0 where
  pub declared : (n : List ℕ) → l.declared n ≡ or_else (meaning_of_note n note) (k.declared n)
  pub counted : (o : ℕ) → l.counted o ≡ k.counted o
      + (if is_owner o (operand_of note) then 1 else 0)
  pub chosen : (o n : ℕ) → l.chosen o n ≡ (k.chosen o n || chooses_note o n note)
  pub label : l.label ≡ k.label
  pub number : l.number ≡ k.number
  pub kind : l.kind ≡ k.kind
  pub block : l.block ≡ k.block

-- a number at a place of a list, or 0 past its end
abbrev pub count_in : List ℕ → ℕ → ℕ
count_in counts o = get_or counts o 0

-- whether a set has a pair
abbrev pub has_choice : List (ℕ × ℕ) → ℕ → ℕ → Bool
has_choice keys o n = list_any (λ k. nat_eq o k.0 && nat_eq n k.1) keys
