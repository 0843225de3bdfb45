-- What stands for something in the block gives a number in range.
use Rattle.std.proofs.Common.{◌≡◌, ℕ, ◌+◌, ◌<◌, Bool, true, false, not, ◌&&◌, List, length, Option}
use Rattle.std.proofs.Common.{Some, None, refl, sym, subst, arith, nat_eq, nat_lt, slice_get}
use Rattle.std.specs.Prelude.{if◌then◌else◌, unwrap_or}
use Rattle.std.specs.List.{Contains}
use Rattle.std.proofs.lemmas.Bool.{eqb-true}
use Rattle.exchange_model.specs.declared.signal.SignalKind.{SignalKind}
use Rattle.exchange_model.specs.declared.signal.SignalKind.TheVariants.{Buffered, Direct, Combined}
use Rattle.exchange_model.specs.declared.signal.SignalKind.TheVariants.{Answer, Outside}
use Rattle.exchange_model.specs.declared.expr.Factor.TheVariants as factor
use Rattle.exchange_model.specs.Kept.{signal_count}
use Rattle.exchange_model.specs.Fits.{Scope, FactorFits, IsTemporary, IsLabel, IsFile, IsField}
use Rattle.exchange_model.specs.Fits.{AnswerFits, EnterFits, IsHolder, Reaches, SendFits}
use Rattle.exchange_model.specs.Fits.{TransferFits}
use Rattle.exchange_model.specs.PartFits.{FactorOwnFits, InsideFits}
use Rattle.exchange_model.proofs.Built.{factor_fits-built}
use Rattle.text_events.specs.declared.role.Meaning.{Meaning}
use Rattle.text_events.specs.declared.role.Meaning.TheVariants.{Variable, Temporary, File, Field}
use Rattle.text_events.specs.declared.role.Meaning.TheVariants.{Label}
use Rattle.text_events.specs.declared.role.Need.TheVariants as need
use Rattle.text_events.specs.declared.role.Role.{Role}
use Rattle.text_events.specs.declared.role.Role.TheVariants as role
use Rattle.text_rules.specs.Blocks.{serves, is_plain_file, is_field_of, is_forlopp_file, stands}
use Rattle.text_rules.specs.Blocks.{other_data, is_other_kind}
use Rattle.signal_types.specs.Found.{kind_at}
use Rattle.text_rules.specs.Links.{is_outside}
use Rattle.resolved_block.specs.Names.{counted_on}
use Rattle.resolved_block.specs.Meant.{byte_of, value_in, temporary_in, file_in, field_file_in}
use Rattle.resolved_block.specs.Meant.{field_place_in, label_in, holder_in}
use Rattle.text_soundness.specs.Blocks.{IsFileOf, IsPlaced}
use Rattle.text_soundness.specs.Meanings.{Suits}
use Rattle.exchange_model.specs.declared.stmt.Receiver.{Receiver}

-- a meaning has its place in the block
abbrev pub Suited : Scope → Option Meaning → Type 0
Suited s o = (m : Meaning) → o ≡ Some m → Suits s.block m

module _ (s : Scope) (first : ℕ) (placed : IsPlaced s first) where
  -- a number that has no eight bits gives 0, which is in range where some number is
  temporary_range : (t : ℕ) → t < length s.block.temporaries → IsTemporary s (byte_of t)
  temporary_range t low = here (nat_lt t 256)
    where
      here : (b : Bool) → (if b then t else 0) < length s.block.temporaries
      here true = low
      here false = omega arith

  file_range : (f : ℕ) (forlopp : Bool) → Suits s.block (File f forlopp) → IsFile s (first + f) forlopp
  file_range f forlopp suits =
      let at : IsFileOf s (first + f) suits.0 = placed.files f suits.0 suits.1 in
      record { placed = record { block = s.number; file = suits.0; first = at.first }; there = at.there; own = refl; kind = suits.2 }

  field_range : (f place : ℕ) → Suits s.block (Field f place) → IsField s (first + f) place
  field_range f place suits =
      let at : IsFileOf s (first + f) suits.0 = placed.files f suits.0 suits.1 in
      record { placed = record { block = s.number; file = suits.0; first = at.first }; there = at.there; own = refl; within = suits.2 }

  pub temporary_fits : (o : Option Meaning) → Suited s o → serves need.Temporary o ≡ true → IsTemporary s (temporary_in (counted_on first o))
  temporary_fits (Some (Temporary t)) suited h = temporary_range t (suited (Temporary t) refl)
  temporary_fits (Some (Variable v)) suited h = absurd cc
  temporary_fits (Some (File f a)) suited h = absurd cc
  temporary_fits (Some (Field f g)) suited h = absurd cc
  temporary_fits (Some (Label l)) suited h = absurd cc
  temporary_fits None suited h = absurd cc

  pub field_fits : (o : Option Meaning) → Suited s o → serves need.Field o ≡ true
      → IsField s (field_file_in (counted_on first o)) (field_place_in (counted_on first o))
  field_fits (Some (Field f g)) suited h = field_range f g (suited (Field f g) refl)
  field_fits (Some (Temporary t)) suited h = absurd cc
  field_fits (Some (Variable v)) suited h = absurd cc
  field_fits (Some (File f a)) suited h = absurd cc
  field_fits (Some (Label l)) suited h = absurd cc
  field_fits None suited h = absurd cc

  pub value_own : (o : Option Meaning) → Suited s o → serves need.Value o ≡ true → FactorOwnFits s (value_in (counted_on first o))
  value_own (Some (Variable v)) suited h = factor_fits-built s (factor.Variable v)
      (subst (FactorFits s) (sym (factor.outs-Variable v)) (suited (Variable v) refl))
      (subst (InsideFits s) (sym (factor.outs-Variable v)) tt)
  value_own (Some (Temporary t)) suited h =
      factor_fits-built s (factor.Temporary (byte_of t))
      (subst (FactorFits s) (sym (factor.outs-Temporary (byte_of t)))
      (temporary_range t (suited (Temporary t) refl)))
      (subst (InsideFits s) (sym (factor.outs-Temporary (byte_of t))) tt)
  value_own (Some (File f a)) suited h = absurd cc
  value_own (Some (Field f g)) suited h = absurd cc
  value_own (Some (Label l)) suited h = absurd cc
  value_own None suited h = absurd cc

  pub holder_fits : (o : Option Meaning) → Suited s o → serves need.Value o ≡ true → IsHolder s (holder_in (counted_on first o))
  holder_fits (Some (Variable v)) suited h = suited (Variable v) refl
  holder_fits (Some (Temporary t)) suited h = temporary_range t (suited (Temporary t) refl)
  holder_fits (Some (File f a)) suited h = absurd cc
  holder_fits (Some (Field f g)) suited h = absurd cc
  holder_fits (Some (Label l)) suited h = absurd cc
  holder_fits None suited h = absurd cc

  pub field_own : (o p : Option Meaning) → Suited s o → Suited s p → serves need.Field o ≡ true
      → serves need.Temporary p ≡ true → FactorOwnFits s
      (factor.Field (field_file_in (counted_on first o)) (field_place_in (counted_on first o))
      (temporary_in (counted_on first p)))
  field_own o p suited pointed h g =
      let shown = factor.outs-Field (field_file_in (counted_on first o)) (field_place_in (counted_on first o)) (temporary_in (counted_on first p)) in
      factor_fits-built s _ (subst (FactorFits s) (sym shown) (field_fits o suited h, temporary_fits p pointed g)) (subst (InsideFits s) (sym shown) tt)

  pub label_fits : (o : Option Meaning) (l : ℕ) → Suited s o → o ≡ Some (Label l) → IsLabel s (label_in (counted_on first o))
  label_fits o l suited is = subst (λ p. IsLabel s (label_in (counted_on first p))) (sym is) (suited (Label l) is)

  pub plain_fits : (o : Option Meaning) → Suited s o → is_plain_file o ≡ true → IsFile s (file_in (counted_on first o)) false
  plain_fits (Some (File f false)) suited h = file_range f false (suited (File f false) refl)
  plain_fits (Some (File f true)) suited h = absurd cc
  plain_fits (Some (Field f g)) suited h = absurd cc
  plain_fits (Some (Temporary t)) suited h = absurd cc
  plain_fits (Some (Variable v)) suited h = absurd cc
  plain_fits (Some (Label l)) suited h = absurd cc
  plain_fits None suited h = absurd cc

  pub forlopp_fits : (o : Option Meaning) → Suited s o → is_forlopp_file o ≡ true → IsFile s (file_in (counted_on first o)) true
  forlopp_fits (Some (File f true)) suited h = file_range f true (suited (File f true) refl)
  forlopp_fits (Some (File f false)) suited h = absurd cc
  forlopp_fits (Some (Field f g)) suited h = absurd cc
  forlopp_fits (Some (Temporary t)) suited h = absurd cc
  forlopp_fits (Some (Variable v)) suited h = absurd cc
  forlopp_fits (Some (Label l)) suited h = absurd cc
  forlopp_fits None suited h = absurd cc

  -- a field of a file, which is the file that is looked through
  pub searched_fits : (o p : Option Meaning) → Suited s p → is_field_of o p ≡ true
      → IsField s (file_in (counted_on first o)) (field_place_in (counted_on first p))
  searched_fits (Some (File f a)) (Some (Field g place)) suited h =
      subst (λ x. IsField s (first + x) place) (sym (eqb-true f g h)) (field_range g place (suited (Field g place) refl))
  searched_fits (Some (File f a)) (Some (File g b)) suited h = absurd cc
  searched_fits (Some (File f a)) (Some (Temporary t)) suited h = absurd cc
  searched_fits (Some (File f a)) (Some (Variable v)) suited h = absurd cc
  searched_fits (Some (File f a)) (Some (Label l)) suited h = absurd cc
  searched_fits (Some (File f a)) None suited h = absurd cc
  searched_fits (Some (Field f g)) p suited h = absurd cc
  searched_fits (Some (Temporary t)) p suited h = absurd cc
  searched_fits (Some (Variable v)) p suited h = absurd cc
  searched_fits (Some (Label l)) p suited h = absurd cc
  searched_fits None p suited h = absurd cc

-- signals

-- the number of a signal that stands somewhere gives the signal
pub kind_of_number : (signals : List SignalKind) (o : Option ℕ) (r : Role) → stands r (kind_at signals o) ≡ true
    → slice_get signals (unwrap_or o 0) ≡ kind_at signals o
kind_of_number signals (Some i) r h = refl
kind_of_number signals None role.Received h = absurd cc
kind_of_number signals None (role.Sent a) h = absurd cc
kind_of_number signals None role.Transferred h = absurd cc
kind_of_number signals None role.Answer h = absurd cc

same_count : (count : ℕ) (kind : SignalKind) → other_data count (Some kind) ≡ false → count ≡ signal_count kind
same_count count kind h = here (nat_eq count (signal_count kind)) refl h
  where
    here : (b : Bool) → nat_eq count (signal_count kind) ≡ b → not b ≡ false → count ≡ signal_count kind
    here true is h = eqb-true count (signal_count kind) is
    here false is h = cc

not_fresh : (fresh : Bool) → (fresh && true) ≡ false → fresh ≡ false
not_fresh true h = h
not_fresh false h = refl

pub answer_fits : (k : Option SignalKind) (count : ℕ) → stands role.Answer k ≡ true → other_data count k ≡ false → AnswerFits k count
answer_fits (Some (Answer name n of)) count h same = same_count count (Answer name n of) same
answer_fits (Some (Buffered name level n)) count h same = absurd cc
answer_fits (Some (Direct name n)) count h same = absurd cc
answer_fits (Some (Combined name n a)) count h same = absurd cc
answer_fits (Some (Outside name n)) count h same = absurd cc
answer_fits None count h same = absurd cc

pub enter_fits : (k : Option SignalKind) (count : ℕ) → stands role.Received k ≡ true → other_data count k ≡ false → EnterFits k count
enter_fits (Some (Buffered name level n)) count h same = same_count count (Buffered name level n) same
enter_fits (Some (Direct name n)) count h same = same_count count (Direct name n) same
enter_fits (Some (Combined name n a)) count h same = same_count count (Combined name n a) same
enter_fits (Some (Answer name n of)) count h same = absurd cc
enter_fits (Some (Outside name n)) count h same = absurd cc
enter_fits None count h same = absurd cc

-- a SEND and a TRANSFER, which go there unless the signal leaves the exchange

module _ (s : Scope) (signal : ℕ) (to : Option Receiver) where
  pub transfer_fits : (k : Option SignalKind) → stands role.Transferred k ≡ true
      → (is_outside k ≡ false → Reaches s to signal) → TransferFits s k signal (if is_outside k then None else to)
  transfer_fits (Some (Direct name n)) h arrives = arrives refl
  transfer_fits (Some (Buffered name level n)) h arrives = absurd cc
  transfer_fits (Some (Combined name n a)) h arrives = absurd cc
  transfer_fits (Some (Answer name n of)) h arrives = absurd cc
  transfer_fits (Some (Outside name n)) h arrives = absurd cc
  transfer_fits None h arrives = absurd cc

  pub send_fits : (k : Option SignalKind) (count : ℕ) (reference fresh : Bool) → stands (role.Sent reference) k ≡ true
      → other_data count k ≡ false → (fresh && is_other_kind k) ≡ false → (is_outside k ≡ false → Reaches s to signal)
      → Contains s.block.sends signal → SendFits s k signal (if is_outside k then None else to) count fresh
  send_fits (Some (Buffered name level n)) count reference fresh h same new arrives out = (same_count count (Buffered name level n) same, arrives refl)
  send_fits (Some (Direct name n)) count reference fresh h same new arrives out = (same_count count (Direct name n) same, arrives refl, not_fresh fresh new)
  send_fits (Some (Combined name n a)) count reference fresh h same new arrives out =
      (same_count count (Combined name n a) same, arrives refl, not_fresh fresh new)
  send_fits (Some (Outside name n)) count reference fresh h same new arrives out = (same_count count (Outside name n) same, refl, not_fresh fresh new, out)
  send_fits (Some (Answer name n of)) count reference fresh h same new arrives out = absurd cc
  send_fits None count reference fresh h same new arrives out = absurd cc
