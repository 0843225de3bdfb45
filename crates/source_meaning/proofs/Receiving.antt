-- A signal that begins an activation begins it at the ENTER of the block that it goes to.
use Rattle.std.proofs.Common.{ℕ, List, length, Option, Some, slice_get}
use Rattle.exchange_model.specs.declared.exchange.Exchange.{Exchange}
use Rattle.exchange_model.specs.declared.signal.SignalKind.{SignalKind}
use Rattle.exchange_model.specs.declared.signal.SignalKind.TheVariants.{Direct, Combined}
use Rattle.exchange_model.specs.declared.stmt.Receiver.{Receiver}
use Rattle.exchange_model.specs.declared.stmt.StmtKind.TheOpen as stmt
use Rattle.exchange_model.specs.Fits.{Scope, Reaches, TransferFits}
use Rattle.exchange_model.specs.Kept.{IsExchange, scope_of}
use Rattle.source_meaning.specs.Config.{Item, Config}
use Rattle.source_meaning.specs.Deeds.{Deed, IsBeginning, by_send, by_transfer, IsAsking}
use Rattle.source_meaning.specs.Deeds.{by_combined}
use Rattle.source_meaning.specs.Rests.{DeedStands, BeginsAt}
use Rattle.source_meaning.proofs.Activating.{activation_begins}
use Rattle.source_meaning.proofs.Fitting.{deed_fits_in}
use Rattle.source_meaning.proofs.Sending.{IsReceiving, goes_to_receives, send_fits_as}

pub transfer_reaches : (s : Scope) (kind : Option SignalKind) (signal : ℕ) (to : Option Receiver) → TransferFits s kind signal to → Reaches s to signal
transfer_reaches s (Some (Direct name count)) signal to h = h
transfer_reaches s _ signal to h = absurd h

module _ (x : Exchange) (kept : IsExchange x) where
  received : (b signal : ℕ) → IsReceiving x b signal → BeginsAt x b signal
  received b signal r = activation_begins x kept b signal r.block r.there r.receives

  pub beginning_received : (c : Config) (deed : Deed) (rest : List Item) (b signal : ℕ) (vs : List ℕ)
      → DeedStands x c.block deed rest → IsBeginning x c deed b signal vs → BeginsAt x b signal
  beginning_received c deed rest b signal vs h (by_send p s to values fresh name count n ws kind sending) =
      let f = deed_fits_in x kept c.block p (stmt.Send s to values fresh) rest h in
      let sent = send_fits_as (scope_of x c.block f.block) s to (length values) fresh (Direct name count) kind f.fits.names in
      received b signal (goes_to_receives x c.block f.block c s to n sent.1 sending.receiver)
  beginning_received c deed rest b signal vs h (by_transfer p s to n goes) =
      let f = deed_fits_in x kept c.block p (stmt.Transfer s to) rest h in
      received b signal (goes_to_receives x c.block f.block c s to n
      (transfer_reaches (scope_of x c.block f.block) (slice_get x.signals s) s to f.fits.names) goes)

  pub asking_received : (c : Config) (deed : Deed) (rest : List Item) (b signal answer : ℕ) (vs : List ℕ)
      → DeedStands x c.block deed rest → IsAsking x c deed b signal answer vs → BeginsAt x b signal
  asking_received c deed rest b signal answer vs h (by_combined p s to values fresh name count a n ws kind sending) =
      let f = deed_fits_in x kept c.block p (stmt.Send s to values fresh) rest h in
      let sent = send_fits_as (scope_of x c.block f.block) s to (length values) fresh (Combined name count a) kind f.fits.names in
      received b signal (goes_to_receives x c.block f.block c s to n sent.1 sending.receiver)
