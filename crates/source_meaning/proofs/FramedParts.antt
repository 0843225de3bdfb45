-- The parts of a statement depend on the words that they load and on no others.
use Rattle.std.proofs.Common.{◌≡◌, ℕ, ◌+◌, Bool, List, [], ◌∷◌, ◌++◌, length, Option, Some, None}
use Rattle.std.proofs.Common.{refl}
use Rattle.std.specs.Prelude.{nat_lt, nat_eq, slice_index, slice_set}
use Rattle.plex_limits.specs.declared.limits.TheConstants.{MOST_CALLERS, MOST_HELD, MOST_SENT}
use Rattle.job_types.specs.declared.fault.Fault.TheVariants as fault
use Rattle.job_types.specs.declared.outbox.SendTo.{SendTo}
use Rattle.job_types.specs.declared.outbox.SendTo.TheVariants as sent_to
use Rattle.job_types.specs.declared.touch.Touch.{Touch}
use Rattle.job_types.specs.declared.touch.Touch.TheVariants.{Store}
use Rattle.exchange_model.specs.declared.exchange.Exchange.{Exchange}
use Rattle.exchange_model.specs.declared.expr.Expr.{Expr}
use Rattle.exchange_model.specs.declared.expr.Cond.{Cond}
use Rattle.exchange_model.specs.declared.expr.Rel.{Rel}
use Rattle.exchange_model.specs.declared.signal.SignalKind.{SignalKind}
use Rattle.exchange_model.specs.declared.signal.SignalKind.TheVariants.{Buffered, Direct, Combined}
use Rattle.exchange_model.specs.declared.signal.SignalKind.TheVariants.{Answer, Outside}
use Rattle.exchange_model.specs.declared.stmt.Holder.{Holder}
use Rattle.exchange_model.specs.declared.stmt.Holder.TheVariants as holder
use Rattle.exchange_model.specs.declared.stmt.Receiver.{Receiver}
use Rattle.exchange_model.specs.declared.stmt.Receiver.TheVariants as receiver
use Rattle.exchange_model.specs.Cells.{Placed, field_cell, mark_cell}
use Rattle.exchange_model.specs.Inside.{cond_exprs}
use Rattle.source_meaning.specs.Named.{Named, named_in}
use Rattle.source_meaning.specs.Value.{Got, Gives, Fails, Sight, expr_value, cond_value}
use Rattle.source_meaning.specs.Value.{holder_value, pointer_fault, stands}
use Rattle.source_meaning.specs.Config.{Item, Caller, Config, receiver_of, sight, entry_number}
use Rattle.source_meaning.specs.Changes.{fails, ends, on_value, on_values, goes, to_label}
use Rattle.source_meaning.specs.Changes.{sets_temp, sets_cell, at_record, on_record, at_found}
use Rattle.source_meaning.specs.Changes.{for_first, with_record, at_free, seizes, activates, posts}
use Rattle.source_meaning.specs.Changes.{sends, returns, at_receiver, to_receiver}
use Rattle.source_meaning.specs.Effects.{answered}
use Rattle.source_meaning.specs.Step.{count}
use Rattle.source_meaning.specs.Traces.{with_store}
use Rattle.source_meaning.proofs.Growing.{IsLoad}
use Rattle.source_meaning.proofs.Lists.{all_members}
use Rattle.source_meaning.proofs.Loads.{loads_in, LoadsAre, IsLoadOf, of_variable, of_field}
use Rattle.source_meaning.proofs.Loads.{TellsLoads, FaultIs, expr_loads, cond_tells}
use Rattle.source_meaning.proofs.Reading.{expr_reads, cond_reads, holder_reads}
use Rattle.source_meaning.proofs.Framed.{Framed, framed_stores, framed_pure, looked, framed_value}
use Rattle.source_meaning.proofs.Framed.{framed_if, framed_unless, framed_search}
use Rattle.plex_num.proofs.Lists.{all_weaker}

is_load : (s : Sight) (all : List Named) (t : Touch) → IsLoadOf s all t → IsLoad s.store t
is_load s all t (of_variable v at is) = record { cell = s.first + v; is = is }
is_load s all t (of_field file field pointer p at there sound is) = record { cell = field_cell p (slice_index s.temps pointer) field; is = is }

expr_load : (e : Expr) (s : Sight) → LoadsAre (IsLoad s.store) (expr_value e s)
expr_load e s = all_weaker (IsLoadOf s (named_in e)) (IsLoad s.store) (loads_in (expr_value e s)) (is_load s (named_in e)) (expr_loads e s)

no_fault : (got : Got) → FaultIs (λ f. Unit {0}) got
no_fault (Gives loads v) = tt
no_fault (Fails loads f) = tt

cond_load : (cond : Cond) (s : Sight) → LoadsAre (IsLoad s.store) (cond_value cond s)
cond_load cond s =
    (cond_tells (IsLoad s.store) (λ f. Unit {0}) s cond
    (all_members (λ e. TellsLoads (IsLoad s.store) (λ f. Unit {0}) (expr_value e s)) (cond_exprs cond)
    (λ e at. record { loads = expr_load e s; fault = no_fault (expr_value e s) }))).loads

holder_load : (h : Holder) (s : Sight) → LoadsAre (IsLoad s.store) (holder_value h s)
holder_load (holder.Temporary t) s = tt
holder_load (holder.Variable v) s = (record { cell = s.first + v; is = refl }, tt)

module _ (x : Exchange) where
  -- a value of an expression, with what comes after it
  pub framed_expr : (e : Expr) (c : Config) (go : ℕ → Config → Config)
      → ((loads : List Touch) (v : ℕ) → Framed (looked loads c).world (λ t. go v (with_store t (looked loads c))))
      → Framed c.world (λ t. on_value (expr_value e (sight x (with_store t c))) (with_store t c) go)
  framed_expr e c go more = framed_value c (λ t. expr_value e (sight x (with_store t c))) go (expr_load e (sight x c))
      (λ t found. expr_reads t (sight x c) e found) more

  pub framed_cond : (cond : Cond) (c : Config) (go : ℕ → Config → Config)
      → ((loads : List Touch) (v : ℕ) → Framed (looked loads c).world (λ t. go v (with_store t (looked loads c))))
      → Framed c.world (λ t. on_value (cond_value cond (sight x (with_store t c))) (with_store t c) go)
  framed_cond cond c go more = framed_value c (λ t. cond_value cond (sight x (with_store t c))) go
      (cond_load cond (sight x c)) (λ t found. cond_reads t (sight x c) cond found) more

  pub framed_values : (es : List Expr) (vs : List ℕ) (c : Config) (go : List ℕ → Config → Config)
      → ((d : Config) (ws : List ℕ) → Framed d.world (λ t. go ws (with_store t d)))
      → Framed c.world (λ t. on_values x es vs (with_store t c) go)
  framed_values [] vs c go more = more c vs
  framed_values (e ∷ es) vs c go more = framed_expr e c (λ v d. on_values x es (vs ++ v ∷ []) d go)
      (λ loads v. framed_values es (vs ++ v ∷ []) (looked loads c) go more)

  pub framed_record : (found : Option Placed) (file number : ℕ) (c : Config) (go : Placed → Config → Config)
      → ((p : Placed) → Framed c.world (λ t. go p (with_store t c)))
      → Framed c.world (λ t. at_record found file number (with_store t c) go)
  framed_record None file number c go more = framed_pure c.world c refl
  framed_record (Some p) file number c go more = framed_unless (pointer_fault c.own.chain file p number) c (go p) (more p)

  pub framed_receiver : (signal : ℕ) (to : Option Receiver) (c : Config) (go : ℕ → Config → Config)
      → ((d : Config) (b : ℕ) → Framed d.world (λ t. go b (with_store t d)))
      → Framed c.world (λ t. to_receiver x signal to (with_store t c) go)
  framed_receiver signal None c go more = more c 0
  framed_receiver signal (Some (receiver.Block b)) c go more = more c b
  framed_receiver signal (Some (receiver.Held h)) c go more =
      framed_value c (λ t. holder_value h (sight x (with_store t c))) (λ v d. at_receiver (receiver_of x signal v) d go)
      (holder_load h (sight x c)) (λ t found. holder_reads t (sight x c) h found)
      (λ loads v. at (receiver_of x signal v) (looked loads c))
    where
      at : (found : Option ℕ) (d : Config) → Framed d.world (λ t. at_receiver found (with_store t d) go)
      at None d = framed_pure d.world (fails fault.Pointer d) refl
      at (Some b) d = more d b

  pub framed_ends : (ks : List Caller) (c : Config) → Framed c.world (λ t. ends ks (with_store t c))
  framed_ends [] c = framed_pure c.world (ends [] c) refl
  framed_ends (k ∷ ks) c = framed_pure c.world (ends (k ∷ ks) c) refl

  -- a cell gets a value
  pub framed_cell : (cell v : ℕ) (c d : Config) → d.world.trace ≡ c.world.trace ++ Store cell v ∷ [] → Framed c.world (λ t. with_store (slice_set t cell v) d)
  framed_cell cell v c d trace = framed_stores c.world d (Store cell v ∷ []) trace (tt, tt)

  pub framed_found : (temp label : ℕ) (rest : List Item) (number : Option ℕ) (c : Config)
      → Framed c.world (λ t. at_found x temp label rest number (with_store t c))
  framed_found temp label rest None c = framed_pure c.world (goes rest c) refl
  framed_found temp label rest (Some n) c = framed_pure c.world (to_label x label (sets_temp temp n c)) refl

  pub framed_first : (found : Option Placed) (temp field : ℕ) (rel : Rel) (v label : ℕ) (rest : List Item) (c : Config)
      → Framed c.world (λ t. for_first x found temp field rel v label rest (with_store t c))
  framed_first None temp field rel v label rest c = framed_pure c.world (goes rest c) refl
  framed_first (Some p) temp field rel v label rest c =
      framed_search c (λ n. field_cell p n field) (λ w. stands rel w v) p.file.size (at_found x temp label rest)
      (λ number loads. framed_found temp label rest number (looked loads c))

  pub framed_free : (p : Placed) (file temp label : ℕ) (rest : List Item) (number : Option ℕ) (c : Config)
      → Framed c.world (λ t. at_free x p file temp label rest number (with_store t c))
  framed_free p file temp label rest None c = framed_pure c.world (to_label x label c) refl
  framed_free p file temp label rest (Some n) c =
      framed_if c.world (nat_lt (length c.own.chain) MOST_HELD)
      (λ t. goes rest (sets_temp temp n (sets_cell (mark_cell p n) 1 (with_record file n (with_store t c)))))
      (λ t. fails fault.Chain (with_store t c))
      (framed_cell (mark_cell p n) 1 c (goes rest (sets_temp temp n (sets_cell (mark_cell p n) 1 (with_record file n c)))) refl)
      (framed_pure c.world (fails fault.Chain c) refl)

  pub framed_seize : (found : Option Placed) (file temp label : ℕ) (rest : List Item) (c : Config)
      → Framed c.world (λ t. seizes x found file temp label rest (with_store t c))
  framed_seize None file temp label rest c = framed_pure c.world (goes rest c) refl
  framed_seize (Some p) file temp label rest c =
      framed_if c.world (nat_eq c.own.forlopp 0) (λ t. fails fault.NoForlopp (with_store t c))
      (λ t. on_record (mark_cell p) (λ mark. nat_eq mark 0) p.file.size (with_store t c)
      (at_free x p file temp label rest))
      (framed_pure c.world (fails fault.NoForlopp c) refl)
      (framed_search c (mark_cell p) (λ mark. nat_eq mark 0) p.file.size (at_free x p file temp label rest)
      (λ number loads. framed_free p file temp label rest number (looked loads c)))

  pub framed_posts : (to : SendTo) (rest : List Item) (vs : List ℕ) (c : Config) → Framed c.world (λ t. posts to rest vs (with_store t c))
  framed_posts to rest vs c =
      let d : Config = record c { own = record c.own { sends = c.own.sends ++ record { to = to; values = vs } ∷ [] } } in
      framed_if c.world (nat_lt (length c.own.sends) MOST_SENT) (λ t. goes rest (with_store t d)) (λ t. fails fault.Sends (with_store t c))
      (framed_pure c.world (goes rest d) refl) (framed_pure c.world (fails fault.Sends c) refl)

  pub framed_sends : (kind : Option SignalKind) (signal b : ℕ) (fresh : Bool) (rest : List Item) (vs : List ℕ)
      (c : Config) → Framed c.world (λ t. sends x kind signal b fresh rest vs (with_store t c))
  framed_sends (Some (Buffered name level count)) signal b fresh rest vs c = framed_posts (sent_to.Queue (entry_number x b signal) level fresh) rest vs c
  framed_sends (Some (Direct name count)) signal b fresh rest vs c = framed_pure c.world (activates x b signal vs c) refl
  framed_sends (Some (Combined name count answer)) signal b fresh rest vs c =
      let k : Caller = record { block = c.block; todo = rest; temps = c.temps; given = c.own.given; awaits = answer } in
      let d = activates x b signal vs (record c { callers = k ∷ c.callers }) in
      framed_if c.world (nat_lt (length c.callers) MOST_CALLERS) (λ t. with_store t d)
      (λ t. fails fault.Depth (with_store t c)) (framed_pure c.world d refl)
      (framed_pure c.world (fails fault.Depth c) refl)
  framed_sends (Some (Answer name count combined)) signal b fresh rest vs c = framed_pure c.world (goes rest c) refl
  framed_sends (Some (Outside name count)) signal b fresh rest vs c = framed_posts (sent_to.Outside signal) rest vs c
  framed_sends None signal b fresh rest vs c = framed_pure c.world (goes rest c) refl

  pub framed_returns : (ks : List Caller) (answer : ℕ) (vs : List ℕ) (c : Config) → Framed c.world (λ t. returns ks answer vs (with_store t c))
  framed_returns [] answer vs c = framed_pure c.world (fails fault.BadEnd c) refl
  framed_returns (k ∷ ks) answer vs c =
      let d = answered k ks vs c in
      framed_if c.world (nat_eq k.awaits answer) (λ t. with_store t d) (λ t. fails fault.BadEnd (with_store t c))
      (framed_pure c.world d refl) (framed_pure c.world (fails fault.BadEnd c) refl)
