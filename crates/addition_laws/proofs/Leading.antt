-- A step does not look at the touches before it: with others before, it makes the same ones.
use Rattle.std.proofs.Common.{◌≡◌, ℕ, zero, suc, ◌+◌, Bool, true, false, List, [], ◌∷◌, ◌++◌, map}
use Rattle.std.proofs.Common.{length, Option, Some, None, refl, ap, ◌∙◌, append_assoc, slice_get}
use Rattle.std.specs.Prelude.{nat_lt, nat_eq, ◌^◌, slice_index, if◌then◌else◌, take}
use Rattle.plex_limits.specs.declared.limits.TheConstants.{MOST_CALLERS, MOST_HELD, MOST_SENT}
use Rattle.job_types.specs.declared.fault.Fault.{Fault}
use Rattle.job_types.specs.declared.fault.Fault.TheVariants as fault
use Rattle.job_types.specs.declared.outbox.SendTo.{SendTo}
use Rattle.job_types.specs.declared.outbox.SendTo.TheVariants as sent_to
use Rattle.job_types.specs.declared.touch.Touch.{Touch}
use Rattle.job_types.specs.declared.touch.Touch.TheVariants.{Store}
use Rattle.job_types.specs.Chain.{without}
use Rattle.job_types.specs.Own.{seen, counted, budget}
use Rattle.job_types.specs.Truth.{at_zero}
use Rattle.exchange_model.specs.declared.exchange.Exchange.{Exchange}
use Rattle.exchange_model.specs.declared.block.Variable.{Variable}
use Rattle.exchange_model.specs.declared.expr.Expr.{Expr}
use Rattle.exchange_model.specs.declared.expr.Rel.{Rel}
use Rattle.exchange_model.specs.declared.signal.SignalKind.{SignalKind}
use Rattle.exchange_model.specs.declared.signal.SignalKind.TheVariants.{Buffered, Direct, Combined}
use Rattle.exchange_model.specs.declared.signal.SignalKind.TheVariants.{Answer, Outside}
use Rattle.exchange_model.specs.declared.stmt.Receiver.{Receiver}
use Rattle.exchange_model.specs.declared.stmt.Receiver.TheVariants as receiver
use Rattle.exchange_model.specs.declared.stmt.StmtKind.{out-StmtKind}
use Rattle.exchange_model.specs.declared.stmt.StmtKind.TheOpen as stmt
use Rattle.exchange_model.specs.Cells.{Placed, field_cell, mark_cell}
use Rattle.source_meaning.specs.Named.{Layer}
use Rattle.source_meaning.specs.Value.{Got, Gives, Fails, expr_value, cond_value, holder_value}
use Rattle.source_meaning.specs.Value.{pointer_fault, stands}
use Rattle.source_meaning.specs.Config.{Item, Do, Start, Turns, Caller, Config, base_of, files_of}
use Rattle.source_meaning.specs.Config.{sight, next_counted, entry_number, receiver_of}
use Rattle.source_meaning.specs.Changes.{fails, ends, on_value, on_values, unless_fault, where_fits}
use Rattle.source_meaning.specs.Changes.{goes, to_label, sets_temp, sets_cell, variable_width}
use Rattle.source_meaning.specs.Changes.{field_width, at_record, sets_field, least_record}
use Rattle.source_meaning.specs.Changes.{looked_at, record_loads, on_record, at_found, for_first}
use Rattle.source_meaning.specs.Changes.{with_record, joins_chain, at_free, seizes, opens_fields}
use Rattle.source_meaning.specs.Changes.{opens_record, frees, activates, asks, posts, sends}
use Rattle.source_meaning.specs.Changes.{returns, value_count, at_receiver, to_receiver, chosen}
use Rattle.source_meaning.specs.Effects.{answered}
use Rattle.source_meaning.specs.Step.{does, starts, count, does_first, step}

-- these touches before those of the job
abbrev pub led : List Touch → Config → Config
led ts c = record c { world = record c.world { trace = ts ++ c.world.trace } }

module _ (ts : List Touch) where
  -- what goes on with a job makes the same touches, whatever stands before them
  abbrev Leads : (Config → Config) → Type 0
  Leads f = (c : Config) → f (led ts c) ≡ led ts (f c)

  abbrev looked : List Touch → Config → Config
  looked loads c = record c { world = seen loads c.world }

  led_seen : (loads : List Touch) → Leads (looked loads)
  led_seen loads c = ap (λ u. record c { world = record c.world { trace = u } }) (append_assoc ts c.world.trace loads)

  led_cell : (cell v : ℕ) → Leads (sets_cell cell v)
  led_cell cell v c = ap (λ u. record (sets_cell cell v c) { world = record (sets_cell cell v c).world { trace = u } })
      (append_assoc ts c.world.trace (Store cell v ∷ []))

  led_value : (got : Got) (c : Config) (go : ℕ → Config → Config) → ((v : ℕ) → Leads (go v)) → on_value got (led ts c) go ≡ led ts (on_value got c go)
  led_value (Gives loads v) c go more = ap (go v) (led_seen loads c) ∙ more v (looked loads c)
  led_value (Fails loads f) c go more = ap (fails f) (led_seen loads c)

  led_if : (b : Bool) (f g : Config → Config) → Leads f → Leads g → (c : Config) → (if b then f (led ts c) else g (led ts c)) ≡ led ts (if b then f c else g c)
  led_if true f g first other c = first c
  led_if false f g first other c = other c

  led_zero : (v : ℕ) (f g : Config → Config) → Leads f → Leads g → (c : Config) → at_zero v (f (led ts c)) (g (led ts c)) ≡ led ts (at_zero v (f c) (g c))
  led_zero zero f g first other c = first c
  led_zero (suc v) f g first other c = other c

  led_fits : (v width : ℕ) (go : Config → Config) → Leads go → Leads (λ c. where_fits v width c go)
  led_fits v width go more c = led_if (nat_lt v (2 ^ width)) go (fails fault.Range) more (λ d. refl) c

  led_unless : (found : Option Fault) (go : Config → Config) → Leads go → Leads (λ c. unless_fault found c go)
  led_unless None go more c = more c
  led_unless (Some f) go more c = refl

  led_record : (found : Option Placed) (file number : ℕ) (go : Placed → Config → Config) → ((p : Placed) → Leads (go p))
      → Leads (λ c. at_record found file number c go)
  led_record None file number go more c = refl
  led_record (Some p) file number go more c = led_unless (pointer_fault c.own.chain file p number) (go p) (more p) c

  led_search : (cell_of : ℕ → ℕ) (test : ℕ → Bool) (size : ℕ) (go : Option ℕ → Config → Config)
      → ((number : Option ℕ) → Leads (go number)) → Leads (λ c. on_record cell_of test size c go)
  led_search cell_of test size go more c =
      let number = least_record (λ n. test (slice_index c.world.store (cell_of n))) size in
      let loads = record_loads cell_of (looked_at number size) c.world.store in
      ap (go number) (led_seen loads c) ∙ more number (looked loads c)

  led_ends : (ks : List Caller) → Leads (ends ks)
  led_ends [] c = refl
  led_ends (k ∷ ks) c = refl

  -- a record that is opened
  led_fields : (p : Placed) (number field : ℕ) (fields : List Variable) → Leads (λ c. record c { world = opens_fields p number field fields c.world })
  led_fields p number field [] c = refl
  led_fields p number field (v ∷ rest) c =
      ap (λ (d : Config). record d { world = opens_fields p number (field + 1) rest d.world }) (led_cell (field_cell p number field) v.init c)
      ∙ led_fields p number (field + 1) rest (sets_cell (field_cell p number field) v.init c)

  led_opens : (p : Placed) (number : ℕ) → Leads (λ c. record c { world = opens_record p number c.world })
  led_opens p number c =
      ap (sets_cell (mark_cell p number) 0) (led_fields p number 0 p.file.fields c)
      ∙ led_cell (mark_cell p number) 0 (record c { world = opens_fields p number 0 p.file.fields c.world })

  module _ (x : Exchange) where
    led_values : (es : List Expr) (vs : List ℕ) (c : Config) (go : List ℕ → Config → Config)
        → ((vs : List ℕ) → Leads (go vs)) → on_values x es vs (led ts c) go ≡ led ts (on_values x es vs c go)
    led_values [] vs c go more = more vs c
    led_values (e ∷ es) vs c go more = led_value (expr_value e (sight x c)) c
        (λ v d. on_values x es (vs ++ v ∷ []) d go) (λ v d. led_values es (vs ++ v ∷ []) d go more)

    led_found : (temp label : ℕ) (rest : List Item) (number : Option ℕ) → Leads (at_found x temp label rest number)
    led_found temp label rest None c = refl
    led_found temp label rest (Some number) c = refl

    led_first : (found : Option Placed) (temp field : ℕ) (rel : Rel) (v label : ℕ) (rest : List Item) → Leads (for_first x found temp field rel v label rest)
    led_first None temp field rel v label rest c = refl
    led_first (Some p) temp field rel v label rest c = led_search (λ n. field_cell p n field) (λ w. stands rel w v)
        p.file.size (at_found x temp label rest) (led_found temp label rest) c

    led_joins : (p : Placed) (file temp number : ℕ) (rest : List Item) → Leads (joins_chain p file temp number rest)
    led_joins p file temp number rest c =
        led_if (nat_lt (length c.own.chain) MOST_HELD)
        (λ d. goes rest (sets_temp temp number (sets_cell (mark_cell p number) 1 (with_record file number d))))
        (fails fault.Chain)
        (λ d. ap (λ (e : Config). goes rest (sets_temp temp number e)) (led_cell (mark_cell p number) 1 (with_record file number d))) (λ d. refl) c

    led_free : (p : Placed) (file temp label : ℕ) (rest : List Item) (number : Option ℕ) → Leads (at_free x p file temp label rest number)
    led_free p file temp label rest None c = refl
    led_free p file temp label rest (Some number) c = led_joins p file temp number rest c

    led_seizes : (found : Option Placed) (file temp label : ℕ) (rest : List Item) → Leads (seizes x found file temp label rest)
    led_seizes None file temp label rest c = refl
    led_seizes (Some p) file temp label rest c =
        led_if (nat_eq c.own.forlopp 0) (fails fault.NoForlopp)
        (λ d. on_record (mark_cell p) (λ mark. nat_eq mark 0) p.file.size d (at_free x p file temp label rest))
        (λ d. refl)
        (led_search (mark_cell p) (λ mark. nat_eq mark 0) p.file.size (at_free x p file temp label rest) (led_free p file temp label rest)) c

    led_posts : (to : SendTo) (rest : List Item) (vs : List ℕ) → Leads (posts to rest vs)
    led_posts to rest vs c =
        led_if (nat_lt (length c.own.sends) MOST_SENT)
        (λ d. goes rest (record d {
          own = record d.own
              { sends = d.own.sends ++ record { to = to; values = vs } ∷ [] };
        })) (fails fault.Sends) (λ d. refl)
        (λ d. refl) c

    led_asks : (b signal answer : ℕ) (rest : List Item) (vs : List ℕ) → Leads (asks x b signal answer rest vs)
    led_asks b signal answer rest vs c =
        led_if (nat_lt (length c.callers) MOST_CALLERS)
        (λ d. activates x b signal vs (record d {
          callers = record { block = d.block; todo = rest; temps = d.temps; given = d.own.given; awaits = answer }
              ∷ d.callers;
        })) (fails fault.Depth) (λ d. refl) (λ d. refl) c

    led_sends : (kind : Option SignalKind) (signal b : ℕ) (fresh : Bool) (rest : List Item) (vs : List ℕ) → Leads (sends x kind signal b fresh rest vs)
    led_sends (Some (Buffered name level count)) signal b fresh rest vs c = led_posts (sent_to.Queue (entry_number x b signal) level fresh) rest vs c
    led_sends (Some (Direct name count)) signal b fresh rest vs c = refl
    led_sends (Some (Combined name count answer)) signal b fresh rest vs c = led_asks b signal answer rest vs c
    led_sends (Some (Outside name count)) signal b fresh rest vs c = led_posts (sent_to.Outside signal) rest vs c
    led_sends (Some (Answer name count combined)) signal b fresh rest vs c = refl
    led_sends None signal b fresh rest vs c = refl

    led_returns : (ks : List Caller) (answer : ℕ) (vs : List ℕ) → Leads (returns ks answer vs)
    led_returns [] answer vs c = refl
    led_returns (k ∷ ks) answer vs c = led_if (nat_eq k.awaits answer) (answered k ks vs) (fails fault.BadEnd) (λ d. refl) (λ d. refl) c

    led_at : (found : Option ℕ) (go : ℕ → Config → Config) → ((b : ℕ) → Leads (go b)) → Leads (λ c. at_receiver found c go)
    led_at None go more c = refl
    led_at (Some b) go more c = more b c

    led_receiver : (signal : ℕ) (to : Option Receiver) (c : Config) (go : ℕ → Config → Config)
        → ((b : ℕ) → Leads (go b)) → to_receiver x signal to (led ts c) go ≡ led ts (to_receiver x signal to c go)
    led_receiver signal None c go more = more 0 c
    led_receiver signal (Some (receiver.Block b)) c go more = more b c
    led_receiver signal (Some (receiver.Held h)) c go more = led_value (holder_value h (sight x c)) c
        (λ v d. at_receiver (receiver_of x signal v) d go) (λ v. led_at (receiver_of x signal v) go more)

    led_does : (p : ℕ) (l : Layer) (rest : List Item) → Leads (does x p l rest)
    led_does p (stmt.Enter signal temps) rest c = refl
    led_does p (stmt.SetTemp temp e) rest c = led_value (expr_value e (sight x c)) c (λ v d. goes rest (sets_temp temp v d)) (λ v d. refl)
    led_does p (stmt.SetVariable variable e) rest c =
        let width = variable_width x c.block variable in
        let cell = base_of x c.block + variable in
        led_value (expr_value e (sight x c)) c (λ v d. where_fits v width d (λ d. goes rest (sets_cell cell v d)))
        (λ v. led_fits v width (λ d. goes rest (sets_cell cell v d)) (λ d. ap (goes rest) (led_cell cell v d)))
    led_does p (stmt.SetField file field pointer e) rest c =
        led_value (expr_value e (sight x c)) c
        (λ v d. at_record (slice_get (files_of x) file) file (slice_index d.temps pointer) (goes rest d)
        (sets_field (slice_index d.temps pointer) field v))
        (λ v d. led_record (slice_get (files_of x) file) file (slice_index d.temps pointer) (sets_field (slice_index d.temps pointer) field v)
        (λ placed. led_fits v (field_width placed field)
        (sets_cell (field_cell placed (slice_index d.temps pointer) field) v)
        (led_cell (field_cell placed (slice_index d.temps pointer) field) v)) (goes rest d))
    led_does p (stmt.Goto label) rest c = refl
    led_does p (stmt.IfGoto cond label) rest c =
        led_value (cond_value cond (sight x c)) c (λ v d. at_zero v (goes rest d) (to_label x label d))
        (λ v. led_zero v (goes rest) (to_label x label) (λ d. refl) (λ d. refl))
    led_does p (stmt.If cond yes_part no_part) rest c =
        led_value (cond_value cond (sight x c)) c (λ v d. at_zero v (goes (map Do no_part ++ rest) d) (goes (map Do yes_part ++ rest) d))
        (λ v. led_zero v (goes (map Do no_part ++ rest)) (goes (map Do yes_part ++ rest)) (λ d. refl) (λ d. refl))
    led_does p (stmt.Case e whens otherwise) rest c = led_value (expr_value e (sight x c)) c
        (λ v d. goes (map Do (chosen whens v otherwise) ++ rest) d) (λ v d. refl)
    led_does p (stmt.On temp from upto body) rest c =
        let last = λ (a b : ℕ) (d : Config). goes (Turns p temp a b body ∷ rest) d in
        led_value (expr_value from (sight x c)) c (λ a d. on_value (expr_value upto (sight x d)) d (last a))
        (λ a d. led_value (expr_value upto (sight x d)) d (last a) (λ b e. refl))
    led_does p (stmt.ForFirst temp file field rel e label) rest c =
        led_value (expr_value e (sight x c)) c
        (λ v d. for_first x (slice_get (files_of x) file) temp field rel v label rest d)
        (λ v. led_first (slice_get (files_of x) file) temp field rel v label rest)
    led_does p (stmt.Send signal to values fresh) rest c =
        let kind = slice_get x.signals signal in
        led_receiver signal to c (λ b d. on_values x values [] d (sends x kind signal b fresh rest))
        (λ b d. led_values values [] d (sends x kind signal b fresh rest) (led_sends kind signal b fresh rest))
    led_does p (stmt.Retrieve answer temps) rest c = refl
    led_does p (stmt.Return answer values) rest c = led_values values [] c (λ vs d. returns d.callers answer vs d) (λ vs d. led_returns d.callers answer vs d)
    led_does p (stmt.Transfer signal to) rest c = led_receiver signal to c
        (λ b d. activates x b signal (take (value_count x signal) d.own.given) d) (λ b d. refl)
    led_does p (stmt.Seize temp file label) rest c = led_seizes (slice_get (files_of x) file) file temp label rest c
    led_does p (stmt.Free temp file) rest c =
        let number = slice_index c.temps temp in
        led_record (slice_get (files_of x) file) file number (frees file number)
        (λ placed d. led_opens placed number
        (record d { own = record d.own { chain = without d.own.chain file number } })) (goes rest c)
    led_does p stmt.Exit rest c = led_ends c.callers c
    led_does p stmt.Finish rest c = led_ends c.callers c

    led_starts : (l : Layer) (rest : List Item) → Leads (starts l rest)
    led_starts (stmt.Enter signal temps) rest c = refl
    led_starts (stmt.SetTemp temp e) rest c = refl
    led_starts l rest c = refl

    led_count : (p : ℕ) (go : Config → Config) → Leads go → Leads (λ c. count p c go)
    led_count p go more c = led_if (nat_lt c.own.count budget) go (fails fault.Budget) more (λ d. refl) (record c { own = counted p c.own })

    led_items : (items : List Item) → Leads (does_first x items)
    led_items [] c = led_ends c.callers c
    led_items (Do s ∷ rest) c = led_count s.point (does x s.point (out-StmtKind s.kind) rest) (led_does s.point (out-StmtKind s.kind) rest) c
    led_items (Start s ∷ rest) c = led_count s.point (starts (out-StmtKind s.kind) rest) (led_starts (out-StmtKind s.kind) rest) c
    led_items (Turns p temp this end body ∷ rest) c = led_count p
        (λ d. goes (map Do body ++ (Turns p temp (this + 1) end body ∷ rest)) (sets_temp temp this d)) (λ d. refl) c

    pub step_led : (c : Config) → step x (led ts c) ≡ led ts (step x c)
    unfolding step
    step_led c = led_items (next_counted c.todo) c
