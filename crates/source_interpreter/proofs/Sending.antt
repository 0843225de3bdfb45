-- What a statement that sends a signal or answers one does.
use Rattle.std.proofs.Common.{◌≡◌, ℕ, ◌<◌, ◌≤◌, Bool, true, false, List, [], ◌∷◌, ◌++◌, length}
use Rattle.std.proofs.Common.{take, Option, Some, None, Result, Ok, Err, refl, ap, sym, ◌∙◌, subst}
use Rattle.std.proofs.Common.{slice_get, arith}
use Rattle.std.specs.Prelude.{nat_lt, nat_eq, if◌then◌else◌}
use Rattle.std.specs.Option.{option_to_list}
use Rattle.std.proofs.lemmas.Bool.Decides.{nat_tests}
use Rattle.plex_limits.specs.declared.limits.TheConstants.{MOST_CALLERS, MOST_SENT}
use Rattle.plex_num.specs.declared.level.Level.{Level}
use Rattle.job_types.specs.declared.fault.Fault.{Fault}
use Rattle.job_types.specs.declared.fault.Fault.TheVariants as fault
use Rattle.job_types.specs.declared.outbox.SendTo.{SendTo}
use Rattle.job_types.specs.declared.outbox.SendTo.TheVariants as sent_to
use Rattle.job_types.specs.declared.touch.Touch.{Touch}
use Rattle.exchange_model.specs.declared.exchange.Exchange.{Exchange}
use Rattle.exchange_model.specs.declared.expr.Expr.{Expr}
use Rattle.exchange_model.specs.declared.signal.SignalKind.{SignalKind}
use Rattle.exchange_model.specs.declared.signal.SignalKind.TheVariants.{Buffered, Direct, Combined}
use Rattle.exchange_model.specs.declared.signal.SignalKind.TheVariants.{Answer as Answers, Outside}
use Rattle.exchange_model.specs.declared.stmt.Receiver.{Receiver}
use Rattle.exchange_model.specs.declared.stmt.Receiver.TheVariants as receiver
use Rattle.exchange_model.specs.declared.stmt.StmtKind.TheOpen as stmt
use Rattle.source_meaning.specs.Value.{Got, Gives, Fails, answer_of, holder_value, values_of}
use Rattle.source_meaning.specs.Config.{Config, Item, Caller, entry_number, receiver_of}
use Rattle.job_types.specs.Own.{eight}
use Rattle.source_meaning.specs.Step.{does}
use Rattle.source_meaning.specs.Changes.{on_value, on_values, to_receiver, at_receiver, sends}
use Rattle.source_meaning.specs.Changes.{posts, activates, asks, returns, value_count, fails}
use Rattle.source_interpreter.specs.Reached.{or_pointer, named_by, reached}
use Rattle.source_interpreter.specs.Running.{Running, sight_of, activated, posted, waiting, resumed}
use Rattle.source_interpreter.specs.Running.{with_temps}
use Rattle.source_interpreter.specs.Leaves.{Leaves, Follows, Leads, Does, to_kind}
use Rattle.source_interpreter.specs.declared.stop.Stop.{Stop}
use Rattle.source_interpreter.specs.declared.stop.Stop.TheVariants as stop
use Rattle.source_interpreter.proofs.Follow.{Answer, start_of, fault_in, values_go, values_stop}
use Rattle.source_interpreter.proofs.Follow.{checked, test_goes, test_stops, fails_is_over, stands}
use Rattle.source_interpreter.proofs.Follow.{as_fault, as_memory}

-- the receiver

abbrev block_in : ℕ → Result ℕ Fault → ℕ
block_in d (Ok b) = b
block_in d (Err f) = d

-- the block that a reference names is there, or not
named_goes : (found : Option ℕ) (b : ℕ) (go : ℕ → Config → Config) (x : Exchange) (r : Running) (s : List ℕ)
    (t : List Touch) (todo : List Item) (o : Answer) (r' : Running) (s' : List ℕ) → Ok b ≡ or_pointer found
    → Leaves x s (go b (start_of r s t todo)) o r' s' → Leaves x s (at_receiver found (start_of r s t todo) go) o r' s'
named_goes None b go x r s t todo o r' s' is more = cc
named_goes (Some c) b go x r s t todo o r' s' is more =
    let P : ℕ → Type 0 = λ n. Leaves x s (go n (start_of r s t todo)) o r' s' in
    subst P (ap (block_in b) is) more

named_stops : (found : Option ℕ) (f : Fault) (go : ℕ → Config → Config) (x : Exchange) (r : Running) (s : List ℕ)
    (t : List Touch) (todo : List Item) → Err f ≡ or_pointer found
    → Leaves x s (at_receiver found (start_of r s t todo) go) (Err (stop.Fault f)) r s
named_stops None f go x r s t todo is =
    let P : Fault → Type 0 = λ h. Leaves x s (fails fault.Pointer (start_of r s t todo)) (Err (stop.Fault h)) r s in
    subst P (sym (ap (fault_in f) is)) (fails_is_over fault.Pointer r s t todo)
named_stops (Some c) f go x r s t todo is = cc

-- a holder's value is looked up after its loads
held_goes : (got : Got) (signal b : ℕ) (go : ℕ → Config → Config) (r : Running) (s : List ℕ) (trace : List Touch)
    (todo : List Item) (o : Answer) (r' : Running) (s' : List ℕ) → Ok b ≡ named_by r.exchange signal (answer_of got)
    → ((t : List Touch) → Leaves r.exchange s (go b (start_of r s t todo)) o r' s')
    → Leaves r.exchange s (on_value got (start_of r s trace todo)
    (λ v d. at_receiver (receiver_of r.exchange signal v) d go)) o r' s'
held_goes (Gives loads v) signal b go r s trace todo o r' s' is more =
    named_goes (receiver_of r.exchange signal v) b go r.exchange r s (trace ++ loads) todo o r' s' is (more (trace ++ loads))
held_goes (Fails loads f) signal b go r s trace todo o r' s' is more = cc

held_stops : (got : Got) (signal : ℕ) (f : Fault) (go : ℕ → Config → Config) (r : Running) (s : List ℕ)
    (trace : List Touch) (todo : List Item) → Err f ≡ named_by r.exchange signal (answer_of got)
    → Leaves r.exchange s (on_value got (start_of r s trace todo)
    (λ v d. at_receiver (receiver_of r.exchange signal v) d go)) (Err (stop.Fault f)) r s
held_stops (Gives loads v) signal f go r s trace todo is = named_stops (receiver_of r.exchange signal v) f go r.exchange r s (trace ++ loads) todo is
held_stops (Fails loads g) signal f go r s trace todo is =
    let P : Fault → Type 0 = λ h. Leaves r.exchange s (fails g (start_of r s (trace ++ loads) todo)) (Err (stop.Fault h)) r s in
    subst P (sym (ap (fault_in f) is)) (fails_is_over g r s (trace ++ loads) todo)

receiver_goes : (signal b : ℕ) (to : Option Receiver) (go : ℕ → Config → Config) (r : Running) (s : List ℕ)
    (trace : List Touch) (todo : List Item) (o : Answer) (r' : Running) (s' : List ℕ)
    → Ok b ≡ reached r.exchange signal to (sight_of r s)
    → ((t : List Touch) → Leaves r.exchange s (go b (start_of r s t todo)) o r' s')
    → Leaves r.exchange s (to_receiver r.exchange signal to (start_of r s trace todo) go) o r' s'
receiver_goes signal b None go r s trace todo o r' s' is more =
    let P : ℕ → Type 0 = λ n. Leaves r.exchange s (go n (start_of r s trace todo)) o r' s' in
    subst P (ap (block_in b) is) (more trace)
receiver_goes signal b (Some (receiver.Block c)) go r s trace todo o r' s' is more =
    let P : ℕ → Type 0 = λ n. Leaves r.exchange s (go n (start_of r s trace todo)) o r' s' in
    subst P (ap (block_in b) is) (more trace)
receiver_goes signal b (Some (receiver.Held h)) go r s trace todo o r' s' is more =
    held_goes (holder_value h (sight_of r s)) signal b go r s trace todo o r' s' is more

receiver_stops : (signal : ℕ) (to : Option Receiver) (f : Fault) (go : ℕ → Config → Config) (r : Running) (s : List ℕ)
    (trace : List Touch) (todo : List Item) → Err f ≡ reached r.exchange signal to (sight_of r s)
    → Leaves r.exchange s (to_receiver r.exchange signal to (start_of r s trace todo) go) (Err (stop.Fault f)) r s
receiver_stops signal None f go r s trace todo is = cc
receiver_stops signal (Some (receiver.Block c)) f go r s trace todo is = cc
receiver_stops signal (Some (receiver.Held h)) f go r s trace todo is = held_stops (holder_value h (sight_of r s)) signal f go r s trace todo is

-- a signal with its values

abbrev with_values : Running → ℕ → List Expr → Bool → ℕ → Config → Config
with_values r signal es fresh b d = on_values r.exchange es [] d (to_kind r signal b fresh)

module _ (r : Running) (s : List ℕ) (signal : ℕ) (to : Option Receiver) (es : List Expr) (fresh : Bool) where
  pub send_lost : (f : Fault) (o : Stop) → Err f ≡ reached r.exchange signal to (sight_of r s) → o ≡ stop.Fault f
      → Does (stmt.Send signal to es fresh) r s (Err o) r s
  send_lost f o lost is =
      as_fault (does r.exchange r.own.point (stmt.Send signal to es fresh) r.todo) r s f o r s is
      (λ trace todo. receiver_stops signal to f (with_values r signal es fresh) r s trace todo lost)

  pub send_stops : (b : ℕ) (f : Fault) (o : Stop) → Ok b ≡ reached r.exchange signal to (sight_of r s)
      → Err f ≡ values_of es [] (sight_of r s) → o ≡ stop.Fault f → Does (stmt.Send signal to es fresh) r s (Err o) r s
  send_stops b f o there values is =
      as_fault (does r.exchange r.own.point (stmt.Send signal to es fresh) r.todo) r s f o r s is (λ trace todo.
      receiver_goes signal b to (with_values r signal es fresh) r s trace todo (Err (stop.Fault f)) r s there (λ t.
      values_stop es [] f (to_kind r signal b fresh) r.exchange r s t todo values))

  pub send_goes : (b : ℕ) (vs : List ℕ) (o : Answer) (r' : Running) → Ok b ≡ reached r.exchange signal to (sight_of r s)
      → Ok vs ≡ values_of es [] (sight_of r s) → Leads (to_kind r signal b fresh vs) r o r'
      → Does (stmt.Send signal to es fresh) r s o r' s
  send_goes b vs o r' there values follows = record {
    leaves = λ trace todo. receiver_goes signal b to (with_values r signal es fresh) r s trace todo o r' s there (λ t.
        values_go es [] vs (to_kind r signal b fresh) r.exchange r s t todo o r' s values (λ u. (follows s).leaves u todo));
  }

-- the outbox

posts_goes : (r r' : Running) (s : List ℕ) (to : SendTo) (vs : List ℕ) (t : List Touch) (todo : List Item)
    → Ok tt ≡ checked (nat_lt (length r.own.sends) MOST_SENT) fault.Sends → r' ≡ posted to vs r
    → Leaves r.exchange s (posts to r.todo vs (start_of r s t todo)) (Ok tt) r' s
posts_goes r r' s to vs t todo room is =
    test_goes (nat_lt (length r.own.sends) MOST_SENT) fault.Sends (start_of (posted to vs r) s t r.todo)
    (fails fault.Sends (start_of r s t todo)) r.exchange s (Ok tt) r' s room
    (stands r.exchange (posted to vs r) r' s t refl is)

posts_stops : (r r' : Running) (s : List ℕ) (to : SendTo) (vs : List ℕ) (f : Fault) (t : List Touch) (todo : List Item)
    → Err f ≡ checked (nat_lt (length r.own.sends) MOST_SENT) fault.Sends → r' ≡ r
    → Leaves r.exchange s (posts to r.todo vs (start_of r s t todo)) (Err (stop.Fault f)) r' s
posts_stops r r' s to vs f t todo full is =
    let P : Running → Type 0 = λ q. Leaves r.exchange s (posts to r.todo vs (start_of r s t todo)) (Err (stop.Fault f)) q s in
    subst P (sym is) (test_stops (nat_lt (length r.own.sends) MOST_SENT) fault.Sends f (start_of (posted to vs r) s t r.todo) r.exchange r s t todo full)

-- by its kind
module _ (r : Running) (signal b : ℕ) (fresh : Bool) (vs : List ℕ) (k : SignalKind) (known : slice_get r.exchange.signals signal ≡ Some k) where
  at_kind : (to : SignalKind) (o : Answer) (r' : Running) (s : List ℕ) (t : List Touch) (todo : List Item) → k ≡ to
      → Leaves r.exchange s (sends r.exchange (Some to) signal b fresh r.todo vs (start_of r s t todo)) o r' s
      → Leaves r.exchange s (to_kind r signal b fresh vs (start_of r s t todo)) o r' s
  at_kind to o r' s t todo same more =
      let P : Option SignalKind → Type 0 = λ q. Leaves r.exchange s (sends r.exchange q signal b fresh r.todo vs (start_of r s t todo)) o r' s in
      subst P (sym (known ∙ ap Some same)) more

  pub sends_buffered : (s : List ℕ) (r' : Running) (name : List ℕ) (level : Level) (count entry : ℕ)
      → k ≡ Buffered name level count → entry ≡ entry_number r.exchange b signal
      → Ok tt ≡ checked (nat_lt (length r.own.sends) MOST_SENT) fault.Sends
      → r' ≡ posted (sent_to.Queue entry level fresh) vs r → Follows (to_kind r signal b fresh vs) r s (Ok tt) r' s
  sends_buffered s r' name level count entry same number room is = record {
    leaves = λ t todo. at_kind (Buffered name level count) (Ok tt) r' s t todo same
        (posts_goes r r' s (sent_to.Queue (entry_number r.exchange b signal) level fresh) vs t todo room
        (is ∙ ap (λ n. posted (sent_to.Queue n level fresh) vs r) number));
  }

  pub sends_buffered_full : (s : List ℕ) (r' : Running) (name : List ℕ) (level : Level) (count : ℕ) (f : Fault)
      (o : Stop) → k ≡ Buffered name level count → Err f ≡ checked (nat_lt (length r.own.sends) MOST_SENT) fault.Sends
      → r' ≡ r → o ≡ stop.Fault f → Follows (to_kind r signal b fresh vs) r s (Err o) r' s
  sends_buffered_full s r' name level count f o same full is answers =
      as_fault (to_kind r signal b fresh vs) r s f o r' s answers (λ t todo. at_kind (Buffered name level count) (Err (stop.Fault f)) r' s t todo same
      (posts_stops r r' s (sent_to.Queue (entry_number r.exchange b signal) level fresh) vs f t todo full is))

  pub sends_outside : (s : List ℕ) (r' : Running) (name : List ℕ) (count : ℕ) → k ≡ Outside name count
      → Ok tt ≡ checked (nat_lt (length r.own.sends) MOST_SENT) fault.Sends → r' ≡ posted (sent_to.Outside signal) vs r
      → Follows (to_kind r signal b fresh vs) r s (Ok tt) r' s
  sends_outside s r' name count same room is = record {
    leaves = λ t todo. at_kind (Outside name count) (Ok tt) r' s t todo same (posts_goes r r' s (sent_to.Outside signal) vs t todo room is);
  }

  pub sends_outside_full : (s : List ℕ) (r' : Running) (name : List ℕ) (count : ℕ) (f : Fault) (o : Stop)
      → k ≡ Outside name count → Err f ≡ checked (nat_lt (length r.own.sends) MOST_SENT) fault.Sends → r' ≡ r
      → o ≡ stop.Fault f → Follows (to_kind r signal b fresh vs) r s (Err o) r' s
  sends_outside_full s r' name count f o same full is answers =
      as_fault (to_kind r signal b fresh vs) r s f o r' s answers (λ t todo. at_kind (Outside name count) (Err (stop.Fault f)) r' s t todo same
      (posts_stops r r' s (sent_to.Outside signal) vs f t todo full is))

  pub sends_direct : (s : List ℕ) (r' : Running) (name : List ℕ) (count : ℕ) → k ≡ Direct name count
      → r' ≡ activated b signal vs r → Follows (to_kind r signal b fresh vs) r s (Ok tt) r' s
  sends_direct s r' name count same is = record {
    leaves = λ t todo. at_kind (Direct name count) (Ok tt) r' s t todo same (stands r.exchange (activated b signal vs r) r' s t refl is);
  }

  pub sends_combined : (s : List ℕ) (r' : Running) (name : List ℕ) (count answer : ℕ) (o : Answer)
      → k ≡ Combined name count answer → Leads (asks r.exchange b signal answer r.todo vs) r o r'
      → Follows (to_kind r signal b fresh vs) r s o r' s
  sends_combined s r' name count answer o same follows = record {
    leaves = λ t todo. at_kind (Combined name count answer) o r' s t todo same ((follows s).leaves t todo);
  }

  pub sends_answer : (s : List ℕ) (name : List ℕ) (count combined : ℕ) → k ≡ Answers name count combined → Follows (to_kind r signal b fresh vs) r s (Ok tt) r s
  sends_answer s name count combined same = record {
    leaves = λ t todo. at_kind (Answers name count combined) (Ok tt) r s t todo same (stands r.exchange r r s t refl refl);
  }

pub sends_unknown : (r : Running) (signal b : ℕ) (fresh : Bool) (vs : List ℕ) (s : List ℕ)
    → slice_get r.exchange.signals signal ≡ None → Follows (to_kind r signal b fresh vs) r s (Ok tt) r s
sends_unknown r signal b fresh vs s none = record {
  leaves = λ t todo.
      let P : Option SignalKind → Type 0 = λ q. Leaves r.exchange s (sends r.exchange q signal b fresh r.todo vs (start_of r s t todo)) (Ok tt) r s in
      subst P (sym none) (stands r.exchange r r s t refl refl);
}

-- a combined signal

abbrev asked : Bool → Running → ℕ → ℕ → ℕ → List ℕ → Config → Config
asked room r b signal answer vs c =
    if room then activates r.exchange b signal vs
    (record c {
      callers = record {
        block = c.block;
        todo = r.todo;
        temps = c.temps;
        given = c.own.given;
        awaits = answer;
      } ∷ c.callers;
    }) else fails fault.Depth c

pub asks_goes : (n b signal answer : ℕ) (vs : List ℕ) (r r1 r' : Running) (s : List ℕ) → n ≡ length r.callers
    → n < MOST_CALLERS → r1 ≡ waiting answer r → r' ≡ activated b signal vs r1
    → Follows (asks r.exchange b signal answer r.todo vs) r s (Ok tt) r' s
asks_goes n b signal answer vs r r1 r' s many few waits is =
    let room : nat_lt (length r.callers) MOST_CALLERS ≡ true = grind (arith, nat_tests) in
    let P : List Touch → List Item → Bool → Type 0 = λ trace todo q. Leaves r.exchange s
    (asked q r b signal answer vs (start_of r s trace todo)) (Ok tt) r' s in
    record {
      leaves = λ trace todo. subst (P trace todo) (sym room)
          (stands r.exchange (activated b signal vs (waiting answer r)) r' s trace refl
          (is ∙ ap (activated b signal vs) waits));
    }

pub asks_deep : (n b signal answer : ℕ) (vs : List ℕ) (r : Running) (s : List ℕ) → n ≡ length r.callers
    → MOST_CALLERS ≤ n → Follows (asks r.exchange b signal answer r.todo vs) r s (Err (stop.Fault fault.Depth)) r s
asks_deep n b signal answer vs r s many deep =
    let full : nat_lt (length r.callers) MOST_CALLERS ≡ false = grind (arith, nat_tests) in
    let P : List Touch → List Item → Bool → Type 0 = λ trace todo q. Leaves r.exchange s
    (asked q r b signal answer vs (start_of r s trace todo)) (Err (stop.Fault fault.Depth)) r s in
    record { leaves = λ trace todo. subst (P trace todo) (sym full) (fails_is_over fault.Depth r s trace todo) }

pub retrieve_goes : (r r' : Running) (s : List ℕ) (answer : ℕ) (temps : List ℕ) → r' ≡ with_temps temps r.own.answers r
    → Does (stmt.Retrieve answer temps) r s (Ok tt) r' s
retrieve_goes r r' s answer temps is = record { leaves = λ trace todo. stands r.exchange (with_temps temps r.own.answers r) r' s trace refl is }

-- TRANSFER

abbrev passed_on : Running → ℕ → ℕ → Config → Config
passed_on r signal b d = activates r.exchange b signal (take (value_count r.exchange signal) d.own.given) d

pub transfer_goes : (r r' : Running) (s : List ℕ) (signal b count : ℕ) (to : Option Receiver)
    → Ok b ≡ reached r.exchange signal to (sight_of r s) → count ≡ value_count r.exchange signal
    → r' ≡ activated b signal (take count r.own.given) r → Does (stmt.Transfer signal to) r s (Ok tt) r' s
transfer_goes r r' s signal b count to there many is = record {
  leaves = λ trace todo. receiver_goes signal b to (passed_on r signal) r s trace todo (Ok tt) r' s there (λ t.
      stands r.exchange (activated b signal (take (value_count r.exchange signal) r.own.given) r) r' s t refl
      (is ∙ ap (λ n. activated b signal (take n r.own.given) r) many));
}

pub transfer_lost : (r : Running) (s : List ℕ) (signal : ℕ) (to : Option Receiver) (f : Fault) (o : Stop)
    → Err f ≡ reached r.exchange signal to (sight_of r s) → o ≡ stop.Fault f
    → Does (stmt.Transfer signal to) r s (Err o) r s
transfer_lost r s signal to f o lost is =
    as_fault (does r.exchange r.own.point (stmt.Transfer signal to) r.todo) r s f o r s is
    (λ trace todo. receiver_stops signal to f (passed_on r signal) r s trace todo lost)

-- an answer

abbrev after_return : ℕ → List ℕ → Config → Config
after_return answer vs d = returns d.callers answer vs d

pub return_stops : (r : Running) (s : List ℕ) (answer : ℕ) (es : List Expr) (f : Fault) (o : Stop)
    → Err f ≡ values_of es [] (sight_of r s) → o ≡ stop.Fault f → Does (stmt.Return answer es) r s (Err o) r s
return_stops r s answer es f o values is =
    as_fault (does r.exchange r.own.point (stmt.Return answer es) r.todo) r s f o r s is
    (λ trace todo. values_stop es [] f (after_return answer) r.exchange r s trace todo values)

module _ (r r1 : Running) (s : List ℕ) (answer : ℕ) (es : List Expr) (vs : List ℕ) (values : Ok vs ≡ values_of es [] (sight_of r s)) where
  -- the callers are these
  at_callers : (ks : List Caller) (a : Answer) (q : Running) (trace : List Touch) (todo : List Item) → r.callers ≡ ks
      → ((t : List Touch) → Leaves r.exchange s (returns ks answer vs (start_of r s t todo)) a q s)
      → Leaves r.exchange s (does r.exchange r.own.point (stmt.Return answer es) r.todo (start_of r s trace todo)) a q s
  at_callers ks a q trace todo is more = values_go es [] vs (after_return answer) r.exchange r s trace todo a q s values (λ t.
      let P : List Caller → Type 0 = λ l. Leaves r.exchange s (returns l answer vs (start_of r s t todo)) a q s in
      subst P (sym is) (more t))

  wrong : (a : Answer) (ks : List Caller) → r1 ≡ record r { callers = ks }
      → ((trace : List Touch) (todo : List Item)
      → Leaves r.exchange s (does r.exchange r.own.point (stmt.Return answer es) r.todo (start_of r s trace todo)) a
      (record r { callers = ks }) s) → Does (stmt.Return answer es) r s a r1 s
  wrong a ks is leaves =
      let P : Running → Type 0 = λ q. Does (stmt.Return answer es) r s a q s in
      subst P (sym is) (record { leaves = leaves })

  pub return_alone : (ks : List Caller) → r.callers ≡ [] → r1 ≡ record r { callers = ks }
      → Does (stmt.Return answer es) r s (Err (stop.Fault fault.BadEnd)) r1 s
  return_alone ks none is =
      wrong (Err (stop.Fault fault.BadEnd)) ks is
      (λ trace todo. at_callers [] (Err (stop.Fault fault.BadEnd)) (record r { callers = ks }) trace todo none
      (λ t. record { over = refl; sends = refl; chain = refl; store = refl }))

  abbrev back : Bool → Caller → List Caller → Config → Config
  back is k ks c = if is then record c {
    block = k.block;
    todo = k.todo;
    temps = k.temps;
    callers = ks;
    own = record c.own { given = k.given; answers = eight vs };
  } else fails fault.BadEnd c

  pub return_other : (o : Option Caller) (k : Caller) (ks : List Caller) → o ≡ Some k
      → r.callers ≡ option_to_list o ++ ks → r1 ≡ record r { callers = ks } → (k.awaits ≡ answer → ⊥)
      → Does (stmt.Return answer es) r s (Err (stop.Fault fault.BadEnd)) r1 s
  return_other o k ks some waits is other =
      let differs : nat_eq k.awaits answer ≡ false = grind (arith, nat_tests) in
      wrong (Err (stop.Fault fault.BadEnd)) ks is
      (λ trace todo. at_callers (k ∷ ks) (Err (stop.Fault fault.BadEnd)) (record r { callers = ks }) trace todo
      (waits ∙ ap (λ l. option_to_list l ++ ks) some) (λ t.
      let P : Bool → Type 0 = λ q. Leaves r.exchange s (back q k ks (start_of r s t todo)) (Err (stop.Fault fault.BadEnd)) (record r { callers = ks }) s in
      subst P (sym differs) (record { over = refl; sends = refl; chain = refl; store = refl })))

  pub return_goes : (r' : Running) (o : Option Caller) (k : Caller) (ks : List Caller) → o ≡ Some k
      → r.callers ≡ option_to_list o ++ ks → r1 ≡ record r { callers = ks } → k.awaits ≡ answer → r' ≡ resumed k vs r1
      → Does (stmt.Return answer es) r s (Ok tt) r' s
  return_goes r' o k ks some waits is same resumes =
      let equal : nat_eq k.awaits answer ≡ true = grind (arith, nat_tests) in
      record {
        leaves = λ trace todo. at_callers (k ∷ ks) (Ok tt) r' trace todo (waits ∙ ap (λ l. option_to_list l ++ ks) some) (λ t.
            let P : Bool → Type 0 = λ q. Leaves r.exchange s (back q k ks (start_of r s t todo)) (Ok tt) r' s in
            subst P (sym equal) (stands r.exchange (resumed k vs (record r { callers = ks })) r' s t refl (resumes ∙ ap (resumed k vs) is)));
      }

-- how a signal may leave the job, by its kind
pub ruleset kinds = (
  sends_buffered,
  sends_buffered_full,
  sends_outside,
  sends_outside_full,
  sends_direct,
  sends_combined,
  sends_answer,
  sends_unknown,
  as_memory,
)

-- how a RETURN may
pub ruleset returned = (return_goes, return_alone, return_other, return_stops)
