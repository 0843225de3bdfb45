-- Signals: a new activation, a send, a call, a return and a transfer.
use Rattle.std.proofs.Common.{◌≡◌, ℕ, zero, suc, ◌+◌, ◌-◌, ◌≤◌, Bool, true, false, List, [], ◌∷◌}
use Rattle.std.proofs.Common.{◌++◌, length, take, replicate, Option, Some, None, refl, sym, ap, ◌∙◌}
use Rattle.std.proofs.Common.{subst, arith, if◌then◌else◌}
use Rattle.std.specs.Prelude.{slice_get, nat_lt, nat_eq}
use Rattle.plex_num.specs.declared.level.Level.{Level}
use Rattle.plex_num.specs.declared.level.Level.TheVariants.{A, B, C, D}
use Rattle.job_types.specs.declared.fault.Fault.TheVariants.{BadEnd, Depth, Sends}
use Rattle.job_types.specs.declared.outbox.SendTo.{SendTo}
use Rattle.job_types.specs.declared.outbox.SendTo.TheVariants as sent_to
use Rattle.machine_code.specs.declared.op.Op.{Op}
use Rattle.machine_code.specs.declared.op.Op.TheVariants as op
use Rattle.exchange_model.specs.declared.signal.SignalKind.{SignalKind}
use Rattle.exchange_model.specs.declared.signal.SignalKind.TheVariants.{Buffered, Direct, Combined}
use Rattle.exchange_model.specs.declared.signal.SignalKind.TheVariants.{Answer, Outside}
use Rattle.exchange_model.specs.declared.expr.Expr.{Expr}
use Rattle.exchange_model.specs.declared.stmt.Holder.TheVariants as holder
use Rattle.exchange_model.specs.declared.stmt.Receiver.{Receiver}
use Rattle.exchange_model.specs.declared.stmt.Receiver.TheVariants as receiver
use Rattle.exchange_model.specs.declared.stmt.StmtKind.TheOpen.{Send, Return, Transfer}
use Rattle.exchange_model.specs.Fits.{Scope, Reaches, SendFits, AnswerFits, TransferFits}
use Rattle.exchange_model.specs.Kept.{scope_of, signal_count}
use Rattle.job_types.specs.Own.{Own, eight}
use Rattle.source_meaning.specs.Config.{Item, Caller, Config, entry_number}
use Rattle.source_meaning.specs.Step.{does}
use Rattle.source_meaning.specs.Changes.{fails as c_fails, goes, activates, sends, returns}
use Rattle.source_meaning.specs.Changes.{value_count}
use Rattle.machine_meaning.specs.declared.frame.Frame.{Frame}
use Rattle.machine_meaning.specs.Machine.{Machine, HasRoom, machine_step, made_one, next, fails}
use Rattle.machine_meaning.specs.Machine.{send_to, sends as m_sends, enters}
use Rattle.machine_meaning.specs.Machine.{activates as m_activates, returns as m_returns}
use Rattle.expr_code.specs.Runs.{HasOp, HasAt}
use Rattle.expr_code.proofs.Places.{has_front, has_back}
use Rattle.stmt_code.specs.StmtCode.{values_code, send_code, queue_number, level_number}
use Rattle.stmt_code.specs.StmtCode.{receiver_code, count_in}
use Rattle.stmt_code.proofs.Setting.{Setting, places, few_loops}
use Rattle.stmt_code.proofs.At.{At}
use Rattle.stmt_code.proofs.Same.{AllSmall, append_small, none_small, zeros_small, zeros_length}
use Rattle.stmt_code.proofs.Same.{blank_temps, Same, Wait, Waits, Follows, by_step, stays, faults}
use Rattle.stmt_code.proofs.Values.{Laid, exprs_in, count_sim, values_sim}
use Rattle.stmt_code.proofs.Receivers.{IsHeld, receiver_sim}
use Rattle.plex_num.proofs.Lists.{all_at}
use Rattle.stmt_code.proofs.Kind.{Case, at_kept, goes_on_at}

eight_small : (vs : List ℕ) → AllSmall vs → AllSmall (eight vs)
eight_small vs h = append_small vs (replicate (8 - length vs) 0) h (zeros_small (8 - length vs))

take_small : (n : ℕ) (vs : List ℕ) → AllSmall vs → AllSmall (take n vs)
take_small zero vs h i = none_small i
take_small (suc n) [] h i = none_small i
take_small (suc n) (v ∷ vs) h zero = h zero
take_small (suc n) (v ∷ vs) h (suc i) = take_small n vs (λ j. h (suc j)) i

queue_is : (fresh : Bool) (level : Level) (entry : ℕ) → send_to (queue_number fresh) entry (level_number level) ≡ sent_to.Queue entry level fresh
queue_is false A entry = refl
queue_is false B entry = refl
queue_is false C entry = refl
queue_is false D entry = refl
queue_is true A entry = refl
queue_is true B entry = refl
queue_is true C entry = refl
queue_is true D entry = refl

waits_length : (g : Setting) (ks : List Caller) (fs : List Frame) → Waits g ks fs → length fs ≡ length ks
waits_length g [] [] w = refl
waits_length g [] (f ∷ fs) w = absurd w
waits_length g (k ∷ ks) [] w = absurd w
waits_length g (k ∷ ks) (f ∷ fs) w = ap suc (waits_length g ks fs w.1)

-- a sender that waits, in the job and in the machine
abbrev caller_of : ℕ → List Item → Config → Caller
caller_of answer rest c = record { block = c.block; todo = rest; temps = c.temps; given = c.own.given; awaits = answer }

abbrev frame_of : ℕ → Machine → Frame
frame_of answer m = record { back = m.run.pc + 1; locals = m.run.locals; given = m.run.own.given; awaits = answer }

-- no signal has more than eight values
send_few : (kind : Option SignalKind) (scope : Scope) (to : Option Receiver) (count signal : ℕ) (fresh : Bool)
    → SendFits scope kind signal to count fresh → ((k : SignalKind) → kind ≡ Some k → signal_count k ≤ 8) → count ≤ 8
send_few None scope to count signal fresh fits few = absurd fits
send_few (Some (Buffered name level n)) scope to count signal fresh fits few = omega (arith, fits.0, few (Buffered name level n) refl)
send_few (Some (Direct name n)) scope to count signal fresh fits few = omega (arith, fits.0, few (Direct name n) refl)
send_few (Some (Combined name n answer)) scope to count signal fresh fits few = omega (arith, fits.0, few (Combined name n answer) refl)
send_few (Some (Answer name n combined)) scope to count signal fresh fits few = absurd fits
send_few (Some (Outside name n)) scope to count signal fresh fits few = omega (arith, fits.0, few (Outside name n) refl)

-- a temporary that holds a reference is one of the block
reaches_held : (scope : Scope) (to : Option Receiver) (signal : ℕ) → Reaches scope to signal → length scope.block.temporaries ≤ 24 → IsHeld to
reaches_held scope None signal h few = absurd h
reaches_held scope (Some (receiver.Block b)) signal h few = tt
reaches_held scope (Some (receiver.Held (holder.Temporary t))) signal h few = omega (arith, h.0.0, few)
reaches_held scope (Some (receiver.Held (holder.Variable v))) signal h few = tt

none_held : (to : Option Receiver) → to ≡ None → IsHeld to
none_held None e = tt
none_held (Some to) e = cc

pub send_held : (kind : Option SignalKind) (scope : Scope) (to : Option Receiver) (count signal : ℕ) (fresh : Bool)
    → SendFits scope kind signal to count fresh → length scope.block.temporaries ≤ 24 → IsHeld to
send_held None scope to count signal fresh fits few = absurd fits
send_held (Some (Buffered name level n)) scope to count signal fresh fits few = reaches_held scope to signal fits.1 few
send_held (Some (Direct name n)) scope to count signal fresh fits few = reaches_held scope to signal fits.1 few
send_held (Some (Combined name n answer)) scope to count signal fresh fits few = reaches_held scope to signal fits.1 few
send_held (Some (Answer name n combined)) scope to count signal fresh fits few = absurd fits
send_held (Some (Outside name n)) scope to count signal fresh fits few = none_held to fits.1

pub transfer_held : (kind : Option SignalKind) (scope : Scope) (to : Option Receiver) (signal : ℕ)
    → TransferFits scope kind signal to → length scope.block.temporaries ≤ 24 → IsHeld to
transfer_held None scope to signal fits few = absurd fits
transfer_held (Some (Buffered name level n)) scope to signal fits few = absurd fits
transfer_held (Some (Direct name n)) scope to signal fits few = reaches_held scope to signal fits few
transfer_held (Some (Combined name n answer)) scope to signal fits few = absurd fits
transfer_held (Some (Answer name n combined)) scope to signal fits few = absurd fits
transfer_held (Some (Outside name n)) scope to signal fits few = absurd fits

pub answer_few : (kind : Option SignalKind) (count : ℕ) → AnswerFits kind count → ((k : SignalKind) → kind ≡ Some k → signal_count k ≤ 8) → count ≤ 8
answer_few None count fits few = absurd fits
answer_few (Some (Buffered name level n)) count fits few = absurd fits
answer_few (Some (Direct name n)) count fits few = absurd fits
answer_few (Some (Combined name n answer)) count fits few = absurd fits
answer_few (Some (Answer name n combined)) count fits few = omega (arith, fits, few (Answer name n combined) refl)
answer_few (Some (Outside name n)) count fits few = absurd fits

module _ {g : Setting} where
  -- the machine begins an activation with these entry values
  begun : {us : List ℕ} {c : Config} {m : Machine} (b signal : ℕ) (given : List ℕ) → Laid g → AllSmall given → Same g us c m
      → Follows g (activates g.exchange b signal given c)
      (record {
        run = record (m_activates (g.table.enter b signal) (eight given) m.run) { out = [] };
        world = m.world;
      })
  begun {c = c} b signal given laid small s =
      stays
      record {
        own = ap (λ (o : Own). record o { given = eight given }) s.own;
        world = s.world;
        temps = blank_temps;
        regs = zeros_length 16;
        small_store = s.small_store;
        small_given = eight_small given small;
        small_answers = s.small_answers;
        callers = s.callers;
        out = refl;
        small_out = none_small;
        runs = s.runs;
        going = s.going;
      }
      (laid.enters b signal (replicate 50 0))

  made_same : {us : List ℕ} {c : Config} {m : Machine} → Same g us c m → Same g us c (record { run = made_one m.run; world = m.world })
  made_same s = record {
    own = s.own;
    world = s.world;
    temps = s.temps;
    regs = s.regs;
    small_store = s.small_store;
    small_given = s.small_given;
    small_answers = s.small_answers;
    callers = s.callers;
    out = s.out;
    small_out = s.small_out;
    runs = s.runs;
    going = s.going;
  }

  -- a direct signal
  direct_sim : (us : List ℕ) (c : Config) (m : Machine) (a b signal : ℕ) → Laid g → Same g us c m → m.run.pc ≡ a
      → HasOp g.code a (op.Dir (g.table.enter b signal)) → Follows g (activates g.exchange b signal us c) m
  direct_sim us c m a b signal laid s at has =
      let to = g.table.enter b signal in
      by_step (op.Dir to) _ s.runs at has tt (ap (λ o. record { run = record (m_activates to (eight o) (made_one m.run)) { out = [] }; world = m.world }) s.out)
      (begun b signal us laid s.small_out (made_same s))

  -- a sender waits in the job and in the machine
  waiting : {us : List ℕ} {c : Config} {m : Machine} {d a : ℕ} (answer : ℕ) (rest : List Item) → Same g us c m
      → m.run.pc ≡ a → At g c.block m.run.locals d rest (a + 1)
      → Same g us (record c { callers = caller_of answer rest c ∷ c.callers })
      (record { run = record (made_one m.run) { frames = frame_of answer m ∷ m.run.frames }; world = m.world })
  waiting {c = c} {m = m} {d = d} answer rest s at r =
      let wait : Wait g (caller_of answer rest c) (frame_of answer m) = record {
        depth = d;
        at = subst (At g c.block m.run.locals d rest) (ap (λ i. i + 1) (sym at)) r;
        temps = s.temps;
        small_given = s.small_given;
        given = ap (λ (o : Own). o.given) s.own;
        awaits = refl;
      } in
      record {
        own = s.own;
        world = s.world;
        temps = s.temps;
        regs = s.regs;
        small_store = s.small_store;
        small_given = s.small_given;
        small_answers = s.small_answers;
        callers = (wait, s.callers);
        out = s.out;
        small_out = s.small_out;
        runs = s.runs;
        going = s.going;
      }

  -- a combined signal, whose sender waits unless eight do
  ask_cases : (room : Bool) (us : List ℕ) (c : Config) (m : Machine) (d a b signal answer : ℕ) (rest : List Item)
      → nat_lt (length c.callers) 8 ≡ room → Laid g → Same g us c m → m.run.pc ≡ a
      → HasOp g.code a (op.Call (g.table.enter b signal) answer) → At g c.block m.run.locals d rest (a + 1)
      → Follows g (if room then activates g.exchange b signal us (record c { callers = caller_of answer rest c ∷ c.callers }) else c_fails Depth c) m
  ask_cases true us c m d a b signal answer rest e laid s at has r =
      let to = g.table.enter b signal in
      let p = record (made_one m.run) { frames = frame_of answer m ∷ m.run.frames } in
      let test : nat_lt (length m.run.frames) 8 ≡ true = ap (λ n. nat_lt n 8) (waits_length g c.callers m.run.frames s.callers) ∙ e in
      by_step (op.Call to answer) _ s.runs at has tt
      (ap (λ b. record { run = (if b then enters to p else fails Depth (made_one m.run)); world = m.world }) test
      ∙ ap (λ o. record { run = record (m_activates to (eight o) p) { out = [] }; world = m.world }) s.out)
      (begun b signal us laid s.small_out (waiting answer rest s at r))
  ask_cases false us c m d a b signal answer rest e laid s at has r =
      let to = g.table.enter b signal in
      let p = record (made_one m.run) { frames = frame_of answer m ∷ m.run.frames } in
      let test : nat_lt (length m.run.frames) 8 ≡ false = ap (λ n. nat_lt n 8) (waits_length g c.callers m.run.frames s.callers) ∙ e in
      faults (op.Call to answer) Depth s at has tt (ap (λ b. record { run = (if b then enters to p else fails Depth (made_one m.run)); world = m.world }) test)

  -- a signal joins the outbox, unless that is full
  post_cases : (room : Bool) (to : SendTo) (i : Op) (us : List ℕ) (c : Config) (m : Machine) (d a : ℕ)
      (rest : List Item) → nat_lt (length c.own.sends) 255 ≡ room → Same g us c m → m.run.pc ≡ a → HasOp g.code a i
      → HasRoom i m.run
      → machine_step i m ≡ record { run = m_sends to (made_one m.run); world = m.world } → d ≤ 12 → At g c.block m.run.locals d rest (a + 1)
      → Follows g (if room then goes rest (record c
      { own = record c.own { sends = c.own.sends ++ record { to = to; values = us } ∷ [] } }) else c_fails Sends c)
      m
  post_cases true to i us c m d a rest e s at has room is le r =
      let sent : Own → List ℕ → Own = λ o vs. record o { sends = o.sends ++ record { to = to; values = vs } ∷ [] } in
      let n : Machine = record { run = next (record (made_one m.run) { out = []; own = sent c.own us }); world = m.world } in
      let s2 : Same g [] (record c { own = sent c.own us }) n = record {
        own = refl;
        world = s.world;
        temps = s.temps;
        regs = s.regs;
        small_store = s.small_store;
        small_given = s.small_given;
        small_answers = s.small_answers;
        callers = s.callers;
        out = refl;
        small_out = none_small;
        runs = s.runs;
        going = s.going;
      } in
      by_step i n s.runs at has room
      (is ∙ ap (λ b. record {
        run = (if b then next
            (record (made_one m.run) { out = []; own = sent m.run.own m.run.out }) else fails Sends (made_one m.run));
        world = m.world;
      }) (ap (λ (o : Own). nat_lt (length o.sends) 255) s.own ∙ e)
      ∙ ap (λ o. record { run = next (record (made_one m.run) { out = []; own = sent o m.run.out }); world = m.world }) s.own
      ∙ ap (λ vs. record { run = next (record (made_one m.run) { out = []; own = sent c.own vs }); world = m.world }) s.out)
      (goes_on_at rest s2 (ap (λ i. i + 1) at) r)
  post_cases false to i us c m d a rest e s at has room is le r =
      faults i Sends s at has room
      (is ∙ ap (λ b. record {
        run = (if b then next
            (record (made_one m.run) {
              out = [];
              own = record m.run.own { sends = m.run.own.sends ++ record { to = to; values = m.run.out } ∷ [] };
            })
            else fails Sends (made_one m.run));
        world = m.world;
      })
      (ap (λ (o : Own). nat_lt (length o.sends) 255) s.own ∙ e))

  -- the outgoing values are sent
  send_cases : (kind : Option SignalKind) (scope : Scope) (to : Option Receiver) (count signal b : ℕ) (fresh : Bool)
      (us : List ℕ) (c : Config) (m : Machine) (d a : ℕ) (rest : List Item) → SendFits scope kind signal to count fresh
      → Laid g → Same g us c m → m.run.pc ≡ a
      → HasAt g.code a (send_code kind signal b fresh (places g c.block)) → d ≤ 12
      → At g c.block m.run.locals d rest (a + length (send_code kind signal b fresh (places g c.block)))
      → Follows g (sends g.exchange kind signal b fresh rest us c) m
  send_cases None scope to count signal b fresh us c m d a rest fits laid s at has le r = absurd fits
  send_cases (Some (Buffered name level n)) scope to count signal b fresh us c m d a rest fits laid s at has le r =
      let entry = entry_number g.exchange b signal in
      post_cases (nat_lt (length c.own.sends) 255) (sent_to.Queue entry level fresh)
      (op.Snd (queue_number fresh) entry (level_number level)) us c m d a rest refl s at has.0 tt
      (ap (λ to. record { run = m_sends to (made_one m.run); world = m.world }) (queue_is fresh level entry)) le r
  send_cases (Some (Direct name n)) scope to count signal b fresh us c m d a rest fits laid s at has le r = direct_sim us c m a b signal laid s at has.0
  send_cases (Some (Combined name n answer)) scope to count signal b fresh us c m d a rest fits laid s at has le r =
      ask_cases (nat_lt (length c.callers) 8) us c m d a b signal answer rest refl laid s at has.0 r
  send_cases (Some (Answer name n combined)) scope to count signal b fresh us c m d a rest fits laid s at has le r = absurd fits
  send_cases (Some (Outside name n)) scope to count signal b fresh us c m d a rest fits laid s at has le r =
      post_cases (nat_lt (length c.own.sends) 255) (sent_to.Outside signal) (op.Snd 2 signal 0) us c m d a rest refl s at has.0 tt refl le r

  pub send : Laid g → (signal : ℕ) (to : Option Receiver) (values : List Expr) (fresh : Bool) → Case g (Send signal to values fresh)
  send laid signal to values fresh c m p d a rest s at has fits r =
      let pl = places g c.block in
      let kind = slice_get g.exchange.signals signal in
      let arm : ℕ → List Op = λ b. send_code kind signal b fresh pl in
      let scope = scope_of g.exchange c.block fits.block in
      let code = receiver_code to (pl.receivers signal) pl.site values arm (a + 1) in
      let len : a + length (op.Stmt p ∷ code) ≡ a + 1 + length code = omega arith in
      let le = few_loops fits in
      let few : length values ≤ 8 = send_few kind scope to (length values) signal fresh fits.fits.names
      (λ k e. all_at (λ k. signal_count k ≤ 8) g.exchange.signals signal k laid.kept.signals.values e) in
      let held = send_held kind scope to (length values) signal fresh fits.fits.names fits.limited.temporaries in
      count_sim (does g.exchange p (Send signal to values fresh) rest) s at has.0 (λ n1 s1 at1 q1.
      receiver_sim to signal values arm (λ b us e. sends g.exchange kind signal b fresh rest us e) rest held le
      (exprs_in fits) few s1 at1 has.1 (subst (At g c.block n1.run.locals d rest) len (at_kept le q1 r))
      (λ b here w us n2 long s2 at2 has2 r2.
      send_cases kind scope to (length values) signal b fresh us _ n2 d here rest fits.fits.names laid s2 at2 has2 le r2))

  -- back to a caller that waits for the answer
  return_cases : (ks : List Caller) (fs : List Frame) (answer : ℕ) (us : List ℕ) (c : Config) (m : Machine) (a : ℕ)
      → Waits g ks fs → m.run.frames ≡ fs → Same g us c m → m.run.pc ≡ a → HasOp g.code a (op.Ret answer)
      → Follows g (returns ks answer us c) m
  return_cases [] [] answer us c m a w e s at has = faults (op.Ret answer) BadEnd s at has tt
      (ap (λ f. record { run = m_returns f answer (made_one m.run); world = m.world }) e)
  return_cases [] (f ∷ fs) answer us c m a w e s at has = absurd w
  return_cases (k ∷ ks) [] answer us c m a w e s at has = absurd w
  return_cases (k ∷ ks) (f ∷ fs) answer us c m a w e s at has = back (nat_eq k.awaits answer) refl
    where
      c2 : Config
      c2 = record c { block = k.block; todo = k.todo; temps = k.temps; callers = ks; own = record c.own { given = k.given; answers = eight us } }

      n2 : Machine
      n2 = record {
        run = record (made_one m.run) {
          pc = f.back;
          regs = replicate 16 0;
          locals = f.locals;
          out = [];
          frames = fs;
          own = record m.run.own { given = f.given; answers = eight m.run.out };
        };
        world = m.world;
      }

      own_is : record m.run.own { given = f.given; answers = eight m.run.out } ≡ record c.own { given = k.given; answers = eight us }
      own_is =
          let give : Own → List ℕ → List ℕ → Own = λ o given vs. record o { given = given; answers = eight vs } in
          ap (λ o. give o f.given m.run.out) s.own ∙ ap (λ h. give c.own h m.run.out) w.0.given ∙ ap (give c.own k.given) s.out

      s2 : Same g [] c2 n2
      s2 = record {
        own = own_is;
        world = s.world;
        temps = w.0.temps;
        regs = zeros_length 16;
        small_store = s.small_store;
        small_given = w.0.small_given;
        small_answers = eight_small us s.small_out;
        callers = w.1;
        out = refl;
        small_out = none_small;
        runs = s.runs;
        going = s.going;
      }

      step_is : (b : Bool) → nat_eq k.awaits answer ≡ b
          → machine_step (op.Ret answer) m ≡ record
          { run = (if b then n2.run else fails BadEnd (made_one m.run)); world = m.world }
      step_is b t =
          ap (λ f. record { run = m_returns f answer (made_one m.run); world = m.world }) e
          ∙ ap (λ b. record { run = (if b then n2.run else fails BadEnd (made_one m.run)); world = m.world }) (ap (λ v. nat_eq v answer) w.0.awaits ∙ t)

      back : (b : Bool) → nat_eq k.awaits answer ≡ b → Follows g (if b then c2 else c_fails BadEnd c) m
      back true t = by_step (op.Ret answer) n2 s.runs at has tt (step_is true t) (stays s2 w.0.at)
      back false t = faults (op.Ret answer) BadEnd s at has tt (step_is false t)

  pub answer_back : Laid g → (answer : ℕ) (values : List Expr) → Case g (Return answer values)
  answer_back laid answer values c m p d a rest s at has fits r =
      let cv = values_code values (places g c.block).site 0 in
      let h = has_back g.code (a + 1) cv (op.Ret answer ∷ []) has.1 in
      let few : length values ≤ 8 = answer_few (slice_get g.exchange.signals answer) (length values) fits.fits.names
      (λ k e. all_at (λ k. signal_count k ≤ 8) g.exchange.signals answer k laid.kept.signals.values e) in
      count_sim (does g.exchange p (Return answer values) rest) s at has.0 (λ n1 s1 at1 q1.
      values_sim 0 values [] (λ us d. returns d.callers answer us d) (omega arith) (exprs_in fits) (omega (arith, few))
      s1 at1 (has_front g.code (a + 1) cv (op.Ret answer ∷ []) has.1) (λ n2 w us long s2 at2 low loops.
      return_cases c.callers n2.run.frames answer us _ n2 (a + 1 + length cv) s2.callers refl s2 at2 h.0))

  -- the entry values go on to another block
  transfer_sim : (c : Config) (m : Machine) (a b signal : ℕ) → Laid g → Same g [] c m → m.run.pc ≡ a
      → HasOp g.code a (op.Trf (g.table.enter b signal) (count_in (places g c.block) signal))
      → Follows g (activates g.exchange b signal (take (value_count g.exchange signal) c.own.given) c) m
  transfer_sim c m a b signal laid s at has =
      let to = g.table.enter b signal in
      let count = value_count g.exchange signal in
      by_step (op.Trf to count) _ s.runs at has tt
      (ap (λ o. record { run = record (m_activates to (eight (take count m.run.own.given)) (made_one m.run)) { out = o }; world = m.world }) s.out
      ∙ ap (λ (o : Own). record { run = record (m_activates to (eight (take count o.given)) (made_one m.run)) { out = [] }; world = m.world }) s.own)
      (begun b signal (take count c.own.given) laid (take_small count c.own.given s.small_given) (made_same s))

  pub transfer : Laid g → (signal : ℕ) (to : Option Receiver) → Case g (Transfer signal to)
  transfer laid signal to c m p d a rest s at has fits r =
      let pl = places g c.block in
      let arm : ℕ → List Op = λ b. op.Trf (pl.enter b signal) (count_in pl signal) ∷ [] in
      let code = receiver_code to (pl.receivers signal) pl.site [] arm (a + 1) in
      let len : a + length (op.Stmt p ∷ code) ≡ a + 1 + length code = omega arith in
      let le = few_loops fits in
      let held = transfer_held (slice_get g.exchange.signals signal) (scope_of g.exchange c.block fits.block) to signal
      fits.fits.names fits.limited.temporaries in
      count_sim (does g.exchange p (Transfer signal to) rest) s at has.0 (λ n1 s1 at1 q1.
      receiver_sim to signal [] arm (λ b us e. activates g.exchange b signal
      (take (value_count g.exchange signal) e.own.given) e) rest held le tt (omega arith) s1 at1 has.1
      (subst (At g c.block n1.run.locals d rest) len (at_kept le q1 r)) (λ b here w us n2 long s2 at2 has2 r2.
      transfer_sim _ n2 here b signal laid (no_values us long s2) at2 has2.0))
    where
      no_values : {c : Config} {n : Machine} (us : List ℕ) → length us ≡ 0 → Same g us c n → Same g [] c n
      no_values [] e s = s
      no_values (u ∷ us) e s = absurd (omega (arith, e))
