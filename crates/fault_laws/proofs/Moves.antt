-- What a step makes of a job, seen from the item that it counts: it goes on in its block once, it
-- leaves its activation or ends, or it fails for a reason.
--
-- The effects of a step may come in any number. Here a step that goes on has sent one signal at
-- most, and only by a SEND that posts; one that fails has sent none and has the temporaries that it
-- had.
use Rattle.std.proofs.Common.{◌≡◌, ◌⊎◌, inl, inr, ℕ, zero, suc, ◌+◌, ◌<◌, Bool, true, false, List}
use Rattle.std.proofs.Common.{[], ◌∷◌, ◌++◌, map, take, length, Option, Some, None, refl, sym, ap}
use Rattle.std.proofs.Common.{◌∙◌, subst, slice_get}
use Rattle.std.proofs.lemmas.Bool.{ltb-true}
use Rattle.std.specs.Prelude.{Ok, ◌^◌, nat_lt, nat_eq, slice_index, if◌then◌else◌}
use Rattle.std.specs.List.{AllByRecursion, Contains}
use Rattle.plex_limits.specs.declared.limits.TheConstants.{MOST_CALLERS, MOST_HELD, MOST_SENT}
use Rattle.job_types.specs.declared.fault.Fault.{Fault}
use Rattle.job_types.specs.declared.fault.Fault.TheVariants as fault
use Rattle.job_types.specs.declared.outbox.Sent.{Sent}
use Rattle.job_types.specs.declared.outbox.SendTo.{SendTo}
use Rattle.job_types.specs.declared.outbox.SendTo.TheVariants as sent_to
use Rattle.job_types.specs.declared.touch.Touch.{Touch}
use Rattle.job_types.specs.Own.{budget}
use Rattle.job_types.specs.Truth.{at_zero}
use Rattle.exchange_model.specs.declared.exchange.Exchange.{Exchange}
use Rattle.exchange_model.specs.declared.expr.Expr.{Expr}
use Rattle.exchange_model.specs.declared.expr.Cond.{Cond}
use Rattle.exchange_model.specs.declared.expr.Rel.{Rel}
use Rattle.exchange_model.specs.declared.signal.SignalKind.{SignalKind}
use Rattle.exchange_model.specs.declared.signal.SignalKind.TheVariants.{Buffered, Direct, Combined}
use Rattle.exchange_model.specs.declared.signal.SignalKind.TheVariants.{Answer, Outside}
use Rattle.exchange_model.specs.declared.stmt.Holder.{Holder}
use Rattle.exchange_model.specs.declared.stmt.Holder.TheVariants as holder
use Rattle.exchange_model.specs.declared.stmt.Receiver.{Receiver}
use Rattle.exchange_model.specs.declared.stmt.Receiver.TheVariants as receiver
use Rattle.exchange_model.specs.declared.stmt.Stmt.{Stmt}
use Rattle.exchange_model.specs.declared.stmt.StmtKind.{out-StmtKind}
use Rattle.exchange_model.specs.declared.stmt.StmtKind.TheOpen as stmt
use Rattle.exchange_model.specs.Cells.{Placed, field_cell, mark_cell}
use Rattle.exchange_model.specs.Inside.{cond_exprs}
use Rattle.source_meaning.specs.Named.{Layer}
use Rattle.source_meaning.specs.Value.{Got, Gives, Fails, answer_of, and_then, cond_value}
use Rattle.source_meaning.specs.Value.{expr_value, holder_value, pointer_fault, stands, values_of}
use Rattle.source_meaning.specs.Config.{Item, Do, Start, Turns, Caller, Config, base_of}
use Rattle.source_meaning.specs.Config.{entry_number, files_of, next_counted, receiver_of, sight}
use Rattle.source_meaning.specs.Changes.{activates, at_found, at_free, at_receiver, at_record}
use Rattle.source_meaning.specs.Changes.{chosen, ends, fails, field_width, for_first, frees, goes}
use Rattle.source_meaning.specs.Changes.{joins_chain, least_record, on_value, on_values, posts}
use Rattle.source_meaning.specs.Changes.{returns, seizes, sends, sets_cell, sets_field, sets_temp}
use Rattle.source_meaning.specs.Changes.{takes, to_label as jumps, to_receiver, unless_fault}
use Rattle.source_meaning.specs.Changes.{value_count, variable_width, where_fits}
use Rattle.source_meaning.specs.Deeds.{Deed, Doing, Starting, deed_of, deed_point, IsExprOf}
use Rattle.source_meaning.specs.Deeds.{IsValueOf, GoesTo, out, named, held, IsBranch, IsFileAt}
use Rattle.source_meaning.specs.Deeds.{IsSending, IsPosting, to_queue, to_outside, GoesOnAfter}
use Rattle.source_meaning.specs.Deeds.{IsNoEnter, IsEnd, AwaitsOther, SomeWait, receiver_in}
use Rattle.source_meaning.specs.Deeds.{signal_in, by_send, by_transfer, by_combined, GoesOn}
use Rattle.source_meaning.specs.Deeds.{to_next, with_value, to_label, to_branch, to_loop, to_turn}
use Rattle.source_meaning.specs.Deeds.{with_found, with_seized, with_answers, with_given}
use Rattle.source_meaning.specs.Deeds.{from_no_enter, Why, in_value, no_receiver, wide_value}
use Rattle.source_meaning.specs.Deeds.{wide_field, bad_field, bad_free, no_forlopp, full_chain}
use Rattle.source_meaning.specs.Deeds.{too_deep, too_many, no_caller, has_caller}
use Rattle.source_meaning.specs.Effects.{with_counted, with_caller, Leave, Begins, Asks, Returns}
use Rattle.source_meaning.specs.Effects.{Ends}
use Rattle.source_meaning.specs.Step.{does, starts, count, does_first, step}
use Rattle.source_meaning.proofs.Doing.{traced}
use Rattle.source_meaning.proofs.DoingText.{chosen_is, goes_still}
use Rattle.source_meaning.proofs.Lists.{all_members}
use Rattle.source_meaning.proofs.Loads.{FaultIs, TellsLoads, cond_tells}
use Rattle.source_meaning.proofs.Searched.{found_within}
use Rattle.entry_summary.specs.Faults.{JoinsOutbox, Posts}
use Rattle.plex_num.proofs.Members.{first_is, later_is}

-- what is counted sends to a buffer or out of the exchange
abbrev pub PostsBy : Exchange → Deed → Type 0
PostsBy x (Doing p l) = Posts x l
PostsBy x _ = ⊥

-- nothing was sent, or one signal by a statement that posts
abbrev pub SendsOne : Exchange → Deed → Config → Config → Type 0
SendsOne x deed c d = (length d.own.sends ≡ length c.own.sends) ⊎ (PostsBy x deed × (length d.own.sends ≡ suc (length c.own.sends)))

pub data Moves (x : Exchange) (deed : Deed) (rest : List Item) (c : Config) : Config → Type 0 where
  Stays : (d : Config) → GoesOn x rest c deed d.todo d.temps → d.block ≡ c.block → d.over ≡ c.over → SendsOne x deed c d → Moves x deed rest c d
  Leaves : (t : List Touch) (d : Config) → Leave x deed rest (traced t c) d → Moves x deed rest c d
  Stops : (t : List Touch) (todo : List Item) (f : Fault) → Why x (goes todo (traced t c)) deed f → Moves x deed rest c (fails f (goes todo (traced t c)))

-- a step, from the item that it counts
pub data StepTo (x : Exchange) (c : Config) : Config → Type 0 where
  CountsNone : (d : Config) → next_counted c.todo ≡ [] → StepTo x c d
  CountsFull : (i : Item) (rest : List Item) (d : Config) → next_counted c.todo ≡ i ∷ rest → nat_lt c.own.count budget ≡ false → StepTo x c d
  Makes : (i : Item) (rest : List Item) (d : Config) → next_counted c.todo ≡ i ∷ rest → Moves x (deed_of i) rest (with_counted i c) d → StepTo x c d

length_push : (xs : List Sent) (s : Sent) → length (xs ++ s ∷ []) ≡ suc (length xs)
length_push [] s = refl
length_push (y ∷ xs) s = ap suc (length_push xs s)

units : (ts : List Touch) → AllByRecursion (λ t. Unit {0}) ts
units [] = tt
units (t ∷ ts) = (tt, units ts)

module _ (x : Exchange) (deed : Deed) (rest : List Item) (c : Config) where
  abbrev M : Config → Type 0
  M d = Moves x deed rest c d

  abbrev Reason : Fault → Type 0
  Reason f = (t : List Touch) → Why x (traced t c) deed f

  fails_moves : (t : List Touch) (f : Fault) → Why x (traced t c) deed f → M (fails f (traced t c))
  fails_moves t f why = Stops t c.todo f why

  branch_moves : {d e : Config} (t : Bool) → (t ≡ true → M d) → (t ≡ false → M e) → M (if t then d else e)
  branch_moves true f g = f refl
  branch_moves false f g = g refl

  zero_moves : {d e : Config} (v : ℕ) → M d → M e → M (at_zero v d e)
  zero_moves zero f g = f
  zero_moves (suc v) f g = g

  -- values

  expr_reason : (e : Expr) → IsExprOf deed e → FaultIs Reason (expr_value e (sight x c))
  expr_reason e of = by (expr_value e (sight x c)) refl
    where
      by : (got : Got) → expr_value e (sight x c) ≡ got → FaultIs Reason got
      by (Gives loads v) is = tt
      by (Fails loads f) is = λ t. in_value e loads f of is

  cond_reason : (cond : Cond) → ((e : Expr) → Contains (cond_exprs cond) e → IsExprOf deed e) → FaultIs Reason (cond_value cond (sight x c))
  cond_reason cond of =
      (cond_tells (λ (t : Touch). Unit {0}) Reason (sight x c) cond
      (all_members (λ e. TellsLoads (λ (t : Touch). Unit {0}) Reason (expr_value e (sight x c))) (cond_exprs cond)
      (λ e at. record { loads = units _; fault = expr_reason e (of e at) }))).fault

  value_moves : (t : List Touch) (got : Got) (go : ℕ → Config → Config) → FaultIs Reason got
      → ((u loads : List Touch) (v : ℕ) → got ≡ Gives loads v → M (go v (traced u c)))
      → M (on_value got (traced t c) go)
  value_moves t (Gives loads v) go why more = more (t ++ loads) loads v refl
  value_moves t (Fails loads f) go why more = fails_moves (t ++ loads) f (why (t ++ loads))

  values_moves : (es : List Expr) (vs : List ℕ) (t : List Touch) (go : List ℕ → Config → Config)
      → ((e : Expr) → Contains es e → IsExprOf deed e)
      → ((u : List Touch) (ws : List ℕ) → values_of es vs (sight x c) ≡ Ok ws → M (go ws (traced u c)))
      → M (on_values x es vs (traced t c) go)
  values_moves [] vs t go of more = more t vs refl
  values_moves (e ∷ es) vs t go of more =
      value_moves t (expr_value e (sight x c)) (λ v d. on_values x es (vs ++ v ∷ []) d go) (expr_reason e (of e (first_is e es)))
      (λ u loads v is. values_moves es (vs ++ v ∷ []) u go (λ f at. of f (later_is e f es at))
      (λ w ws given. more w ws (ap (λ (r : Got). and_then (answer_of r)
      (λ w. values_of es (vs ++ w ∷ []) (sight x c))) is ∙ given)))

  fits_moves : (v width : ℕ) (d : Config) (go : Config → Config)
      → (nat_lt v (2 ^ width) ≡ false → M (fails fault.Range d)) → M (go d) → M (where_fits v width d go)
  fits_moves v width d go wide more = branch_moves (nat_lt v (2 ^ width)) (λ is. more) wide

  unless_moves : (found now : Option Fault) (d : Config) (go : Config → Config) → now ≡ found
      → ((f : Fault) → now ≡ Some f → M (fails f d)) → M (go d) → M (unless_fault found d go)
  unless_moves None now d go is bad more = more
  unless_moves (Some f) now d go is bad more = bad f is

  record_moves : (found : Option Placed) (file number : ℕ) (d : Config) (go : Placed → Config → Config) → slice_get (files_of x) file ≡ found → M d
      → ((p : Placed) (f : Fault) → IsFileAt x file p → pointer_fault d.own.chain file p number ≡ Some f
      → M (fails f d)) → ((p : Placed) → IsFileAt x file p → M (go p d)) → M (at_record found file number d go)
  record_moves None file number d go is same bad more = same
  record_moves (Some p) file number d go is same bad more =
      unless_moves (pointer_fault d.own.chain file p number) (pointer_fault d.own.chain file p number) d (go p) refl (λ f at. bad p f is at) (more p is)

module _ (x : Exchange) (rest : List Item) (p : ℕ) (c : Config) where
  abbrev Does : Layer → Config → Type 0
  Does l d = Moves x (Doing p l) rest c d

  -- receivers

  block_moves : (l : Layer) (found now : Option ℕ) (t : List Touch) (go : ℕ → Config → Config) → now ≡ found
      → (now ≡ None → Why x (traced t c) (Doing p l) fault.Pointer)
      → ((b : ℕ) → now ≡ Some b → Does l (go b (traced t c)))
      → Does l (at_receiver found (traced t c) go)
  block_moves l None now t go is why more = fails_moves x (Doing p l) rest c t fault.Pointer (why is)
  block_moves l (Some b) now t go is why more = more b is

  holder_reason : (l : Layer) (h : Holder) → FaultIs (Reason x (Doing p l) rest c) (holder_value h (sight x c))
  holder_reason l (holder.Temporary t) = tt
  holder_reason l (holder.Variable v) = tt

  receiver_moves : (l : Layer) (to : Option Receiver) (t : List Touch) (go : ℕ → Config → Config) → receiver_in l ≡ to
      → ((u : List Touch) (b : ℕ) → GoesTo x c (signal_in l) to b → Does l (go b (traced u c)))
      → Does l (to_receiver x (signal_in l) to (traced t c) go)
  receiver_moves l None t go is more = more t 0 out
  receiver_moves l (Some (receiver.Block b)) t go is more = more t b (named b)
  receiver_moves l (Some (receiver.Held h)) t go is more =
      value_moves x (Doing p l) rest c t (holder_value h (sight x c)) (λ v d. at_receiver (receiver_of x (signal_in l) v) d go) (holder_reason l h)
      (λ u loads v gives. block_moves l (receiver_of x (signal_in l) v) (receiver_of x (signal_in l) v) u go refl
      (λ none. no_receiver p h v is (record { loads = loads; is = gives }) none)
      (λ b at. more u b (held h v b (record { loads = loads; is = gives }) at)))

  -- searches

  found_moves : (temp file field : ℕ) (rel : Rel) (e : Expr) (label : ℕ) (placed : Placed) (number : Option ℕ)
      (u : List Touch) → IsFileAt x file placed → ((n : ℕ) → number ≡ Some n → n < placed.file.size)
      → Does (stmt.ForFirst temp file field rel e label) (at_found x temp label rest number (traced u c))
  found_moves temp file field rel e label placed None u there within = Stays (goes rest (traced u c)) (to_next p tt) refl refl (inl refl)
  found_moves temp file field rel e label placed (Some n) u there within =
      Stays (jumps x label (sets_temp temp n (traced u c)))
      (with_found p temp file field rel e label n placed (record { there = there; within = within n refl })) refl
      refl (inl refl)

  first_moves : (temp file field : ℕ) (rel : Rel) (e : Expr) (label v : ℕ) (found : Option Placed) (u : List Touch) → slice_get (files_of x) file ≡ found
      → Does (stmt.ForFirst temp file field rel e label) (for_first x found temp field rel v label rest (traced u c))
  first_moves temp file field rel e label v None u there = Stays (goes rest (traced u c)) (to_next p tt) refl refl (inl refl)
  first_moves temp file field rel e label v (Some placed) u there =
      let size = placed.file.size in
      let test = λ (n : ℕ). stands rel (slice_index c.world.store (field_cell placed n field)) v in
      found_moves temp file field rel e label placed (least_record test size) _ there (λ n is. (found_within test size n is).within)

  -- records of a forlopp

  joins_moves : (temp file label : ℕ) (placed : Placed) (n : ℕ) (u : List Touch) → IsFileAt x file placed
      → n < placed.file.size → Does (stmt.Seize temp file label) (joins_chain placed file temp n rest (traced u c))
  joins_moves temp file label placed n u there within =
      branch_moves x (Doing p (stmt.Seize temp file label)) rest c (nat_lt (length c.own.chain) MOST_HELD)
      (λ room. Stays _ (with_seized p temp file label n placed (record { there = there; within = within })) refl refl (inl refl))
      (λ full. fails_moves x (Doing p (stmt.Seize temp file label)) rest c u fault.Chain (full_chain p temp file label full))

  free_moves : (temp file label : ℕ) (placed : Placed) (number : Option ℕ) (u : List Touch) → IsFileAt x file placed
      → ((n : ℕ) → number ≡ Some n → n < placed.file.size)
      → Does (stmt.Seize temp file label) (at_free x placed file temp label rest number (traced u c))
  free_moves temp file label placed None u there within = Stays (jumps x label (traced u c)) (to_label p label refl) refl refl (inl refl)
  free_moves temp file label placed (Some n) u there within = joins_moves temp file label placed n u there (within n refl)

  seize_moves : (temp file label : ℕ) (found : Option Placed) → slice_get (files_of x) file ≡ found
      → Does (stmt.Seize temp file label) (seizes x found file temp label rest c)
  seize_moves temp file label None there = Stays (goes rest c) (to_next p tt) refl refl (inl refl)
  seize_moves temp file label (Some placed) there =
      let size = placed.file.size in
      let test = λ (n : ℕ). nat_eq (slice_index c.world.store (mark_cell placed n)) 0 in
      branch_moves x (Doing p (stmt.Seize temp file label)) rest c (nat_eq c.own.forlopp 0)
      (λ none. fails_moves x (Doing p (stmt.Seize temp file label)) rest c c.world.trace fault.NoForlopp (no_forlopp p temp file label none))
      (λ some. free_moves temp file label placed (least_record test size) _ there (λ n is. (found_within test size n is).within))

  -- signals

  posts_moves : (signal : ℕ) (to : Option Receiver) (values : List Expr) (fresh : Bool) (one_to : SendTo) (vs : List ℕ)
      (u : List Touch) → GoesOnAfter (slice_get x.signals signal) → JoinsOutbox (slice_get x.signals signal)
      → IsPosting x (traced u c) (Doing p (stmt.Send signal to values fresh)) one_to vs
      → Does (stmt.Send signal to values fresh) (posts one_to rest vs (traced u c))
  posts_moves signal to values fresh one_to vs u on joins is =
      let l : Layer = stmt.Send signal to values fresh in
      branch_moves x (Doing p l) rest c (nat_lt (length c.own.sends) MOST_SENT)
      (λ room. Stays _ (to_next p on) refl refl (inr (joins, length_push c.own.sends (record { to = one_to; values = vs }))))
      (λ full. fails_moves x (Doing p l) rest c u fault.Sends (too_many p signal to values fresh one_to vs is full))

  sends_moves : (signal : ℕ) (to : Option Receiver) (values : List Expr) (fresh : Bool) (kind : Option SignalKind)
      (b : ℕ) (vs : List ℕ) (u : List Touch) → slice_get x.signals signal ≡ kind
      → IsSending x (traced u c) signal to values b vs
      → Does (stmt.Send signal to values fresh) (sends x kind signal b fresh rest vs (traced u c))
  sends_moves signal to values fresh (Some (Buffered name level count)) b vs u there is =
      posts_moves signal to values fresh (sent_to.Queue (entry_number x b signal) level fresh) vs u
      (subst GoesOnAfter (sym there) tt) (subst JoinsOutbox (sym there) tt)
      (to_queue p signal to values fresh name level count b vs there is)
  sends_moves signal to values fresh (Some (Direct name count)) b vs u there is =
      Leaves u (activates x b signal vs (traced u c)) (Begins (traced u c) b signal vs (by_send p signal to values fresh name count b vs there is))
  sends_moves signal to values fresh (Some (Combined name count answer)) b vs u there is =
      let l : Layer = stmt.Send signal to values fresh in
      branch_moves x (Doing p l) rest c (nat_lt (length c.callers) MOST_CALLERS)
      (λ room. Leaves u (activates x b signal vs (with_caller answer rest (traced u c)))
      (Asks (traced u c) b signal answer vs (by_combined p signal to values fresh name count answer b vs there is)
      (ltb-true (length c.callers) MOST_CALLERS room)))
      (λ full. fails_moves x (Doing p l) rest c u fault.Depth (too_deep p signal to values fresh name count answer there full))
  sends_moves signal to values fresh (Some (Answer name count combined)) b vs u there is = Stays
      (goes rest (traced u c)) (to_next p (subst GoesOnAfter (sym there) tt)) refl refl (inl refl)
  sends_moves signal to values fresh (Some (Outside name count)) b vs u there is =
      posts_moves signal to values fresh (sent_to.Outside signal) vs u (subst GoesOnAfter (sym there) tt)
      (subst JoinsOutbox (sym there) tt) (to_outside p signal to values fresh name count b vs there is)
  sends_moves signal to values fresh None b vs u there is = Stays (goes rest (traced u c)) (to_next p (subst GoesOnAfter (sym there) tt)) refl refl (inl refl)

  returns_moves : (answer : ℕ) (values : List Expr) (vs : List ℕ) (ks : List Caller) (u : List Touch) → c.callers ≡ ks
      → values_of values [] (sight x c) ≡ Ok vs → Does (stmt.Return answer values) (returns ks answer vs (traced u c))
  returns_moves answer values vs [] u is given = fails_moves x (Doing p (stmt.Return answer values)) rest c u
      fault.BadEnd (no_caller p answer values (subst (λ ks. AwaitsOther ks answer) (sym is) tt))
  returns_moves answer values vs (k ∷ ks) u is given =
      branch_moves x (Doing p (stmt.Return answer values)) rest c (nat_eq k.awaits answer)
      (λ same. Leaves u _ (Returns (traced u c) p answer values vs k ks refl given is same))
      (λ other. fails_moves x (Doing p (stmt.Return answer values)) rest c u fault.BadEnd
      (no_caller p answer values (subst (λ ks. AwaitsOther ks answer) (sym is) other)))

  ends_moves : (l : Layer) (ks : List Caller) → IsEnd l → c.callers ≡ ks → Does l (ends ks c)
  ends_moves l [] end none = Leaves c.world.trace (ends [] c) (Ends c p l refl end none)
  ends_moves l (k ∷ ks) end some = fails_moves x (Doing p l) rest c c.world.trace fault.BadEnd (has_caller p end (subst SomeWait (sym some) tt))

  into_moves : (l : Layer) (body : List Stmt) (u : List Touch) → IsBranch l body → Does l (goes (map Do body ++ rest) (traced u c))
  into_moves l body u is = Stays (goes (map Do body ++ rest) (traced u c)) (to_branch p body is) refl refl (inl refl)

  -- statements

  does_moves : (l : Layer) → Does l (does x p l rest c)
  does_moves (stmt.Enter signal temps) = Stays (goes rest c) (to_next p tt) refl refl (inl refl)
  does_moves (stmt.SetTemp temp e) =
      let deed = Doing p (stmt.SetTemp temp e) in
      value_moves x deed rest c c.world.trace (expr_value e (sight x c)) (λ v d. goes rest (sets_temp temp v d)) (expr_reason x deed rest c e (first_is e []))
      (λ u loads v is. Stays (goes rest (sets_temp temp v (traced u c))) (with_value p temp e v (record { loads = loads; is = is })) refl refl (inl refl))
  does_moves (stmt.SetVariable variable e) =
      let deed = Doing p (stmt.SetVariable variable e) in
      let width = variable_width x c.block variable in
      let cell = base_of x c.block + variable in
      value_moves x deed rest c c.world.trace (expr_value e (sight x c))
      (λ v d. where_fits v width d (λ d. goes rest (sets_cell cell v d)))
      (expr_reason x deed rest c e (first_is e []))
      (λ u loads v is. fits_moves x deed rest c v width (traced u c) (λ d. goes rest (sets_cell cell v d))
      (λ wide. fails_moves x deed rest c u fault.Range (wide_value p variable e v (record { loads = loads; is = is }) wide))
      (Stays (goes rest (sets_cell cell v (traced u c))) (to_next p tt) refl refl (inl refl)))
  does_moves (stmt.SetField file field pointer e) =
      let number = slice_index c.temps pointer in
      let deed = Doing p (stmt.SetField file field pointer e) in
      value_moves x deed rest c c.world.trace (expr_value e (sight x c))
      (λ v d. at_record (slice_get (files_of x) file) file (slice_index d.temps pointer) (goes rest d)
      (sets_field (slice_index d.temps pointer) field v)) (expr_reason x deed rest c e (first_is e []))
      (λ u loads v is.
      let at : IsValueOf x (goes rest (traced u c)) e v = record { loads = loads; is = is } in
      record_moves x deed rest c (slice_get (files_of x) file) file number (goes rest (traced u c))
      (sets_field number field v) refl (Stays (goes rest (traced u c)) (to_next p tt) refl refl (inl refl))
      (λ placed f there bad. Stops u rest f (bad_field p file field pointer e placed f there bad))
      (λ placed there. fits_moves x deed rest c v (field_width placed field) (goes rest (traced u c)) (sets_cell (field_cell placed number field) v)
      (λ wide. Stops u rest fault.Range (wide_field p file field pointer e v placed there at wide))
      (Stays (sets_cell (field_cell placed number field) v (goes rest (traced u c))) (to_next p tt) refl refl (inl refl))))
  does_moves (stmt.Goto label) = Stays (jumps x label c) (to_label p label refl) refl refl (inl refl)
  does_moves (stmt.IfGoto cond label) =
      let deed = Doing p (stmt.IfGoto cond label) in
      value_moves x deed rest c c.world.trace (cond_value cond (sight x c))
      (λ v d. at_zero v (goes rest d) (jumps x label d)) (cond_reason x deed rest c cond (λ e at. at))
      (λ u loads v is. zero_moves x deed rest c v (Stays (goes rest (traced u c)) (to_next p tt) refl refl (inl refl))
      (Stays (jumps x label (traced u c)) (to_label p label refl) refl refl (inl refl)))
  does_moves (stmt.If cond yes_part no_part) =
      let l : Layer = stmt.If cond yes_part no_part in
      value_moves x (Doing p l) rest c c.world.trace (cond_value cond (sight x c))
      (λ v d. at_zero v (goes (map Do no_part ++ rest) d) (goes (map Do yes_part ++ rest) d))
      (cond_reason x (Doing p l) rest c cond (λ e at. at))
      (λ u loads v is. zero_moves x (Doing p l) rest c v (into_moves l no_part u (inr refl)) (into_moves l yes_part u (inl refl)))
  does_moves (stmt.Case e whens otherwise) =
      let l : Layer = stmt.Case e whens otherwise in
      value_moves x (Doing p l) rest c c.world.trace (expr_value e (sight x c))
      (λ v d. goes (map Do (chosen whens v otherwise) ++ rest) d)
      (expr_reason x (Doing p l) rest c e (first_is e []))
      (λ u loads v is. into_moves l (chosen whens v otherwise) u (chosen_is whens v otherwise))
  does_moves (stmt.On temp from upto body) =
      let deed = Doing p (stmt.On temp from upto body) in
      let turns = λ (a b : ℕ) (d : Config). goes (Turns p temp a b body ∷ rest) d in
      value_moves x deed rest c c.world.trace (expr_value from (sight x c))
      (λ a d. on_value (expr_value upto (sight x d)) d (turns a))
      (expr_reason x deed rest c from (first_is from (upto ∷ [])))
      (λ t loads a is. value_moves x deed rest c t (expr_value upto (sight x c)) (turns a)
      (expr_reason x deed rest c upto (later_is from upto (upto ∷ []) (first_is upto [])))
      (λ u more b at. Stays (turns a b (traced u c))
      (to_loop p temp from upto body a b (record { loads = loads; is = is }) (record { loads = more; is = at }))
      refl refl (inl refl)))
  does_moves (stmt.ForFirst temp file field rel e label) =
      let deed = Doing p (stmt.ForFirst temp file field rel e label) in
      value_moves x deed rest c c.world.trace (expr_value e (sight x c))
      (λ v d. for_first x (slice_get (files_of x) file) temp field rel v label rest d)
      (expr_reason x deed rest c e (first_is e []))
      (λ u loads v is. first_moves temp file field rel e label v (slice_get (files_of x) file) u refl)
  does_moves (stmt.Send signal to values fresh) =
      let l : Layer = stmt.Send signal to values fresh in
      let kind = slice_get x.signals signal in
      receiver_moves l to c.world.trace (λ b d. on_values x values [] d (sends x kind signal b fresh rest)) refl
      (λ t b goes_to. values_moves x (Doing p l) rest c values [] t (sends x kind signal b fresh rest) (λ e at. at)
      (λ u vs given. sends_moves signal to values fresh kind b vs u refl (record { receiver = goes_still x rest p signal to b u c goes_to; given = given })))
  does_moves (stmt.Retrieve answer temps) =
      Stays (record c { todo = rest; temps = takes 0 temps c.own.answers c.temps }) (with_answers p answer temps) refl refl (inl refl)
  does_moves (stmt.Return answer values) =
      values_moves x (Doing p (stmt.Return answer values)) rest c values [] c.world.trace
      (λ vs d. returns d.callers answer vs d) (λ e at. at)
      (λ u vs given. returns_moves answer values vs c.callers u refl given)
  does_moves (stmt.Transfer signal to) =
      receiver_moves (stmt.Transfer signal to) to c.world.trace (λ b d. activates x b signal (take (value_count x signal) d.own.given) d) refl
      (λ u b goes_to. let vs = take (value_count x signal) c.own.given in
      Leaves u (activates x b signal vs (traced u c))
      (Begins (traced u c) b signal vs (by_transfer p signal to b (goes_still x rest p signal to b u c goes_to))))
  does_moves (stmt.Seize temp file label) = seize_moves temp file label (slice_get (files_of x) file) refl
  does_moves (stmt.Free temp file) =
      let deed = Doing p (stmt.Free temp file) in
      let number = slice_index c.temps temp in
      record_moves x deed rest c (slice_get (files_of x) file) file number (goes rest c) (frees file number) refl
      (Stays (goes rest c) (to_next p tt) refl refl (inl refl))
      (λ placed f there bad. Stops c.world.trace rest f (bad_free p temp file placed f there bad))
      (λ placed there. Stays (frees file number placed (goes rest c)) (to_next p tt) refl refl (inl refl))
  does_moves stmt.Exit = ends_moves stmt.Exit c.callers tt refl
  does_moves stmt.Finish = ends_moves stmt.Finish c.callers tt refl

  starts_other : (l : Layer) → IsNoEnter l → Moves x (Starting p l) rest c (goes rest c)
  starts_other l other = Stays (goes rest c) (from_no_enter p other) refl refl (inl refl)

  starts_moves : (l : Layer) → Moves x (Starting p l) rest c (starts l rest c)
  starts_moves (stmt.Enter signal temps) = Stays (record c { todo = rest; temps = takes 0 temps c.own.given c.temps })
      (with_given p signal temps) refl refl (inl refl)
  starts_moves (stmt.SetTemp temp e) = starts_other (stmt.SetTemp temp e) tt
  starts_moves l = starts_other l tt

-- a step

count_moves : (x : Exchange) (c : Config) (i : Item) (rest : List Item) (go : Config → Config)
    → next_counted c.todo ≡ i ∷ rest → ((d : Config) → Moves x (deed_of i) rest d (go d))
    → StepTo x c (count (deed_point (deed_of i)) c go)
count_moves x c i rest go is makes = by (nat_lt c.own.count budget) refl
  where
    by : (t : Bool) → nat_lt c.own.count budget ≡ t → StepTo x c (if t then go (with_counted i c) else fails fault.Budget (with_counted i c))
    by true room = Makes i rest (go (with_counted i c)) is (makes (with_counted i c))
    by false full = CountsFull i rest (fails fault.Budget (with_counted i c)) is full

step_from : (x : Exchange) (c : Config) (items : List Item) → next_counted c.todo ≡ items → StepTo x c (does_first x items c)
step_from x c [] is = CountsNone (ends c.callers c) is
step_from x c (Do s ∷ rest) is = count_moves x c (Do s) rest (does x s.point (out-StmtKind s.kind) rest) is
    (λ d. does_moves x rest s.point d (out-StmtKind s.kind))
step_from x c (Start s ∷ rest) is = count_moves x c (Start s) rest (starts (out-StmtKind s.kind) rest) is
    (λ d. starts_moves x rest s.point d (out-StmtKind s.kind))
step_from x c (Turns p temp this end body ∷ rest) is =
    let again = map Do body ++ (Turns p temp (this + 1) end body ∷ rest) in
    count_moves x c (Turns p temp this end body) rest (λ d. goes again (sets_temp temp this d)) is
    (λ d. Stays (goes again (sets_temp temp this d)) (to_turn p temp this end body) refl refl (inl refl))

pub step_moves : (x : Exchange) (c : Config) → StepTo x c (step x c)
unfolding step
step_moves x c = step_from x c (next_counted c.todo) refl
