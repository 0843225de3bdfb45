-- What statements of the text, and those over signals, do is a list of effects.
use Rattle.std.proofs.Common.{◌≡◌, ◌⊎◌, inl, inr, ℕ, Bool, true, false, List, [], ◌∷◌, ◌++◌, map}
use Rattle.std.proofs.Common.{length, Option, Some, None, refl, sym, subst, slice_get}
use Rattle.std.proofs.lemmas.Bool.{ltb-true}
use Rattle.std.specs.Prelude.{nat_lt, nat_eq, take, Ok, if◌then◌else◌}
use Rattle.std.specs.List.{Contains}
use Rattle.plex_limits.specs.declared.limits.TheConstants.{MOST_CALLERS, MOST_SENT}
use Rattle.job_types.specs.declared.fault.Fault.TheVariants as fault
use Rattle.job_types.specs.declared.outbox.SendTo.{SendTo}
use Rattle.job_types.specs.declared.outbox.SendTo.TheVariants as sent_to
use Rattle.job_types.specs.declared.outcome.Outcome.TheVariants.{Ended}
use Rattle.job_types.specs.declared.touch.Touch.{Touch}
use Rattle.job_types.specs.Truth.{at_zero}
use Rattle.exchange_model.specs.declared.exchange.Exchange.{Exchange}
use Rattle.exchange_model.specs.declared.expr.Expr.{Expr}
use Rattle.exchange_model.specs.declared.expr.Cond.{Cond}
use Rattle.exchange_model.specs.declared.signal.SignalKind.{SignalKind}
use Rattle.exchange_model.specs.declared.signal.SignalKind.TheVariants.{Buffered, Direct, Combined}
use Rattle.exchange_model.specs.declared.signal.SignalKind.TheVariants.{Answer, Outside}
use Rattle.exchange_model.specs.declared.stmt.Receiver.{Receiver}
use Rattle.exchange_model.specs.declared.stmt.Stmt.{Stmt}
use Rattle.exchange_model.specs.declared.stmt.When.{When, out-When}
use Rattle.exchange_model.specs.declared.stmt.StmtKind.TheOpen as stmt
use Rattle.exchange_model.specs.Inside.{cond_exprs}
use Rattle.source_meaning.specs.Named.{Layer}
use Rattle.source_meaning.specs.Value.{expr_value, cond_value, values_of}
use Rattle.source_meaning.specs.Config.{Item, Do, Turns, Caller, Config, sight, entry_number}
use Rattle.source_meaning.specs.Changes.{fails, ends, on_value, on_values, goes, to_label}
use Rattle.source_meaning.specs.Changes.{activates, posts, sends, returns, value_count, chosen}
use Rattle.source_meaning.specs.Step.{does}
use Rattle.source_meaning.specs.Effects
use Rattle.source_meaning.specs.Deeds.{GoesOnAfter, Doing, IsExprOf, GoesTo, out, named, held}
use Rattle.source_meaning.specs.Deeds.{IsSending, IsPosting, to_queue, to_outside, by_send}
use Rattle.source_meaning.specs.Deeds.{by_transfer, by_combined, IsLook, to_label as at_label}
use Rattle.source_meaning.specs.Deeds.{to_next, to_branch, to_loop, IsBranch, IsEnd, AwaitsOther}
use Rattle.source_meaning.specs.Deeds.{SomeWait, Why, too_deep, too_many, no_caller, has_caller}
use Rattle.source_meaning.specs.Effects.{Effect, Leave, Looks, PutsVariable, PutsField, Seizes}
use Rattle.source_meaning.specs.Effects.{Frees, Goes, Posts, Begins, Asks, Returns, Ends, Faults}
use Rattle.source_meaning.specs.Effects.{Then}
use Rattle.source_meaning.proofs.Lists.{all_members}
use Rattle.source_meaning.proofs.Loads.{cond_tells}
use Rattle.source_meaning.proofs.Doing.{traced, Makes, one, last, Reads, value_effects, expr_reads}
use Rattle.source_meaning.proofs.Doing.{values_effects, branch, zero_branch, receiver_effects, next}
use Rattle.source_meaning.proofs.Doing.{jump}
use Rattle.plex_num.proofs.Members.{first_is, later_is}

-- the choice of a CASE is one of its branches
pub chosen_is : (whens : List When) (v : ℕ) (otherwise : List Stmt)
    → (chosen whens v otherwise ≡ otherwise) ⊎ ((w : When) × Contains whens w
    × (chosen whens v otherwise ≡ (out-When w).body))
chosen_is [] v otherwise = inl refl
chosen_is (w ∷ rest) v otherwise = by (nat_eq (out-When w).number v) (chosen_is rest v otherwise)
  where
    by : (b : Bool) → (chosen rest v otherwise ≡ otherwise) ⊎ ((u : When) × Contains rest u × (chosen rest v otherwise ≡ (out-When u).body))
        → ((if b then (out-When w).body else chosen rest v otherwise) ≡ otherwise)
        ⊎ ((u : When) × Contains (w ∷ rest) u
        × ((if b then (out-When w).body else chosen rest v otherwise) ≡ (out-When u).body))
    by true later = inr (w, first_is w rest, refl)
    by false (inl same) = inl same
    by false (inr there) = inr (there.0, later_is w there.0 rest there.1, there.2)

module _ (x : Exchange) (rest : List Item) (p : ℕ) where
  -- a condition reads what its expressions read
  cond_reads : (l : Layer) (cond : Cond) (c : Config)
      → ((e : Expr) → Contains (cond_exprs cond) e → IsExprOf (Doing p l) e)
      → Reads x (Doing p l) rest c (cond_value cond (sight x c))
  cond_reads l cond c of =
      cond_tells (IsLook x c (Doing p l)) (λ f. (t : List Touch) → Why x (traced t c) (Doing p l) f) (sight x c) cond
      (all_members (λ e. Reads x (Doing p l) rest c (expr_value e (sight x c))) (cond_exprs cond) (λ e at. expr_reads x (Doing p l) rest c e (of e at)))

  pub if_goto : (cond : Cond) (label : ℕ) (c : Config) → Makes x (Doing p (stmt.IfGoto cond label)) rest c (does x p (stmt.IfGoto cond label) rest c)
  if_goto cond label c =
      let l : Layer = stmt.IfGoto cond label in
      value_effects x (Doing p l) rest (cond_value cond (sight x c)) c (λ v d. at_zero v (goes rest d) (to_label x label d)) (cond_reads l cond c (λ e at. at))
      (λ t loads v is. zero_branch x (Doing p l) rest v (next x p l rest (traced t c) (to_next p tt))
      (jump x p l rest (traced t c) label (at_label p label refl)))

  into : (l : Layer) (body : List Stmt) (c : Config) → IsBranch l body → Makes x (Doing p l) rest c (goes (map Do body ++ rest) c)
  into l body c is = one x (Doing p l) rest c (goes (map Do body ++ rest) c) (Goes c (map Do body ++ rest) c.temps (to_branch p body is))

  pub if_effects : (cond : Cond) (yes_part no_part : List Stmt) (c : Config)
      → Makes x (Doing p (stmt.If cond yes_part no_part)) rest c (does x p (stmt.If cond yes_part no_part) rest c)
  if_effects cond yes_part no_part c =
      let l : Layer = stmt.If cond yes_part no_part in
      value_effects x (Doing p l) rest (cond_value cond (sight x c)) c
      (λ v d. at_zero v (goes (map Do no_part ++ rest) d) (goes (map Do yes_part ++ rest) d))
      (cond_reads l cond c (λ e at. at))
      (λ t loads v is. zero_branch x (Doing p l) rest v (into l no_part (traced t c) (inr refl)) (into l yes_part (traced t c) (inl refl)))

  pub case_effects : (e : Expr) (whens : List When) (otherwise : List Stmt) (c : Config)
      → Makes x (Doing p (stmt.Case e whens otherwise)) rest c (does x p (stmt.Case e whens otherwise) rest c)
  case_effects e whens otherwise c =
      let l : Layer = stmt.Case e whens otherwise in
      value_effects x (Doing p l) rest (expr_value e (sight x c)) c
      (λ v d. goes (map Do (chosen whens v otherwise) ++ rest) d)
      (expr_reads x (Doing p l) rest c e (first_is e []))
      (λ t loads v is. into l (chosen whens v otherwise) (traced t c) (chosen_is whens v otherwise))

  pub on_effects : (temp : ℕ) (from upto : Expr) (body : List Stmt) (c : Config)
      → Makes x (Doing p (stmt.On temp from upto body)) rest c (does x p (stmt.On temp from upto body) rest c)
  on_effects temp from upto body c =
      let l : Layer = stmt.On temp from upto body in
      let last = λ (a b : ℕ) (d : Config). goes (Turns p temp a b body ∷ rest) d in
      value_effects x (Doing p l) rest (expr_value from (sight x c)) c
      (λ a d. on_value (expr_value upto (sight x d)) d (last a))
      (expr_reads x (Doing p l) rest c from (first_is from (upto ∷ [])))
      (λ t loads a is. value_effects x (Doing p l) rest (expr_value upto (sight x c)) (traced t c) (last a)
      (expr_reads x (Doing p l) rest (traced t c) upto (later_is from upto (upto ∷ []) (first_is upto [])))
      (λ u more b at.
      let d = traced u c in
      one x (Doing p l) rest d (last a b d) (Goes d (Turns p temp a b body ∷ rest) c.temps
      (to_loop p temp from upto body a b (record { loads = loads; is = is }) (record { loads = more; is = at })))))

  pub end_effects : (l : Layer) (ks : List Caller) (c : Config) → IsEnd l → c.callers ≡ ks → Makes x (Doing p l) rest c (ends ks c)
  end_effects l [] c end none = last x (Doing p l) rest c (record c { over = Some Ended }) (Ends c p l refl end none)
  end_effects l (k ∷ ks) c end some = last x (Doing p l) rest c (fails fault.BadEnd c) (Faults c fault.BadEnd (has_caller p end (subst SomeWait (sym some) tt)))

  -- signals

  posted : (signal : ℕ) (to : Option Receiver) (values : List Expr) (fresh : Bool) (one_to : SendTo) (vs : List ℕ) (c : Config)
      → GoesOnAfter (slice_get x.signals signal) → IsPosting x c (Doing p (stmt.Send signal to values fresh)) one_to vs
      → Makes x (Doing p (stmt.Send signal to values fresh)) rest c (posts one_to rest vs c)
  posted signal to values fresh one_to vs c on is =
      let l : Layer = stmt.Send signal to values fresh in
      let d = Effects.posted one_to vs c in
      branch x (Doing p l) rest (nat_lt (length c.own.sends) MOST_SENT)
      (λ room. Then c d (goes rest d) refl (Posts c one_to vs is (ltb-true (length c.own.sends) MOST_SENT room)) (next x p l rest d (to_next p on)))
      (λ full. last x (Doing p l) rest c (fails fault.Sends c) (Faults c fault.Sends (too_many p signal to values fresh one_to vs is full)))

  sent : (signal : ℕ) (to : Option Receiver) (values : List Expr) (fresh : Bool) (kind : Option SignalKind) (b : ℕ)
      (vs : List ℕ) (c : Config) → slice_get x.signals signal ≡ kind → IsSending x c signal to values b vs
      → Makes x (Doing p (stmt.Send signal to values fresh)) rest c (sends x kind signal b fresh rest vs c)
  sent signal to values fresh (Some (Buffered name level count)) b vs c there is = posted signal to values fresh
      (sent_to.Queue (entry_number x b signal) level fresh) vs c (subst GoesOnAfter (sym there) tt)
      (to_queue p signal to values fresh name level count b vs there is)
  sent signal to values fresh (Some (Direct name count)) b vs c there is =
      last x (Doing p (stmt.Send signal to values fresh)) rest c (activates x b signal vs c)
      (Begins c b signal vs (by_send p signal to values fresh name count b vs there is))
  sent signal to values fresh (Some (Combined name count answer)) b vs c there is =
      let l : Layer = stmt.Send signal to values fresh in
      let d = activates x b signal vs (Effects.with_caller answer rest c) in
      branch x (Doing p l) rest (nat_lt (length c.callers) MOST_CALLERS)
      (λ room. last x (Doing p l) rest c d (Asks c b signal answer vs
      (by_combined p signal to values fresh name count answer b vs there is)
      (ltb-true (length c.callers) MOST_CALLERS room)))
      (λ full. last x (Doing p l) rest c (fails fault.Depth c) (Faults c fault.Depth (too_deep p signal to values fresh name count answer there full)))
  sent signal to values fresh (Some (Answer name count combined)) b vs c there is = next x p
      (stmt.Send signal to values fresh) rest c (to_next p (subst GoesOnAfter (sym there) tt))
  sent signal to values fresh (Some (Outside name count)) b vs c there is = posted signal to values fresh
      (sent_to.Outside signal) vs c (subst GoesOnAfter (sym there) tt)
      (to_outside p signal to values fresh name count b vs there is)
  sent signal to values fresh None b vs c there is = next x p (stmt.Send signal to values fresh) rest c (to_next p (subst GoesOnAfter (sym there) tt))

  -- the receiver stays the same after the loads of the values
  pub goes_still : (signal : ℕ) (to : Option Receiver) (b : ℕ) (t : List Touch) (c : Config) → GoesTo x c signal to b → GoesTo x (traced t c) signal to b
  goes_still signal to b t c out = out
  goes_still signal to b t c (named k) = named k
  goes_still signal to b t c (held h v k is at) = held h v k (record { loads = is.loads; is = is.is }) at

  pub send_effects : (signal : ℕ) (to : Option Receiver) (values : List Expr) (fresh : Bool) (c : Config)
      → Makes x (Doing p (stmt.Send signal to values fresh)) rest c (does x p (stmt.Send signal to values fresh) rest c)
  send_effects signal to values fresh c =
      let l : Layer = stmt.Send signal to values fresh in
      receiver_effects x p l rest to c (λ b d. on_values x values [] d (sends x (slice_get x.signals signal) signal b fresh rest)) refl
      (λ t b goes_to. values_effects x (Doing p l) rest values [] (traced t c) (sends x (slice_get x.signals signal) signal b fresh rest) (λ e at. at)
      (λ u vs given. sent signal to values fresh (slice_get x.signals signal) b vs (traced u c) refl
      (record { receiver = goes_still signal to b u (traced t c) goes_to; given = given })))

  pub transfer_effects : (signal : ℕ) (to : Option Receiver) (c : Config)
      → Makes x (Doing p (stmt.Transfer signal to)) rest c (does x p (stmt.Transfer signal to) rest c)
  transfer_effects signal to c =
      let l : Layer = stmt.Transfer signal to in
      receiver_effects x p l rest to c (λ b d. activates x b signal (take (value_count x signal) d.own.given) d) refl
      (λ t b goes_to. let d = traced t c in let vs = take (value_count x signal) c.own.given in
      last x (Doing p l) rest d (activates x b signal vs d) (Begins d b signal vs (by_transfer p signal to b goes_to)))

  answered_by : (answer : ℕ) (values : List Expr) (vs : List ℕ) (ks : List Caller) (c : Config) → c.callers ≡ ks → values_of values [] (sight x c) ≡ Ok vs
      → Makes x (Doing p (stmt.Return answer values)) rest c (returns ks answer vs c)
  answered_by answer values vs [] c is given = last x (Doing p (stmt.Return answer values)) rest c
      (fails fault.BadEnd c) (Faults c fault.BadEnd
      (no_caller p answer values (subst (λ ks. AwaitsOther ks answer) (sym is) tt)))
  answered_by answer values vs (k ∷ ks) c is given =
      let l : Layer = stmt.Return answer values in
      let d = Effects.answered k ks vs c in
      branch x (Doing p l) rest (nat_eq k.awaits answer)
      (λ same. last x (Doing p l) rest c d (Returns c p answer values vs k ks refl given is same))
      (λ other. last x (Doing p l) rest c (fails fault.BadEnd c)
      (Faults c fault.BadEnd (no_caller p answer values (subst (λ ks. AwaitsOther ks answer) (sym is) other))))

  pub return_effects : (answer : ℕ) (values : List Expr) (c : Config)
      → Makes x (Doing p (stmt.Return answer values)) rest c (does x p (stmt.Return answer values) rest c)
  return_effects answer values c =
      values_effects x (Doing p (stmt.Return answer values)) rest values [] c (λ vs d. returns d.callers answer vs d) (λ e at. at)
      (λ t vs given. answered_by answer values vs c.callers (traced t c) refl given)
