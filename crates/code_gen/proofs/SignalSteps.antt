-- The code of sends and answers is appended.
use Rattle.std.proofs.Common.{◌≡◌, ℕ, ◌+◌, ◌<◌, ◌≤◌, Bool, List, [], ◌∷◌, ◌++◌, length, drop}
use Rattle.std.proofs.Common.{get_or, Option, Some, None, slice_get, sym, ap, ◌∙◌, append-nil}
use Rattle.std.proofs.Math.ListN.{drop_of_length-le}
use Rattle.std.specs.Option.{option_map_or}
use Rattle.plex_num.specs.declared.level.Level.{Level}
use Rattle.plex_num.proofs.Lists.{opens}
use Rattle.machine_code.specs.declared.op.Op.{Op}
use Rattle.machine_code.specs.declared.op.Op.TheVariants as op
use Rattle.exchange_model.specs.declared.expr.Expr.{Expr}
use Rattle.exchange_model.specs.declared.stmt.Receiver.{Receiver}
use Rattle.exchange_model.specs.declared.signal.SignalKind.{SignalKind}
use Rattle.exchange_model.specs.declared.signal.SignalKind.TheVariants.{Buffered, Direct, Combined}
use Rattle.exchange_model.specs.declared.signal.SignalKind.TheVariants.{Answer, Outside}
use Rattle.exchange_model.specs.Kept.{signal_count}
use Rattle.stmt_code.specs.StmtCode.{Places, values_code, send_code, count_in, level_number}
use Rattle.stmt_code.specs.StmtCode.{queue_number, retrieve_code, receiver_code}
use Rattle.code_gen.specs.declared.receivers.Arm.TheVariants.{Send, Transfer}
use Rattle.code_gen.specs.Receivers.{arm_code}
use Rattle.code_gen.proofs.Parts.{two, three, part_more}

pub send_is : (p a start : ℕ) (signal : ℕ) (to : Option Receiver) (es : List Expr) (fresh : Bool) (pl : Places)
    (old n1 new : List Op) → start ≡ a + 1 → n1 ≡ old ++ op.Stmt p ∷ []
    → new ≡ n1 ++ receiver_code to (pl.receivers signal) pl.site es (arm_code (Send signal fresh) pl) start
    → new ≡ old ++ op.Stmt p ∷ receiver_code to (pl.receivers signal) pl.site es (λ b. send_code (slice_get pl.signals signal) signal b fresh pl) (a + 1)
send_is p a start signal to es fresh pl old n1 new at e1 e2 =
    let code : ℕ → List Op = λ n. receiver_code to (pl.receivers signal) pl.site es (arm_code (Send signal fresh) pl) n in
    two old n1 new (op.Stmt p ∷ []) (code (a + 1)) e1 (e2 ∙ ap (λ n. n1 ++ code n) at)

module _ (signal b : ℕ) (fresh : Bool) (pl : Places) where
  abbrev code : Option SignalKind → List Op
  code o = send_code o signal b fresh pl

  pub no_send : (old : List Op) → slice_get pl.signals signal ≡ None → old ≡ old ++ send_code (slice_get pl.signals signal) signal b fresh pl
  no_send old none = sym (ap (λ o. old ++ code o) none ∙ append-nil old)

  pub answer_is : (k : SignalKind) (name : List ℕ) (count combined : ℕ) (old : List Op)
      → slice_get pl.signals signal ≡ Some k → k ≡ Answer name count combined
      → old ≡ old ++ send_code (slice_get pl.signals signal) signal b fresh pl
  answer_is k name count combined old there is = sym (ap (λ o. old ++ code o) (there ∙ ap Some is) ∙ append-nil old)

  pub buffered_is : (k : SignalKind) (name : List ℕ) (level : Level) (count q x l : ℕ) (old new : List Op)
      → slice_get pl.signals signal ≡ Some k → k ≡ Buffered name level count → q ≡ queue_number fresh
      → x ≡ pl.entry b signal → l ≡ level_number level → new ≡ old ++ op.Snd q x l ∷ []
      → new ≡ old ++ send_code (slice_get pl.signals signal) signal b fresh pl
  buffered_is k name level count q x l old new there is eq ex el e =
      e ∙ (λ i. old ++ op.Snd (eq i) (ex i) (el i) ∷ []) ∙ sym (ap (λ o. old ++ code o) (there ∙ ap Some is))

  pub direct_is : (k : SignalKind) (name : List ℕ) (count a : ℕ) (old new : List Op)
      → slice_get pl.signals signal ≡ Some k → k ≡ Direct name count → a ≡ pl.enter b signal
      → new ≡ old ++ op.Dir a ∷ [] → new ≡ old ++ send_code (slice_get pl.signals signal) signal b fresh pl
  direct_is k name count a old new there is ea e = e ∙ ap (λ n. old ++ op.Dir n ∷ []) ea ∙ sym (ap (λ o. old ++ code o) (there ∙ ap Some is))

  pub combined_is : (k : SignalKind) (name : List ℕ) (count answer a : ℕ) (old new : List Op)
      → slice_get pl.signals signal ≡ Some k → k ≡ Combined name count answer → a ≡ pl.enter b signal
      → new ≡ old ++ op.Call a answer ∷ [] → new ≡ old ++ send_code (slice_get pl.signals signal) signal b fresh pl
  combined_is k name count answer a old new there is ea e = e ∙ ap (λ n. old ++ op.Call n answer ∷ []) ea ∙ sym (ap (λ o. old ++ code o) (there ∙ ap Some is))

  pub outside_is : (k : SignalKind) (name : List ℕ) (count : ℕ) (old new : List Op)
      → slice_get pl.signals signal ≡ Some k → k ≡ Outside name count → new ≡ old ++ op.Snd 2 signal 0 ∷ []
      → new ≡ old ++ send_code (slice_get pl.signals signal) signal b fresh pl
  outside_is k name count old new there is e = e ∙ sym (ap (λ o. old ++ code o) (there ∙ ap Some is))

-- answers

pub retrieves_more : (ts : List ℕ) (i k t : ℕ) (now new all : List Op) → i < length ts → t ≡ get_or ts i t → k ≡ i
    → new ≡ now ++ (op.Lda 0 k ∷ op.Stt t 0 ∷ []) → now ++ retrieve_code i (drop i ts) ≡ all
    → new ++ retrieve_code (i + 1) (drop (i + 1) ts) ≡ all
retrieves_more ts i k t now new all lt is same e h =
    part_more now new (op.Lda 0 i ∷ op.Stt t 0 ∷ []) (retrieve_code (i + 1) (drop (i + 1) ts)) all (e ∙ ap (λ n. now ++ (op.Lda 0 n ∷ op.Stt t 0 ∷ [])) same)
    (sym (ap (λ l. now ++ retrieve_code i l) (opens ts i t lt is)) ∙ h)

pub retrieves_end : (ts : List ℕ) (i : ℕ) (now all : List Op) → length ts ≤ i → now ++ retrieve_code i (drop i ts) ≡ all → now ≡ all
retrieves_end ts i now all past h = sym (append-nil now) ∙ sym (ap (λ l. now ++ retrieve_code i l) (drop_of_length-le ts past)) ∙ h

pub retrieve_is : (p : ℕ) (ts given : List ℕ) (old n1 new : List Op) → given ≡ ts → n1 ≡ old ++ op.Stmt p ∷ []
    → new ≡ n1 ++ retrieve_code 0 given → new ≡ old ++ op.Stmt p ∷ retrieve_code 0 ts
retrieve_is p ts given old n1 new same e1 e2 = two old n1 new (op.Stmt p ∷ []) (retrieve_code 0 ts) e1 (e2 ∙ ap (λ l. n1 ++ retrieve_code 0 l) same)

pub answer_sent_is : (p answer : ℕ) (es : List Expr) (pl : Places) (old n1 n2 new : List Op)
    → n1 ≡ old ++ op.Stmt p ∷ [] → n2 ≡ n1 ++ values_code es pl.site 0 → new ≡ n2 ++ op.Ret answer ∷ []
    → new ≡ old ++ op.Stmt p ∷ (values_code es pl.site 0 ++ op.Ret answer ∷ [])
answer_sent_is p answer es pl old n1 n2 new e1 e2 e3 = three old n1 n2 new (op.Stmt p ∷ []) (values_code es pl.site 0) (op.Ret answer ∷ []) e1 e2 e3

-- transfers

pub count_none : (signal : ℕ) (pl : Places) → slice_get pl.signals signal ≡ None → 0 ≡ count_in pl signal
count_none signal pl none = sym (ap (λ o. option_map_or signal_count o 0) none)

pub count_some : (signal n : ℕ) (pl : Places) (k : SignalKind) → slice_get pl.signals signal ≡ Some k → n ≡ signal_count k → n ≡ count_in pl signal
count_some signal n pl k there is = is ∙ sym (ap (λ o. option_map_or signal_count o 0) there)

pub transfers : (signal b a n : ℕ) (pl : Places) (old new : List Op) → a ≡ pl.enter b signal → n ≡ count_in pl signal
    → new ≡ old ++ op.Trf a n ∷ [] → new ≡ old ++ op.Trf (pl.enter b signal) (count_in pl signal) ∷ []
transfers signal b a n pl old new ea en e = e ∙ λ i. old ++ op.Trf (ea i) (en i) ∷ []

pub transfer_is : (p a start signal : ℕ) (to : Option Receiver) (none : List Expr) (pl : Places) (old n1 new : List Op)
    → none ≡ [] → start ≡ a + 1 → n1 ≡ old ++ op.Stmt p ∷ []
    → new ≡ n1 ++ receiver_code to (pl.receivers signal) pl.site none (arm_code (Transfer signal) pl) start
    → new ≡ old ++ op.Stmt p ∷ receiver_code to (pl.receivers signal) pl.site [] (λ b. op.Trf (pl.enter b signal) (count_in pl signal) ∷ []) (a + 1)
transfer_is p a start signal to none pl old n1 new is at e1 e2 =
    let code : List Expr → ℕ → List Op = λ es n. receiver_code to (pl.receivers signal) pl.site es (arm_code (Transfer signal) pl) n in
    two old n1 new (op.Stmt p ∷ []) (code [] (a + 1)) e1 (e2 ∙ λ i. n1 ++ code (is i) (at i))

-- a send, by the kind of its signal
pub ruleset sending = (no_send, buffered_is, direct_is, combined_is, outside_is, answer_is)
