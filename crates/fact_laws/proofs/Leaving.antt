-- Where an activation begins in place of another one, or a caller goes on, what it has is known.
use Rattle.std.proofs.Common.{◌≡◌, inl, inr, ⊎_elim, ℕ, zero, suc, ◌+◌, ◌<◌, ◌≤◌, Bool, true, false}
use Rattle.std.proofs.Common.{List, [], ◌∷◌, map, take, length, Option, Some, None, refl, sym, ap}
use Rattle.std.proofs.Common.{◌∙◌, subst, slice_get, arith}
use Rattle.std.proofs.lemmas.Bool.{cases_lt, ltb-true, ltb-false}
use Rattle.std.proofs.lemmas.Option.{none-some, same_Some, get_or_from_slice_get}
use Rattle.std.specs.Prelude.{Ok, min, nat_lt, slice_index, unwrap_or, if◌then◌else◌}
use Rattle.std.specs.List.{AllByRecursion}
use Rattle.std.specs.Option.{option_map_or}
use Rattle.plex_limits.specs.declared.limits.TheConstants.{MOST_CALLERS}
use Rattle.job_types.specs.Own.{eight}
use Rattle.exchange_model.specs.declared.exchange.Exchange.{Exchange}
use Rattle.exchange_model.specs.declared.block.Block.{Block}
use Rattle.exchange_model.specs.declared.expr.Expr.{Expr}
use Rattle.exchange_model.specs.declared.signal.SignalKind.{SignalKind}
use Rattle.exchange_model.specs.declared.signal.SignalKind.TheVariants.{Direct, Combined}
use Rattle.exchange_model.specs.declared.stmt.Receiver.{Receiver}
use Rattle.exchange_model.specs.declared.stmt.Receiver.TheVariants as receiver
use Rattle.exchange_model.specs.declared.stmt.StmtKind.{out-StmtKind}
use Rattle.exchange_model.specs.declared.stmt.StmtKind.TheOpen as stmt
use Rattle.exchange_model.specs.Fits.{Scope, ExprFits, Reaches, retrieved}
use Rattle.exchange_model.specs.Kept.{IsExchange, scope_of, signal_count}
use Rattle.source_meaning.specs.Named.{Layer}
use Rattle.source_meaning.specs.Value.{values_of}
use Rattle.source_meaning.specs.Config.{Item, Do, Start, Turns, Caller, Config, blank, sight}
use Rattle.source_meaning.specs.Config.{is_receiver, from_signal}
use Rattle.exchange_model.specs.Kept.{is_enter}
use Rattle.source_meaning.specs.Changes.{value_count}
use Rattle.source_meaning.specs.Deeds.{Deed, deed_point, GoesTo, out, named, held, IsBeginning}
use Rattle.source_meaning.specs.Deeds.{by_send, by_transfer, IsAsking, by_combined}
use Rattle.source_meaning.specs.Rests.{StandsAs, IsRest, IsRetrieveOf, head_point, first_point}
use Rattle.source_meaning.proofs.Fitting.{deed_fits_in}
use Rattle.source_meaning.proofs.Receiving.{transfer_reaches}
use Rattle.source_meaning.proofs.Rests.{DeedRest, signal_rest}
use Rattle.source_meaning.proofs.Sending.{IsReceiving, goes_to_receives, send_fits_as, values_long}
use Rattle.source_meaning.proofs.Temporaries.{values_at}
use Rattle.flow_points.specs.declared.fact.Slot.TheVariants.{Given, Answered, Depth, Awaits}
use Rattle.flow_points.specs.declared.fact.Value.TheVariants.{Const}
use Rattle.flow_points.specs.declared.flow.Source.{Source}
use Rattle.flow_points.specs.declared.flow.Source.TheVariants.{Of, Is, Deeper, Nothing}
use Rattle.flow_points.specs.declared.flow.Passing.{Passing}
use Rattle.flow_points.specs.declared.flow.Passing.TheVariants.{Kept, Begins, Passes, Calls}
use Rattle.flow_points.specs.declared.flow.Passing.TheVariants.{Answers}
use Rattle.flow_points.specs.Places.{IsRetrieveAt, MayReceive, place_of}
use Rattle.flow_points.specs.Slots.{temp_count, given_count, answer_count}
use Rattle.flow_points.specs.Sources.{expr_source, source_of, at_place as source_at}
use Rattle.flow_points.specs.Flows.{SendLeads, Leads, passed}
use Rattle.flow_points.specs.Facts.{Facts, Guarded, IsClosed}
use Rattle.fact_laws.specs.Covers.{Activation, KnownBefore, AnswersCovered}
use Rattle.fact_laws.proofs.Lists.{index_eight, index_past, index_take, index_past_take}
use Rattle.fact_laws.proofs.Carrying.{Gets, Carried, carried_begins, lands, flowing_gives}
use Rattle.fact_laws.proofs.Rows.{received_fits}
use Rattle.fact_laws.proofs.Standing.{at_place, deed_place, rest_target}
use Rattle.fact_laws.proofs.Going.{Here, value_gets, kept_to, answer_long}

-- the sources of a list of expressions, place by place

source_some : (es : List Expr) (k : ℕ) (ex : Expr) → slice_get es k ≡ Some ex → slice_get (map expr_source es) k ≡ Some (expr_source ex)
source_some [] k ex is = absurd (none-some ex is)
source_some (f ∷ es) zero ex is = ap (λ z. Some (expr_source z)) (same_Some f ex is)
source_some (f ∷ es) (suc k) ex is = source_some es k ex is

source_none : (es : List Expr) (k : ℕ) → slice_get es k ≡ None → slice_get (map expr_source es) k ≡ None
source_none [] k is = refl
source_none (f ∷ es) zero is = cc
source_none (f ∷ es) (suc k) is = source_none es k is

none_past : (es : List Expr) (k : ℕ) → slice_get es k ≡ None → length es ≤ k
none_past [] k is = omega arith
none_past (f ∷ es) zero is = cc
none_past (f ∷ es) (suc k) is = (let le = none_past es k is in omega (arith, le))

fits_at : (s : Scope) (es : List Expr) (k : ℕ) (ex : Expr) → AllByRecursion (ExprFits s) es → slice_get es k ≡ Some ex → ExprFits s ex
fits_at s [] k ex all is = absurd (none-some ex is)
fits_at s (f ∷ es) zero ex all is = subst (ExprFits s) (same_Some f ex is) all.0
fits_at s (f ∷ es) (suc k) ex all is = fits_at s es k ex all.1 is

-- the numbers that a signal has of its own
some_count : (x : Exchange) (signal : ℕ) (kind : SignalKind) → slice_get x.signals signal ≡ Some kind → value_count x signal ≡ signal_count kind
some_count x signal kind is = ap (λ o. option_map_or signal_count o 0) is

pub retrieve_no_enter : (l : Layer) (m : ℕ) → retrieved l ≡ Some m → is_enter l ≡ false
retrieve_no_enter (stmt.Enter signal temps) m is = cc
retrieve_no_enter (stmt.SetTemp temp e) m is = refl
retrieve_no_enter _ m is = refl

-- a RETRIEVE that is the first item
pub retrieve_target : (x : Exchange) (b : ℕ) (todo : List Item) (m q : ℕ) → IsRest x b todo → IsRetrieveOf m todo
    → head_point todo ≡ Some q → IsRetrieveAt x q m
retrieve_target x b [] m q h is at = absurd is
retrieve_target x b (Start s ∷ rest) m q h is at = absurd is
retrieve_target x b (Turns p temp this end body ∷ rest) m q h is at = absurd is
retrieve_target x b (Do s ∷ rest) m q h is at =
    let head : s.point ≡ q = same_Some s.point q
    (ap (λ (t : Bool). if t then head_point rest else Some s.point)
    (sym (retrieve_no_enter (out-StmtKind s.kind) m is)) ∙ at) in
    record {
      place = place_of b s (first_point h.0.list h.0.end);
      stands = record { place = record { stmt = s; list = h.0.list; end = h.0.end; row = h.0.row; is = refl }; here = head };
      retrieves = is;
    }

module _ (x : Exchange) (kept : IsExchange x) (P : Facts) (closed : IsClosed x P) (e : ℕ) (args : List ℕ) where
  pub may_receive : (own : ℕ) (k : Block) (c : Config) (signal : ℕ) (to : Option Receiver) (b : ℕ)
      → Reaches (scope_of x own k) to signal → GoesTo x c signal to b → MayReceive x signal to b
  may_receive own k c signal to b reaches out = absurd reaches
  may_receive own k c signal to b reaches (named n) = refl
  may_receive own k c signal to b reaches (held h v n is at) =
      let r = goes_to_receives x own k c signal (Some (receiver.Held h)) n reaches (held h v n is at) in
      ap (λ o. option_map_or (is_receiver signal) o false) r.there ∙ r.receives

  receiving_few : (b signal : ℕ) → IsReceiving x b signal → value_count x signal ≤ given_count x b
  receiving_few b signal r = received_fits x b signal r.block r.there r.receives

  module _ (c : Config) (p : ℕ) (h : Here x kept P closed e args c p) where
    -- the values of expressions, place by place: past them 0
    value_some : (k : Block) → slice_get x.blocks c.block ≡ Some k → (es : List Expr) (vs : List ℕ)
        → AllByRecursion (ExprFits (scope_of x c.block k)) es → values_of es [] (sight x c) ≡ Ok vs
        → (i : ℕ) (ex : Expr) → slice_get es i ≡ Some ex → (past : Source) → Gets P e args p (source_at (map expr_source es) i past) (slice_index (eight vs) i)
    value_some k there es vs fits is i ex at past =
        let v = values_at es [] vs (sight x c) is i ex at in
        let none : 0 + i ≡ i = omega arith in
        let got : slice_index vs i ≡ v.value = get_or_from_slice_get vs i v.value 0 (ap (slice_get vs) (sym none) ∙ v.there) in
        subst (λ s. Gets P e args p s (slice_index (eight vs) i)) (sym (ap (λ o. unwrap_or o past) (source_some es i ex at)))
        (subst (Gets P e args p (expr_source ex)) (sym (index_eight vs i ∙ got))
        (value_gets x kept P closed e args c p h k there ex (fits_at (scope_of x c.block k) es i ex fits at) v.loads
        v.value v.is))

    values_get : (k : Block) → slice_get x.blocks c.block ≡ Some k → (es : List Expr) (vs : List ℕ)
        → AllByRecursion (ExprFits (scope_of x c.block k)) es → values_of es [] (sight x c) ≡ Ok vs
        → (i : ℕ) → Gets P e args p (source_at (map expr_source es) i (Is (Const 0))) (slice_index (eight vs) i)
    values_get k there es vs fits is i = by (slice_get es i) refl
      where
        by : (found : Option Expr) → slice_get es i ≡ found → Gets P e args p (source_at (map expr_source es) i (Is (Const 0))) (slice_index (eight vs) i)
        by (Some ex) at = value_some k there es vs fits is i ex at (Is (Const 0))
        by None at =
            let long : length vs ≡ 0 + length es = values_long es [] vs (sight x c) is in
            let past = none_past es i at in
            subst (λ s. Gets P e args p s (slice_index (eight vs) i)) (sym (ap (λ o. unwrap_or o (Is (Const 0))) (source_none es i at)))
            (Const 0, refl, index_eight vs i ∙ index_past vs i (omega (arith, long, past)))

    answers_get : (k : Block) → slice_get x.blocks c.block ≡ Some k → (es : List Expr) (vs : List ℕ)
        → AllByRecursion (ExprFits (scope_of x c.block k)) es → values_of es [] (sight x c) ≡ Ok vs
        → (i : ℕ) → i < length es → Gets P e args p (source_at (map expr_source es) i Nothing) (slice_index (eight vs) i)
    answers_get k there es vs fits is i lt = by (slice_get es i) refl
      where
        by : (found : Option Expr) → slice_get es i ≡ found → Gets P e args p (source_at (map expr_source es) i Nothing) (slice_index (eight vs) i)
        by (Some ex) at = value_some k there es vs fits is i ex at Nothing
        by None at = (let past = none_past es i at in absurd (omega (arith, lt, past)))

    -- past those of the block, entry values are 0
    values_past : (b signal : ℕ) (es : List Expr) (vs : List ℕ) → values_of es [] (sight x c) ≡ Ok vs
        → length es ≡ value_count x signal → value_count x signal ≤ given_count x b → (i : ℕ) → given_count x b ≤ i
        → slice_index (eight vs) i ≡ 0
    values_past b signal es vs is many few i le =
        let long : length vs ≡ 0 + length es = values_long es [] vs (sight x c) is in
        index_eight vs i ∙ index_past vs i (omega (arith, long, many, few, le))

    passed_gets : (n i : ℕ) → Gets P e args p (if nat_lt i (min n (given_count x c.block)) then Of (Given i)
        else Is (Const 0)) (slice_index (eight (take n c.own.given)) i)
    passed_gets n i = by (nat_lt i (min n (given_count x c.block))) refl
      where
        by : (t : Bool) → nat_lt i (min n (given_count x c.block)) ≡ t
            → Gets P e args p (if t then Of (Given i) else Is (Const 0)) (slice_index (eight (take n c.own.given)) i)
        by true is =
            let lt = ltb-true i (min n (given_count x c.block)) is in
            let within : i < n = omega (arith, lt) in
            let few : i < given_count x c.block = omega (arith, lt) in
            subst (Gets P e args p (Of (Given i))) (sym (index_eight (take n c.own.given) i ∙ index_take n c.own.given i within)) (h.known.gave i few)
        by false is =
            let le = ltb-false i (min n (given_count x c.block)) is in (
              Const 0,
              refl,
              index_eight (take n c.own.given) i ∙ ⊎_elim
                  (λ (lt : i < n). index_take n c.own.given i lt ∙ h.known.past i (omega (arith, le, lt)))
                  (λ past. index_past_take n c.own.given i past)
                  (cases_lt i n),
            )

    passed_past : (n b : ℕ) → n ≤ given_count x b → (i : ℕ) → given_count x b ≤ i → slice_index (eight (take n c.own.given)) i ≡ 0
    passed_past n b few i le = index_eight (take n c.own.given) i ∙ index_past_take n c.own.given i (omega (arith, few, le))

    module _ (l : Layer) (rest : List Item) (stands : StandsAs x c.block p l rest) where
      -- an activation begins at the ENTER of its signal
      enters_known : (b signal q : ℕ) (how : Passing) (given : List ℕ) (callers : List Caller)
          → head_point (from_signal x b signal) ≡ Some q → Leads x c.block p (head_point rest) l q how
          → Guarded P e p q how
          → Carried P e args p (source_of how) (temp_count x b) (given_count x b) blank given callers
          → ((i : ℕ) → given_count x b ≤ i → slice_index given i ≡ 0)
          → Activation x P e args b q blank given callers
      enters_known b signal q how given callers is leads guarded carried past =
          lands x P closed e args (at_place c.block p l rest) q how
          (record {
            place = deed_place stands;
            leads = leads;
            reached = (Const (length c.callers), h.known.depth);
            guarded = guarded;
          })
          b blank given callers (rest_target x b (from_signal x b signal) (signal_rest x b signal) q is) carried past

  pub begins_known : (c : Config) (deed : Deed) (rest : List Item) (b signal : ℕ) (vs : List ℕ)
      → DeedRest x c.block deed rest → Here x kept P closed e args c (deed_point deed)
      → IsBeginning x c deed b signal vs → KnownBefore x P e args b (from_signal x b signal) blank (eight vs) c.callers
  begins_known c deed rest b signal vs at h (by_send p s to values fresh name count n ws kind sending) = λ q is.
      let l : Layer = stmt.Send s to values fresh in
      let f = deed_fits_in x kept c.block p l rest at.0 in
      let sent = send_fits_as (scope_of x c.block f.block) s to (length values) fresh (Direct name count) kind f.fits.names in
      let many : length values ≡ value_count x s = sent.0 ∙ sym (some_count x s (Direct name count) kind) in
      let how : Passing = Begins (map expr_source values) in
      let leads : Leads x c.block p (head_point rest) l q how =
      subst (λ o. SendLeads x o (head_point rest) s to values q how) (sym kind)
      (record {
        receiver = n;
        receives = may_receive c.block f.block c s to n sent.1 sending.receiver;
        goes = record { ends = is; is = refl };
      }) in
      enters_known c p h l rest at.0 n s q how (eight ws) c.callers is leads tt
      (carried_begins P e args p (λ k. source_at (map expr_source values) k (Is (Const 0))) (Of Depth) (Of Awaits)
      (temp_count x n) (given_count x n) (eight ws) c.callers
      (λ k lt. values_get c p h f.block f.there values ws f.fits.exprs.each sending.given k) h.known.depth h.known.awaits)
      (values_past c p h n s values ws sending.given many (receiving_few n s (goes_to_receives x c.block f.block c s to n sent.1 sending.receiver)))
  begins_known c deed rest b signal vs at h (by_transfer p s to n goes) = λ q is.
      let l : Layer = stmt.Transfer s to in
      let f = deed_fits_in x kept c.block p l rest at.0 in
      let reaches = transfer_reaches (scope_of x c.block f.block) (slice_get x.signals s) s to f.fits.names in
      let how : Passing = Passes (passed x c.block s) in
      enters_known c p h l rest at.0 n s q how (eight (take (value_count x s) c.own.given)) c.callers is
      (record { receiver = n; receives = may_receive c.block f.block c s to n reaches goes; goes = record { ends = is; is = refl } }) tt
      (carried_begins P e args p (λ k. if nat_lt k (passed x c.block s) then Of (Given k) else Is (Const 0)) (Of Depth)
      (Of Awaits) (temp_count x n) (given_count x n) (eight (take (value_count x s) c.own.given)) c.callers
      (λ k lt. passed_gets c p h (value_count x s) k) h.known.depth h.known.awaits)
      (passed_past c p h (value_count x s) n (receiving_few n s (goes_to_receives x c.block f.block c s to n reaches goes)))

  -- the sender waits at what follows, and the callee knows of it
  pub asks_known : (c : Config) (deed : Deed) (rest : List Item) (b signal answer : ℕ) (vs : List ℕ) (k : Caller)
      → k.awaits ≡ answer → DeedRest x c.block deed rest → Here x kept P closed e args c (deed_point deed)
      → length c.callers < MOST_CALLERS
      → IsAsking x c deed b signal answer vs → KnownBefore x P e args b (from_signal x b signal) blank (eight vs)
      (k ∷ c.callers) × KnownBefore x P e args c.block rest c.temps c.own.given c.callers
  asks_known c deed rest b signal answer vs k waits at h room (by_combined p s to values fresh name count a n ws kind sending) =
      let l : Layer = stmt.Send s to values fresh in
      let f = deed_fits_in x kept c.block p l rest at.0 in
      let sent = send_fits_as (scope_of x c.block f.block) s to (length values) fresh (Combined name count a) kind f.fits.names in
      let many : length values ≡ value_count x s = sent.0 ∙ sym (some_count x s (Combined name count a) kind) in
      let how : Passing = Calls (map expr_source values) a in
      let deeper : length (k ∷ c.callers) ≡ length c.callers + 1 = omega arith in (
        λ q is.
            let leads : Leads x c.block p (head_point rest) l q how =
            subst (λ o. SendLeads x o (head_point rest) s to values q how) (sym kind)
            (inl (record {
              receiver = n;
              receives = may_receive c.block f.block c s to n sent.1 sending.receiver;
              goes = record { ends = is; is = refl };
            })) in
            enters_known c p h l rest at.0 n s q how (eight ws) (k ∷ c.callers) is leads (length c.callers, room, h.known.depth)
            (carried_begins P e args p (λ k. source_at (map expr_source values) k (Is (Const 0))) Deeper
            (Is (Const (a + 1))) (temp_count x n) (given_count x n) (eight ws) (k ∷ c.callers)
            (λ k lt. values_get c p h f.block f.there values ws f.fits.exprs.each sending.given k)
            (length c.callers, room, ap Const deeper, h.known.depth) (ap (λ n. Const (n + 1)) waits))
            (values_past c p h n s values ws sending.given many (receiving_few n s (goes_to_receives x c.block f.block c s to n sent.1 sending.receiver))),
        λ q is.
            kept_to x kept P closed e args c p h l rest at.0 q
            (subst (λ o. SendLeads x o (head_point rest) s to values q Kept) (sym kind)
            (inr (record { ends = is; is = refl }))) (rest_target x c.block rest at.1 q is),
      )

  -- a caller goes on with the values of the answer
  pub returns_known : (c : Config) (p answer : ℕ) (values : List Expr) (vs : List ℕ) (k : Caller) (ks : List Caller)
      (rest : List Item) → StandsAs x c.block p (stmt.Return answer values) rest → Here x kept P closed e args c p
      → values_of values [] (sight x c) ≡ Ok vs → k.awaits ≡ answer → IsRest x k.block k.todo
      → IsRetrieveOf k.awaits k.todo → KnownBefore x P e args k.block k.todo k.temps k.given ks
      → AnswersCovered x P e args k.todo (eight vs)
  returns_known c p answer values vs k ks rest stands h given waits into retrieves known m q i is at lt =
      let l : Layer = stmt.Return answer values in
      let f = deed_fits_in x kept c.block p l rest stands in
      let one : m ≡ answer = retrieve_same k.todo m k.awaits is retrieves ∙ waits in
      let long = answer_long x answer (length values) f.fits.names in
      let target = retrieve_target x k.block k.todo m q into is at in
      let many : value_count x m ≡ value_count x answer = ap (value_count x) one in
      let g = answers_get c p h f.block f.there values vs f.fits.exprs.each given i (omega (arith, lt, long, many)) in (
        g.0,
        flowing_gives x P closed e args (at_place c.block p l rest) q (Answers (map expr_source values))
            (record {
              place = deed_place stands;
              leads = record { retrieve = subst (IsRetrieveAt x q) one target; is = refl };
              reached = (Const (length c.callers), h.known.depth);
              guarded = (Const (length ks), (known q at).depth);
            })
            (Answered i) g.0 (record { place = target.place; stands = target.stands; slot = subst (λ o. i < answer_count x o) (sym target.retrieves) lt }) g.1,
        g.2,
      )
    where
      retrieve_same : (todo : List Item) (m n : ℕ) → IsRetrieveOf m todo → IsRetrieveOf n todo → m ≡ n
      retrieve_same [] m n a b = absurd a
      retrieve_same (Start s ∷ rest) m n a b = absurd a
      retrieve_same (Turns p temp this end body ∷ rest) m n a b = absurd a
      retrieve_same (Do s ∷ rest) m n a b = same_Some m n (sym a ∙ b)
