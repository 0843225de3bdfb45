-- From an item that is counted flows lead to the one that is counted next.
--
-- An ON is counted, and then each of its turns, at one point; so the first turn follows the ON at
-- its own point, and no flow leads there.
use Rattle.std.proofs.Common.{◌≡◌, ◌⊎◌, inl, inr, ⊎_elim, ℕ, ◌+◌, Bool, true, false, List, [], ◌∷◌}
use Rattle.std.proofs.Common.{map, length, Some, None, refl, sym, ap, ◌∙◌, subst, slice_get}
use Rattle.std.proofs.lemmas.Bool.{eqb-true}
use Rattle.std.specs.Prelude.{nat_lt, if◌then◌else◌}
use Rattle.std.specs.List.{AllByRecursion}
use Rattle.exchange_model.specs.declared.exchange.Exchange.{Exchange}
use Rattle.exchange_model.specs.declared.expr.Expr.{Expr}
use Rattle.exchange_model.specs.declared.signal.SignalKind.TheVariants.{Direct, Combined}
use Rattle.exchange_model.specs.declared.stmt.Stmt.{Stmt}
use Rattle.exchange_model.specs.declared.stmt.StmtKind.{out-StmtKind}
use Rattle.exchange_model.specs.declared.stmt.StmtKind.TheOpen as stmt
use Rattle.exchange_model.specs.Kept.{IsExchange, scope_of}
use Rattle.source_meaning.specs.Named.{Layer}
use Rattle.source_meaning.specs.Config.{Item, Do, Start, Turns, Caller, Config, from_signal}
use Rattle.source_meaning.specs.Config.{next_counted}
use Rattle.exchange_model.specs.Kept.{is_enter}
use Rattle.source_meaning.specs.Deeds.{Deed, Doing, Turning, deed_of, deed_point, GoesOn, to_next}
use Rattle.source_meaning.specs.Deeds.{with_value, to_label, to_branch, to_loop, to_turn}
use Rattle.source_meaning.specs.Deeds.{with_found, with_seized, with_answers, with_given}
use Rattle.source_meaning.specs.Deeds.{from_no_enter, IsBeginning, by_send, by_transfer, IsAsking}
use Rattle.source_meaning.specs.Deeds.{by_combined}
use Rattle.source_meaning.specs.Effects.{Leave, Begins, Asks, Returns, Ends, Faults}
use Rattle.source_meaning.specs.Rests.{StandsAs, DeedStands, IsRest, IsRetrieveOf, WaitsAtRetrieve}
use Rattle.source_meaning.specs.Rests.{head_point}
use Rattle.source_meaning.proofs.Fitting.{deed_fits_in}
use Rattle.source_meaning.proofs.Receiving.{transfer_reaches}
use Rattle.source_meaning.proofs.Rests.{cons_head, head_text}
use Rattle.source_meaning.proofs.Sending.{send_fits_as}
use Rattle.flow_points.specs.declared.fact.Value.TheVariants.{Const, Any}
use Rattle.flow_points.specs.declared.flow.Source.TheVariants.{Is}
use Rattle.flow_points.specs.declared.flow.Passing.{Passing}
use Rattle.flow_points.specs.declared.flow.Passing.TheVariants.{Kept, Sets, Takes, Retrieves}
use Rattle.flow_points.specs.declared.flow.Passing.TheVariants.{Begins as BeginsWith, Passes, Calls}
use Rattle.flow_points.specs.declared.flow.Passing.TheVariants.{Answers}
use Rattle.flow_points.specs.Facts.{Facts, Reached, IsClosed}
use Rattle.flow_points.specs.Flows.{Leads, SendLeads, passed}
use Rattle.flow_points.specs.Places.{IsRetrieveAt}
use Rattle.flow_points.specs.Sources.{expr_source}
use Rattle.entry_summary.specs.Faults.{FlowLeads, Walk, Once, Then}
use Rattle.fact_laws.specs.Covers.{Activation, KnownBefore}
use Rattle.fact_laws.proofs.Going.{leads_next, leads_label, leads_branch, no_enter, label_at}
use Rattle.fact_laws.proofs.Leaving.{may_receive, retrieve_target}
use Rattle.fact_laws.proofs.Standing.{at_place, deed_place, loop_place, rest_target, stays_known}

-- walks

pub walk_join : {x : Exchange} {P : Facts} {e p q r : ℕ} → Walk x P e p q → Walk x P e q r → Walk x P e p r
walk_join (Once one) more = Then one more
walk_join (Then one rest) more = Then one (walk_join rest more)

-- what follows

-- the item is a turn of the loop at the point
abbrev pub IsTurnAt : ℕ → Deed → Type 0
IsTurnAt p (Turning q temp this end body) = p ≡ q
IsTurnAt p _ = ⊥

abbrev pub IsNoTurn : Deed → Type 0
IsNoTurn (Turning q temp this end body) = ⊥
IsNoTurn _ = Unit {0}

-- flows lead from what is counted to what is counted next, or that is the first turn of it
abbrev pub Follows : Exchange → Facts → ℕ → Deed → Deed → Type 0
Follows x P e deed next = Walk x P e (deed_point deed) (deed_point next) ⊎ (IsNoTurn deed × IsTurnAt (deed_point deed) next)

-- a statement that is counted is no ENTER
abbrev pub IsPlain : Deed → Type 0
IsPlain (Doing p l) = is_enter l ≡ false
IsPlain _ = Unit {0}

pub counted_plain : (todo : List Item) (i : Item) (rest : List Item) → next_counted todo ≡ i ∷ rest → IsPlain (deed_of i)
unfolding next_counted
counted_plain [] i rest is = absurd (let none = is in cc)
counted_plain (Do s ∷ more) i rest is = by (is_enter (out-StmtKind s.kind)) refl is (counted_plain more i rest)
  where
    by : (t : Bool) → is_enter (out-StmtKind s.kind) ≡ t → (if t then next_counted more else Do s ∷ more) ≡ i ∷ rest
        → (next_counted more ≡ i ∷ rest → IsPlain (deed_of i)) → IsPlain (deed_of i)
    by true enter same past = past same
    by false plain same past = subst (λ j. IsPlain (deed_of j)) (cons_head (Do s) i more rest same) plain
counted_plain (Start s ∷ more) i rest is = subst (λ j. IsPlain (deed_of j)) (cons_head (Start s) i more rest is) tt
counted_plain (Turns p temp this end body ∷ more) i rest is = by (nat_lt end this) is (counted_plain more i rest)
  where
    by : (t : Bool) → (if t then next_counted more else Turns p temp this end body ∷ more) ≡ i ∷ rest
        → (next_counted more ≡ i ∷ rest → IsPlain (deed_of i)) → IsPlain (deed_of i)
    by true same past = past same
    by false same past = subst (λ j. IsPlain (deed_of j)) (cons_head (Turns p temp this end body) i more rest same) tt

module _ (x : Exchange) (P : Facts) (closed : IsClosed x P) (e : ℕ) (args : List ℕ) (b : ℕ) (temps given : List ℕ) (callers : List Caller) where
  abbrev KnownAll : List Item → Type 0
  KnownAll todo = KnownBefore x P e args b todo temps given callers

  -- past a loop with no turn left
  past_loop : (p temp this end : ℕ) (body : List Stmt) (rest : List Item)
      → IsRest x b (Turns p temp this end body ∷ rest) → KnownAll (Turns p temp this end body ∷ rest) → KnownAll rest
  past_loop p temp this end body rest h known q at =
      stays_known x P closed e args b temps given callers p (stmt.On temp h.0.from h.0.upto body) rest q
      (loop_place h.0) (inr (record { ends = at; is = refl })) (known p refl) (rest_target x b rest h.1 q at)

  loop_goes : (p temp this end : ℕ) (body : List Stmt) (rest : List Item)
      → IsRest x b (Turns p temp this end body ∷ rest) → KnownAll (Turns p temp this end body ∷ rest) → (q : ℕ)
      → head_point rest ≡ Some q → FlowLeads x P e p q
  loop_goes p temp this end body rest h known q at = record {
    at = at_place b p (stmt.On temp h.0.from h.0.upto body) rest;
    stands = record { place = loop_place h.0; here = refl };
    reached = (Const (length callers), (known p refl).depth);
    how = Kept;
    leads = inr (record { ends = at; is = refl });
  }

  -- where flows lead to the head of what remains, they lead to what is counted next
  pub walk_next : (r : ℕ) (todo : List Item) (i : Item) (more : List Item) → IsRest x b todo
      → next_counted todo ≡ i ∷ more → KnownAll todo → ((q : ℕ) → head_point todo ≡ Some q → Walk x P e r q)
      → Walk x P e r (deed_point (deed_of i))
  unfolding next_counted
  walk_next r [] i more h is known to = absurd (let none = is in cc)
  walk_next r (Do s ∷ rest) i more h is known to = by (is_enter (out-StmtKind s.kind)) is known to (walk_next r rest i more h.1)
    where
      by : (t : Bool) → (if t then next_counted rest else Do s ∷ rest) ≡ i ∷ more
          → ((p : ℕ) → (if t then head_point rest else Some s.point) ≡ Some p
          → Activation x P e args b p temps given callers)
          → ((q : ℕ) → (if t then head_point rest else Some s.point) ≡ Some q → Walk x P e r q)
          → (next_counted rest ≡ i ∷ more → KnownAll rest → ((q : ℕ) → head_point rest ≡ Some q → Walk x P e r q)
          → Walk x P e r (deed_point (deed_of i))) → Walk x P e r (deed_point (deed_of i))
      by true same before here past = past same before here
      by false same before here past = subst (λ j. Walk x P e r (deed_point (deed_of j))) (cons_head (Do s) i rest more same) (here s.point refl)
  walk_next r (Start s ∷ rest) i more h is known to = subst (λ j. Walk x P e r (deed_point (deed_of j))) (cons_head (Start s) i rest more is) (to s.point refl)
  walk_next r (Turns p temp this end body ∷ rest) i more h is known to = by (nat_lt end this) is (walk_next r rest i more h.1)
    where
      by : (t : Bool) → (if t then next_counted rest else Turns p temp this end body ∷ rest) ≡ i ∷ more
          → (next_counted rest ≡ i ∷ more → KnownAll rest → ((q : ℕ) → head_point rest ≡ Some q → Walk x P e r q)
          → Walk x P e r (deed_point (deed_of i))) → Walk x P e r (deed_point (deed_of i))
      by true same past = past same (past_loop p temp this end body rest h known)
          (λ q at. walk_join (to p refl) (Once (loop_goes p temp this end body rest h known q at)))
      by false same past = subst (λ j. Walk x P e r (deed_point (deed_of j))) (cons_head (Turns p temp this end body) i rest more same) (to p refl)

  -- after an ON that is counted comes its first turn, or what follows it
  pub loop_next : (p temp a z : ℕ) (body : List Stmt) (rest : List Item) (i : Item) (more : List Item)
      → IsRest x b (Turns p temp a z body ∷ rest) → next_counted (Turns p temp a z body ∷ rest) ≡ i ∷ more
      → KnownAll (Turns p temp a z body ∷ rest)
      → Walk x P e p (deed_point (deed_of i)) ⊎ IsTurnAt p (deed_of i)
  unfolding next_counted
  loop_next p temp a z body rest i more h is known = by (nat_lt z a) is
    where
      by : (t : Bool) → (if t then next_counted rest else Turns p temp a z body ∷ rest) ≡ i ∷ more
          → Walk x P e p (deed_point (deed_of i)) ⊎ IsTurnAt p (deed_of i)
      by true same = inl (walk_next p rest i more h.1 same (past_loop p temp a z body rest h known)
          (λ q at. Once (loop_goes p temp a z body rest h known q at)))
      by false same = inr (subst (λ j. IsTurnAt p (deed_of j)) (cons_head (Turns p temp a z body) i rest more same) refl)

module _ (x : Exchange) (kept : IsExchange x) (P : Facts) (closed : IsClosed x P) (e : ℕ) (args : List ℕ) where
  module _ (c : Config) (p : ℕ) (reached : Reached P e p) where
    flow_to : (l : Layer) (rest : List Item) → StandsAs x c.block p l rest → (q : ℕ) (how : Passing)
        → Leads x c.block p (head_point rest) l q how → FlowLeads x P e p q
    flow_to l rest stands q how leads = record {
      at = at_place c.block p l rest;
      stands = record { place = deed_place stands; here = refl };
      reached = reached;
      how = how;
      leads = leads;
    }

  -- to the head of where the job goes on, but for a loop that begins
  abbrev HeadsTo : Deed → List Item → Type 0
  HeadsTo deed todo = (q : ℕ) → head_point todo ≡ Some q → FlowLeads x P e (deed_point deed) q

  -- a loop begins
  record Loops (deed : Deed) (todo rest : List Item) : Type 0 where
    no_turn : IsNoTurn deed
    temp : ℕ
    from : ℕ
    upto : ℕ
    body : List Stmt
    is : todo ≡ Turns (deed_point deed) temp from upto body ∷ rest

  goes_heads : (rest : List Item) (c : Config) (deed : Deed) (todo : List Item) (temps : List ℕ)
      → DeedStands x c.block deed rest → IsPlain deed → Reached P e (deed_point deed) → GoesOn x rest c deed todo temps
      → HeadsTo deed todo ⊎ Loops deed todo rest
  goes_heads rest c deed todo temps at plain reached (to_next p {l = l} may) =
      let f = deed_fits_in x kept c.block p l rest at in
      inl (λ q is. ⊎_elim (λ leads. flow_to c p reached l rest at q Kept leads)
      (λ any. flow_to c p reached l rest at q (Sets any.0 (Is Any)) any.1)
      (leads_next x c.block p f.block (head_point rest) l q f.fits.names plain may is))
  goes_heads rest c deed todo temps at plain reached (with_value p temp ex v value) =
      inl (λ q is. flow_to c p reached (stmt.SetTemp temp ex) rest at q (Sets temp (expr_source ex)) (record { ends = is; is = refl }))
  goes_heads rest c deed todo temps at plain reached (to_label p {l = l} label named) =
      inl (λ q is. ⊎_elim (λ leads. flow_to c p reached l rest at q Kept leads)
      (λ any. flow_to c p reached l rest at q (Sets any.0 (Is Any)) any.1)
      (leads_label x c.block p (head_point rest) l label q named
      (label_at x kept P closed e args c.block label q is)))
  goes_heads rest c deed todo temps at plain reached (to_branch p {l = l} body branch) =
      inl (λ q is. flow_to c p reached l rest at q Kept (leads_branch x c.block p (head_point rest) l body q branch (sym (head_text body rest) ∙ is)))
  goes_heads rest c deed todo temps at plain reached (to_loop p temp from upto body a b first last) =
      inr (record { no_turn = tt; temp = temp; from = a; upto = b; body = body; is = refl })
  goes_heads rest c deed todo temps at plain reached (to_turn p temp this end body) =
      let loop = at.0 in
      let again = Turns p temp (this + 1) end body ∷ rest in
      inl (λ q is. flow_to c p reached (stmt.On temp loop.from loop.upto body) rest
      (record { stmt = loop.stmt; point = loop.point; is = loop.is; stands = loop.stands }) q (Sets temp (Is Any))
      (inl (record { ends = sym (head_text body again) ∙ is; is = refl })))
  goes_heads rest c deed todo temps at plain reached (with_found p temp file field rel ex label number placed found) =
      inl (λ q is. flow_to c p reached (stmt.ForFirst temp file field rel ex label) rest at q (Sets temp (Is Any))
      (inl (record { ends = label_at x kept P closed e args c.block label q is; is = refl })))
  goes_heads rest c deed todo temps at plain reached (with_seized p temp file label number placed found) =
      inl (λ q is. flow_to c p reached (stmt.Seize temp file label) rest at q (Sets temp (Is Any)) (inl (record { ends = is; is = refl })))
  goes_heads rest c deed todo temps at plain reached (with_answers p answer ts) =
      inl (λ q is. flow_to c p reached (stmt.Retrieve answer ts) rest at q (Retrieves ts) (record { ends = is; is = refl }))
  goes_heads rest c deed todo temps at plain reached (with_given p signal ts) =
      inl (λ q is. flow_to c p reached (stmt.Enter signal ts) rest at.0 q (Takes ts) (record { ends = is; is = refl }))
  goes_heads rest c deed todo temps at plain reached (from_no_enter p {l = l} other) = absurd (no_enter l other at.1)

  pub goes_follows : (rest : List Item) (c : Config) (deed : Deed) (todo : List Item) (temps given : List ℕ)
      (callers : List Caller) → DeedStands x c.block deed rest → IsPlain deed → Reached P e (deed_point deed)
      → IsRest x c.block todo
      → KnownBefore x P e args c.block todo temps given callers → GoesOn x rest c deed todo temps
      → (i : Item) (more : List Item) → next_counted todo ≡ i ∷ more → Follows x P e deed (deed_of i)
  goes_follows rest c deed todo temps given callers at plain reached into known on i more is =
      ⊎_elim (λ heads. inl (walk_next x P closed e args c.block temps given callers (deed_point deed) todo i more into
      is known (λ q head. Once (heads q head)))) loops (goes_heads rest c deed todo temps at plain reached on)
    where
      loops : Loops deed todo rest → Follows x P e deed (deed_of i)
      loops h =
          let turns = Turns (deed_point deed) h.temp h.from h.upto h.body ∷ rest in
          ⊎_elim inl (λ first. inr (h.no_turn, first))
          (loop_next x P closed e args c.block temps given callers (deed_point deed) h.temp h.from h.upto h.body rest i
          more (subst (IsRest x c.block) h.is into) (sym (ap next_counted h.is) ∙ is)
          (subst (λ z. KnownBefore x P e args c.block z temps given callers) h.is known))

  -- to the ENTER of a signal

  begins_heads : (c : Config) (deed : Deed) (rest : List Item) (b signal : ℕ) (vs : List ℕ)
      → DeedStands x c.block deed rest → Reached P e (deed_point deed) → IsBeginning x c deed b signal vs
      → HeadsTo deed (from_signal x b signal)
  begins_heads c deed rest b signal vs at reached (by_send p s to values fresh name count n ws kind sending) = λ q is.
      let l : Layer = stmt.Send s to values fresh in
      let f = deed_fits_in x kept c.block p l rest at in
      let sent = send_fits_as (scope_of x c.block f.block) s to (length values) fresh (Direct name count) kind f.fits.names in
      let how : Passing = BeginsWith (map expr_source values) in
      let leads : Leads x c.block p (head_point rest) l q how =
      subst (λ o. SendLeads x o (head_point rest) s to values q how) (sym kind)
      (record {
        receiver = n;
        receives = may_receive x kept P closed e args c.block f.block c s to n sent.1
            sending.receiver;
        goes = record { ends = is; is = refl };
      }) in
      flow_to c p reached l rest at q how leads
  begins_heads c deed rest b signal vs at reached (by_transfer p s to n goes) = λ q is.
      let l : Layer = stmt.Transfer s to in
      let f = deed_fits_in x kept c.block p l rest at in
      let reaches = transfer_reaches (scope_of x c.block f.block) (slice_get x.signals s) s to f.fits.names in
      flow_to c p reached l rest at q (Passes (passed x c.block s))
      (record { receiver = n; receives = may_receive x kept P closed e args c.block f.block c s to n reaches goes; goes = record { ends = is; is = refl } })

  asks_heads : (c : Config) (deed : Deed) (rest : List Item) (b signal answer : ℕ) (vs : List ℕ)
      → DeedStands x c.block deed rest → Reached P e (deed_point deed) → IsAsking x c deed b signal answer vs
      → HeadsTo deed (from_signal x b signal)
  asks_heads c deed rest b signal answer vs at reached (by_combined p s to values fresh name count a n ws kind sending) = λ q is.
      let l : Layer = stmt.Send s to values fresh in
      let f = deed_fits_in x kept c.block p l rest at in
      let sent = send_fits_as (scope_of x c.block f.block) s to (length values) fresh (Combined name count a) kind f.fits.names in
      let how : Passing = Calls (map expr_source values) a in
      let leads : Leads x c.block p (head_point rest) l q how =
      subst (λ o. SendLeads x o (head_point rest) s to values q how) (sym kind)
      (inl (record {
        receiver = n;
        receives = may_receive x kept P closed e args c.block f.block c s to n sent.1
            sending.receiver;
        goes = record { ends = is; is = refl };
      })) in
      flow_to c p reached l rest at q how leads

  -- to the RETRIEVE of the caller that goes on
  returns_heads : (c : Config) (p answer : ℕ) (values : List Expr) (k : Caller) (rest : List Item)
      → StandsAs x c.block p (stmt.Return answer values) rest → Reached P e p → k.awaits ≡ answer
      → IsRest x k.block k.todo → IsRetrieveOf k.awaits k.todo
      → HeadsTo (Doing p (stmt.Return answer values)) k.todo
  returns_heads c p answer values k rest stands reached waits into retrieves = λ q is.
      flow_to c p reached (stmt.Return answer values) rest stands q (Answers (map expr_source values))
      (record { retrieve = subst (IsRetrieveAt x q) waits (retrieve_target x k.block k.todo k.awaits q into retrieves is); is = refl })

  pub leaves_follow : (deed : Deed) (rest : List Item) (c d : Config) → DeedStands x c.block deed rest
      → Reached P e (deed_point deed) → AllByRecursion WaitsAtRetrieve c.callers → IsRest x d.block d.todo
      → KnownBefore x P e args d.block d.todo d.temps d.own.given d.callers → Leave x deed rest c d → d.over ≡ None
      → (i : Item) (more : List Item) → next_counted d.todo ≡ i ∷ more → Follows x P e deed (deed_of i)
  leaves_follow deed rest c d at reached waits into known (Begins from b signal vs is) going i more next =
      inl (walk_next x P closed e args d.block d.temps d.own.given d.callers (deed_point deed) d.todo i more into next
      known (λ q head. Once (begins_heads c deed rest b signal vs at reached is q head)))
  leaves_follow deed rest c d at reached waits into known (Asks from b signal answer vs is room) going i more next =
      inl (walk_next x P closed e args d.block d.temps d.own.given d.callers (deed_point deed) d.todo i more into next
      known (λ q head. Once (asks_heads c deed rest b signal answer vs at reached is q head)))
  leaves_follow deed rest c d at reached waits into known (Returns from p answer values vs k ks is given some same) going i more next =
      let stands : StandsAs x c.block p (stmt.Return answer values) rest = subst (λ (deed : Deed). DeedStands x c.block deed rest) is at in
      let there : Reached P e p = subst (λ (deed : Deed). Reached P e (deed_point deed)) is reached in
      let retrieves : AllByRecursion WaitsAtRetrieve (k ∷ ks) = subst (AllByRecursion WaitsAtRetrieve) some waits in
      let heads = returns_heads c p answer values k rest stands there (eqb-true k.awaits answer same) into retrieves.0 in
      inl (subst (λ (deed : Deed). Walk x P e (deed_point deed) (deed_point (deed_of i))) (sym is)
      (walk_next x P closed e args d.block d.temps d.own.given d.callers p d.todo i more into next known (λ q head. Once (heads q head))))
  leaves_follow deed rest c d at reached waits into known (Ends from p l is end none) going i more next = absurd (let over = going in cc)
  leaves_follow deed rest c d at reached waits into known (Faults from f why) going i more next = absurd (let over = going in cc)
