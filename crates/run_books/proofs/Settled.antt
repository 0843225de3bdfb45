-- What the books are after a job has retired, put together of what its parts did.
use Rattle.std.proofs.Common.{◌≡◌, ◌≢◌, ℕ, zero, suc, ◌+◌, List, [], ◌∷◌, ◌++◌, map, length, Option}
use Rattle.std.proofs.Common.{Result, Ok, Err, IfOk, refl, sym, ap, subst, ◌∙◌, arith}
use Rattle.plex_num.specs.declared.seq.Memory.{Memory}
use Rattle.std.specs.FinMap as fin
use Rattle.exchange_model.specs.declared.exchange.Exchange.{Exchange}
use Rattle.exchange_model.specs.Cells.{placed_files}
use Rattle.job_types.specs.declared.chain.Held.{Held}
use Rattle.job_types.specs.declared.fault.Fault.{Fault}
use Rattle.job_types.specs.declared.job.JobStart.{JobStart}
use Rattle.job_types.specs.declared.outbox.Sent.{Sent}
use Rattle.job_types.specs.declared.outcome.JobDone.{JobDone}
use Rattle.job_types.specs.declared.outcome.Outcome.{Outcome}
use Rattle.job_types.specs.declared.outcome.Outcome.TheVariants.{Ended, Faulted}
use Rattle.job_types.specs.declared.touch.Touch.{Touch}
use Rattle.job_types.specs.Forlopps.{ChainMap, Dead, all_records, chain_at, dead_below, with_chain}
use Rattle.job_types.specs.Forlopps.{with_dead}
use Rattle.job_types.specs.Own.{World, untouched}
use Rattle.job_types.specs.Touches.{stored}
use Rattle.job_types.specs.Waiting.{Waiting, count_of, nobody, others, waiting_count}
use Rattle.job_types.proofs.ChainMaps.{chain_same}
use Rattle.machine_code.specs.Told.{told_all}
use Rattle.source_meaning.specs.Config.{files_of}
use Rattle.source_meaning.specs.Retirement.{all_cleared, all_delivered, begins_anew, keeps_chain}
use Rattle.source_meaning.specs.Retirement.{release_world, releases, restart_world, with_outcome}
use Rattle.source_meaning.specs.Retirement.{with_sends}
use Rattle.source_meaning.specs.State.{RunEvent, Release, Restart, State}
use Rattle.run_books.specs.Accounts.{Account, with_words}
use Rattle.run_books.specs.Retired.{HasRetired, HasSettled, chain_kept, outcome_world}
use Rattle.run_books.specs.Stores.{IsAftermath, all_clear_stores, all_stores, restart_stores}
use Rattle.run_books.specs.Stores.{touch_of}
use Rattle.run_books.specs.Traffic.{with_traffic}
use Rattle.run_books.specs.declared.aftermath.Aftermath.{Aftermath}
use Rattle.run_books.specs.declared.stores.Write.{Write}
use Rattle.run_books.proofs.Worlds.{all_made, blocks_made, made, made_then}

-- the aftermath of a fault

pub aftermath_ended : (x : Exchange) (f : ℕ) (o : Outcome) (chain : List Held) (chains : ChainMap) (a : Aftermath)
    → o ≡ Ended → a.stores ≡ [] → IsAftermath x f o chain chains a
aftermath_ended x f o chain chains a is none = subst (λ (q : Outcome). IsAftermath x f q chain chains a) (sym is) none

pub aftermath_anew : (x : Exchange) (f : ℕ) (o : Outcome) (fault : Fault) (p : ℕ) (chain : List Held)
    (chains : ChainMap) (r : Result Aftermath Memory) → f ≡ 0 → o ≡ Faulted fault p
    → IfOk r (λ (a : Aftermath). a.stores ≡ restart_stores x chains)
    → IfOk r (λ (a : Aftermath). a.records ≡ length (all_records chains))
    → IfOk r (λ (a : Aftermath). IsAftermath x f o chain chains a)
aftermath_anew x zero o fault p chain chains (Ok a) none is listed counted =
    subst (λ (q : Outcome). IsAftermath x 0 q chain chains a) (sym is) (listed, counted)
aftermath_anew x (suc n) o fault p chain chains (Ok a) none is listed counted = absurd (omega (arith, none))
aftermath_anew x f o fault p chain chains (Err e) none is listed counted = tt

pub aftermath_released : (x : Exchange) (f : ℕ) (o : Outcome) (fault : Fault) (p : ℕ) (chain : List Held)
    (chains : ChainMap) (r : Result Aftermath Memory) → f ≢ 0 → o ≡ Faulted fault p
    → IfOk r (λ (a : Aftermath). a.stores ≡ all_stores (placed_files x.blocks) chain) → IfOk r (λ (a : Aftermath). IsAftermath x f o chain chains a)
aftermath_released x zero o fault p chain chains (Ok a) some is listed = absurd (some refl)
aftermath_released x (suc n) o fault p chain chains (Ok a) some is listed = subst (λ (q : Outcome). IsAftermath x (suc n) q chain chains a) (sym is) listed
aftermath_released x f o fault p chain chains (Err e) some is listed = tt

-- the chain

pub kept_none : (f : ℕ) (chain : List Held) (m : ChainMap) → f ≡ 0 → m ≡ chain_kept f chain m
kept_none zero chain m none = refl
kept_none (suc n) chain m none = absurd (omega (arith, none))

pub kept_some : (f : ℕ) (chain : List Held) (m : ChainMap) → f ≢ 0 → with_chain m f chain ≡ chain_kept f chain m
kept_some zero chain m some = absurd (some refl)
kept_some (suc n) chain m some = refl

keeps : (f : ℕ) (chain : List Held) (s : State) → keeps_chain f chain s ≡ record s { chains = chain_kept f chain s.chains }
keeps zero chain s = refl
keeps (suc n) chain s = refl

-- the sends and the chain of a job have taken effect, so that the state is of these parts
pub record AreSent (start : JobStart) (done : JobDone) (s : State) (w : Waiting) (es : List RunEvent) (n e : ℕ) (m : ChainMap) (d : Dead) : Type 0 where
  pub state : (ws : List ℕ) → with_sends start done (with_words s ws)
      ≡ record s { store = ws; waiting = w; chains = m; dead = d; next = n; ended = e; events = es }
  pub held : start.job.forlopp ≢ 0 → chain_at m start.job.forlopp ≡ done.chain
  pub same : start.job.forlopp ≡ 0 → m ≡ s.chains

pub are_sent : (start : JobStart) (done : JobDone) (ms : List Sent) (s : State) (w0 w : Waiting)
    (es0 es : List RunEvent) (n0 n e : ℕ) (m0 m : ChainMap) (d0 d : Dead)
    → ms ≡ done.sends → w0 ≡ s.waiting → es0 ≡ s.events → n0 ≡ s.next → m0 ≡ s.chains → d0 ≡ s.dead → e ≡ s.ended + 1
    → ((t : State) → t.ended ≡ e → all_delivered start.job.forlopp ms (with_traffic w0 es0 n0 t) ≡ with_traffic w es n t)
    → m ≡ chain_kept start.job.forlopp done.chain m0 → d ≡ d0 → AreSent start done s w es n e m d
are_sent start done ms s w0 w es0 es n0 n e m0 m d0 d sends waits tells draws chains dead ends delivers kept lives =
    let f = start.job.forlopp in
    let chained : m ≡ chain_kept f done.chain s.chains = kept ∙ ap (chain_kept f done.chain) chains in
    let died : d ≡ s.dead = lives ∙ dead in
    record {
      state = λ ws.
          let t : State = record s { store = ws; ended = s.ended + 1 } in
          let sent : all_delivered f done.sends t ≡ with_traffic w es n t =
          (λ i. all_delivered f (sym sends i) (with_traffic (sym waits i) (sym tells i) (sym draws i) t)) ∙ delivers t (sym ends) in
          ap (keeps_chain f done.chain) sent ∙ keeps f done.chain (with_traffic w es n t)
          ∙ (λ i. record s { store = ws; waiting = w; chains = sym chained i; dead = sym died i; next = n; ended = sym ends i; events = es });
      held = λ some. ap (λ (c : ChainMap). chain_at c f) (chained ∙ sym (kept_some f done.chain s.chains some)) ∙ chain_same s.chains f done.chain;
      same = λ none. chained ∙ sym (kept_none f done.chain s.chains none);
    }

-- these parts of the books have changed
abbrev pub moved : Account → Waiting → List RunEvent → (next ended restarts running : ℕ) → ChainMap → Dead → Account
moved old w es n e k r m d = record {
  state = record old.state { waiting = w; chains = m; dead = d; next = n; ended = e; restarts = k; events = es };
  running = r;
  limit = old.limit;
}

-- a job ended of itself
pub settled_ended : (x : Exchange) (start : JobStart) (done : JobDone) (old : Account) (a : Aftermath) (w : Waiting)
    (es : List RunEvent) (n e r : ℕ) (m : ChainMap) (d : Dead) (chains : ChainMap)
    → AreSent start done old.state w es n e m d → done.outcome ≡ Ended → IsAftermath x start.job.forlopp done.outcome done.chain chains a → r + 1 ≡ old.running
    → HasSettled x start done old (moved old w es n e old.state.restarts r m d) a.stores
settled_ended x start done old a w es n e r m d chains sent is after one =
    let f = start.job.forlopp in
    let none : a.stores ≡ [] = subst (λ (q : Outcome). IsAftermath x f q done.chain chains a) is after in
    record {
      state = λ ws.
          sym (ap (λ (o : Outcome). with_outcome x f o (with_sends start done (with_words old.state ws))) is ∙ sent.state ws
          ∙ ap (λ (us : List Write). record old.state {
            store = stored ws (map touch_of us);
            waiting = w;
            chains = m;
            dead = d;
            next = n;
            ended = e;
            events = es;
          }) (sym none));
      trace = λ ws. ap (map touch_of) none ∙ sym (ap (λ (o : Outcome). (outcome_world x f o (with_sends start done old.state) (untouched ws)).trace) is);
      running = one;
      limit = refl;
    }

-- a fault released the forlopp

fault_some : (x : Exchange) (f : ℕ) (fault : Fault) (p : ℕ) (s : State) → f ≢ 0 → with_outcome x f (Faulted fault p) s ≡ releases x f fault p s
fault_some x zero fault p s some = absurd (some refl)
fault_some x (suc n) fault p s some = refl

world_some : (x : Exchange) (f : ℕ) (fault : Fault) (p : ℕ) (s : State) (w : World) → f ≢ 0
    → outcome_world x f (Faulted fault p) s w ≡ release_world x (chain_at s.chains f) w
world_some x zero fault p s w some = absurd (some refl)
world_some x (suc n) fault p s w some = refl

listed_some : (x : Exchange) (f : ℕ) (fault : Fault) (p : ℕ) (chain : List Held) (chains : ChainMap) (a : Aftermath)
    → f ≢ 0 → IsAftermath x f (Faulted fault p) chain chains a → a.stores ≡ all_stores (placed_files x.blocks) chain
listed_some x zero fault p chain chains a some after = absurd (some refl)
listed_some x (suc n) fault p chain chains a some after = after

-- the words of a release
release_made : (x : Exchange) (c chain : List Held) (us : List Write) (ws : List ℕ) → c ≡ chain
    → us ≡ all_stores (placed_files x.blocks) chain → made us (untouched ws) ≡ release_world x c (untouched ws)
unfolding files_of
release_made x c chain us ws is listed = ap (λ (vs : List Write). made vs (untouched ws)) listed
    ∙ sym (all_made (placed_files x.blocks) chain (untouched ws))
    ∙ ap (λ (hs : List Held). release_world x hs (untouched ws)) (sym is)

-- with no words the chains are the same
sent_chains : (start : JobStart) (done : JobDone) (s : State) (w : Waiting) (es : List RunEvent) (n e : ℕ)
    (m : ChainMap) (d : Dead) → AreSent start done s w es n e m d → (with_sends start done s).chains ≡ m
sent_chains start done s w es n e m d sent = ap (λ (t : State). t.chains) (sent.state s.store)

pub settled_released : (x : Exchange) (start : JobStart) (done : JobDone) (old : Account) (a : Aftermath)
    (fault : Fault) (p : ℕ) (w w2 : Waiting) (es es2 : List RunEvent) (n e r : ℕ) (m m2 : ChainMap) (d d2 : Dead)
    (chains : ChainMap)
    → AreSent start done old.state w es n e m d → start.job.forlopp ≢ 0 → done.outcome ≡ Faulted fault p
    → IsAftermath x start.job.forlopp done.outcome done.chain chains a → r + 1 ≡ old.running
    → w2 ≡ others start.job.forlopp w → m2 ≡ with_chain m start.job.forlopp [] → d2 ≡ with_dead d start.job.forlopp
    → es2 ≡ es ++ Release start.job.forlopp e fault p (count_of start.job.forlopp w) (length (chain_at m start.job.forlopp)) ∷ []
    → HasSettled x start done old (moved old w2 es2 n e old.state.restarts r m2 d2) a.stores
settled_released x start done old a fault p w w2 es es2 n e r m m2 d d2 chains sent some is after one waits chained died tells =
    let f = start.job.forlopp in
    let listed = listed_some x f fault p done.chain chains a some (subst (λ (q : Outcome). IsAftermath x f q done.chain chains a) is after) in
    let worlds : (ws : List ℕ) → made a.stores (untouched ws) ≡ release_world x (chain_at m f) (untouched ws) =
    λ ws. release_made x (chain_at m f) done.chain a.stores ws (sent.held some) listed in
    record {
      state = λ ws.
          (λ i. record old.state { store = (worlds ws i).store; waiting = waits i; chains = chained i; dead = died i; next = n; ended = e; events = tells i })
          ∙ sym (ap (λ (o : Outcome). with_outcome x f o (with_sends start done (with_words old.state ws))) is
          ∙ ap (with_outcome x f (Faulted fault p)) (sent.state ws)
          ∙ fault_some x f fault p (record old.state { store = ws; waiting = w; chains = m; dead = d; next = n; ended = e; events = es }) some);
      trace = λ ws.
          ap (λ (u : World). u.trace) (worlds ws)
          ∙ sym (ap (λ (u : World). u.trace) (ap (λ (o : Outcome). outcome_world x f o (with_sends start done old.state) (untouched ws)) is
          ∙ world_some x f fault p (with_sends start done old.state) (untouched ws) some
          ∙ ap (λ (c : ChainMap). release_world x (chain_at c f) (untouched ws)) (sent_chains start done old.state w es n e m d sent)));
      running = one;
      limit = refl;
    }

-- a fault without forlopp

fault_none : (x : Exchange) (f : ℕ) (fault : Fault) (p : ℕ) (s : State) → f ≡ 0 → with_outcome x f (Faulted fault p) s ≡ begins_anew x fault p s
fault_none x zero fault p s none = refl
fault_none x (suc n) fault p s none = absurd (omega (arith, none))

world_none : (x : Exchange) (f : ℕ) (fault : Fault) (p : ℕ) (s : State) (w : World) → f ≡ 0
    → outcome_world x f (Faulted fault p) s w ≡ restart_world x s.chains w
world_none x zero fault p s w none = refl
world_none x (suc n) fault p s w none = absurd (omega (arith, none))

listed_none : (x : Exchange) (f : ℕ) (fault : Fault) (p : ℕ) (chain : List Held) (chains : ChainMap) (a : Aftermath)
    → f ≡ 0 → IsAftermath x f (Faulted fault p) chain chains a
    → (a.stores ≡ restart_stores x chains) × (a.records ≡ length (all_records chains))
listed_none x zero fault p chain chains a none after = after
listed_none x (suc n) fault p chain chains a none after = absurd (omega (arith, none))

-- the words of a restart
restart_made : (x : Exchange) (chains m : ChainMap) (us : List Write) (ws : List ℕ) → m ≡ chains
    → us ≡ restart_stores x chains → made us (untouched ws) ≡ restart_world x m (untouched ws)
unfolding files_of
restart_made x chains m us ws is listed =
    let records = all_stores (placed_files x.blocks) (all_records chains) in
    ap (λ (vs : List Write). made vs (untouched ws)) listed ∙ made_then records (all_clear_stores 0 x.blocks) (untouched ws)
    ∙ sym (blocks_made 0 x.blocks (made records (untouched ws)))
    ∙ ap (all_cleared 0 x.blocks) (sym (all_made (placed_files x.blocks) (all_records chains) (untouched ws)))
    ∙ ap (λ (c : ChainMap). restart_world x c (untouched ws)) (sym is)

pub settled_anew : (x : Exchange) (start : JobStart) (done : JobDone) (old : Account) (a : Aftermath) (fault : Fault)
    (p : ℕ) (w w2 : Waiting) (es es2 : List RunEvent) (n e k r : ℕ) (m m2 : ChainMap) (d d2 : Dead) (chains : ChainMap)
    → AreSent start done old.state w es n e m d → start.job.forlopp ≡ 0 → done.outcome ≡ Faulted fault p
    → IsAftermath x start.job.forlopp done.outcome done.chain chains a → chains ≡ old.state.chains
    → r + 1 ≡ old.running → k ≡ old.state.restarts + 1 → w2 ≡ nobody → m2 ≡ fin.empty → d2 ≡ dead_below d n
    → es2 ≡ es ++ Restart e fault p (waiting_count w) a.records ∷ []
    → HasSettled x start done old (moved old w2 es2 n e k r m2 d2) a.stores
settled_anew x start done old a fault p w w2 es es2 n e k r m m2 d d2 chains sent none is after own one counted waits chained died tells =
    let f = start.job.forlopp in
    let listed = listed_none x f fault p done.chain chains a none (subst (λ (q : Outcome). IsAftermath x f q done.chain chains a) is after) in
    let same : m ≡ chains = sent.same none ∙ sym own in
    let worlds : (ws : List ℕ) → made a.stores (untouched ws) ≡ restart_world x m (untouched ws) = λ ws. restart_made x chains m a.stores ws same listed.0 in
    let freed : a.records ≡ length (all_records m) = listed.1 ∙ ap (λ (c : ChainMap). length (all_records c)) (sym same) in
    let told : es2 ≡ es ++ Restart e fault p (waiting_count w) (length (all_records m)) ∷ [] =
    tells ∙ ap (λ q. es ++ Restart e fault p (waiting_count w) q ∷ []) freed in
    record {
      state = λ ws.
          (λ i. record old.state {
            store = (worlds ws i).store;
            waiting = waits i;
            chains = chained i;
            dead = died i;
            next = n;
            ended = e;
            restarts = counted i;
            events = told i;
          })
          ∙ sym (ap (λ (o : Outcome). with_outcome x f o (with_sends start done (with_words old.state ws))) is
          ∙ ap (with_outcome x f (Faulted fault p)) (sent.state ws)
          ∙ fault_none x f fault p (record old.state { store = ws; waiting = w; chains = m; dead = d; next = n; ended = e; events = es }) none);
      trace = λ ws.
          ap (λ (u : World). u.trace) (worlds ws)
          ∙ sym (ap (λ (u : World). u.trace) (ap (λ (o : Outcome). outcome_world x f o (with_sends start done old.state) (untouched ws)) is
          ∙ world_none x f fault p (with_sends start done old.state) (untouched ws) none
          ∙ ap (λ (c : ChainMap). restart_world x c (untouched ws)) (sent_chains start done old.state w es n e m d sent)));
      running = one;
      limit = refl;
    }

-- in the words too, once the stores have been made
pub has_retired : (x : Exchange) (start : JobStart) (done : JobDone) (old new : Account) (us : List Write)
    (before after : List ℕ) (t now : Option (List Touch)) → HasSettled x start done old new us
    → after ≡ stored before (map touch_of us) → now ≡ told_all t (map touch_of us) → HasRetired x start done old new before after t now
has_retired x start done old new us before after t now settled values told = record {
  state = ap (with_words new.state) values ∙ settled.state before;
  running = settled.running;
  limit = settled.limit;
  tells = told ∙ ap (told_all t) (settled.trace before);
}
