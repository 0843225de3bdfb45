-- A release and a restart keep a state valid.
use Rattle.std.proofs.Common.{◌≡◌, ◌⊎◌, inl, inr, ⊎_elim, ℕ, zero, suc, ◌+◌, ◌<◌, ◌≤◌, Bool, true}
use Rattle.std.proofs.Common.{false, List, [], ◌∷◌, ◌++◌, take, length, get_or, sum_by, Some, refl}
use Rattle.std.proofs.Common.{sym, ap, ◌∙◌, subst, slice_get, arith}
use Rattle.std.proofs.lemmas.Bool.{eq-eqb, cases_eq, ltb-true, ltb-false, lt-ltb, and_parts}
use Rattle.std.proofs.lemmas.Bool.{both_ways, cases_Bool, or_cases, or_right}
use Rattle.std.proofs.lemmas.List.{take_more}
use Rattle.std.proofs.lemmas.List.Sums.{sum_by-append}
use Rattle.std.proofs.lemmas.Option.{slice_get_within, get_or_from_slice_get}
use Rattle.std.specs.Prelude.{max, nat_lt, not, ◌&&◌, ◌||◌, ◌==◌, ◌≢◌, slice_index, unwrap_or}
use Rattle.std.specs.Prelude.{if◌then◌else◌}
use Rattle.std.specs.List.{AllByRecursion}
use Rattle.std.specs.Ordering.{nat_cmp}
use Rattle.std.specs.FinMap as fin
use Rattle.std.specs.FinSet as set
use Rattle.plex_num.specs.declared.level.Level.{Level}
use Rattle.plex_num.specs.declared.level.Level.TheVariants.{A, B, C, D}
use Rattle.job_types.specs.declared.chain.Held.{Held}
use Rattle.job_types.specs.declared.fault.Fault.{Fault}
use Rattle.job_types.specs.declared.job.Job.{Job}
use Rattle.job_types.specs.Chain.{holds}
use Rattle.job_types.specs.Forlopps.{Dead, all_records, chain_at, dead_below, is_dead}
use Rattle.job_types.specs.Own.{World, untouched, writes}
use Rattle.job_types.specs.Waiting.{others_in}
use Rattle.exchange_model.specs.declared.exchange.Exchange.{Exchange}
use Rattle.exchange_model.specs.declared.block.Block.{Block}
use Rattle.exchange_model.specs.declared.block.Variable.{Variable}
use Rattle.exchange_model.specs.Cells.{Placed, block_cells, first_cell, variable_cell, mark_cell}
use Rattle.exchange_model.specs.Kept.{IsExchange}
use Rattle.exchange_model.proofs.Facts.{variable_kept}
use Rattle.source_meaning.specs.Config.{files_of}
use Rattle.source_meaning.specs.Retirement.{all_opened, releases, cleared, all_cleared}
use Rattle.source_meaning.specs.Retirement.{restart_world, begins_anew}
use Rattle.source_meaning.specs.State.{State}
use Rattle.source_meaning.specs.Valid.{HasRecords, IsRecord, IsLive, MayBe, StoreFits, WaitsAt}
use Rattle.source_meaning.specs.Valid.{EventFits, IsValid}
use Rattle.source_meaning.proofs.Books.{Books}
use Rattle.source_meaning.proofs.Freeing.{put_chain, put_same, put_other, books_release}
use Rattle.source_meaning.proofs.Freeing.{openings_fit, openings_clear}
use Rattle.plex_num.proofs.Lists.{all_append}
use Rattle.job_types.proofs.Died.{dead_cases, alive_still}
use Rattle.source_meaning.proofs.Maps.{all_records_fit, held_among_all}
use Rattle.source_meaning.proofs.Marks.{HasMark, variable_put}
use Rattle.source_meaning.proofs.States.{books_as, books_still, Orderly, valid_of}
use Rattle.source_meaning.proofs.Stores.{put_variable}
use Rattle.job_types.proofs.ChainMaps.{chain_same, chain_other}

-- the numbers below a bound are dead too
below_cases : (d : Dead) (next k : ℕ) → is_dead (dead_below d next) k ≡ true → ((1 ≤ k) × (k < next)) ⊎ (is_dead d k ≡ true)
below_cases d next k h = ⊎_elim
    (λ both. let parts = and_parts (nat_lt 0 k) (nat_lt k (max d.below next)) both in
    let some = ltb-true 0 k parts.0 in
    let lt = ltb-true k (max d.below next) parts.1 in
    by (nat_lt k d.below) refl some lt)
    (λ old. inr (or_right (nat_lt 0 k && nat_lt k d.below) (set.contains d.others k) old))
    (or_cases (nat_lt 0 k && nat_lt k (max d.below next)) (set.contains d.others k) h)
  where
    by : (b : Bool) → nat_lt k d.below ≡ b → 0 < k → k < max d.below next → ((1 ≤ k) × (k < next)) ⊎ (is_dead d k ≡ true)
    by true is some lt =
        inr (ap (λ b. (b && nat_lt k d.below) || set.contains d.others k) (lt-ltb 0 k some) ∙ ap (λ b. b || set.contains d.others k) is)
    by false is some lt = let past = ltb-false k d.below is in inl (omega arith, omega arith)

-- jobs of other forlopps

others_wait : (x : Exchange) (s t : State) (level : Level) (f : ℕ) (js : List Job)
    → ((n : ℕ) → n ≢ f → MayBe s n → MayBe t n) → AllByRecursion (WaitsAt x s level) js
    → AllByRecursion (WaitsAt x t level) (others_in f js)
others_wait x s t level f [] may all = tt
others_wait x s t level f (j ∷ js) may all = by (j.forlopp == f) refl (others_wait x s t level f js may all.1)
  where
    by : (b : Bool) → (j.forlopp == f) ≡ b → AllByRecursion (WaitsAt x t level) (others_in f js)
        → AllByRecursion (WaitsAt x t level) (if not b then j ∷ others_in f js else others_in f js)
    by true is rest = rest
    by false is rest =
        let other : j.forlopp ≢ f = λ same. both_ways (j.forlopp == f) is (eq-eqb j.forlopp f same) in
        (record { job = all.0.job; here = all.0.here; forlopp = may j.forlopp other all.0.forlopp }, rest)

module _ (x : Exchange) (kept : IsExchange x) (u : State) (o : Orderly x u 0) (store : StoreFits x u.store)
    (b : Books x (IsLive u) (chain_at u.chains) u.store) (g : Fault) (point : ℕ)
    (placed : point < length x.points) where
  -- a release

  module _ (f : ℕ) (alive : IsLive u f) where
    chain : List Held
    chain = chain_at u.chains f

    abbrev released : State
    released = releases x f g point u

    still_live : (n : ℕ) → n ≢ f → IsLive u n → IsLive released n
    still_live n other h = record { drawn = h.drawn; before = h.before; alive = alive_still u.dead f n other h.alive }

    still_may : (n : ℕ) → n ≢ f → MayBe u n → MayBe released n
    still_may zero other h = tt
    still_may (suc n) other h = still_live (suc n) other h

    own_chain : (n : ℕ) → put_chain (chain_at u.chains) f (chain_at u.chains f) n ≡ chain_at u.chains n
    own_chain n = ⊎_elim (λ same. ap (put_chain (chain_at u.chains) f (chain_at u.chains f)) same
        ∙ put_same (chain_at u.chains) f (chain_at u.chains f) ∙ ap (chain_at u.chains) (sym same))
        (λ other. put_other (chain_at u.chains) f (chain_at u.chains f) n other) (cases_eq n f)

    no_chain : (n : ℕ) → chain_at released.chains n ≡ put_chain (chain_at u.chains) f [] n
    no_chain n = ⊎_elim
        (λ same. ap (chain_at released.chains) same ∙ chain_same u.chains f [] ∙ sym (put_same (chain_at u.chains) f [])
        ∙ ap (put_chain (chain_at u.chains) f []) (sym same))
        (λ other. chain_other u.chains f n [] other ∙ sym (put_other (chain_at u.chains) f [] n other)) (cases_eq n f)

    released_books : Books x (IsLive released) (chain_at released.chains) released.store
    released_books =
        let w = untouched u.store in
        let was = books_as {Still = IsLive u} own_chain (λ n h. h) b in
        let after = books_release x kept (IsLive u) (chain_at u.chains) f alive (chain_at u.chains f) w was store.whole in
        books_still no_chain (λ n some h. ⊎_elim (λ same. absurd (none n same some)) (λ other. still_live n other h) (cases_eq n f)) after
      where
        none : (n : ℕ) → n ≡ f → HasRecords (put_chain (chain_at u.chains) f [] n) → ⊥
        none n same some = subst HasRecords (ap (put_chain (chain_at u.chains) f []) same ∙ put_same (chain_at u.chains) f []) some

    pub releases_valid : IsValid x (releases x f g point u)
    releases_valid = valid_of x released 0 (openings_fit x kept (chain_at u.chains f) (untouched u.store) (b.records f) store) released_books (record {
      waiting = record {
        a = others_wait x u released A f u.waiting.a still_may o.waiting.a;
        b = others_wait x u released B f u.waiting.b still_may o.waiting.b;
        c = others_wait x u released C f u.waiting.c still_may o.waiting.c;
        d = others_wait x u released D f u.waiting.d still_may o.waiting.d;
      };
      some = o.some;
      dead = λ n dead. ⊎_elim (λ same. (
        subst (λ k. 1 ≤ k) (sym same) alive.drawn,
        subst (λ k. k < u.next) (sym same)
            alive.before,
      )) (λ old. o.dead n old) (dead_cases u.dead f n dead);
      few = o.few;
      arrived = o.arrived;
      lines = o.lines;
      events = all_append (EventFits x) u.events _ o.events (placed, tt);
    })

  -- a restart

  -- each CLEAR variable gets its INIT value: what every such store keeps is kept
  module _ (P : World → Type 0) (puts : (n i : ℕ) (k : Block) (v : Variable) → slice_get x.blocks n ≡ Some k
      → slice_get k.variables i ≡ Some v → (w : World) → P w → P (writes (variable_cell x.blocks n i) v.init w)) where
    block_cleared : (n : ℕ) (k : Block) (i cell : ℕ) (vs : List Variable) (w : World) → slice_get x.blocks n ≡ Some k
        → ((j : ℕ) (v : Variable) → slice_get vs j ≡ Some v → slice_get k.variables (i + j) ≡ Some v)
        → cell ≡ variable_cell x.blocks n i → P w → P (cleared cell vs w)
    block_cleared n k i cell [] w there at is p = p
    block_cleared n k i cell (v ∷ vs) w there at is p =
        let first : i + 0 ≡ i = omega arith in
        let own : slice_get k.variables i ≡ Some v = subst (λ j. slice_get k.variables j ≡ Some v) first (at 0 v refl) in
        block_cleared n k (i + 1) (cell + 1) vs (if v.clear then writes cell v.init w else w) there
        (λ j z here. let past : i + suc j ≡ i + 1
        + j = omega arith in subst (λ m. slice_get k.variables m ≡ Some z) past (at (suc j) z here)) (omega arith)
        (by v.clear (subst (λ m. P (writes m v.init w)) (sym is) (puts n i k v there own w p)))
      where
        by : (c : Bool) → P (writes cell v.init w) → P (if c then writes cell v.init w else w)
        by true new = new
        by false new = p

    next_first : (n : ℕ) (k : Block) → slice_get x.blocks n ≡ Some k → first_cell x.blocks (n + 1) ≡ first_cell x.blocks n + block_cells k
    next_first n k there =
        let within = slice_get_within x.blocks n k there in
        let own : get_or x.blocks n k ≡ k = get_or_from_slice_get x.blocks n k k there in
        let one : sum_by block_cells (k ∷ []) ≡ block_cells k = omega arith in
        ap (sum_by block_cells) (take_more x.blocks n k within ∙ ap (λ z. take n x.blocks ++ z ∷ []) own)
        ∙ sum_by-append block_cells (take n x.blocks) (k ∷ []) ∙ ap (λ m. first_cell x.blocks n + m) one

    blocks_cleared : (n cell : ℕ) (ks : List Block) (w : World)
        → ((j : ℕ) (k : Block) → slice_get ks j ≡ Some k → slice_get x.blocks (n + j) ≡ Some k)
        → cell ≡ first_cell x.blocks n → P w → P (all_cleared cell ks w)
    blocks_cleared n cell [] w at is p = p
    blocks_cleared n cell (k ∷ ks) w at is p =
        let first : n + 0 ≡ n = omega arith in
        let there : slice_get x.blocks n ≡ Some k = subst (λ j. slice_get x.blocks j ≡ Some k) first (at 0 k refl) in
        let begins : cell ≡ variable_cell x.blocks n 0 = omega arith in
        blocks_cleared (n + 1) (cell + block_cells k) ks (cleared cell k.variables w)
        (λ j z here. let past : n + suc j ≡ n + 1 + j = omega arith in subst (λ m. slice_get x.blocks m ≡ Some z) past (at (suc j) z here))
        (ap (λ m. m + block_cells k) is ∙ sym (next_first n k there))
        (block_cleared n k 0 cell k.variables w there
        (λ j v here. let none : j ≡ 0 + j = omega arith in subst (λ m. slice_get k.variables m ≡ Some v) none here)
        begins p)

    all_clear : (w : World) → P w → P (all_cleared 0 x.blocks w)
    all_clear w p = blocks_cleared 0 0 x.blocks w
        (λ j k here. let none : j ≡ 0 + j = omega arith in subst (λ m. slice_get x.blocks m ≡ Some k) none here) refl p

  -- the store fits, and each mark is 0
  record IsClear (w : World) : Type 0 where
    fits : StoreFits x w.store
    marks : (file number : ℕ) (p : Placed) → HasMark x file number p → slice_index w.store (mark_cell p number) ≡ 0

  clear_put : (n i : ℕ) (k : Block) (v : Variable) → slice_get x.blocks n ≡ Some k → slice_get k.variables i ≡ Some v
      → (w : World) → IsClear w → IsClear (writes (variable_cell x.blocks n i) v.init w)
  clear_put n i k v there own w c = record {
    fits = put_variable x kept w.store n i v.init k v there own (variable_kept x kept n i k v there own).init c.fits;
    marks = λ file number p m. variable_put x kept w.store n i v.init k there (slice_get_within k.variables i v own)
        c.fits.whole file number p m ∙ c.marks file number p m;
  }

  abbrev opened_all : World
  opened_all = all_opened (files_of x) (all_records u.chains) (untouched u.store)

  records_fit : AllByRecursion (IsRecord x) (all_records u.chains)
  records_fit = all_records_fit (IsRecord x) u.chains b.records

  opened_clear : IsClear opened_all
  opened_clear = record {
    fits = openings_fit x kept (all_records u.chains) (untouched u.store) records_fit store;
    marks = λ file number p m. openings_clear x kept (all_records u.chains) (untouched u.store) file number p
        records_fit store.whole m (held_or_free file number p m
        (cases_Bool (holds (all_records u.chains) file number)));
  }
    where
      held_or_free : (file number : ℕ) (p : Placed) → HasMark x file number p
          → (holds (all_records u.chains) file number ≡ true) ⊎ (holds (all_records u.chains) file number ≡ false)
          → (holds (all_records u.chains) file number ≡ true) ⊎ (slice_index u.store (mark_cell p number) ≡ 0)
      held_or_free file number p m (inl held) = inl held
      held_or_free file number p m (inr none) = inr
          (b.free file number p m.at m.kind (λ n. ⊎_elim
          (λ held. absurd (both_ways (holds (all_records u.chains) file number) none
          (held_among_all u.chains n file number held))) (λ out. out)
          (cases_Bool (holds (chain_at u.chains n) file number))))

  restarted_clear : IsClear (restart_world x u.chains (untouched u.store))
  restarted_clear = all_clear IsClear clear_put opened_all opened_clear

  abbrev anew : State
  anew = begins_anew x g point u

  empty_books : Books x (IsLive anew) (λ n. []) anew.store
  empty_books = record {
    few = λ n. omega arith;
    records = λ n. tt;
    once = λ n. tt;
    apart = λ n m file number h k. cc;
    living = λ n some. absurd some;
    held = λ n file number p there h. cc;
    free = λ file number p rec kind none. restarted_clear.marks file number p (record { at = rec; kind = kind });
  }

  pub anew_valid : IsValid x (begins_anew x g point u)
  anew_valid = valid_of x anew 0 restarted_clear.fits
      (books_as {Still = IsLive anew} (λ n. ap (λ m. unwrap_or m []) (fin.get-empty nat_cmp n)) (λ n h. h) empty_books)
      (record {
        waiting = record { a = tt; b = tt; c = tt; d = tt };
        some = o.some;
        dead = λ n dead. ⊎_elim (λ past. past) (λ old. o.dead n old) (below_cases u.dead u.next n dead);
        few = o.few;
        arrived = o.arrived;
        lines = o.lines;
        events = all_append (EventFits x) u.events _ o.events (placed, tt);
      })
