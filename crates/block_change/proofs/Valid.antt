-- A state that is carried over is one that the other exchange can be in.
use Rattle.std.proofs.Common.{◌≡◌, ◌⊎◌, inl, inr, ℕ, zero, suc, ◌<◌, ◌≤◌, ◌^◌, Bool, true, false}
use Rattle.std.proofs.Common.{◌||◌, nat_lt, List, [], ◌∷◌, ◌++◌, length, map, Option, Some, None}
use Rattle.std.proofs.Common.{slice_get, refl, sym, ap, ◌∙◌, subst, arith, if◌then◌else◌}
use Rattle.std.specs.Prelude.{slice_index}
use Rattle.std.specs.List.{AllByRecursion}
use Rattle.std.specs.Option.{option_and_then, option_map_or}
use Rattle.std.proofs.lemmas.Bool.Decides.{nat_tests}
use Rattle.std.proofs.lemmas.List.{length-map, map-append}
use Rattle.std.proofs.lemmas.Option.{same_Some, slice_get_within}
use Rattle.std.proofs.lemmas.Bool.{both_ways, cases_Bool, or_right}
use Rattle.plex_num.specs.declared.level.Level.{Level}
use Rattle.plex_num.specs.declared.level.Level.TheVariants.{A, B, C, D}
use Rattle.plex_num.proofs.Lists.{got_map, all_weaker}
use Rattle.exchange_model.specs.declared.block.Block.{Block}
use Rattle.exchange_model.specs.declared.block.Variable.{Variable}
use Rattle.exchange_model.specs.declared.entry.Cell.TheVariants.{Variable as VariableCell, Field}
use Rattle.exchange_model.specs.declared.entry.Cell.TheVariants.{Mark}
use Rattle.exchange_model.specs.declared.exchange.Exchange.{Exchange}
use Rattle.exchange_model.specs.Cells.{Placed, mark_cell, placed_files}
use Rattle.exchange_model.specs.Kept.{IsExchange}
use Rattle.exchange_model.proofs.Facts.{field_kept, variable_kept}
use Rattle.exchange_model.proofs.Numbers.{cell_number-field, cell_number-mark, field_is_cell}
use Rattle.exchange_model.proofs.Numbers.{mark_is_cell, variable_is_cell}
use Rattle.job_types.specs.declared.chain.Held.{Held}
use Rattle.job_types.specs.declared.job.Job.{Job}
use Rattle.job_types.specs.Chain.{holds, is_record}
use Rattle.job_types.specs.Forlopps.{all_records, chain_at}
use Rattle.source_meaning.specs.Config.{files_of}
use Rattle.source_meaning.specs.State.{Arrived, Bare, Coming, Fresh, Origin, Same, State}
use Rattle.source_meaning.specs.Valid.{ChainsFit, HasRecords, HoldsRecord, IsJob, IsLive, IsOnce}
use Rattle.source_meaning.specs.Valid.{IsRecord, IsValid, LineFits, LinesFit, MarksFit, MayBe}
use Rattle.source_meaning.specs.Valid.{NamesEarlier, NumbersFit, StoreFits, WaitingFits, WaitsAt}
use Rattle.source_meaning.proofs.Chains.{record_is, record_itself}
use Rattle.source_meaning.proofs.Maps.{all_records_fit, held_among_all}
use Rattle.block_change.specs.Carried.{AreCarriedWords, IsCarried, carried_arrived, carried_chain}
use Rattle.block_change.specs.Carried.{carried_chains, carried_held, carried_line, carried_with}
use Rattle.block_change.specs.Carried.{kept_value, mark_value, new_entries, new_file, old_value}
use Rattle.block_change.specs.Misfits.{misfit}
use Rattle.block_change.specs.Renamed.{AreAtLevels, job_with}
use Rattle.block_change.specs.Same.{cell_variable}
use Rattle.block_change.proofs.Alike.{new_entry_is, one_file, record_fits}
use Rattle.block_change.proofs.Chaining.{chain_at-carried}

-- ## Lists

all_mapped : {X Y : Type 0} (P : X → Type 0) (Q : Y → Type 0) (f : X → Y) (xs : List X) → ((x : X) → P x → Q (f x))
    → AllByRecursion P xs → AllByRecursion Q (map f xs)
all_mapped P Q f [] each all = tt
all_mapped P Q f (x ∷ xs) each all = (each x all.0, all_mapped P Q f xs each all.1)

-- each job stands in the list of its level
pub levels_of : (x : Exchange) (s : State) → WaitingFits x s → AreAtLevels s.waiting
levels_of x s fits = record {
  a = all_weaker (WaitsAt x s A) (λ (j : Job). j.level ≡ A) s.waiting.a (λ j w. w.here) fits.a;
  b = all_weaker (WaitsAt x s B) (λ (j : Job). j.level ≡ B) s.waiting.b (λ j w. w.here) fits.b;
  c = all_weaker (WaitsAt x s C) (λ (j : Job). j.level ≡ C) s.waiting.c (λ j w. w.here) fits.c;
  d = all_weaker (WaitsAt x s D) (λ (j : Job). j.level ≡ D) s.waiting.d (λ j w. w.here) fits.d;
}

-- ## Chains

-- a record of a chain that was carried over comes of one of the chain
pub record ComesOf (x y : Exchange) (chain : List Held) (f n : ℕ) : Type 0 where
  pub old : Held
  pub fits : IsRecord x old
  pub held : holds chain old.file old.number ≡ true
  pub file : new_file x y old.file ≡ f
  pub number : old.number ≡ n

held_back : (x y : Exchange) (chain : List Held) (f n : ℕ) → AllByRecursion (IsRecord x) chain
    → holds (carried_chain x y chain) f n ≡ true → ComesOf x y chain f n
held_back x y [] f n all is = absurd (cc)
held_back x y (h ∷ rest) f n all is = by (is_record f n (carried_held x y h)) refl (held_back x y rest f n all.1) is
  where
    by : (b : Bool) → is_record f n (carried_held x y h) ≡ b
        → (holds (carried_chain x y rest) f n ≡ true → ComesOf x y rest f n)
        → (b || holds (carried_chain x y rest) f n) ≡ true → ComesOf x y (h ∷ rest) f n
    by true at more is =
        let same = record_is f n (carried_held x y h) at in
        record { old = h; fits = all.0; held = ap (λ b. b || holds rest h.file h.number) (record_itself h.file h.number); file = same.0; number = same.1 }
    by false at more is =
        let r = more is in
        record {
          old = r.old;
          fits = r.fits;
          held = or_right (is_record r.old.file r.old.number h)
              (holds rest r.old.file r.old.number) r.held;
          file = r.file;
          number = r.number;
        }

all_false : (chain : List Held) (f n : ℕ) → holds chain f n ≡ false → AllByRecursion (λ (h : Held). is_record f n h ≡ false) chain
all_false [] f n none = tt
all_false (h ∷ rest) f n none = by (is_record f n h) refl none (all_false rest f n)
  where
    by : (b : Bool) → is_record f n h ≡ b → (b || holds rest f n) ≡ false
        → (holds rest f n ≡ false → AllByRecursion (λ (g : Held). is_record f n g ≡ false) rest)
        → AllByRecursion (λ (g : Held). is_record f n g ≡ false) (h ∷ rest)
    by true at none more = absurd (cc)
    by false at none more = (at, more none)

none_held : (chain : List Held) (f n : ℕ) → AllByRecursion (λ (h : Held). is_record f n h ≡ false) chain → holds chain f n ≡ false
none_held [] f n all = refl
none_held (h ∷ rest) f n all = ap (λ b. b || holds rest f n) all.0 ∙ none_held rest f n all.1

-- ## Values

kept_small : (e : Variable) (o : Option ℕ) → e.init < 2 ^ e.width → kept_value e o < 2 ^ e.width
kept_small e None small = small
kept_small e (Some w) small = by (nat_lt w (2 ^ e.width)) refl
  where
    by : (b : Bool) → nat_lt w (2 ^ e.width) ≡ b → (if b then w else e.init) < 2 ^ e.width
    by true is = grind (arith, nat_tests, is)
    by false is = small

module _ (x y : Exchange) (kept_x : IsExchange x) (kept_y : IsExchange y) (fits : misfit x y ≡ None) where
  new_once : (h k : Held) → IsRecord x h → IsRecord x k → new_file x y h.file ≡ new_file x y k.file → h.file ≡ k.file
  unfolding files_of
  new_once h k is is2 same = one_file x y kept_x kept_y fits h.file k.file is.placed is2.placed is.here.there is2.here.there is.kind is2.kind same

  once_carried : (chain : List Held) → AllByRecursion (IsRecord x) chain → IsOnce chain → IsOnce (carried_chain x y chain)
  once_carried [] all once = tt
  once_carried (h ∷ rest) all once = (by (cases_Bool (holds (carried_chain x y rest) (new_file x y h.file) h.number)), once_carried rest all.1 once.1)
    where
      by : (holds (carried_chain x y rest) (new_file x y h.file) h.number ≡ true)
          ⊎ (holds (carried_chain x y rest) (new_file x y h.file) h.number ≡ false)
          → holds (carried_chain x y rest) (new_file x y h.file) h.number ≡ false
      by (inr none) = none
      by (inl there) =
          let c = held_back x y rest (new_file x y h.file) h.number all.1 there in
          let file : c.old.file ≡ h.file = new_once c.old h c.fits all.0 c.file in
          let same : holds rest c.old.file c.old.number ≡ holds rest h.file h.number = λ i. holds rest (file i) (c.number i) in
          let again : holds rest h.file h.number ≡ true = sym same ∙ c.held in
          absurd (both_ways (holds rest h.file h.number) once.0 again)

  module _ (s : State) (valid : IsValid x s) (words : List ℕ) where
    abbrev t : State
    t = carried_with x y s words

    live_still : (n : ℕ) → IsLive s n → IsLive t n
    live_still n is = record { drawn = is.drawn; before = is.before; alive = is.alive }

    may_still : (n : ℕ) → MayBe s n → MayBe t n
    may_still zero is = tt
    may_still (suc n) is = live_still (suc n) is

    pub new_records : (n : ℕ) → AllByRecursion (IsRecord y) (chain_at (carried_chains x y s.chains) n)
    new_records n = subst (AllByRecursion (IsRecord y)) (sym (chain_at-carried x y s.chains n))
        (all_mapped (IsRecord x) (IsRecord y) (carried_held x y) (chain_at s.chains n) (λ h is. record_fits x y kept_y fits h is) (valid.chains.records n))

    comes : (n f r : ℕ) → holds (chain_at (carried_chains x y s.chains) n) f r ≡ true → ComesOf x y (chain_at s.chains n) f r
    comes n f r is = held_back x y (chain_at s.chains n) f r (valid.chains.records n) (subst (λ c. holds c f r ≡ true) (chain_at-carried x y s.chains n) is)

    some_still : (chain : List Held) → HasRecords (carried_chain x y chain) → HasRecords chain
    some_still [] some = absurd some
    some_still (h ∷ chain) some = tt

    chains_fit : ChainsFit y t
    chains_fit = record {
      few = λ n. let few = valid.chains.few n in omega (
        arith,
        few,
        ap length (chain_at-carried x y s.chains n),
        length-map (chain_at s.chains n)
            (carried_held x y),
      );
      records = new_records;
      once = λ n. subst IsOnce (sym (chain_at-carried x y s.chains n)) (once_carried (chain_at s.chains n) (valid.chains.records n) (valid.chains.once n));
      apart = λ n m h one other.
          let c = comes n h.file h.number one in
          let d = comes m h.file h.number other in
          let file : c.old.file ≡ d.old.file = new_once c.old d.old c.fits d.fits (c.file ∙ sym d.file) in
          let number : c.old.number ≡ d.old.number = c.number ∙ sym d.number in
          let same : c.old ≡ d.old = λ i. record { file = file i; number = number i } in
          valid.chains.apart n m c.old c.held (subst (λ (g : Held). HoldsRecord s m g) (sym same) d.held);
      live = λ n some. live_still n (valid.chains.live n (some_still (chain_at s.chains n) (subst HasRecords (chain_at-carried x y s.chains n) some)));
    }

    module _ (are : AreCarriedWords x y s.store (all_records (carried_chains x y s.chains)) words) where
      store_fits : StoreFits y words
      unfolding files_of
      store_fits = record {
        whole = are.whole;
        variables = λ b v k e at own.
            let there = variable_is_cell y.blocks b v k at (slice_get_within k.variables v e own) in
            let here : cell_variable y.blocks (VariableCell b v) ≡ Some e = ap (option_and_then (λ (l : Block). slice_get l.variables v)) at ∙ own in
            let is = are.each (VariableCell b v) there
            ∙ ap (λ o. option_map_or (λ (d : Variable). kept_value d (old_value x y s.store (VariableCell b v))) o
            0) here in
            subst (λ n. n < 2 ^ e.width) (sym is) (kept_small e (old_value x y s.store (VariableCell b v)) (variable_kept y kept_y b v k e at own).init);
        fields = λ f n i p e rec own.
            let there = field_is_cell y.blocks f n i p rec.there rec.within (slice_get_within p.file.fields i e own) in
            let here : cell_variable y.blocks (Field f n i) ≡ Some e = ap (option_and_then (λ (q : Placed). slice_get q.file.fields i)) rec.there ∙ own in
            let is = ap (slice_index words) (sym (cell_number-field y.blocks f n i p rec.there))
            ∙ are.each (Field f n i) there
            ∙ ap (λ o. option_map_or (λ (d : Variable). kept_value d (old_value x y s.store (Field f n i))) o 0)
            here in
            subst (λ n. n < 2 ^ e.width) (sym is) (kept_small e (old_value x y s.store (Field f n i)) (field_kept y kept_y f i p e rec.there own).init);
      }

      mark_is : (f n : ℕ) (p : Placed) → slice_get (placed_files y.blocks) f ≡ Some p → n < p.file.size
          → p.file.forlopp ≡ true → slice_index words (mark_cell p n)
          ≡ mark_value (holds (all_records (carried_chains x y s.chains)) f n)
      mark_is f n p at within kind = ap (slice_index words) (sym (cell_number-mark y.blocks f n p at))
          ∙ are.each (Mark f n) (mark_is_cell y.blocks f n p at within kind)

      marks_fit : MarksFit y t
      unfolding files_of
      marks_fit = record {
        held = λ n h p at holds_it.
            let c = comes n h.file h.number holds_it in
            let new = record_fits x y kept_y fits c.old c.fits in
            let same : new.placed ≡ p = same_Some new.placed p (sym new.here.there ∙ ap (slice_get (placed_files y.blocks)) c.file ∙ at) in
            let within : c.old.number < new.placed.file.size = new.here.within in
            let size : new.placed.file.size ≡ p.file.size = ap (λ (q : Placed). q.file.size) same in
            let number = c.number in
            let small : h.number < p.file.size = omega (arith, within, size, number) in
            mark_is h.file h.number p at small (ap (λ (q : Placed). q.file.forlopp) (sym same) ∙ new.kind)
            ∙ ap mark_value (held_among_all (carried_chains x y s.chains) n h.file h.number holds_it);
        free = λ f n p rec kind none.
            let all = all_records_fit (λ (h : Held). is_record f n h ≡ false) (carried_chains x y s.chains)
            (λ m. all_false (chain_at (carried_chains x y s.chains) m) f n (none m)) in
            mark_is f n p rec.there rec.within kind ∙ ap mark_value (none_held (all_records (carried_chains x y s.chains)) f n all);
      }

      job_fits : (j : Job) → IsJob x j → IsJob y (job_with (new_entries x y) j)
      job_fits j is =
          let e = new_entry_is x y fits j.entry is.entry in
          record { entry = e.within; level = is.level ∙ sym e.level; values = is.values ∙ sym e.count; words = is.words }

      waits : (l : Level) (j : Job) → WaitsAt x s l j → WaitsAt y t l (job_with (new_entries x y) j)
      waits l j w = record { job = job_fits j w.job; here = w.here; forlopp = may_still j.forlopp w.forlopp }

      waiting_fits : WaitingFits y t
      waiting_fits = record {
        a = all_mapped (WaitsAt x s A) (WaitsAt y t A) (job_with (new_entries x y)) s.waiting.a (waits A) valid.waiting.a;
        b = all_mapped (WaitsAt x s B) (WaitsAt y t B) (job_with (new_entries x y)) s.waiting.b (waits B) valid.waiting.b;
        c = all_mapped (WaitsAt x s C) (WaitsAt y t C) (job_with (new_entries x y)) s.waiting.c (waits C) valid.waiting.c;
        d = all_mapped (WaitsAt x s D) (WaitsAt y t D) (job_with (new_entries x y)) s.waiting.d (waits D) valid.waiting.d;
      }

      numbers_fit : NumbersFit t
      numbers_fit = record {
        some = valid.numbers.some;
        dead = λ n is. valid.numbers.dead n is;
        few = let few = valid.numbers.few in omega (arith, few, length-map s.arrived (carried_arrived x y));
        arrived = all_mapped (λ (a : Arrived). a.forlopp < s.next) (λ (a : Arrived). a.forlopp < s.next)
            (carried_arrived x y) s.arrived (λ a is. is) valid.numbers.arrived;
      }

      origin_fits : (before : List Coming) (o : Origin) → NamesEarlier before o → NamesEarlier (map (carried_line x y) before) o
      origin_fits before Fresh is = tt
      origin_fits before Bare is = tt
      origin_fits before (Same line) is = (carried_line x y is.0, (is.1.0, got_map (carried_line x y) before is.1.0 is.0 is.1.1), is.2, is.3)

      line_fits : (before : List Coming) (l : Coming) → LineFits x before l → LineFits y (map (carried_line x y) before) (carried_line x y l)
      line_fits before l is =
          let e = new_entry_is x y fits l.entry is.entry in
          record {
            number = all_mapped (λ (k : Coming). k.number < l.number) (λ (k : Coming). k.number < l.number) (carried_line x y) before (λ k lt. lt) is.number;
            after = all_mapped (λ (k : Coming). k.after ≤ l.after) (λ (k : Coming). k.after ≤ l.after) (carried_line x y) before (λ k le. le) is.after;
            entry = e.within;
            values = is.values ∙ sym e.count;
            words = is.words;
            origin = origin_fits before l.origin is.origin;
          }

      all_lines : (before ls : List Coming) → LinesFit x before ls → LinesFit y (map (carried_line x y) before) (map (carried_line x y) ls)
      all_lines before [] is = tt
      all_lines before (l ∷ ls) is = (
        line_fits before l is.0,
        subst (λ b. LinesFit y b (map (carried_line x y) ls)) (map-append (carried_line x y) before (l ∷ [])) (all_lines (before ++ l ∷ []) ls is.1),
      )

      arrived_lines : (got : List Arrived) → map (carried_line x y) (map (λ (a : Arrived). a.line) got)
          ≡ map (λ (a : Arrived). a.line) (map (carried_arrived x y) got)
      arrived_lines [] = refl
      arrived_lines (a ∷ got) = ap (λ ls. carried_line x y a.line ∷ ls) (arrived_lines got)

      lines_fit : LinesFit y [] (map (λ (a : Arrived). a.line) t.arrived ++ t.lines)
      lines_fit = subst (LinesFit y []) (map-append (carried_line x y) (map (λ (a : Arrived). a.line) s.arrived) s.lines
          ∙ ap (λ ls. ls ++ map (carried_line x y) s.lines) (arrived_lines s.arrived))
          (all_lines [] (map (λ (a : Arrived). a.line) s.arrived ++ s.lines) valid.lines)

      pub state_fits : IsValid y t
      state_fits = record {
        store = store_fits;
        chains = chains_fit;
        marks = marks_fit;
        waiting = waiting_fits;
        numbers = numbers_fit;
        lines = lines_fit;
        events = tt;
      }

pub carried_valid : (x y : Exchange) (s t : State) → IsExchange x → IsExchange y → misfit x y ≡ None → IsValid x s → IsCarried x y s t → IsValid y t
carried_valid x y s t kept_x kept_y fits valid is =
    let chains : all_records t.chains ≡ all_records (carried_chains x y s.chains) = ap (λ (u : State). all_records u.chains) is.books in
    let words = subst (λ rs. AreCarriedWords x y s.store rs t.store) chains is.words in
    subst (IsValid y) (sym is.books) (state_fits x y kept_x kept_y fits s valid t.store words)
