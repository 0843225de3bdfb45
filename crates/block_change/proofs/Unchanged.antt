-- Where both exchanges are one, nothing changes but the events.
use Rattle.std.proofs.Common.{◌≡◌, ◌⊎◌, inl, inr, ℕ, ◌<◌, ◌^◌, Bool, true, false, ◌||◌, List, []}
use Rattle.std.proofs.Common.{◌∷◌, ◌++◌, length, map, position, Option, Some, None, unwrap_or}
use Rattle.std.proofs.Common.{slice_get, refl, sym, ap, ◌∙◌, subst, arith, if◌then◌else◌}
use Rattle.std.specs.Prelude.{slice_index}
use Rattle.std.specs.Cmp.{nat_cmp_total}
use Rattle.std.specs.FinMap as fin
use Rattle.std.specs.FinMap.{nat_cmp-IsAntisymmetric}
use Rattle.std.specs.List.{AllByRecursion, IsDistinct}
use Rattle.std.specs.Option.{option_and_then, option_map, option_map_or}
use Rattle.std.specs.Str.{bytes_eq}
use Rattle.std.proofs.lemmas.Bool.{lt-ltb, both_ways, cases_Bool, or_right}
use Rattle.std.proofs.lemmas.Option.{get_or_from_slice_get}
use Rattle.plex_num.proofs.Lists.{all_at as every_at, all_left, all_right, some_at, got_map}
use Rattle.plex_num.proofs.Lists.{all_weaker}
use Rattle.exchange_model.specs.declared.block.Block.{Block}
use Rattle.exchange_model.specs.declared.block.File.{File}
use Rattle.exchange_model.specs.declared.block.Variable.{Variable}
use Rattle.exchange_model.specs.declared.entry.Cell.{Cell}
use Rattle.exchange_model.specs.declared.entry.Cell.TheVariants.{Variable as VariableCell, Field}
use Rattle.exchange_model.specs.declared.entry.Cell.TheVariants.{Mark}
use Rattle.exchange_model.specs.declared.entry.Entry.{Entry}
use Rattle.exchange_model.specs.declared.exchange.Exchange.{Exchange}
use Rattle.exchange_model.specs.declared.signal.SignalKind.{SignalKind}
use Rattle.exchange_model.specs.Cells.{IsCell, Placed, cell_number, mark_cell, placed_files}
use Rattle.exchange_model.specs.Cells.{variable_cell}
use Rattle.exchange_model.specs.Index.{is_entry}
use Rattle.exchange_model.specs.Kept.{IsExchange, signal_name, variable_names}
use Rattle.exchange_model.proofs.Facts.{file_number}
use Rattle.exchange_model.proofs.Numbers.{cell_number-field, cell_number-mark, cell_numbered}
use Rattle.exchange_model.proofs.Numbers.{there_from}
use Rattle.exchange_model.proofs.Places.{stands}
use Rattle.job_types.specs.declared.chain.Held.{Held}
use Rattle.job_types.specs.declared.job.Job.{Job}
use Rattle.job_types.specs.Chain.{holds, is_record}
use Rattle.job_types.specs.Forlopps.{all_records, chain_at}
use Rattle.plex_num.specs.declared.level.Level.{Level}
use Rattle.plex_num.specs.declared.level.Level.TheVariants.{A, B, C, D}
use Rattle.run_books.specs.Accounts.{with_words}
use Rattle.run_books.specs.Parts.{AreAlike, AreParts, account_of}
use Rattle.run_books.specs.declared.parts.BookParts.{BookParts}
use Rattle.run_books.proofs.Parted.{alike, silent}
use Rattle.source_meaning.specs.Config.{files_of}
use Rattle.source_meaning.specs.State.{Arrived, Coming, State}
use Rattle.source_meaning.specs.Valid.{HoldsRecord, IsRecord, IsValid, LinesFit, WaitsAt}
use Rattle.source_meaning.proofs.Chains.{record_is, record_itself}
use Rattle.source_meaning.proofs.Maps.{all_records_fit, held_among_all}
use Rattle.block_change.specs.Carried.{AreCarriedWords, IsCarried, carried_arrived, carried_chain}
use Rattle.block_change.specs.Carried.{carried_chains, carried_held, carried_line, carried_value}
use Rattle.block_change.specs.Carried.{carried_waiting, carried_with, kept_value, mark_value}
use Rattle.block_change.specs.Carried.{new_entries, new_entry, new_file, number_for, old_value}
use Rattle.block_change.specs.Misfits.{misfit}
use Rattle.block_change.specs.Names.{file_names, place_of}
use Rattle.exchange_model.specs.Names.{names_of_blocks, names_of_signals}
use Rattle.block_change.specs.Renamed.{job_with}
use Rattle.block_change.specs.Same.{cell_variable, field_cell_in, file_at, same_block, same_cell}
use Rattle.block_change.specs.Same.{same_entry, same_file, same_signal, variable_cell_at}
use Rattle.block_change.proofs.Alike.{named_self}
use Rattle.block_change.proofs.Chaining.{get-carried}
use Rattle.block_change.proofs.Distinct.{named_apart}
use Rattle.block_change.proofs.Entered.{entry_known, entry_once}
use Rattle.block_change.proofs.Fitting.{fits_none}
use Rattle.block_change.proofs.Lists.{list_same, then_is}

-- ## Lists

map_same : {X : Type 0} (P : X → Type 0) (f : X → X) (xs : List X) → ((a : X) → P a → f a ≡ a) → AllByRecursion P xs → map f xs ≡ xs
map_same P f [] each all = refl
map_same P f (a ∷ xs) each all = λ i. each a all.0 i ∷ map_same P f xs each all.1 i

module _ (x : Exchange) (kept : IsExchange x) where
  block_self : (b : ℕ) (k : Block) → slice_get x.blocks b ≡ Some k → same_block x.blocks x.blocks b ≡ Some b
  block_self b k at = then_is (λ (l : Block). place_of l.name (names_of_blocks x.blocks)) (slice_get x.blocks b) k
      (Some b) at (named_self (λ (l : Block). l.name) x.blocks b k kept.blocks.names at)

  signal_self : (n : ℕ) (k : SignalKind) → slice_get x.signals n ≡ Some k → same_signal x.signals x.signals n ≡ Some n
  signal_self n k at = then_is (λ (l : SignalKind). place_of (signal_name l) (names_of_signals x.signals))
      (slice_get x.signals n) k (Some n) at (named_self signal_name x.signals n k kept.signals.names at)

  pub entry_self : (e : ℕ) (r : Entry) → slice_get x.entries e ≡ Some r → same_entry x x r ≡ Some e
  entry_self e r at =
      let is = entry_known x kept e r at in
      then_is (λ b. option_and_then (λ s. position (is_entry b s) x.entries) (same_signal x.signals x.signals r.signal))
      (same_block x.blocks x.blocks r.block) r.block (Some e) (block_self r.block is.block is.block_there)
      (then_is (λ s. position (is_entry r.block s) x.entries) (same_signal x.signals x.signals r.signal) r.signal
      (Some e) (signal_self r.signal is.kind is.kind_there) (entry_once x kept e r at))

  entry_is : (e : ℕ) → e < length x.entries → new_entry x x e ≡ e
  entry_is e inside =
      let r = some_at x.entries e inside in
      get_or_from_slice_get (new_entries x x) e (number_for x x r.0) 0 (got_map (number_for x x) x.entries e r.0 r.1)
      ∙ ap (λ o. unwrap_or o 0) (entry_self e r.0 r.1)

  pub file_self : (f : ℕ) (p : Placed) → slice_get (placed_files x.blocks) f ≡ Some p → same_file x.blocks x.blocks f ≡ Some p.file
  file_self f p at =
      let s = stands x.blocks f p at in
      let apart = named_apart x p.block s.owner (kept.blocks.each p.block s.owner s.there) in
      then_is (λ (q : Placed). option_and_then (file_at x.blocks q.file.name) (same_block x.blocks x.blocks q.block))
      (slice_get (placed_files x.blocks) f) p (Some p.file) at
      (then_is (file_at x.blocks p.file.name) (same_block x.blocks x.blocks p.block) p.block (Some p.file) (block_self p.block s.owner s.there)
      (then_is (λ (k : Block). option_and_then (slice_get k.files) (place_of p.file.name (file_names k.files)))
      (slice_get x.blocks p.block) s.owner (Some p.file) s.there
      (then_is (slice_get s.owner.files) (place_of p.file.name (file_names s.owner.files)) s.place (Some p.file)
      (named_self (λ (g : File). g.name) s.owner.files s.place p.file apart.files s.own) s.own)))

  file_is : (f : ℕ) (p : Placed) → slice_get (placed_files x.blocks) f ≡ Some p → new_file x x f ≡ f
  file_is f p at = ap (λ o. option_map_or (λ (g : File). g.number) o 0) (file_self f p at) ∙ file_number x kept f p at

  held_is : (h : Held) → IsRecord x h → carried_held x x h ≡ h
  unfolding files_of
  held_is h is = λ i. record { file = file_is h.file is.placed is.here.there i; number = h.number }

  chain_is : (chain : List Held) → AllByRecursion (IsRecord x) chain → carried_chain x x chain ≡ chain
  chain_is chain all = map_same (IsRecord x) (carried_held x x) chain held_is all

  -- ## Cells

  variable_self : (b v : ℕ) (k : Block) (e : Variable) → slice_get x.blocks b ≡ Some k
      → slice_get k.variables v ≡ Some e → same_cell x.blocks x.blocks (VariableCell b v) ≡ Some (VariableCell b v)
  variable_self b v k e at own =
      let apart = named_apart x b k (kept.blocks.each b k at) in
      then_is (λ (d : Variable). option_and_then (variable_cell_at x.blocks d.name) (same_block x.blocks x.blocks b))
      (cell_variable x.blocks (VariableCell b v)) e (Some (VariableCell b v))
      (ap (option_and_then (λ (l : Block). slice_get l.variables v)) at ∙ own)
      (then_is (variable_cell_at x.blocks e.name) (same_block x.blocks x.blocks b) b (Some (VariableCell b v)) (block_self b k at)
      (then_is (λ (l : Block). option_map (VariableCell b) (place_of e.name (variable_names l.variables))) (slice_get x.blocks b) k (Some (VariableCell b v)) at
      (ap (option_map (VariableCell b)) (named_self (λ (d : Variable). d.name) k.variables v e apart.variables own))))

  field_self : (f n i : ℕ) (p : Placed) (e : Variable) → slice_get (placed_files x.blocks) f ≡ Some p → n < p.file.size
      → slice_get p.file.fields i ≡ Some e → same_cell x.blocks x.blocks (Field f n i) ≡ Some (Field f n i)
  field_self f n i p e at within own =
      let s = stands x.blocks f p at in
      let apart = named_apart x p.block s.owner (kept.blocks.each p.block s.owner s.there) in
      let names : IsDistinct bytes_eq (variable_names p.file.fields) = every_at
      (λ (g : File). IsDistinct bytes_eq (variable_names g.fields)) s.owner.files s.place p.file apart.fields s.own
      in
      then_is (λ (d : Variable). option_and_then (field_cell_in d.name n) (same_file x.blocks x.blocks f))
      (cell_variable x.blocks (Field f n i)) e (Some (Field f n i))
      (ap (option_and_then (λ (q : Placed). slice_get q.file.fields i)) at ∙ own)
      (then_is (field_cell_in e.name n) (same_file x.blocks x.blocks f) p.file (Some (Field f n i)) (file_self f p at)
      (ap (λ b. if b then option_map (Field p.file.number n) (place_of e.name (variable_names p.file.fields)) else None) (lt-ltb n p.file.size within)
      ∙ ap (option_map (Field p.file.number n)) (named_self (λ (d : Variable). d.name) p.file.fields i e names own)
      ∙ ap (λ g. Some (Field g n i)) (file_number x kept f p at)))

  module _ (s : State) (valid : IsValid x s) where
    -- a record of all chains is one of a chain
    record IsHeld (f n : ℕ) (h : Held) : Type 0 where
      forlopp : ℕ
      held : HoldsRecord s forlopp h

    members : (chain : List Held) → AllByRecursion (λ (h : Held). holds chain h.file h.number ≡ true) chain
    members [] = tt
    members (h ∷ rest) = (
      ap (λ b. b || holds rest h.file h.number) (record_itself h.file h.number),
      all_weaker
          (λ (g : Held). holds rest g.file g.number ≡ true) (λ (g : Held). holds (h ∷ rest) g.file g.number ≡ true) rest
          (λ g is. or_right (is_record g.file g.number h) (holds rest g.file g.number) is) (members rest),
    )

    all_held : (f n : ℕ) → AllByRecursion (IsHeld f n) (all_records s.chains)
    all_held f n = all_records_fit (IsHeld f n) s.chains
        (λ m. all_weaker (λ (h : Held). HoldsRecord s m h) (IsHeld f n) (chain_at s.chains m)
        (λ h is. record { forlopp = m; held = is }) (members (chain_at s.chains m)))

    one_held : (f n : ℕ) (rs : List Held) → AllByRecursion (IsHeld f n) rs → holds rs f n ≡ true → (m : ℕ) × HoldsRecord s m (record { file = f; number = n })
    one_held f n [] all is = absurd (cc)
    one_held f n (h ∷ rest) all is = by (is_record f n h) refl (one_held f n rest all.1) is
      where
        by : (b : Bool) → is_record f n h ≡ b → (holds rest f n ≡ true
            → (m : ℕ) × HoldsRecord s m (record { file = f; number = n })) → (b || holds rest f n) ≡ true
            → (m : ℕ) × HoldsRecord s m (record { file = f; number = n })
        by false at more is = more is
        by true at more is =
            let same = record_is f n h at in
            let one : h ≡ record { file = f; number = n } = λ i. record { file = same.0 i; number = same.1 i } in
            (all.0.forlopp, subst (HoldsRecord s all.0.forlopp) one all.0.held)

    no_chain : (f n m : ℕ) → holds (all_records s.chains) f n ≡ false → holds (chain_at s.chains m) f n ≡ false
    no_chain f n m none = by (cases_Bool (holds (chain_at s.chains m) f n))
      where
        by : (holds (chain_at s.chains m) f n ≡ true) ⊎ (holds (chain_at s.chains m) f n ≡ false) → holds (chain_at s.chains m) f n ≡ false
        by (inr absent) = absent
        by (inl there) = absurd (both_ways (holds (all_records s.chains) f n) none (held_among_all s.chains m f n there))

    mark_self : (f n : ℕ) (p : Placed) → slice_get (placed_files x.blocks) f ≡ Some p → n < p.file.size
        → p.file.forlopp ≡ true → mark_value (holds (all_records s.chains) f n) ≡ slice_index s.store (mark_cell p n)
    unfolding files_of
    mark_self f n p at within kind = by (cases_Bool (holds (all_records s.chains) f n))
      where
        by : (holds (all_records s.chains) f n ≡ true) ⊎ (holds (all_records s.chains) f n ≡ false)
            → mark_value (holds (all_records s.chains) f n) ≡ slice_index s.store (mark_cell p n)
        by (inl there) =
            let one = one_held f n (all_records s.chains) (all_held f n) there in
            ap mark_value there ∙ sym (valid.marks.held one.0 (record { file = f; number = n }) p at one.1)
        by (inr none) = ap mark_value none ∙ sym (valid.marks.free f n p (record { there = at; within = within }) kind (λ m. no_chain f n m none))

    value_fits : (e : Variable) (w : ℕ) → w < 2 ^ e.width → kept_value e (Some w) ≡ w
    value_fits e w lt = ap (λ b. if b then w else e.init) (lt-ltb w (2 ^ e.width) lt)

    value_self : (c : Cell) → IsCell x.blocks c → carried_value x x s.store (all_records s.chains) c ≡ slice_index s.store (cell_number x.blocks c)
    unfolding files_of
    value_self (VariableCell b v) is =
        let k = there_from (slice_get x.blocks b) (λ k. v < length k.variables) is in
        let e = some_at k.value.variables v k.holds in
        let here : cell_variable x.blocks (VariableCell b v) ≡ Some e.0 = ap (option_and_then (λ (l : Block). slice_get l.variables v)) k.is ∙ e.1 in
        ap (λ o. option_map_or (λ (d : Variable). kept_value d (old_value x x s.store (VariableCell b v))) o 0) here
        ∙ ap (λ o. kept_value e.0 (option_map (λ d. slice_index s.store (cell_number x.blocks d)) o)) (variable_self b v k.value e.0 k.is e.1)
        ∙ value_fits e.0 (slice_index s.store (variable_cell x.blocks b v)) (valid.store.variables b v k.value e.0 k.is e.1)
    value_self (Field f n i) is =
        let p = there_from (slice_get (placed_files x.blocks) f) (λ p. (n < p.file.size) × (i < length p.file.fields)) is in
        let e = some_at p.value.file.fields i p.holds.1 in
        let here : cell_variable x.blocks (Field f n i) ≡ Some e.0 = ap (option_and_then (λ (q : Placed). slice_get q.file.fields i)) p.is ∙ e.1 in
        let number = cell_number-field x.blocks f n i p.value p.is in
        let small = subst (λ k. slice_index s.store k < 2 ^ e.0.width) (sym number)
        (valid.store.fields f n i p.value e.0 (record { there = p.is; within = p.holds.0 }) e.1) in
        ap (λ o. option_map_or (λ (d : Variable). kept_value d (old_value x x s.store (Field f n i))) o 0) here
        ∙ ap (λ o. kept_value e.0 (option_map (λ d. slice_index s.store (cell_number x.blocks d)) o)) (field_self f n i p.value e.0 p.is p.holds.0 e.1)
        ∙ value_fits e.0 (slice_index s.store (cell_number x.blocks (Field f n i))) small
    value_self (Mark f n) is =
        let p = there_from (slice_get (placed_files x.blocks) f) (λ p. (n < p.file.size) × (p.file.forlopp ≡ true)) is in
        mark_self f n p.value p.is p.holds.0 p.holds.1 ∙ ap (slice_index s.store) (sym (cell_number-mark x.blocks f n p.value p.is))

    -- ## The whole

    chains_same : carried_chains x x s.chains ≡ s.chains
    chains_same = fin.same_map nat_cmp_total nat_cmp-IsAntisymmetric _ _ (λ q. get-carried x x s.chains q ∙ by q (fin.get s.chains q) refl)
      where
        by : (q : ℕ) (o : Option (List Held)) → fin.get s.chains q ≡ o → option_map (carried_chain x x) (fin.get s.chains q) ≡ fin.get s.chains q
        by q None at = ap (option_map (carried_chain x x)) at ∙ sym at
        by q (Some c) at =
            let records = subst (λ o. AllByRecursion (IsRecord x) (unwrap_or o [])) at (valid.chains.records q) in
            ap (option_map (carried_chain x x)) at ∙ ap Some (chain_is c records) ∙ sym at

    job_same : (l : Level) (j : Job) → WaitsAt x s l j → job_with (new_entries x x) j ≡ j
    job_same l j w = λ i. record j { entry = entry_is j.entry w.job.entry i }

    waiting_same : carried_waiting x x s.waiting ≡ s.waiting
    waiting_same = λ i. record {
      a = map_same (WaitsAt x s A) (job_with (new_entries x x)) s.waiting.a (job_same A) valid.waiting.a i;
      b = map_same (WaitsAt x s B) (job_with (new_entries x x)) s.waiting.b (job_same B) valid.waiting.b i;
      c = map_same (WaitsAt x s C) (job_with (new_entries x x)) s.waiting.c (job_same C) valid.waiting.c i;
      d = map_same (WaitsAt x s D) (job_with (new_entries x x)) s.waiting.d (job_same D) valid.waiting.d i;
    }

    abbrev HasEntry : Coming → Type 0
    HasEntry l = l.entry < length x.entries

    have_entries : (before ls : List Coming) → LinesFit x before ls → AllByRecursion HasEntry ls
    have_entries before [] fit = tt
    have_entries before (l ∷ ls) fit = (fit.0.entry, have_entries (before ++ l ∷ []) ls fit.1)

    line_same : (l : Coming) → HasEntry l → carried_line x x l ≡ l
    line_same l is = λ i. record l { entry = entry_is l.entry is i }

    arrived_same : (got : List Arrived) → AllByRecursion HasEntry (map (λ (a : Arrived). a.line) got) → map (carried_arrived x x) got ≡ got
    arrived_same [] all = refl
    arrived_same (a ∷ got) all = λ i. record { line = line_same a.line all.0 i; forlopp = a.forlopp } ∷ arrived_same got all.1 i

    words_same : (words : List ℕ) → AreCarriedWords x x s.store (all_records s.chains) words → words ≡ s.store
    words_same words are = list_same words s.store (are.whole ∙ sym valid.store.whole) (λ i inside.
        let whole = are.whole in
        let cells = kept.numbered.cells in
        let c = cell_numbered x.blocks i (omega (arith, inside, whole, cells)) in
        ap (slice_index words) (sym c.same) ∙ are.each c.cell c.is ∙ value_self c.cell c.is ∙ ap (slice_index s.store) c.same)

    books_same : (words : List ℕ) → carried_with x x s words ≡ record s { store = words; events = [] }
    books_same words =
        let all = have_entries [] (map (λ (a : Arrived). a.line) s.arrived ++ s.lines) valid.lines in
        λ i. record {
          store = words;
          waiting = waiting_same i;
          chains = chains_same i;
          dead = s.dead;
          next = s.next;
          ended = s.ended;
          restarts = s.restarts;
          events = [];
          lines = map_same HasEntry (carried_line x x) s.lines line_same (all_right HasEntry (map (λ (a : Arrived). a.line) s.arrived) s.lines all) i;
          arrived = arrived_same s.arrived (all_left HasEntry (map (λ (a : Arrived). a.line) s.arrived) s.lines all) i;
        }

    pub state_same : (t : State) → IsCarried x x s t → t ≡ record s { events = [] }
    state_same t is =
        let chains : all_records t.chains ≡ all_records s.chains = ap (λ (u : State). all_records u.chains) is.books ∙ ap all_records chains_same in
        let words = words_same t.store (subst (λ rs. AreCarriedWords x x s.store rs t.store) chains is.words) in
        is.books ∙ books_same t.store ∙ (λ i. record s { store = words i; events = [] })

    pub state_goes : IsCarried x x s (record s { events = [] })
    state_goes = record {
      books = sym (books_same s.store);
      words = record { whole = valid.store.whole; each = λ c is. sym (value_self c is) };
    }

pub carried_same : (x : Exchange) (s t : State) → IsExchange x → IsValid x s → IsCarried x x s t → t ≡ record s { events = [] }
carried_same x s t kept valid is = state_same x kept s valid t is

pub goes_over : (x : Exchange) (s : State) → IsExchange x → IsValid x s → IsCarried x x s (record s { events = [] })
goes_over x s kept valid = state_goes x kept s valid

-- so do the stored words, and the parts of the books
pub parts_same : (x : Exchange) (p q : BookParts) (words carried : List ℕ) → IsExchange x → AreParts p → AreParts q
    → q.limit ≡ p.limit → IsValid x (with_words (account_of p).state words)
    → IsCarried x x (with_words (account_of p).state words) (with_words (account_of q).state carried) → AreAlike p q × (carried ≡ words)
parts_same x p q words carried kept are_p are_q limit valid is =
    let same = carried_same x (with_words (account_of p).state words) (with_words (account_of q).state carried) kept valid is in
    (alike p q are_p are_q (ap (λ (s : State). silent (with_words s [])) same) limit, ap (λ (s : State). s.store) same)

-- ## An exchange fits itself

pub fits_itself : (x : Exchange) → IsExchange x → misfit x x ≡ None
fits_itself x kept = fits_none x x kept (record {
  entries = λ e r at.
      let own = entry_known x kept e r at in
      record {
        signal = own.kind;
        signal_there = own.kind_there;
        block = own.block;
        block_there = own.block_there;
        number = e;
        entry = r;
        there = at;
        like = own.kind;
        like_there = own.kind_there;
        home = own.block;
        home_there = own.block_there;
        alike = record { name = refl; level = refl; count = refl };
        one_name = refl;
      };
  files = λ b j k f at own kind. record {
    number = b;
    home = k;
    home_there = at;
    one_name = refl;
    place = j;
    file = f;
    there = own;
    own_name = refl;
    kind = kind;
    size = omega arith;
  };
})
