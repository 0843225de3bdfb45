-- Books and their parts: the books that are made of parts tell them, and where the state is valid
-- they are parts of books.
use Rattle.std.proofs.Common.{◌≡◌, ◌≢◌, ℕ, ◌+◌, ◌<◌, ◌≤◌, ◌^◌, Bool, true, false, ◌||◌, eqb, List}
use Rattle.std.proofs.Common.{[], ◌∷◌, ◌++◌, length, map, drop, Option, Some, None, is_some}
use Rattle.std.proofs.Common.{unwrap_or, refl, sym, ap, ◌∙◌, subst, arith, length-append}
use Rattle.std.specs.Prelude.{nat_eq}
use lib.Dec.{T}
use Rattle.std.specs.declared.cmp.Ordering.{Ordering}
use Rattle.std.specs.declared.cmp.Ordering.TheVariants.{Less, Equal, Greater}
use Rattle.std.specs.Cmp.{unsigned_tied}
use Rattle.std.specs.FinMap as fin
use Rattle.std.specs.FinMap.Entries.{below_all, is_sorted}
use Rattle.std.specs.HashMap.{get}
use Rattle.std.specs.List.{AllByRecursion, IsDistinct, list_any}
use Rattle.std.specs.Ordering.{eq_by_cmp, is_eq, is_lt, nat_cmp}
use Rattle.std.proofs.lemmas.Bool.{eq-eqb, eqb-false, eqb-true, ne_eqb, or_right}
use Rattle.std.proofs.lemmas.List.{length-map}
use Rattle.std.proofs.lemmas.Map.Keys.{IsDistinct-cons, IsDistinct-head, IsDistinct-tail}
use Rattle.std.proofs.lemmas.Map.Steps.{length-le_from_distinct_below}
use Rattle.plex_limits.specs.declared.limits.TheConstants.{MOST_JOBS}
use Rattle.plex_num.proofs.Options.{split}
use Rattle.exchange_model.specs.declared.entry.Cell.TheVariants.{Mark}
use Rattle.exchange_model.specs.declared.exchange.Exchange.{Exchange}
use Rattle.exchange_model.specs.Cells.{IsCell, cell_number}
use Rattle.exchange_model.specs.Kept.{IsExchange}
use Rattle.exchange_model.proofs.Numbers.{cell_number-below, cell_number-once, mark_is_cell}
use Rattle.signal_file.specs.declared.line.Line.{Line}
use Rattle.signal_file.specs.declared.line.LineKind.{LineKind}
use Rattle.signal_file.specs.declared.line.LineKind.TheVariants as kind
use Rattle.job_types.specs.declared.chain.Held.{Held}
use Rattle.job_types.specs.Chain.{holds}
use Rattle.job_types.specs.Forlopps.{ChainMap, chain_at}
use Rattle.forlopp_chain.specs.Chains.{AreBelow, IsSound, NoneEmpty}
use Rattle.source_meaning.specs.Config.{files_of}
use Rattle.source_meaning.specs.State.{Arrived, Bare, Coming, Fresh, Origin, Same, State}
use Rattle.source_meaning.specs.Valid.{HasRecords, HoldsRecord, IsRecord, IsValid}
use Rattle.source_meaning.proofs.Chains.{record_itself}
use Rattle.run_books.specs.Accounts.{Account, with_words}
use Rattle.run_books.specs.Lines.{arrived_of, coming_of, found_in, origin_of}
use Rattle.run_books.specs.Parts.{AreAlike, AreParts, account_of}
use Rattle.run_books.specs.declared.parts.BookParts.{BookParts}

-- ## Lines

abbrev kind_of : Origin → LineKind
kind_of Fresh = kind.Fresh
kind_of Bare = kind.Bare
kind_of (Same line) = kind.Same line

kind_again : (k : LineKind) → kind_of (origin_of k) ≡ k
kind_again (kind.Fresh) = refl
kind_again (kind.Bare) = refl
kind_again (kind.Same line) = refl

abbrev line_of : Coming → Line
line_of c = record { number = c.number; after = c.after; entry = c.entry; values = c.values; kind = kind_of c.origin }

lines_again : (ls : List Line) → map line_of (map coming_of ls) ≡ ls
lines_again [] = refl
lines_again (l ∷ rest) = λ i. record l { kind = kind_again l.kind i } ∷ lines_again rest i

abbrev lines_of : List Arrived → List Coming
lines_of got = map (λ (a : Arrived). a.line) got

abbrev forlopps_of : List Arrived → List ℕ
forlopps_of got = map (λ (a : Arrived). a.forlopp) got

-- those that have arrived, and those that are left
all_lines : (lines : List Line) (given : List ℕ) → lines_of (arrived_of lines given) ++ map coming_of (drop (length given) lines) ≡ map coming_of lines
all_lines [] [] = refl
all_lines [] (f ∷ given) = refl
all_lines (l ∷ rest) [] = refl
all_lines (l ∷ rest) (f ∷ given) = ap (λ ls. coming_of l ∷ ls) (all_lines rest given)

all_given : (lines : List Line) (given : List ℕ) → length given ≤ length lines → forlopps_of (arrived_of lines given) ≡ given
all_given [] [] within = refl
all_given [] (f ∷ given) within = absurd (omega (arith, within))
all_given (l ∷ rest) [] within = refl
all_given (l ∷ rest) (f ∷ given) within = ap (λ fs. f ∷ fs) (all_given rest given (omega (arith, within)))

-- ## Parts are told by their books

-- the state without its events
abbrev pub silent : State → State
silent s = record s { events = [] }

pub alike : (p q : BookParts) → AreParts p → AreParts q → silent (account_of q).state ≡ silent (account_of p).state → q.limit ≡ p.limit → AreAlike p q
alike p q are_p are_q same limit =
    let arrived : arrived_of q.lines q.given ≡ arrived_of p.lines p.given = ap (λ (s : State). s.arrived) same in
    let left : map coming_of (drop (length q.given) q.lines) ≡ map coming_of (drop (length p.given) p.lines) = ap (λ (s : State). s.lines) same in
    let given : q.given ≡ p.given = sym (all_given q.lines q.given are_q.within) ∙ ap forlopps_of arrived ∙ all_given p.lines p.given are_p.within in
    let lines : map coming_of q.lines ≡ map coming_of p.lines = sym (all_lines q.lines q.given)
    ∙ (λ i. lines_of (arrived i) ++ left i) ∙ all_lines p.lines p.given in
    record {
      waiting = ap (λ (s : State). s.waiting) same;
      chains = ap (λ (s : State). s.chains) same;
      dead = ap (λ (s : State). s.dead) same;
      lines = sym (lines_again q.lines) ∙ ap (map line_of) lines ∙ lines_again p.lines;
      next_line = are_q.next_line ∙ ap length given ∙ sym are_p.next_line;
      given = given;
      numbers = λ n. are_q.numbers n ∙ ap (λ got. found_in got n) arrived ∙ sym (are_p.numbers n);
      next = ap (λ (s : State). s.next) same;
      ended = ap (λ (s : State). s.ended) same;
      restarts = ap (λ (s : State). s.restarts) same;
      limit = limit;
    }

pub alike_of_books : (p q : BookParts) → AreParts p → AreParts q → account_of q ≡ account_of p → AreAlike p q
alike_of_books p q are_p are_q same = alike p q are_p are_q (ap (λ (b : Account). silent b.state) same) (ap (λ (b : Account). b.limit) same)

-- ## Chains of a valid state: each has a record of its own, so that there are no more of them than
-- cells

pub not_equal : (r : Ordering) → T (is_lt r) → is_eq r ≡ false
not_equal Less lt = refl
not_equal Equal lt = absurd lt
not_equal Greater lt = refl

none_twice : IsDistinct eqb []
unfolding IsDistinct
none_twice = tt

keys_behind : (n : ℕ) (es : List (ℕ × List Held)) → T (below_all nat_cmp n es) → AllByRecursion (λ q. eqb n q ≡ false) (map (λ e. e.0) es)
keys_behind n [] below = tt
keys_behind n (e ∷ es) below =
    let rest = split _ _ below in
    (sym (unsigned_tied n e.0) ∙ not_equal (nat_cmp n e.0) rest.0, keys_behind n es rest.1)

keys_differ : (es : List (ℕ × List Held)) → T (is_sorted nat_cmp es) → IsDistinct eqb (map (λ e. e.0) es)
keys_differ [] up = none_twice
keys_differ (e ∷ es) up =
    let rest = split _ _ up in
    IsDistinct-cons eqb e.0 (map (λ e. e.0) es) (keys_behind e.0 es rest.0) (keys_differ es rest.1)

some_records : (c : List Held) → c ≢ [] → HasRecords c
some_records [] some = some refl
some_records (h ∷ c) some = tt

kept_records : (m : ChainMap) → NoneEmpty m → (n : ℕ) (o : Option (List Held)) → fin.get m n ≡ o → is_some o ≡ true → HasRecords (unwrap_or o [])
kept_records m none n None at some = absurd (cc)
kept_records m none n (Some []) at some = none n at
kept_records m none n (Some (h ∷ c)) at some = tt

module _ (x : Exchange) (kept : IsExchange x) (s : State) (valid : IsValid x s) where
  mark_is : (h : Held) → IsRecord x h → IsCell x.blocks (Mark h.file h.number)
  unfolding files_of
  mark_is h is = mark_is_cell x.blocks h.file h.number is.placed is.here.there is.here.within is.kind

  -- the number of the mark of a chain's first record
  mark_of : List Held → ℕ
  mark_of [] = 0
  mark_of (h ∷ c) = cell_number x.blocks (Mark h.file h.number)

  mark_below : (c : List Held) → AllByRecursion (IsRecord x) c → HasRecords c → mark_of c < x.cells
  unfolding mark_of
  mark_below [] all some = absurd some
  mark_below (h ∷ c) all some = subst (λ n. cell_number x.blocks (Mark h.file h.number) < n) (sym kept.numbered.cells)
      (cell_number-below x.blocks (Mark h.file h.number) (mark_is h all.0))

  first_held : (h : Held) (c : List Held) (n : ℕ) → chain_at s.chains n ≡ h ∷ c → HoldsRecord s n h
  first_held h c n at = ap (λ chain. holds chain h.file h.number) at ∙ ap (λ b. b || holds c h.file h.number) (record_itself h.file h.number)

  one_number : (n m : ℕ) (c d : List Held) → chain_at s.chains n ≡ c → chain_at s.chains m ≡ d → HasRecords c → HasRecords d → mark_of c ≡ mark_of d → n ≡ m
  unfolding mark_of
  one_number n m [] d at_n at_m some other same = absurd some
  one_number n m (h ∷ c) [] at_n at_m some other same = absurd other
  one_number n m (h ∷ c) (g ∷ d) at_n at_m some other same =
      let of_n = subst (AllByRecursion (IsRecord x)) at_n (valid.chains.records n) in
      let of_m = subst (AllByRecursion (IsRecord x)) at_m (valid.chains.records m) in
      let marks : Mark h.file h.number ≡ Mark g.file g.number = cell_number-once x.blocks (Mark h.file h.number)
      (Mark g.file g.number) (mark_is h of_n.0) (mark_is g of_m.0) same in
      let file : h.file ≡ g.file = cc in
      let number : h.number ≡ g.number = cc in
      valid.chains.apart n m h (first_held h c n at_n) ((λ i. holds (chain_at s.chains m) (file i) (number i)) ∙ first_held g d m at_m)

  mark_at : ℕ → ℕ
  mark_at n = mark_of (chain_at s.chains n)

  abbrev HaveRecords : List ℕ → Type 0
  HaveRecords ns = AllByRecursion (λ n. HasRecords (chain_at s.chains n)) ns

  marks_apart : (n : ℕ) (ns : List ℕ) → HasRecords (chain_at s.chains n) → AllByRecursion (λ q. eqb n q ≡ false) ns
      → HaveRecords ns → AllByRecursion (λ q. eqb (mark_at n) q ≡ false) (map mark_at ns)
  unfolding mark_at
  marks_apart n [] some apart all = tt
  marks_apart n (m ∷ ns) some apart all = (
    ne_eqb (mark_at n) (mark_at m) (λ same. eqb-false n m apart.0 (one_number n m (chain_at s.chains n) (chain_at s.chains m) refl refl some all.0 same)),
    marks_apart n ns some apart.1 all.1,
  )

  marks_differ : (ns : List ℕ) → IsDistinct eqb ns → HaveRecords ns → IsDistinct eqb (map mark_at ns)
  marks_differ [] once all = none_twice
  marks_differ (n ∷ ns) once all =
      IsDistinct-cons eqb (mark_at n) (map mark_at ns) (marks_apart n ns all.0 (IsDistinct-head eqb n ns once) all.1)
      (marks_differ ns (IsDistinct-tail eqb n ns once) all.1)

  marks_below : (ns : List ℕ) → HaveRecords ns → (q : ℕ) → list_any (eqb q) (map mark_at ns) ≡ true → q < x.cells
  unfolding mark_at
  marks_below [] all q is = absurd (cc)
  marks_below (n ∷ ns) all q is = by (eqb q (mark_at n)) refl is (marks_below ns all.1 q)
    where
      by : (b : Bool) → eqb q (mark_at n) ≡ b → (b || list_any (eqb q) (map mark_at ns)) ≡ true
          → (list_any (eqb q) (map mark_at ns) ≡ true → q < x.cells) → q < x.cells
      by true same is rest = subst (λ k. k < x.cells) (sym (eqb-true q (mark_at n) same)) (mark_below (chain_at s.chains n) (valid.chains.records n) all.0)
      by false same is rest = rest is

  all_have : (ns : List ℕ) → ((q : ℕ) → list_any (eq_by_cmp nat_cmp q) ns ≡ true → HasRecords (chain_at s.chains q)) → HaveRecords ns
  all_have [] each = tt
  all_have (n ∷ ns) each = (
    each n (ap (λ b. b || list_any (eq_by_cmp nat_cmp n) ns) (unsigned_tied n n ∙ eq-eqb n n refl)),
    all_have ns (λ q is. each q (or_right (eq_by_cmp nat_cmp q n) (list_any (eq_by_cmp nat_cmp q) ns) is)),
  )

  pub chains_few : NoneEmpty s.chains → fin.len s.chains ≤ x.cells
  chains_few none =
      let m = s.chains in
      let ns = fin.keys m in
      let all = all_have ns (λ q is. kept_records m none q (fin.get m q) refl (fin.contains_key-keys m q ∙ is)) in
      let differ = marks_differ ns (keys_differ (fin.entries m) (fin.entries_sorted m)) all in
      let few = length-le_from_distinct_below (map mark_at ns) x.cells differ (marks_below ns all) in
      omega (arith, few, length-map ns mark_at, length-map (fin.entries m) (λ e. e.0), fin.len-entries m)

  pub chains_below : AreBelow s.chains s.next
  chains_below n some = (valid.chains.live n (some_records (chain_at s.chains n) some)).before

-- ## The parts of a valid state

pub parts_of_valid : (x : Exchange) (p : BookParts) (words : List ℕ) → IsExchange x
    → IsSound p.chains.chains p.chains.dead → p.limit ≤ MOST_JOBS → p.ended ≤ p.limit → p.restarts < 2 ^ 32
    → length p.lines < 2 ^ 32
    → p.next_line ≡ length p.given → length p.given ≤ length p.lines
    → ((n : ℕ) → get nat_eq p.numbers n ≡ found_in (arrived_of p.lines p.given) n)
    → IsValid x (with_words (account_of p).state words) → AreParts p
parts_of_valid x p words kept sound limit ended restarts lines next_line within numbers valid =
    let s = with_words (account_of p).state words in
    let chains = chains_few x kept s valid sound.some in
    let cells = kept.limited.cells in
    let got = arrived_of p.lines p.given in
    let left = map coming_of (drop (length p.given) p.lines) in
    let all = ap length (all_lines p.lines p.given) in
    record {
      next_line = next_line;
      within = within;
      numbers = numbers;
      kept = record {
        few = limit;
        within = omega (arith, ended);
        restarts = omega (arith, restarts);
        some = valid.numbers.some;
        next = valid.numbers.few;
        lines = omega (arith, lines, all, length-append (lines_of got) left, length-map got (λ (a : Arrived). a.line), length-map p.lines coming_of);
        below = chains_below x kept s valid;
        chains = omega (arith, chains, cells);
      };
    }
