-- The records that are chosen, told as runs of numbers.
use Rattle.std.proofs.Common.{◌≡◌, ◌⊎◌, inl, inr, ⊎_elim, ℕ, ◌+◌, ◌-◌, ◌^◌, ◌<◌, ◌≤◌, Bool, true}
use Rattle.std.proofs.Common.{false, cond, List, [], ◌∷◌, ◌++◌, length, take, get_or, map, filter}
use Rattle.std.proofs.Common.{nat_eq, nat_lt, refl, sym, ap, ◌∙◌, subst, arith}
use Rattle.std.specs.Prelude.{◌↔◌, IsTrue}
use Rattle.std.specs.List.{AllByRecursion, Contains}
use Rattle.std.specs.List.Sorted.{IsNonDecreasingBy, IsPermutation, IsSorted}
use Rattle.std.proofs.lemmas.List.{get_or-take, length-take-le, take_all, take_more, get_or_default}
use Rattle.std.specs.Ordering.{nat_cmp}
use Rattle.std.proofs.lemmas.List.Sorted.{Contains-permutation, IsNonDecreasingBy-from_sort}
use Rattle.std.proofs.lemmas.List.Sorted.{IsPermutation-sym}
use Rattle.std.proofs.lemmas.Bool.{eq-eqb, eqb-true, lt-ltb, ltb-true, or_left, or_right, and_from}
use Rattle.std.proofs.lemmas.Bool.{and_parts, cases_lt, or_cases, false_from_ne_true, both_ways}
use Rattle.std.proofs.lemmas.List.Elements.{Contains-append_cases, Contains-append_left}
use Rattle.std.proofs.lemmas.List.Elements.{Contains-append_right, Contains-push}
use Rattle.std.proofs.lemmas.List.Elements.{Contains-push_cases, Contains-get_or}
use Rattle.plex_num.proofs.Members.{none_in, later_is, first_is, first_or_later}
use Rattle.job_types.specs.declared.chain.Held.{Held}
use Rattle.job_types.specs.Chain.{holds, is_record}
use Rattle.job_types.specs.Forlopps.{ChainMap, all_records, chain_at}
use Rattle.source_meaning.proofs.Maps.{all_records_fit, held_among_all}
use Rattle.entry_summary.specs.declared.summary.Access.{Access}
use Rattle.entry_summary.specs.declared.summary.Access.TheVariants.{Seizes}
use Rattle.start_permit.specs.declared.runs.Run.{Run}
use Rattle.start_permit.specs.Granted.{IsFree, MayHold, OneOf}
use Rattle.start_permit.specs.Recorded.{AreBelow, AreRuns, InRun, IsRunOf, one_run, is_of}
use Rattle.start_permit.specs.Recorded.{numbers_of}

-- one run

pub one_is : (number size : ℕ) → number < size → IsRunOf size (λ n. n ≡ number) (record { first = number; count = 1 })
one_is number size lt = record {
  each = λ n h. (let low = h.0 in let high = h.1 in (omega (arith, low, high, lt), omega (arith, low, high)));
  back = λ n below is. (omega (arith, is), omega (arith, is));
}

pub none_is : (number size : ℕ) → size ≤ number → IsRunOf size (λ n. n ≡ number) (record { first = 0; count = 0 })
none_is number size past = record {
  each = λ n h. (let high = h.1 in absurd (omega (arith, high)));
  back = λ n below is. absurd (omega (arith, below, is, past));
}

pub all_are : (size : ℕ) → IsRunOf size (λ n. Unit {0}) (record { first = 0; count = size })
all_are size = record {
  each = λ n h. (let high = h.1 in (omega (arith, high), tt));
  back = λ n below u. (omega arith, omega (arith, below));
}

pub low_is : (from until n : ℕ) → from ≤ n → n < until → n < from + (until - from)
low_is from until n low high = omega (arith, low, high)

-- the members of a list

-- runs between rising numbers

-- what the runs so far have: all up to the next number but these
pub record GapsGo (numbers : List ℕ) (i next : ℕ) (runs : List Run) : Type 0 where
  pub each : (n : ℕ) → OneOf InRun runs n → (n < next) × (Contains (take i numbers) n → ⊥)
  pub back : (n : ℕ) → n < next → (Contains (take i numbers) n → ⊥) → OneOf InRun runs n
  pub taken : (n : ℕ) → Contains (take i numbers) n → n < next
  pub top : (next ≡ 0) ⊎ ((m : ℕ) × Contains (take i numbers) m × (next ≡ m + 1))

pub gaps_begin : (numbers : List ℕ) (runs : List Run) → runs ≡ [] → GapsGo numbers 0 0 runs
gaps_begin numbers runs none = record {
  each = λ n o. absurd (none_in o.item (subst (λ l. Contains l o.item) none o.there));
  back = λ n lt c. absurd (omega (arith, lt));
  taken = λ n c. absurd (none_in n c);
  top = inl refl;
}

more_runs : (old new : List Run) (run : Run) (n : ℕ) → new ≡ old ++ run ∷ [] → OneOf InRun new n → OneOf InRun old n ⊎ InRun run n
more_runs old new run n is o =
    ⊎_elim (λ c. inl (record { item = o.item; there = c; gives = o.gives })) (λ same. inr (subst (λ r. InRun r n) (sym same) o.gives))
    (Contains-push_cases old run o.item (subst (λ l. Contains l o.item) is o.there))

was_run : (old new : List Run) (run : Run) (n : ℕ) → new ≡ old ++ run ∷ [] → OneOf InRun old n → OneOf InRun new n
was_run old new run n is o = record {
  item = o.item;
  there = subst (λ l. Contains l o.item) (sym is) (Contains-append_left old (run ∷ []) o.item o.there);
  gives = o.gives;
}

now_run : (old new : List Run) (run : Run) (n : ℕ) → new ≡ old ++ run ∷ [] → InRun run n → OneOf InRun new n
now_run old new run n is h = record { item = run; there = subst (λ l. Contains l run) (sym is) (Contains-push old run); gives = h }

pub gaps_more : (numbers : List ℕ) (i d next number after : ℕ) (run : Run) (old new : List Run)
    → IsNonDecreasingBy (λ (n : ℕ). n) numbers → i < length numbers → number ≡ get_or numbers i d
    → ((n : ℕ) → InRun run n → (next ≤ n) × (n < number)) → ((n : ℕ) → next ≤ n → n < number → InRun run n) → after ≡ number + 1 → new ≡ old ++ run ∷ []
    → GapsGo numbers i next old → GapsGo numbers (i + 1) after new
gaps_more numbers i d next number after run old new rising lt is low back step made g = record {
  each = λ n o. ⊎_elim (λ was. let old_each = g.each n was in let under : n < next = old_each.0 in
      (omega (arith, under, reach, step), λ c. ⊎_elim (λ e. old_each.1 e) (λ same. not_number n under old_each.1 (same)) (split n c)))
      (λ k. let lo = (low n k).0 in let hi = (low n k).1 in (
        omega (arith, hi, step),
        λ c. ⊎_elim (λ e. (let under = g.taken n e in absurd (omega (arith, under, lo))))
            (λ same. absurd (omega (arith, same, hi))) (split n c),
      ))
      (more_runs old new run n made o);
  back = λ n under none. ⊎_elim (λ lt_next. was_run old new run n made (g.back n lt_next (λ c. none (earlier n c))))
      (λ ge. now_run old new run n made (back n ge
      (⊎_elim (λ l. l) (λ m. absurd (none (subst (Contains (take (i + 1) numbers))
      (let same : number ≡ n = omega (arith, under, m, step) in same) last))) (cases_lt n number))))
      (cases_lt n next);
  taken = λ n c. ⊎_elim (λ e. (let le = ahead n e in omega (arith, le, step))) (λ same. omega (arith, same, step)) (split n c);
  top = inr (number, last, step);
}
  where
    longer : take (i + 1) numbers ≡ take i numbers ++ number ∷ []
    longer = take_more numbers i d lt ∙ ap (λ n. take i numbers ++ n ∷ []) (sym is)

    earlier : (n : ℕ) → Contains (take i numbers) n → Contains (take (i + 1) numbers) n
    earlier n c = subst (λ l. Contains l n) (sym longer) (Contains-append_left (take i numbers) (number ∷ []) n c)

    last : Contains (take (i + 1) numbers) number
    last = subst (λ l. Contains l number) (sym longer) (Contains-push (take i numbers) number)

    split : (n : ℕ) → Contains (take (i + 1) numbers) n → Contains (take i numbers) n ⊎ (number ≡ n)
    split n c = Contains-push_cases (take i numbers) number n (subst (λ l. Contains l n) longer c)

    ahead : (n : ℕ) → Contains (take i numbers) n → n ≤ number
    ahead n c = before_in c.0 c.1 c.2
      where
        before_in : (k : ℕ) → k < length (take i numbers) → get_or (take i numbers) k n ≡ n → n ≤ number
        before_in k within e =
            let long = length-take-le i numbers (omega (arith, lt)) in
            let early : k < i = omega (arith, within, long) in
            let at : get_or numbers k n ≡ n = sym (get_or-take i numbers k n early) ∙ e in
            let up : get_or numbers k n ≤ get_or numbers i n = rising k i n (omega (arith, early)) lt in
            let same : number ≡ get_or numbers i n = is ∙ get_or_default numbers i d n lt in
            omega (arith, at, up, same)

    reach : next ≤ number + 1
    reach = ⊎_elim (λ none. omega (arith, none)) (λ t. (let le = ahead t.0 t.1 in let at = t.2 in omega (arith, le, at))) g.top

    not_number : (n : ℕ) → n < next → (Contains (take i numbers) n → ⊥) → number ≡ n → ⊥
    not_number n under none same = ⊎_elim (λ zero_next. absurd (omega (arith, under, zero_next)))
        (λ t. (let le = ahead t.0 t.1 in let at = t.2 in none
        (subst (Contains (take i numbers)) (let e : t.0 ≡ n = omega (arith, le, at, under, same) in e) t.1))) g.top

pub gaps_end : (numbers : List ℕ) (i size next : ℕ) (run : Run) (old new : List Run) → length numbers ≤ i → ((n : ℕ) → Contains numbers n → n < size)
    → ((n : ℕ) → InRun run n → (next ≤ n) × (n < size)) → ((n : ℕ) → next ≤ n → n < size → InRun run n) → new ≡ old ++ run ∷ []
    → GapsGo numbers i next old → AreRuns size (λ n. Contains numbers n → ⊥) new
gaps_end numbers i size next run old new past below low back made g = record {
  each = λ n o. ⊎_elim (λ was. let k = g.each n was in let under = k.0 in (omega (arith, under, reach), λ c. k.1 (subst (λ l. Contains l n) (sym all) c)))
      (λ k. let lo = (low n k).0 in ((low n k).1, λ c. (let under = g.taken n (subst (λ l. Contains l n) (sym all) c) in absurd (omega (arith, under, lo)))))
      (more_runs old new run n made o);
  back = λ n under none. ⊎_elim (λ lt_next. was_run old new run n made (g.back n lt_next (λ c. none (subst (λ l. Contains l n) all c))))
      (λ ge. now_run old new run n made (back n ge under)) (cases_lt n next);
}
  where
    all : take i numbers ≡ numbers
    all = take_all i numbers past

    reach : next ≤ size
    reach = ⊎_elim (λ none. omega (arith, none))
        (λ t. (let lt = below t.0 (subst (λ l. Contains l t.0) all t.1) in let at = t.2 in omega (arith, lt, at))) g.top

-- each number is within, so that the next one is a number of 32 bits
pub number_fits : (numbers : List ℕ) (i d size : ℕ) → i < length numbers → ((n : ℕ) → Contains numbers n → n < size)
    → size < 2 ^ 32 → get_or numbers i d + 1 < 2 ^ 32
number_fits numbers i d size lt below small = (let under = below (get_or numbers i d) (Contains-get_or numbers i d lt) in omega (arith, under, small))

-- numbers of records that stand in a chain

in_numbers : (file size n : ℕ) (held : List Held) → Contains (numbers_of file size held) n → (n < size) × (holds held file n ≡ true)
in_numbers file size n [] c = absurd (none_in n c)
in_numbers file size n (h ∷ rest) c = by (is_of file size h) (λ d. in_numbers file size n rest d) refl c
  where
    more : (n < size) × (holds rest file n ≡ true) → (n < size) × (holds (h ∷ rest) file n ≡ true)
    more r = (r.0, or_right (is_record file n h) (holds rest file n) r.1)

    first : is_of file size h ≡ true → h.number ≡ n → (n < size) × (holds (h ∷ rest) file n ≡ true)
    first is same =
        let parts = and_parts (nat_eq h.file file) (nat_lt h.number size) is in (
          subst (λ m. m < size) same (ltb-true h.number size parts.1),
          or_left (is_record file n h) (holds rest file n)
              (and_from (nat_eq h.file file) (nat_eq h.number n) parts.0 (eq-eqb h.number n same)),
        )

    by : (b : Bool) → (Contains (numbers_of file size rest) n → (n < size) × (holds rest file n ≡ true))
        → is_of file size h ≡ b → Contains (map (λ (g : Held). g.number)
        (cond b (h ∷ filter (is_of file size) rest) (filter (is_of file size) rest))) n
        → (n < size) × (holds (h ∷ rest) file n ≡ true)
    by true go is c = ⊎_elim (λ same. first is same) (λ l. more (go l)) (first_or_later h.number n (numbers_of file size rest) c)
    by false go is c = more (go c)

to_numbers : (file size n : ℕ) (held : List Held) → n < size → holds held file n ≡ true → Contains (numbers_of file size held) n
to_numbers file size n [] lt h = absurd (let no_such : false ≡ true = h in cc)
to_numbers file size n (h ∷ rest) lt has = by (is_of file size h) (λ other. to_numbers file size n rest lt other) refl
    (or_cases (is_record file n h) (holds rest file n) has)
  where
    is_one : is_record file n h ≡ true → (is_of file size h ≡ true) × (h.number ≡ n)
    is_one is =
        let parts = and_parts (nat_eq h.file file) (nat_eq h.number n) is in
        let same : h.number ≡ n = eqb-true h.number n parts.1 in
        (and_from (nat_eq h.file file) (nat_lt h.number size) parts.0 (lt-ltb h.number size (subst (λ m. m < size) (sym same) lt)), same)

    by : (b : Bool) → (holds rest file n ≡ true → Contains (numbers_of file size rest) n) → is_of file size h ≡ b
        → (is_record file n h ≡ true) ⊎ (holds rest file n ≡ true)
        → Contains (map (λ (g : Held). g.number)
        (cond b (h ∷ filter (is_of file size) rest) (filter (is_of file size) rest))) n
    by true go is (inl one) = subst (Contains (h.number ∷ numbers_of file size rest)) (is_one one).1 (first_is h.number (numbers_of file size rest))
    by true go is (inr other) = later_is h.number n (numbers_of file size rest) (go other)
    by false go is (inl one) = (let yes_is = (is_one one).0 in cc)
    by false go is (inr other) = go other

-- free records

abbrev holds_some : (m : ChainMap) (h : Held) → Type 0
holds_some m h = (k : ℕ) × (holds (chain_at m k) h.file h.number ≡ true)

each_held : (m : ChainMap) (k : ℕ) (chain : List Held)
    → ((h : Held) → Contains chain h → holds (chain_at m k) h.file h.number ≡ true)
    → AllByRecursion (holds_some m) chain
each_held m k [] all = tt
each_held m k (h ∷ rest) all = ((k, all h (first_is h rest)), each_held m k rest (λ g c. all g (later_is h g rest c)))

holds_itself : (chain : List Held) (h : Held) → Contains chain h → holds chain h.file h.number ≡ true
holds_itself [] h c = absurd (none_in h c)
holds_itself (g ∷ rest) h c = ⊎_elim
    (λ same. subst (λ (k : Held). holds (k ∷ rest) h.file h.number ≡ true) (sym same)
    (or_left (is_record h.file h.number h) (holds rest h.file h.number)
    (and_from (nat_eq h.file h.file) (nat_eq h.number h.number) (eq-eqb h.file h.file refl)
    (eq-eqb h.number h.number refl))))
    (λ l. or_right (is_record h.file h.number g) (holds rest h.file h.number) (holds_itself rest h l))
    (first_or_later g h rest c)

some_chain : (m : ChainMap) (held : List Held) (file n : ℕ) → AllByRecursion (holds_some m) held
    → holds held file n ≡ true → (k : ℕ) × (holds (chain_at m k) file n ≡ true)
some_chain m [] file n all h = absurd (let no_such : false ≡ true = h in cc)
some_chain m (g ∷ rest) file n all h = ⊎_elim (λ one. of_one (and_parts (nat_eq g.file file) (nat_eq g.number n) one))
    (λ other. some_chain m rest file n all.1 other) (or_cases (is_record file n g) (holds rest file n) h)
  where
    of_one : (nat_eq g.file file ≡ true) × (nat_eq g.number n ≡ true) → (k : ℕ) × (holds (chain_at m k) file n ≡ true)
    of_one parts =
        let f : g.file ≡ file = eqb-true g.file file parts.0 in
        let r : g.number ≡ n = eqb-true g.number n parts.1 in
        (all.0.0, subst (λ i. holds (chain_at m all.0.0) file i ≡ true) r (subst (λ i. holds (chain_at m all.0.0) i g.number ≡ true) f all.0.1))

held_by_one : (m : ChainMap) (file n : ℕ) → holds (all_records m) file n ≡ true → (k : ℕ) × (holds (chain_at m k) file n ≡ true)
held_by_one m file n h = some_chain m (all_records m) file n
    (all_records_fit (holds_some m) m (λ k. each_held m k (chain_at m k) (λ g c. holds_itself (chain_at m k) g c))) h

-- the free records of a file are those whose numbers are not among the held ones
pub free_are : (m : ChainMap) (held : List Held) (file size : ℕ) (numbers list : List ℕ) (runs : List Run)
    → held ≡ all_records m → ((n : ℕ) → Contains numbers n ↔ Contains (numbers_of file size held) n) → list ≡ numbers
    → AreRuns size (λ n. Contains list n → ⊥) runs → AreRuns size (IsFree m file) runs
free_are m held file size numbers list runs all same read are = record {
  each = λ n o. (let k = are.each n o in (
    k.0,
    λ i. false_from_ne_true (holds (chain_at m i) file n)
        (λ h. k.1 (among n (to_numbers file size n held k.0 (in_all n i h)))),
  ));
  back = λ n lt free. are.back n lt (λ c. of_held n free (in_numbers file size n held (from_list n c)).1);
}
  where
    in_all : (n i : ℕ) → holds (chain_at m i) file n ≡ true → holds held file n ≡ true
    in_all n i h = subst (λ l. holds l file n ≡ true) (sym all) (held_among_all m i file n h)

    among : (n : ℕ) → Contains (numbers_of file size held) n → Contains list n
    among n c = subst (λ l. Contains l n) (sym read) ((same n).1 c)

    from_list : (n : ℕ) → Contains list n → Contains (numbers_of file size held) n
    from_list n c = (same n).0 (subst (λ l. Contains l n) read c)

    of_held : (n : ℕ) → IsFree m file n → holds held file n ≡ true → ⊥
    of_held n free h = (let one = held_by_one m file n (subst (λ l. holds l file n ≡ true) all h) in both_ways
        (holds (chain_at m one.0) file n) (free one.0) one.1)

-- the numbers are below the size
pub numbers_below : (held : List Held) (file size : ℕ) (numbers list : List ℕ)
    → ((n : ℕ) → Contains numbers n ↔ Contains (numbers_of file size held) n) → list ≡ numbers → (n : ℕ)
    → Contains list n → n < size
numbers_below held file size numbers list same read n c = (in_numbers file size n held ((same n).0 (subst (λ l. Contains l n) read c))).0

-- records that a job may hold

ones_in : (numbers : List ℕ) (run : Run) (n : ℕ) → Contains (map one_run numbers) run → InRun run n → Contains numbers n
ones_in [] run n c h = absurd (none_in run c)
ones_in (m ∷ ms) run n c h = ⊎_elim
    (λ same. (let k : InRun (one_run m) n = subst (λ r. InRun r n) (sym same) h in let low = k.0 in let high = k.1 in
    let e : m ≡ n = omega (arith, low, high) in subst (Contains (m ∷ ms)) e (first_is m ms)))
    (λ l. later_is m n ms (ones_in ms run n l h)) (first_or_later (one_run m) run (map one_run ms) c)

to_ones : (numbers : List ℕ) (n : ℕ) → Contains numbers n → Contains (map one_run numbers) (one_run n)
to_ones [] n c = absurd (none_in n c)
to_ones (m ∷ ms) n c = ⊎_elim (λ same. subst (λ k. Contains (one_run m ∷ map one_run ms) (one_run k)) same
    (first_is (one_run m) (map one_run ms))) (λ l. later_is (one_run m) (one_run n) (map one_run ms) (to_ones ms n l))
    (first_or_later m n ms c)

pub seized_none : (accesses : List Access) (m : ChainMap) (file size : ℕ) (runs : List Run) (r : Bool) → r ≡ false
    → IsTrue r ↔ Contains accesses (Seizes file) → runs ≡ []
    → AreRuns size (λ n. Contains accesses (Seizes file) × IsFree m file n) runs
seized_none accesses m file size runs r fails is none = record {
  each = λ n o. absurd (none_in o.item (subst (λ l. Contains l o.item) none o.there));
  back = λ n lt s. absurd (both_ways r fails (is.1 s.0));
}

pub seized_free : (accesses : List Access) (m : ChainMap) (file size : ℕ) (runs : List Run) (r : Bool) → r ≡ true
    → IsTrue r ↔ Contains accesses (Seizes file) → AreRuns size (IsFree m file) runs
    → AreRuns size (λ n. Contains accesses (Seizes file) × IsFree m file n) runs
seized_free accesses m file size runs r holds_it is are = record {
  each = λ n o. (let k = are.each n o in (k.0, (is.0 holds_it, k.1)));
  back = λ n lt s. are.back n lt s.1;
}

pub own_are : (accesses : List Access) (chain : List Held) (m : ChainMap) (file size : ℕ) (numbers list : List ℕ)
    (free runs : List Run) → AreRuns size (λ n. Contains accesses (Seizes file) × IsFree m file n) free
    → ((n : ℕ) → Contains numbers n ↔ Contains (numbers_of file size chain) n) → list ≡ numbers
    → runs ≡ free ++ map one_run list → AreRuns size (MayHold accesses chain m file) runs
own_are accesses chain m file size numbers list free runs are same read made = record {
  each = λ n o. ⊎_elim (λ f. (let k = are.each n (record { item = o.item; there = f; gives = o.gives }) in (k.0, inr k.1)))
      (λ c. (let k = in_numbers file size n chain ((same n).0 (subst (λ l. Contains l n) read (ones_in list o.item n c o.gives))) in (k.0, inl k.1)))
      (Contains-append_cases free (map one_run list) o.item (subst (λ l. Contains l o.item) made o.there));
  back = λ n lt h. ⊎_elim
      (λ held. record {
        item = one_run n;
        there = subst (λ l. Contains l (one_run n)) (sym made)
            (Contains-append_right free (map one_run list) (one_run n)
            (to_ones list n (subst (λ l. Contains l n) (sym read) ((same n).1 (to_numbers file size n chain lt held)))));
        gives = (omega arith, omega arith);
      })
      (λ s. (let o = are.back n lt s in record {
        item = o.item;
        there = subst (λ l. Contains l o.item) (sym made)
            (Contains-append_left free (map one_run list) o.item o.there);
        gives = o.gives;
      }))
      h;
}

-- sorted numbers

pub sorted_same : (ns ms list : List ℕ) → IsPermutation ns ms → list ≡ ms → (n : ℕ) → Contains list n ↔ Contains ns n
sorted_same ns ms list moved read n = (
  λ c. Contains-permutation ms ns n (IsPermutation-sym ns ms moved) (subst (λ l. Contains l n) read c),
  λ c. subst
      (λ l. Contains l n) (sym read) (Contains-permutation ns ms n moved c),
)

pub sorted_rises : (ms list : List ℕ) → IsSorted nat_cmp ms → list ≡ ms → IsNonDecreasingBy (λ (n : ℕ). n) list
sorted_rises ms list sorted read = subst (IsNonDecreasingBy (λ (n : ℕ). n)) (sym read) (IsNonDecreasingBy-from_sort (λ (n : ℕ). n) ms sorted)

pub read_rises : (numbers list : List ℕ) → IsNonDecreasingBy (λ (n : ℕ). n) numbers → list ≡ numbers → IsNonDecreasingBy (λ (n : ℕ). n) list
read_rises numbers list rising read = subst (IsNonDecreasingBy (λ (n : ℕ). n)) (sym read) rising

pub none_below : (size : ℕ) (runs : List Run) → runs ≡ [] → AreBelow size runs
none_below size runs none = record { below = λ n o. absurd (none_in o.item (subst (λ l. Contains l o.item) none o.there)) }

pub own_below : (chain : List Held) (file size : ℕ) (numbers list : List ℕ) (free runs : List Run) → AreBelow size free
    → ((n : ℕ) → Contains numbers n ↔ Contains (numbers_of file size chain) n) → list ≡ numbers → runs ≡ free ++ map one_run list → AreBelow size runs
own_below chain file size numbers list free runs below same read made = record {
  below = λ n o. ⊎_elim (λ f. below.below n (record { item = o.item; there = f; gives = o.gives }))
      (λ c. (in_numbers file size n chain ((same n).0 (subst (λ l. Contains l n) read (ones_in list o.item n c o.gives)))).0)
      (Contains-append_cases free (map one_run list) o.item (subst (λ l. Contains l o.item) made o.there));
}
