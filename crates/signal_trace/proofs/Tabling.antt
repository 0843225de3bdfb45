-- What a table of lines tells is what its lines show.
use Rattle.std.proofs.Common.{◌≡◌, ⊎_elim, ℕ, ◌+◌, ◌-◌, ◌^◌, ◌<◌, ◌≤◌, ◌≢◌, Bool, true, false, not}
use Rattle.std.proofs.Common.{◌&&◌, ◌||◌, List, [], ◌∷◌, ◌++◌, length, map, take, get_or, Option}
use Rattle.std.proofs.Common.{Some, None, refl, sym, ap, ◌∙◌, subst, arith, rules}
use Rattle.std.specs.declared.cmp.Ordering.{Ordering}
use Rattle.std.specs.declared.cmp.Ordering.TheVariants.{Less, Equal, Greater}
use Rattle.std.specs.Cmp.{IsTotalOrder}
use Rattle.std.specs.Ordering.{is_eq, is_gt, is_le, is_lt, nat_cmp, ordering_reverse, ordering_then}
use Rattle.std.specs.Prelude.{if◌then◌else◌, max, nat_eq, nat_le, slice_get, unwrap_or}
use Rattle.std.specs.List.{list_any}
use Rattle.std.specs.List.Sorted.{IsPartitionedBy}
use Rattle.std.proofs.lemmas.Bool.{cases_lt, eqb-true, and_from, and_parts, le-leb, leb-true}
use Rattle.std.proofs.lemmas.Bool.{both_ways}
use Rattle.std.proofs.lemmas.Bool.Decides.{nat_tests}
use Rattle.std.proofs.lemmas.Cmp.{tied_itself, upto}
use Rattle.std.proofs.lemmas.Grind.{common_steps}
use Rattle.std.proofs.lemmas.List.{get_or-take, get_or_push, length-append, length-take-le}
use Rattle.std.proofs.lemmas.List.Folds.{Any-from_list_any, list_any-append, list_any_at}
use Rattle.std.proofs.lemmas.List.Folds.{list_any_more}
use Rattle.std.proofs.lemmas.List.Sorted.{list_any-IsPermutation, ranks_by, sorted_far}
use Rattle.std.proofs.lemmas.Option.{get_or_from_slice_get}
use Rattle.std.proofs.lemmas.Map.Keys.{le_from_is_le}
use Rattle.exchange_model.specs.declared.entry.Entry.{Entry}
use Rattle.job_types.specs.declared.outcome.Outcome.{Outcome}
use Rattle.signal_trace.specs.declared.show.Show.{Show}
use Rattle.signal_trace.specs.declared.table.Key.{Key}
use Rattle.signal_trace.specs.declared.table.Row.{Row}
use Rattle.signal_trace.specs.declared.table.Start.{Start}
use Rattle.signal_trace.specs.contracts.table.KeyEq.TheImpl.Laws as equal_laws
use Rattle.signal_trace.specs.contracts.table.KeyOrd.TheImpl as keys
use Rattle.signal_trace.specs.contracts.table.KeyOrd.TheImpl.Laws as key_laws
use Rattle.signal_trace.specs.contracts.table.StartOrd.TheImpl.Laws as start_laws
use Rattle.signal_trace.specs.Table.{AreCounted, AreLasts, AreRising, IsLast, IsTraceTable, has_key}
use Rattle.signal_trace.specs.Table.{key_of, key_with, keys_at, keys_for, keys_in, reach, reaches}
use Rattle.signal_trace.specs.Table.{row_of, same_key, some_has, start_order}
use Rattle.signal_trace.specs.Trace.{agrees, is_fault, is_from, is_upto, shows}

-- truths

one_truth : (a b : Bool) → (a ≡ true → b ≡ true) → (b ≡ true → a ≡ true) → a ≡ b
one_truth true b f g = sym (f refl)
one_truth false true f g = g refl
one_truth false false f g = refl

or_false : (a : Bool) → (a || false) ≡ a
or_false true = refl
or_false false = refl

-- the order of keys, and of starts

abbrev key_order : Key → Key → Ordering
key_order = keys.ghosts.cmp

keys_total : IsTotalOrder key_order
keys_total = key_laws.total-law

starts_total : IsTotalOrder start_order
starts_total = start_laws.total-law

same_is : (a b : Key) → same_key a b ≡ true → a ≡ b
same_is a b is = search (rules, is)

same_self : (a : Key) → same_key a a ≡ true
same_self a = equal_laws.laws-law.refl a

not_above : (o : Ordering) → is_le o ≡ true → is_gt o ≡ false
not_above Less e = refl
not_above Equal e = refl
not_above Greater e = cc

at_most_by : (o : Ordering) → is_gt o ≡ false → is_le o ≡ true
at_most_by Less e = refl
at_most_by Equal e = refl
at_most_by Greater e = cc

turned : (o : Ordering) → is_lt o ≡ false → is_le (ordering_reverse o) ≡ true
turned Less e = cc
turned Equal e = refl
turned Greater e = refl

tied_by : (o : Ordering) → is_le (ordering_reverse o) ≡ true → is_le o ≡ true → o ≡ Equal
tied_by Less e f = cc
tied_by Equal e f = refl
tied_by Greater e f = cc

first_by : (o p : Ordering) → is_le (ordering_then o p) ≡ true → is_le o ≡ true
first_by Less p e = refl
first_by Equal p e = refl
first_by Greater p e = cc

second_by : (o p : Ordering) → o ≡ Equal → ordering_then o p ≡ p
second_by o p tied = ap (λ q. ordering_then q p) tied

between : (a b : Key) → is_le (key_order a b) ≡ true → is_le (key_order b a) ≡ true → a ≡ b
between a b low high =
    let tied : key_order b a ≡ Equal = tied_by (key_order b a) (ap is_le (sym (keys_total.antisymm a b)) ∙ low) high in
    sym (same_is b a (key_laws.matches_eq-law b a ∙ ap is_eq tied))

starts_upto : (x y z : Start) → is_le (start_order x y) ≡ true → is_le (start_order y z) ≡ true → is_le (start_order x z) ≡ true
starts_upto x y z low high = at_most_by (start_order x z) (upto starts_total x y z (not_above (start_order x y) low) (not_above (start_order y z) high))

keys_by : (x y : Start) → is_le (start_order x y) ≡ true → is_le (key_order x.key y.key) ≡ true
keys_by x y le = first_by (key_order x.key y.key) (nat_cmp x.from y.from) le

-- what stands between two starts of one key is of that key
squeezed : (x y z : Start) → is_le (start_order x y) ≡ true → is_le (start_order y z) ≡ true → x.key ≡ z.key → y.key ≡ x.key
squeezed x y z low high same = between y.key x.key (subst (λ k. is_le (key_order y.key k) ≡ true) (sym same) (keys_by y z high)) (keys_by x y low)

by_number : (x y : Start) → x.key ≡ y.key → start_order x y ≡ nat_cmp x.from y.from
by_number x y same = second_by (key_order x.key y.key) (nat_cmp x.from y.from) (ap (key_order x.key) (sym same) ∙ tied_itself keys_total x.key)

at_most_number : (m n : ℕ) → m ≤ n → is_le (nat_cmp m n) ≡ true
at_most_number m n le = grind (arith, nat_tests)

begun : (x y : Start) → x.key ≡ y.key → is_le (start_order x y) ≡ true → x.from ≤ y.from
begun x y same le = le_from_is_le x.from y.from (ap is_le (sym (by_number x y same)) ∙ le)

begins : (x y : Start) → x.key ≡ y.key → x.from ≤ y.from → is_le (start_order x y) ≡ true
begins x y same le = ap is_le (by_number x y same) ∙ at_most_number x.from y.from le

-- rows in order

rises : (rows : List Row) → AreRising rows → (i j : ℕ) (d : Row) → i ≤ j → j < length rows
    → is_le (start_order (get_or rows i d).start (get_or rows j d).start) ≡ true
rises rows up i j d le lt =
    let x = (get_or rows i d).start in
    let y = (get_or rows j d).start in
    ap is_le (starts_total.antisymm x y)
    ∙ turned (start_order y x) (sorted_far (λ (r s : Row). is_lt (start_order r.start s.start))
    (ranks_by starts_total (λ (r : Row). r.start)) rows up i j d le lt)

pub parted : (start : Start) (rows : List Row) → AreRising rows → IsPartitionedBy (λ (r : Row). is_le (start_order r.start start)) rows
parted start rows up i j d le lt passes = starts_upto (get_or rows i d).start (get_or rows j d).start start (rises rows up i j d le lt) passes

-- how far the rows of a key reach

-- where no row before a place has a key, none of those reaches
none_reach : (rows : List Row) (key : Key) (number place : ℕ) → place ≤ length rows
    → ((k : ℕ) (x : Row) → k < place → get_or rows k x ≡ x → x.start.key ≡ key → ⊥)
    → reach key number (take place rows) ≡ false
none_reach rows key number place le none = one_truth (reach key number (take place rows)) false found (λ e. cc)
  where
    found : reach key number (take place rows) ≡ true → false ≡ true
    found e =
        let (k, x, lt, at, is) = Any-from_list_any (λ (r : Row). same_key r.start.key key && nat_le number r.upto) (take place rows) e in
        let before : k < place = (let long = length-take-le place rows le in omega (arith, lt, long)) in
        absurd (none k x before (sym (get_or-take place rows k x before) ∙ at)
        (same_is x.start.key key (and_parts (same_key x.start.key key) (nat_le number x.upto) is).0))

-- one row more
one_reaches : (rows : List Row) (place : ℕ) (row : Row) → place < length rows → slice_get rows place ≡ Some row
    → (d : Row) (number : ℕ) → reach (get_or rows place d).start.key number (take (place + 1) rows)
    ≡ (reach row.start.key number (take place rows) || nat_le number row.upto)
one_reaches rows place row within there d number =
    let test : Key → Row → Bool = λ key r. same_key r.start.key key && nat_le number r.upto in
    let at = get_or_from_slice_get rows place row d there in
    ap (λ (r : Row). reach r.start.key number (take (place + 1) rows)) at
    ∙ list_any_more (test row.start.key) rows place d within
    ∙ ap (λ (r : Row). reach row.start.key number (take place rows) || test row.start.key r) at
    ∙ ap (λ b. reach row.start.key number (take place rows) || (b && nat_le number row.upto)) (same_self row.start.key)

pub last_first : (rows : List Row) (place : ℕ) (row : Row) → place < length rows → slice_get rows place ≡ Some row → place ≡ 0 → IsLast rows place row.upto
last_first rows place row within there first = record {
  reached = λ d number. one_reaches rows place row within there d number ∙ ap (λ n. reach row.start.key number (take n rows) || nat_le number row.upto) first;
}

up_to_max : (number a b : ℕ) → (nat_le number a || nat_le number b) ≡ nat_le number (max a b)
up_to_max number a b = grind (arith, nat_tests)

module _ (rows : List Row) (lasts : List ℕ) (place last result : ℕ) (before row : Row) (up : AreRising rows)
    (within : place < length rows) (some : place ≢ 0) (so_far : AreLasts place rows lasts)
    (one : slice_get rows (place - 1) ≡ Some before) (other : slice_get rows place ≡ Some row)
    (is : last ≡ get_or lasts (place - 1) 0) where
  last_by : (b : Bool) → same_key before.start.key row.start.key ≡ b → result ≡ (if b then max last row.upto else row.upto) → IsLast rows place result
  last_by true same end = record {
    reached = λ d number.
        let prior = get_or_from_slice_get rows (place - 1) before d one in
        let there : place - 1 + 1 ≡ place = omega (arith, some) in
        let key : (get_or rows (place - 1) d).start.key ≡ row.start.key = ap (λ (r : Row). r.start.key) prior ∙ same_is before.start.key row.start.key same in
        let so : reach row.start.key number (take place rows) ≡ nat_le number last =
        (λ i. reach (sym key i) number (take (sym there i) rows))
        ∙ (so_far.each (place - 1) (omega (arith, some))).reached d number ∙ ap (nat_le number) (sym is) in
        one_reaches rows place row within other d number
        ∙ ap (λ b. b || nat_le number row.upto) so
        ∙ up_to_max number last row.upto
        ∙ ap (nat_le number) (sym end);
  }
  last_by false differs end = record {
    reached = λ d number.
        one_reaches rows place row within other d number
        ∙ ap (λ b. b || nat_le number row.upto) (none_reach rows row.start.key number place (omega (arith, within)) (λ k x lt at key.
        let y = get_or rows (place - 1) x in
        let z = get_or rows place x in
        let y_is : y ≡ before = get_or_from_slice_get rows (place - 1) before x one in
        let z_key : z.start.key ≡ row.start.key = ap (λ (r : Row). r.start.key) (get_or_from_slice_get rows place row x other) in
        let x_key : (get_or rows k x).start.key ≡ row.start.key = ap (λ (r : Row). r.start.key) at ∙ key in
        let y_key = squeezed (get_or rows k x).start y.start z.start
        (rises rows up k (place - 1) x (omega (arith, lt)) (omega (arith, within)))
        (rises rows up (place - 1) place x (omega arith) within) (x_key ∙ sym z_key) in
        let keys : before.start.key ≡ row.start.key = ap (λ (r : Row). r.start.key) (sym y_is) ∙ y_key ∙ x_key in
        both_ways (same_key before.start.key row.start.key) differs (ap (same_key before.start.key) (sym keys) ∙ same_self before.start.key)))
        ∙ ap (nat_le number) (sym end);
  }

  pub last_more : result ≡ (if same_key before.start.key row.start.key then max last row.upto else row.upto) → IsLast rows place result
  last_more end = last_by (same_key before.start.key row.start.key) refl end

pub lasts_begin : (rows : List Row) (lasts : List ℕ) → lasts ≡ [] → AreLasts 0 rows lasts
lasts_begin rows lasts none = record { many = ap length none; each = λ k lt. absurd (omega (arith, lt)) }

pub lasts_more : (rows : List Row) (lasts new : List ℕ) (place last : ℕ) → AreLasts place rows lasts
    → IsLast rows place last → new ≡ lasts ++ last ∷ [] → AreLasts (place + 1) rows new
lasts_more rows lasts new place last so_far here is =
    let many = so_far.many in
    let long = ap length is ∙ length-append lasts (last ∷ []) in
    record {
      many = omega (arith, long, many);
      each = λ k lt.
          ⊎_elim
          (λ earlier. (let same : get_or new k 0 ≡ get_or lasts k 0 = ap (λ ns. get_or ns k 0) is ∙ grind (arith, common_steps, many, earlier) in
          subst (IsLast rows k) (sym same) (so_far.each k earlier)))
          (λ ge. (let e : k ≡ place = omega (arith, lt, ge) in
          let same : get_or new place 0 ≡ last = ap (λ ns. get_or ns place 0) is ∙ get_or_push lasts last 0 place many in
          subst (λ j. IsLast rows j (get_or new j 0)) (sym e) (subst (IsLast rows place) (sym same) here)))
          (cases_lt k place);
    }

-- one row tells of all of its key

module _ (rows : List Row) (key : Key) (number count : ℕ) (up : AreRising rows) (counted : AreCounted (record { key = key; from = number }) rows count) where
  abbrev start : Start
  start = record { key = key; from = number }

  -- the rows whose spans have begun tell of all
  begun_reach : reach key number (take count rows) ≡ list_any (reaches key number) rows
  begun_reach = one_truth (reach key number (take count rows)) (list_any (reaches key number) rows) there here
    where
      long : length (take count rows) ≡ count
      long = length-take-le count rows counted.there

      there : reach key number (take count rows) ≡ true → list_any (reaches key number) rows ≡ true
      there e =
          let (k, x, lt, at, is) = Any-from_list_any (λ (r : Row). same_key r.start.key key && nat_le number r.upto) (take count rows) e in
          let before : k < count = omega (arith, lt, long) in
          let at_rows : get_or rows k x ≡ x = sym (get_or-take count rows k x before) ∙ at in
          let parts = and_parts (same_key x.start.key key) (nat_le number x.upto) is in
          let low : x.start.from ≤ number = begun x.start start (same_is x.start.key key parts.0)
          (ap (λ (r : Row). is_le (start_order r.start start)) (sym at_rows)
          ∙ counted.parts.0 k x (omega arith) before) in
          let passes : reaches key number x ≡ true = and_from (nat_le x.start.from number && nat_le number x.upto)
          (same_key x.start.key key) (and_from (nat_le x.start.from number) (nat_le number x.upto)
          (le-leb x.start.from number low) parts.1) parts.0 in
          list_any_at (reaches key number) rows k x (let most = counted.there in omega (arith, before, most)) (ap (reaches key number) at_rows ∙ passes)

      here : list_any (reaches key number) rows ≡ true → reach key number (take count rows) ≡ true
      here e =
          let (k, x, lt, at, is) = Any-from_list_any (reaches key number) rows e in
          let parts = and_parts (nat_le x.start.from number && nat_le number x.upto) (same_key x.start.key key) is in
          let span = and_parts (nat_le x.start.from number) (nat_le number x.upto) parts.0 in
          let before : k < count = ⊎_elim (λ lt. lt)
          (λ past. absurd (both_ways (is_le (start_order x.start start))
          (ap (λ (r : Row). is_le (start_order r.start start)) (sym at) ∙ counted.parts.1 k x past lt)
          (begins x.start start (same_is x.start.key key parts.1) (leb-true x.start.from number span.0))))
          (cases_lt k count) in
          list_any_at (λ (r : Row). same_key r.start.key key && nat_le number r.upto) (take count rows) k x (omega (arith, before, long))
          (ap (λ (r : Row). same_key r.start.key key && nat_le number r.upto) (get_or-take count rows k x before ∙ at)
          ∙ and_from (same_key x.start.key key) (nat_le number x.upto) parts.1 span.1)

  pub none_reaches : count ≡ 0 → false ≡ list_any (reaches key number) rows
  none_reaches none = ap (λ n. reach key number (take n rows)) (sym none) ∙ begun_reach

  module _ (lasts : List ℕ) (row : Row) (last : ℕ) (some : count ≢ 0) (so_far : AreLasts (length rows) rows lasts)
      (there : slice_get rows (count - 1) ≡ Some row) (last_is : last ≡ get_or lasts (count - 1) 0) where
    in_rows : count - 1 < length rows
    in_rows = let most = counted.there in omega (arith, most, some)

    tells_by : (b : Bool) → same_key row.start.key key ≡ b → (b && nat_le number last) ≡ reach key number (take count rows)
    tells_by true same =
        let at = get_or_from_slice_get rows (count - 1) row row there in
        let whole : count - 1 + 1 ≡ count = omega (arith, some) in
        ap (nat_le number) last_is
        ∙ sym ((so_far.each (count - 1) in_rows).reached row number)
        ∙ (λ i. reach ((ap (λ (r : Row). r.start.key) at ∙ same_is row.start.key key same) i) number (take (whole i) rows))
    tells_by false differs =
        sym (none_reach rows key number count counted.there (λ k x lt at x_is.
        let y = get_or rows (count - 1) x in
        let x_key : (get_or rows k x).start.key ≡ key = ap (λ (r : Row). r.start.key) at ∙ x_is in
        let y_key = squeezed (get_or rows k x).start y.start start
        (rises rows up k (count - 1) x (omega (arith, lt)) in_rows)
        (counted.parts.0 (count - 1) x (omega arith) (omega (arith, some))) x_key in
        let row_key : row.start.key ≡ key = ap (λ (r : Row). r.start.key) (sym (get_or_from_slice_get rows (count - 1) row x there)) ∙ y_key ∙ x_key in
        both_ways (same_key row.start.key key) differs (ap (same_key row.start.key) (sym row_key) ∙ same_self row.start.key)))

    pub one_tells : (same_key row.start.key key && nat_le number last) ≡ list_any (reaches key number) rows
    one_tells = tells_by (same_key row.start.key key) refl ∙ begun_reach

-- the rows tell of the lines

span_from : (o : Option ℕ) (number : ℕ) → nat_le (unwrap_or o 0) number ≡ is_from o number
span_from None number = le-leb 0 number (omega arith)
span_from (Some first) number = refl

span_upto : (o : Option ℕ) (number most : ℕ) → number ≤ most → nat_le number (unwrap_or o most) ≡ is_upto o number
span_upto None number most le = le-leb number most le
span_upto (Some last) number most le = refl

any_mapped : (p : Row → Bool) (f : Show → Row) (ls : List Show) → list_any p (map f ls) ≡ list_any (λ l. p (f l)) ls
any_mapped p f [] = refl
any_mapped p f (l ∷ ls) = ap (λ b. p (f l) || b) (any_mapped p f ls)

below_most : (number most : ℕ) → number < most → number ≤ most - 1
below_most number most lt = omega (arith, lt)

pub key_told : (ls : List Show) (rows : List Row) (lasts : List ℕ) (key : Key) (number : ℕ) → IsTraceTable ls rows lasts
    → number < 2 ^ 64 → list_any (reaches key number) rows ≡ list_any (has_key key number) ls
key_told ls rows lasts key number t small =
    sym (list_any-IsPermutation (reaches key number) (map row_of ls) rows t.same)
    ∙ any_mapped (reaches key number) row_of ls
    ∙ (λ i. list_any (λ (l : Show). (span_from l.from number i
    && span_upto l.upto number (2 ^ 64 - 1) (below_most number (2 ^ 64) small) i) && same_key (key_of l) key) ls)

-- the key of a line, part by part

-- two names are the same, or there is none of both
abbrev is_named : Option ℕ → Option ℕ → Bool
is_named None None = true
is_named None (Some n) = false
is_named (Some m) None = false
is_named (Some m) (Some n) = nat_eq m n

abbrev is_flag : Bool → Bool → Bool
is_flag b true = b
is_flag b false = not b

named_is : (o p : Option ℕ) → is_named o p ≡ true → o ≡ p
named_is None None e = refl
named_is None (Some n) e = cc
named_is (Some m) None e = cc
named_is (Some m) (Some n) e = ap Some (eqb-true m n e)

named_self : (o : Option ℕ) → is_named o o ≡ true
named_self None = refl
named_self (Some n) = grind (arith, nat_tests)

flag_is : (a b : Bool) → is_flag a b ≡ true → a ≡ b
flag_is true true e = refl
flag_is true false e = cc
flag_is false true e = cc
flag_is false false e = refl

flag_self : (b : Bool) → is_flag b b ≡ true
flag_self true = refl
flag_self false = refl

key_parts : (j k : Key) → same_key j k ≡ (is_named j.block k.block
    && (is_named j.signal k.signal && (is_flag j.faults k.faults && is_named j.forlopp k.forlopp)))
key_parts j k = one_truth (same_key j k) (is_named j.block k.block
    && (is_named j.signal k.signal && (is_flag j.faults k.faults && is_named j.forlopp k.forlopp))) parts whole
  where
    self : (i : Key) → (is_named i.block i.block && (is_named i.signal i.signal && (is_flag i.faults i.faults && is_named i.forlopp i.forlopp))) ≡ true
    self i =
        and_from (is_named i.block i.block) (is_named i.signal i.signal && (is_flag i.faults i.faults && is_named i.forlopp i.forlopp)) (named_self i.block)
        (and_from (is_named i.signal i.signal) (is_flag i.faults i.faults && is_named i.forlopp i.forlopp) (named_self i.signal)
        (and_from (is_flag i.faults i.faults) (is_named i.forlopp i.forlopp) (flag_self i.faults) (named_self i.forlopp)))

    parts : same_key j k ≡ true → (is_named j.block k.block
        && (is_named j.signal k.signal && (is_flag j.faults k.faults && is_named j.forlopp k.forlopp))) ≡ true
    parts e = subst (λ (i : Key). (is_named j.block i.block
        && (is_named j.signal i.signal && (is_flag j.faults i.faults && is_named j.forlopp i.forlopp))) ≡ true)
        (same_is j k e) (self j)

    whole : (is_named j.block k.block && (is_named j.signal k.signal
        && (is_flag j.faults k.faults && is_named j.forlopp k.forlopp))) ≡ true → same_key j k ≡ true
    whole e =
        let one = and_parts (is_named j.block k.block) (is_named j.signal k.signal && (is_flag j.faults k.faults && is_named j.forlopp k.forlopp)) e in
        let two = and_parts (is_named j.signal k.signal) (is_flag j.faults k.faults && is_named j.forlopp k.forlopp) one.1 in
        let three = and_parts (is_flag j.faults k.faults) (is_named j.forlopp k.forlopp) two.1 in
        let same : j ≡ k = (λ i. record {
          block = named_is j.block k.block one.0 i;
          signal = named_is j.signal k.signal two.0 i;
          forlopp = named_is j.forlopp k.forlopp three.1 i;
          faults = flag_is j.faults k.faults three.0 i;
        }) in
        ap (same_key j) (sym same) ∙ same_self j

-- the keys that agree with a job, together

either : (a b r : Bool) → ((a && r) || (b && r)) ≡ ((a || b) && r)
either true true true = refl
either true true false = refl
either true false true = refl
either true false false = refl
either false b r = refl

behind_one : (t a b r : Bool) → ((t && (a && r)) || (t && (b && r))) ≡ (t && ((a || b) && r))
behind_one true a b r = either a b r
behind_one false a b r = refl

behind_two : (t u a b r : Bool) → ((t && (u && (a && r))) || (t && (u && (b && r)))) ≡ (t && (u && ((a || b) && r)))
behind_two true u a b r = behind_one u a b r
behind_two false u a b r = refl

behind_three : (t u v a b r : Bool) → ((t && (u && (v && (a && r)))) || (t && (u && (v && (b && r))))) ≡ (t && (u && (v && ((a || b) && r))))
behind_three true u v a b r = behind_two u v a b r
behind_three false u v a b r = refl

last_pair : (t u v w a b : Bool) → ((t && (u && (v && (w && a)))) || ((t && (u && (v && (w && b)))) || false)) ≡ (t && (u && (v && (w && (a || b)))))
last_pair true true true true a b = ap (λ c. a || c) (or_false b)
last_pair true true true false a b = refl
last_pair true true false w a b = refl
last_pair true false v w a b = refl
last_pair false u v w a b = refl

named_either : (o : Option ℕ) (n : ℕ) → (is_named o None || is_named o (Some n)) ≡ agrees o n
named_either None n = refl
named_either (Some m) n = refl

-- a line has the job in its span, names its flag so, and agrees with it in all else
abbrev meets : Entry → (forlopp number : ℕ) → Bool → Show → Bool
meets e forlopp number flag l = (is_from l.from number && is_upto l.upto number)
    && (agrees l.block e.block && (agrees l.signal e.signal && (flag && agrees l.forlopp forlopp)))

module _ (e : Entry) (forlopp number : ℕ) (faults : Bool) (l : Show) where
  abbrev span : Bool
  span = is_from l.from number && is_upto l.upto number

  abbrev flag : Bool
  flag = is_flag l.faults faults

  has : (block signal other : Option ℕ) → has_key (key_with block signal other faults) number l
      ≡ (span && (is_named l.block block && (is_named l.signal signal && (flag && is_named l.forlopp other))))
  has block signal other = ap (λ b. span && b) (key_parts (key_of l) (key_with block signal other faults))

  has_at : (block signal : Option ℕ) → list_any (λ k. has_key k number l) (keys_at block signal forlopp faults)
      ≡ (span && (is_named l.block block && (is_named l.signal signal && (flag && agrees l.forlopp forlopp))))
  has_at block signal =
      (λ i. has block signal None i || (has block signal (Some forlopp) i || false))
      ∙ last_pair span (is_named l.block block) (is_named l.signal signal) flag (is_named l.forlopp None) (is_named l.forlopp (Some forlopp))
      ∙ ap (λ b. span && (is_named l.block block && (is_named l.signal signal && (flag && b)))) (named_either l.forlopp forlopp)

  has_in : (block : Option ℕ) → list_any (λ k. has_key k number l) (keys_in block e.signal forlopp faults)
      ≡ (span && (is_named l.block block && (agrees l.signal e.signal && (flag && agrees l.forlopp forlopp))))
  has_in block =
      list_any-append (λ k. has_key k number l) (keys_at block None forlopp faults) (keys_at block (Some e.signal) forlopp faults)
      ∙ (λ i. has_at block None i || has_at block (Some e.signal) i)
      ∙ behind_two span (is_named l.block block) (is_named l.signal None) (is_named l.signal (Some e.signal)) (flag && agrees l.forlopp forlopp)
      ∙ ap (λ b. span && (is_named l.block block && (b && (flag && agrees l.forlopp forlopp)))) (named_either l.signal e.signal)

  has_one : list_any (λ k. has_key k number l) (keys_for e forlopp faults) ≡ meets e forlopp number flag l
  has_one =
      list_any-append (λ k. has_key k number l) (keys_in None e.signal forlopp faults) (keys_in (Some e.block) e.signal forlopp faults)
      ∙ (λ i. has_in None i || has_in (Some e.block) i)
      ∙ behind_one span (is_named l.block None) (is_named l.block (Some e.block)) (agrees l.signal e.signal && (flag && agrees l.forlopp forlopp))
      ∙ ap (λ b. span && (b && (agrees l.signal e.signal && (flag && agrees l.forlopp forlopp)))) (named_either l.block e.block)

-- one list after the other

exchange : (a b c d : Bool) → ((a || b) || (c || d)) ≡ ((a || c) || (b || d))
exchange true b c d = refl
exchange false true true d = refl
exchange false true false d = refl
exchange false false c d = refl

any_either : (f g h : Show → Bool) → ((l : Show) → f l ≡ (g l || h l)) → (ls : List Show) → list_any f ls ≡ (list_any g ls || list_any h ls)
any_either f g h each [] = refl
any_either f g h each (l ∷ ls) = (λ i. each l i || any_either f g h each ls i) ∙ exchange (g l) (h l) (list_any g ls) (list_any h ls)

never : (ls : List Show) → false ≡ list_any (λ (l : Show). false) ls
never [] = refl
never (l ∷ ls) = never ls

turned_round : (p : Key → Show → Bool) (ks : List Key) (ls : List Show) → list_any (λ k. list_any (p k) ls) ks ≡ list_any (λ l. list_any (λ k. p k l) ks) ls
turned_round p [] ls = never ls
turned_round p (k ∷ ks) ls =
    ap (λ b. list_any (p k) ls || b) (turned_round p ks ls)
    ∙ sym (any_either (λ l. p k l || list_any (λ j. p j l) ks) (p k) (λ l. list_any (λ j. p j l) ks) (λ l. refl) ls)

some_meets : (e : Entry) (forlopp number : ℕ) (faults : Bool) (ls : List Show)
    → some_has ls number (keys_for e forlopp faults)
    ≡ list_any (λ l. meets e forlopp number (is_flag l.faults faults) l) ls
some_meets e forlopp number faults ls =
    turned_round (λ k. has_key k number) (keys_for e forlopp faults) ls ∙ (λ i. list_any (λ l. has_one e forlopp number faults l i) ls)

flag_either : (b : Bool) → (not b || true) ≡ (not b || b)
flag_either true = refl
flag_either false = refl

pub by_keys : (e : Entry) (forlopp number : ℕ) (outcome : Outcome) (faulted : Bool) (ls : List Show)
    → faulted ≡ is_fault outcome → list_any (shows e forlopp number outcome) ls
    ≡ (some_has ls number (keys_for e forlopp false) || (faulted && some_has ls number (keys_for e forlopp true)))
by_keys e forlopp number outcome true ls is =
    (λ i. list_any (λ l. meets e forlopp number (not l.faults || sym is i) l) ls)
    ∙ any_either (λ l. meets e forlopp number (not l.faults || true) l) (λ l. meets e forlopp number (not l.faults) l) (λ l. meets e forlopp number l.faults l)
    (λ l. ap (λ b. meets e forlopp number b l) (flag_either l.faults)
    ∙ sym (behind_three (is_from l.from number && is_upto l.upto number) (agrees l.block e.block)
    (agrees l.signal e.signal) (not l.faults) l.faults (agrees l.forlopp forlopp))) ls
    ∙ sym (λ i. some_meets e forlopp number false ls i || some_meets e forlopp number true ls i)
by_keys e forlopp number outcome false ls is =
    (λ i. list_any (λ l. meets e forlopp number (not l.faults || sym is i) l) ls)
    ∙ (λ i. list_any (λ l. meets e forlopp number (or_false (not l.faults) i) l) ls)
    ∙ sym (some_meets e forlopp number false ls)
    ∙ sym (or_false (some_has ls number (keys_for e forlopp false)))
