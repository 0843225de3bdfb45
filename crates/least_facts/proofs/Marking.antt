-- Points that are marked, and the first RETRIEVEs of answers.
use Rattle.std.proofs.Common.{◌≡◌, ◌⊎◌, inl, inr, ⊎_elim, ℕ, zero, suc, ◌+◌, ◌*◌, ◌<◌, ◌≤◌, ◌^◌}
use Rattle.std.proofs.Common.{◌↔◌, Bool, true, false, List, [], ◌∷◌, length, drop, get_or, map}
use Rattle.std.proofs.Common.{is_some, if◌then◌else◌, IfSome, Option, Some, None, slice_get}
use Rattle.std.proofs.Common.{slice_set, refl, sym, ap, ◌∙◌, subst, arith, length-set}
use Rattle.std.specs.Prelude.{IsTrue}
use Rattle.std.specs.declared.cmp.Ordering.{Ordering}
use Rattle.std.specs.declared.cmp.Ordering.TheVariants.{Less, Equal, Greater}
use Rattle.std.specs.BTreeSet.{insert_key}
use Rattle.std.specs.Ordering.{match_ordering, nat_cmp}
use Rattle.std.specs.List.{Contains, sum_by}
use Rattle.std.proofs.Math.ListN.{drop_of_length-le}
use Rattle.std.proofs.lemmas.Bool.{cases_eq, false≢true, true≢false}
use Rattle.std.proofs.lemmas.Map.Lookups.{exact_unsigned}
use Rattle.std.proofs.lemmas.Option.{none-some, same_Some, slice_get_past}
use Rattle.std.proofs.lemmas.List.{drop_more, length-map}
use Rattle.std.proofs.lemmas.List.Sums.{sum_by-cons}
use Rattle.plex_num.proofs.Members.{first_or_later, none_in, first_is, later_is}
use Rattle.flow_points.specs.Facts.{Reached}
use Rattle.fact_rows.specs.Known.{Knows, BitRows}
use Rattle.fact_rows.proofs.Holding.{from_map, to_map}
use Rattle.answer_table.specs.declared.answers.AnswerTable.{AnswerTable}
use Rattle.answer_table.specs.Answers.{ReturnsOf, awaited_at, known_answer}
use Rattle.least_facts.specs.Marks.{IsNoted, IsThis, Marks, Reaches, Settles, Takes, most_returns}
use Rattle.least_facts.specs.Marks.{point_in}
use Rattle.plex_num.proofs.Lists.{get_set_same, get_set_other}

-- one point

still_there : (ks : List ℕ) (k q : ℕ) → Contains ks q → Contains (insert_key nat_cmp ks k) q
still_there [] k q c = absurd (none_in q c)
still_there (x ∷ xs) k q c = by (nat_cmp k x) (first_or_later x q xs c) (still_there xs k q)
  where
    by : (r : Ordering) → (x ≡ q) ⊎ Contains xs q → (Contains xs q → Contains (insert_key nat_cmp xs k) q)
        → Contains (match_ordering r (k ∷ x ∷ xs) (x ∷ xs) (x ∷ insert_key nat_cmp xs k)) q
    by Less h more = later_is k q (x ∷ xs) c
    by Equal h more = c
    by Greater (inl e) more = subst (Contains (x ∷ insert_key nat_cmp xs k)) e (first_is x (insert_key nat_cmp xs k))
    by Greater (inr l) more = later_is x q (insert_key nat_cmp xs k) (more l)

now_there : (ks : List ℕ) (k : ℕ) → Contains (insert_key nat_cmp ks k) k
now_there [] k = first_is k []
now_there (x ∷ xs) k = by (nat_cmp k x) refl (now_there xs k)
  where
    by : (r : Ordering) → nat_cmp k x ≡ r → Contains (insert_key nat_cmp xs k) k
        → Contains (match_ordering r (k ∷ x ∷ xs) (x ∷ xs) (x ∷ insert_key nat_cmp xs k)) k
    by Less is more = first_is k (x ∷ xs)
    by Equal is more = subst (λ y. Contains (y ∷ xs) k) (exact_unsigned k x is) (first_is k xs)
    by Greater is more = later_is x k (insert_key nat_cmp xs k) more

long_insert : (ks : List ℕ) (k : ℕ) → length (insert_key nat_cmp ks k) ≤ length ks + 1
long_insert [] k = omega arith
long_insert (x ∷ xs) k = by (nat_cmp k x) (long_insert xs k)
  where
    by : (r : Ordering) → length (insert_key nat_cmp xs k) ≤ length xs + 1
        → length (match_ordering r (k ∷ x ∷ xs) (x ∷ xs) (x ∷ insert_key nat_cmp xs k)) ≤ length (x ∷ xs) + 1
    by Less le = omega arith
    by Equal le = omega arith
    by Greater le = omega (arith, le)

pub one_marked : (old new : List ℕ) (mark point : ℕ) → new ≡ insert_key nat_cmp old mark → point_in mark ≡ point
    → Marks (map point_in old) (map point_in new) (IsThis point) 1
one_marked old new mark point is own = record {
  still = λ p c. (let there = from_map point_in old p c in subst (Contains (map point_in new)) there.2
      (to_map point_in new there.0 (subst (λ l. Contains l there.0) (sym is) (still_there old mark there.0 there.1))));
  all = λ p e. subst (Contains (map point_in new)) (own ∙ sym e) (to_map point_in new mark (subst (λ l. Contains l mark) (sym is) (now_there old mark)));
  few = (let long = long_insert old mark in omega (arith, long, ap length is, length-map old point_in, length-map new point_in));
}

pub lower_part : (rank point : ℕ) → point < 2 ^ 32 → point_in (rank * 4294967296 + point) ≡ point
lower_part rank point lt = omega (arith, lt)

-- several points

pub record MarksGo (points : List ℕ) (i : ℕ) (old now : List ℕ) : Type 0 where
  pub still : (p : ℕ) → Contains old p → Contains now p
  pub all : (p : ℕ) → Contains points p → Contains now p ⊎ Contains (drop i points) p
  pub few : length now ≤ length old + i
  pub within : i ≤ length points

pub marks_begin : (points old : List ℕ) → MarksGo points 0 old old
marks_begin points old = record { still = λ p c. c; all = λ p c. inr c; few = omega arith; within = omega arith }

pub marks_more : (points : List ℕ) (i d : ℕ) (old now new : List ℕ) → i < length points
    → Marks now new (IsThis (get_or points i d)) 1 → MarksGo points i old now → MarksGo points (i + 1) old new
marks_more points i d old now new lt h g = record {
  still = λ p c. h.still p (g.still p c);
  all = λ p c. ⊎_elim (λ n. inl (h.still p n))
      (λ l. ⊎_elim (λ e. inl (h.all p (sym e))) inr
      (first_or_later (get_or points i d) p (drop (i + 1) points)
      (subst (λ xs. Contains xs p) (drop_more points i d lt) l))) (g.all p c);
  few = (let a = g.few in let b = h.few in omega (arith, a, b));
  within = omega (arith, lt);
}

pub marks_end : (points : List ℕ) (i : ℕ) (old now : List ℕ) → length points ≤ i → MarksGo points i old now → Marks old now (Contains points) (length points)
marks_end points i old now past g = record {
  still = g.still;
  all = λ p c. ⊎_elim (λ n. n) (λ l. absurd (none_in p (subst (λ xs. Contains xs p) (drop_of_length-le points past) l))) (g.all p c);
  few = (let a = g.few in let b = g.within in omega (arith, a, b));
}

-- the RETURNs of an answer

in_sum : (lists : List (List ℕ)) (i : ℕ) (l : List ℕ) → slice_get lists i ≡ Some l → length l ≤ sum_by length lists
in_sum [] i l there = absurd (none-some l there)
in_sum (k ∷ lists) zero l there = (let same : length k ≡ length l = ap length (same_Some k l there) in omega (arith, same, sum_by-cons length k lists))
in_sum (k ∷ lists) (suc i) l there = (let rest = in_sum lists i l there in omega (arith, rest, sum_by-cons length k lists))

pub returns_marked : (t : AnswerTable) (answer : ℕ) (listed points old new : List ℕ)
    → slice_get t.returns answer ≡ Some listed → points ≡ listed → Marks old new (Contains points) (length points)
    → Marks old new (ReturnsOf t answer) (most_returns t)
returns_marked t answer listed points old new there same h = record {
  still = h.still;
  all = λ p r. h.all p (subst (λ xs. Contains xs p) (same_Some r.points listed (sym r.there ∙ there) ∙ sym same) r.among);
  few = (let a = h.few in let b = in_sum t.returns answer listed there in omega (arith, a, b, ap length same));
}

pub no_returns : (t : AnswerTable) (answer : ℕ) (old : List ℕ) → length t.returns ≤ answer → Marks old old (ReturnsOf t answer) (most_returns t)
no_returns t answer old past = record {
  still = λ p c. c;
  all = λ p r. absurd (none-some r.points (sym (slice_get_past t.returns answer past) ∙ r.there));
  few = omega arith;
}

-- what is known of answers

pub known_is : (o : Option (Option ℕ)) (p : ℕ) → known_answer o ≡ Some p → o ≡ Some (Some p)
known_is None p is = absurd (none-some p is)
known_is (Some o) p is = ap Some is

-- the first RETRIEVE of an answer

pub reaches_none : (a : AnswerTable) (q : ℕ) (m : List ℕ) (firsts : List (Option ℕ)) (o : Option ℕ) → o ≡ awaited_at a q
    → o ≡ None → Reaches a q m firsts m firsts
reaches_none a q m firsts o is none = record {
  still = λ p c. c;
  few = omega arith;
  long = refl;
  kept = λ i p there. there;
  firsts = λ i p there. inl there;
  found = λ n awaits lt. absurd (none-some n (sym none ∙ is ∙ awaits));
}

pub reaches_again : (a : AnswerTable) (q n first : ℕ) (m new : List ℕ) (firsts : List (Option ℕ)) (o u : Option ℕ)
    → o ≡ awaited_at a q → o ≡ Some n → u ≡ known_answer (slice_get firsts n) → u ≡ Some first
    → Marks m new (IsThis first) 1 → Reaches a q m firsts new firsts
reaches_again a q n first m new firsts o u is some known there h = record {
  still = h.still;
  few = (let few = h.few in omega (arith, few));
  long = refl;
  kept = λ i p at. at;
  firsts = λ i p at. inl at;
  found = λ i awaits lt.
      let own : n ≡ i = same_Some n i (sym some ∙ is ∙ awaits) in
      record {
        first = first;
        is = subst (λ k. slice_get firsts k ≡ Some (Some first)) own
            (known_is (slice_get firsts n) first (sym known ∙ there));
        handing = inr (h.all first refl);
      };
}

pub opens_none : (a : AnswerTable) (q n : ℕ) (m : List ℕ) (firsts : List (Option ℕ)) → awaited_at a q ≡ Some n
    → length firsts ≤ n → Reaches a q m firsts m firsts
opens_none a q n m firsts is past = record {
  still = λ p c. c;
  few = omega arith;
  long = refl;
  kept = λ i p there. there;
  firsts = λ i p there. inl there;
  found = λ i awaits lt. absurd (let own : n ≡ i = same_Some n i (sym is ∙ awaits) in omega (arith, own, lt, past));
}

pub opens_first : (a : AnswerTable) (q n : ℕ) (m new : List ℕ) (firsts new_firsts : List (Option ℕ))
    → awaited_at a q ≡ Some n → known_answer (slice_get firsts n) ≡ None → n < length firsts
    → new_firsts ≡ slice_set firsts n (Some q)
    → Marks m new (ReturnsOf a n) (most_returns a) → Reaches a q m firsts new new_firsts
opens_first a q n m new firsts new_firsts is none lt put h = record {
  still = h.still;
  few = (let few = h.few in omega (arith, few));
  long = ap length put ∙ length-set firsts n (Some q);
  kept = λ i p there. elim (cases_eq i n) as (λ _. slice_get new_firsts i ≡ Some (Some p)) [
    | inl same ↦ absurd (none-some p (sym none ∙ ap known_answer (subst (λ k. slice_get firsts k ≡ Some (Some p)) same there)))
    | inr apart ↦ ap (λ l. slice_get l i) put ∙ get_set_other firsts n i (Some q) apart ∙ there
  ];
  firsts = λ i p there. elim (cases_eq i n) [
    | inl same ↦
        inr (
          is ∙ ap Some (sym same),
          record {
            own = refl;
            this = same_Some p q (same_Some (Some p) (Some q) (sym there ∙ ap (slice_get new_firsts) same ∙ here));
            returns = λ r of. h.all r (subst (λ k. ReturnsOf a k r) same of);
          },
        )
    | inr apart ↦ inl (sym (get_set_other firsts n i (Some q) apart) ∙ sym (ap (λ l. slice_get l i) put) ∙ there)
  ];
  found = λ i awaits low. (let own : n ≡ i = same_Some n i (sym is ∙ awaits) in record
      { first = q; is = subst (λ k. slice_get new_firsts k ≡ Some (Some q)) own here; handing = inl refl });
}
  where
    here : slice_get new_firsts n ≡ Some (Some q)
    here = ap (λ l. slice_get l n) put ∙ get_set_same firsts n (Some q) lt

-- a point at which something is new

module _ (a : AnswerTable) (k : BitRows) (e : ℕ) (grown noted : Bool) (q : ℕ) (m : List ℕ) (firsts : List (Option ℕ)) where
  pub settles_same : grown ≡ false → Settles a k e grown noted q m firsts m firsts
  settles_same none = record {
    same = λ is. (refl, refl);
    still = λ p c. c;
    own = λ is. absurd (true≢false (sym is ∙ none));
    few = omega arith;
    long = refl;
    kept = λ i p there. there;
    firsts = λ i p there. inl there;
    found = λ is. absurd (true≢false (sym is ∙ none));
  }

  pub settles_again : (mid : List ℕ) → grown ≡ true → noted ≡ true → Marks m mid (IsThis q) 1 → Settles a k e grown noted q m firsts mid firsts
  settles_again mid some again h = record {
    same = λ is. absurd (true≢false (sym some ∙ is));
    still = h.still;
    own = λ is. h.all q refl;
    few = (let few = h.few in omega (arith, few));
    long = refl;
    kept = λ i p there. there;
    firsts = λ i p there. inl there;
    found = λ is before. absurd (true≢false (sym again ∙ before));
  }

  pub settles_unreached : (mid : List ℕ) (b : Bool) → grown ≡ true → (IsTrue b ↔ Reached (Knows k) e q) → b ≡ false
      → Marks m mid (IsThis q) 1 → Settles a k e grown noted q m firsts mid firsts
  settles_unreached mid b some test off h = record {
    same = λ is. absurd (true≢false (sym some ∙ is));
    still = h.still;
    own = λ is. h.all q refl;
    few = (let few = h.few in omega (arith, few));
    long = refl;
    kept = λ i p there. there;
    firsts = λ i p there. inl there;
    found = λ is before now. absurd (true≢false (sym (test.1 now) ∙ off));
  }

  pub settles_reached : (mid new : List ℕ) (new_firsts : List (Option ℕ)) (b : Bool) → grown ≡ true
      → (IsTrue b ↔ Reached (Knows k) e q) → b ≡ true → Marks m mid (IsThis q) 1 → Reaches a q mid firsts new new_firsts
      → Settles a k e grown noted q m firsts new new_firsts
  settles_reached mid new new_firsts b some test on h r = record {
    same = λ is. absurd (true≢false (sym some ∙ is));
    still = λ p c. r.still p (h.still p c);
    own = λ is. r.still q (h.all q refl);
    few = (let few = h.few in let more = r.few in omega (arith, few, more));
    long = r.long;
    kept = r.kept;
    firsts = λ i p there. ⊎_elim inl (λ opened. inr (test.0 on, opened.0, opened.1)) (r.firsts i p there);
    found = λ is before now. r.found;
  }

pub noted_plain : (a : AnswerTable) (k : BitRows) (e q : ℕ) (o : Option ℕ) → o ≡ awaited_at a q → o ≡ None → IsNoted a k e q
noted_plain a k e q o is none = inl (sym is ∙ none)

pub noted_reached : (a : AnswerTable) (k : BitRows) (e q : ℕ) (b : Bool) → (IsTrue b ↔ Reached (Knows k) e q) → IsTrue b → IsNoted a k e q
noted_reached a k e q b test on = inr (test.0 on)

-- the next point

no_length : (ms : List ℕ) → length ms ≡ 0 → ms ≡ []
no_length [] e = refl
no_length (m ∷ ms) e = absurd (omega (arith, e))

pub first_taken : (o : Option ℕ) (old new : List ℕ) → (0 < length old → is_some o ≡ true)
    → IfSome o (λ k. old ≡ k ∷ new) → length new + (if is_some o then 1 else 0) ≡ length old → Takes o old new
first_taken None [] new some removal long = (refl, no_length new (omega (arith, long)))
first_taken None (m ∷ old) new some removal long = absurd (false≢true (some (omega arith)))
first_taken (Some p) old new some removal long = removal

pub point_taken : (o : Option ℕ) (mark : ℕ) (old new : List ℕ) → o ≡ Some mark → Takes o old new → map point_in old ≡ point_in mark ∷ map point_in new
point_taken o mark old new is h = ap (map point_in) (subst (λ q. Takes q old new) is h)

pub no_point : (o : Option ℕ) (old new : List ℕ) → o ≡ None → Takes o old new → (map point_in old ≡ []) × (map point_in new ≡ [])
no_point o old new is h = (let none = subst (λ q. Takes q old new) is h in (ap (map point_in) none.0, ap (map point_in) none.1))

pub taken : (o : Option ℕ) (p : ℕ) (old new : List ℕ) → o ≡ Some p → Takes o old new → old ≡ p ∷ new
taken o p old new is h = subst (λ q. Takes q old new) is h

pub none_taken : (o : Option ℕ) (old new : List ℕ) → ((p : ℕ) → o ≡ Some p → ⊥) → Takes o old new → old ≡ []
none_taken None old new not_some h = h.0
none_taken (Some p) old new not_some h = absurd (not_some p refl)
