-- A summary of each entry comes.
use Rattle.std.proofs.Common.{◌≡◌, ◌↔◌, ℕ, ◌+◌, zero, suc, Bool, true, false, true≢false, List, []}
use Rattle.std.proofs.Common.{◌∷◌, length, Some, Contains, slice_get, refl, sym, subst, arith}
use Rattle.std.proofs.Common.{rules}
use Rattle.std.specs.Cmp.{IsTotalOrder}
use Rattle.std.specs.declared.cmp.Ordering.{Ordering}
use Rattle.std.specs.declared.cmp.Ordering.TheVariants.{Equal}
use Rattle.std.proofs.lemmas.Cmp.{nat_cmp_total, on_total}
use Rattle.std.proofs.lemmas.Option.{none-some, same_Some}
use Rattle.plex_num.specs.declared.level.Level.{Level}
use Rattle.plex_num.specs.declared.level.Level.TheVariants.{A, B, C, D}
use Rattle.exchange_model.specs.declared.exchange.Exchange.{Exchange}
use Rattle.exchange_model.specs.Names.{level_of}
use Rattle.flow_points.specs.declared.fact.Fact.{Fact}
use Rattle.flow_points.specs.Facts.{Facts, IsLeast}
use Rattle.entry_summary.specs.declared.summary.Access.{Access}
use Rattle.entry_summary.specs.declared.summary.Summary.{Summary}
use Rattle.entry_summary.specs.contracts.summary.AccessPartialEq.TheImpl as equal
use Rattle.entry_summary.specs.contracts.summary.AccessOrd.TheImpl.Laws as order_laws
use Rattle.entry_summary.specs.Accesses.{IsAccess}
use Rattle.entry_summary.specs.Faults.{MayFault}
use Rattle.entry_summary.specs.Orders.{access_order, level_number, level_order}
use Rattle.entry_summary.specs.Summaries.{IsSummary, MaySendTo}
use Rattle.certificate_meaning.specs.Summaries.{AreSummaries}
use Rattle.certificate_meaning.proofs.Alike.{summary_alike}
use Rattle.analysis_existence.proofs.Accessing.{accesses, levels}
use Rattle.analysis_existence.proofs.Circling.{may_fault}
use Rattle.finite_facts.proofs.Facts.{least_facts}
use Rattle.finite_facts.proofs.Finite.{Decided, no, yes}
use Rattle.finite_facts.proofs.Rising.{Rises, in_order}

same_access : (a b : Access) → equal.ghosts.eq a b ≡ true → a ≡ b
same_access a b is = search (rules, is)

access_tied : (a b : Access) → access_order a b ≡ Equal → a ≡ b
access_tied a b tied = same_access a b (search (rules, order_laws.matches_eq-law, tied))

levels_total : IsTotalOrder level_order
levels_total = on_total level_number nat_cmp_total

level_tied : (l m : Level) → level_order l m ≡ Equal → l ≡ m
level_tied A A tied = refl
level_tied B B tied = refl
level_tied C C tied = refl
level_tied D D tied = refl
level_tied _ _ tied = cc

-- a summary of an entry
abbrev pub OfEntry : Exchange → Facts → ℕ → Type 0
OfEntry x P e = (s : Summary) × IsSummary x P e s

exactly : {K : Type 0} (R : K → K → Ordering) (P : K → Type 0) (r : Rises R P) (k : K) → Contains r.listed.items k ↔ P k
exactly R P r k = (r.listed.each k, r.listed.all k)

module _ (x : Exchange) (known : List Fact) (e : ℕ) where
  abbrev P : Facts
  P = Contains known

  with_fault : (b : Bool) → (b ≡ true) ↔ MayFault x P e → OfEntry x P e
  with_fault b fault =
      let own = in_order access_order order_laws.total-law access_tied (IsAccess x P e) (accesses x known e) in
      let sent = in_order level_order levels_total level_tied (MaySendTo x P e) (levels x known e) in (
        record { level = level_of x e; accesses = own.listed.items; levels = sent.listed.items; fault = b; rising = own.rising; levels_rising = sent.rising },
        record {
          level = refl;
          accesses = exactly access_order (IsAccess x P e) own;
          levels = exactly level_order (MaySendTo x P e) sent;
          fault = fault;
        },
      )

  -- by the facts of a list
  pub summary : OfEntry x P e
  summary = by (may_fault x known e)
    where
      by : Decided (MayFault x P e) → OfEntry x P e
      by (yes h) = with_fault true ((λ t. h), (λ k. refl))
      by (no n) = with_fault false ((λ t. absurd (true≢false (sym t))), (λ k. absurd (n k)))

-- by the least facts
pub least_summary : (x : Exchange) (e : ℕ) → OfEntry x (IsLeast x) e
least_summary x e =
    let l = least_facts x in
    let s = summary x l.items e in
    (s.0, summary_alike x (Contains l.items) (IsLeast x) e s.0 (record { each = λ f is c. l.each f c }) (record { each = λ f is h. l.all f h }) s.1)

-- one for each number from a first one on
record From (x : Exchange) (a n : ℕ) : Type 0 where
  items : List Summary
  count : length items ≡ n
  each : (k : ℕ) (s : Summary) → slice_get items k ≡ Some s → IsSummary x (IsLeast x) (a + k) s

summaries_from : (x : Exchange) (a n : ℕ) → From x a n
summaries_from x a zero = record { items = []; count = refl; each = λ k s there. absurd (none-some s there) }
summaries_from x a (suc n) = by (least_summary x a) (summaries_from x (a + 1) n)
  where
    by : OfEntry x (IsLeast x) a → From x (a + 1) n → From x a (suc n)
    by one more = record { items = one.0 ∷ more.items; count = (let long = more.count in omega (arith, long)); each = each }
      where
        each : (k : ℕ) (s : Summary) → slice_get (one.0 ∷ more.items) k ≡ Some s → IsSummary x (IsLeast x) (a + k) s
        each zero s there = (let at : a ≡ a + 0 = omega arith in subst (λ m. IsSummary x (IsLeast x) m s) at
            (subst (IsSummary x (IsLeast x) a) (same_Some one.0 s there) one.1))
        each (suc k) s there = (let at : a + 1 + k ≡ a + suc k = omega arith in subst (λ m. IsSummary x (IsLeast x) m s) at (more.each k s there))

-- the summaries of an exchange
pub all_summaries : (x : Exchange) → (ss : List Summary) × AreSummaries x ss
all_summaries x =
    let all = summaries_from x 0 (length x.entries) in (
      all.items,
      record {
        each_entry = all.count;
        is = λ e s there. (let at : 0 + e ≡ e = omega arith in subst (λ m. IsSummary x (IsLeast x) m s) at
            (all.each e s there));
      },
    )
