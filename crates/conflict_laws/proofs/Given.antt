-- The list of the program points that cause each item of a summary exists, in order.
use Rattle.std.proofs.Common.{◌≡◌, ℕ, ◌+◌, ◌<◌, List, length, Some, slice_get, refl, sym, ap, ◌∙◌}
use Rattle.std.proofs.Common.{subst}
use Rattle.std.specs.List.{Contains}
use Rattle.std.specs.declared.cmp.Ordering.{Ordering}
use Rattle.std.specs.declared.cmp.Ordering.TheVariants.{Less, Equal, Greater}
use Rattle.std.proofs.lemmas.Cmp.{tied_itself}
use Rattle.std.proofs.lemmas.Option.{slice_get_within}
use Rattle.plex_num.specs.declared.level.Level.{Level}
use Rattle.exchange_model.specs.declared.exchange.Exchange.{Exchange}
use Rattle.flow_points.specs.declared.fact.Fact.{Fact}
use Rattle.flow_points.specs.declared.fact.Slot.TheVariants.{Depth}
use Rattle.flow_points.specs.Facts.{Facts, IsLeast, fact}
use Rattle.flow_points.specs.Places.{IsPlace, Place}
use Rattle.finite_facts.proofs.Facts.{least_facts}
use Rattle.finite_facts.proofs.Finite.{Decided, Listed, below, decided_as, is_in, listed_as}
use Rattle.finite_facts.proofs.Finite.{listed_if, listed_in, listed_one, listed_or, listed_some}
use Rattle.finite_facts.proofs.Finite.{listed_then, listed_when, no, same_number, yes}
use Rattle.finite_facts.proofs.Places.{places}
use Rattle.finite_facts.proofs.Rising.{in_order}
use Rattle.entry_summary.specs.declared.summary.Access.{Access}
use Rattle.entry_summary.specs.declared.summary.Summary.{Summary}
use Rattle.entry_summary.specs.contracts.summary.AccessOrd.TheImpl.Laws as access_laws
use Rattle.entry_summary.specs.Accesses.{IsAccess}
use Rattle.entry_summary.specs.Orders.{access_order, level_number}
use Rattle.entry_summary.specs.Summaries.{MaySendTo}
use Rattle.analysis_existence.proofs.Accessing.{accesses, levels}
use Rattle.conflicts_meaning.specs.declared.rows.GivenAt.{GivenAt}
use Rattle.conflicts_meaning.specs.contracts.rows.GivenAtOrd.TheImpl.Laws as given_laws
use Rattle.conflicts_meaning.specs.Points.{AreGiven, GivesAccess, IsAccessRow, IsGiven, IsLevelRow}
use Rattle.conflicts_meaning.specs.Points.{SendsFrom, given_order}
use Rattle.conflict_rows.proofs.Alone.{accesses_by}
use Rattle.conflict_rows.proofs.Finding.{equal_is}
use Rattle.conflict_rows.proofs.Pointed.{given_tied, same_level}
use Rattle.conflicts_text.proofs.Alike.{given_on}

same_access : (a b : Access) → Decided (a ≡ b)
same_access a b = by (access_order a b) refl
  where
    itself : (o : Ordering) → access_order a b ≡ o → a ≡ b → Equal ≡ o
    itself o is same = sym (tied_itself access_laws.total-law a) ∙ ap (access_order a) same ∙ is

    by : (o : Ordering) → access_order a b ≡ o → Decided (a ≡ b)
    by Less is = no (λ same. let clash : Equal ≡ Less = itself Less is same in cc)
    by Equal is = yes (equal_is a b is)
    by Greater is = no (λ same. let clash : Equal ≡ Greater = itself Greater is same in cc)

same_level_or_not : (l m : Level) → Decided (l ≡ m)
same_level_or_not l m = decided_as (same_level l m) (λ same. ap level_number same) (same_number (level_number l) (level_number m))

module _ (x : Exchange) (known : List Fact) (e : ℕ) where
  abbrev P : Facts
  P = Contains known

  -- the facts of one point
  of_point : (p : ℕ) → Listed (λ (f : Fact). Contains known f × (f.point ≡ p))
  of_point p = listed_if (Contains known) (λ (f : Fact). f.point ≡ p) (listed_in known) (λ f c. same_number f.point p)

  abbrev Q : ℕ → Facts
  Q p = Contains (of_point p).items

  -- what the statement at the point causes, by these facts alone

  gives_access : (p : ℕ) (a : Access) → IsAccess x (Q p) e a → GivesAccess x P e a p
  gives_access p a h =
      let f = (of_point p).each (fact e h.point Depth h.reached.0) h.reached.1 in
      subst (GivesAccess x P e a) f.1
      (record {
        at = h.at;
        stands = h.stands;
        reached = (h.reached.0, f.0);
        access = accesses_by x (Q p) P e h.at.block h.point (λ s v k. ((of_point p).each (fact e h.point s v) k).0)
            h.access;
      })

  is_access : (p : ℕ) (a : Access) → GivesAccess x P e a p → IsAccess x (Q p) e a
  is_access p a g = record {
    at = g.at;
    point = p;
    stands = g.stands;
    reached = (g.reached.0, (of_point p).all (fact e p Depth g.reached.0) (g.reached.1, refl));
    access = accesses_by x P (Q p) e g.at.block p (λ s v k. (of_point p).all (fact e p s v) (k, refl)) g.access;
  }

  sends_from : (p : ℕ) (l : Level) → MaySendTo x (Q p) e l → SendsFrom x P e l p
  sends_from p l h =
      let f = (of_point p).each (fact e h.point Depth h.reached.0) h.reached.1 in
      subst (SendsFrom x P e l) f.1 (record { at = h.at; stands = h.stands; reached = (h.reached.0, f.0); sends = h.sends })

  may_send : (p : ℕ) (l : Level) → SendsFrom x P e l p → MaySendTo x (Q p) e l
  may_send p l g = record {
    at = g.at;
    point = p;
    stands = g.stands;
    reached = (g.reached.0, (of_point p).all (fact e p Depth g.reached.0) (g.reached.1, refl));
    sends = g.sends;
  }

  access_given : (p : ℕ) (a : Access) → Decided (GivesAccess x P e a p)
  access_given p a =
      let l = accesses x (of_point p).items e in
      decided_as (λ c. gives_access p a (l.each a c)) (λ g. l.all a (is_access p a g)) (is_in same_access l.items a)

  level_given : (p : ℕ) (l : Level) → Decided (SendsFrom x P e l p)
  level_given p l =
      let all = levels x (of_point p).items e in
      decided_as (λ c. sends_from p l (all.each l c)) (λ g. all.all l (may_send p l g)) (is_in same_level_or_not all.items l)

  module _ (s : Summary) where
    abbrev row : ℕ → ℕ → GivenAt
    row n p = record { number = n; point = p }

    -- the row of the item with this number, at some place that causes it
    abbrev Placed : (ℕ → Type 0) → ℕ → GivenAt → Type 0
    Placed G n r = (at : Place) × IsPlace x at × (G at.point × (r ≡ row n at.point))

    placed : (G : ℕ → Type 0) (n : ℕ) → ((p : ℕ) → Decided (G p)) → Listed (Placed G n)
    placed G n decided =
        listed_then (IsPlace x) (λ at r. G at.point × (r ≡ row n at.point)) (places x)
        (λ at is. listed_when (G at.point) (λ r. r ≡ row n at.point) (decided at.point) (λ g. listed_one (row n at.point)))

    -- accesses

    abbrev OfAccess : ℕ → Access → GivenAt → Type 0
    OfAccess n a r = Placed (λ p. GivesAccess x P e a p) n r

    abbrev OfNumber : ℕ → GivenAt → Type 0
    OfNumber n r = (a : Access) × (slice_get s.accesses n ≡ Some a) × OfAccess n a r

    access_rows : Listed (IsAccessRow x P e s)
    access_rows =
        listed_as (λ r. (n : ℕ) × (n < length s.accesses) × OfNumber n r) (IsAccessRow x P e s)
        (λ r h. subst (IsAccessRow x P e s) (sym h.2.2.2.1) (record { access = h.2.0; there = h.2.1; gives = h.2.2.2.0 }))
        (λ r h. (
          r.number,
          slice_get_within s.accesses r.number h.access h.there,
          (
            h.access,
            h.there,
            (
              h.gives.at,
              h.gives.stands.place,
              (subst (GivesAccess x P e h.access) (sym h.gives.stands.here) h.gives, (λ i. row r.number (sym h.gives.stands.here i))),
            ),
          ),
        ))
        (listed_then (λ n. n < length s.accesses) OfNumber (below (length s.accesses))
        (λ n lt. listed_then (λ a. slice_get s.accesses n ≡ Some a) (OfAccess n) (listed_some (slice_get s.accesses n))
        (λ a there. placed (λ p. GivesAccess x P e a p) n (λ p. access_given p a))))

    -- levels, which are numbered after the accesses

    abbrev OfLevel : ℕ → Level → GivenAt → Type 0
    OfLevel m l r = Placed (λ p. SendsFrom x P e l p) (length s.accesses + m) r

    abbrev OfPlace : ℕ → GivenAt → Type 0
    OfPlace m r = (l : Level) × (slice_get s.levels m ≡ Some l) × OfLevel m l r

    level_rows : Listed (IsLevelRow x P e s)
    level_rows =
        listed_as (λ r. (m : ℕ) × (m < length s.levels) × OfPlace m r) (IsLevelRow x P e s)
        (λ r h. subst (IsLevelRow x P e s) (sym h.2.2.2.1) (record { level = h.2.0; place = h.0; there = h.2.1; number = refl; sends = h.2.2.2.0 }))
        (λ r h. (
          h.place,
          slice_get_within s.levels h.place h.level h.there,
          (
            h.level,
            h.there,
            (
              h.sends.at,
              h.sends.stands.place,
              (subst (SendsFrom x P e h.level) (sym h.sends.stands.here) h.sends, (λ i. row (h.number i) (sym h.sends.stands.here i))),
            ),
          ),
        ))
        (listed_then (λ m. m < length s.levels) OfPlace (below (length s.levels))
        (λ m lt. listed_then (λ l. slice_get s.levels m ≡ Some l) (OfLevel m) (listed_some (slice_get s.levels m))
        (λ l there. placed (λ p. SendsFrom x P e l p) (length s.accesses + m) (λ p. level_given p l))))

    given : Listed (IsGiven x P e s)
    given = listed_or (IsAccessRow x P e s) (IsLevelRow x P e s) access_rows level_rows

-- by the least fixed point, in order
pub given_rows : (x : Exchange) (e : ℕ) (s : Summary) → (rows : List GivenAt) × AreGiven x (IsLeast x) e s rows
given_rows x e s =
    let l = least_facts x in
    let all : Listed (IsGiven x (IsLeast x) e s) =
    listed_as (IsGiven x (Contains l.items) e s) (IsGiven x (IsLeast x) e s)
    (given_on x (Contains l.items) (IsLeast x) e (λ p t v k. l.each (fact e p t v) k) s)
    (given_on x (IsLeast x) (Contains l.items) e (λ p t v k. l.all (fact e p t v) k) s)
    (given x l.items e s) in
    let r = in_order given_order given_laws.total-law given_tied (IsGiven x (IsLeast x) e s) all in
    (r.listed.items, record { exact = λ q. (r.listed.each q, r.listed.all q); rising = r.rising })
