-- The rows of all points.
use Rattle.std.proofs.Common.{◌≡◌, ◌↔◌, ◌⊎◌, inl, inr, ⊎_elim, ℕ, List, [], length, map, sym, ap}
use Rattle.std.proofs.Common.{◌∙◌, subst}
use Rattle.std.specs.List.{Contains}
use Rattle.std.specs.List.Sorted.{IsStrictlySortedBy}
use Rattle.plex_num.specs.declared.level.Level.{Level}
use Rattle.plex_num.proofs.Members.{none_in}
use Rattle.exchange_model.specs.declared.exchange.Exchange.{Exchange}
use Rattle.flow_points.specs.Places.{Place, StandsAt}
use Rattle.flow_points.specs.Facts.{Facts, Reached}
use Rattle.flow_table.specs.declared.place.PlaceAt.{PlaceAt}
use Rattle.flow_table.specs.Texts.{AreReachedAmong, seen}
use Rattle.flow_table.proofs.Reaching.{of_map}
use Rattle.fact_rows.specs.Known.{BitRows, Knows, KnowsAt}
use Rattle.entry_summary.specs.declared.summary.Access.{Access}
use Rattle.entry_summary.specs.declared.summary.Summary.{Summary}
use Rattle.entry_summary.specs.Accesses.{IsAccess}
use Rattle.entry_summary.specs.Summaries.{MaySendTo}
use Rattle.entry_accesses.specs.Adding.{Adds}
use Rattle.conflicts_meaning.specs.declared.rows.GivenAt.{GivenAt}
use Rattle.conflicts_meaning.specs.Points.{AreGiven, GivesAccess, IsGiven, SendsFrom, given_order}
use Rattle.conflict_rows.specs.Items.{GivenBy}
use Rattle.conflict_rows.specs.Points.{AccessAt, GivesAt, LevelAt}
use Rattle.conflict_rows.proofs.Alone.{gives_access, gives_level, is_access, may_send, stands_at}
use Rattle.conflict_rows.proofs.Finding.{contained}
use Rattle.conflict_rows.proofs.Loops.{adds_two}

-- what one statement gives

module _ (x : Exchange) (k : BitRows) (e : ℕ) (s : Summary) (at : PlaceAt) (accesses : List Access) (levels : List Level)
    (all_accesses : (a : Access) → Contains accesses a ↔ IsAccess x (KnowsAt k at.point) e a)
    (all_levels : (l : Level) → Contains levels l ↔ MaySendTo x (KnowsAt k at.point) e l) where
  of_access : (r : GivenAt) → GivenBy (AccessAt s.accesses at.point) accesses r → GivesAt x (Knows k) e s at r
  of_access r g = record {
    point = g.gives.point_is;
    given = inl (record {
      access = g.item;
      there = g.gives.number;
      gives = subst (GivesAccess x (Knows k) e g.item) (sym g.gives.point_is)
          (gives_access x k e at.point g.item ((all_accesses g.item).0 (contained accesses g.place g.item g.there)));
    });
  }

  of_level : (r : GivenAt) → GivenBy (LevelAt (length s.accesses) levels at.point) s.levels r → GivesAt x (Knows k) e s at r
  of_level r g = record {
    point = g.gives.point_is;
    given = inr (record {
      level = g.item;
      place = g.place;
      there = g.there;
      number = g.gives.number;
      sends = subst (SendsFrom x (Knows k) e g.item) (sym g.gives.point_is) (gives_level x k e at.point g.item ((all_levels g.item).0 g.gives.sends));
    });
  }

  cases : (r : GivenAt) → GivesAt x (Knows k) e s at r
      → GivenBy (AccessAt s.accesses at.point) accesses r
      ⊎ GivenBy (LevelAt (length s.accesses) levels at.point) s.levels r
  cases r g = by g.given
    where
      by : IsGiven x (Knows k) e s r → GivenBy (AccessAt s.accesses at.point) accesses r ⊎ GivenBy (LevelAt (length s.accesses) levels at.point) s.levels r
      by (inl h) =
          (let c = (all_accesses h.access).1 (is_access x k e at.point h.access (subst (GivesAccess x (Knows k) e h.access) g.point h.gives)) in
          let f = stands_at accesses h.access c in
          inl (record { place = f.0; item = h.access; there = f.1; gives = record { number = h.there; point_is = g.point } }))
      by (inr h) = inr (record {
        place = h.place;
        item = h.level;
        there = h.there;
        gives = record {
          sends = (all_levels h.level).1 (may_send x k e at.point h.level (subst (SendsFrom x (Knows k) e h.level) g.point h.sends));
          number = h.number;
          point_is = g.point;
        };
      })

  pub place_rows : (old now new : List GivenAt) → Adds old now (GivenBy (AccessAt s.accesses at.point) accesses)
      → Adds now new (GivenBy (LevelAt (length s.accesses) levels at.point) s.levels)
      → Adds old new (GivesAt x (Knows k) e s at)
  place_rows old now new =
      adds_two (GivenBy (AccessAt s.accesses at.point) accesses)
      (GivenBy (LevelAt (length s.accesses) levels at.point) s.levels) (GivesAt x (Knows k) e s at) old now new
      of_access of_level cases

-- the same over the slices of the lists
pub place_written : (x : Exchange) (k : BitRows) (e : ℕ) (s : Summary) (at : PlaceAt) (all accesses given : List Access)
    (levels sent listed : List Level) (old now new : List GivenAt)
    → all ≡ s.accesses → given ≡ accesses → levels ≡ s.levels → listed ≡ sent
    → ((a : Access) → Contains accesses a ↔ IsAccess x (KnowsAt k at.point) e a) → ((l : Level) → Contains sent l ↔ MaySendTo x (KnowsAt k at.point) e l)
    → Adds old now (GivenBy (AccessAt all at.point) given)
    → Adds now new (GivenBy (LevelAt (length all) listed at.point) levels)
    → Adds old new (GivesAt x (Knows k) e s at)
place_written x k e s at all accesses given levels sent listed old now new is_all is_given is_levels is_listed of_accesses of_levels f g =
    place_rows x k e s at accesses sent of_accesses of_levels old now new
    (subst (λ xs. Adds old now (GivenBy (AccessAt xs at.point) accesses)) is_all (subst (λ xs. Adds old now (GivenBy (AccessAt all at.point) xs)) is_given f))
    (subst (λ n. Adds now new (GivenBy (LevelAt n sent at.point) s.levels)) (ap length is_all)
    (subst (λ xs. Adds now new (GivenBy (LevelAt (length all) sent at.point) xs)) is_levels
    (subst (λ xs. Adds now new (GivenBy (LevelAt (length all) xs at.point) levels)) is_listed g)))

-- what all give

abbrev pub ByPlace : (x : Exchange) → Facts → ℕ → Summary → ℕ → PlaceAt → GivenAt → Type 0
ByPlace x P e s place at r = GivesAt x P e s at r

row_place : (x : Exchange) (P : Facts) (e : ℕ) (s : Summary) (r : GivenAt) → IsGiven x P e s r → (at : Place) × StandsAt x r.point at × Reached P e r.point
row_place x P e s r (inl h) = (h.gives.at, h.gives.stands, h.gives.reached)
row_place x P e s r (inr h) = (h.sends.at, h.sends.stands, h.sends.reached)

pub all_given : (x : Exchange) (P : Facts) (e : ℕ) (s : Summary) (places : List PlaceAt) (none rows made : List GivenAt)
    → AreReachedAmong x P e (map seen places) → none ≡ []
    → Adds none rows (GivenBy (ByPlace x P e s) places) → ((r : GivenAt) → Contains made r ↔ Contains rows r)
    → IsStrictlySortedBy given_order made → AreGiven x P e s made
all_given x P e s places none rows made are empty h same up = record
    { exact = λ r. (λ c. there r ((same r).0 c), λ g. (same r).1 (h.added r (back r g))); rising = up }
  where
    there : (r : GivenAt) → Contains rows r → IsGiven x P e s r
    there r c = ⊎_elim (λ old. absurd (none_in r (subst (λ l. Contains l r) empty old))) (λ g. g.gives.given) (h.each r c)

    back : (r : GivenAt) → IsGiven x P e s r → GivenBy (ByPlace x P e s) places r
    back r g =
        let p = row_place x P e s r g in
        let i = of_map seen places p.0 (are.all r.point p.0 p.1 p.2) in
        let f = stands_at places i.0 i.1 in
        record { place = f.0; item = i.0; there = f.1; gives = record { point = sym (p.1).here ∙ ap (λ (q : Place). q.point) (sym i.2); given = g } }
