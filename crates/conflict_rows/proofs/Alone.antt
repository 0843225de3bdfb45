-- What is known of one point alone.
use Rattle.std.proofs.Common.{◌≡◌, ◌≢◌, ◌↔◌, ⊎_elim, ℕ, zero, suc, Bool, true, false, List, [], ◌∷◌}
use Rattle.std.proofs.Common.{map, Some, refl, sym, ap, ◌∙◌, subst, arith}
use Rattle.std.specs.Prelude.{IsTrue, slice_get}
use Rattle.std.specs.List.{Contains}
use Rattle.std.proofs.lemmas.Bool.{cases_order}
use Rattle.std.proofs.lemmas.Option.{get_or_from_slice_get, none-some, same_Some, slice_get_within}
use Rattle.plex_num.specs.declared.level.Level.{Level}
use Rattle.plex_num.proofs.Lists.{got_map, some_at}
use Rattle.plex_num.proofs.Members.{first_is, none_in}
use Rattle.exchange_model.specs.declared.exchange.Exchange.{Exchange}
use Rattle.source_meaning.specs.Named.{Layer}
use Rattle.flow_points.specs.declared.fact.Slot.{Slot}
use Rattle.flow_points.specs.declared.fact.Value.{Value}
use Rattle.flow_points.specs.Facts.{Facts, Known, Reached, fact}
use Rattle.flow_table.specs.Giving.{AreValues}
use Rattle.flow_points.specs.Places.{IsPlace, Place}
use Rattle.flow_table.specs.declared.place.PlaceAt.{PlaceAt}
use Rattle.flow_table.specs.Texts.{AreReachedAmong, seen}
use Rattle.fact_rows.specs.Known.{BitRows, Knows, KnowsAt}
use Rattle.entry_summary.specs.declared.summary.Access.{Access}
use Rattle.entry_summary.specs.Accesses.{Accesses, IsAccess, reads, reads_holder, writes}
use Rattle.entry_summary.specs.Accesses.{reads_field, writes_field, searches, reads_own, writes_own}
use Rattle.entry_summary.specs.Accesses.{opens_own, seizes, frees}
use Rattle.entry_summary.specs.Summaries.{MaySendTo}
use Rattle.conflicts_meaning.specs.Points.{GivesAccess, SendsFrom}

pub stands_at : {A : Type 0} (xs : List A) (x : A) → Contains xs x → (j : ℕ) × (slice_get xs j ≡ Some x)
stands_at xs x c =
    let s = some_at xs c.0 c.1 in
    (c.0, s.1 ∙ ap Some (sym (get_or_from_slice_get xs c.0 s.0 x s.1) ∙ c.2))

-- what is reached by facts of one point is the statement there

module _ (x : Exchange) (k : BitRows) (e : ℕ) (places : List PlaceAt)
    (are : AreReachedAmong x (Knows k) e (map seen places)) (i : ℕ) (at : PlaceAt)
    (there : slice_get places i ≡ Some at) where
  here : slice_get (map seen places) i ≡ Some (seen at)
  here = got_map seen places i at there

  own : (j : ℕ) (q : Place) → slice_get (seen at ∷ []) j ≡ Some q → (j ≡ 0) × (seen at ≡ q)
  own zero q h = (refl, same_Some (seen at) q h)
  own (suc j) q h = absurd (none-some q h)

  same : (j : ℕ) (q : Place) → slice_get (map seen places) j ≡ Some q → q.point ≡ at.point → seen at ≡ q
  same j q h point =
      ⊎_elim
      (λ one. same_Some (seen at) q (sym here ∙ ap (slice_get (map seen places)) (sym one) ∙ h))
      (λ apart. absurd (⊎_elim
      (λ low. (let l = are.rising j i q (seen at) low h here in omega (arith, l, point)))
      (λ high. (let l = are.rising i j (seen at) q high here h in omega (arith, l, point)))
      apart))
      (cases_order j i)

  pub alone : AreReachedAmong x (KnowsAt k at.point) e (map seen (at ∷ []))
  alone = record {
    few = (let f = are.few in let w = slice_get_within (map seen places) i (seen at) here in omega (arith, f, w));
    each = λ j q h. subst (IsPlace x) (own j q h).1 (are.each i (seen at) here);
    rising = λ j m a b lt ha hb. absurd (let n = (own m b hb).0 in omega (arith, lt, n));
    all = λ p q stands reached.
        (let c = are.all p q stands (reached.0, reached.1.1) in
        let s = stands_at (map seen places) q c in
        let is : seen at ≡ q = same s.0 q s.1 (stands.here ∙ reached.1.0) in
        subst (Contains (seen at ∷ [])) is (first_is (seen at) []));
  }

-- an access looks at facts of its point alone

pub accesses_by : (x : Exchange) (P Q : Facts) (e b p : ℕ)
    → ((s : Slot) (v : Value) → Known P e p s v → Known Q e p s v) → {l : Layer} {a : Access} → Accesses x P e b p l a
    → Accesses x Q e b p l a
accesses_by x P Q e b p on (reads l variable named) = reads l variable named
accesses_by x P Q e b p on (reads_holder l variable held) = reads_holder l variable held
accesses_by x P Q e b p on (writes variable value) = writes variable value
accesses_by x P Q e b p on (reads_field l file field pointer v named plain k) = reads_field l file field pointer v named plain (on _ v k)
accesses_by x P Q e b p on (writes_field file field pointer value v plain k) = writes_field file field pointer value v plain (on _ v k)
accesses_by x P Q e b p on (searches temp file field rel value label) = searches temp file field rel value label
accesses_by x P Q e b p on (reads_own l file field pointer named own) = reads_own l file field pointer named own
accesses_by x P Q e b p on (writes_own file field pointer value own) = writes_own file field pointer value own
accesses_by x P Q e b p on (opens_own temp file field placed there lt) = opens_own temp file field placed there lt
accesses_by x P Q e b p on (seizes temp file label) = seizes temp file label
accesses_by x P Q e b p on (frees temp file) = frees temp file

module _ (x : Exchange) (k : BitRows) (e p : ℕ) where
  pub gives_access : (a : Access) → IsAccess x (KnowsAt k p) e a → GivesAccess x (Knows k) e a p
  gives_access a h =
      subst (GivesAccess x (Knows k) e a) h.reached.1.0
      (record {
        at = h.at;
        stands = h.stands;
        reached = (h.reached.0, h.reached.1.1);
        access = accesses_by x (KnowsAt k p) (Knows k) e h.at.block h.point (λ s v f. f.1) h.access;
      })

  pub is_access : (a : Access) → GivesAccess x (Knows k) e a p → IsAccess x (KnowsAt k p) e a
  is_access a g = record {
    at = g.at;
    point = p;
    stands = g.stands;
    reached = (g.reached.0, (refl, g.reached.1));
    access = accesses_by x (Knows k) (KnowsAt k p) e g.at.block p (λ s v f. (refl, f)) g.access;
  }

  pub gives_level : (l : Level) → MaySendTo x (KnowsAt k p) e l → SendsFrom x (Knows k) e l p
  gives_level l h =
      subst (SendsFrom x (Knows k) e l) h.reached.1.0
      (record { at = h.at; stands = h.stands; reached = (h.reached.0, h.reached.1.1); sends = h.sends })

  pub may_send : (l : Level) → SendsFrom x (Knows k) e l p → MaySendTo x (KnowsAt k p) e l
  may_send l g = record { at = g.at; point = p; stands = g.stands; reached = (g.reached.0, (refl, g.reached.1)); sends = g.sends }

-- what is looked up of the one point, and of others

abbrev Here : BitRows → ℕ → ℕ → ℕ → Slot → Value → Type 0
Here k p e q s v = KnowsAt k p (fact e q s v)

pub other_values : (k : BitRows) (p e q : ℕ) (s : Slot) (values : List Value) → q ≢ p → values ≡ [] → AreValues (Here k p e q s) values
other_values k p e q s values apart none = record { each = λ v c. absurd (none_in v (subst (λ l. Contains l v) none c)); listed = λ v h. absurd (apart h.0) }

pub own_values : (k : BitRows) (p e q : ℕ) (s : Slot) (values : List Value) → q ≡ p
    → AreValues (λ v. Knows k (fact e q s v)) values → AreValues (Here k p e q s) values
own_values k p e q s values same all = record { each = λ v c. (same, all.each v c); listed = λ v h. all.listed v h.1 }

pub not_reached : (k : BitRows) (p e q : ℕ) → q ≢ p → IsTrue false ↔ Reached (KnowsAt k p) e q
not_reached k p e q apart = (λ t. absurd (let clash : false ≡ true = t in cc), λ r. absurd (apart r.1.0))

pub is_reached_here : (k : BitRows) (p e q : ℕ) (b : Bool) → q ≡ p → (IsTrue b ↔ Reached (Knows k) e q) → IsTrue b ↔ Reached (KnowsAt k p) e q
is_reached_here k p e q b same h = (λ t. (let r = h.0 t in (r.0, (same, r.1))), λ r. h.1 (r.0, r.1.1))
