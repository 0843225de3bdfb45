-- Sends are counted.
use Rattle.std.proofs.Common.{◌≡◌, ◌⊎◌, inl, inr, ⊎_elim, ℕ, ◌+◌, ◌^◌, ◌<◌, ◌≤◌, Bool, true, false}
use Rattle.std.proofs.Common.{◌&&◌, nat_eq, nat_lt, List, [], ◌∷◌, ◌++◌, length, map, drop, get_or}
use Rattle.std.proofs.Common.{Option, Some, None, slice_get, refl, sym, ap, ◌∙◌, subst, arith}
use Rattle.std.specs.Prelude.{◌↔◌}
use Rattle.std.specs.List.{Contains, IsDistinct, list_any}
use Rattle.std.proofs.lemmas.Bool.{eqb-true, eqb-false, lt-ltb, ltb-true}
use Rattle.std.proofs.lemmas.Cmp.{nat_eq_equiv}
use Rattle.std.proofs.lemmas.List.Elements.{Contains-push, Contains-push_cases}
use Rattle.std.proofs.lemmas.List.Elements.{Contains-append_left}
use Rattle.std.proofs.lemmas.Map.Keys.{IsDistinct-push}
use Rattle.plex_limits.specs.declared.limits.TheConstants.{MOST_SENT}
use Rattle.std.proofs.lemmas.List.{length-map, length_push}
use Rattle.std.proofs.Math.ListN.{drop_of_length-le}
use Rattle.plex_num.proofs.Members.{first_or_later, none_in, first_is, later_is}
use Rattle.plex_num.proofs.Lists.{opens}
use Rattle.exchange_model.specs.Kept.{IsExchange}
use Rattle.source_meaning.proofs.Lists.{all_contained}
use Rattle.exchange_model.specs.declared.exchange.Exchange.{Exchange}
use Rattle.exchange_model.specs.declared.signal.SignalKind.{SignalKind}
use Rattle.exchange_model.specs.declared.signal.SignalKind.TheVariants.{Buffered, Direct, Combined}
use Rattle.exchange_model.specs.declared.signal.SignalKind.TheVariants.{Answer, Outside}
use Rattle.exchange_model.specs.declared.stmt.StmtKind.{out-StmtKind}
use Rattle.exchange_model.specs.declared.stmt.StmtKind.TheOpen as stmt
use Rattle.source_meaning.specs.Named.{Layer}
use Rattle.flow_points.specs.Facts.{Facts, Reached}
use Rattle.flow_points.specs.Places.{Place}
use Rattle.flow_table.specs.declared.place.PlaceAt.{PlaceAt}
use Rattle.flow_table.specs.Texts.{AreReachedAmong, seen}
use Rattle.flow_table.proofs.Reaching.{of_map}
use Rattle.flow_table.proofs.Rowing.{seen_at}
use Rattle.entry_summary.specs.Faults.{AllPost, JoinsOutbox, Posts, PostsAt, TooManySends}
use Rattle.entry_faults.specs.Sends.{joins_outbox, posts, PostsHere, counts}
use Rattle.entry_faults.proofs.Asking.{any_there}

-- a statement

joins_is : (o : Option SignalKind) → (joins_outbox o ≡ true) ↔ JoinsOutbox o
joins_is None = (λ e. absurd (let clash : false ≡ true = e in cc), λ h. absurd h)
joins_is (Some (Buffered name level count)) = (λ e. tt, λ h. refl)
joins_is (Some (Outside name count)) = (λ e. tt, λ h. refl)
joins_is (Some (Direct name count)) = (λ e. absurd (let clash : false ≡ true = e in cc), λ h. absurd h)
joins_is (Some (Combined name count answer)) = (λ e. absurd (let clash : false ≡ true = e in cc), λ h. absurd h)
joins_is (Some (Answer name count of)) = (λ e. absurd (let clash : false ≡ true = e in cc), λ h. absurd h)

pub posts_is : (x : Exchange) (l : Layer) → (posts x l ≡ true) ↔ Posts x l
posts_is x (stmt.Send signal to values fresh) = joins_is (slice_get x.signals signal)
posts_is x _ = (λ e. absurd (let clash : false ≡ true = e in cc), λ h. absurd h)

pub posts_here : (x : Exchange) (P : Facts) (e : ℕ) (at : PlaceAt) (a b : Bool) → a ≡ posts x (out-StmtKind at.kind.now)
    → ((b ≡ true) ↔ Reached P e at.point) → ((a && b) ≡ true) ↔ PostsHere x P e at
posts_here x P e at true b is h = (λ both. record { posting = sym is; reached = h.0 both }, λ p. h.1 p.reached)
posts_here x P e at false b is h = (λ both. absurd (let clash : false ≡ true = both in cc), λ p. absurd (let clash : false ≡ true = is ∙ p.posting in cc))

pub posts_not : (x : Exchange) (P : Facts) (e : ℕ) (at : PlaceAt) (a : Bool) → a ≡ posts x (out-StmtKind at.kind.now)
    → a ≡ false → (false ≡ true) ↔ PostsHere x P e at
posts_not x P e at a is none = (
  λ both. absurd (let clash : false ≡ true = both in cc),
  λ p. absurd
      (let clash : false ≡ true = sym none ∙ is ∙ p.posting in cc),
)

-- lists without repeats

-- a list without one item
record Without (ys : List ℕ) (x : ℕ) : Type 0 where
  rest : List ℕ
  long : length ys ≡ length rest + 1
  others : (q : ℕ) → (q ≡ x → ⊥) → Contains ys q → Contains rest q

split : (ys : List ℕ) (x : ℕ) → Contains ys x → Without ys x
split [] x c = absurd (none_in x c)
split (y ∷ ys) x c =
    ⊎_elim
    (λ (e : y ≡ x). record {
      rest = ys;
      long = omega arith;
      others = λ q differ at. ⊎_elim (λ (f : y ≡ q). absurd (differ (sym f ∙ e))) (λ later. later)
          (first_or_later y q ys at);
    })
    (λ later.
    let s = split ys x later in
    record {
      rest = y ∷ s.rest;
      long = (let l = s.long in omega (arith, l));
      others = λ q differ at. ⊎_elim (λ (f : y ≡ q). subst (Contains (y ∷ s.rest)) f (first_is y s.rest))
          (λ k. later_is y q s.rest (s.others q differ k)) (first_or_later y q ys at);
    })
    (first_or_later y x ys c)

-- numbers without repeats that stand in a list are no more than its items
pub no_more : (xs ys : List ℕ) → IsDistinct nat_eq xs → ((q : ℕ) → Contains xs q → Contains ys q) → length xs ≤ length ys
unfolding IsDistinct
no_more [] ys once within = omega arith
no_more (x ∷ xs) ys once within =
    let s = split ys x (within x (first_is x xs)) in
    let h = no_more xs s.rest once.1 (λ q c. s.others q
    (λ e. eqb-false x q (all_contained (λ y. nat_eq x y ≡ false) xs q once.0 c) (sym e))
    (within q (later_is x q xs c))) in
    let l = s.long in
    omega (arith, h, l)

not_in : (points : List ℕ) (n : ℕ) → ((p : ℕ) → Contains points p → p < n) → list_any (nat_eq n) points ≡ false
not_in points n below = by (list_any (nat_eq n) points) refl
  where
    by : (t : Bool) → list_any (nat_eq n) points ≡ t → list_any (nat_eq n) points ≡ false
    by false is = is
    by true is = absurd (let h = any_there (nat_eq n) points is in let lt = below h.0 h.1 in let e = eqb-true n h.0 h.2 in omega (arith, lt, e))

-- sends so far

-- the point is that of one of the first so many places
pub record IsBefore (places : List PlaceAt) (i p : ℕ) : Type 0 where
  index : ℕ
  low : index < i
  at : PlaceAt
  there : slice_get (map seen places) index ≡ Some (seen at)
  point : at.point ≡ p

pub record SendsGo (x : Exchange) (P : Facts) (e : ℕ) (places : List PlaceAt) (i sends : ℕ) : Type 0 where
  pub few : sends ≤ i
  pub points : List ℕ
  pub many : length points ≡ sends
  pub once : IsDistinct nat_eq points
  pub from : (p : ℕ) → Contains points p → IsBefore places i p
  pub each : AllPost x P e points
  pub all : (at : PlaceAt) → Contains places at → PostsHere x P e at → Contains points at.point ⊎ Contains (drop i places) at

nothing_once : IsDistinct nat_eq []
unfolding IsDistinct
nothing_once = tt

pub sends_begin : (x : Exchange) (P : Facts) (e : ℕ) (places : List PlaceAt) → SendsGo x P e places 0 0
sends_begin x P e places = record {
  few = omega arith;
  points = [];
  many = refl;
  once = nothing_once;
  from = λ p c. absurd (none_in p c);
  each = λ p c. absurd (none_in p c);
  all = λ at c h. inr c;
}

module _ (x : Exchange) (P : Facts) (e : ℕ) (places : List PlaceAt) (i : ℕ) (at : PlaceAt)
    (are : AreReachedAmong x P e (map seen places)) (lt : i < length places) (is : at ≡ get_or places i at) where
  posts_there : PostsHere x P e at → PostsAt x P e at.point
  posts_there h = record {
    at = seen at;
    stands = record
        { place = are.each i (seen at) (seen_at places i at lt is); here = refl };
    reached = h.reached;
    posts = (posts_is x (out-StmtKind at.kind.now)).0 h.posting;
  }

  later : {p : ℕ} → IsBefore places i p → IsBefore places (i + 1) p
  later b = record { index = b.index; low = (let l = b.low in omega (arith, l)); at = b.at; there = b.there; point = b.point }

  below : {p : ℕ} → IsBefore places i p → p < at.point
  below b = subst (λ n. n < at.point) b.point (are.rising b.index i (seen b.at) (seen at) b.low b.there (seen_at places i at lt is))

  rest : (q : PlaceAt) → Contains (drop i places) q → (at ≡ q) ⊎ Contains (drop (i + 1) places) q
  rest q c = first_or_later at q (drop (i + 1) places) (subst (λ l. Contains l q) (opens places i at lt is) c)

  pub sends_yes : (sends : ℕ) → PostsHere x P e at → SendsGo x P e places i sends → SendsGo x P e places (i + 1) (sends + 1)
  sends_yes sends h g = record {
    few = (let f = g.few in omega (arith, f));
    points = g.points ++ at.point ∷ [];
    many = (let l = length_push g.points at.point in let m = g.many in omega (arith, l, m));
    once = IsDistinct-push nat_eq_equiv g.points at.point g.once (not_in g.points at.point (λ p c. below (g.from p c)));
    from = λ p c. ⊎_elim (λ old. later (g.from p old))
        (λ (f : at.point ≡ p). record {
          index = i;
          low = omega arith;
          at = at;
          there = seen_at places i at lt is;
          point = f;
        }) (Contains-push_cases g.points at.point p c);
    each = λ p c. ⊎_elim (g.each p) (λ (f : at.point ≡ p). subst (PostsAt x P e) f (posts_there h)) (Contains-push_cases g.points at.point p c);
    all = λ q c post.
        ⊎_elim
        (λ old. inl (Contains-append_left g.points (at.point ∷ []) q.point old))
        (λ left. ⊎_elim (λ (f : at ≡ q). inl (subst (λ (r : PlaceAt). Contains (g.points ++ at.point ∷ []) r.point) f
        (Contains-push g.points at.point))) inr (rest q left))
        (g.all q c post);
  }

  pub sends_not : (sends : ℕ) → (PostsHere x P e at → ⊥) → SendsGo x P e places i sends → SendsGo x P e places (i + 1) (sends + 0)
  sends_not sends other g = record {
    few = (let f = g.few in omega (arith, f));
    points = g.points;
    many = (let m = g.many in omega (arith, m));
    once = g.once;
    from = λ p c. later (g.from p c);
    each = g.each;
    all = λ q c post. ⊎_elim inl (λ left. ⊎_elim (λ (f : at ≡ q). absurd (other (subst (PostsHere x P e) (sym f) post))) inr (rest q left)) (g.all q c post);
  }

  pub sends_more : (sends new : ℕ) (b : Bool) → ((b ≡ true) ↔ PostsHere x P e at) → new ≡ sends + counts b
      → SendsGo x P e places i sends → SendsGo x P e places (i + 1) new
  sends_more sends new true h made g = subst (SendsGo x P e places (i + 1)) (sym made) (sends_yes sends (h.0 refl) g)
  sends_more sends new false h made g = subst (SendsGo x P e places (i + 1)) (sym made) (sends_not sends (λ p. (let clash : false ≡ true = h.1 p in cc)) g)

pub sends_end : (x : Exchange) (P : Facts) (e : ℕ) (places : List PlaceAt) (i sends : ℕ)
    → AreReachedAmong x P e (map seen places) → length places ≤ i → SendsGo x P e places i sends
    → (nat_lt MOST_SENT sends ≡ true) ↔ TooManySends x P e
sends_end x P e places i sends are past g = (
  λ more. record { points = g.points; once = g.once; each = g.each; many = (let m = ltb-true MOST_SENT sends more in let l = g.many in omega (arith, m, l)) },
  λ h. lt-ltb MOST_SENT sends (let many = h.many in let l = g.many in let few = no_more h.points g.points h.once
      (λ p c. found p (h.each p c)) in omega (arith, many, l, few)),
)
  where
    found : (p : ℕ) → PostsAt x P e p → Contains g.points p
    found p h =
        let r = of_map seen places h.at (are.all p h.at h.stands h.reached) in
        let point : r.0.point ≡ p = ap (λ (q : Place). q.point) r.2 ∙ h.stands.here in
        let here : PostsHere x P e r.0 = record {
          posting = (posts_is x (out-StmtKind r.0.kind.now)).1
              (subst (λ (q : Place). Posts x q.layer) (sym r.2) h.posts);
          reached =
              subst (Reached P e) (sym point) h.reached;
        } in
        ⊎_elim (λ c. subst (Contains g.points) point c)
        (λ left. absurd (none_in r.0 (subst (λ l. Contains l r.0) (drop_of_length-le places past) left)))
        (g.all r.0 r.1 here)

pub few_sends : (x : Exchange) (P : Facts) (e i sends : ℕ) (places : List PlaceAt) → IsExchange x
    → AreReachedAmong x P e (map seen places) → i < length places → SendsGo x P e places i sends → sends + 1 < 2 ^ 64
few_sends x P e i sends places kept are lt g =
    let few = g.few in
    let long = length-map places seen in
    let each = are.few in
    let most = kept.limited.statements in
    omega (arith, few, long, each, most, lt)
