-- The points that a job has counted. Where none leads back to itself, each was counted at most once
-- as a statement and at most once as a turn, and each signal that was sent has a SEND of its own.
use Rattle.std.proofs.Common.{◌≡◌, ◌⊎◌, inl, inr, ⊎_elim, ℕ, suc, ◌+◌, ◌<◌, ◌≤◌, Bool, true, false}
use Rattle.std.proofs.Common.{List, [], ◌∷◌, length, refl, sym, ap, ◌∙◌, subst, arith}
use Rattle.std.proofs.lemmas.Bool.{eqb-false, ltb-false}
use Rattle.std.proofs.lemmas.Map.Keys.{IsDistinct-cons}
use Rattle.std.proofs.lemmas.Map.Steps.{length-le_from_distinct_below}
use Rattle.std.specs.Prelude.{nat_lt, nat_eq, ◌||◌}
use Rattle.std.specs.List.{AllByRecursion, Contains, IsDistinct, list_any}
use Rattle.plex_limits.specs.declared.limits.TheConstants.{MOST_SENT, MOST_STATEMENTS}
use Rattle.plex_num.proofs.Members.{first_or_later, found_in, first_is, later_is}
use Rattle.job_types.specs.Own.{budget}
use Rattle.exchange_model.specs.declared.exchange.Exchange.{Exchange}
use Rattle.exchange_model.specs.declared.stmt.Stmt.{Stmt}
use Rattle.exchange_model.specs.Kept.{IsExchange}
use Rattle.source_meaning.specs.Config.{Config}
use Rattle.source_meaning.specs.Deeds.{Deed, Doing, Starting, Turning, deed_point}
use Rattle.source_meaning.proofs.Lists.{all_contained}
use Rattle.flow_points.specs.Facts.{Facts}
use Rattle.entry_summary.specs.Faults.{PostsAt, TooManySends, Walk, GoesRound}
use Rattle.fault_laws.proofs.Following.{Follows, IsTurnAt, walk_join}
use Rattle.fault_laws.proofs.Moves.{PostsBy, SendsOne}

-- lists of points

none_in : (p : ℕ) → Contains [] p → ⊥
none_in p h = let lt = h.1 in omega arith

apart : (p : ℕ) (ps : List ℕ) → list_any (nat_eq p) ps ≡ false → AllByRecursion (λ q. nat_eq p q ≡ false) ps
apart p [] is = tt
apart p (q ∷ ps) is = by (nat_eq p q) refl is (apart p ps)
  where
    by : (b : Bool) → nat_eq p q ≡ b → (b || list_any (nat_eq p) ps) ≡ false
        → (list_any (nat_eq p) ps ≡ false → AllByRecursion (λ q. nat_eq p q ≡ false) ps)
        → AllByRecursion (λ q. nat_eq p q ≡ false) (q ∷ ps)
    by true same none more = absurd (let clash : true ≡ false = none in cc)
    by false same none more = (same, more none)

not_in : (p : ℕ) (ps : List ℕ) → list_any (nat_eq p) ps ≡ false → Contains ps p → ⊥
not_in p ps none at = eqb-false p p (all_contained (λ q. nat_eq p q ≡ false) ps p (apart p ps none) at) refl

absent : (p : ℕ) (ps : List ℕ) → (Contains ps p → ⊥) → list_any (nat_eq p) ps ≡ false
absent p ps none = by (list_any (nat_eq p) ps) refl
  where
    by : (b : Bool) → list_any (nat_eq p) ps ≡ b → b ≡ false
    by true some = absurd (none (found_in p ps some))
    by false is = refl

none_once : IsDistinct nat_eq []
unfolding IsDistinct
none_once = tt

-- points of the exchange, each once, of which something holds
pub record Points (x : Exchange) (Q : ℕ → Type 0) (points : List ℕ) : Type 0 where
  pub once : IsDistinct nat_eq points
  pub below : (p : ℕ) → Contains points p → p < length x.points
  pub each : (p : ℕ) → Contains points p → Q p

module _ (x : Exchange) where
  no_points : (Q : ℕ → Type 0) → Points x Q []
  no_points Q = record { once = none_once; below = λ p at. absurd (none_in p at); each = λ p at. absurd (none_in p at) }

  one_more : (Q : ℕ → Type 0) (p : ℕ) (points : List ℕ) → p < length x.points → list_any (nat_eq p) points ≡ false → Q p
      → Points x Q points → Points x Q (p ∷ points)
  one_more Q p points lt new here h = record {
    once = IsDistinct-cons nat_eq p points (apart p points new) h.once;
    below = λ q at. ⊎_elim (λ (same : p ≡ q). subst (λ n. n < length x.points) same lt) (h.below q) (first_or_later p q points at);
    each = λ q at. ⊎_elim (λ (same : p ≡ q). subst Q same here) (h.each q) (first_or_later p q points at);
  }

  points_weaker : (Q R : ℕ → Type 0) (points : List ℕ) → ((p : ℕ) → Q p → R p) → Points x Q points → Points x R points
  points_weaker Q R points more h = record { once = h.once; below = h.below; each = λ p at. more p (h.each p at) }

  few_points : (Q : ℕ → Type 0) (points : List ℕ) → Points x Q points → length points ≤ length x.points
  few_points Q points h = length-le_from_distinct_below points (length x.points) h.once (λ q is. h.below q (found_in q points is))

-- sends

-- so many signals were sent, each by a SEND of its own among these points
pub record Posted (x : Exchange) (P : Facts) (e : ℕ) (statements : List ℕ) (n : ℕ) : Type 0 where
  pub posts : List ℕ
  pub posted : Points x (λ p. PostsAt x P e p × Contains statements p) posts
  pub sent : n ≡ length posts

module _ (x : Exchange) (P : Facts) (e : ℕ) where
  -- each is a SEND that was counted
  abbrev PostsOf : List ℕ → ℕ → Type 0
  PostsOf statements p = PostsAt x P e p × Contains statements p

  wider : (p : ℕ) (statements posts : List ℕ) → Points x (PostsOf statements) posts → Points x (PostsOf (p ∷ statements)) posts
  wider p statements posts h = points_weaker x (PostsOf statements) (PostsOf (p ∷ statements)) posts (λ q at. (at.0, later_is p q statements at.1)) h

  posted_same : (p : ℕ) (statements : List ℕ) (n m : ℕ) → m ≡ n → Posted x P e statements n → Posted x P e (p ∷ statements) m
  posted_same p statements n m same h = record { posts = h.posts; posted = wider p statements h.posts h.posted; sent = same ∙ h.sent }

  new_post : (p : ℕ) (statements : List ℕ) (n : ℕ) → list_any (nat_eq p) statements ≡ false
      → (h : Posted x P e statements n) → list_any (nat_eq p) h.posts ≡ false
  new_post p statements n new h = absent p h.posts (λ at. not_in p statements new (h.posted.each p at).1)

  posted_more : (p : ℕ) (statements : List ℕ) (n m : ℕ) → p < length x.points → list_any (nat_eq p) statements ≡ false
      → PostsAt x P e p → m ≡ suc n → Posted x P e statements n → Posted x P e (p ∷ statements) m
  posted_more p statements n m lt new here more h = record {
    posts = p ∷ h.posts;
    posted = one_more x (PostsOf (p ∷ statements)) p h.posts lt (new_post p statements n new h)
        (here, first_is p statements) (wider p statements h.posts h.posted);
    sent = more ∙ ap suc h.sent;
  }

  -- one more SEND than a job may make
  pub too_many_sends : (p : ℕ) (statements : List ℕ) (n : ℕ) → p < length x.points
      → list_any (nat_eq p) statements ≡ false → PostsAt x P e p → nat_lt n MOST_SENT ≡ false
      → Posted x P e statements n → TooManySends x P e
  too_many_sends p statements n lt new here full h =
      let all = posted_more p statements n (suc n) lt new here refl h in
      record {
        points = all.posts;
        once = all.posted.once;
        each = λ q at. (all.posted.each q at).0;
        many = (let most = ltb-false n MOST_SENT full in let long = all.sent in omega (arith, most, long));
      }

-- what was counted before this item

pub record Passed (x : Exchange) (P : Facts) (e : ℕ) (c : Config) (deed : Deed) : Type 0 where
  pub statements : List ℕ
  pub turns : List ℕ
  pub stated : Points x (λ p. Walk x P e p (deed_point deed) ⊎ IsTurnAt p deed) statements
  pub turned : Points x (λ p. Walk x P e p (deed_point deed)) turns
  pub many : c.own.count ≡ length statements + length turns
  pub sends : Posted x P e statements (length c.own.sends)

-- the item is not among them
abbrev pub IsNew : List ℕ → List ℕ → Deed → Type 0
IsNew statements turns (Turning p temp this end body) = list_any (nat_eq p) turns ≡ false
IsNew statements turns deed = list_any (nat_eq (deed_point deed)) statements ≡ false

turn_point : (p : ℕ) (deed : Deed) → IsTurnAt p deed → p ≡ deed_point deed
turn_point p (Doing q l) is = absurd is
turn_point p (Starting q l) is = absurd is
turn_point p (Turning q temp this end body) is = is

module _ (x : Exchange) (P : Facts) (e : ℕ) where
  pub nothing_passed : (c : Config) (deed : Deed) → c.own.count ≡ 0 → c.own.sends ≡ [] → Passed x P e c deed
  nothing_passed c deed none unsent = record {
    statements = [];
    turns = [];
    stated = no_points x _;
    turned = no_points x _;
    many = none;
    sends = record { posts = []; posted = no_points x _; sent = ap length unsent };
  }

  stated_new : (c : Config) (deed : Deed) (h : Passed x P e c deed) → ((p : ℕ) → IsTurnAt p deed → ⊥)
      → GoesRound x P e ⊎ (list_any (nat_eq (deed_point deed)) h.statements ≡ false)
  stated_new c deed h no_turn = by (list_any (nat_eq (deed_point deed)) h.statements) refl
    where
      round : Walk x P e (deed_point deed) (deed_point deed) ⊎ IsTurnAt (deed_point deed) deed → GoesRound x P e
      round (inl walk) = record { point = deed_point deed; walk = walk }
      round (inr turn) = absurd (no_turn (deed_point deed) turn)

      by : (b : Bool) → list_any (nat_eq (deed_point deed)) h.statements ≡ b → GoesRound x P e ⊎ (b ≡ false)
      by true there = inl (round (h.stated.each (deed_point deed) (found_in (deed_point deed) h.statements there)))
      by false is = inr refl

  turned_new : (c : Config) (deed : Deed) (h : Passed x P e c deed) → GoesRound x P e ⊎ (list_any (nat_eq (deed_point deed)) h.turns ≡ false)
  turned_new c deed h = by (list_any (nat_eq (deed_point deed)) h.turns) refl
    where
      by : (b : Bool) → list_any (nat_eq (deed_point deed)) h.turns ≡ b → GoesRound x P e ⊎ (b ≡ false)
      by true there = inl (record { point = deed_point deed; walk = h.turned.each (deed_point deed) (found_in (deed_point deed) h.turns there) })
      by false is = inr refl

  -- a point that is counted again leads back to itself
  pub is_new : (c : Config) (deed : Deed) (h : Passed x P e c deed) → GoesRound x P e ⊎ IsNew h.statements h.turns deed
  is_new c (Doing p l) h = stated_new c (Doing p l) h (λ q turn. turn)
  is_new c (Starting p l) h = stated_new c (Starting p l) h (λ q turn. turn)
  is_new c (Turning p temp this end body) h = turned_new c (Turning p temp this end body) h

  walk_after : (q : ℕ) (deed next : Deed) → Walk x P e q (deed_point deed) → Follows x P e deed next → Walk x P e q (deed_point next)
  walk_after q deed next walk (inl more) = walk_join walk more
  walk_after q deed next walk (inr turn) = subst (Walk x P e q) (turn_point (deed_point deed) next turn.1) walk

  -- a statement, or the ENTER of an activation
  stated_on : (c d : Config) (deed next : Deed) → ((p : ℕ) → IsTurnAt p deed → ⊥) → deed_point deed < length x.points
      → (h : Passed x P e c deed) → list_any (nat_eq (deed_point deed)) h.statements ≡ false → Follows x P e deed next
      → d.own.count ≡ c.own.count + 1 → (PostsBy x deed → PostsAt x P e (deed_point deed)) → SendsOne x deed c d → Passed x P e d next
  stated_on c d deed next no_turn lt h new follows one posts sends = record {
    statements = deed_point deed ∷ h.statements;
    turns = h.turns;
    stated = one_more x _ (deed_point deed) h.statements lt new (from_here follows) (points_weaker x _ _ h.statements from_before h.stated);
    turned = points_weaker x _ _ h.turns (λ q walk. walk_after q deed next walk follows) h.turned;
    many = (let before = h.many in omega (arith, one, before));
    sends = after sends;
  }
    where
      from_here : Follows x P e deed next → Walk x P e (deed_point deed) (deed_point next) ⊎ IsTurnAt (deed_point deed) next
      from_here (inl walk) = inl walk
      from_here (inr turn) = inr turn.1

      from_before : (q : ℕ) → Walk x P e q (deed_point deed) ⊎ IsTurnAt q deed → Walk x P e q (deed_point next) ⊎ IsTurnAt q next
      from_before q (inl walk) = inl (walk_after q deed next walk follows)
      from_before q (inr turn) = absurd (no_turn q turn)

      after : SendsOne x deed c d → Posted x P e (deed_point deed ∷ h.statements) (length d.own.sends)
      after (inl same) = posted_same x P e (deed_point deed) h.statements (length c.own.sends) (length d.own.sends) same h.sends
      after (inr more) = posted_more x P e (deed_point deed) h.statements (length c.own.sends) (length d.own.sends) lt new (posts more.0) more.1 h.sends

  -- a turn of a loop
  turned_on : (c d : Config) (p temp this end : ℕ) (body : List Stmt) (next : Deed) → p < length x.points
      → (h : Passed x P e c (Turning p temp this end body)) → list_any (nat_eq p) h.turns ≡ false
      → Follows x P e (Turning p temp this end body) next
      → d.own.count ≡ c.own.count + 1 → SendsOne x (Turning p temp this end body) c d → Passed x P e d next
  turned_on c d p temp this end body next lt h new follows one sends = record {
    statements = h.statements;
    turns = p ∷ h.turns;
    stated = points_weaker x _ _ h.statements from_before h.stated;
    turned = one_more x _ p h.turns lt new (from_here follows)
        (points_weaker x _ _ h.turns (λ q walk. walk_after q (Turning p temp this end body) next walk follows)
        h.turned);
    many = (let before = h.many in omega (arith, one, before));
    sends = after sends;
  }
    where
      from_here : Follows x P e (Turning p temp this end body) next → Walk x P e p (deed_point next)
      from_here (inl walk) = walk
      from_here (inr turn) = absurd turn.0

      from_before : (q : ℕ) → Walk x P e q p ⊎ (q ≡ p) → Walk x P e q (deed_point next) ⊎ IsTurnAt q next
      from_before q (inl walk) = inl (walk_after q (Turning p temp this end body) next walk follows)
      from_before q (inr same) = inl (subst (λ r. Walk x P e r (deed_point next)) (sym same) (from_here follows))

      after : SendsOne x (Turning p temp this end body) c d → Posted x P e h.statements (length d.own.sends)
      after (inl same) = subst (Posted x P e h.statements) (sym same) h.sends
      after (inr more) = absurd more.0

  pub passed_on : (c d : Config) (deed next : Deed) → deed_point deed < length x.points → (h : Passed x P e c deed)
      → IsNew h.statements h.turns deed → Follows x P e deed next → d.own.count ≡ c.own.count + 1
      → (PostsBy x deed → PostsAt x P e (deed_point deed)) → SendsOne x deed c d → Passed x P e d next
  passed_on c d (Doing p l) next lt h new follows one posts sends = stated_on c d (Doing p l) next (λ q turn. turn) lt h new follows one posts sends
  passed_on c d (Starting p l) next lt h new follows one posts sends = stated_on c d (Starting p l) next (λ q turn. turn) lt h new follows one posts sends
  passed_on c d (Turning p temp this end body) next lt h new follows one posts sends = turned_on c d p temp this end body next lt h new follows one sends

  -- so many points are fewer than the statements that a job may count
  below_budget : (count statements turns points : ℕ) → count ≡ statements + turns → statements ≤ points → turns ≤ points
      → points ≤ MOST_STATEMENTS → count < budget
  unfolding budget
  below_budget count statements turns points is few fewer most = omega arith

  pub budget_left : (c : Config) (deed : Deed) → IsExchange x → Passed x P e c deed → nat_lt c.own.count budget ≡ false → ⊥
  budget_left c deed kept h full =
      let lt = below_budget c.own.count (length h.statements) (length h.turns) (length x.points) h.many
      (few_points x _ h.statements h.stated) (few_points x _ h.turns h.turned) kept.limited.statements in
      let le = ltb-false c.own.count budget full in
      omega (arith, lt, le)

  -- a SEND that posts and was not counted before
  pub one_too_many : (c : Config) (deed : Deed) (h : Passed x P e c deed) → IsNew h.statements h.turns deed
      → deed_point deed < length x.points → PostsAt x P e (deed_point deed) → PostsBy x deed
      → nat_lt (length c.own.sends) MOST_SENT ≡ false
      → TooManySends x P e
  one_too_many c (Doing p l) h new lt here posts full = too_many_sends x P e p h.statements (length c.own.sends) lt new here full h.sends
  one_too_many c (Starting p l) h new lt here posts full = absurd posts
  one_too_many c (Turning p temp this end body) h new lt here posts full = absurd posts
