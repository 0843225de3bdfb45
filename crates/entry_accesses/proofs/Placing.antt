-- All statements of an exchange are looked at, each where it stands.
use Rattle.std.proofs.Common.{◌≡◌, ◌↔◌, ◌⊎◌, inl, inr, ⊎_elim, ℕ, zero, suc, List, [], ◌∷◌, ◌++◌}
use Rattle.std.proofs.Common.{map, Option, Some, None, slice_get, refl, sym, ap, ◌∙◌, subst, arith}
use Rattle.std.specs.List.{Contains}
use Rattle.std.proofs.lemmas.Option.{none-some, same_Some}
use Rattle.plex_num.specs.declared.level.Level.{Level}
use Rattle.plex_num.proofs.Members.{none_in}
use Rattle.exchange_model.specs.declared.exchange.Exchange.{Exchange}
use Rattle.exchange_model.specs.declared.signal.SignalKind.{SignalKind}
use Rattle.exchange_model.specs.declared.signal.SignalKind.TheVariants.{Buffered, Direct, Combined}
use Rattle.exchange_model.specs.declared.signal.SignalKind.TheVariants.{Answer, Outside}
use Rattle.exchange_model.specs.declared.stmt.StmtKind.TheOpen as stmt
use Rattle.source_meaning.specs.Named.{Layer}
use Rattle.flow_points.specs.Facts.{Facts, Reached}
use Rattle.flow_points.specs.Places.{Place}
use Rattle.flow_table.specs.declared.place.PlaceAt.{PlaceAt}
use Rattle.flow_table.specs.Texts.{AreReachedAmong, seen}
use Rattle.flow_table.proofs.Reaching.{of_map}
use Rattle.entry_summary.specs.declared.summary.Access.{Access}
use Rattle.entry_summary.specs.declared.summary.Access.TheVariants as access
use Rattle.entry_summary.specs.Accesses.{Accesses, IsAccess}
use Rattle.entry_summary.specs.Summaries.{MaySendTo, SendsTo, sends}
use Rattle.entry_accesses.specs.declared.uses.Use.{Use}
use Rattle.entry_accesses.specs.Adding.{Adds, OneGives, HasAccess}
use Rattle.entry_accesses.specs.Levels.{HasLevel, buffer_level, sent_level}
use Rattle.entry_accesses.specs.Opening.{OpenedBy, Opens}
use Rattle.entry_accesses.specs.Uses.{UseGives, layer_uses}
use Rattle.entry_accesses.proofs.Adding.{gives_alike, adds_as}
use Rattle.entry_accesses.proofs.Telling.{all_given, given_all, opened_by}

-- a place of a list is one of its items

record Stood {A B : Type 0} (f : A → B) (xs : List A) (x : A) : Type 0 where
  index : ℕ
  there : slice_get (map f xs) index ≡ Some (f x)

stood : {A B : Type 0} (f : A → B) (xs : List A) (x : A) → Contains xs x → Stood f xs x
stood f [] x h = absurd (none_in x h)
stood f (y ∷ ys) x (zero, lt, is) = record { index = 0; there = ap (λ z. Some (f z)) is }
stood f (y ∷ ys) x (suc k, lt, is) = (let r = stood f ys x (k, (let h = lt in omega arith), is) in record { index = suc r.index; there = r.there })

-- accesses

module _ (x : Exchange) (P : Facts) (e : ℕ) (places : List PlaceAt) (are : AreReachedAmong x P e (map seen places)) where
  -- what the statement at one of the places gives
  abbrev GivenAt : Access → Type 0
  GivenAt a = OneGives (λ (at : PlaceAt). HasAccess x P e (seen at)) places a

  access_there : (a : Access) → GivenAt a → IsAccess x P e a
  access_there a o =
      let s = stood seen places o.item o.one in
      let at = seen o.item in
      record {
        at = at;
        point = at.point;
        stands = record { place = are.each s.index at s.there; here = refl };
        reached = o.gives.reached;
        access = given_all x P e at.block at.point at.layer a o.gives.access;
      }

  -- it opens the access
  record OpenedAt (a : Access) : Type 0 where
    file : ℕ
    freed : GivenAt (access.Frees file)
    opens : Opens x file a

  access_back : (a : Access) → IsAccess x P e a → GivenAt a ⊎ OpenedAt a
  access_back a h =
      ⊎_elim
      (λ g. inl (back a g))
      (λ f. inr (record { file = f.file; freed = back (access.Frees f.file) f.frees; opens = f.opens }))
      (all_given x P e h.at.block h.at.point h.at.layer a (subst (λ q. Accesses x P e h.at.block q h.at.layer a) here h.access))
    where
      here : h.point ≡ h.at.point
      here = sym h.stands.here

      back : (b : Access) → OneGives (UseGives P e h.at.point) (layer_uses x h.at.block h.at.layer) b → GivenAt b
      back b g =
          let i = of_map seen places h.at (are.all h.point h.at h.stands h.reached) in
          let has : HasAccess x P e h.at b = record { reached = subst (Reached P e) here h.reached; access = g } in
          record { item = i.0; one = i.1; gives = subst (λ q. HasAccess x P e q b) (sym i.2) has }

  -- what all these statements give, and the fields that it opens
  pub found_exact : (none found all : List Access) → none ≡ []
      → Adds none found (OneGives (λ (at : PlaceAt). HasAccess x P e (seen at)) places)
      → ((a : Access) → Contains all a ↔ (Contains found a ⊎ OneGives (OpenedBy x) found a)) → (a : Access)
      → Contains all a ↔ IsAccess x P e a
  found_exact none found all empty h whole a = (
    λ c. ⊎_elim (is_access a) (λ o. opened a o.item (is_access o.item o.one) o.gives) ((whole a).0 c),
    λ i. (whole a).1 (⊎_elim (λ g. inl (h.added a g))
        (λ o. inr (record { item = access.Frees o.file; one = h.added (access.Frees o.file) o.freed; gives = o.opens }))
        (access_back a i)),
  )
    where
      is_access : (b : Access) → Contains found b → IsAccess x P e b
      is_access b c = ⊎_elim (λ was. absurd (none_in b (subst (λ l. Contains l b) empty was))) (access_there b) (h.each b c)

      opened : (b freeing : Access) → IsAccess x P e freeing → OpenedBy x freeing b → IsAccess x P e b
      opened b freeing is o = record {
        at = is.at;
        point = is.point;
        stands = is.stands;
        reached = is.reached;
        access = opened_by x P e is.at.block is.point is.at.layer freeing b is.access o;
      }

-- a statement that is reached, or not

pub reached_adds : (x : Exchange) (P : Facts) (e : ℕ) (at : Place) (uses each given : List Use) (none : List Use)
    (old new : List Access) → Reached P e at.point → none ≡ [] → uses ≡ none ++ layer_uses x at.block at.layer
    → ((u : Use) → Contains each u ↔ Contains uses u) → given ≡ each
    → Adds old new (OneGives (UseGives P e at.point) given) → Adds old new (HasAccess x P e at)
reached_adds x P e at uses each given none old new reached empty made once same h =
    let all = layer_uses x at.block at.layer in
    let is : uses ≡ all = made ∙ ap (λ l. l ++ all) empty in
    let alike = gives_alike (UseGives P e at.point) all given
    (λ u. subst (λ l. Contains l u ↔ Contains all u) (sym same)
    (subst (λ l. Contains each u ↔ Contains l u) is (once u))) in
    adds_as old new (OneGives (UseGives P e at.point) given) (HasAccess x P e at)
    (λ a g. record { reached = reached; access = (alike a).0 g })
    (λ a has. (alike a).1 has.access)
    h

-- levels

sent_is : (x : Exchange) (l : Layer) (level : Level) → SendsTo x l level → sent_level x l ≡ Some level
sent_is x l level (sends signal to values fresh name _ count there) = ap buffer_level there

record Buffer (o : Option SignalKind) (level : Level) : Type 0 where
  name : List ℕ
  count : ℕ
  is : o ≡ Some (Buffered name level count)

buffer_is : (o : Option SignalKind) (level : Level) → buffer_level o ≡ Some level → Buffer o level
buffer_is (Some (Buffered name m count)) level is = record { name = name; count = count; is = ap (λ l. Some (Buffered name l count)) (same_Some m level is) }
buffer_is None level is = absurd (none-some level is)
buffer_is (Some (Direct name count)) level is = absurd (none-some level is)
buffer_is (Some (Combined name count answer)) level is = absurd (none-some level is)
buffer_is (Some (Answer name count combined)) level is = absurd (none-some level is)
buffer_is (Some (Outside name count)) level is = absurd (none-some level is)

is_sent : (x : Exchange) (l : Layer) (level : Level) → sent_level x l ≡ Some level → SendsTo x l level
is_sent x (stmt.Send signal to values fresh) level is =
    let b = buffer_is (slice_get x.signals signal) level is in
    sends signal to values fresh b.name level b.count b.is
is_sent x _ level is = absurd (none-some level is)

level_there : (x : Exchange) (P : Facts) (e : ℕ) (places : List PlaceAt) (level : Level)
    → AreReachedAmong x P e (map seen places) → OneGives (λ (at : PlaceAt). HasLevel x P e (seen at)) places level
    → MaySendTo x P e level
level_there x P e places level are o =
    let s = stood seen places o.item o.one in
    record {
      at = seen o.item;
      point = (seen o.item).point;
      stands = record { place = are.each s.index (seen o.item) s.there; here = refl };
      reached = o.gives.reached;
      sends = is_sent x (seen o.item).layer level o.gives.sends;
    }

level_back : (x : Exchange) (P : Facts) (e : ℕ) (places : List PlaceAt) (level : Level)
    → AreReachedAmong x P e (map seen places) → MaySendTo x P e level
    → OneGives (λ (at : PlaceAt). HasLevel x P e (seen at)) places level
level_back x P e places level are h =
    let i = of_map seen places h.at (are.all h.point h.at h.stands h.reached) in
    let has : HasLevel x P e h.at level = record {
      reached = subst (Reached P e) (sym h.stands.here) h.reached;
      sends = sent_is x h.at.layer level h.sends;
    } in
    record { item = i.0; one = i.1; gives = subst (λ q. HasLevel x P e q level) (sym i.2) has }

pub sent_exact : (x : Exchange) (P : Facts) (e : ℕ) (places : List PlaceAt) (none sent : List Level)
    → AreReachedAmong x P e (map seen places) → none ≡ []
    → Adds none sent (OneGives (λ (at : PlaceAt). HasLevel x P e (seen at)) places) → (l : Level)
    → Contains sent l ↔ MaySendTo x P e l
sent_exact x P e places none sent are empty h l = (
  λ c. ⊎_elim (λ was. absurd (none_in l (subst (λ k. Contains k l) empty was)))
      (λ o. level_there x P e places l are o) (h.each l c),
  λ i. h.added l (level_back x P e places l are i),
)
