-- The levels in order.
use Rattle.std.proofs.Common.{◌≡◌, ◌↔◌, ⊎_elim, ℕ, zero, suc, Bool, true, false, nat_eq, ◌||◌, List}
use Rattle.std.proofs.Common.{[], ◌∷◌, ◌++◌, refl, sym, ap, ◌∙◌, subst, append-nil, if◌then◌else◌}
use Rattle.std.specs.List.{Contains, filter}
use Rattle.std.specs.List.Sorted.{IsStrictlySortedBy}
use Rattle.std.proofs.lemmas.Bool.{eqb-true, eq-eqb}
use Rattle.std.proofs.lemmas.List.Kept.{IsStrictlySortedBy-filter}
use Rattle.plex_num.specs.declared.level.Level.{Level}
use Rattle.plex_num.specs.declared.level.Level.TheVariants.{A, B, C, D}
use Rattle.plex_num.proofs.Members.{first_or_later, none_in, in_filter, first_is, later_is}
use Rattle.exchange_model.specs.declared.exchange.Exchange.{Exchange}
use Rattle.flow_points.specs.Facts.{Facts}
use Rattle.entry_summary.specs.Orders.{level_number, level_order}
use Rattle.entry_summary.specs.Summaries.{MaySendTo}
use Rattle.entry_accesses.specs.Levels.{is_sent, in_order}

pub is_among : (sent : List Level) (level : Level) (b : Bool) (old new : List Level) → b ≡ is_sent sent level → b ≡ true
    → new ≡ old ++ level ∷ [] → new ≡ old ++ filter (is_sent sent) (level ∷ [])
is_among sent level b old new is yes_is made = made ∙ ap (λ t. old ++ (if t then level ∷ [] else [])) (sym yes_is ∙ is)

pub not_among : (sent : List Level) (level : Level) (b : Bool) (old : List Level) → b ≡ is_sent sent level → b ≡ false
    → old ≡ old ++ filter (is_sent sent) (level ∷ [])
not_among sent level b old is no_is = sym (append-nil old) ∙ ap (λ t. old ++ (if t then level ∷ [] else [])) (sym no_is ∙ is)

-- a level by its number

level_at : ℕ → Level
level_at zero = A
level_at (suc zero) = B
level_at (suc (suc zero)) = C
level_at (suc (suc (suc n))) = D

level_back : (l : Level) → level_at (level_number l) ≡ l
unfolding level_at
level_back A = refl
level_back B = refl
level_back C = refl
level_back D = refl

same_level : (l m : Level) → nat_eq (level_number l) (level_number m) ≡ true → l ≡ m
same_level l m is = sym (level_back l) ∙ ap level_at (eqb-true (level_number l) (level_number m) is) ∙ level_back m

-- a level is found exactly where it is among those that were sent to

pub found_is : (sent : List Level) (l : Level) → is_sent sent l ≡ true → Contains sent l
found_is [] l is = absurd (let clash : false ≡ true = is in cc)
found_is (m ∷ sent) l is = by (nat_eq (level_number m) (level_number l)) refl is (found_is sent l)
  where
    by : (t : Bool) → nat_eq (level_number m) (level_number l) ≡ t → (t || is_sent sent l) ≡ true
        → (is_sent sent l ≡ true → Contains sent l) → Contains (m ∷ sent) l
    by true here h rest = subst (Contains (m ∷ sent)) (same_level m l here) (first_is m sent)
    by false here h rest = later_is m l sent (rest h)

pub is_found : (sent : List Level) (l : Level) → Contains sent l → is_sent sent l ≡ true
is_found [] l c = absurd (none_in l c)
is_found (m ∷ sent) l c = by (nat_eq (level_number m) (level_number l)) refl (is_found sent l)
  where
    by : (t : Bool) → nat_eq (level_number m) (level_number l) ≡ t → (Contains sent l → is_sent sent l ≡ true) → (t || is_sent sent l) ≡ true
    by true here rest = refl
    by false here rest =
        ⊎_elim
        (λ same. absurd (let clash : false ≡ true = sym here ∙ ap (λ k. nat_eq (level_number k) (level_number l)) same
        ∙ eq-eqb (level_number l) (level_number l) refl in cc))
        rest
        (first_or_later m l sent c)

of_filter : {T : Type 0} (p : T → Bool) (xs : List T) (x : T) → Contains (filter p xs) x → p x ≡ true
of_filter p [] x c = absurd (none_in x c)
of_filter {T} p (y ∷ xs) x c = by (p y) refl c (of_filter p xs x)
  where
    by : (t : Bool) → p y ≡ t → Contains (if t then y ∷ filter p xs else filter p xs) x → (Contains (filter p xs) x → p x ≡ true) → p x ≡ true
    by true at h rest = ⊎_elim (λ same. subst (λ z. p z ≡ true) same at) rest (first_or_later y x (filter p xs) h)
    by false at h rest = rest h

every_level : (l : Level) → Contains (A ∷ B ∷ C ∷ D ∷ []) l
every_level A = first_is A (B ∷ C ∷ D ∷ [])
every_level B = later_is A B (B ∷ C ∷ D ∷ []) (first_is B (C ∷ D ∷ []))
every_level C = later_is A C (B ∷ C ∷ D ∷ []) (later_is B C (C ∷ D ∷ []) (first_is C (D ∷ [])))
every_level D = later_is A D (B ∷ C ∷ D ∷ []) (later_is B D (C ∷ D ∷ []) (later_is C D (D ∷ []) (first_is D [])))

pub levels_exact : (x : Exchange) (P : Facts) (e : ℕ) (sent given levels : List Level)
    → ((l : Level) → Contains sent l ↔ MaySendTo x P e l) → given ≡ sent → levels ≡ in_order given → (l : Level)
    → Contains levels l ↔ MaySendTo x P e l
levels_exact x P e sent given levels exact same is l =
    let at : levels ≡ in_order sent = is ∙ ap in_order same in (
      λ c. (exact l).0 (found_is sent l (of_filter (is_sent sent) (A ∷ B ∷ C ∷ D ∷ []) l (subst (λ k. Contains k l) at c))),
      λ h. subst (λ k. Contains k l) (sym at) (in_filter (is_sent sent) (A ∷ B ∷ C ∷ D ∷ []) l (is_found sent l ((exact l).1 h)) (every_level l)),
    )

levels_rise : IsStrictlySortedBy level_order (A ∷ B ∷ C ∷ D ∷ [])
unfolding IsStrictlySortedBy
levels_rise = ((refl, (refl, (refl, tt))), ((refl, (refl, tt)), ((refl, tt), (tt, tt))))

pub levels_rising : (given levels : List Level) → levels ≡ in_order given → IsStrictlySortedBy level_order levels
levels_rising given levels is = subst (IsStrictlySortedBy level_order) (sym is)
    (IsStrictlySortedBy-filter level_order (is_sent given) (A ∷ B ∷ C ∷ D ∷ []) levels_rise)
