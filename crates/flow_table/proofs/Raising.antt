-- One caller more, and what comes from a source.
use Rattle.std.proofs.Common.{◌≡◌, ⊎_elim, ℕ, ◌+◌, ◌<◌, ◌≤◌, Bool, true, false, nat_lt}
use Rattle.std.proofs.Common.{if◌then◌else◌, List, [], ◌∷◌, ◌++◌, length, drop, get_or, Result}
use Rattle.std.proofs.Common.{IfOk, Ok, Err, refl, sym, ap, ◌∙◌, subst, append-nil, append_assoc}
use Rattle.std.proofs.Math.ListN.{drop_of_length-le}
use Rattle.std.proofs.lemmas.Bool.{ltb-true, lt-ltb, le-ltb}
use Rattle.std.proofs.lemmas.List.Elements.{Contains-append_left, Contains-append_right}
use Rattle.std.proofs.lemmas.List.Elements.{Contains-append_cases}
use Rattle.std.specs.List.{Contains}
use Rattle.plex_limits.specs.declared.limits.TheConstants.{MOST_CALLERS}
use Rattle.plex_num.specs.declared.seq.Memory.{Memory}
use Rattle.plex_num.proofs.Members.{none_in, first_or_later, first_is, later_is}
use Rattle.plex_num.proofs.Lists.{opens}
use Rattle.flow_points.specs.declared.fact.Slot.TheVariants.{Depth}
use Rattle.flow_points.specs.declared.fact.Value.{Value}
use Rattle.flow_points.specs.declared.fact.Value.TheVariants.{Arg, Const, Any}
use Rattle.flow_points.specs.declared.flow.Source.TheVariants.{Is, Deeper, Nothing}
use Rattle.flow_points.specs.Facts.{Facts, fact, SourceGives}
use Rattle.flow_table.specs.Giving.{AreValues, raised_one, raised}

pub raised_begin : (depths : List Value) (now : List Value) → now ≡ [] → now ++ raised depths ≡ raised depths
raised_begin depths now none = ap (λ l. l ++ raised depths) none

pub raised_more : (depths : List Value) (i : ℕ) (v : Value) (now new all : List Value) → i < length depths
    → v ≡ get_or depths i v → new ≡ now ++ raised_one v → now ++ raised (drop i depths) ≡ all
    → new ++ raised (drop (i + 1) depths) ≡ all
raised_more depths i v now new all lt is e h =
    ap (λ l. l ++ raised (drop (i + 1) depths)) e ∙ append_assoc now (raised_one v) (raised (drop (i + 1) depths))
    ∙ ap (λ l. now ++ raised l) (sym (opens depths i v lt is)) ∙ h

pub raised_end : (depths : List Value) (i : ℕ) (now all : List Value) → length depths ≤ i → now ++ raised (drop i depths) ≡ all → now ≡ all
raised_end depths i now all past h = sym (append-nil now) ∙ sym (ap (λ l. now ++ raised l) (drop_of_length-le depths past)) ∙ h

pub number_raised : (c : ℕ) (old new : List Value) → c < MOST_CALLERS → new ≡ old ++ Const (c + 1) ∷ [] → new ≡ old ++ raised_one (Const c)
number_raised c old new lt e = e ∙ ap (λ t. old ++ (if t then Const (c + 1) ∷ [] else [])) (sym (lt-ltb c MOST_CALLERS lt))

pub number_full : (c : ℕ) (old : List Value) → MOST_CALLERS ≤ c → old ≡ old ++ raised_one (Const c)
number_full c old le = sym (append-nil old) ∙ ap (λ t. old ++ (if t then Const (c + 1) ∷ [] else [])) (sym (le-ltb c MOST_CALLERS le))

pub none_raised : (v : Value) (old : List Value) → [] ≡ raised_one v → old ≡ old ++ raised_one v
none_raised v old none = sym (append-nil old) ∙ ap (λ l. old ++ l) none

-- what comes from a source

pub one_value : (P : Facts) (e p : ℕ) (w : Value) (vs : List Value) → vs ≡ w ∷ [] → AreValues (SourceGives P e p (Is w)) vs
one_value P e p w vs is = record {
  each = λ v c. ⊎_elim (λ same. sym same) (λ none. absurd (none_in v none)) (first_or_later w v [] (subst (λ l. Contains l v) is c));
  listed = λ v same. subst (λ l. Contains l v) (sym is) (subst (λ u. Contains (u ∷ []) v) same (first_is v []));
}

pub no_value : (P : Facts) (e p : ℕ) (vs : List Value) → vs ≡ [] → AreValues (SourceGives P e p Nothing) vs
no_value P e p vs none = record { each = λ v c. none_in v (subst (λ l. Contains l v) none c); listed = λ v h. absurd h }

abbrev Raised : List Value → Value → Type 0
Raised depths v = (c : ℕ) × (c < MOST_CALLERS) × (v ≡ Const (c + 1)) × Contains depths (Const c)

one_in : (u v : Value) → Contains (raised_one u) v → (c : ℕ) × (c < MOST_CALLERS) × (v ≡ Const (c + 1)) × (u ≡ Const c)
one_in (Arg k) v h = absurd (none_in v h)
one_in Any v h = absurd (none_in v h)
one_in (Const c) v h = by (nat_lt c MOST_CALLERS) refl h
  where
    by : (t : Bool) → nat_lt c MOST_CALLERS ≡ t → Contains (if t then Const (c + 1) ∷ [] else []) v
        → (d : ℕ) × (d < MOST_CALLERS) × (v ≡ Const (d + 1)) × (Const c ≡ Const d)
    by true lt at = (c, ltb-true c MOST_CALLERS lt, ⊎_elim (λ same. sym same) (λ none. absurd (none_in v none)) (first_or_later (Const (c + 1)) v [] at), refl)
    by false lt at = absurd (none_in v at)

raised_each : (depths : List Value) (v : Value) → Contains (raised depths) v → Raised depths v
raised_each [] v h = absurd (none_in v h)
raised_each (u ∷ us) v h =
    ⊎_elim
    (λ here. let o = one_in u v here in (o.0, o.1, o.2, subst (λ w. Contains (w ∷ us) (Const o.0)) (sym o.3) (first_is (Const o.0) us)))
    (λ later. let o = raised_each us v later in (o.0, o.1, o.2, later_is u (Const o.0) us o.3))
    (Contains-append_cases (raised_one u) (raised us) v h)

in_one : (c : ℕ) → c < MOST_CALLERS → Contains (raised_one (Const c)) (Const (c + 1))
in_one c lt = subst (λ t. Contains (if t then Const (c + 1) ∷ [] else []) (Const (c + 1))) (sym (lt-ltb c MOST_CALLERS lt)) (first_is (Const (c + 1)) [])

raised_listed : (depths : List Value) (c : ℕ) → c < MOST_CALLERS → Contains depths (Const c) → Contains (raised depths) (Const (c + 1))
raised_listed [] c lt h = absurd (none_in (Const c) h)
raised_listed (u ∷ us) c lt h =
    ⊎_elim
    (λ same. Contains-append_left (raised_one u) (raised us) (Const (c + 1)) (subst (λ w. Contains (raised_one w) (Const (c + 1))) (sym same) (in_one c lt)))
    (λ later. Contains-append_right (raised_one u) (raised us) (Const (c + 1)) (raised_listed us c lt later))
    (first_or_later u (Const c) us h)

pub deeper_values : (P : Facts) (e p : ℕ) (depths vs : List Value) → AreValues (λ v. P (fact e p Depth v)) depths
    → vs ≡ raised depths → AreValues (SourceGives P e p Deeper) vs
deeper_values P e p depths vs are is = record {
  each = λ v c. (let r = raised_each depths v (subst (λ l. Contains l v) is c) in (r.0, r.1, r.2, are.each (Const r.0) r.3));
  listed = λ v h. subst (λ l. Contains l v) (sym is) (subst (Contains (raised depths)) (sym h.2) (raised_listed depths h.0 h.1 (are.listed (Const h.0) h.3)));
}

-- an answer of a call, read as another
pub ok_as : (r : Result (List Value) Memory) (A B : List Value → Type 0) → ((vs : List Value) → A vs → B vs) → IfOk r A → IfOk r B
ok_as (Ok vs) A B f h = f vs h
ok_as (Err e) A B f h = h
