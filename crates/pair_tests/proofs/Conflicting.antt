-- Conflicts of accesses and levels are the conflicts of two summaries.
use Rattle.std.proofs.Common.{◌≡◌, ◌⊎◌, inl, inr, ℕ, Bool, true, false, ◌&&◌, ◌||◌, nat_eq, nat_lt}
use Rattle.std.proofs.Common.{List, Option, Some, refl, sym, subst}
use Rattle.std.proofs.lemmas.Bool.{eqb-true, eq-eqb, and_from, and_parts, ltb-true, lt-ltb}
use Rattle.std.proofs.lemmas.Option.{none-some, same_Some}
use Rattle.std.specs.List.{Contains}
use Rattle.plex_num.specs.declared.level.Level.{Level}
use Rattle.flow_points.specs.declared.fact.Value.{Value}
use Rattle.flow_points.specs.declared.fact.Value.TheVariants.{Arg, Const, Any}
use Rattle.entry_summary.specs.declared.summary.Access.{Access}
use Rattle.entry_summary.specs.declared.summary.Access.TheVariants.{Variable, Field, Seizes, Frees}
use Rattle.entry_summary.specs.declared.summary.Summary.{Summary}
use Rattle.entry_summary.specs.Orders.{level_number}
use Rattle.pair_tests.specs.declared.pair.Conflict.{Conflict}
use Rattle.pair_tests.specs.declared.pair.Conflict.TheVariants as conflict
use Rattle.pair_tests.specs.Clashes.{share, meet, only_if, clash_of, Clashes, ClashesAbove}
use Rattle.pair_tests.specs.Clashes.{IsLeastConflict, IsSooner}
use Rattle.pair_tests.specs.Pairs.{ShareFile, both_seize, later_frees, first_frees, Meet}
use Rattle.pair_tests.specs.Pairs.{IsConflict, IsFirstConflict, on_variable, on_field, on_file}
use Rattle.pair_tests.specs.Pairs.{on_level}
use Rattle.pair_tests.proofs.Leasts.{least_joined}
use Rattle.pair_tests.proofs.Preceding.{Ranked, Same, Before, After, ranked}

pub chosen : (b : Bool) (x y : Conflict) → only_if b x ≡ Some y → (b ≡ true) × (x ≡ y)
chosen true x y e = (refl, same_Some x y e)
chosen false x y e = absurd (none-some y e)

choose : (b : Bool) (x : Conflict) → b ≡ true → only_if b x ≡ Some x
choose true x e = refl
choose false x e = cc

pub meet_is : (u v : Value) → meet u v ≡ true → Meet u v
meet_is Any v e = tt
meet_is (Arg k) Any e = tt
meet_is (Arg k) (Arg l) e = cc
meet_is (Arg k) (Const d) e = cc
meet_is (Const c) Any e = tt
meet_is (Const c) (Arg l) e = cc
meet_is (Const c) (Const d) e = eqb-true c d e

pub meet_has : (u v : Value) → Meet u v → meet u v ≡ true
meet_has Any v m = refl
meet_has (Arg k) Any m = refl
meet_has (Arg k) (Arg l) m = absurd m
meet_has (Arg k) (Const d) m = absurd m
meet_has (Const c) Any m = refl
meet_has (Const c) (Arg l) m = absurd m
meet_has (Const c) (Const d) m = eq-eqb c d m

-- what a test of two accesses tells, for accesses of this kind

pub record Shared (n m : ℕ) (w v : Bool) : Type 0 where
  pub number : n ≡ m
  pub writes : (w || v) ≡ true

pub shared : (n m : ℕ) (w v : Bool) → share n m w v ≡ true → Shared n m w v
shared n m w v e = (let h = and_parts (nat_eq n m) (w || v) e in record { number = eqb-true n m h.0; writes = h.1 })

pub sharing : (n : ℕ) (w v : Bool) → (w || v) ≡ true → share n n w v ≡ true
sharing n w v e = and_from (nat_eq n n) (w || v) (eq-eqb n n refl) e

module _ (first later : Summary) where
  file_clash : (f g : ℕ) (c : Conflict) → (f ≡ g → ShareFile first later f) → only_if (nat_eq f g) (conflict.Seizing f) ≡ Some c → IsConflict first later c
  file_clash f g c shares e =
      let h = chosen (nat_eq f g) (conflict.Seizing f) c e in
      subst (IsConflict first later) h.1 (on_file f (shares (eqb-true f g h.0)))

  pub clash_is : (one other : Access) (c : Conflict) → Contains first.accesses one → Contains later.accesses other
      → clash_of one other ≡ Some c → IsConflict first later c
  clash_is (Variable w n) (Variable v m) c at there e =
      let h = chosen (share n m w v) (conflict.Variable n) c e in
      let s = shared n m w v h.0 in
      subst (IsConflict first later) h.1 (on_variable n (record {
        first_writes = w;
        later_writes = v;
        by_first = at;
        by_later = subst (λ k. Contains later.accesses (Variable v k)) (sym s.number) there;
        one_writes = s.writes;
      }))
  clash_is (Field w n u) (Field v m z) c at there e =
      let h = chosen (share n m w v && meet u z) (conflict.Field n u z) c e in
      let b = and_parts (share n m w v) (meet u z) h.0 in
      let s = shared n m w v b.0 in
      subst (IsConflict first later) h.1 (on_field n u z (record {
        first_writes = w;
        later_writes = v;
        by_first = at;
        by_later = subst (λ k. Contains later.accesses (Field v k z)) (sym s.number) there;
        one_writes = s.writes;
      }) (meet_is u z b.1))
  clash_is (Seizes f) (Seizes g) c at there e = file_clash f g c (λ s. both_seize at (subst (λ k. Contains later.accesses (Seizes k)) (sym s) there)) e
  clash_is (Seizes f) (Frees g) c at there e = file_clash f g c (λ s. later_frees at (subst (λ k. Contains later.accesses (Frees k)) (sym s) there)) e
  clash_is (Frees f) (Seizes g) c at there e = file_clash f g c (λ s. first_frees at (subst (λ k. Contains later.accesses (Seizes k)) (sym s) there)) e
  clash_is _ _ c at there e = absurd (none-some c e)

  clashes : (one other : Access) (c : Conflict) → Contains first.accesses one → Contains later.accesses other
      → clash_of one other ≡ Some c → Clashes first.accesses later.accesses c
  clashes one other c at there e = record { one = one; there = at; clash = record { other = other; there = there; clash = e } }

  file_has : (f : ℕ) → ShareFile first later f → Clashes first.accesses later.accesses (conflict.Seizing f)
  file_has f (both_seize at there) = clashes (Seizes f) (Seizes f) (conflict.Seizing f) at there (choose (nat_eq f f) (conflict.Seizing f) (eq-eqb f f refl))
  file_has f (later_frees at there) = clashes (Seizes f) (Frees f) (conflict.Seizing f) at there (choose (nat_eq f f) (conflict.Seizing f) (eq-eqb f f refl))
  file_has f (first_frees at there) = clashes (Frees f) (Seizes f) (conflict.Seizing f) at there (choose (nat_eq f f) (conflict.Seizing f) (eq-eqb f f refl))

  pub conflict_cases : (c : Conflict) → IsConflict first later c → Clashes first.accesses later.accesses c ⊎ ClashesAbove first.levels later.level c
  conflict_cases c (on_variable n s) =
      inl (clashes (Variable s.first_writes n) (Variable s.later_writes n) (conflict.Variable n) s.by_first s.by_later
      (choose (share n n s.first_writes s.later_writes) (conflict.Variable n) (sharing n s.first_writes s.later_writes s.one_writes)))
  conflict_cases c (on_field n u v s m) =
      inl (clashes (Field s.first_writes n u) (Field s.later_writes n v) (conflict.Field n u v) s.by_first s.by_later
      (choose (share n n s.first_writes s.later_writes && meet u v) (conflict.Field n u v)
      (and_from (share n n s.first_writes s.later_writes) (meet u v) (sharing n s.first_writes s.later_writes s.one_writes) (meet_has u v m))))
  conflict_cases c (on_file f s) = inl (file_has f s)
  conflict_cases c (on_level level at below) =
      inr (record {
        level = level;
        there = at;
        clash = choose (nat_lt (level_number level) (level_number later.level)) (conflict.Above level)
            (lt-ltb (level_number level) (level_number later.level) below);
      })

  pub of_accesses : (c : Conflict) → Clashes first.accesses later.accesses c → IsConflict first later c
  of_accesses c h = clash_is h.one h.clash.other c h.there h.clash.there h.clash.clash

  pub of_level : (c : Conflict) → ClashesAbove first.levels later.level c → IsConflict first later c
  of_level c h =
      let e = chosen (nat_lt (level_number h.level) (level_number later.level)) (conflict.Above h.level) c h.clash in
      subst (IsConflict first later) e.1 (on_level h.level h.there (ltb-true (level_number h.level) (level_number later.level) e.0))

-- the first of the conflicts of accesses and of levels
pub first_of : (first later : Summary) (ones others : List Access) (levels : List Level) (clash above result : Option Conflict)
    → ones ≡ first.accesses → others ≡ later.accesses → levels ≡ first.levels
    → IsLeastConflict (Clashes ones others) clash → IsLeastConflict (ClashesAbove levels later.level) above
    → IsSooner clash above result → IsLeastConflict (IsConflict first later) result
first_of first later ones others levels clash above result same_ones same_others same_levels c a is =
    least_joined (Clashes first.accesses later.accesses) (ClashesAbove first.levels later.level) (IsConflict first later)
    (of_accesses first later) (of_level first later) (conflict_cases first later) clash above result
    (subst (λ l. IsLeastConflict (Clashes first.accesses l) clash) same_others (subst (λ l. IsLeastConflict (Clashes l others) clash) same_ones c))
    (subst (λ l. IsLeastConflict (ClashesAbove l later.level) above) same_levels a)
    is

-- a first conflict is the only one
only : (first later : Summary) (c d : Conflict) → IsFirstConflict first later c → IsFirstConflict first later d → Ranked c d → c ≡ d
only first later c d p q (Same e) = e
only first later c d p q (Before h) = absurd (q.none_before c p.conflict h)
only first later c d p q (After h) = absurd (p.none_before d q.conflict h)

pub first_is_one : (first later : Summary) (c d : Conflict) → IsFirstConflict first later c → IsFirstConflict first later d → c ≡ d
first_is_one first later c d p q = only first later c d p q (ranked c d)
