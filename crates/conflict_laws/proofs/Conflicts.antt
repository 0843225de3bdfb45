-- The rows list exactly the conflicts.
use Rattle.std.proofs.Common.{◌≡◌, ◌↔◌, inl, inr, ⊎_elim, ℕ, ◌+◌, nat_lt, List, length, Option}
use Rattle.std.proofs.Common.{Some, None, refl, sym, ap, ◌∙◌, subst}
use Rattle.std.specs.Option.{option_map}
use Rattle.std.proofs.lemmas.Bool.{ltb-true}
use Rattle.std.proofs.lemmas.Option.{none-some, same_Some}
use Rattle.flow_points.specs.declared.fact.Value.{Value}
use Rattle.entry_summary.specs.declared.summary.Summary.{Summary}
use Rattle.entry_summary.specs.Orders.{level_number}
use Rattle.pair_tests.specs.declared.pair.Conflict.{Conflict}
use Rattle.pair_tests.specs.declared.pair.Conflict.TheVariants as conflict
use Rattle.pair_tests.specs.Clashes.{Clashes, ClashesAbove, clash_of}
use Rattle.pair_tests.specs.Pairs.{IsConflict, on_level}
use Rattle.pair_tests.proofs.Conflicting.{chosen, clash_is, conflict_cases}
use Rattle.conflicts_meaning.specs.declared.rows.Clash.{Clash}
use Rattle.conflicts_meaning.specs.declared.rows.Clash.TheVariants as clash
use Rattle.conflicts_meaning.specs.declared.rows.ClashRow.{ClashRow}
use Rattle.conflicts_meaning.specs.Rows.{AreClashRows, IsClashRow, listed}
use Rattle.conflict_laws.specs.Conflicts.{IsToldIn}
use Rattle.conflict_rows.proofs.Alone.{stands_at}
use Rattle.conflict_rows.proofs.Finding.{contained}
use Rattle.conflict_rows.proofs.Pointed.{same_level}

-- different conflicts are listed differently

one_variable : (n m : ℕ) → clash.Variable n ≡ clash.Variable m → n ≡ m
one_variable n m e = cc

one_file : (f g : ℕ) → clash.Seizing f ≡ clash.Seizing g → f ≡ g
one_file f g e = cc

one_level : (l m : ℕ) → clash.Above l ≡ clash.Above m → l ≡ m
one_level l m e = cc

one_field : (n m : ℕ) (u v w z : Value) → clash.Field n u v ≡ clash.Field m w z → n ≡ m
one_field n m u v w z e = cc

one_first : (n m : ℕ) (u v w z : Value) → clash.Field n u v ≡ clash.Field m w z → u ≡ w
one_first n m u v w z e = cc

one_later : (n m : ℕ) (u v w z : Value) → clash.Field n u v ≡ clash.Field m w z → v ≡ z
one_later n m u v w z e = cc

pub listed_once : (c d : Conflict) → listed c ≡ listed d → c ≡ d
listed_once (conflict.Variable n) (conflict.Variable m) e = ap conflict.Variable (one_variable n m e)
listed_once (conflict.Field n u v) (conflict.Field m w z) e = λ i. conflict.Field (one_field n m u v w z e i)
    (one_first n m u v w z e i) (one_later n m u v w z e i)
listed_once (conflict.Seizing f) (conflict.Seizing g) e = ap conflict.Seizing (one_file f g e)
listed_once (conflict.Above l) (conflict.Above m) e = ap conflict.Above (same_level l m (one_level (level_number l) (level_number m) e))
listed_once _ _ e = cc

pub record Mapped (o : Option Conflict) (y : Clash) : Type 0 where
  pub conflict : Conflict
  pub some : o ≡ Some conflict
  pub is : listed conflict ≡ y

pub mapped : (o : Option Conflict) (y : Clash) → option_map listed o ≡ Some y → Mapped o y
mapped (Some c) y e = record { conflict = c; some = refl; is = same_Some (listed c) y e }
mapped None y e = absurd (none-some y e)

module _ (first later : Summary) where
  pub of_row : (c : Conflict) (r : ClashRow) → r.clash ≡ listed c → IsClashRow first later r → IsConflict first later c
  of_row c r same (inl h) =
      let m = mapped (clash_of h.one h.other) r.clash h.clash in
      subst (IsConflict first later) (listed_once m.conflict c (m.is ∙ same))
      (clash_is first later h.one h.other m.conflict (contained first.accesses r.first h.one h.of_first)
      (contained later.accesses r.later h.other h.of_later) m.some)
  of_row c r same (inr h) =
      subst (IsConflict first later) (listed_once (conflict.Above h.level) c (sym h.clash ∙ same))
      (on_level h.level (contained first.levels h.place h.level h.of_first) h.below)

  -- a row of the conflict
  record RowOf (c : Conflict) : Type 0 where
    row : ClashRow
    is : row.clash ≡ listed c
    clashes : IsClashRow first later row

  of_accesses : (c : Conflict) → Clashes first.accesses later.accesses c → RowOf c
  of_accesses c h =
      let one = stands_at first.accesses h.one h.there in
      let other = stands_at later.accesses h.clash.other h.clash.there in
      record {
        row = record { clash = listed c; first = one.0; later = other.0 };
        is = refl;
        clashes = inl (record { one = h.one; other = h.clash.other; of_first = one.1; of_later = other.1; clash = ap (option_map listed) h.clash.clash });
      }

  of_level : (c : Conflict) → ClashesAbove first.levels later.level c → RowOf c
  of_level c h =
      let at = stands_at first.levels h.level h.there in
      let e = chosen (nat_lt (level_number h.level) (level_number later.level)) (conflict.Above h.level) c h.clash in
      record {
        row = record { clash = listed c; first = length first.accesses + at.0; later = 0 };
        is = refl;
        clashes = inr (record {
          level = h.level;
          place = at.0;
          of_first = at.1;
          number = refl;
          alone = refl;
          clash = ap listed (sym e.1);
          below = ltb-true (level_number h.level) (level_number later.level) e.0;
        });
      }

  row_of : (c : Conflict) → IsConflict first later c → RowOf c
  row_of c h = ⊎_elim (of_accesses c) (of_level c) (conflict_cases first later c h)

pub all_told : (first later : Summary) (rows : List ClashRow) → AreClashRows first later rows → (c : Conflict) → IsConflict first later c ↔ IsToldIn rows c
all_told first later rows are c = (
  λ h. (let r = row_of first later c h in record { row = r.row; there = (are.exact r.row).1 r.clashes; is = r.is }),
  λ t. of_row first later c t.row t.is ((are.exact t.row).0 t.there),
)
