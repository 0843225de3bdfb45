-- The verdict of a pair follows from its first row.
use Rattle.std.proofs.Common.{◌≡◌, ◌↔◌, inl, inr, ℕ, zero, suc, List, [], ◌∷◌, Some, refl, sym, ap}
use Rattle.std.proofs.Common.{◌∙◌, subst, arith}
use Rattle.std.specs.Prelude.{slice_get}
use Rattle.std.specs.List.{Contains}
use Rattle.std.proofs.lemmas.Option.{same_Some}
use Rattle.plex_num.proofs.Members.{first_is, none_in}
use Rattle.entry_summary.specs.declared.summary.Summary.{Summary}
use Rattle.pair_tests.specs.declared.pair.Conflict.{Conflict}
use Rattle.pair_tests.specs.declared.pair.Conflict.TheVariants as conflict
use Rattle.pair_tests.specs.declared.pair.Verdict.{Verdict}
use Rattle.pair_tests.specs.declared.pair.Verdict.TheVariants.{Never, Tests}
use Rattle.pair_tests.specs.Clashes.{clash_of}
use Rattle.pair_tests.specs.Orders.{Precedes}
use Rattle.pair_tests.specs.Pairs.{HasNoConflict, IsConflict, IsFirstConflict, IsVerdict}
use Rattle.pair_tests.proofs.Conflicting.{first_is_one}
use Rattle.pair_tests.proofs.Preceding.{none_before_itself}
use Rattle.conflicts_meaning.specs.declared.rows.ClashRow.{ClashRow}
use Rattle.conflicts_meaning.specs.Rows.{AreClashRows, IsClashRow, listed}
use Rattle.conflict_rows.proofs.Alone.{stands_at}
use Rattle.conflict_rows.proofs.Finding.{contained}
use Rattle.conflict_laws.specs.Conflicts.{IsToldAt, IsToldIn, TellVerdict}
use Rattle.conflict_laws.proofs.Conflicts.{all_told, listed_once, mapped}
use Rattle.conflict_laws.proofs.Ordered.{in_order}

-- the conflict of a row
record ConflictOf (r : ClashRow) : Type 0 where
  conflict : Conflict
  is : r.clash ≡ listed conflict

conflict_of : (first later : Summary) (r : ClashRow) → IsClashRow first later r → ConflictOf r
conflict_of first later r (inl h) = (let m = mapped (clash_of h.one h.other) r.clash h.clash in record { conflict = m.conflict; is = sym m.is })
conflict_of first later r (inr h) = record { conflict = conflict.Above h.level; is = h.clash }

-- an index at which a conflict is listed
record Placed (rows : List ClashRow) (c : Conflict) : Type 0 where
  place : ℕ
  told : IsToldAt rows place c

placed : (rows : List ClashRow) (c : Conflict) → IsToldIn rows c → Placed rows c
placed rows c h = (let s = stands_at rows h.row h.there in record { place = s.0; told = record { row = h.row; there = s.1; is = h.is } })

-- the conflict at an index is unique
one_told : (rows : List ClashRow) (i : ℕ) (c d : Conflict) → IsToldAt rows i c → IsToldAt rows i d → c ≡ d
one_told rows i c d one other =
    let row : one.row ≡ other.row = same_Some one.row other.row (sym one.there ∙ other.there) in
    listed_once c d (sym one.is ∙ ap (λ (r : ClashRow). r.clash) row ∙ other.is)

-- a list with an item has a first one; a list without items is empty

first_there : (rows : List ClashRow) (r : ClashRow) → Contains rows r → (q : ClashRow) × (slice_get rows 0 ≡ Some q)
first_there [] r c = absurd (none_in r c)
first_there (q ∷ rest) r c = (q, refl)

nothing_there : (rows : List ClashRow) → ((q : ClashRow) → Contains rows q → ⊥) → rows ≡ []
nothing_there [] none = refl
nothing_there (q ∷ rest) none = absurd (none q (first_is q rest))

module _ (first later : Summary) (rows : List ClashRow) (are : AreClashRows first later rows) where
  at : (c : Conflict) → IsConflict first later c → Placed rows c
  at c h = placed rows c ((all_told first later rows are c).0 h)

  row_conflict : (q : ClashRow) → Contains rows q → ConflictOf q
  row_conflict q c = conflict_of first later q ((are.exact q).0 c)

  is_conflict : (c : Conflict) (q : ClashRow) → Contains rows q → q.clash ≡ listed c → IsConflict first later c
  is_conflict c q there is = (all_told first later rows are c).1 (record { row = q; there = there; is = is })

  -- no conflict in the list precedes that of the first row
  not_sooner : (c d : Conflict) (j : ℕ) → IsToldAt rows 0 c → IsToldAt rows j d → Precedes d c → ⊥
  not_sooner c d zero one other before = none_before_itself c (subst (λ e. Precedes e c) (one_told rows 0 d c other one) before)
  not_sooner c d (suc j) one other before = (in_order rows are.rising).none_before 0 (suc j) c d (omega arith) one other before

  first_conflict : (c : Conflict) → IsToldAt rows 0 c → IsFirstConflict first later c
  first_conflict c one = record {
    conflict = is_conflict c one.row (contained rows 0 one.row one.there) one.is;
    none_before = λ d h before. (let p = at d h in not_sooner c d p.place one p.told before);
  }

  told_first : (c : Conflict) → IsFirstConflict first later c → IsToldAt rows 0 c
  told_first c h =
      let t = (all_told first later rows are c).0 h.conflict in
      let q = first_there rows t.row t.there in
      let e = row_conflict q.0 (contained rows 0 q.0 q.1) in
      let one : IsToldAt rows 0 e.conflict = record { row = q.0; there = q.1; is = e.is } in
      subst (IsToldAt rows 0) (first_is_one first later e.conflict c (first_conflict e.conflict one) h) one

  no_rows : HasNoConflict first later → rows ≡ []
  no_rows none = nothing_there rows (λ q c. (let e = row_conflict q c in none e.conflict (is_conflict e.conflict q c e.is)))

  no_conflict : rows ≡ [] → HasNoConflict first later
  no_conflict same c h = (let t = (all_told first later rows are c).0 h in none_in t.row (subst (λ l. Contains l t.row) same t.there))

  pub verdict : (v : Verdict) → IsVerdict first later v ↔ TellVerdict rows v
  verdict (Never c) = (told_first c, first_conflict c)
  verdict Tests = (no_rows, no_conflict)
