-- The names of each table differ.
use Rattle.std.proofs.Common.{◌≡◌, ℕ, List, length, refl, sym}
use Rattle.std.proofs.lemmas.Cmp.{nat_list_eq_equiv}
use Rattle.std.proofs.lemmas.Map.Made.{AllPairs-from_IsDistinct, IsDistinct-from_count}
use Rattle.std.specs.Bool.{Decides}
use Rattle.std.specs.Set.{distinct_count}
use Rattle.std.specs.Cmp.Lexicographic.{same_text}
use Rattle.name_tables.specs.Names.{keyword_names, operation_names}
use Rattle.name_tables.specs.Rows.{same_bytes, NamesDiffer}
use Rattle.name_tables.proofs.Places.{same_bytes-self}

-- names differ where as many are left when those that are equal count once
differ_from_count : (names : List (List ℕ)) → distinct_count same_bytes names ≡ length names → NamesDiffer names
differ_from_count names e = AllPairs-from_IsDistinct same_decides names (IsDistinct-from_count nat_list_eq_equiv names e)
  where
    same_decides : (a b : List ℕ) → Decides (same_bytes a b) (a ≡ b)
    same_decides a b = (λ h. same_text a b (sym h), λ e. same_bytes-self a b (same_bytes a b) e refl)

pub keyword_names_differ : NamesDiffer keyword_names
keyword_names_differ = differ_from_count keyword_names refl

pub operation_names_differ : NamesDiffer operation_names
operation_names_differ = differ_from_count operation_names refl
