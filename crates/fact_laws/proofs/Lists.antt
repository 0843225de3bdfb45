-- What a list of numbers has at a place: padded with zeros, past its end, and in front.
use Rattle.std.proofs.Common.{◌≡◌, ℕ, zero, suc, ◌<◌, ◌≤◌, List, [], ◌∷◌, ◌++◌, length, take, refl}
use Rattle.std.proofs.Common.{arith}
use Rattle.std.specs.Prelude.{slice_index, replicate}
use Rattle.source_meaning.specs.Config.{blank}
use Rattle.job_types.specs.Own.{eight}
use Rattle.plex_limits.specs.declared.limits.TheConstants.{MOST_TEMPORARIES, MOST_VALUES}
use Rattle.std.specs.Prelude.{◌-◌}
use Rattle.plex_num.proofs.Lists.{index_zeros}

index_padded : (vs : List ℕ) (n k : ℕ) → slice_index (vs ++ replicate n 0) k ≡ slice_index vs k
index_padded [] n k = index_zeros n k
index_padded (v ∷ vs) n zero = refl
index_padded (v ∷ vs) n (suc k) = index_padded vs n k

pub index_blank : (k : ℕ) → slice_index blank k ≡ 0
index_blank k = index_zeros MOST_TEMPORARIES k

pub index_eight : (vs : List ℕ) (k : ℕ) → slice_index (eight vs) k ≡ slice_index vs k
index_eight vs k = index_padded vs (MOST_VALUES - length vs) k

pub index_past : (vs : List ℕ) (k : ℕ) → length vs ≤ k → slice_index vs k ≡ 0
index_past [] k h = refl
index_past (v ∷ vs) zero h = absurd (omega arith)
index_past (v ∷ vs) (suc k) h = index_past vs k (omega arith)

pub index_take : (n : ℕ) (vs : List ℕ) (k : ℕ) → k < n → slice_index (take n vs) k ≡ slice_index vs k
index_take zero vs k lt = absurd (omega arith)
index_take (suc n) [] k lt = refl
index_take (suc n) (v ∷ vs) zero lt = refl
index_take (suc n) (v ∷ vs) (suc k) lt = index_take n vs k (omega arith)

pub index_past_take : (n : ℕ) (vs : List ℕ) (k : ℕ) → n ≤ k → slice_index (take n vs) k ≡ 0
index_past_take zero [] k le = refl
index_past_take zero (v ∷ vs) k le = refl
index_past_take (suc n) [] k le = refl
index_past_take (suc n) (v ∷ vs) zero le = absurd (omega arith)
index_past_take (suc n) (v ∷ vs) (suc k) le = index_past_take n vs k (omega arith)
