-- Jobs are taken out one after the other, and each joins the others of its level.
use Rattle.std.proofs.Common.{◌≡◌, ℕ, List, [], ◌∷◌, ◌++◌, map, Some, sym, ap, ◌∙◌, subst}
use Rattle.std.proofs.lemmas.List.{append_assoc}
use Rattle.plex_num.specs.declared.level.Level.{Level}
use Rattle.plex_num.specs.declared.level.Level.TheVariants.{A, B, C, D}
use Rattle.job_types.specs.declared.job.Job.{Job}
use Rattle.job_types.specs.Waiting.{Waiting, after_pick, joins, last_at, pick}
use Rattle.block_change.specs.Renamed.{AreAtLevels, job_with, waiting_with}

-- each list behind that of the same level
abbrev pub behind : Waiting → Waiting → Waiting
behind v w = record { a = v.a ++ w.a; b = v.b ++ w.b; c = v.c ++ w.c; d = v.d ++ w.d }

-- the job at the front of a list goes behind the others of its level
front : (entries : List ℕ) (level : Level) (acc rest : Waiting) (j : Job) → j.level ≡ level
    → behind (joins (job_with entries j) acc) rest ≡ behind (last_at level (job_with entries j) acc) rest
front entries level acc rest j is = ap (λ l. behind (last_at l (job_with entries j) acc) rest) is

-- what a pick takes out, and what it leaves
pub record Picked (entries : List ℕ) (w : Waiting) (j : Job) : Type 0 where
  pub levels : AreAtLevels (after_pick w)
  pub moves : (acc : Waiting) → behind (joins (job_with entries j) acc) (waiting_with entries (after_pick w)) ≡ behind acc (waiting_with entries w)

picked_of : (entries : List ℕ) (a b c d : List Job) (j : Job) → AreAtLevels (record { a = a; b = b; c = c; d = d })
    → pick (record { a = a; b = b; c = c; d = d }) ≡ Some j → Picked entries (record { a = a; b = b; c = c; d = d }) j
picked_of entries (k ∷ rest) b c d j at is =
    let same : k ≡ j = cc in
    subst (Picked entries (record { a = k ∷ rest; b = b; c = c; d = d })) same (record {
      levels = record { a = at.a.1; b = at.b; c = at.c; d = at.d };
      moves = λ acc. front entries A acc (waiting_with entries (record { a = rest; b = b; c = c; d = d })) k at.a.0
          ∙ ap (λ l. record {
            a = l;
            b = acc.b ++ map (job_with entries) b;
            c = acc.c ++ map (job_with entries) c;
            d = acc.d ++ map (job_with entries) d;
          })
          (append_assoc acc.a (job_with entries k ∷ []) (map (job_with entries) rest));
    })
picked_of entries [] (k ∷ rest) c d j at is =
    let same : k ≡ j = cc in
    subst (Picked entries (record { a = []; b = k ∷ rest; c = c; d = d })) same (record {
      levels = record { a = tt; b = at.b.1; c = at.c; d = at.d };
      moves = λ acc. front entries B acc (waiting_with entries (record { a = []; b = rest; c = c; d = d })) k at.b.0
          ∙ ap (λ l. record {
            a = acc.a ++ [];
            b = l;
            c = acc.c ++ map (job_with entries) c;
            d = acc.d ++ map (job_with entries) d;
          })
          (append_assoc acc.b (job_with entries k ∷ []) (map (job_with entries) rest));
    })
picked_of entries [] [] (k ∷ rest) d j at is =
    let same : k ≡ j = cc in
    subst (Picked entries (record { a = []; b = []; c = k ∷ rest; d = d })) same (record {
      levels = record { a = tt; b = tt; c = at.c.1; d = at.d };
      moves = λ acc. front entries C acc (waiting_with entries (record { a = []; b = []; c = rest; d = d })) k at.c.0
          ∙ ap (λ l. record { a = acc.a ++ []; b = acc.b ++ []; c = l; d = acc.d ++ map (job_with entries) d })
          (append_assoc acc.c (job_with entries k ∷ []) (map (job_with entries) rest));
    })
picked_of entries [] [] [] (k ∷ rest) j at is =
    let same : k ≡ j = cc in
    subst (Picked entries (record { a = []; b = []; c = []; d = k ∷ rest })) same (record {
      levels = record { a = tt; b = tt; c = tt; d = at.d.1 };
      moves = λ acc. front entries D acc (waiting_with entries (record { a = []; b = []; c = []; d = rest })) k at.d.0
          ∙ ap (λ l. record { a = acc.a ++ []; b = acc.b ++ []; c = acc.c ++ []; d = l })
          (append_assoc acc.d (job_with entries k ∷ []) (map (job_with entries) rest));
    })
picked_of entries [] [] [] [] j at is = absurd (cc)

pub picked : (entries : List ℕ) (w : Waiting) (j : Job) → AreAtLevels w → Some j ≡ pick w → Picked entries w j
picked entries w j at is = picked_of entries w.a w.b w.c w.d j at (sym is)

pub moves_levels : (entries : List ℕ) (w left : Waiting) (j : Job) → AreAtLevels w → Some j ≡ pick w → left ≡ after_pick w → AreAtLevels left
moves_levels entries w left j at is after = subst AreAtLevels (sym after) (picked entries w j at is).levels

pub moves_more : (entries : List ℕ) (all acc acc2 w left : Waiting) (j k : Job) → AreAtLevels w → Some j ≡ pick w
    → left ≡ after_pick w → k ≡ job_with entries j → acc2 ≡ joins k acc
    → behind acc (waiting_with entries w) ≡ all → behind acc2 (waiting_with entries left) ≡ all
moves_more entries all acc acc2 w left j k at is after made joined before =
    ap (λ (v : Waiting). behind v (waiting_with entries left)) (joined ∙ ap (λ (l : Job). joins l acc) made)
    ∙ ap (λ (v : Waiting). behind (joins (job_with entries j) acc) (waiting_with entries v)) after
    ∙ (picked entries w j at is).moves acc
    ∙ before
