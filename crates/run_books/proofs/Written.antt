-- Stores that are made one after the other.
use Rattle.std.proofs.Common.{◌≡◌, ℕ, zero, suc, ◌+◌, ◌<◌, ◌≤◌, Bool, true, List, [], ◌∷◌, ◌++◌}
use Rattle.std.proofs.Common.{map, take, length, get_or, Option, slice_set, refl, sym, ap, subst}
use Rattle.std.proofs.Common.{◌∙◌, arith}
use Rattle.std.proofs.lemmas.List.{map-append, take_more, take_all}
use Rattle.std.specs.List.{AllByRecursion}
use Rattle.job_types.specs.declared.touch.Touch.{Touch}
use Rattle.job_types.specs.declared.touch.Touch.TheVariants.{Store}
use Rattle.job_types.specs.Touches.{stored}
use Rattle.job_types.proofs.Touched.{stored-append}
use Rattle.machine_code.specs.Told.{told_all, told_more}
use Rattle.machine_code.proofs.Told.{told_all-append, told_all-none}
use Rattle.run_books.specs.Stores.{MayStore, touch_of}
use Rattle.run_books.specs.declared.stores.Write.{Write}

-- words of these values, which told these touches, after the first of these stores
pub record Wrote (vs : List ℕ) (t : Option (List Touch)) (ws : List Write) (index : ℕ) (vs2 : List ℕ) (t2 : Option (List Touch)) : Type 0 where
  pub values : vs2 ≡ stored vs (map touch_of (take index ws))
  pub told : t2 ≡ told_all t (map touch_of (take index ws))

pub wrote_begin : (vs : List ℕ) (t : Option (List Touch)) (ws : List Write) → Wrote vs t ws 0 vs t
wrote_begin vs t ws = record { values = refl; told = sym (told_all-none t) }

pub wrote_more : (vs : List ℕ) (t : Option (List Touch)) (ws : List Write) (index : ℕ) (vs2 vs3 : List ℕ)
    (t2 t3 : Option (List Touch)) (d : Write) → index < length ws
    → vs3 ≡ slice_set vs2 (get_or ws index d).word (get_or ws index d).value → t3 ≡ told_more t2 (Store (get_or ws index d).word (get_or ws index d).value)
    → Wrote vs t ws index vs2 t2 → Wrote vs t ws (index + 1) vs3 t3
wrote_more vs t ws index vs2 vs3 t2 t3 d within set told l =
    let w = get_or ws index d in
    let front = map touch_of (take index ws) in
    let longer : map touch_of (take (index + 1) ws) ≡ front ++ touch_of w ∷ [] =
    ap (map touch_of) (take_more ws index d within) ∙ map-append touch_of (take index ws) (w ∷ []) in
    record {
      values = set ∙ ap (λ us. slice_set us w.word w.value) l.values ∙ sym (stored-append front (touch_of w ∷ []) vs) ∙ sym (ap (stored vs) longer);
      told = told ∙ ap (λ o. told_all o (touch_of w ∷ [])) l.told ∙ told_all-append t front (touch_of w ∷ []) ∙ sym (ap (told_all t) longer);
    }

pub wrote_values : (vs : List ℕ) (t : Option (List Touch)) (ws : List Write) (index : ℕ) (vs2 : List ℕ)
    (t2 : Option (List Touch)) → length ws ≤ index → Wrote vs t ws index vs2 t2
    → vs2 ≡ stored vs (map touch_of ws)
wrote_values vs t ws index vs2 t2 past l = l.values ∙ ap (λ us. stored vs (map touch_of us)) (take_all index ws past)

pub wrote_told : (vs : List ℕ) (t : Option (List Touch)) (ws : List Write) (index : ℕ) (vs2 : List ℕ)
    (t2 : Option (List Touch)) → length ws ≤ index → Wrote vs t ws index vs2 t2
    → t2 ≡ told_all t (map touch_of ws)
wrote_told vs t ws index vs2 t2 past l = l.told ∙ ap (λ us. told_all t (map touch_of us)) (take_all index ws past)

-- each may be written
pub each_may : (may : ℕ → Bool) (ws : List Write) (index : ℕ) (d : Write)
    → AllByRecursion (λ (s : Write). may s.word ≡ true) ws → index < length ws → may (get_or ws index d).word ≡ true
each_may may [] index d all within = absurd (omega (arith, within))
each_may may (v ∷ ws) zero d all within = all.0
each_may may (v ∷ ws) (suc index) d all within = each_may may ws index d all.1 (omega (arith, within))

-- where the stores of these touches may be made
pub stores_allowed : (may : ℕ → Bool) (ws : List Write) (ts : List Touch) → map touch_of ws ≡ ts → MayStore may ts
    → AllByRecursion (λ (s : Write). may s.word ≡ true) ws
stores_allowed may ws ts is all = each ws (subst (MayStore may) (sym is) all)
  where
    each : (ws : List Write) → MayStore may (map touch_of ws) → AllByRecursion (λ (s : Write). may s.word ≡ true) ws
    each [] all = tt
    each (w ∷ ws) all = (all.0, each ws all.1)
