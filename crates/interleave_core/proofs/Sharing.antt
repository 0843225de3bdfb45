-- Words that several jobs share, each of which leaves alone what the others touch.
use Rattle.std.proofs.Common.{◌≡◌, inl, inr, ◌⊎◌, ⊎_elim, ℕ, zero, suc, List, [], ◌∷◌, ◌++◌, Some}
use Rattle.std.proofs.Common.{slice_get, sym, ap, ◌∙◌, subst}
use Rattle.std.proofs.lemmas.Option.{none-some, same_Some}
use Rattle.std.specs.Prelude.{slice_index, slice_set}
use Rattle.std.specs.List.{AllByRecursion}
use Rattle.plex_num.proofs.Lists.{all_both, all_weaker}
use Rattle.job_types.specs.declared.touch.Touch.{Touch}
use Rattle.job_types.specs.declared.touch.Touch.TheVariants.{Load, Store}
use Rattle.job_types.specs.Touches.{NoStore, stored}
use Rattle.job_types.proofs.Touched.{stored-append, stored-kept}
use Rattle.source_meaning.specs.Traces.{IsTouched, LeavesAlone}
use Rattle.pair_laws.proofs.Touching.{lists_past, no_store_append}
use Rattle.interleave_core.specs.Follows.{AllApart, AreApart, one_after_other}

-- ## Fronts of lists

pub touched_left : (a b : List Touch) (w : ℕ) → IsTouched a w → IsTouched (a ++ b) w
touched_left [] b w at = absurd at
touched_left (t ∷ a) b w (inl is) = inl is
touched_left (t ∷ a) b w (inr at) = inr (touched_left a b w at)

pub touched_right : (a b : List Touch) (w : ℕ) → IsTouched b w → IsTouched (a ++ b) w
touched_right [] b w at = at
touched_right (t ∷ a) b w at = inr (touched_right a b w at)

touched_either : (a b : List Touch) (w : ℕ) → IsTouched (a ++ b) w → IsTouched a w ⊎ IsTouched b w
touched_either [] b w at = inr at
touched_either (t ∷ a) b w (inl is) = inl (inl is)
touched_either (t ∷ a) b w (inr at) = ⊎_elim (λ l. inl (inr l)) (λ r. inr r) (touched_either a b w at)

no_store_left : (a b : List Touch) (w : ℕ) → NoStore w (a ++ b) → NoStore w a
no_store_left [] b w none = tt
no_store_left (Load u v ∷ a) b w none = no_store_left a b w none
no_store_left (Store u v ∷ a) b w none = (none.0, no_store_left a b w none.1)

-- what is true of two lists is true of their fronts
pub apart_fronts : (a b more rest : List Touch) → AreApart (a ++ more) (b ++ rest) → AreApart a b
apart_fronts a b more rest h = record {
  first_alone = λ w at. no_store_left a more w (h.first_alone w (touched_left b rest w at));
  later_alone = λ w at. no_store_left b rest w (h.later_alone w (touched_left a more w at));
}

-- ## All lists

none_in_all : (tss : List (List Touch)) (w : ℕ) → AllByRecursion (NoStore w) tss → NoStore w (one_after_other tss)
none_in_all [] w all = tt
none_in_all (ts ∷ tss) w all = no_store_append w ts (one_after_other tss) all.0 (none_in_all tss w all.1)

-- what leaves each of them alone leaves all of them alone
pub leaves_all : (us : List Touch) (tss : List (List Touch)) → AllByRecursion (LeavesAlone us) tss → LeavesAlone us (one_after_other tss)
leaves_all us [] all = λ w at. absurd at
leaves_all us (ts ∷ tss) all = λ w at. ⊎_elim (λ l. all.0 w l) (λ r. leaves_all us tss all.1 w r) (touched_either ts (one_after_other tss) w at)

-- none of these stores to a word that the first one touches
none_by_others : (ts : List Touch) (tss : List (List Touch)) (w : ℕ) → AllByRecursion (AreApart ts) tss → IsTouched ts w → NoStore w (one_after_other tss)
none_by_others ts tss w apart at = none_in_all tss w (all_weaker (AreApart ts) (NoStore w) tss (λ us h. h.later_alone w at) apart)

-- ## One list grows

at_place : {A : Type 0} (P : A → Type 0) (xs : List A) (n : ℕ) (x y : A) → slice_get xs n ≡ Some x → AllByRecursion P (slice_set xs n y) → P y
at_place P [] n x y at all = absurd (none-some x at)
at_place P (z ∷ xs) zero x y at all = all.0
at_place P (z ∷ xs) (suc n) x y at all = at_place P xs n x y at all.1

-- one of several lists grows: its new stores may as well come last, and they find what the list
-- alone has left
pub record Grown (base : List ℕ) (tss : List (List Touch)) (place : ℕ) (ts more : List Touch) : Type 0 where
  pub words : stored (stored base (one_after_other tss)) more ≡ stored base (one_after_other (slice_set tss place (ts ++ more)))
  pub own : (w : ℕ) → IsTouched more w → slice_index (stored base (one_after_other tss)) w ≡ slice_index (stored base ts) w

grown_first : (tss : List (List Touch)) (base : List ℕ) (ts more : List Touch) → AllByRecursion (AreApart (ts ++ more)) tss → Grown base (ts ∷ tss) 0 ts more
grown_first tss base ts more apart =
    let rest = one_after_other tss in
    let others : (w : ℕ) → IsTouched more w → NoStore w rest = λ w at. none_by_others (ts ++ more) tss w apart (touched_right ts more w at) in
    record {
      words = ap (λ l. stored l more) (stored-append ts rest base)
          ∙ sym (lists_past more rest (stored base ts) others)
          ∙ ap (λ l. stored l rest) (sym (stored-append ts more base))
          ∙ sym (stored-append (ts ++ more) rest base);
      own = λ w at. ap (λ l. slice_index l w) (stored-append ts rest base) ∙ stored-kept rest (stored base ts) w (others w at);
    }

pub grown : (tss : List (List Touch)) (base : List ℕ) (place : ℕ) (ts more : List Touch) → slice_get tss place ≡ Some ts
    → AllApart (slice_set tss place (ts ++ more)) → Grown base tss place ts more
grown [] base place ts more at apart = absurd (none-some ts at)
grown (us ∷ tss) base zero ts more at apart =
    subst (λ vs. Grown base (vs ∷ tss) 0 ts more) (sym (same_Some us ts at)) (grown_first tss base ts more apart.0)
grown (us ∷ tss) base (suc n) ts more at apart =
    let rest = grown tss (stored base us) n ts more at apart.1 in
    let two = at_place (AreApart us) tss n ts (ts ++ more) at apart.0 in
    let alone : LeavesAlone us ts = λ w own. two.first_alone w (touched_left ts more w own) in
    record {
      words = ap (λ l. stored l more) (stored-append us (one_after_other tss) base)
          ∙ rest.words
          ∙ sym (stored-append us (one_after_other (slice_set tss n (ts ++ more))) base);
      own = λ w new. ap (λ l. slice_index l w) (stored-append us (one_after_other tss) base)
          ∙ rest.own w new
          ∙ ap (λ l. slice_index l w) (sym (lists_past ts us base alone))
          ∙ stored-kept us (stored base ts) w (two.first_alone w (touched_right ts more w new));
    }

-- ## What each list finds

-- these words have what the list has left where it touched them
abbrev pub HasOwn : List ℕ → List ℕ → List Touch → Type 0
HasOwn words base ts = (w : ℕ) → IsTouched ts w → slice_index words w ≡ slice_index (stored base ts) w

pub each_has_own : (tss : List (List Touch)) (base : List ℕ) → AllApart tss → AllByRecursion (HasOwn (stored base (one_after_other tss)) base) tss
each_has_own [] base apart = tt
each_has_own (us ∷ tss) base apart =
    let rest = one_after_other tss in
    let words = stored base (us ++ rest) in
    let inner = stored (stored base us) rest in
    let front : words ≡ inner = stored-append us rest base in (
      λ w at. ap (λ l. slice_index l w) front ∙ stored-kept rest (stored base us) w (none_by_others us tss w apart.0 at),
      all_weaker (λ ts. AreApart us ts × HasOwn inner (stored base us) ts) (HasOwn words base) tss
          (λ ts h w at. ap (λ l. slice_index l w) front
          ∙ h.1 w at
          ∙ ap (λ l. slice_index l w) (sym (lists_past ts us base h.0.first_alone))
          ∙ stored-kept us (stored base ts) w (h.0.first_alone w at))
          (all_both (AreApart us) (HasOwn inner (stored base us)) tss apart.0 (each_has_own tss (stored base us) apart.1)),
    )
