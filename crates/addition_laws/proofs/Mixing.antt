-- Words that are those of one list at added words, and those of another one elsewhere.
use Rattle.std.proofs.Common.{◌≡◌, ◌⊎◌, inl, inr, ⊎_elim, ℕ, zero, suc, ◌<◌, ◌^◌, Bool, true, false}
use Rattle.std.proofs.Common.{List, [], ◌∷◌, length, refl, sym, ap, ◌∙◌, subst, arith}
use Rattle.std.proofs.lemmas.Bool.{cases_lt}
use Rattle.std.specs.Prelude.{slice_index, if◌then◌else◌}
use Rattle.plex_num.proofs.Lists.{some_at}
use Rattle.exchange_model.specs.declared.exchange.Exchange.{Exchange}
use Rattle.exchange_model.specs.Cells.{field_cell, variable_cell}
use Rattle.exchange_model.specs.Kept.{IsExchange}
use Rattle.exchange_model.proofs.Facts.{field_kept, variable_kept}
use Rattle.exchange_model.proofs.Numbers.{HasNumber, cell_numbered}
use Rattle.source_meaning.specs.Config.{base_of, files_of}
use Rattle.source_meaning.specs.Valid.{StoreFits}
use Rattle.source_meaning.proofs.Touching.{field_inside, variable_inside}
use Rattle.source_meaning.proofs.WordValues.{width_word}
use Rattle.additions_meaning.specs.Additions.{IsAddedWord, Targets}
use Rattle.addition_laws.proofs.Cells.{added_by}

-- at each place where the test holds the word of the first list
pub mixed : (ℕ → Bool) → List ℕ → List ℕ → List ℕ
mixed p [] vs = []
mixed p (u ∷ us) [] = u ∷ us
mixed p (u ∷ us) (v ∷ vs) = (if p 0 then u else v) ∷ mixed (λ n. p (suc n)) us vs

pub length-mixed : (p : ℕ → Bool) (us vs : List ℕ) → length (mixed p us vs) ≡ length us
unfolding mixed
length-mixed p [] vs = refl
length-mixed p (u ∷ us) [] = refl
length-mixed p (u ∷ us) (v ∷ vs) = ap suc (length-mixed (λ n. p (suc n)) us vs)

same_choice : (b : Bool) (n : ℕ) → n ≡ (if b then n else n)
same_choice true n = refl
same_choice false n = refl

pub mixed_at : (p : ℕ → Bool) (us vs : List ℕ) (n : ℕ) → length us ≡ length vs
    → slice_index (mixed p us vs) n ≡ (if p n then slice_index us n else slice_index vs n)
unfolding mixed
mixed_at p [] [] n long = same_choice (p n) 0
mixed_at p [] (v ∷ vs) n long = absurd (omega (arith, long))
mixed_at p (u ∷ us) [] n long = absurd (omega (arith, long))
mixed_at p (u ∷ us) (v ∷ vs) zero long = refl
mixed_at p (u ∷ us) (v ∷ vs) (suc n) long = mixed_at (λ n. p (suc n)) us vs n (let h = long in omega (arith, h))

-- what holds of the words of both lists
pub mixed_keeps : (P : ℕ → Type 0) (p : ℕ → Bool) (us vs : List ℕ) (n : ℕ) → length us ≡ length vs
    → P (slice_index us n) → P (slice_index vs n) → P (slice_index (mixed p us vs) n)
mixed_keeps P p us vs n long first other = subst P (sym (mixed_at p us vs n long)) (by (p n))
  where
    by : (b : Bool) → P (if b then slice_index us n else slice_index vs n)
    by true = first
    by false = other

module _ (x : Exchange) (kept : IsExchange x) (d : Targets) where
  abbrev Added : ℕ → Type 0
  Added w = IsAddedWord x d w

  -- an added word is one of the exchange
  pub added_inside : (w : ℕ) → Added w → w < x.cells
  unfolding base_of
  added_inside w (inl o) = (let h = o.gives in subst (λ n. n < x.cells) (sym h.is) (variable_inside x kept h.block h.index h.owner h.there h.within))
  added_inside w (inr o) =
      let h = o.gives in
      let r = h.of_record in
      subst (λ n. n < x.cells) (sym r.is) (field_inside x kept h.file r.number h.field h.at.placed h.at.there r.below h.at.within)

  pub is_word_added : (w : ℕ) → Added w ⊎ (Added w → ⊥)
  is_word_added w = ⊎_elim
      (λ within.
      let n : HasNumber x.blocks w = cell_numbered x.blocks w (let all = kept.numbered.cells in omega (arith, within, all)) in
      added_by x d w n.cell n.is n.same)
      (λ past. inr (λ added. (let within = added_inside w added in omega (arith, within, past))))
      (cases_lt w x.cells)

  -- the test of an added word
  pub test : ℕ → Bool
  test w = ⊎_elim (λ added. true) (λ none. false) (is_word_added w)

  pub test_added : (w : ℕ) → Added w → test w ≡ true
  unfolding test is_word_added
  test_added w added = by (is_word_added w)
    where
      by : (found : Added w ⊎ (Added w → ⊥)) → ⊎_elim (λ added. true) (λ none. false) found ≡ true
      by (inl added) = refl
      by (inr none) = absurd (none added)

  pub test_other : (w : ℕ) → (Added w → ⊥) → test w ≡ false
  unfolding test is_word_added
  test_other w not = by (is_word_added w)
    where
      by : (found : Added w ⊎ (Added w → ⊥)) → ⊎_elim (λ added. true) (λ none. false) found ≡ false
      by (inl added) = absurd (not added)
      by (inr none) = refl

  -- words that fit, mixed with words that fit
  pub mixed_fits : (p : ℕ → Bool) (us vs : List ℕ) → StoreFits x us → StoreFits x vs → StoreFits x (mixed p us vs)
  mixed_fits p us vs first other =
      let long : length us ≡ length vs = first.whole ∙ sym other.whole in
      record {
        whole = length-mixed p us vs ∙ first.whole;
        variables = λ b v k e there own. mixed_keeps (λ n. n < 2 ^ e.width) p us vs _ long
            (first.variables b v k e there own) (other.variables b v k e there own);
        fields = λ file number field q e at own. mixed_keeps (λ n. n < 2 ^ e.width) p us vs _ long
            (first.fields file number field q e at own) (other.fields file number field q e at own);
      }

  -- an added word is below 2^32
  pub added_small : (store : List ℕ) (w : ℕ) → StoreFits x store → Added w → slice_index store w < 2 ^ 32
  unfolding files_of
  added_small store w fits (inl o) =
      let h = o.gives in
      let e = some_at h.owner.variables h.index h.within in
      subst (λ n. slice_index store n < 2 ^ 32) (sym h.is)
      (width_word (slice_index store (variable_cell x.blocks h.block h.index)) e.0
      (variable_kept x kept h.block h.index h.owner e.0 h.there e.1)
      (fits.variables h.block h.index h.owner e.0 h.there e.1))
  added_small store w fits (inr o) =
      let h = o.gives in
      let r = h.of_record in
      let p = h.at.placed in
      let e = some_at p.file.fields h.field h.at.within in
      subst (λ n. slice_index store n < 2 ^ 32) (sym r.is)
      (width_word (slice_index store (field_cell p r.number h.field)) e.0
      (field_kept x kept h.file h.field p e.0 h.at.there e.1)
      (fits.fields h.file r.number h.field p e.0 (record { there = h.at.there; within = r.below }) e.1))
