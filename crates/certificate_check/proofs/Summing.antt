-- The summaries of so many entries.
use Rattle.std.proofs.Common.{◌≡◌, ◌↔◌, ◌⊎◌, inl, inr, ℕ, ◌+◌, ◌<◌, ◌≤◌, List, [], ◌∷◌, ◌++◌}
use Rattle.std.proofs.Common.{length, Some, slice_get, sym, ap, ◌∙◌, subst, arith, length-append}
use Rattle.std.proofs.lemmas.Bool.{cases_lt}
use Rattle.std.proofs.lemmas.Option.{none-some, same_Some, slice_get_within}
use Rattle.plex_num.proofs.Lists.{slice_get-append_left, slice_get-append_seam}
use Rattle.plex_limits.specs.declared.limits.TheConstants.{MOST_ENTRIES}
use Rattle.exchange_model.specs.declared.exchange.Exchange.{Exchange}
use Rattle.flow_points.specs.declared.fact.Fact.{Fact}
use Rattle.flow_points.specs.Facts.{Facts}
use Rattle.entry_summary.specs.declared.summary.Summary.{Summary}
use Rattle.entry_summary.specs.Summaries.{IsSummary}
use Rattle.certificate_meaning.proofs.Alike.{summary_alike}
use Rattle.checked.specs.Kept.{AreSummariesBy}

-- those of the first n entries
pub record Summed (x : Exchange) (P : Facts) (n : ℕ) (all : List Summary) : Type 0 where
  pub long : length all ≡ n
  pub is : (e : ℕ) (s : Summary) → slice_get all e ≡ Some s → IsSummary x P e s

pub summaries_begin : (x : Exchange) (P : Facts) (all : List Summary) → all ≡ [] → Summed x P 0 all
summaries_begin x P all none = record {
  long = ap length none;
  is = λ e s there. absurd (none-some s (ap (λ (l : List Summary). slice_get l e) (sym none) ∙ there));
}

module _ (x : Exchange) (P : Facts) (n : ℕ) (one : Summary) (all : List Summary) (is : IsSummary x P n one) (so_far : Summed x P n all) where
  one_of : (e : ℕ) (s : Summary) → slice_get (all ++ one ∷ []) e ≡ Some s → IsSummary x P e s
  one_of e s there = at (cases_lt e (length all))
    where
      at : (e < length all) ⊎ (length all ≤ e) → IsSummary x P e s
      at (inl lt) = so_far.is e s (sym (slice_get-append_left all (one ∷ []) e lt) ∙ there)
      at (inr le) =
          let within = slice_get_within (all ++ one ∷ []) e s there in
          let long = length-append all (one ∷ []) in
          let last : e ≡ length all = omega (arith, le, within, long) in
          let same : one ≡ s = same_Some one s (sym (slice_get-append_seam all one []) ∙ subst (λ k. slice_get (all ++ one ∷ []) k ≡ Some s) last there) in
          subst (λ k. IsSummary x P k s) (sym (last ∙ so_far.long)) (subst (IsSummary x P n) same is)

  pub summaries_more : (new : List Summary) → new ≡ all ++ one ∷ [] → Summed x P (n + 1) new
  summaries_more new grown = subst (Summed x P (n + 1)) (sym grown) (record {
    long = (let l = length-append all (one ∷ []) in let h = so_far.long in omega (arith, l, h));
    is = one_of;
  })

pub summaries_end : (x : Exchange) (P : Facts) (n count : ℕ) (all : List Summary) → count ≡ length x.entries → n ≤ count
    → count ≤ n → Summed x P n all → AreSummariesBy x P all
summaries_end x P n count all is low high g = (let h = g.long in record { each_entry = omega (arith, is, low, high, h); is = g.is })

-- those by facts are no more than an exchange may have entries
pub few_summaries : (x : Exchange) (P : Facts) (all : List Summary) → length x.entries ≤ MOST_ENTRIES → AreSummariesBy x P all → length all ≤ MOST_ENTRIES
few_summaries x P all few are = (let each = are.each_entry in omega (arith, few, each))

-- facts of which the same holds have the same summaries
pub summaries_alike : (x : Exchange) (P Q : Facts) → ((f : Fact) → P f ↔ Q f) → (all : List Summary) → AreSummariesBy x P all → AreSummariesBy x Q all
summaries_alike x P Q same all by = record {
  each_entry = by.each_entry;
  is = λ e s there. summary_alike x P Q e s (record { each = λ f own h. (same f).0 h }) (record { each = λ f own h. (same f).1 h }) (by.is e s there);
}
