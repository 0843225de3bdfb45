-- The texts of the sections, one after the other.
use Rattle.std.proofs.Common.{◌≡◌, ℕ, ◌+◌, ◌≤◌, List, [], ◌∷◌, ◌++◌, length, drop, Option, Some}
use Rattle.std.proofs.Common.{refl, sym, ap, ◌∙◌, subst, append_assoc, append-nil}
use Rattle.std.specs.Prelude.{slice_get}
use Rattle.std.proofs.Math.ListN.{drop_of_length-le}
use Rattle.std.proofs.lemmas.Option.{get_or_from_slice_get, slice_get_within}
use Rattle.plex_num.proofs.Lists.{opens}
use Rattle.exchange_model.specs.declared.exchange.Exchange.{Exchange}
use Rattle.entry_summary.specs.declared.summary.Summary.{Summary}
use Rattle.certificate_meaning.specs.Summaries.{AreSummaries}
use Rattle.analysis_text.specs.Pairs.{GainsText}
use Rattle.conflicts_meaning.specs.declared.rows.EntryPair.{EntryPair}
use Rattle.conflicts_meaning.specs.declared.rows.Section.{Section}
use Rattle.conflicts_meaning.specs.Told.{sections}
use Rattle.additions_text.specs.Additions.{AreAdditions, InTurn, IsSectionText, nothing, then}
use Rattle.additions_text.specs.Lines.{first_line, last_line}

module _ (T : Section → List ℕ → Type 0) (all : List Section) where
  -- the sections before an index are written
  pub record Goes (place : ℕ) (old now : List ℕ) : Type 0 where
    pub added : List ℕ
    pub is : now ≡ old ++ added
    pub on : (rest : List ℕ) → InTurn T (drop place all) rest → InTurn T all (added ++ rest)

  pub goes_begin : (old : List ℕ) → Goes 0 old old
  goes_begin old = record { added = []; is = sym (append-nil old); on = λ rest t. t }

  opened : (place : ℕ) (s : Section) → slice_get all place ≡ Some s → drop place all ≡ s ∷ drop (place + 1) all
  opened place s there = opens all place s (slice_get_within all place s there) (sym (get_or_from_slice_get all place s s there))

  pub goes_more : (place : ℕ) (s : Section) (part bytes old now new : List ℕ) → slice_get all place ≡ Some s → T s part
      → bytes ≡ part → new ≡ now ++ bytes → Goes place old now → Goes (place + 1) old new
  goes_more place s part bytes old now new there is_part same made g = record {
    added = g.added ++ part;
    is = made ∙ ap (λ l. l ++ bytes) g.is ∙ append_assoc old g.added bytes ∙ ap (λ l. old ++ (g.added ++ l)) same;
    on = λ rest t.
        subst (InTurn T all) (sym (append_assoc g.added part rest))
        (g.on (part ++ rest) (subst (λ l. InTurn T l (part ++ rest)) (sym (opened place s there)) (then s (drop (place + 1) all) part rest is_part t)));
  }

  pub goes_end : (place : ℕ) (old now : List ℕ) → length all ≤ place → Goes place old now → GainsText (InTurn T all) old now
  goes_end place old now past g = record {
    added = g.added;
    is = g.is;
    tells = subst (InTurn T all) (append-nil g.added) (g.on [] (subst (λ l. InTurn T l []) (sym (drop_of_length-le all past)) nothing));
  }

pub whole : (x : Exchange) (asked : Option EntryPair) (summaries : List Summary) (count : ℕ) (made slice : List Section) (old headed parted result : List ℕ)
    → AreSummaries x summaries → count ≡ length summaries → made ≡ sections count asked → slice ≡ made → headed ≡ old ++ first_line
    → GainsText (InTurn (IsSectionText x summaries) slice) headed parted → result ≡ parted ++ last_line → GainsText (AreAdditions x asked) old result
whole x asked summaries count made slice old headed parted result are counted is same head g last = record {
  added = first_line ++ (g.added ++ last_line);
  is = last ∙ ap (λ l. l ++ last_line) (g.is ∙ ap (λ l. l ++ g.added) head)
      ∙ ap (λ l. l ++ last_line) (append_assoc old first_line g.added)
      ∙ append_assoc old (first_line ++ g.added) last_line
      ∙ ap (λ l. old ++ l) (append_assoc first_line g.added last_line);
  tells = record {
    summaries = summaries;
    are = are;
    parts = g.added;
    tells = subst (λ l. InTurn (IsSectionText x summaries) l g.added) (same ∙ is ∙ ap (λ n. sections n asked) (counted ∙ are.each_entry)) g.tells;
    is = refl;
  };
}
