-- The parts of a section's text.
use Rattle.std.proofs.Common.{◌≡◌, ℕ, ◌<◌, List, length, Option, Some, Result, Ok, Err, IfOk, sym}
use Rattle.std.proofs.Common.{ap, ◌∙◌, subst}
use Rattle.std.specs.Prelude.{slice_get}
use Rattle.exchange_model.specs.declared.exchange.Exchange.{Exchange}
use Rattle.flow_points.specs.Facts.{IsLeast}
use Rattle.entry_summary.specs.declared.summary.Summary.{Summary}
use Rattle.analysis_text.specs.declared.names.Names.{Names}
use Rattle.analysis_text.specs.Names.{names_of}
use Rattle.conflicts_meaning.specs.declared.rows.EntryPair.{EntryPair}
use Rattle.entry_additions.specs.declared.added.Added.{Added}
use Rattle.entry_additions.specs.Added.{AddsExactly, targets}
use Rattle.addition_pairs.specs.declared.told.Told.{Told}
use Rattle.addition_pairs.specs.Adding.{TellsAdding}
use Rattle.additions_text.specs.Additions.{IsEntryText, IsPairText}
use Rattle.additions_text.specs.Lines.{adding_text, adds_text}
use Rattle.additions_text.specs.Lists.{AreLists}

pub list_there : (x : Exchange) (asked : Option EntryPair) (summaries : List Summary) (lists : List Added) (e : ℕ)
    → AreLists x asked (length summaries) lists → e < length summaries → e < length lists
list_there x asked summaries lists e are lt = subst (λ n. e < n) (sym are.long) lt

module _ {M : Type 0} (x : Exchange) (names : Names) where
  pub entry_told : (e : ℕ) (added : Added) (r : Result (List ℕ) M) → names ≡ names_of x.blocks
      → AddsExactly x (IsLeast x) e added → IfOk r (λ text. text ≡ adds_text names e (targets added))
      → IfOk r (IsEntryText x e)
  entry_told e added (Ok text) named exactly is = record { added = added; exactly = exactly; is = is ∙ ap (λ n. adds_text n e (targets added)) named }
  entry_told e added (Err m) named exactly is = tt

  pub pair_told : (summaries : List Summary) (p : EntryPair) (first later : Summary) (d e : Added) (told : Option Told)
      (r : Result (List ℕ) M) → names ≡ names_of x.blocks → slice_get summaries p.first ≡ Some first
      → slice_get summaries p.later ≡ Some later → AddsExactly x (IsLeast x) p.first d
      → AddsExactly x (IsLeast x) p.later e → TellsAdding first later (targets d) (targets e) told
      → IfOk r (λ text. text ≡ adding_text names p told) → IfOk r (IsPairText x summaries p)
  pair_told summaries p first later d e told (Ok text) named one other some others tells is = record {
    first = first;
    later = later;
    of_first = one;
    of_later = other;
    first_adds = d;
    later_adds = e;
    first_exactly = some;
    later_exactly = others;
    told = told;
    tells = tells;
    is = is ∙ ap (λ n. adding_text n p told) named;
  }
  pair_told summaries p first later d e told (Err m) named one other some others tells is = tt
