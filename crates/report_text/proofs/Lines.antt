-- Lines that are written one after the other.
use Rattle.std.proofs.Common.{◌≡◌, ℕ, ◌+◌, ◌<◌, ◌≤◌, List, [], ◌∷◌, ◌++◌, drop, get_or, refl, sym}
use Rattle.std.proofs.Common.{ap, ◌∙◌, append_assoc, arith}
use Rattle.std.specs.List.{flat_map, range_with_len}
use Rattle.std.proofs.lemmas.List.{append-nil, drop_more, drop_all}
use Rattle.std.proofs.lemmas.List.Concat.{flat_map-append}
use Rattle.std.proofs.lemmas.List.FromFn.{get_or-range_with_len, length-range_with_len}
use Rattle.exchange_model.specs.declared.exchange.Exchange.{Exchange}
use Rattle.source_meaning.specs.State.{RunEvent}
use Rattle.report_text.specs.Report.{event_line, event_lines, text_of, written}

-- the text so far and the lines that are left are the text before and all lines
pub record Left (before text : List ℕ) (rest all : List (List ℕ)) : Type 0 where
  pub same : text ++ text_of rest ≡ before ++ text_of all

pub left_more : {before text : List ℕ} {rest all : List (List ℕ)} (next : List ℕ) (here after : List (List ℕ))
    → rest ≡ here ++ after → next ≡ text ++ text_of here → Left before text rest all → Left before next after all
left_more {text = text} next here after split wrote l = record {
  same =
      ap (λ t. t ++ text_of after) wrote ∙ append_assoc text (text_of here) (text_of after)
      ∙ ap (λ t. text ++ t) (sym (flat_map-append written here after) ∙ ap text_of (sym split))
      ∙ l.same;
}

pub left_end : {before text : List ℕ} {rest all : List (List ℕ)} → rest ≡ [] → Left before text rest all → text ≡ before ++ text_of all
left_end {text = text} none l = sym (append-nil text) ∙ ap (λ ls. text ++ text_of ls) (sym none) ∙ l.same

-- the lines of events, the next of which is this one
pub events_more : (x : Exchange) (before text next : List ℕ) (left rest : List RunEvent) (all : List (List ℕ))
    (e : RunEvent) → left ≡ e ∷ rest → next ≡ text ++ written (event_line x e)
    → Left before text (event_lines x left) all → Left before next (event_lines x rest) all
events_more x before text next left rest all e is wrote l =
    left_more next (event_line x e ∷ []) (event_lines x rest) (ap (event_lines x) is)
    (wrote ∙ ap (λ t. text ++ t) (sym (append-nil (written (event_line x e))))) l

pub events_end : (x : Exchange) (before text : List ℕ) (left : List RunEvent) (all : List (List ℕ)) → left ≡ []
    → Left before text (event_lines x left) all → text ≡ before ++ text_of all
events_end x before text left all none l = left_end (ap (event_lines x) none) l

-- the next number of a range and those after it; after the last one there is none
pub drop_number : (n i : ℕ) → i < n → drop i (range_with_len 0 n) ≡ i ∷ drop (i + 1) (range_with_len 0 n)
drop_number n i lt =
    let at : get_or (range_with_len 0 n) i i ≡ i = omega (arith, get_or-range_with_len 0 n i i lt) in
    drop_more (range_with_len 0 n) i i (omega (arith, length-range_with_len 0 n, lt)) ∙ ap (λ k. k ∷ drop (i + 1) (range_with_len 0 n)) at

pub drop_numbers : (n i : ℕ) → n ≤ i → drop i (range_with_len 0 n) ≡ []
drop_numbers n i past = drop_all i (range_with_len 0 n) (omega (arith, length-range_with_len 0 n, past))

-- no item has a line
pub no_lines : {X : Type 0} (f : X → List (List ℕ)) → ((x : X) → f x ≡ []) → (xs : List X) → flat_map f xs ≡ []
no_lines f none [] = refl
no_lines f none (x ∷ xs) = ap (λ ls. ls ++ flat_map f xs) (none x) ∙ no_lines f none xs
