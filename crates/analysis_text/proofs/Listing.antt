-- The texts of entries, one after the other.
use Rattle.std.proofs.Common.{◌≡◌, ⊎_elim, ℕ, ◌+◌, ◌<◌, ◌≤◌, List, [], ◌∷◌, ◌++◌, drop, length, map}
use Rattle.std.proofs.Common.{Some, slice_get, refl, sym, ap, ◌∙◌, arith, append_assoc, append-nil}
use Rattle.std.proofs.Common.{length-append}
use Rattle.std.specs.List.{concat, enumerate_from, flat_map}
use Rattle.std.proofs.lemmas.List.{drop_all}
use Rattle.std.proofs.lemmas.Option.{get_or_from_slice_get, none-some, same_Some, slice_get_within}
use Rattle.plex_num.proofs.Lists.{get_push, got_more, opens, slice_get-append_seam}
use Rattle.exchange_model.specs.declared.exchange.Exchange.{Exchange}
use Rattle.entry_summary.specs.declared.summary.Summary.{Summary}
use Rattle.analysis_text.specs.declared.names.Names.{Names}
use Rattle.analysis_text.specs.Bodies.{AreBodies, HasBody, body_text}
use Rattle.analysis_text.specs.Lines.{access_line, entries_text, entry_line, fault_text, send_line}
use Rattle.analysis_text.specs.Lines.{summary_text, text_of, written}
use Rattle.text_parts.proofs.Joined.{joined_more}
use Rattle.analysis_text.proofs.Left.{LeftText}

module _ (x : Exchange) (names : Names) (summaries : List Summary) where
  -- those from a number on
  abbrev pub told_from : ℕ → List ℕ
  told_from n = flat_map (λ (s : ℕ × Summary). summary_text x names s.0 s.1) (enumerate_from n (drop n summaries))

  pub entries_begin : (before : List ℕ) → LeftText before before (told_from 0) (entries_text x names summaries)
  entries_begin before = record { same = refl }

  pub entries_more : (n : ℕ) (s : Summary) (before text new all : List ℕ) → slice_get summaries n ≡ Some s → new ≡ text ++ summary_text x names n s
      → LeftText before text (told_from n) all → LeftText before new (told_from (n + 1)) all
  entries_more n s before text new all there wrote g =
      let lt = slice_get_within summaries n s there in
      let opened = opens summaries n s lt (sym (get_or_from_slice_get summaries n s s there)) in
      let begun : told_from n ≡ summary_text x names n s
      ++ told_from (n + 1) = ap (λ l. flat_map (λ (t : ℕ × Summary). summary_text x names t.0 t.1)
      (enumerate_from n l)) opened in
      record {
        same = ap (λ t. t ++ told_from (n + 1)) wrote
            ∙ append_assoc text (summary_text x names n s) (told_from (n + 1)) ∙ sym (ap (λ l. text ++ l) begun)
            ∙ g.same;
      }

  pub entries_end : (n count : ℕ) (before text all : List ℕ) → count ≡ length summaries → count ≤ n
      → LeftText before text (told_from n) all → text ≡ before ++ all
  entries_end n count before text all is past g =
      let none : told_from n ≡ [] = ap (λ l. flat_map (λ (t : ℕ × Summary). summary_text x names t.0 t.1)
      (enumerate_from n l)) (drop_all n summaries (omega (arith, is, past))) in
      sym (append-nil text) ∙ sym (ap (λ l. text ++ l) none) ∙ g.same

pub number_within : (n count : ℕ) (summaries : List Summary) → n < count → count ≡ length summaries → n < length summaries
number_within n count summaries lt is = omega (arith, lt, is)

-- where what was told of them stands

pub bodies_begin : (names : Names) (summaries : List Summary) (parts : List (List ℕ)) (places : List ℕ) → places ≡ [] → AreBodies names summaries 0 parts places
bodies_begin names summaries parts places none = record {
  count = ap length none;
  stand = λ i place s there here. absurd (none-some place (ap (λ (l : List ℕ). slice_get l i) (sym none) ∙ there));
}

-- with one part more before it
pub bodies_behind : (names : Names) (summaries : List Summary) (n : ℕ) (old new : List (List ℕ)) (part : List ℕ)
    (places shown : List ℕ) → shown ≡ places → new ≡ old ++ part ∷ []
    → AreBodies names summaries n old places → AreBodies names summaries n new shown
bodies_behind names summaries n old new part places shown same made before = record {
  count = ap length same ∙ before.count;
  stand = λ i place s there here.
      ap (λ (l : List (List ℕ)). slice_get l place) made
      ∙ got_more old (part ∷ []) place (body_text names s) (before.stand i place s (ap (λ (l : List ℕ). slice_get l i) (sym same) ∙ there) here);
}

pub bodies_more : (names : Names) (summaries : List Summary) (n : ℕ) (now new : List (List ℕ)) (places grown : List ℕ)
    (place : ℕ) (s : Summary) → slice_get summaries n ≡ Some s
    → AreBodies names summaries n now places → HasBody names s now new place → grown ≡ places ++ place ∷ [] → AreBodies names summaries (n + 1) new grown
bodies_more names summaries n now new places grown place s here before has made = record {
  count = (let l = ap length made ∙ length-append places (place ∷ []) in let c = before.count in omega (arith, l, c));
  stand = λ i p t there it.
      ⊎_elim
      (λ old. ap (λ (l : List (List ℕ)). slice_get l p) has.is ∙ got_more now (body_text names s ∷ []) p (body_text names t) (before.stand i p t old it))
      (λ last.
      let same : s ≡ t = same_Some s t (sym here ∙ ap (slice_get summaries) (sym (last.0 ∙ before.count)) ∙ it) in
      ap (slice_get new) (sym last.1) ∙ has.there ∙ ap (λ (u : Summary). Some (body_text names u)) same)
      (get_push places place p i (ap (λ (l : List ℕ). slice_get l i) (sym made) ∙ there));
}

four : (a b c d : List ℕ) → a ++ ((b ++ c) ++ d) ≡ ((a ++ b) ++ c) ++ d
four a b c d = sym (append_assoc a (b ++ c) d) ∙ ap (λ t. t ++ d) (sym (append_assoc a b c))

-- the line that names an entry, and what is told behind it
behind_head : (x : Exchange) (names : Names) (n : ℕ) (s : Summary) → written (entry_line x n s.level) ++ body_text names s ≡ summary_text x names n s
behind_head x names n s = four (written (entry_line x n s.level)) (text_of (map (access_line names) s.accesses))
    (text_of (map send_line s.levels)) (fault_text s.fault)

pub summary_written : (x : Exchange) (names : Names) (summaries : List Summary) (n place : ℕ) (told : Summary)
    (old now new : List (List ℕ)) (head : List ℕ) → slice_get summaries n ≡ Some told
    → head ≡ written (entry_line x n told.level) → now ≡ old ++ head ∷ [] → ((s : Summary) → slice_get summaries n ≡ Some s → HasBody names s now new place)
    → (s : Summary) → slice_get summaries n ≡ Some s → concat new ≡ concat old ++ summary_text x names n s
summary_written x names summaries n place told old now new head here is made has s it =
    let same : told ≡ s = same_Some told s (sym here ∙ it) in
    joined_more now new (body_text names s) (has s it).is
    ∙ ap (λ t. t ++ body_text names s) (joined_more old now head made)
    ∙ append_assoc (concat old) head (body_text names s)
    ∙ ap (λ h. concat old ++ (h ++ body_text names s)) (is ∙ ap (λ (t : Summary). written (entry_line x n t.level)) same)
    ∙ ap (λ t. concat old ++ t) (behind_head x names n s)

-- what is told of a summary that is equal to one before, and of one that is not

pub body_again : (names : Names) (summaries : List Summary) (n like place : ℕ) (old new : List (List ℕ))
    (places : List ℕ) → AreBodies names summaries n old places → slice_get places like ≡ Some place
    → slice_get summaries like ≡ slice_get summaries n → ((part : List ℕ) → slice_get old place ≡ Some part → new ≡ old ++ part ∷ [])
    → (s : Summary) → slice_get summaries n ≡ Some s → HasBody names s old new place
body_again names summaries n like place old new places before there same again s here =
    let stands = before.stand like place s there (same ∙ here) in
    let is = again (body_text names s) stands in
    record { is = is; there = ap (λ (l : List (List ℕ)). slice_get l place) is ∙ got_more old (body_text names s ∷ []) place (body_text names s) stands }

pub body_new : (names : Names) (summaries : List Summary) (n place : ℕ) (told : Summary) (body : List ℕ)
    (old new : List (List ℕ)) → slice_get summaries n ≡ Some told → body ≡ body_text names told
    → place ≡ length old → new ≡ old ++ body ∷ [] → (s : Summary) → slice_get summaries n ≡ Some s → HasBody names s old new place
body_new names summaries n place told body old new here is last made s it =
    let same : told ≡ s = same_Some told s (sym here ∙ it) in
    let text : body ≡ body_text names s = is ∙ ap (body_text names) same in
    let grown : new ≡ old ++ body_text names s ∷ [] = made ∙ ap (λ t. old ++ t ∷ []) text in
    record {
      is = grown;
      there = ap (slice_get new) last ∙ ap (λ (l : List (List ℕ)). slice_get l (length old)) grown
          ∙ slice_get-append_seam old (body_text names s) [];
    }
