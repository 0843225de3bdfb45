-- The texts of pairs, one after the other.
use Rattle.std.proofs.Common.{◌≡◌, ⊎_elim, ℕ, ◌+◌, ◌<◌, ◌≤◌, List, [], ◌∷◌, ◌++◌, length, map}
use Rattle.std.proofs.Common.{get_or, Some, slice_get, refl, sym, ap, ◌∙◌, subst, arith}
use Rattle.std.proofs.Common.{append_assoc, append-nil, length-append}
use Rattle.std.specs.List.{concat}
use Rattle.std.proofs.lemmas.Bool.{cases_lt}
use Rattle.std.proofs.lemmas.List.{get_or_append_left, get_or-append-add}
use Rattle.std.proofs.lemmas.List.Folds.{concat-append}
use Rattle.std.proofs.lemmas.Option.{same_Some}
use Rattle.plex_num.proofs.Lists.{some_at}
use Rattle.entry_summary.specs.declared.summary.Summary.{Summary}
use Rattle.pair_tests.specs.declared.pair.Conflict.{Conflict}
use Rattle.pair_tests.specs.declared.pair.Test.{Test}
use Rattle.analysis_text.specs.declared.names.Names.{Names}
use Rattle.analysis_text.specs.Lines.{if_line, never_line, text_of, written}
use Rattle.analysis_text.specs.declared.told.Told.{Told}
use Rattle.analysis_text.specs.declared.told.Told.TheVariants.{Never, Asks}
use Rattle.analysis_text.specs.declared.told.ToldPair.{ToldPair}
use Rattle.analysis_text.specs.Telling.{IsToldOf, TellsPair}
use Rattle.text_parts.proofs.Joined.{put_back}
use Rattle.analysis_text.specs.Pairs.{IsPairText, never, tested, InTurn, IsTextWith, IsTextOfFirst}
use Rattle.analysis_text.specs.Pairs.{GainsText}

module _ (P : ℕ → List ℕ → Type 0) where
  turn_none : InTurn P 0 []
  turn_none = record { parts = []; count = refl; each = λ k lt. absurd (omega arith); is = refl }

  turn_each : (n : ℕ) (part : List ℕ) (parts : List (List ℕ)) → length parts ≡ n → ((k : ℕ) → k < n → P k (get_or parts k [])) → P n part
      → (k : ℕ) → k < n + 1 → P k (get_or (parts ++ part ∷ []) k [])
  turn_each n part parts count each here k lt =
      ⊎_elim
      (λ before. (let within : k < length parts = omega arith in subst (P k) (sym (get_or_append_left parts (part ∷ []) [] k within)) (each k before)))
      (λ past. (let same : length parts + 0 ≡ k = omega arith in
      let at_n : n ≡ k = omega arith in
      subst (P k) (sym (ap (λ i. get_or (parts ++ part ∷ []) i []) (sym same) ∙ get_or-append-add parts (part ∷ []) 0 [])) (subst (λ i. P i part) at_n here)))
      (cases_lt k n)

  turn_more : (n : ℕ) (text part : List ℕ) → InTurn P n text → P n part → InTurn P (n + 1) (text ++ part)
  turn_more n text part t here = record {
    parts = t.parts ++ part ∷ [];
    count = (let both = length-append t.parts (part ∷ []) in let before = t.count in omega arith);
    each = turn_each n part t.parts t.count t.each here;
    is = ap (λ l. l ++ part) t.is ∙ ap (λ l. concat t.parts ++ l) (sym (append-nil part)) ∙ sym (concat-append t.parts (part ∷ []));
  }

  pub turns_begin : (old : List ℕ) → GainsText (InTurn P 0) old old
  turns_begin old = record { added = []; is = sym (append-nil old); tells = turn_none }

  pub turns_more : (n : ℕ) (old now new : List ℕ) → GainsText (InTurn P n) old now → GainsText (P n) now new → GainsText (InTurn P (n + 1)) old new
  turns_more n old now new before here = record {
    added = before.added ++ here.added;
    is = here.is ∙ ap (λ t. t ++ here.added) before.is ∙ append_assoc old before.added here.added;
    tells = turn_more n before.added here.added before.tells here.tells;
  }

  pub turns_end : (n m count : ℕ) (old new : List ℕ) → m ≡ count → n ≤ m → m ≤ n → GainsText (InTurn P n) old new → GainsText (InTurn P count) old new
  turns_end n m count old new is most least h = (let same : n ≡ count = omega (arith, is, most, least) in subst (λ k. GainsText (InTurn P k) old new) same h)

-- an end that was taken, and is longer when it is put back
pub grown_end : (P : List ℕ → Type 0) (old rest end longer new : List ℕ) → old ≡ rest ++ end → GainsText P end longer
    → new ≡ rest ++ longer → GainsText P old new
grown_end P old rest end longer new taken grown put = record {
  added = grown.added;
  is = put_back old rest end longer grown.added new taken grown.is put;
  tells = grown.tells;
}

-- a row of pairs, as far as it is written
pub record RowGoes (names : Names) (summaries : List Summary) (i n : ℕ) (old new : List ℕ) : Type 0 where
  pub first : Summary
  pub there : slice_get summaries i ≡ Some first
  pub grown : GainsText (InTurn (IsTextWith names summaries i first) n) old new

pub row_begin : (names : Names) (summaries : List Summary) (i : ℕ) (old : List ℕ) → i < length summaries → RowGoes names summaries i 0 old old
row_begin names summaries i old lt = (let s = some_at summaries i lt in record
    { first = s.0; there = s.1; grown = turns_begin (IsTextWith names summaries i s.0) old })

pub row_more : (names : Names) (summaries : List Summary) (i j : ℕ) (pair : ToldPair) (old now new : List ℕ) → IsToldOf summaries i j pair
    → ((first later : Summary) → TellsPair first later pair.told → GainsText (IsPairText names i j first later) now new)
    → RowGoes names summaries i j old now → RowGoes names summaries i (j + 1) old new
row_more names summaries i j pair old now new of written_so before =
    let same : of.told.first ≡ before.first = same_Some of.told.first before.first (sym of.told.of_first ∙ of.like_first ∙ before.there) in
    let tells : TellsPair before.first of.told.later pair.told = subst (λ (s : Summary). TellsPair s of.told.later pair.told) same of.told.tells in
    let here = written_so before.first of.told.later tells in
    record {
      first = before.first;
      there = before.there;
      grown = turns_more (IsTextWith names summaries i before.first) j old now new before.grown (record {
        added = here.added;
        is = here.is;
        tells = record { later = of.told.later; there = sym of.like_later ∙ of.told.of_later; tells = here.tells };
      });
    }

pub row_end : (names : Names) (summaries : List Summary) (i n m : ℕ) (old new : List ℕ) → m ≡ length summaries → n ≤ m
    → m ≤ n → RowGoes names summaries i n old new → GainsText (IsTextOfFirst names summaries i) old new
row_end names summaries i n m old new is most least h =
    let all = turns_end (IsTextWith names summaries i h.first) n m (length summaries) old new is most least h.grown in
    record { added = all.added; is = all.is; tells = record { first = h.first; there = h.there; tells = all.tells } }

-- what is told of a pair

pub never_told : (names : Names) (i j : ℕ) (told : Told) (c : Conflict) (old new : List ℕ) → told ≡ Never c → new ≡ old ++ written (never_line names i j c)
    → (first later : Summary) → TellsPair first later told → GainsText (IsPairText names i j first later) old new
never_told names i j told c old new is wrote first later tells =
    record { added = written (never_line names i j c); is = wrote; tells = never c (subst (TellsPair first later) is tells) }

pub tests_told : (names : Names) (i j : ℕ) (told : Told) (tests listed : List Test) (old new : List ℕ)
    → told ≡ Asks tests → listed ≡ tests → new ≡ old ++ text_of (map (if_line names i j) listed)
    → (first later : Summary) → TellsPair first later told → GainsText (IsPairText names i j first later) old new
tests_told names i j told tests listed old new is same wrote first later tells =
    let both : TellsPair first later (Asks tests) = subst (TellsPair first later) is tells in
    record {
      added = text_of (map (if_line names i j) tests);
      is = wrote ∙ ap (λ l. old ++ text_of (map (if_line names i j) l)) same;
      tells = tested tests both.0 both.1;
    }
