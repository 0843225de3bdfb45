-- The text of the conflicts is unique.
use Rattle.std.proofs.Common.{◌≡◌, ◌⊎◌, inl, inr, ℕ, ◌+◌, ◌-◌, ◌<◌, ◌≤◌, List, [], ◌∷◌, ◌++◌}
use Rattle.std.proofs.Common.{length, Option, refl, sym, ap, ◌∙◌, subst, arith, length-append}
use Rattle.std.specs.Cmp.{IsTotalOrder}
use Rattle.std.specs.List.{AllByRecursion, Contains, flat_map}
use Rattle.std.specs.List.Sorted.{IsStrictlySortedBy}
use Rattle.std.specs.declared.cmp.Ordering.{Ordering}
use Rattle.std.specs.declared.cmp.Ordering.TheVariants.{Less}
use Rattle.std.proofs.lemmas.Cmp.{tied_itself}
use Rattle.std.proofs.lemmas.List.Elements.{All-contains, All-from_recursion}
use Rattle.std.proofs.lemmas.Option.{same_Some}
use Rattle.plex_num.proofs.Members.{first_is, first_or_later, later_is, none_in}
use Rattle.exchange_model.specs.declared.exchange.Exchange.{Exchange}
use Rattle.entry_summary.specs.declared.summary.Summary.{Summary}
use Rattle.analysis_text.specs.Analysis.{IsAnalysis}
use Rattle.analysis_laws.proofs.Rising.{rising_once, same_sides}
use Rattle.analysis_laws.proofs.Summing.{all_summaries_once}
use Rattle.analysis_laws.proofs.Telling.{analysis_once}
use Rattle.flow_points.specs.Facts.{IsLeast}
use Rattle.conflicts_meaning.specs.declared.rows.ClashRow.{ClashRow}
use Rattle.conflicts_meaning.specs.declared.rows.EntryPair.{EntryPair}
use Rattle.conflicts_meaning.specs.declared.rows.GivenAt.{GivenAt}
use Rattle.conflicts_meaning.specs.declared.rows.Section.{Section}
use Rattle.conflicts_meaning.specs.declared.rows.Section.TheVariants.{Entry, Pair}
use Rattle.conflicts_meaning.specs.declared.rows.TheConstants.{MOST_TOLD}
use Rattle.conflicts_meaning.specs.contracts.rows.ClashRowOrd.TheImpl.Laws as row_laws
use Rattle.conflicts_meaning.specs.contracts.rows.GivenAtOrd.TheImpl.Laws as given_laws
use Rattle.conflicts_meaning.specs.Lines.{clash_text, first_line, point_text}
use Rattle.conflicts_meaning.specs.Points.{AreGiven, AreSomeGiven, given_order}
use Rattle.conflicts_meaning.specs.Rows.{AreClashRows, AreSomeClashRows, row_order}
use Rattle.conflicts_meaning.specs.Told.{AreConflicts, HasSectionLines, IsSectionText, Told}
use Rattle.conflicts_meaning.specs.Told.{all_told, no_room, sections, told}

-- the lines of some items of an ordered list are no longer in total than those of all items

module _ {K : Type 0} (R : K → K → Ordering) (o : IsTotalOrder R) (f : K → List ℕ) where
  abbrev size_of : List K → ℕ
  size_of ks = length (flat_map f ks)

  not_before_itself : (k : K) → R k k ≡ Less → ⊥
  not_before_itself k less = let clash = sym less ∙ tied_itself o k in cc

  after : (x : K) (xs : List K) (k : K) → AllByRecursion (λ y. R x y ≡ Less) xs → Contains xs k → R x k ≡ Less
  after x xs k all c = All-contains (λ y. R x y ≡ Less) xs k (All-from_recursion (λ y. R x y ≡ Less) xs all) c

  -- an item other than the first is in the rest
  in_rest : (y k : K) (ys : List K) → (y ≡ k → ⊥) → Contains (y ∷ ys) k → Contains ys k
  in_rest y k ys other c = by (first_or_later y k ys c)
    where
      by : (y ≡ k) ⊎ Contains ys k → Contains ys k
      by (inl same) = absurd (other same)
      by (inr rest) = rest

  pub no_longer : (xs ys : List K) → IsStrictlySortedBy R xs → IsStrictlySortedBy R ys → ((k : K) → Contains xs k → Contains ys k) → size_of xs ≤ size_of ys
  unfolding IsStrictlySortedBy
  no_longer [] ys a b within = omega arith
  no_longer (x ∷ xs) [] a b within = absurd (none_in x (within x (first_is x xs)))
  no_longer (x ∷ xs) (y ∷ ys) a b within =
      by (first_or_later y x ys (within x (first_is x xs))) (λ w. no_longer xs ys a.1 b.1 w) (λ w. no_longer (x ∷ xs) ys a b.1 w)
    where
      later : y ≡ x → (k : K) → Contains xs k → Contains ys k
      later same k c = in_rest y k ys (λ is. not_before_itself x
          (subst (λ z. R x z ≡ Less) (sym is ∙ same) (after x xs k a.0 c))) (within k (later_is x k xs c))

      all_later : Contains ys x → (k : K) → Contains (x ∷ xs) k → Contains ys k
      all_later there k c = at (first_or_later x k xs c)
        where
          at : (x ≡ k) ⊎ Contains xs k → Contains ys k
          at (inl same) = subst (Contains ys) same there
          at (inr more) =
              in_rest y k ys (λ is. not_before_itself x
              (o.trans x k x (after x xs k a.0 more) (subst (λ z. R z x ≡ Less) is (after y ys x b.0 there))))
              (within k c)

      by : (y ≡ x) ⊎ Contains ys x → (((k : K) → Contains xs k → Contains ys k) → size_of xs ≤ size_of ys)
          → (((k : K) → Contains (x ∷ xs) k → Contains ys k) → size_of (x ∷ xs) ≤ size_of ys)
          → size_of (x ∷ xs) ≤ size_of (y ∷ ys)
      by (inl same) rest skip =
          let le = rest (later same) in
          let one : size_of (x ∷ xs) ≡ length (f x) + size_of xs = length-append (f x) (flat_map f xs) in
          let other : size_of (y ∷ ys) ≡ length (f y) + size_of ys = length-append (f y) (flat_map f ys) in
          let first : length (f y) ≡ length (f x) = ap (λ z. length (f z)) same in
          omega (arith, le, one, other, first)
      by (inr there) rest skip =
          let le = skip (all_later there) in
          let other : size_of (y ∷ ys) ≡ length (f y) + size_of ys = length-append (f y) (flat_map f ys) in
          omega (arith, le, other)

-- sections

given_once : (x : Exchange) (e : ℕ) (s : Summary) (rows others : List GivenAt) → AreGiven x (IsLeast x) e s rows
    → AreGiven x (IsLeast x) e s others → rows ≡ others
given_once x e s rows others one other = rising_once given_order given_laws.total-law rows others one.rising
    other.rising (λ r. same_sides (one.exact r) (other.exact r))

clashes_once : (first later : Summary) (rows others : List ClashRow) → AreClashRows first later rows → AreClashRows first later others → rows ≡ others
clashes_once first later rows others one other = rising_once row_order row_laws.total-law rows others one.rising
    other.rising (λ r. same_sides (one.exact r) (other.exact r))

module _ (x : Exchange) (ss : List Summary) where
  section_once : (s : Section) (t u : List ℕ) → IsSectionText x ss s t → IsSectionText x ss s u → t ≡ u
  section_once (Entry e) t u one other =
      let same : one.summary ≡ other.summary = same_Some one.summary other.summary (sym one.there ∙ other.there) in
      let rows = given_once x e other.summary one.rows other.rows (subst (λ s. AreGiven x (IsLeast x) e s one.rows) same one.given) other.given in
      one.is ∙ ap (flat_map (point_text x e)) rows ∙ sym other.is
  section_once (Pair p) t u one other =
      let first : one.first ≡ other.first = same_Some one.first other.first (sym one.of_first ∙ other.of_first) in
      let later : one.later ≡ other.later = same_Some one.later other.later (sym one.of_later ∙ other.of_later) in
      let rows = clashes_once other.first other.later one.rows other.rows
      (subst (λ s. AreClashRows other.first s one.rows) later
      (subst (λ s. AreClashRows s one.later one.rows) first one.clash)) other.clash in
      one.is ∙ ap (flat_map (clash_text p)) rows ∙ sym other.is

  lines_fit : (s : Section) (lines text : List ℕ) → HasSectionLines x ss s lines → IsSectionText x ss s text → length lines ≤ length text
  lines_fit (Entry e) lines text some whole =
      let same : some.summary ≡ whole.summary = same_Some some.summary whole.summary (sym some.there ∙ whole.there) in
      let few = subst (λ s. AreSomeGiven x (IsLeast x) e s some.rows) same some.given in
      let le = no_longer given_order given_laws.total-law (point_text x e) some.rows whole.rows few.rising
      whole.given.rising (λ r c. (whole.given.exact r).1 (few.each r c)) in
      subst (λ l. length l ≤ length text) (sym some.are) (subst (λ t. length (flat_map (point_text x e) some.rows) ≤ length t) (sym whole.is) le)
  lines_fit (Pair p) lines text some whole =
      let first : some.first ≡ whole.first = same_Some some.first whole.first (sym some.of_first ∙ whole.of_first) in
      let later : some.later ≡ whole.later = same_Some some.later whole.later (sym some.of_later ∙ whole.of_later) in
      let few = subst (λ s. AreSomeClashRows whole.first s some.rows) later (subst (λ s. AreSomeClashRows s some.later some.rows) first some.clash) in
      let le = no_longer row_order row_laws.total-law (clash_text p) some.rows whole.rows few.rising whole.clash.rising
      (λ r c. (whole.clash.exact r).1 (few.each r c)) in
      subst (λ l. length l ≤ length text) (sym some.are) (subst (λ t. length (flat_map (clash_text p) some.rows) ≤ length t) (sym whole.is) le)

  never_both : (s : Section) (room : ℕ) (lines text : List ℕ) → HasSectionLines x ss s lines → room < length lines
      → IsSectionText x ss s text → length text ≤ room → ⊥
  never_both s room lines text some over whole fits = (let le = lines_fit s lines text some whole in omega (arith, le, over, fits))

  abbrev IsTold : List Section → ℕ → List ℕ → Type 0
  IsTold all room text = Told (IsSectionText x ss) (HasSectionLines x ss) MOST_TOLD all room text

  told_once : (all : List Section) (room : ℕ) (t u : List ℕ) → IsTold all room t → IsTold all room u → t ≡ u
  told_once _ _ _ _ (all_told room) (all_told _) = refl
  told_once _ _ _ _ (no_room s rest room lines some over) (no_room _ _ _ _ _ _) = refl
  told_once _ _ _ _ (no_room s rest room lines some over) (told _ _ _ part text whole fits more) = absurd (never_both s room lines part some over whole fits)
  told_once _ _ _ _ (told s rest room part text whole fits more) (no_room _ _ _ lines some over) = absurd (never_both s room lines part some over whole fits)
  told_once _ _ _ _ (told s rest room part text whole fits more) (told _ _ _ other last also small further) =
      let same : part ≡ other = section_once s part other whole also in
      let tail : text ≡ last = told_once rest (room - length other) text last (subst (λ p. IsTold rest (room - length p) text) same more) further in
      λ i. same i ++ tail i

pub text_once : (x : Exchange) (asked : Option EntryPair) (t u : List ℕ) → AreConflicts x asked t → AreConflicts x asked u → t ≡ u
text_once x asked t u one other =
    let summaries : one.summaries ≡ other.summaries = all_summaries_once x one.summaries other.summaries one.are other.are in
    let analysis : one.analysis ≡ other.analysis = analysis_once x other.summaries one.analysis other.analysis
    (subst (λ s. IsAnalysis x s one.analysis) summaries one.analysed) other.analysed in
    let rest : one.rest ≡ other.rest = told_once x other.summaries (sections (length x.entries) asked) MOST_TOLD one.rest other.rest
    (subst (λ s. IsTold x s (sections (length x.entries) asked) MOST_TOLD one.rest) summaries one.tells) other.tells in
    one.is ∙ (λ i. analysis i ++ (first_line ++ rest i)) ∙ sym other.is
