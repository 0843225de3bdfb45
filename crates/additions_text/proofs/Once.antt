-- The text of the additions is unique.
use Rattle.std.proofs.Common.{◌≡◌, ◌↔◌, ℕ, List, [], ◌∷◌, ◌++◌, length, Option, Some, None, refl}
use Rattle.std.proofs.Common.{sym, ap, ◌∙◌, subst}
use Rattle.std.specs.Prelude.{slice_get}
use Rattle.std.specs.List.{Contains}
use Rattle.std.specs.Ordering.{nat_cmp}
use Rattle.std.proofs.lemmas.Cmp.{nat_cmp_total}
use Rattle.std.proofs.lemmas.Option.{same_Some}
use Rattle.exchange_model.specs.declared.exchange.Exchange.{Exchange}
use Rattle.flow_points.specs.Facts.{IsLeast}
use Rattle.entry_summary.specs.declared.summary.Access.{Access}
use Rattle.entry_summary.specs.declared.summary.Access.TheVariants.{Variable, Field, Own, Seizes}
use Rattle.entry_summary.specs.declared.summary.Access.TheVariants.{Frees}
use Rattle.entry_summary.specs.declared.summary.Summary.{Summary}
use Rattle.entry_summary.specs.contracts.summary.AccessOrd.TheImpl.Laws as access_laws
use Rattle.entry_summary.specs.Orders.{access_order}
use Rattle.entry_summary.proofs.Equal.{same_summary}
use Rattle.analysis_text.specs.declared.names.Names.{Names}
use Rattle.analysis_text.specs.Names.{names_of}
use Rattle.analysis_laws.proofs.Rising.{rising_once}
use Rattle.analysis_laws.proofs.Summing.{all_summaries_once}
use Rattle.conflicts_meaning.specs.declared.rows.EntryPair.{EntryPair}
use Rattle.conflicts_meaning.specs.declared.rows.Section.{Section}
use Rattle.conflicts_meaning.specs.declared.rows.Section.TheVariants.{Entry, Pair}
use Rattle.conflicts_meaning.specs.Told.{sections}
use Rattle.additions_meaning.specs.Additions.{Targets}
use Rattle.additions_meaning.specs.Lists.{AreOfBoth, HaveTheSame}
use Rattle.additions_meaning.specs.Sparing.{IsSpared, IsSparing}
use Rattle.entry_additions.specs.declared.added.Added.{Added}
use Rattle.entry_additions.specs.Added.{AddsExactly, targets}
use Rattle.addition_pairs.specs.declared.told.Told.{Told}
use Rattle.addition_pairs.specs.Adding.{IsAnother, TellsAdding}
use Rattle.addition_pairs.proofs.Telling.{told_once}
use Rattle.additions_text.specs.Additions.{AreAdditions, InTurn, IsSectionText, nothing, then}
use Rattle.additions_text.specs.Lines.{adding_text, adds_text, first_line, last_line}

-- two ordered lists with the same items are equal

added_once : (x : Exchange) (e : ℕ) (one other : Added) → AddsExactly x (IsLeast x) e one → AddsExactly x (IsLeast x) e other → one ≡ other
added_once x e one other a b =
    let variables : one.variables ≡ other.variables = rising_once nat_cmp nat_cmp_total one.variables other.variables a.rising.variables b.rising.variables
    (λ n. ((λ c. (b.are.variables n).1 ((a.are.variables n).0 c)), (λ c. (a.are.variables n).1 ((b.are.variables n).0 c)))) in
    let fields : one.fields ≡ other.fields = rising_once nat_cmp nat_cmp_total one.fields other.fields a.rising.fields b.rising.fields
    (λ n. ((λ c. (b.are.fields n).1 ((a.are.fields n).0 c)), (λ c. (a.are.fields n).1 ((b.are.fields n).0 c)))) in
    λ i. record { variables = variables i; fields = fields i }

-- the summaries without the accesses to cells that both lists contain

spared_by : (d e : Targets) → ((n : ℕ) → Contains d.variables n → Contains e.variables n)
    → ((n : ℕ) → Contains d.fields n → Contains e.fields n) → (a : Access) → IsSpared d a → IsSpared e a
spared_by d e variables fields (Variable write n) c = variables n c
spared_by d e variables fields (Field write n v) c = fields n c
spared_by d e variables fields (Own write n) c = c
spared_by d e variables fields (Seizes file) c = c
spared_by d e variables fields (Frees file) c = c

sparing_once : (d e : Targets) (m n o : Summary) → HaveTheSame d e → IsSparing d m n → IsSparing e m o → n ≡ o
sparing_once d e m n o same one other =
    same_summary n o (one.level ∙ sym other.level)
    (rising_once access_order access_laws.total-law n.accesses o.accesses n.rising o.rising (λ a. (
      (λ c. (let k = (one.accesses a).0 c in (other.accesses a).1 (k.0, λ s. k.1 (spared_by e d (λ n. (same.variables n).1) (λ n. (same.fields n).1) a s)))),
      (λ c. (let k = (other.accesses a).0 c in (one.accesses a).1 (k.0, λ s. k.1 (spared_by d e (λ n. (same.variables n).0) (λ n. (same.fields n).0) a s)))),
    )))
    (one.levels ∙ sym other.levels) (one.fault ∙ sym other.fault)

both_same : (d e one other : Targets) → AreOfBoth d e one → AreOfBoth d e other → HaveTheSame one other
both_same d e one other a b = record {
  variables = λ n. ((λ c. (b.variables n).1 ((a.variables n).0 c)), (λ c. (a.variables n).1 ((b.variables n).0 c)));
  fields = λ n. ((λ c. (b.fields n).1 ((a.fields n).0 c)), (λ c. (a.fields n).1 ((b.fields n).0 c)));
}

-- the verdict with additions

another_once : (first later one other : Summary) (a b : Option Told) → IsAnother first later one other a → IsAnother first later one other b → a ≡ b
another_once first later one other None None p q = refl
another_once first later one other None (Some t) p q = absurd (q.1 (p t q.0))
another_once first later one other (Some t) None p q = absurd (p.1 (q t p.0))
another_once first later one other (Some s) (Some t) p q = ap (λ u. Some u) (told_once one other s t p.0 q.0)

adding_once : (first later : Summary) (d e : Targets) (a b : Option Told) → TellsAdding first later d e a → TellsAdding first later d e b → a ≡ b
adding_once first later d e a b p q =
    let same = both_same d e p.sparing.shared q.sparing.shared p.sparing.are q.sparing.are in
    let one : p.one ≡ q.one = sparing_once p.sparing.shared q.sparing.shared first p.one q.one same p.sparing.of_first q.sparing.of_first in
    let other : p.other ≡ q.other = sparing_once p.sparing.shared q.sparing.shared later p.other q.other same p.sparing.of_later q.sparing.of_later in
    another_once first later q.one q.other a b
    (subst (λ s. IsAnother first later q.one s a) other
    (subst (λ s. IsAnother first later s p.other a) one p.tells)) q.tells

-- sections

module _ (x : Exchange) (ss : List Summary) where
  abbrev names : Names
  names = names_of x.blocks

  section_once : (s : Section) (t u : List ℕ) → IsSectionText x ss s t → IsSectionText x ss s u → t ≡ u
  section_once (Entry e) t u one other = one.is
      ∙ ap (λ a. adds_text names e (targets a)) (added_once x e one.added other.added one.exactly other.exactly)
      ∙ sym other.is
  section_once (Pair p) t u one other =
      let first : one.first ≡ other.first = same_Some one.first other.first (sym one.of_first ∙ other.of_first) in
      let later : one.later ≡ other.later = same_Some one.later other.later (sym one.of_later ∙ other.of_later) in
      let ones : one.first_adds ≡ other.first_adds = added_once x p.first one.first_adds other.first_adds one.first_exactly other.first_exactly in
      let others : one.later_adds ≡ other.later_adds = added_once x p.later one.later_adds other.later_adds one.later_exactly other.later_exactly in
      let moved : TellsAdding other.first other.later (targets other.first_adds) (targets other.later_adds) one.told =
      subst (λ l. TellsAdding other.first other.later (targets other.first_adds) (targets l) one.told) others
      (subst (λ l. TellsAdding other.first other.later (targets l) (targets one.later_adds) one.told) ones
      (subst (λ s. TellsAdding other.first s (targets one.first_adds) (targets one.later_adds) one.told) later
      (subst (λ s. TellsAdding s one.later (targets one.first_adds) (targets one.later_adds) one.told) first one.tells))) in
      let told = adding_once other.first other.later (targets other.first_adds) (targets other.later_adds) one.told other.told moved other.tells in
      one.is ∙ ap (adding_text names p) told ∙ sym other.is

  turn_once : (all : List Section) (t u : List ℕ) → InTurn (IsSectionText x ss) all t → InTurn (IsSectionText x ss) all u → t ≡ u
  turn_once _ _ _ nothing nothing = refl
  turn_once _ _ _ (then s rest part text is more) (then _ _ other last also further) =
      let here : part ≡ other = section_once s part other is also in
      let tail : text ≡ last = turn_once rest text last more further in
      λ i. here i ++ tail i

pub text_once : (x : Exchange) (asked : Option EntryPair) (t u : List ℕ) → AreAdditions x asked t → AreAdditions x asked u → t ≡ u
text_once x asked t u one other =
    let summaries : one.summaries ≡ other.summaries = all_summaries_once x one.summaries other.summaries one.are other.are in
    let parts : one.parts ≡ other.parts = turn_once x other.summaries (sections (length x.entries) asked) one.parts other.parts
    (subst (λ s. InTurn (IsSectionText x s) (sections (length x.entries) asked) one.parts) summaries one.tells) other.tells in
    one.is ∙ ap (λ p. first_line ++ (p ++ last_line)) parts ∙ sym other.is
