-- The list of each requested entry.
use Rattle.std.proofs.Common.{◌≡◌, ◌⊎◌, inl, inr, ⊎_elim, ◌↔◌, ℕ, ◌+◌, ◌<◌, ◌≤◌, Bool, true, false}
use Rattle.std.proofs.Common.{List, [], ◌∷◌, ◌++◌, length, Option, Some, None, Result, Ok, Err}
use Rattle.std.proofs.Common.{IfOk, refl, sym, ap, ◌∙◌, subst, arith, length-append}
use Rattle.std.specs.Prelude.{slice_get}
use Rattle.std.proofs.lemmas.Bool.{true≢false}
use Rattle.std.proofs.lemmas.Option.{none-some}
use Rattle.plex_num.proofs.Lists.{get_push}
use Rattle.exchange_model.specs.declared.exchange.Exchange.{Exchange}
use Rattle.flow_points.specs.declared.fact.Slot.{Slot}
use Rattle.flow_points.specs.declared.fact.Value.{Value}
use Rattle.flow_points.specs.Facts.{Facts, IsLeast, Known, fact}
use Rattle.fact_rows.specs.Known.{BitRows, Knows}
use Rattle.least_facts.specs.Least.{KnowLeast}
use Rattle.entry_summary.specs.declared.summary.Access.{Access}
use Rattle.entry_summary.specs.declared.summary.Summary.{Summary}
use Rattle.entry_summary.specs.Accesses.{IsAccess}
use Rattle.entry_summary.specs.Summaries.{IsSummary}
use Rattle.certificate_meaning.specs.Summaries.{AreSummaries}
use Rattle.certificate_meaning.proofs.Alike.{summary_alike}
use Rattle.conflict_rows.proofs.Alone.{accesses_by}
use Rattle.conflicts_meaning.specs.declared.rows.EntryPair.{EntryPair}
use Rattle.entry_additions.specs.declared.added.Added.{Added}
use Rattle.entry_additions.specs.declared.cells.CellKind.{CellKind}
use Rattle.entry_additions.specs.declared.cells.CellKind.TheVariants as kind
use Rattle.entry_additions.specs.Added.{AddsExactly}
use Rattle.entry_additions.proofs.Exact.{IsAddedOf, added_from, added_to}
use Rattle.additions_text.specs.Lists.{AreLists, IsListOf, is_asked}

-- sets of facts that agree on an entry

module _ (x : Exchange) (P Q : Facts) (e : ℕ) (to : (p : ℕ) (s : Slot) (v : Value) → Known P e p s v → Known Q e p s v)
    (back : (p : ℕ) (s : Slot) (v : Value) → Known Q e p s v → Known P e p s v) where
  access_on : (a : Access) → IsAccess x P e a → IsAccess x Q e a
  access_on a w = record {
    at = w.at;
    point = w.point;
    stands = w.stands;
    reached = (w.reached.0, to w.point _ w.reached.0 w.reached.1);
    access = accesses_by x P Q e w.at.block w.point (to w.point) w.access;
  }

  pub of_on : (k : CellKind) (n : ℕ) → IsAddedOf x P e k n → IsAddedOf x Q e k n
  of_on k n h =
      let t = added_to x P e k n h in
      added_from x Q e k n (t.0.0, access_on t.0.0 t.0.1, t.0.2)
      (λ at point stands reached a is access. t.1 at point stands (reached.0, back point _ reached.0 reached.1) a is
      (accesses_by x Q P e at.block point (back point) access))

pub added_of_least : (x : Exchange) (e : ℕ) (k : BitRows) (added : Added) → KnowLeast x e k
    → AddsExactly x (Knows k) e added → AddsExactly x (IsLeast x) e added
added_of_least x e k added know h =
    let to = λ (p : ℕ) (s : Slot) (v : Value) (f : Known (Knows k) e p s v). ((know.exact (fact e p s v)).0 f).1 in
    let back = λ (p : ℕ) (s : Slot) (v : Value) (f : Known (IsLeast x) e p s v). (know.exact (fact e p s v)).1 (refl, f) in
    record {
      are = record {
        variables = λ n. (
          (λ c. of_on x (Knows k) (IsLeast x) e to back kind.Variable n ((h.are.variables n).0 c)),
          (λ a. (h.are.variables n).1 (of_on x (IsLeast x) (Knows k) e back to kind.Variable n a)),
        );
        fields = λ n. (
          (λ c. of_on x (Knows k) (IsLeast x) e to back kind.Field n ((h.are.fields n).0 c)),
          (λ a. (h.are.fields n).1 (of_on x (IsLeast x) (Knows k) e back to kind.Field n a)),
        );
      };
      rising = h.rising;
    }

pub summary_by_known : (x : Exchange) (e : ℕ) (k : BitRows) (summaries : List Summary) (s : Summary)
    → AreSummaries x summaries → slice_get summaries e ≡ Some s → KnowLeast x e k → IsSummary x (Knows k) e s
summary_by_known x e k summaries s are there know =
    summary_alike x (IsLeast x) (Knows k) e s (record { each = λ f own least. (know.exact f).1 (own, least) })
    (record { each = λ f own here. ((know.exact f).0 here).1 }) (are.is e s there)

-- the lists, one after the other

pub lists_begin : (x : Exchange) (asked : Option EntryPair) (lists : List Added) → lists ≡ [] → AreLists x asked 0 lists
lists_begin x asked lists none = record {
  long = ap length none;
  is = λ e list there. absurd (none-some list (ap (λ (l : List Added). slice_get l e) (sym none) ∙ there));
}

pub lists_more : (x : Exchange) (asked : Option EntryPair) (n : ℕ) (list : Added) (all new : List Added)
    → IsListOf x asked n list → new ≡ all ++ list ∷ [] → AreLists x asked n all → AreLists x asked (n + 1) new
lists_more x asked n list all new is grown g = record {
  long = (let l = ap length grown ∙ length-append all (list ∷ []) in let h = g.long in omega (arith, l, h));
  is = λ e other there.
      ⊎_elim (g.is e other)
      (λ h. subst (λ k. IsListOf x asked k other) (sym (h.0 ∙ g.long)) (subst (IsListOf x asked n) h.1 is))
      (get_push all list other e (ap (λ (l : List Added). slice_get l e) (sym grown) ∙ there));
}

pub lists_end : (x : Exchange) (asked : Option EntryPair) (n count : ℕ) (all : List Added) → n ≤ count → count ≤ n
    → AreLists x asked n all → AreLists x asked count all
lists_end x asked n count all low high g = (let same : n ≡ count = omega (arith, low, high) in subst (λ k. AreLists x asked k all) same g)

pub not_asked : (x : Exchange) (asked : Option EntryPair) (e : ℕ) (b : Bool) (list : Added) → b ≡ is_asked asked e → b ≡ false → IsListOf x asked e list
not_asked x asked e b list is unasked asks = absurd (true≢false (sym asks ∙ sym is ∙ unasked))

pub asked_list : {M : Type 0} (x : Exchange) (asked : Option EntryPair) (e : ℕ) (r : Result Added M)
    → IfOk r (AddsExactly x (IsLeast x) e) → IfOk r (IsListOf x asked e)
asked_list x asked e (Ok list) is = λ asks. is
asked_list x asked e (Err m) is = tt
