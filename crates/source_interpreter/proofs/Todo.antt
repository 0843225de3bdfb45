-- What taking the first item, part by part, does to what remains.
use Rattle.std.proofs.Common.{◌≡◌, true, false, List, [], ◌∷◌, ◌++◌, Option, Some, None, refl}
use Rattle.std.proofs.Common.{subst, sym, ap, ◌∙◌, append_assoc, arith}
use Rattle.std.specs.Prelude.{IfSome, nat_lt, if◌then◌else◌}
use Rattle.std.proofs.lemmas.List.{append-nil}
use Rattle.std.proofs.lemmas.Bool.{not-false, not-true}
use Rattle.std.proofs.lemmas.Bool.Decides.{nat_tests}
use Rattle.plex_num.proofs.Lists.{all_last, all_left, all_push}
use Rattle.exchange_model.specs.declared.stmt.StmtKind.{out-StmtKind}
use Rattle.source_meaning.specs.Config.{Item, Do, Turns, next_counted}
use Rattle.exchange_model.specs.Kept.{is_enter}
use Rattle.std.specs.Option.{option_to_list}
use Rattle.exchange_model.specs.declared.stmt.Stmt.{Stmt}
use Rattle.source_interpreter.specs.Work.{items_of, taken_items, todo_of}
use Rattle.source_interpreter.specs.declared.cases.Cases.{Cases}
use Rattle.source_interpreter.specs.Kept.{AreKept, AreOfText, IsKept, IsOfText}
use Rattle.source_interpreter.specs.Taken.{item_of, before, is_counted}
use Rattle.source_interpreter.specs.declared.work.Part.{Part}
use Rattle.source_interpreter.specs.declared.work.Next.{Next}
use Rattle.source_interpreter.specs.declared.work.Next.TheVariants as next

-- the last part comes first
pub todo_push : (ps : List Part) (p : Part) → todo_of (ps ++ p ∷ []) ≡ items_of p ++ todo_of ps
todo_push [] p = sym (append-nil (items_of p))
todo_push (q ∷ ps) p = ap (λ l. l ++ items_of q) (todo_push ps p) ∙ append_assoc (items_of p) (todo_of ps) (items_of q)

-- what the last part leaves
pub todo_pop : (all ps : List Part) (o : Option Part) → all ≡ ps ++ option_to_list o → todo_of all ≡ taken_items o ++ todo_of ps
todo_pop all ps None is = ap todo_of (is ∙ append-nil ps)
todo_pop all ps (Some p) is = ap todo_of is ∙ todo_push ps p

pub todo_none : (all ps : List Part) (o : Option Part) → all ≡ ps ++ option_to_list o → o ≡ None → ps ≡ [] → todo_of all ≡ []
todo_none all ps o is none gone = ap todo_of (is ∙ ap (λ p. ps ++ option_to_list p) none ∙ append-nil ps ∙ gone)

pub kept_push : (ps : List Part) (p : Part) → IsKept p → AreKept ps → AreKept (ps ++ p ∷ [])
kept_push ps p h k = all_push IsKept ps p k h

pub kept_pop : (all ps : List Part) (o : Option Part) → all ≡ ps ++ option_to_list o → AreKept all → AreKept ps
kept_pop all ps o is h = all_left IsKept ps (option_to_list o) (subst AreKept is h)

pub kept_part : (all ps : List Part) (o : Option Part) → all ≡ ps ++ option_to_list o → AreKept all → IfSome o IsKept
kept_part all ps None is h = tt
kept_part all ps (Some p) is h = all_last IsKept ps p (subst AreKept is h)

-- the first of the statements of a text, and the others
module _ (cases : Cases) (s : Stmt) (all rest : List Stmt) (is : all ≡ s ∷ rest) (kept : AreOfText cases all) where
  pub kept_first : IsOfText cases s
  kept_first = (subst (AreOfText cases) is kept).0

  pub kept_others : AreOfText cases rest
  kept_others = (subst (AreOfText cases) is kept).1

-- an item that counts stays
stays : (n : Next) (rest : List Item) → is_counted n ≡ true → next_counted (item_of n ∷ rest) ≡ item_of n ∷ rest
unfolding next_counted
stays (next.Do s cases) rest e = ap (λ b. if b then next_counted rest else (Do s.now ∷ rest)) (not-true (is_enter (out-StmtKind s.now.kind)) e)
stays (next.Start s) rest e = refl
stays (next.Turn p t this end body cases) rest e =
    let past : nat_lt end this ≡ false = grind (arith, nat_tests) in
    ap (λ b. if b then next_counted rest else (Turns p t this end body.now ∷ rest)) past

-- another is passed over
goes : (n : Next) (rest : List Item) → is_counted n ≡ false → next_counted (item_of n ∷ rest) ≡ next_counted rest
unfolding next_counted
goes (next.Do s cases) rest e = ap (λ b. if b then next_counted rest else (Do s.now ∷ rest)) (not-false (is_enter (out-StmtKind s.now.kind)) e)
goes (next.Start s) rest e = cc
goes (next.Turn p t this end body cases) rest e =
    let past : nat_lt end this ≡ true = grind (arith, nat_tests) in
    ap (λ b. if b then next_counted rest else (Turns p t this end body.now ∷ rest)) past

-- the loop that takes an item that counts
pub nothing : (all rest o : List Item) (found : Option Next) → found ≡ None → all ≡ before found rest → next_counted all ≡ o → o ≡ []
unfolding next_counted
nothing all rest o found none is inv = sym inv ∙ ap next_counted (is ∙ ap (λ f. before f rest) none)

pub reached : (all rest o : List Item) (found : Option Next) (n : Next) → found ≡ Some n → all ≡ before found rest
    → is_counted n ≡ true → next_counted all ≡ o → o ≡ item_of n ∷ rest
reached all rest o found n some is e inv = sym inv ∙ ap next_counted (is ∙ ap (λ f. before f rest) some) ∙ stays n rest e

pub passed : (all rest o : List Item) (found : Option Next) (n : Next) → found ≡ Some n → all ≡ before found rest
    → is_counted n ≡ false → next_counted all ≡ o → next_counted rest ≡ o
passed all rest o found n some is e inv = sym (ap next_counted (is ∙ ap (λ f. before f rest) some) ∙ goes n rest e) ∙ inv
