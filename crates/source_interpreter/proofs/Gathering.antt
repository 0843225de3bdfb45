-- The walk that finds the CASEs of an exchange, and the tables that these find.
use Rattle.std.proofs.Common.{◌≡◌, ℕ, ◌+◌, ◌<◌, ◌≤◌, Bool, true, List, [], ◌∷◌, ◌++◌, length, take}
use Rattle.std.proofs.Common.{get_or, Option, Some, None, IsTrue, refl, sym, ap, ◌∙◌, subst}
use Rattle.std.specs.Prelude.{IfSome}
use Rattle.std.specs.List.{AllByRecursion}
use Rattle.std.proofs.lemmas.List.{take_more, take_all}
use Rattle.plex_num.proofs.Lists.{all_from, all_last, all_left, all_push}
use Rattle.case_lookup.specs.Tables.{IsTable}
use Rattle.exchange_model.specs.declared.block.Block.{Block}
use Rattle.exchange_model.specs.declared.expr.Cond.{Cond}
use Rattle.exchange_model.specs.declared.expr.Expr.{Expr}
use Rattle.exchange_model.specs.declared.stmt.Stmt.{Stmt}
use Rattle.exchange_model.specs.declared.stmt.When.{When, out-When}
use Rattle.exchange_model.specs.declared.stmt.StmtKind.{StmtKind, out-StmtKind}
use Rattle.exchange_model.specs.declared.stmt.StmtKind.TheOpen as layer
use Rattle.exchange_model.specs.declared.stmt.StmtKind.TheVariants as kind
use Rattle.exchange_model.specs.Everywhere.{Layer}
use Rattle.exchange_model.proofs.Layers.{same_kind}
use Rattle.source_interpreter.specs.declared.cases.Cases.{Cases}
use Rattle.source_interpreter.specs.declared.cases.Found.{Found}
use Rattle.source_interpreter.specs.Cases.{AreTablesOf, BlockKnown, FindsOwn, IsKnown, LayerKnown}
use Rattle.source_interpreter.specs.Cases.{WhenKnown, numbers_of, table_at}
use Rattle.source_interpreter.specs.Found.{AreOwn, Gathers}
use Rattle.source_interpreter.proofs.Known.{known_made}

-- items one after the other

pub gathered_begin : {X : Type 0} (Q : Cases → X → Type 0) (xs : List X) (found : List Found) → Gathers Q (take 0 xs) found found
gathered_begin Q xs found = record { tells = λ cases own. (own, tt) }

pub gathered_more : {X : Type 0} (Q : Cases → X → Type 0) (xs : List X) (i : ℕ) (x : X) (old now new : List Found)
    → i < length xs → x ≡ get_or xs i x → Gathers Q (take i xs) old now → Gathers Q (x ∷ []) now new
    → Gathers Q (take (i + 1) xs) old new
gathered_more Q xs i x old now new inside is before here = record {
  tells = λ cases own.
      let last = here.tells cases own in
      let first = before.tells cases last.0 in
      let all : AllByRecursion (Q cases) (take i xs ++ x ∷ []) = all_push (Q cases) (take i xs) x first.1 last.1.0 in
      let longer : take (i + 1) xs ≡ take i xs ++ x ∷ [] = take_more xs i x inside ∙ ap (λ y. take i xs ++ y ∷ []) (sym is) in
      (first.0, subst (AllByRecursion (Q cases)) (sym longer) all);
}

pub gathered_end : {X : Type 0} (Q : Cases → X → Type 0) (xs given : List X) (i : ℕ) (old new : List Found) → given ≡ xs
    → length given ≤ i → Gathers Q (take i given) old new → Gathers Q xs old new
gathered_end Q xs given i old new same past all = subst (λ l. Gathers Q l old new) (take_all i given past ∙ same) all

-- what is known of an item by another predicate
other : {X Y : Type 0} (P : Cases → X → Type 0) (Q : Cases → Y → Type 0) (x : X) (y : Y) (old new : List Found)
    → ((cases : Cases) → P cases x → Q cases y) → Gathers P (x ∷ []) old new → Gathers Q (y ∷ []) old new
other P Q x y old new same here = record {
  tells = λ cases own. let h = here.tells cases own in (h.0, (same cases h.1.0, tt));
}

pub one_gathered : (s : Stmt) (old new : List Found)
    → Gathers (λ cases l. LayerKnown cases s.point l) (out-StmtKind s.kind ∷ []) old new
    → Gathers IsKnown (s ∷ []) old new
one_gathered s old new here = other (λ cases l. LayerKnown cases s.point l) IsKnown (out-StmtKind s.kind) s old new
    (λ cases known. known_made cases s known) here

pub when_gathered : (w : When) (old new : List Found) → Gathers IsKnown (out-When w).body old new → Gathers WhenKnown (w ∷ []) old new
when_gathered w old new here = record {
  tells = λ cases own. let h = here.tells cases own in (h.0, (h.1, tt));
}

pub block_gathered : (b : Block) (old new : List Found) → Gathers IsKnown b.body old new → Gathers BlockKnown (b ∷ []) old new
block_gathered b old new here = record {
  tells = λ cases own. let h = here.tells cases own in (h.0, (h.1, tt));
}

-- the kinds of a statement at a point

module _ (point : ℕ) (k : StmtKind) (old new : List Found) where
  abbrev Here : Layer → Type 0
  Here l = Gathers (λ cases m. LayerKnown cases point m) (l ∷ []) old new

  by_layer : (l : Layer) → out-StmtKind k ≡ l → Here l → Here (out-StmtKind k)
  by_layer l is here = subst Here (sym is) here

  pub if_gathered : (cond : Cond) (first second : List Stmt) (between : List Found) → k ≡ kind.If cond first second
      → Gathers IsKnown first old between → Gathers IsKnown second between new → Here (out-StmtKind k)
  if_gathered cond first second between is one two = by_layer (layer.If cond first second) (ap out-StmtKind is ∙ kind.outs-If cond first second) (record {
    tells = λ cases own.
        let last = two.tells cases own in
        let before = one.tells cases last.0 in
        (before.0, ((before.1, last.1), tt));
  })

  pub case_gathered : (value : Expr) (whens : List When) (otherwise : List Stmt) (f : Found)
      (with_own between : List Found) → k ≡ kind.Case value whens otherwise → f.point ≡ point → f.whens.now ≡ whens
      → with_own ≡ old ++ f ∷ [] → Gathers WhenKnown whens with_own between → Gathers IsKnown otherwise between new
      → Here (out-StmtKind k)
  case_gathered value whens otherwise f with_own between is at choices pushed one two = by_layer
      (layer.Case value whens otherwise) (ap out-StmtKind is ∙ kind.outs-Case value whens otherwise) (record {
        tells = λ cases own.
            let last = two.tells cases own in
            let before = one.tells cases last.0 in
            let found : AreOwn cases (old ++ f ∷ []) = subst (AreOwn cases) pushed before.0 in
            let here : FindsOwn cases f.point f.whens.now = all_last (λ (g : Found). FindsOwn cases g.point g.whens.now) old f found in
            let this : FindsOwn cases point whens = subst (λ ws. FindsOwn cases point ws) choices (subst (λ p. FindsOwn cases p f.whens.now) at here) in (
              all_left (λ (g : Found). FindsOwn cases g.point g.whens.now) old (f ∷ []) found,
              (record { own = this; choices = before.1; other = last.1 }, tt),
            );
      })

  pub on_gathered : (temp : ℕ) (from upto : Expr) (body : List Stmt) → k ≡ kind.On temp from upto body → Gathers IsKnown body old new → Here (out-StmtKind k)
  on_gathered temp from upto body is one = by_layer (layer.On temp from upto body) (ap out-StmtKind is ∙ kind.outs-On temp from upto body) (record {
    tells = λ cases own. let all = one.tells cases own in (all.0, (all.1, tt));
  })

pub other_gathered : (point : ℕ) (k : StmtKind) (found : List Found)
    → ((c : Cond) (ys ns : List Stmt) → k ≡ kind.If c ys ns → ⊥)
    → ((e : Expr) (ws : List When) (os : List Stmt) → k ≡ kind.Case e ws os → ⊥)
    → ((t : ℕ) (e f : Expr) (body : List Stmt) → k ≡ kind.On t e f body → ⊥)
    → Gathers (λ cases l. LayerKnown cases point l) (out-StmtKind k ∷ []) found found
other_gathered point k found no_if no_case no_on = record { tells = λ cases own. (own, (alone cases (out-StmtKind k) refl, tt)) }
  where
    alone : (cases : Cases) (l : Layer) → out-StmtKind k ≡ l → LayerKnown cases point l
    alone cases (layer.If c ys ns) is = absurd (no_if c ys ns (same_kind k (kind.If c ys ns) _ is (kind.outs-If c ys ns)))
    alone cases (layer.Case e ws os) is = absurd (no_case e ws os (same_kind k (kind.Case e ws os) _ is (kind.outs-Case e ws os)))
    alone cases (layer.On t e f body) is = absurd (no_on t e f body (same_kind k (kind.On t e f body) _ is (kind.outs-On t e f body)))
    alone cases _ is = tt

-- the tables

pub tables_are : (cases : Cases) (blocks : List Block) (found : List Found) → Gathers BlockKnown blocks [] found → AreOwn cases found → AreTablesOf cases blocks
unfolding AreTablesOf
tables_are cases blocks found all own = (all.tells cases own).1

-- no tables are those of all

pub own_none : (cases : Cases) (point : ℕ) (whens : List When) → None ≡ table_at cases point → FindsOwn cases point whens
own_none cases point whens none = record { table = subst (λ o. IfSome o (λ keys. IsTable (numbers_of whens) keys)) none tt }

pub none_own : (cases : Cases) (found : List Found) → ((point : ℕ) → table_at cases point ≡ None) → AreOwn cases found
none_own cases found none = all_from (λ (f : Found). FindsOwn cases f.point f.whens.now) found
    (λ i f there. own_none cases f.point f.whens.now (sym (none f.point)))

-- a table that was made again

pub own_some : (cases : Cases) (point : ℕ) (whens : List When) (keys held : List ℕ) → Some held ≡ table_at cases point
    → IsTable (numbers_of whens) keys → keys ≡ held → FindsOwn cases point whens
own_some cases point whens keys held is table same = record {
  table = subst (λ o. IfSome o (λ ks. IsTable (numbers_of whens) ks)) is
      (subst (IsTable (numbers_of whens)) same table);
}

-- CASEs one after the other

pub own_begin : (cases : Cases) (found : List Found) → AreOwn cases (take 0 found)
own_begin cases found = tt

pub own_more : (cases : Cases) (found : List Found) (i : ℕ) (f : Found) → i < length found → f ≡ get_or found i f
    → AreOwn cases (take i found) → FindsOwn cases f.point f.whens.now → AreOwn cases (take (i + 1) found)
own_more cases found i f inside is before here =
    let longer : take (i + 1) found ≡ take i found ++ f ∷ [] = take_more found i f inside ∙ ap (λ g. take i found ++ g ∷ []) (sym is) in
    subst (AreOwn cases) (sym longer) (all_push (λ (g : Found). FindsOwn cases g.point g.whens.now) (take i found) f before here)

pub own_end : (cases : Cases) (found : List Found) (i : ℕ) → length found ≤ i → AreOwn cases (take i found) → AreOwn cases found
own_end cases found i past all = subst (AreOwn cases) (take_all i found past) all
