-- Where a signal has an ENTER in the text of a block, the block receives it, and has as many entry
-- values as it has values.
use Rattle.std.proofs.Common.{◌≡◌, inl, inr, ℕ, ◌+◌, ◌≤◌, Bool, true, false, List, [], ◌∷◌, map}
use Rattle.std.proofs.Common.{Option, Some, None, refl, sym, ap, ◌∙◌, subst, slice_get, arith}
use Rattle.std.proofs.lemmas.Bool.{eqb-true, eq-eqb}
use Rattle.std.specs.Prelude.{nat_eq, ◌||◌}
use Rattle.std.specs.List.{AllByRecursion, list_any, cons_option}
use Rattle.std.specs.Option.{option_map_or}
use Rattle.exchange_model.specs.declared.exchange.Exchange.{Exchange}
use Rattle.exchange_model.specs.declared.block.Block.{Block}
use Rattle.exchange_model.specs.declared.block.Enter.{Enter as Row}
use Rattle.exchange_model.specs.declared.stmt.Stmt.{Stmt}
use Rattle.exchange_model.specs.declared.stmt.When.{When, out-When}
use Rattle.exchange_model.specs.declared.stmt.StmtKind.{out-StmtKind}
use Rattle.exchange_model.specs.declared.stmt.StmtKind.TheOpen as stmt
use Rattle.exchange_model.specs.Fits.{Scope, InnerFits, ListsFit, is_inner}
use Rattle.exchange_model.specs.Inside.{most}
use Rattle.exchange_model.specs.Kept.{IsExchange, entered, enters_from, row_at, scope_of}
use Rattle.exchange_model.proofs.Layers.{stmt_fits-out}
use Rattle.source_meaning.specs.Named.{Layer}
use Rattle.source_meaning.specs.Changes.{value_count}
use Rattle.source_meaning.specs.Config.{is_receiver}
use Rattle.source_meaning.specs.Deeds.{IsBranch}
use Rattle.source_meaning.specs.Rests.{IsRow, whole, later, branch, turn}
use Rattle.source_meaning.proofs.Fitting.{row_fits}
use Rattle.source_meaning.proofs.Lists.{all_contained}
use Rattle.flow_points.specs.Slots.{given_count}
use Rattle.plex_num.proofs.Lists.{all_weaker}

-- the rows tell of each ENTER of a statement
abbrev TellsOf : List Row → Stmt → Type 0
TellsOf rows s = (signal : ℕ) → entered (out-StmtKind s.kind) ≡ Some signal → list_any (λ (r : Row). nat_eq r.signal signal) rows ≡ true

any_more : (o : Option Row) (rows : List Row) (signal : ℕ) → list_any (λ (r : Row). nat_eq r.signal signal) rows ≡ true
    → list_any (λ (r : Row). nat_eq r.signal signal) (cons_option o rows) ≡ true
any_more None rows signal h = h
any_more (Some r) rows signal h = by (nat_eq r.signal signal)
  where
    by : (b : Bool) → (b || list_any (λ (r : Row). nat_eq r.signal signal) rows) ≡ true
    by true = refl
    by false = h

first_told : (from : ℕ) (s : Stmt) (rows : List Row) → TellsOf (cons_option (row_at (entered (out-StmtKind s.kind)) from) rows) s
first_told from s rows signal is =
    ap (λ o. list_any (λ (r : Row). nat_eq r.signal signal) (cons_option (row_at o from) rows)) is ∙ here (nat_eq signal signal) (eq-eqb signal signal refl)
  where
    here : (b : Bool) → b ≡ true → (b || list_any (λ (r : Row). nat_eq r.signal signal) rows) ≡ true
    here true so = refl
    here false so = cc

text_told : (from : ℕ) (body : List Stmt) → AllByRecursion (TellsOf (enters_from from body)) body
unfolding enters_from
text_told from [] = tt
text_told from (s ∷ body) =
    let rows = enters_from (from + 1) body in
    let o = row_at (entered (out-StmtKind s.kind)) from in (
      first_told from s rows,
      all_weaker (TellsOf rows) (TellsOf (cons_option o rows)) body
          (λ t h signal is. any_more o rows signal (h signal is)) (text_told (from + 1) body),
    )

-- a statement inside another one is no ENTER
inner_told : (l : Layer) (signal : ℕ) → is_inner l ≡ true → entered l ≡ Some signal → ⊥
inner_told (stmt.Enter n temps) signal inner is = cc
inner_told (stmt.SetTemp temp e) signal inner is = cc
inner_told _ signal inner is = cc

pub branch_inner : (scope : Scope) (l : Layer) (body : List Stmt) → ListsFit scope l → IsBranch l body → InnerFits scope body
branch_inner scope (stmt.If cond yes_part no_part) body lists (inl is) = subst (InnerFits scope) (sym is) lists.0
branch_inner scope (stmt.If cond yes_part no_part) body lists (inr is) = subst (InnerFits scope) (sym is) lists.1
branch_inner scope (stmt.Case value whens otherwise) body lists (inl is) = subst (InnerFits scope) (sym is) lists.1
branch_inner scope (stmt.Case value whens otherwise) body lists (inr is) =
    subst (InnerFits scope) (sym is.2) (all_contained (λ (w : When). InnerFits scope (out-When w).body) whens is.0 lists.0 is.1)
branch_inner scope _ body lists is = absurd is

inside_told : (rows : List Row) (scope : Scope) (body : List Stmt) → InnerFits scope body → AllByRecursion (TellsOf rows) body
inside_told rows scope body fit =
    all_weaker (λ (one : Stmt). is_inner (out-StmtKind one.kind) ≡ true) (TellsOf rows) body
    (λ t inner signal is. absurd (inner_told (out-StmtKind t.kind) signal inner is)) fit.0

-- the block of a row, which receives the signal of each ENTER
pub record RowTold (x : Exchange) (b : ℕ) (list : List Stmt) : Type 0 where
  pub block : Block
  pub there : slice_get x.blocks b ≡ Some block
  pub told : AllByRecursion (TellsOf block.enters) list

module _ (x : Exchange) (kept : IsExchange x) (b : ℕ) where
  pub row_told : (list : List Stmt) (end : Option ℕ) → IsRow x b list end → RowTold x b list
  row_told list end (whole k there) =
      record {
        block = k;
        there = there;
        told = subst (λ rows. AllByRecursion (TellsOf rows) k.body)
            (sym (kept.blocks.each b k there).enters) (text_told 0 k.body);
      }
  row_told list end (later s rest e row) = let r = row_told (s ∷ rest) e row in record { block = r.block; there = r.there; told = r.told.1 }
  row_told list end (branch s rest e body row is) =
      let r = row_fits x kept b (s ∷ rest) e row in
      let scope = scope_of x b r.block in
      record {
        block = r.block;
        there = r.there;
        told = inside_told r.block.enters scope body
            (branch_inner scope (out-StmtKind s.kind) body (stmt_fits-out scope s.kind r.fits.0).lists is);
      }
  row_told list end (turn s rest e temp from upto body row is) =
      let r = row_fits x kept b (s ∷ rest) e row in
      let scope = scope_of x b r.block in
      record {
        block = r.block;
        there = r.there;
        told = inside_told r.block.enters scope body
            (subst (ListsFit scope) is (stmt_fits-out scope s.kind r.fits.0).lists);
      }

-- as many entry values

most_of : (n : ℕ) (ns : List ℕ) → n ≤ most (n ∷ ns)
most_of n ns = omega arith

most_later : (v n : ℕ) (ns : List ℕ) → v ≤ most ns → v ≤ most (n ∷ ns)
most_later v n ns h = omega arith

most_has : (x : Exchange) (signal : ℕ) (rows : List Row) → list_any (λ (r : Row). nat_eq r.signal signal) rows ≡ true
    → value_count x signal ≤ most (map (λ (r : Row). value_count x r.signal) rows)
most_has x signal [] h = cc
most_has x signal (r ∷ rows) h = by (nat_eq r.signal signal) refl h (most_has x signal rows)
  where
    by : (same : Bool) → nat_eq r.signal signal ≡ same → (same || list_any (λ (r : Row). nat_eq r.signal signal) rows) ≡ true
        → (list_any (λ (r : Row). nat_eq r.signal signal) rows ≡ true → value_count x signal ≤ most (map (λ (r : Row). value_count x r.signal) rows))
        → value_count x signal ≤ most (map (λ (r : Row). value_count x r.signal) (r ∷ rows))
    by true is any more =
        subst (λ n. value_count x n ≤ most (map (λ (r : Row). value_count x r.signal) (r ∷ rows))) (eqb-true r.signal signal is)
        (most_of (value_count x r.signal) (map (λ (r : Row). value_count x r.signal) rows))
    by false is any more = most_later (value_count x signal) (value_count x r.signal) (map (λ (r : Row). value_count x r.signal) rows) (more any)

pub received_fits : (x : Exchange) (b signal : ℕ) (k : Block) → slice_get x.blocks b ≡ Some k
    → is_receiver signal k ≡ true → value_count x signal ≤ given_count x b
received_fits x b signal k there receives =
    subst (λ o. value_count x signal ≤ option_map_or
    (λ (k : Block). most (map (λ (r : Row). value_count x r.signal) k.enters)) o 0) (sym there)
    (most_has x signal k.enters receives)

pub enter_fits : (x : Exchange) → IsExchange x → (b signal : ℕ) (s : Stmt) (list : List Stmt) (end : Option ℕ)
    → IsRow x b (s ∷ list) end → entered (out-StmtKind s.kind) ≡ Some signal → value_count x signal ≤ given_count x b
enter_fits x kept b signal s list end row is =
    let r = row_told x kept b (s ∷ list) end row in
    received_fits x b signal r.block r.there (r.told.0 signal is)
