-- That a statement and all those in it find their own tables, opened and made: one layer, and the
-- same of each of its parts.
use Rattle.std.proofs.Common.{ℕ, List, [], ◌∷◌}
use Rattle.std.specs.List.{AllByRecursion}
use Rattle.plex_num.proofs.Lists.{all_weaker}
use Rattle.exchange_model.specs.declared.stmt.Stmt.{Stmt}
use Rattle.exchange_model.specs.declared.stmt.When.{When, out-When}
use Rattle.exchange_model.specs.declared.stmt.StmtKind.{out-StmtKind}
use Rattle.exchange_model.specs.declared.stmt.StmtKind.TheOpen as layer
use Rattle.exchange_model.specs.Everywhere.{Layer, Everywhere, AllIn, PartsKeep}
use Rattle.exchange_model.proofs.Everywhere.{everywhere-own, everywhere-parts, everywhere-built}
use Rattle.source_interpreter.specs.declared.cases.Cases.{Cases}
use Rattle.source_interpreter.specs.Cases.{AllOwn, AreKnown, IsKnown, IsOwn, LayerKnown, LayerOwn}
use Rattle.source_interpreter.specs.Cases.{ListsOwn, WhenKnown}

module _ (cases : Cases) where
  -- a list, by its own statements and by those in them

  own_of : (statements : List Stmt) → AreKnown cases statements → AllOwn cases statements
  own_of statements known = all_weaker (IsKnown cases) (IsOwn cases) statements (λ s h. h.own) known

  inner_of : (statements : List Stmt) → AreKnown cases statements → AllIn (ListsOwn cases) statements
  inner_of statements known = all_weaker (IsKnown cases) (λ (s : Stmt). Everywhere (ListsOwn cases) s.kind) statements (λ s h. h.inner) known

  both : (statements : List Stmt) → AllOwn cases statements → AllIn (ListsOwn cases) statements → AreKnown cases statements
  both [] own inner = tt
  both (s ∷ rest) own inner = (record { own = own.0; inner = inner.0 }, both rest own.1 inner.1)

  whens_both : (whens : List When) → AllByRecursion (λ w. AllOwn cases (out-When w).body) whens
      → AllByRecursion (λ w. AllIn (ListsOwn cases) (out-When w).body) whens → AllByRecursion (WhenKnown cases) whens
  whens_both [] own inner = tt
  whens_both (w ∷ rest) own inner = (both (out-When w).body own.0 inner.0, whens_both rest own.1 inner.1)

  -- made

  layer_own : (point : ℕ) (l : Layer) → LayerKnown cases point l → LayerOwn cases point l
  layer_own point (layer.Case value whens otherwise) known = known.own
  layer_own point _ known = tt

  lists_own : (point : ℕ) (l : Layer) → LayerKnown cases point l → ListsOwn cases l
  lists_own point (layer.If cond first other) known = (own_of first known.0, own_of other known.1)
  lists_own point (layer.Case value whens otherwise) known = (
    all_weaker (WhenKnown cases) (λ w. AllOwn cases (out-When w).body) whens (λ w h. own_of (out-When w).body h) known.choices,
    own_of otherwise known.other,
  )
  lists_own point (layer.On temp from upto body) known = own_of body known
  lists_own point _ known = tt

  parts_keep : (point : ℕ) (l : Layer) → LayerKnown cases point l → PartsKeep (ListsOwn cases) l
  parts_keep point (layer.If cond first other) known = (inner_of first known.0, inner_of other known.1)
  parts_keep point (layer.Case value whens otherwise) known = (
    all_weaker (WhenKnown cases) (λ w. AllIn (ListsOwn cases) (out-When w).body) whens (λ w h. inner_of (out-When w).body h) known.choices,
    inner_of otherwise known.other,
  )
  parts_keep point (layer.On temp from upto body) known = inner_of body known
  parts_keep point _ known = tt

  pub known_made : (s : Stmt) → LayerKnown cases s.point (out-StmtKind s.kind) → IsKnown cases s
  known_made s known = record {
    own = layer_own s.point (out-StmtKind s.kind) known;
    inner = everywhere-built (ListsOwn cases) s.kind (lists_own s.point (out-StmtKind s.kind) known) (parts_keep s.point (out-StmtKind s.kind) known);
  }

  -- opened

  layer_known : (point : ℕ) (l : Layer) → LayerOwn cases point l → ListsOwn cases l → PartsKeep (ListsOwn cases) l → LayerKnown cases point l
  layer_known point (layer.If cond first other) own lists inner = (both first lists.0 inner.0, both other lists.1 inner.1)
  layer_known point (layer.Case value whens otherwise) own lists inner = record {
    own = own;
    choices = whens_both whens lists.0 inner.0;
    other = both otherwise lists.1 inner.1;
  }
  layer_known point (layer.On temp from upto body) own lists inner = both body lists inner
  layer_known point _ own lists inner = tt

  pub known_opened : (s : Stmt) → IsKnown cases s → LayerKnown cases s.point (out-StmtKind s.kind)
  known_opened s known = layer_known s.point (out-StmtKind s.kind) known.own
      (everywhere-own (ListsOwn cases) s.kind known.inner) (everywhere-parts (ListsOwn cases) s.kind known.inner)
