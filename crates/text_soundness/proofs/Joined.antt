-- Two facts of every layer give a third.
use Rattle.std.proofs.Common.{List, [], ◌∷◌, map, sym, subst}
use Rattle.std.specs.List.{AllByRecursion}
use Rattle.exchange_model.specs.declared.stmt.Stmt.{Stmt, roll-Stmt}
use Rattle.exchange_model.specs.declared.stmt.When.{When, out-When, roll-When, map-When}
use Rattle.exchange_model.specs.declared.stmt.When.{out-roll-When}
use Rattle.exchange_model.specs.declared.stmt.StmtKind.{StmtKind, StmtKind-F, out-StmtKind}
use Rattle.exchange_model.specs.declared.stmt.StmtKind.{roll-StmtKind, ind-StmtKind}
use Rattle.exchange_model.specs.declared.stmt.StmtKind.{out-roll-StmtKind, map-StmtKind}
use Rattle.exchange_model.specs.declared.stmt.StmtKind.TheOpen as layer
use Rattle.exchange_model.specs.Everywhere.{Layer, Everywhere, AllIn, PartsKeep}
use Rattle.exchange_model.proofs.Everywhere.{everywhere-own, everywhere-parts, everywhere-built}

module _ (P Q R : Layer → Type 0) (joins : (l : Layer) → P l → Q l → R l) where
  abbrev pub KindJoined : StmtKind → Type 0
  KindJoined k = Everywhere P k → Everywhere Q k → Everywhere R k

  abbrev pub StmtJoined : Stmt → Type 0
  StmtJoined s = KindJoined s.kind

  abbrev pub WhenJoined : When → Type 0
  WhenJoined w = AllIn P (out-When w).body → AllIn Q (out-When w).body → AllIn R (out-When w).body

  abbrev PairK : Type 0
  PairK = (k : StmtKind) × KindJoined k

  abbrev PairS : Type 0
  PairS = (s : Stmt) × StmtJoined s

  abbrev PairW : Type 0
  PairW = (w : When) × WhenJoined w

  stmts_joined : (list : List PairS) → AllIn P (map (λ (e : PairS). e.0) list) → AllIn Q (map (λ (e : PairS). e.0) list)
      → AllIn R (map (λ (e : PairS). e.0) list)
  stmts_joined [] p q = tt
  stmts_joined (s ∷ rest) p q = (s.1 p.0 q.0, stmts_joined rest p.1 q.1)

  whens_joined : (list : List PairW) → AllByRecursion (λ w. AllIn P (out-When w).body) (map (λ (e : PairW). e.0) list)
      → AllByRecursion (λ w. AllIn Q (out-When w).body) (map (λ (e : PairW). e.0) list)
      → AllByRecursion (λ w. AllIn R (out-When w).body) (map (λ (e : PairW). e.0) list)
  whens_joined [] p q = tt
  whens_joined (w ∷ rest) p q = (w.1 p.0 q.0, whens_joined rest p.1 q.1)

  abbrev PartsJoined : Layer → Type 0
  PartsJoined l = PartsKeep P l → PartsKeep Q l → PartsKeep R l

  parts_joined : (y : StmtKind-F PairK PairS PairW) → PartsJoined (map-StmtKind PairK PairS PairW StmtKind Stmt When (λ e. e.0) (λ e. e.0) (λ e. e.0) y)
  parts_joined (layer.If cond yes_part no_part) p q = (stmts_joined yes_part p.0 q.0, stmts_joined no_part p.1 q.1)
  parts_joined (layer.Case value whens otherwise) p q = (whens_joined whens p.0 q.0, stmts_joined otherwise p.1 q.1)
  parts_joined (layer.On temp from upto body) p q = stmts_joined body p q
  parts_joined _ p q = tt

  kind_joined : (k : StmtKind) → PartsJoined (out-StmtKind k) → KindJoined k
  kind_joined k parts p q = everywhere-built R k (joins (out-StmtKind k) (everywhere-own P k p) (everywhere-own Q k q))
      (parts (everywhere-parts P k p) (everywhere-parts Q k q))

  -- what holds of every layer by two facts
  pub everywhere_joined : (k : StmtKind) → Everywhere P k → Everywhere Q k → Everywhere R k
  everywhere_joined = ind-StmtKind KindJoined StmtJoined WhenJoined
      (λ x y is. kind_joined (roll-StmtKind x) (subst PartsJoined (sym (out-roll-StmtKind x)) (subst PartsJoined is (parts_joined y))))
      (λ x y is. subst (λ z. StmtJoined (roll-Stmt z)) is (λ p q. y.kind.1 p q))
      (λ x y is. subst (λ z. WhenJoined (roll-When z)) is
      (subst (λ (w : _). AllIn P w.body → AllIn Q w.body → AllIn R w.body)
      (sym (out-roll-When (map-When _ _ _ _ _ _ (λ e. e.0) (λ e. e.0) (λ e. e.0) y))) (stmts_joined y.body)))

  pub all_joined : (list : List Stmt) → AllIn P list → AllIn Q list → AllIn R list
  all_joined [] p q = tt
  all_joined (s ∷ rest) p q = (everywhere_joined s.kind p.0 q.0, all_joined rest p.1 q.1)
