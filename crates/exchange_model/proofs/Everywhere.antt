-- What is said of all layers of a statement, opened and built: one layer, and the same of each of
-- its parts. This is the one place that goes over the kinds for it.
use Rattle.std.specs.Prelude.{◌≡◌, List, [], ◌∷◌, map, refl}
use Rattle.std.proofs.Common.{subst, ap}
use Rattle.std.specs.List.{AllByRecursion}
use Rattle.exchange_model.specs.declared.stmt.Stmt.{Stmt, Stmt-F, out-Stmt, roll-out-Stmt}
use Rattle.exchange_model.specs.declared.stmt.Stmt.{every-Stmt, every_held-Stmt, every_made-Stmt}
use Rattle.exchange_model.specs.declared.stmt.When.{When, When-F, out-When, roll-out-When}
use Rattle.exchange_model.specs.declared.stmt.When.{every-When, every_held-When, every_made-When}
use Rattle.exchange_model.specs.declared.stmt.StmtKind.{StmtKind, StmtKind-F, out-StmtKind}
use Rattle.exchange_model.specs.declared.stmt.StmtKind.{roll-out-StmtKind, every-StmtKind}
use Rattle.exchange_model.specs.declared.stmt.StmtKind.{every_here-StmtKind, every_held-StmtKind}
use Rattle.exchange_model.specs.declared.stmt.StmtKind.{every_made-StmtKind, map-StmtKind}
use Rattle.exchange_model.specs.declared.stmt.StmtKind.TheOpen as layer
use Rattle.exchange_model.specs.Everywhere.{Layer, Everywhere, AllIn, PartsKeep}

pub everywhere-own : (P : Layer → Type 0) (k : StmtKind) → Everywhere P k → P (out-StmtKind k)
unfolding Everywhere
everywhere-own P k h = every_here-StmtKind P (λ _. Unit {0}) (λ _. Unit {0}) k h

-- a part beside its proof
abbrev pub Kept : (Layer → Type 0) → Type 0
Kept P = (one : Stmt) × every-Stmt P (λ _. Unit {0}) (λ _. Unit {0}) one

abbrev pub KeptKind : (Layer → Type 0) → Type 0
KeptKind P = (one : StmtKind) × every-StmtKind P (λ _. Unit {0}) (λ _. Unit {0}) one

abbrev pub KeptWhen : (Layer → Type 0) → Type 0
KeptWhen P = (one : When) × every-When P (λ _. Unit {0}) (λ _. Unit {0}) one

kind_in : (P : Layer → Type 0) (one : Kept P) → Everywhere P one.0.kind
unfolding Everywhere
kind_in P one =
    let held = every_held-Stmt P (λ _. Unit {0}) (λ _. Unit {0}) one.0 one.1 in
    subst (λ (l : Stmt-F StmtKind Stmt When). every-StmtKind P (λ _. Unit {0}) (λ _. Unit {0}) l.kind) held.1 held.0.kind.1

all_in : (P : Layer → Type 0) (list : List (Kept P)) → AllIn P (map (λ (one : Kept P). one.0) list)
all_in P [] = tt
all_in P (one ∷ rest) = (kind_in P one, all_in P rest)

whens_in : (P : Layer → Type 0) (list : List (KeptWhen P)) → AllByRecursion (λ w. AllIn P (out-When w).body) (map (λ (one : KeptWhen P). one.0) list)
whens_in P [] = tt
whens_in P (one ∷ rest) =
    let held = every_held-When P (λ _. Unit {0}) (λ _. Unit {0}) one.0 one.1 in
    (subst (λ (l : When-F StmtKind Stmt When). AllIn P l.body) held.1 (all_in P held.0.body), whens_in P rest)

parts_in : (P : Layer → Type 0) (l : StmtKind-F (KeptKind P) (Kept P) (KeptWhen P))
    → PartsKeep P (map-StmtKind (KeptKind P) (Kept P) (KeptWhen P) StmtKind Stmt When (λ one. one.0) (λ one. one.0)
    (λ one. one.0) l)
parts_in P (layer.If cond yes_part no_part) = (all_in P yes_part, all_in P no_part)
parts_in P (layer.Case value whens otherwise) = (whens_in P whens, all_in P otherwise)
parts_in P (layer.On temp from upto body) = all_in P body
parts_in P _ = tt

pub everywhere-parts : (P : Layer → Type 0) (k : StmtKind) → Everywhere P k → PartsKeep P (out-StmtKind k)
unfolding Everywhere
everywhere-parts P k h =
    let held = every_held-StmtKind P (λ _. Unit {0}) (λ _. Unit {0}) k h in
    subst (λ (l : StmtKind-F StmtKind Stmt When). PartsKeep P l) held.1 (parts_in P held.0)

-- a list of parts, each beside its proof
pub record Beside {X : Type 0} (P : X → Type 0) (list : List X) : Type 0 where
  pub pairs : List ((x : X) × P x)
  pub same : map (λ (one : (x : X) × P x). one.0) pairs ≡ list

pub beside : {X : Type 0} (P : X → Type 0) (list : List X) → AllByRecursion P list → Beside P list
beside P [] all = record { pairs = []; same = refl }
beside P (x ∷ rest) all = let more = beside P rest all.1 in record { pairs = (x, all.0) ∷ more.pairs; same = ap (λ xs. x ∷ xs) more.same }

stmt_built : (P : Layer → Type 0) (one : Stmt) → Everywhere P one.kind → every-Stmt P (λ _. Unit {0}) (λ _. Unit {0}) one
unfolding Everywhere
stmt_built P one h =
    let built = every_made-Stmt P (λ _. Unit {0}) (λ _. Unit {0}) (out-Stmt one)
    (record { point = one.point; line = one.line; kind = (one.kind, h) }) refl tt in
    subst (every-Stmt P (λ _. Unit {0}) (λ _. Unit {0})) (roll-out-Stmt one) built

stmts_built : (P : Layer → Type 0) (list : List Stmt) → AllIn P list → AllByRecursion (every-Stmt P (λ _. Unit {0}) (λ _. Unit {0})) list
stmts_built P [] all = tt
stmts_built P (one ∷ rest) all = (stmt_built P one all.0, stmts_built P rest all.1)

when_built : (P : Layer → Type 0) (w : When) → AllIn P (out-When w).body → every-When P (λ _. Unit {0}) (λ _. Unit {0}) w
when_built P w all =
    let body = beside (every-Stmt P (λ _. Unit {0}) (λ _. Unit {0})) (out-When w).body (stmts_built P (out-When w).body all) in
    let built = every_made-When P (λ _. Unit {0}) (λ _. Unit {0}) (out-When w)
    (record { number = (out-When w).number; body = body.pairs })
    (λ i. record { number = (out-When w).number; body = body.same i }) tt in
    subst (every-When P (λ _. Unit {0}) (λ _. Unit {0})) (roll-out-When w) built

whens_built : (P : Layer → Type 0) (list : List When) → AllByRecursion (λ w. AllIn P (out-When w).body) list
    → AllByRecursion (every-When P (λ _. Unit {0}) (λ _. Unit {0})) list
whens_built P [] all = tt
whens_built P (w ∷ rest) all = (when_built P w all.0, whens_built P rest all.1)

record KindBeside (P : Layer → Type 0) (l : StmtKind-F StmtKind Stmt When) : Type 0 where
  pub pairs : StmtKind-F (KeptKind P) (Kept P) (KeptWhen P)
  pub same : map-StmtKind (KeptKind P) (Kept P) (KeptWhen P) StmtKind Stmt When (λ one. one.0) (λ one. one.0) (λ one. one.0) pairs ≡ l

body_beside : (P : Layer → Type 0) (list : List Stmt) → AllIn P list → Beside (every-Stmt P (λ _. Unit {0}) (λ _. Unit {0})) list
body_beside P list all = beside (every-Stmt P (λ _. Unit {0}) (λ _. Unit {0})) list (stmts_built P list all)

kind_beside : (P : Layer → Type 0) (l : Layer) → PartsKeep P l → KindBeside P l
kind_beside P (layer.Enter signal temps) h = record { pairs = layer.Enter signal temps; same = refl }
kind_beside P (layer.SetTemp temp value) h = record { pairs = layer.SetTemp temp value; same = refl }
kind_beside P (layer.SetVariable variable value) h = record { pairs = layer.SetVariable variable value; same = refl }
kind_beside P (layer.SetField file field pointer value) h = record { pairs = layer.SetField file field pointer value; same = refl }
kind_beside P (layer.Goto label) h = record { pairs = layer.Goto label; same = refl }
kind_beside P (layer.IfGoto cond label) h = record { pairs = layer.IfGoto cond label; same = refl }
kind_beside P (layer.If cond yes_part no_part) h =
    let yes_body = body_beside P yes_part h.0 in
    let no_body = body_beside P no_part h.1 in
    record { pairs = layer.If cond yes_body.pairs no_body.pairs; same = λ i. layer.If cond (yes_body.same i) (no_body.same i) }
kind_beside P (layer.Case value whens otherwise) h =
    let choices = beside (every-When P (λ _. Unit {0}) (λ _. Unit {0})) whens (whens_built P whens h.0) in
    let other = body_beside P otherwise h.1 in
    record { pairs = layer.Case value choices.pairs other.pairs; same = λ i. layer.Case value (choices.same i) (other.same i) }
kind_beside P (layer.On temp from upto body) h =
    let inner = body_beside P body h in
    record { pairs = layer.On temp from upto inner.pairs; same = λ i. layer.On temp from upto (inner.same i) }
kind_beside P (layer.ForFirst temp file field rel value label) h = record { pairs = layer.ForFirst temp file field rel value label; same = refl }
kind_beside P (layer.Send signal block values fresh) h = record { pairs = layer.Send signal block values fresh; same = refl }
kind_beside P (layer.Retrieve answer temps) h = record { pairs = layer.Retrieve answer temps; same = refl }
kind_beside P (layer.Return answer values) h = record { pairs = layer.Return answer values; same = refl }
kind_beside P (layer.Transfer signal block) h = record { pairs = layer.Transfer signal block; same = refl }
kind_beside P (layer.Seize temp file label) h = record { pairs = layer.Seize temp file label; same = refl }
kind_beside P (layer.Free temp file) h = record { pairs = layer.Free temp file; same = refl }
kind_beside P layer.Exit h = record { pairs = layer.Exit; same = refl }
kind_beside P layer.Finish h = record { pairs = layer.Finish; same = refl }

pub everywhere-built : (P : Layer → Type 0) (k : StmtKind) → P (out-StmtKind k) → PartsKeep P (out-StmtKind k) → Everywhere P k
unfolding Everywhere
everywhere-built P k own parts =
    let beside_k = kind_beside P (out-StmtKind k) parts in
    let built = every_made-StmtKind P (λ _. Unit {0}) (λ _. Unit {0}) (out-StmtKind k) beside_k.pairs beside_k.same own in
    subst (every-StmtKind P (λ _. Unit {0}) (λ _. Unit {0})) (roll-out-StmtKind k) built
