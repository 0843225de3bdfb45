-- What remains to be done stands at an address.
--
-- `At` says it of any list of items, `Ready` of one whose first item is counted, and `AtHead` of a
-- loop of which a turn begins. A jump that ends a branch, an ENTER that is reached from above and
-- the end of a loop lead from the first to the others. With d loops open, their numbers and last
-- numbers stand in the locals from 24 up to 24 + 2 d, and nowhere else does what remains depend on
-- the locals; on a register it depends at the head of a loop alone.
use Rattle.std.proofs.Common.{◌≡◌, ℕ, suc, ◌+◌, ◌*◌, ◌^◌, ◌<◌, ◌≤◌, true, false, List, [], ◌∷◌}
use Rattle.std.proofs.Common.{◌++◌, length, map, refl, ap, ◌∙◌, subst, arith, length-append}
use Rattle.std.specs.Prelude.{slice_index, nat_lt}
use Rattle.std.specs.List.{AllByRecursion}
use Rattle.machine_code.specs.declared.op.Op.TheVariants as op
use Rattle.exchange_model.specs.declared.stmt.Stmt.{Stmt}
use Rattle.exchange_model.specs.declared.stmt.When.{When}
use Rattle.exchange_model.specs.declared.stmt.StmtKind.{StmtKind, StmtKind-F, out-StmtKind}
use Rattle.exchange_model.specs.declared.stmt.StmtKind.TheOpen as stmt
use Rattle.source_meaning.specs.Config.{Item, Do, Start, Turns}
use Rattle.exchange_model.specs.Kept.{is_enter}
use Rattle.expr_code.specs.Runs.{HasOp, HasAt}
use Rattle.expr_code.proofs.Places.{has_front, has_back}
use Rattle.stmt_code.specs.declared.lengths.TheConstants.{TURN_LENGTH, NEXT_LENGTH}
use Rattle.stmt_code.specs.StmtCode.{takes_code, turn, last, turns_code, stmt_code, opened}
use Rattle.stmt_code.specs.StmtCode.{kind_code-out, stmt_code-kind}
use Rattle.stmt_code.specs.Within.{ListIn, LayerIn}
use Rattle.stmt_code.proofs.Setting.{Setting, places, list_code, first_in, others_in}

-- both have the same locals for d loops
abbrev pub SameLoops : ℕ → List ℕ → List ℕ → Type 0
SameLoops d k l = (i : ℕ) → 24 ≤ i → i < 24 + 2 * d → slice_index k i ≡ slice_index l i

-- a loop stands at its head
pub record Loop (g : Setting) (b d p t : ℕ) (body : List Stmt) (head : ℕ) : Type 0 where
  pub has : HasAt g.code head (turns_code p t d head (list_code g b body (suc d) (head + TURN_LENGTH)))
  pub fits : ListIn g.exchange b (suc d) body
  pub temp : t < 24
  pub depth : d < 12

-- where a turn ends, and where the loop does
abbrev pub again_of : Setting → ℕ → ℕ → List Stmt → ℕ → ℕ
again_of g b d body head = head + TURN_LENGTH + length (list_code g b body (suc d) (head + TURN_LENGTH))

abbrev pub exit_of : Setting → ℕ → ℕ → List Stmt → ℕ → ℕ
exit_of g b d body head = head + TURN_LENGTH + length (list_code g b body (suc d) (head + TURN_LENGTH)) + NEXT_LENGTH

mutual
  -- these items of a block stand at an address, with d loops open
  pub data At (g : Setting) (b : ℕ) (locals : List ℕ) : ℕ → List Item → ℕ → Type 0 where
    ready : {d : ℕ} {todo : List Item} {a : ℕ} → Ready g b locals d todo a → At g b locals d todo a
    -- the end of a branch
    jumps : {d : ℕ} {todo : List Item} {a : ℕ} (to : ℕ) → HasOp g.code a (op.Jmp to) → At g b locals d todo to → At g b locals d todo a
    -- an ENTER from above
    skips : {d : ℕ} {s : Stmt} {rest : List Item} {a : ℕ} → is_enter (out-StmtKind s.kind) ≡ true → At g b locals d rest a → At g b locals d (Do s ∷ rest) a
    -- a loop with no turn left
    over : {d p t this end : ℕ} {body : List Stmt} {rest : List Item} {a : ℕ} → nat_lt end this ≡ true
        → At g b locals d rest a → At g b locals (suc d) (Turns p t this end body ∷ rest) a
    -- after a turn
    again : {d p t this end : ℕ} {body : List Stmt} {rest : List Item} (head : ℕ) → Loop g b d p t body head
        → end < 2 ^ 32 → slice_index locals (turn d) + 1 ≡ this → slice_index locals (last d) ≡ end
        → At g b locals d rest (exit_of g b d body head) → At g b locals (suc d) (Turns p t this end body ∷ rest) (again_of g b d body head)

  -- the first item is one that counts
  pub data Ready (g : Setting) (b : ℕ) (locals : List ℕ) : ℕ → List Item → ℕ → Type 0 where
    nothing : {d a : ℕ} → HasOp g.code a op.End → Ready g b locals d [] a
    does : {d : ℕ} {s : Stmt} {rest : List Item} {a : ℕ} (l : StmtKind-F StmtKind Stmt When) → out-StmtKind s.kind ≡ l
        → is_enter l ≡ false → HasAt g.code a (opened l (places g b) s.point d a) → LayerIn g.exchange b d l
        → At g b locals d rest (a + length (opened l (places g b) s.point d a)) → Ready g b locals d (Do s ∷ rest) a
    starts : {s : Stmt} {rest : List Item} {a : ℕ} (signal : ℕ) (temps : List ℕ)
        → out-StmtKind s.kind ≡ stmt.Enter signal temps → HasAt g.code a (op.Stmt s.point ∷ takes_code 0 temps)
        → AllByRecursion (λ t. t < 24) temps
        → At g b locals 0 rest (a + 1 + length (takes_code 0 temps)) → Ready g b locals 0 (Start s ∷ rest) a

-- a turn of a loop begins: its number is in register 0 and in its local
pub data AtHead (g : Setting) (b : ℕ) (regs locals : List ℕ) : List Item → ℕ → Type 0 where
  turns : {d p t this end : ℕ} {body : List Stmt} {rest : List Item} {head : ℕ} → Loop g b d p t body head
      → end < 2 ^ 32 → nat_lt end this ≡ false → slice_index regs 0 ≡ this → slice_index locals (turn d) ≡ this
      → slice_index locals (last d) ≡ end
      → At g b locals d rest (exit_of g b d body head) → AtHead g b regs locals (Turns p t this end body ∷ rest) head

pub fewer : (d : ℕ) (k l : List ℕ) → SameLoops (suc d) k l → SameLoops d k l
fewer d k l h i low high = h i low (omega arith)

turn_same : (d : ℕ) (k l : List ℕ) → SameLoops (suc d) k l → slice_index k (turn d) ≡ slice_index l (turn d)
turn_same d k l h = h (turn d) (omega arith) (omega arith)

last_same : (d : ℕ) (k l : List ℕ) → SameLoops (suc d) k l → slice_index k (last d) ≡ slice_index l (last d)
last_same d k l h = h (last d) (omega arith) (omega arith)

-- other locals, with the same ones for the open loops
mutual
  pub at_keeps : {g : Setting} {b d a : ℕ} {l : List ℕ} (k : List ℕ) {todo : List Item} → SameLoops d k l → At g b l d todo a → At g b k d todo a
  at_keeps k h (ready r) = ready (ready_keeps k h r)
  at_keeps k h (jumps c j r) = jumps c j (at_keeps k h r)
  at_keeps k h (skips e r) = skips e (at_keeps k h r)
  at_keeps {l = l} k h (over {d = d} e r) = over e (at_keeps k (fewer d k l h) r)
  at_keeps {l = l} k h (again {d = d} head loop small e f r) = again head loop small
      (ap (λ n. n + 1) (turn_same d k l h) ∙ e) (last_same d k l h ∙ f) (at_keeps k (fewer d k l h) r)

  pub ready_keeps : {g : Setting} {b d a : ℕ} {l : List ℕ} (k : List ℕ) {todo : List Item} → SameLoops d k l → Ready g b l d todo a → Ready g b k d todo a
  ready_keeps k h (nothing e) = nothing e
  ready_keeps k h (does l is e has fits r) = does l is e has fits (at_keeps k h r)
  ready_keeps k h (starts signal temps is has fits r) = starts signal temps is has fits (at_keeps k h r)

-- the same where the locals of all loops are
pub at_moves : {g : Setting} {b d a : ℕ} {l : List ℕ} (k : List ℕ) {todo : List Item} → d ≤ 12 → SameLoops 12 k l → At g b l d todo a → At g b k d todo a
at_moves k le h r = at_keeps k (λ i low high. h i low (omega arith)) r

module _ (g : Setting) where
  layer_at : {b d a : ℕ} {locals : List ℕ} {rest : List Item} (s : Stmt) (l : StmtKind-F StmtKind Stmt When)
      → out-StmtKind s.kind ≡ l → HasAt g.code a (opened l (places g b) s.point d a) → LayerIn g.exchange b d l
      → At g b locals d rest (a + length (opened l (places g b) s.point d a)) → At g b locals d (Do s ∷ rest) a
  layer_at {b = b} {d = d} {a = a} {locals = locals} {rest = rest} s (stmt.Enter signal temps) is has fits r =
      let e : a + length (opened (stmt.Enter signal temps) (places g b) s.point d a) ≡ a + 2 + length (takes_code 0 temps) = omega arith in
      skips (ap is_enter is) (jumps _ has.0 (subst (At g b locals d rest) e r))
  layer_at s (stmt.SetTemp t e) is has fits r = ready (does _ is refl has fits r)
  layer_at s (stmt.SetVariable v e) is has fits r = ready (does _ is refl has fits r)
  layer_at s (stmt.SetField file field pointer e) is has fits r = ready (does _ is refl has fits r)
  layer_at s (stmt.Goto l) is has fits r = ready (does _ is refl has fits r)
  layer_at s (stmt.IfGoto c l) is has fits r = ready (does _ is refl has fits r)
  layer_at s (stmt.If c ss rs) is has fits r = ready (does _ is refl has fits r)
  layer_at s (stmt.Case e whens ss) is has fits r = ready (does _ is refl has fits r)
  layer_at s (stmt.On t from upto body) is has fits r = ready (does _ is refl has fits r)
  layer_at s (stmt.ForFirst t file field rel e l) is has fits r = ready (does _ is refl has fits r)
  layer_at s (stmt.Send signal block values fresh) is has fits r = ready (does _ is refl has fits r)
  layer_at s (stmt.Retrieve answer temps) is has fits r = ready (does _ is refl has fits r)
  layer_at s (stmt.Return answer values) is has fits r = ready (does _ is refl has fits r)
  layer_at s (stmt.Transfer signal block) is has fits r = ready (does _ is refl has fits r)
  layer_at s (stmt.Seize t file l) is has fits r = ready (does _ is refl has fits r)
  layer_at s (stmt.Free t file) is has fits r = ready (does _ is refl has fits r)
  layer_at s stmt.Exit is has fits r = ready (does _ is refl has fits r)
  layer_at s stmt.Finish is has fits r = ready (does _ is refl has fits r)

  pub stmt_code-opened : (b d a : ℕ) (s : Stmt) → stmt_code s (places g b) d a ≡ opened (out-StmtKind s.kind) (places g b) s.point d a
  stmt_code-opened b d a s = ap (λ f. f (places g b) d a) (stmt_code-kind s) ∙ ap (λ f. f (places g b) s.point d a) (kind_code-out s.kind)

  -- a list of statements, with what follows it
  pub list_at : (b d a : ℕ) (locals : List ℕ) (rest : List Item) (ss : List Stmt)
      → HasAt g.code a (list_code g b ss d a) → ListIn g.exchange b d ss
      → At g b locals d rest (a + length (list_code g b ss d a)) → At g b locals d (map Do ss ++ rest) a
  list_at b d a locals rest [] has fits r =
      let e : a + length (list_code g b [] d a) ≡ a = omega arith in
      subst (At g b locals d rest) e r
  list_at b d a locals rest (s ∷ ss) has fits r =
      let c = stmt_code s (places g b) d a in
      let more = list_code g b ss d (a + length c) in
      let same = stmt_code-opened b d a s in
      let e : a + length (c ++ more) ≡ a + length c + length more = omega (arith, length-append c more) in
      let r' = list_at b d (a + length c) locals rest ss (has_back g.code a c more has) (others_in s ss fits) (subst (At g b locals d rest) e r) in
      layer_at s (out-StmtKind s.kind) refl (subst (HasAt g.code a) same (has_front g.code a c more has))
      (first_in s ss fits) (subst (λ i. At g b locals d (map Do ss ++ rest) (a + length i)) same r')
