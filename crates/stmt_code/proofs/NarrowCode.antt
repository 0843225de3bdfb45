-- The whole code of an exchange has its operands in their ranges, where the numbers are of 32 bits.
use Rattle.std.proofs.Common.{◌≡◌, ℕ, zero, suc, ◌+◌, ◌≤◌, ◌^◌, List, [], ◌∷◌, length, map, sym, ap}
use Rattle.std.proofs.Common.{◌∙◌, subst, arith}
use Rattle.std.specs.Prelude.{All}
use Rattle.std.proofs.lemmas.List.Elements.{All-from_recursion}
use Rattle.machine_code.specs.declared.op.Op.{Op}
use Rattle.machine_code.specs.Operands.{OpFits}
use Rattle.exchange_model.specs.declared.exchange.Exchange.{Exchange}
use Rattle.exchange_model.specs.declared.stmt.Stmt.{Stmt, roll-Stmt, map-Stmt}
use Rattle.exchange_model.specs.declared.stmt.When.{roll-When, map-When, out-roll-When}
use Rattle.exchange_model.specs.declared.stmt.StmtKind.{StmtKind, roll-StmtKind, ind-StmtKind}
use Rattle.exchange_model.specs.declared.stmt.StmtKind.{out-roll-StmtKind}
use Rattle.exchange_model.specs.Kept.{IsExchange}
use Rattle.source_meaning.specs.Config.{files_of, body_of}
use Rattle.stmt_code.specs.Numbers.{AreNumbers}
use Rattle.stmt_code.specs.StmtCode.{codes, opened, stmt_code, kind_code-out, stmt_code-kind}
use Rattle.stmt_code.specs.StmtCode.{when_code-out}
use Rattle.stmt_code.specs.Whole.{Table, places_of, code_upto, table_of, whole_code}
use Rattle.stmt_code.specs.Within.{ListIn, LayerIn}
use Rattle.stmt_code.proofs.Setting.{first_in, others_in}
use Rattle.stmt_code.proofs.Texts.{from_in}
use Rattle.stmt_code.proofs.Narrow.{Narrow, AllNarrow, narrow_on}
use Rattle.stmt_code.proofs.NarrowKinds.{LayerNarrow, KindNarrow, StmtNarrow, WhenNarrow}
use Rattle.stmt_code.proofs.NarrowKinds.{list_narrow, layer_narrow}

module _ (x : Exchange) (kept : IsExchange x) (few_files : length (files_of x) ≤ 2 ^ 32) where
  kind_narrow : (k : StmtKind) → KindNarrow x kept few_files k
  kind_narrow = ind-StmtKind (KindNarrow x kept few_files) (StmtNarrow x kept few_files) (WhenNarrow x kept few_files)
      (λ z y is.
      let one = subst (LayerNarrow x kept few_files) is (layer_narrow x kept few_files y) in
      let e = kind_code-out (roll-StmtKind z) ∙ ap opened (out-roll-StmtKind z) in
      λ t b p d a h. subst (λ f. AllNarrow (f (places_of x t b) p d a)) (sym e) (one t b p d a (subst (LayerIn x b d) (out-roll-StmtKind z) h)))
      (λ z y is. subst (λ s. StmtNarrow x kept few_files (roll-Stmt s)) is (λ t b d a h.
      let e = stmt_code-kind (roll-Stmt (map-Stmt _ _ _ _ _ _ (λ e. e.0) (λ e. e.0) (λ e. e.0) y)) in
      subst (λ f. AllNarrow (f (places_of x t b) d a)) (sym e) (y.kind.1 t b y.point d a h)))
      (λ z y is. subst (λ w. WhenNarrow x kept few_files (roll-When w)) is (λ t b d a h.
      let w = map-When _ _ _ _ _ _ (λ e. e.0) (λ e. e.0) (λ e. e.0) y in
      let e = ap (λ c. c.body) (when_code-out (roll-When w)) ∙ ap (λ v. map stmt_code v.body) (out-roll-When w) in
      let all_in = subst (λ v. ListIn x b d v.body) (out-roll-When w) h in
      subst (λ f. AllNarrow (codes f (places_of x t b) d a)) (sym e) (list_narrow x kept few_files y.body t b d a all_in)))

  stmts_narrow : (ss : List Stmt) (t : Table) (b d a : ℕ) → ListIn x b d ss → AllNarrow (codes (map stmt_code ss) (places_of x t b) d a)
  stmts_narrow [] t b d a h = tt
  stmts_narrow (s ∷ ss) t b d a h =
      let pl = places_of x t b in
      let c = stmt_code s pl d a in
      let here = subst (λ f. AllNarrow (f pl d a)) (sym (stmt_code-kind s)) (kind_narrow s.kind t b s.point d a (first_in s ss h)) in
      narrow_on c _ here (stmts_narrow ss t b d (a + length c) (others_in s ss h))

  upto_narrow : (t : Table) (n : ℕ) → n ≤ length x.blocks → AllNarrow (code_upto x t n)
  unfolding code_upto
  upto_narrow t zero le = tt
  upto_narrow t (suc n) le =
      let a = length (code_upto x t n) in
      narrow_on (code_upto x t n) _ (upto_narrow t n (omega arith))
      (narrow_on (codes (map stmt_code (body_of x n)) (places_of x t n) 0 a) _
      (stmts_narrow (body_of x n) t n 0 a (from_in x n 0 kept (omega arith))) (λ n. tt, tt))

  pub whole_narrow : AllNarrow (whole_code x)
  unfolding whole_code
  whole_narrow = narrow_on (code_upto x (table_of x) (length x.blocks)) _ (upto_narrow (table_of x) (length x.blocks) (omega arith)) (λ n. tt, tt)

-- the operands of a code that is this code, and whose numbers are of 32 bits
pub operands_fit : (x : Exchange) (ops : List Op) → IsExchange x → length (files_of x) ≤ 2 ^ 32 → ops ≡ whole_code x → All AreNumbers ops → All OpFits ops
operands_fit x ops kept few_files is numbers =
    let narrow = All-from_recursion Narrow ops (subst AllNarrow (sym is) (whole_narrow x kept few_files)) in
    λ k d lt. narrow k d lt (numbers k d lt)
