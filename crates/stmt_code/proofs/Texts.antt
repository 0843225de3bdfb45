-- Where the texts of the blocks stand in the code, labels and signals lead to what they name.
use Rattle.std.proofs.Common.{◌≡◌, ℕ, zero, suc, ◌+◌, ◌<◌, ◌≤◌, Bool, true, false, List, [], ◌∷◌}
use Rattle.std.proofs.Common.{◌++◌, length, map, drop, Option, Some, None, refl, sym, ap, ◌∙◌}
use Rattle.std.proofs.Common.{subst, arith, append_assoc, append-nil, ⊎_elim, if◌then◌else◌}
use Rattle.std.specs.Prelude.{slice_get}
use Rattle.std.proofs.Math.Seq.{drop-nil}
use Rattle.std.proofs.lemmas.Bool.{cases_lt}
use Rattle.std.proofs.lemmas.Option.{slice_get_past}
use Rattle.machine_code.specs.declared.op.Op.{Op}
use Rattle.machine_code.specs.declared.op.Op.TheVariants as op
use Rattle.exchange_model.specs.declared.exchange.Exchange.{Exchange}
use Rattle.exchange_model.specs.declared.block.Block.{Block}
use Rattle.exchange_model.specs.declared.stmt.Stmt.{Stmt}
use Rattle.exchange_model.specs.declared.stmt.When.{When}
use Rattle.exchange_model.specs.declared.stmt.StmtKind.{StmtKind, StmtKind-F, out-StmtKind}
use Rattle.exchange_model.specs.declared.stmt.StmtKind.TheOpen.{Enter}
use Rattle.exchange_model.specs.Kept.{IsExchange, scope_of}
use Rattle.source_meaning.specs.Config.{Do, Start, body_of, label_of, enter_place, from_place}
use Rattle.source_meaning.specs.Config.{starting}
use Rattle.exchange_model.specs.Kept.{is_enter}
use Rattle.std.specs.Option.{option_map_or}
use Rattle.expr_code.specs.Runs.{HasOp, HasAt}
use Rattle.expr_code.proofs.Places.{has_front, has_back}
use Rattle.stmt_code.specs.StmtCode.{takes_code, opened, stmt_code}
use Rattle.stmt_code.specs.Whole.{table_of, whole_code, start_of, place_at, behind_enter}
use Rattle.stmt_code.specs.Within.{ListIn, LayerIn}
use Rattle.stmt_code.proofs.Setting.{Setting, places, list_code, first_in, others_in}
use Rattle.stmt_code.proofs.At.{At, Ready, ready, nothing, starts, list_at, stmt_code-opened}
use Rattle.stmt_code.proofs.Values.{Laid}
use Rattle.stmt_code.proofs.Takes.{AreTemps, are_temps}

-- an exchange with its whole code
abbrev pub whole : Exchange → Setting
whole x = record { exchange = x; code = whole_code x; table = table_of x }

-- from each place on a block's text stands at the address of the place, with an end behind it; past
-- the last block there is an end, and so there is behind all blocks
pub record TextsAt (x : Exchange) : Type 0 where
  pub text : (b place : ℕ) → b < length x.blocks
      → HasAt (whole_code x) (place_at x b place)
      (list_code (whole x) b (drop place (body_of x b)) 0 (place_at x b place) ++ op.End ∷ [])
  pub past : (b place : ℕ) → length x.blocks ≤ b → HasOp (whole_code x) (place_at x b place) op.End
  pub end : HasOp (whole_code x) (start_of x (length x.blocks)) op.End

-- the statements of a block, from a place on
text_in : (x : Exchange) (b : ℕ) (k : Block) → IsExchange x → slice_get x.blocks b ≡ Some k → ListIn x b 0 k.body
text_in x b k kept there =
    let h = kept.blocks.each b k there in
    record {
      block = k;
      there = there;
      limited = record { temporaries = h.temporaries; blocks = kept.blocks.few };
      fits = h.statements;
      shallow = omega (arith, h.shallow);
    }

drop_in : {x : Exchange} {b d : ℕ} (n : ℕ) (ss : List Stmt) → ListIn x b d ss → ListIn x b d (drop n ss)
drop_in zero ss h = h
drop_in (suc n) [] h = h
drop_in (suc n) (s ∷ ss) h = drop_in n ss (others_in s ss h)

within_some : {A : Type 0} (xs : List A) (i : ℕ) → i < length xs → slice_get xs i ≡ None → ⊥
within_some [] i lt e = omega arith
within_some (x ∷ xs) zero lt e = cc
within_some (x ∷ xs) (suc i) lt e = within_some xs i (omega arith) e

in_found : (x : Exchange) (b place : ℕ) (o : Option Block) → slice_get x.blocks b ≡ o → IsExchange x
    → b < length x.blocks → ListIn x b 0 (drop place (option_map_or (λ k. k.body) o []))
in_found x b place None e kept lt = absurd (within_some x.blocks b lt e)
in_found x b place (Some k) e kept lt = drop_in place k.body (text_in x b k kept e)

pub from_in : (x : Exchange) (b place : ℕ) → IsExchange x → b < length x.blocks → ListIn x b 0 (drop place (body_of x b))
from_in x b place kept lt = in_found x b place (slice_get x.blocks b) refl kept lt

module _ (x : Exchange) (kept : IsExchange x) (stands : TextsAt x) where
  abbrev code : List Op
  code = whole_code x

  text_at : (b place : ℕ) (locals : List ℕ) → At (whole x) b locals 0 (from_place x b place) (place_at x b place)
  text_at b place locals =
      ⊎_elim
      (λ (lt : b < length x.blocks).
      let a = place_at x b place in
      let ss = drop place (body_of x b) in
      let c = list_code (whole x) b ss 0 a in
      let h = stands.text b place lt in
      subst (λ todo. At (whole x) b locals 0 todo a) (append-nil (map Do ss))
      (list_at (whole x) b 0 a locals [] ss (has_front code a c (op.End ∷ []) h) (from_in x b place kept lt)
      (ready (nothing (has_back code a c (op.End ∷ []) h).0))))
      (λ (le : length x.blocks ≤ b).
      let none : from_place x b place ≡ [] = ap (λ o. map Do (drop place (option_map_or (λ (k : Block). k.body) o [])))
      (slice_get_past x.blocks b le) ∙ ap (map Do) (drop-nil place) in
      subst (λ todo. At (whole x) b locals 0 todo (place_at x b place)) (sym none) (ready (nothing (stands.past b place le))))
      (cases_lt b (length x.blocks))

  -- a block with a statement is one of the exchange
  in_blocks : (b place : ℕ) (s : Stmt) (ss : List Stmt) → drop place (body_of x b) ≡ s ∷ ss → b < length x.blocks
  in_blocks b place s ss there =
      ⊎_elim
      (λ (lt : b < length x.blocks). lt)
      (λ (le : length x.blocks ≤ b).
      let none : drop place (body_of x b) ≡ [] = ap (λ o. drop place (option_map_or (λ (k : Block). k.body) o []))
      (slice_get_past x.blocks b le) ∙ drop-nil place in
      cc)
      (cases_lt b (length x.blocks))

  enter_temps : {b d signal : ℕ} {temps : List ℕ} → LayerIn x b d (Enter signal temps) → AreTemps temps
  enter_temps {b = b} {temps = temps} h = are_temps (scope_of x b h.block) temps h.limited.temporaries h.fits.names.1

  enter_ready : (b place : ℕ) (locals : List ℕ) (s : Stmt) (ss : List Stmt) → drop place (body_of x b) ≡ s ∷ ss
      → (l : StmtKind-F StmtKind Stmt When) → out-StmtKind s.kind ≡ l → is_enter l ≡ true
      → Ready (whole x) b locals 0 (Start s ∷ map Do ss) (place_at x b place + 1)
  enter_ready b place locals s ss there (Enter signal temps) enter is =
      let a = place_at x b place in
      let pl = places (whole x) b in
      let c = stmt_code s pl 0 a in
      let more = list_code (whole x) b ss 0 (a + length c) in
      let lt = in_blocks b place s ss there in
      let h = subst (λ ss. HasAt code a (list_code (whole x) b ss 0 a ++ op.End ∷ [])) there (stands.text b place lt) in
      let h' = subst (HasAt code a) (append_assoc c more (op.End ∷ [])) h in
      let opens = stmt_code-opened (whole x) b 0 a s ∙ ap (λ l. opened l pl s.point 0 a) enter in
      let here = subst (HasAt code a) opens (has_front code a c (more ++ op.End ∷ []) h') in
      let after = has_back code a c (more ++ op.End ∷ []) h' in
      let all_in = subst (ListIn x b 0) there (from_in x b place kept lt) in
      let temps_in = enter_temps (subst (LayerIn x b 0) enter (first_in s ss all_in)) in
      let rest = subst (λ todo. At (whole x) b locals 0 todo (a + length c)) (append-nil (map Do ss))
      (list_at (whole x) b 0 (a + length c) locals [] ss (has_front code (a + length c) more (op.End ∷ []) after)
      (others_in s ss all_in) (ready (nothing (has_back code (a + length c) more (op.End ∷ []) after).0))) in
      let len : a + length c ≡ a + 1 + 1 + length (takes_code 0 temps) = omega (arith, ap length opens) in
      starts signal temps enter here.1 temps_in (subst (At (whole x) b locals 0 (map Do ss)) len rest)
  enter_ready b place locals s ss there _ enter is = cc

  enter_cases : (b place : ℕ) (locals : List ℕ) (ss : List Stmt) → drop place (body_of x b) ≡ ss
      → At (whole x) b locals 0 (starting ss) (behind_enter ss (place_at x b place) (start_of x (length x.blocks)))
  enter_cases b place locals [] there = ready (nothing stands.end)
  enter_cases b place locals (s ∷ ss) there = by_kind (is_enter (out-StmtKind s.kind)) refl
    where
      by_kind : (e : Bool) → is_enter (out-StmtKind s.kind) ≡ e
          → At (whole x) b locals 0 (if e then Start s ∷ map Do ss else [])
          (if e then place_at x b place + 1 else start_of x (length x.blocks))
      by_kind true e = ready (enter_ready b place locals s ss there (out-StmtKind s.kind) refl e)
      by_kind false e = ready (nothing stands.end)

  -- labels and signals lead to what they name
  pub laid : Laid (whole x)
  laid = record {
    kept = kept;
    texts = λ b l locals. text_at b (label_of x b l) locals;
    enters = λ b signal locals. enter_cases b (enter_place x b signal) locals (drop (enter_place x b signal) (body_of x b)) refl;
  }
