-- Every place of a block's text stands at its address.
use Rattle.std.proofs.Common.{◌≡◌, ◌≢◌, ℕ, zero, suc, ◌+◌, ◌<◌, ◌≤◌, min, List, [], ◌∷◌, ◌++◌}
use Rattle.std.proofs.Common.{length, map, take, drop, refl, sym, ap, ◌∙◌, subst, arith}
use Rattle.std.proofs.Common.{append_assoc, length-append, ⊎_elim}
use Rattle.std.specs.List.{AllByRecursion}
use Rattle.std.proofs.lemmas.Bool.{cases_eq}
use Rattle.std.proofs.lemmas.List.{take-append-drop}
use Rattle.std.proofs.Math.Seq.{take-nil}
use Rattle.std.proofs.lemmas.Option.{slice_get_past}
use Rattle.machine_code.specs.declared.op.Op.{Op}
use Rattle.machine_code.specs.Operands.{OpFits}
use Rattle.machine_code.specs.declared.op.Op.TheVariants as op
use Rattle.exchange_model.specs.declared.exchange.Exchange.{Exchange}
use Rattle.exchange_model.specs.declared.block.Block.{Block}
use Rattle.exchange_model.specs.declared.stmt.Stmt.{Stmt}
use Rattle.source_meaning.specs.Config.{body_of}
use Rattle.std.specs.Option.{option_map_or}
use Rattle.expr_code.specs.Runs.{HasOp, HasAt}
use Rattle.expr_code.proofs.Places.{has_front, has_back, has_all}
use Rattle.stmt_code.specs.StmtCode.{Places, codes, stmt_code}
use Rattle.stmt_code.specs.Whole.{Table, places_of, block_code, code_upto, no_table, start_of}
use Rattle.stmt_code.specs.Whole.{place_at, table_of, whole_code}
use Rattle.stmt_code.proofs.Sizes.{stmt_same}
use Rattle.stmt_code.proofs.Setting.{list_code}
use Rattle.stmt_code.proofs.Texts.{TextsAt, whole}

codes_append : (xs ys : List Stmt) (pl : Places) (d a : ℕ)
    → codes (map stmt_code (xs ++ ys)) pl d a ≡ codes (map stmt_code xs) pl d a
    ++ codes (map stmt_code ys) pl d (a + length (codes (map stmt_code xs) pl d a))
codes_append [] ys pl d a = let e : a ≡ a + 0 = omega arith in ap (codes (map stmt_code ys) pl d) e
codes_append (s ∷ xs) ys pl d a =
    let c = stmt_code s pl d a in
    let more = codes (map stmt_code xs) pl d (a + length c) in
    let e : a + length c + length more ≡ a + length (c ++ more) = omega (arith, length-append c more) in
    ap (λ l. c ++ l) (codes_append xs ys pl d (a + length c))
    ∙ ap (λ n. c ++ (more ++ codes (map stmt_code ys) pl d n)) e
    ∙ sym (append_assoc c more (codes (map stmt_code ys) pl d (a + length (c ++ more))))

pub codes_same : (ss : List Stmt) (x : Exchange) (t : Table) (b d a c : ℕ)
    → length (codes (map stmt_code ss) (places_of x no_table b) d a)
    ≡ length (codes (map stmt_code ss) (places_of x t b) d c)
codes_same [] x t b d a c = refl
codes_same (s ∷ ss) x t b d a c =
    let pl = places_of x no_table b in
    let ql = places_of x t b in
    let y = stmt_code s pl d a in
    let z = stmt_code s ql d c in
    omega (
      arith,
      length-append y (codes (map stmt_code ss) pl d (a + length y)),
      length-append z
          (codes (map stmt_code ss) ql d (c + length z)),
      stmt_same s pl (t.label b, t.enter) d a c,
      codes_same ss x t b d
          (a + length y) (c + length z),
    )

pub upto_same : (x : Exchange) (t : Table) (n : ℕ) → length (code_upto x no_table n) ≡ length (code_upto x t n)
unfolding code_upto
upto_same x t zero = refl
upto_same x t (suc n) =
    let u = code_upto x no_table n in
    let v = code_upto x t n in
    let cu = codes (map stmt_code (body_of x n)) (places_of x no_table n) 0 (length u) in
    let cv = codes (map stmt_code (body_of x n)) (places_of x t n) 0 (length v) in
    omega (
      arith,
      length-append u (cu ++ op.End ∷ []),
      length-append v (cv ++ op.End ∷ []),
      length-append cu
          (op.End ∷ []),
      length-append cv (op.End ∷ []),
      upto_same x t n,
      codes_same (body_of x n) x t n 0 (length u)
          (length v),
    )

-- what follows the first instructions
has_behind : (code before more : List Op) → HasAt code 0 (before ++ more) → HasAt code (length before) more
has_behind code before more h = let e : 0 + length before ≡ length before = omega arith in subst (λ n. HasAt code n more) e (has_back code 0 before more h)

-- a block's code stands where the block begins
upto_has : (x : Exchange) (t : Table) (code : List Op) (b n : ℕ) (more : List Op)
    → HasAt code 0 (code_upto x t n ++ more) → b < n
    → HasAt code (length (code_upto x t b)) (block_code x t b (length (code_upto x t b)))
unfolding code_upto
upto_has x t code b zero more has lt = absurd (omega arith)
upto_has x t code b (suc n) more has lt =
    let pre = code_upto x t n in
    let c = block_code x t n (length pre) in
    let h = subst (HasAt code 0) (append_assoc pre c more) has in
    ⊎_elim
    (λ (same : b ≡ n). subst (λ m. HasAt code (length (code_upto x t m)) (block_code x t m (length (code_upto x t m))))
    (sym same) (has_front code (length pre) c more (has_behind code pre (c ++ more) h)))
    (λ (ne : b ≢ n). upto_has x t code b n (c ++ more) h (omega arith))
    (cases_eq b n)

module _ (x : Exchange) (fits : AllByRecursion OpFits (whole_code x)) where
  start_is : (b : ℕ) → b < length x.blocks → start_of x b ≡ length (code_upto x (table_of x) b)
  unfolding start_of
  start_is b lt = let e : min b (length x.blocks) ≡ b = omega arith in ap (λ n. length (code_upto x no_table n)) e ∙ upto_same x (table_of x) b

  -- the whole code, and the end behind the blocks
  whole_has : HasAt (whole_code x) 0 (code_upto x (table_of x) (length x.blocks) ++ op.End ∷ [])
  unfolding whole_code
  whole_has = has_all (whole_code x) fits

  last_has : HasOp (whole_code x) (length (code_upto x (table_of x) (length x.blocks))) op.End
  last_has = (has_behind (whole_code x) (code_upto x (table_of x) (length x.blocks)) (op.End ∷ []) whole_has).0

  block_has : (b : ℕ) → b < length x.blocks → HasAt (whole_code x) (start_of x b) (block_code x (table_of x) b (start_of x b))
  block_has b lt = subst (λ n. HasAt (whole_code x) n (block_code x (table_of x) b n)) (sym (start_is b lt))
      (upto_has x (table_of x) (whole_code x) b (length x.blocks) (op.End ∷ []) whole_has lt)

  -- the text from a place on
  place_has : (b place : ℕ) → b < length x.blocks
      → HasAt (whole_code x) (place_at x b place)
      (list_code (whole x) b (drop place (body_of x b)) 0 (place_at x b place) ++ op.End ∷ [])
  unfolding place_at
  place_has b place lt =
      let body = body_of x b in
      let a = start_of x b in
      let pl = places_of x (table_of x) b in
      let first_part = codes (map stmt_code (take place body)) pl 0 a in
      let rest = λ (n : ℕ). codes (map stmt_code (drop place body)) pl 0 n ++ op.End ∷ [] in
      let whole : codes (map stmt_code body) pl 0 a ++ op.End ∷ [] ≡ first_part ++ rest (a + length first_part) =
      ap (λ ss. codes (map stmt_code ss) pl 0 a ++ op.End ∷ []) (sym (take-append-drop place body))
      ∙ ap (λ l. l ++ op.End ∷ []) (codes_append (take place body) (drop place body) pl 0 a)
      ∙ append_assoc first_part (codes (map stmt_code (drop place body)) pl 0 (a + length first_part)) (op.End ∷ [])
      in
      let h = has_back (whole_code x) a first_part (rest (a + length first_part)) (subst (HasAt (whole_code x) a) whole (block_has b lt)) in
      subst (λ n. HasAt (whole_code x) (a + n) (rest (a + n))) (sym (codes_same (take place body) x (table_of x) b 0 a a)) h

  -- past the last block nothing is done
  past_has : (b place : ℕ) → length x.blocks ≤ b → HasOp (whole_code x) (place_at x b place) op.End
  unfolding place_at start_of
  past_has b place le =
      let n = length x.blocks in
      let e : min b n ≡ n = omega arith in
      let none : body_of x b ≡ [] = ap (λ o. option_map_or (λ (k : Block). k.body) o []) (slice_get_past x.blocks b le) in
      let empty : length (codes (map stmt_code (take place (body_of x b))) (places_of x no_table b) 0 (start_of x b)) ≡ 0 =
      ap (λ ss. length (codes (map stmt_code (take place ss)) (places_of x no_table b) 0 (start_of x b))) none
      ∙ ap (λ ss. length (codes (map stmt_code ss) (places_of x no_table b) 0 (start_of x b))) (take-nil place) in
      let at : length (code_upto x (table_of x) n) ≡ place_at x b place =
      sym (upto_same x (table_of x) n) ∙ ap (λ m. length (code_upto x no_table m)) (sym e) ∙ omega (arith, empty) in
      subst (λ m. HasOp (whole_code x) m op.End) at last_has

  end_is : start_of x (length x.blocks) ≡ length (code_upto x (table_of x) (length x.blocks))
  unfolding start_of
  end_is = let e : min (length x.blocks) (length x.blocks)
      ≡ length x.blocks = omega arith in ap (λ n. length (code_upto x no_table n)) e
      ∙ upto_same x (table_of x) (length x.blocks)

  end_has : HasOp (whole_code x) (start_of x (length x.blocks)) op.End
  end_has = subst (λ m. HasOp (whole_code x) m op.End) (sym end_is) last_has

  -- the texts of the blocks stand at their addresses
  pub texts_stand : TextsAt x
  texts_stand = record { text = place_has; past = past_has; end = end_has }
