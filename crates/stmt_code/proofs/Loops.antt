-- ON: a loop is entered, a turn begins, and after it the next one or what follows the loop.
use Rattle.std.proofs.Common.{◌≡◌, ◌≢◌, ℕ, suc, ◌+◌, ◌%◌, ◌^◌, ◌<◌, ◌≤◌, true, false, List, [], ◌∷◌}
use Rattle.std.proofs.Common.{◌++◌, length, map, refl, sym, ap, ◌∙◌, subst, arith, length-append}
use Rattle.std.specs.Prelude.{slice_index, slice_set, nat_lt, nat_le}
use Rattle.std.proofs.Math.ListN.{length-set}
use Rattle.std.proofs.lemmas.List.{get_or-set_other, get_or-set_same}
use Rattle.std.proofs.lemmas.Bool.{ltb-true}
use Rattle.std.proofs.lemmas.Bool.Decides.{nat_tests}
use Rattle.machine_code.specs.declared.op.Op.{Op}
use Rattle.machine_code.specs.declared.op.Op.TheVariants as op
use Rattle.exchange_model.specs.declared.expr.Expr.{Expr}
use Rattle.exchange_model.specs.declared.stmt.Stmt.{Stmt}
use Rattle.exchange_model.specs.declared.stmt.StmtKind.TheOpen.{On}
use Rattle.source_meaning.specs.Value.{expr_value}
use Rattle.job_types.specs.Truth.{one_if}
use Rattle.source_meaning.specs.Config.{Item, Do, Turns, Config, sight}
use Rattle.source_meaning.specs.Step.{does, count}
use Rattle.source_meaning.specs.Changes.{goes, sets_temp, on_value}
use Rattle.machine_meaning.specs.Machine.{Machine, here, reg}
use Rattle.expr_code.specs.Code.{expr_code}
use Rattle.expr_code.specs.Runs.{HasAt}
use Rattle.expr_code.proofs.Places.{has_front, has_back}
use Rattle.stmt_code.specs.declared.lengths.TheConstants.{TURN_LENGTH, NEXT_LENGTH, BOUNDS_LENGTH}
use Rattle.stmt_code.specs.StmtCode.{turn, last, next_code, turns_code, bounds_code}
use Rattle.stmt_code.proofs.Setting.{Setting, places, list_code, few_loops, body_in}
use Rattle.stmt_code.proofs.At.{SameLoops, Loop, exit_of, again_of, At, AtHead, over, turns, again}
use Rattle.stmt_code.proofs.At.{at_keeps, list_at}
use Rattle.stmt_code.proofs.Same.{Same, heads, Comes, Follows}
use Rattle.stmt_code.proofs.Instr.{ldt, add, gt, ge, stt, stl, jmp, jz_test}
use Rattle.stmt_code.proofs.Values.{expr_in, second_in, count_sim, value_sim}
use Rattle.stmt_code.proofs.Kind.{Case, todo_same, at_kept, at_gave, at_valued, goes_on_at}

-- the locals of the next loop are not those of d loops
set_turn : (d v : ℕ) (l : List ℕ) → SameLoops d (slice_set l (turn d) v) l
set_turn d v l i low high = let ne : i ≢ turn d = omega arith in get_or-set_other l (turn d) i v 0 ne

set_last : (d v : ℕ) (l : List ℕ) → SameLoops d (slice_set l (last d) v) l
set_last d v l i low high = let ne : i ≢ last d = omega arith in get_or-set_other l (last d) i v 0 ne

-- both locals of a loop were written
turn_is : (d v w : ℕ) (l k j : List ℕ) → d < 12 → length l ≡ 50 → k ≡ slice_set l (turn d) v → j ≡ slice_set k (last d) w → slice_index j (turn d) ≡ v
turn_is d v w l k j lt long ek ej =
    let ne : turn d ≢ last d = omega arith in
    ap (λ o. slice_index o (turn d)) ej ∙ get_or-set_other k (last d) (turn d) w 0 ne
    ∙ ap (λ o. slice_index o (turn d)) ek ∙ get_or-set_same l (turn d) v 0 (omega (arith, long))

last_is : (d v w : ℕ) (l k j : List ℕ) → d < 12 → length l ≡ 50 → k ≡ slice_set l (turn d) v → j ≡ slice_set k (last d) w → slice_index j (last d) ≡ w
last_is d v w l k j lt long ek ej =
    ap (λ o. slice_index o (last d)) ej ∙ get_or-set_same k (last d) w 0 (omega (arith, long, ap length ek, length-set l (turn d) v))

others_are : (d v w : ℕ) (l k j : List ℕ) → k ≡ slice_set l (turn d) v → j ≡ slice_set k (last d) w → SameLoops d j l
others_are d v w l k j ek ej i low high =
    ap (λ o. slice_index o i) ej ∙ set_last d w k i low high ∙ ap (λ o. slice_index o i) ek ∙ set_turn d v l i low high

not_under : (v w this end : ℕ) → v + 1 ≡ this → w ≡ end → nat_lt v w ≡ false → nat_lt end this ≡ true
not_under v w this end e f h = grind (arith, nat_tests)

under : (v w this end : ℕ) → v + 1 ≡ this → w ≡ end → nat_lt v w ≡ true → nat_lt end this ≡ false
under v w this end e f h = grind (arith, nat_tests)

-- the first bound is above the second, or not
above : (v w : ℕ) → nat_le v w ≡ false → nat_lt w v ≡ true
above v w h = grind (arith, nat_tests)

not_above : (v w : ℕ) → nat_le v w ≡ true → nat_lt w v ≡ false
not_above v w h = grind (arith, nat_tests)

low_sum : (v w : ℕ) → w < 2 ^ 32 → nat_lt v w ≡ true → (v + 1) % 2 ^ 32 ≡ v + 1
low_sum v w lt h = let below : v < w = ltb-true v w h in omega arith

module _ {g : Setting} where
  -- a turn is to be begun
  begins_turn : {c : Config} {m : Machine} {a : ℕ} (todo : List Item) → Same g [] c m → m.run.pc ≡ a
      → AtHead g c.block m.run.regs m.run.locals todo a → Follows g (goes todo c) m
  begins_turn {c = c} {m = m} todo s e at = record {
    end = m;
    goes = here;
    is = heads (todo_same todo s)
        (subst (AtHead g c.block m.run.regs m.run.locals todo) (sym e) at);
  }

  -- the bounds are kept, and the first turn is begun or the loop is left
  enter_loop : (c : Config) (m : Machine) (d a p t va vb head : ℕ) (body : List Stmt) (rest : List Item)
      (tail : List Op) → Same g [] c m → m.run.pc ≡ a → a + 1 + 1 + 1 + 1 ≡ head → reg m.run 0 ≡ va → reg m.run 1 ≡ vb
      → vb < 2 ^ 32
      → HasAt g.code a (bounds_code d (exit_of g c.block d body head) ++ tail) → Loop g c.block d p t body head
      → At g c.block m.run.locals d rest (exit_of g c.block d body head)
      → Follows g (goes (Turns p t va vb body ∷ rest) c) m
  enter_loop c m d a p t va vb head body rest tail s at four is0 is1 small has stands r =
      let ne : ◌≢◌ {A = ℕ} 0 1 = omega arith in
      stl va s at has.0 (omega arith) is0 (λ n1 s1 at1 q1.
      stl vb s1 at1 has.1.0 (omega arith) (q1.regs 1 ∙ is1) (λ n2 s2 at2 q2.
      ge s2 at2 has.1.1.0 (omega arith) (λ n3 s3 at3 q3.
      let low2 : reg n2.run 0 ≡ va = q2.regs 0 ∙ q1.regs 0 ∙ is0 in
      let test : reg n3.run 1 ≡ one_if (nat_le va vb) =
      q3.is ∙ ap (λ k. one_if (nat_le k (reg n2.run 1))) low2 ∙ ap (λ k. one_if (nat_le va k)) (q2.regs 1 ∙ q1.regs 1 ∙ is1) in
      let this2 = turn_is d va vb m.run.locals n1.run.locals n2.run.locals stands.depth s.temps.wide q1.locals q2.locals in
      let last2 = last_is d va vb m.run.locals n1.run.locals n2.run.locals stands.depth s.temps.wide q1.locals q2.locals in
      let r2 = at_keeps n2.run.locals (others_are d va vb m.run.locals n1.run.locals n2.run.locals q1.locals q2.locals) r in
      let le : d ≤ 12 = omega (arith, stands.depth) in
      let r3 = at_gave le q3 r2 in
      jz_test (nat_le va vb) s3 at3 has.1.1.1.0 test
      (λ e n4 s4 at4 q4. goes_on_at (Turns p t va vb body ∷ rest) s4 at4 (over (above va vb e) (at_kept le q4 r3)))
      (λ e n4 s4 at4 q4.
      let same : (i : ℕ) → 24 ≤ i → i < 48 → slice_index n4.run.locals i ≡ slice_index n2.run.locals i =
      λ i low high. q4.loops i low (omega arith) ∙ q3.loops i low (omega arith) in
      let first : reg n4.run 0 ≡ va = q4.regs 0 ∙ q3.others 0 ne ∙ low2 in
      begins_turn (Turns p t va vb body ∷ rest) s4 (at4 ∙ four)
      (turns stands small (not_above va vb e) first (same (turn d) (omega arith) (omega (arith, stands.depth)) ∙ this2)
      (same (last d) (omega arith) (omega (arith, stands.depth)) ∙ last2) (at_kept le q4 r3))))))

  pub loop : (t : ℕ) (from upto : Expr) (body : List Stmt) → Case g (On t from upto body)
  loop t from upto body c m p d a rest s at has fits r =
      let site = (places g c.block).site in
      let cf = expr_code from site 0 in
      let cu = expr_code upto site 1 in
      let at_set = a + 1 + length cf + length cu in
      let head = at_set + BOUNDS_LENGTH in
      let cb = list_code g c.block body (suc d) (head + TURN_LENGTH) in
      let ct = turns_code p t d head cb in
      let end = exit_of g c.block d body head in
      let tail = bounds_code d (head + length ct) ++ ct in
      let h1 = has_back g.code (a + 1) cf (cu ++ tail) has.1 in
      let h2 = has_back g.code (a + 1 + length cf) cu tail h1 in
      let len_ct : head + length ct ≡ end = omega (arith, length-append cb (next_code d head (head + TURN_LENGTH + length cb + NEXT_LENGTH))) in
      let len : a + length (op.Stmt p ∷ (cf ++ (cu ++ tail))) ≡ end = omega (arith, len_ct, length-append cf (cu ++ tail), length-append cu tail) in
      let four : at_set + 1 + 1 + 1 + 1 ≡ head = omega arith in
      let stands : Loop g c.block d p t body head = record {
        has = subst (λ i. HasAt g.code i ct) four h2.1.1.1.1;
        fits = body_in fits;
        temp = omega (arith, fits.fits.names, fits.limited.temporaries);
        depth = omega (arith, (body_in fits).shallow);
      } in
      let h3 = subst (λ i. HasAt g.code at_set (bounds_code d i ++ ct)) len_ct h2 in
      let le = few_loops fits in
      count_sim (does g.exchange p (On t from upto body) rest) s at has.0 (λ n1 s1 at1 q1.
      value_sim 0 from (λ v e. on_value (expr_value upto (sight g.exchange e)) e
      (λ w f. goes (Turns p t v w body ∷ rest) f)) (omega arith) (expr_in from (upto ∷ []) refl fits) s1 at1
      (has_front g.code (a + 1) cf (cu ++ tail) has.1) (λ n2 va loads s2 at2 q2.
      value_sim 1 upto (λ w f. goes (Turns p t va w body ∷ rest) f) (omega arith) (second_in from upto [] refl fits) s2
      at2 (has_front g.code (a + 1 + length cf) cu tail h1) (λ n3 vb loads' s3 at3 q3.
      let r3 = subst (At g c.block n3.run.locals d rest) len (at_valued le q3 (at_valued le q2 (at_kept le q1 r))) in
      enter_loop _ n3 d at_set p t va vb head body rest ct s3 at3 four (q3.low 0 (omega arith) ∙ q2.is) q3.is q3.small h3 stands r3)))

  -- a turn begins
  pub turn_sim : (c : Config) (m : Machine) (d p t this end head : ℕ) (body : List Stmt) (rest : List Item)
      → Same g [] c m → m.run.pc ≡ head → Loop g c.block d p t body head → end < 2 ^ 32 → reg m.run 0 ≡ this
      → slice_index m.run.locals (turn d) ≡ this → slice_index m.run.locals (last d) ≡ end
      → At g c.block m.run.locals d rest (exit_of g c.block d body head) → this < 2 ^ 32
      → Follows g (count p c (λ e. goes (map Do body ++ (Turns p t (this + 1) end body ∷ rest))
      (sets_temp t this e))) m
  turn_sim c m d p t this end head body rest s at stands small first_is this_is last_is r this_small =
      let b = c.block in
      let cb = list_code g b body (suc d) (head + TURN_LENGTH) in
      let le : d ≤ 12 = omega (arith, stands.depth) in
      let todo = map Do body ++ (Turns p t (this + 1) end body ∷ rest) in
      let place : head + 1 + 1 ≡ head + TURN_LENGTH = omega arith in
      count_sim (λ e. goes todo (sets_temp t this e)) s at stands.has.0 (λ n1 s1 at1 q1.
      stt this s1 at1 stands.has.1.0 stands.temp (q1.regs 0 ∙ first_is) this_small (λ n2 s2 at2 q2.
      let same : (i : ℕ) → 24 ≤ i → i < 48 → slice_index n2.run.locals i ≡ slice_index m.run.locals i =
      λ i low high. q2.loops i low (omega arith) ∙ q1.loops i low (omega arith) in
      let this2 : slice_index n2.run.locals (turn d) ≡ this = same (turn d) (omega arith) (omega (arith, stands.depth)) ∙ this_is in
      let last2 : slice_index n2.run.locals (last d) ≡ end = same (last d) (omega arith) (omega (arith, stands.depth)) ∙ last_is in
      let r2 = at_kept le q2 (at_kept le q1 r) in
      let back = again head stands small (ap (λ i. i + 1) this2) last2 r2 in
      let has_body = subst (λ i. HasAt g.code i cb) place (has_front g.code (head + 1 + 1) cb _ stands.has.1.1) in
      goes_on_at todo s2 (at2 ∙ place) (list_at g b (suc d) (head + TURN_LENGTH) n2.run.locals
      (Turns p t (this + 1) end body ∷ rest) body has_body stands.fits back)))

  -- after a turn: the next one, or the end of the loop
  pub next_turn : {P : Machine → Type 0} (c : Config) (m : Machine) (d p t this end head : ℕ) (body : List Stmt)
      (rest : List Item) → Same g [] c m → m.run.pc ≡ again_of g c.block d body head → Loop g c.block d p t body head
      → end < 2 ^ 32
      → slice_index m.run.locals (turn d) + 1 ≡ this → slice_index m.run.locals (last d) ≡ end
      → At g c.block m.run.locals d rest (exit_of g c.block d body head)
      → (nat_lt end this ≡ true → (n : Machine) → Same g [] c n → n.run.pc ≡ exit_of g c.block d body head
      → SameLoops 12 n.run.locals m.run.locals → Comes g P n)
      → ((n : Machine) → Same g [] c n → n.run.pc ≡ head → AtHead g c.block n.run.regs n.run.locals (Turns p t this end body ∷ rest) head → Comes g P n)
      → Comes g P m
  next_turn c m d p t this end head body rest s at stands small this_is last_is r leave begin =
      let b = c.block in
      let cb = list_code g b body (suc d) (head + TURN_LENGTH) in
      let exit = exit_of g b d body head in
      let tail = next_code d head exit in
      let place : head + 1 + 1 + length cb ≡ again_of g b d body head = omega arith in
      let has = subst (λ i. HasAt g.code i tail) place (has_back g.code (head + 1 + 1) cb tail stands.has.1.1) in
      let v = slice_index m.run.locals (turn d) in
      let w = slice_index m.run.locals (last d) in
      let le : d ≤ 12 = omega (arith, stands.depth) in
      let ne : ◌≢◌ {A = ℕ} 0 1 = omega arith in
      ldt s at has.0 (omega arith) (λ n1 s1 at1 q1.
      ldt s1 at1 has.1.0 (omega arith) (λ n2 s2 at2 q2.
      gt s2 at2 has.1.1.0 (omega arith) (λ n3 s3 at3 q3.
      let low2 : reg n2.run 0 ≡ v = q2.others 0 ne ∙ q1.is in
      let high2 : reg n2.run 1 ≡ w = q2.is ∙ q1.loops (last d) (omega arith) (omega (arith, stands.depth)) in
      let test : reg n3.run 1 ≡ one_if (nat_lt v w) = q3.is ∙ ap (λ k. one_if (nat_lt k (reg n2.run 1))) low2 ∙ ap (λ k. one_if (nat_lt v k)) high2 in
      let loops3 : SameLoops 12 n3.run.locals m.run.locals = λ i low high. q3.loops i low high ∙ q2.loops i low high ∙ q1.loops i low high in
      jz_test (nat_lt v w) s3 at3 has.1.1.1.0 test
      (λ e n4 s4 at4 q4. leave (not_under v w this end this_is last_is e) n4 s4 at4 (λ i low high. q4.loops i low high ∙ loops3 i low high))
      (λ e n4 s4 at4 q4.
      add s4 at4 has.1.1.1.1.0 (omega arith) (λ n6 s6 at6 q6.
      let low4 : reg n4.run 0 ≡ v = q4.regs 0 ∙ q3.others 0 ne ∙ low2 in
      let one4 : reg n4.run 1 ≡ 1 = q4.regs 1 ∙ test ∙ ap one_if e in
      let six : reg n6.run 0 ≡ this =
      q6.is ∙ ap (λ y. (y + reg n4.run 1) % 2 ^ 32) low4 ∙ ap (λ y. (v + y) % 2 ^ 32) one4
      ∙ low_sum v w (subst (λ n. n < 2 ^ 32) (sym last_is) small) e ∙ this_is in
      stl this s6 at6 has.1.1.1.1.1.0 (omega arith) six (λ n7 s7 at7 q7.
      jmp s7 at7 has.1.1.1.1.1.1.0 (λ n8 s8 at8 q8.
      let loops6 : SameLoops 12 n6.run.locals m.run.locals = λ i low high. q6.loops i low high ∙ q4.loops i low high ∙ loops3 i low high in
      let this7 : slice_index n7.run.locals (turn d) ≡ this = ap (λ o. slice_index o (turn d)) q7.locals
      ∙ get_or-set_same n6.run.locals (turn d) this 0 (omega (arith, s6.temps.wide, stands.depth)) in
      let ne2 : last d ≢ turn d = omega arith in
      let last7 : slice_index n7.run.locals (last d) ≡ end =
      ap (λ o. slice_index o (last d)) q7.locals ∙ get_or-set_other n6.run.locals (turn d) (last d) this 0 ne2
      ∙ loops6 (last d) (omega arith) (omega (arith, stands.depth)) ∙ last_is in
      let keep7 : SameLoops d n7.run.locals m.run.locals = λ i low high. ap (λ o. slice_index o i) q7.locals
      ∙ set_turn d this n6.run.locals i low high ∙ loops6 i low (omega (arith, stands.depth)) in
      begin n8 s8 at8
      (turns stands small (under v w this end this_is last_is e) (q8.regs 0 ∙ q7.regs 0 ∙ six)
      (q8.loops (turn d) (omega arith) (omega (arith, stands.depth)) ∙ this7)
      (q8.loops (last d) (omega arith) (omega (arith, stands.depth)) ∙ last7)
      (at_kept le q8 (at_keeps n7.run.locals keep7 r))))))))))
