-- A search looks at record after record, in the job and in the machine; FOR FIRST is one.
use Rattle.std.proofs.Common.{◌≡◌, ◌≢◌, ℕ, zero, suc, ◌+◌, ◌*◌, ◌%◌, ◌^◌, ◌<◌, ◌≤◌, Bool, true}
use Rattle.std.proofs.Common.{false, List, [], ◌∷◌, ◌++◌, length, Option, Some, None, refl, sym, ap}
use Rattle.std.proofs.Common.{◌∙◌, subst, arith, length-append, if◌then◌else◌}
use Rattle.std.specs.Prelude.{slice_get, slice_index, nat_lt}
use Rattle.std.proofs.lemmas.Bool.{lt-ltb, le-ltb}
use Rattle.machine_code.specs.declared.op.Op.TheVariants as op
use Rattle.job_types.specs.declared.touch.Touch.{Touch}
use Rattle.exchange_model.specs.declared.block.File.{File}
use Rattle.exchange_model.specs.declared.expr.Expr.{Expr}
use Rattle.exchange_model.specs.declared.expr.Rel.{Rel}
use Rattle.exchange_model.specs.declared.stmt.StmtKind.TheOpen.{ForFirst}
use Rattle.exchange_model.specs.Cells.{Placed, field_cell, record_cells}
use Rattle.job_types.specs.Own.{World, seen}
use Rattle.source_meaning.specs.Value.{load_of, stands}
use Rattle.job_types.specs.Truth.{one_if}
use Rattle.source_meaning.specs.Config.{Item, Config, files_of}
use Rattle.source_meaning.specs.Step.{does}
use Rattle.source_meaning.specs.Changes.{least_record, looked_at, record_loads, on_record, at_found}
use Rattle.source_meaning.specs.Changes.{for_first}
use Rattle.machine_meaning.specs.Machine.{Machine, reg}
use Rattle.expr_code.specs.Code.{expr_code}
use Rattle.expr_code.specs.Runs.{HasAt}
use Rattle.expr_code.proofs.Places.{has_front, has_back}
use Rattle.expr_code.proofs.Runs.{seen_append, seen_none}
use Rattle.stmt_code.specs.declared.lengths.TheConstants.{LOOK_LENGTH, FOUND_LENGTH, AGAIN_LENGTH}
use Rattle.stmt_code.specs.RecordCode.{look_code, again_code, for_first_code}
use Rattle.stmt_code.proofs.Setting.{Setting, places, few_loops}
use Rattle.stmt_code.proofs.At.{SameLoops, At, at_moves}
use Rattle.stmt_code.proofs.Same.{Same, Comes, Follows}
use Rattle.stmt_code.proofs.Instr.{loops_on, ldi, gt, add, rel, ldx, jmp, jz_zero, jz_other}
use Rattle.stmt_code.proofs.Instr.{jz_test, stt}
use Rattle.stmt_code.proofs.Values.{Laid, expr_in, count_sim, value_sim}
use Rattle.stmt_code.proofs.Records.{found_from, loads_from, least_is, record_loads_are}
use Rattle.stmt_code.proofs.Records.{placed_fits}
use Rattle.stmt_code.proofs.Pointers.{cell_is}
use Rattle.stmt_code.proofs.Kind.{Case, at_kept, at_valued, goes_on_at, label_sim}

-- a search as it stands in the code: register 1 counts the records, and register 2 gets a word of
-- each
pub record Search (g : Setting) (cell_of : ℕ → ℕ) (f : File) : Type 0 where
  pub head : ℕ
  pub none : ℕ
  pub next : ℕ
  pub word : ℕ
  pub begin : HasAt g.code head (look_code f word none)
  pub again : HasAt g.code next (again_code head)
  pub cells : (i : ℕ) → word + record_cells f * i ≡ cell_of i
  pub small : f.size < 2 ^ 32

-- the first two registers and the locals of the loops are kept
pub record Looked (m n : Machine) : Type 0 where
  pub regs : (k : ℕ) → k < 2 → reg n.run k ≡ reg m.run k
  pub loops : SameLoops 12 n.run.locals m.run.locals

-- the test of a record, and its load
abbrev pub at_cell : (ℕ → Bool) → (ℕ → ℕ) → List ℕ → ℕ → Bool
at_cell test cell_of store i = test (slice_index store (cell_of i))

abbrev pub load_at : (ℕ → ℕ) → List ℕ → ℕ → Touch
load_at cell_of store i = load_of store (cell_of i)

-- the job after the loads of k records from i on
abbrev pub after_search : (ℕ → Bool) → (ℕ → ℕ) → ℕ → ℕ → Config → Config
after_search test cell_of i k c = record c { world = seen (loads_from (at_cell test cell_of c.world.store) (load_at cell_of c.world.store) i k) c.world }

seen_more : (l : Touch) (ls : List Touch) (w : World) → seen ls (seen (l ∷ []) w) ≡ seen (l ∷ ls) w
seen_more l ls w = seen_append (l ∷ []) ls w

-- the number that a search finds, and the loads, told record by record
pub on_record_is : (cell_of : ℕ → ℕ) (test : ℕ → Bool) (size : ℕ) (c : Config) (go : Option ℕ → Config → Config)
    → on_record cell_of test size c go ≡ go (found_from (at_cell test cell_of c.world.store) 0 size)
    (after_search test cell_of 0 size c)
on_record_is cell_of test size c go =
    let store = c.world.store in
    let t = at_cell test cell_of store in
    ap (λ o. go o (record c { world = seen (record_loads cell_of (looked_at (least_record t size) size) store) c.world })) (least_is t size)
    ∙ ap (λ l. go (found_from t 0 size) (record c { world = seen l c.world })) (record_loads_are t cell_of size store)

-- how a record is looked at once its word is in register 2
abbrev pub Looks : (g : Setting) (P : Machine → Type 0) {cell_of : ℕ → ℕ} {f : File} → Search g cell_of f → (ℕ → Bool) → ℕ → ℕ → Type 0
Looks g P q test value found_at = (c : Config) (m : Machine) (v : ℕ) → Same g [] c m → m.run.pc ≡ q.head + 1 + 1 + 1 + 1 → reg m.run 2 ≡ v → reg m.run 0 ≡ value
    → (test v ≡ true → (n : Machine) → Same g [] c n → n.run.pc ≡ found_at → Looked m n → Comes g P n)
    → (test v ≡ false → (n : Machine) → Same g [] c n → n.run.pc ≡ q.next → Looked m n → Comes g P n)
    → Comes g P m

module _ {g : Setting} {P : Machine → Type 0} {cell_of : ℕ → ℕ} {f : File} (q : Search g cell_of f) (test : ℕ → Bool) (value found_at : ℕ) where
  -- k records from i on are looked at
  pub search_sim : Looks g P q test value found_at → (k i : ℕ) (c : Config) (m : Machine) → i + k ≡ f.size
      → Same g [] c m → m.run.pc ≡ q.head → reg m.run 1 ≡ i → reg m.run 0 ≡ value
      → ((j : ℕ) → found_from (at_cell test cell_of c.world.store) i k ≡ Some j → j < f.size → (n : Machine)
      → Same g [] (after_search test cell_of i k c) n → n.run.pc ≡ found_at → reg n.run 1 ≡ j
      → SameLoops 12 n.run.locals m.run.locals → Comes g P n)
      → (found_from (at_cell test cell_of c.world.store) i k ≡ None → (n : Machine)
      → Same g [] (after_search test cell_of i k c) n → n.run.pc ≡ q.none → SameLoops 12 n.run.locals m.run.locals
      → Comes g P n)
      → Comes g P m
  search_sim look zero i c m e s at is val hit miss =
      ldi s at q.begin.0 (omega arith) (λ n1 s1 at1 q1.
      gt s1 at1 q.begin.1.0 (omega arith) (λ n2 s2 at2 q2.
      let ne : ◌≢◌ {A = ℕ} 1 2 = omega arith in
      let past : nat_lt i f.size ≡ false = le-ltb i f.size (omega (arith, e)) in
      let none : reg n2.run 2 ≡ 0 = q2.is ∙ ap (λ y. one_if (nat_lt y (reg n1.run 2))) (q1.others 1 ne ∙ is)
      ∙ ap (λ y. one_if (nat_lt i y)) q1.is ∙ ap one_if past in
      jz_zero s2 at2 q.begin.1.1.0 none (λ n3 s3 at3 q3.
      miss refl n3 (subst (λ w. Same g [] (record c { world = w }) n3) (seen_none c.world) s3) at3
      (loops_on n3.run.locals n2.run.locals m.run.locals q3.loops
      (loops_on n2.run.locals n1.run.locals m.run.locals q2.loops q1.loops)))))
  search_sim look (suc k) i c m e s at is val hit miss =
      let store = c.world.store in
      let t = at_cell test cell_of store in
      let load = load_at cell_of store in
      let cell = cell_of i in
      let v = slice_index store cell in
      let c1 = record c { world = seen (load i ∷ []) c.world } in
      let more = loads_from t load (i + 1) k in
      let ne1 : ◌≢◌ {A = ℕ} 1 2 = omega arith in
      let ne0 : ◌≢◌ {A = ℕ} 0 2 = omega arith in
      let ne01 : ◌≢◌ {A = ℕ} 0 1 = omega arith in
      let ne21 : ◌≢◌ {A = ℕ} 2 1 = omega arith in
      ldi s at q.begin.0 (omega arith) (λ n1 s1 at1 q1.
      gt s1 at1 q.begin.1.0 (omega arith) (λ n2 s2 at2 q2.
      let within : nat_lt i f.size ≡ true = lt-ltb i f.size (omega (arith, e)) in
      let some : reg n2.run 2 ≡ 1 = q2.is ∙ ap (λ y. one_if (nat_lt y (reg n1.run 2))) (q1.others 1 ne1 ∙ is)
      ∙ ap (λ y. one_if (nat_lt i y)) q1.is ∙ ap one_if within in
      jz_other {v = 0} s2 at2 q.begin.1.1.0 some (λ n3 s3 at3 q3.
      let is3 : reg n3.run 1 ≡ i = q3.regs 1 ∙ q2.others 1 ne1 ∙ q1.others 1 ne1 ∙ is in
      let val3 : reg n3.run 0 ≡ value = q3.regs 0 ∙ q2.others 0 ne0 ∙ q1.others 0 ne0 ∙ val in
      ldx cell s3 at3 q.begin.1.1.1.0 (omega arith) (ap (λ y. q.word + record_cells f * y) is3 ∙ q.cells i) (λ n4 s4 at4 q4.
      let loops4 : SameLoops 12 n4.run.locals m.run.locals = loops_on n4.run.locals n3.run.locals m.run.locals q4.loops
      (loops_on n3.run.locals n2.run.locals m.run.locals q3.loops
      (loops_on n2.run.locals n1.run.locals m.run.locals q2.loops q1.loops)) in
      let is4 : reg n4.run 1 ≡ i = q4.others 1 ne1 ∙ is3 in
      let val4 : reg n4.run 0 ≡ value = q4.others 0 ne0 ∙ val3 in
      look c1 n4 v s4 at4 q4.is val4
      (λ yes_it n5 s5 at5 q5.
      hit i (ap (λ b. if b then Some i else found_from t (i + 1) k) yes_it) (omega (arith, e)) n5
      (subst (λ b. Same g [] (record c { world = seen (load i ∷ (if b then [] else more)) c.world }) n5)
      (sym yes_it) s5) at5 (q5.regs 1 (omega arith) ∙ is4)
      (loops_on n5.run.locals n4.run.locals m.run.locals q5.loops loops4))
      (λ not_it n5 s5 at5 q5.
      let same_found : found_from t i (suc k) ≡ found_from t (i + 1) k = ap (λ b. if b then Some i else found_from t (i + 1) k) not_it in
      let same_world : seen more (seen (load i ∷ []) c.world)
      ≡ seen (loads_from t load i (suc k)) c.world = seen_more (load i) more c.world
      ∙ ap (λ b. seen (load i ∷ (if b then [] else more)) c.world) (sym not_it) in
      ldi s5 at5 q.again.0 (omega arith) (λ n6 s6 at6 q6.
      add s6 at6 q.again.1.0 (omega arith) (λ n7 s7 at7 q7.
      jmp s7 at7 q.again.1.1.0 (λ n8 s8 at8 q8.
      let is6 : reg n6.run 1 ≡ i = q6.others 1 ne1 ∙ q5.regs 1 (omega arith) ∙ is4 in
      let low : (i + 1) % 2 ^ 32 ≡ i + 1 = omega (arith, e, q.small) in
      let is8 : reg n8.run 1 ≡ i + 1 = q8.regs 1 ∙ q7.is ∙ ap (λ y. (y + reg n6.run 2) % 2 ^ 32) is6 ∙ ap (λ y. (i + y) % 2 ^ 32) q6.is ∙ low in
      let val8 : reg n8.run 0 ≡ value = q8.regs 0 ∙ q7.others 0 ne01 ∙ q6.others 0 ne0 ∙ q5.regs 0 (omega arith) ∙ val4 in
      let loops8 : SameLoops 12 n8.run.locals m.run.locals =
      loops_on n8.run.locals n7.run.locals m.run.locals q8.loops
      (loops_on n7.run.locals n6.run.locals m.run.locals q7.loops
      (loops_on n6.run.locals n5.run.locals m.run.locals q6.loops
      (loops_on n5.run.locals n4.run.locals m.run.locals q5.loops loops4))) in
      search_sim look k (i + 1) c1 n8 (omega (arith, e)) s8 at8 is8 val8
      (λ j found lt n s' at' is' loops. hit j (same_found ∙ found) lt n
      (subst (λ w. Same g [] (record c { world = w }) n) same_world s') at' is'
      (loops_on n.run.locals n8.run.locals m.run.locals loops loops8))
      (λ found n s' at' loops. miss (same_found ∙ found) n
      (subst (λ w. Same g [] (record c { world = w }) n) same_world s') at'
      (loops_on n.run.locals n8.run.locals m.run.locals loops loops8))))))))))

module _ {g : Setting} where
  -- the search of FOR FIRST
  first_search : (p : Placed) (temp field label a : ℕ) (rel : Rel) → p.file.size < 2 ^ 32
      → HasAt g.code a (for_first_code (Some p) temp field rel label a) → Search g (λ i. field_cell p i field) p.file
  first_search p temp field label a rel small has = record {
    head = a + 1;
    none = a + 1 + LOOK_LENGTH + FOUND_LENGTH + AGAIN_LENGTH;
    next = a + 1 + LOOK_LENGTH + FOUND_LENGTH;
    word = p.first + field;
    begin = (has.1.0, (has.1.1.0, (has.1.1.1.0, (has.1.1.1.1.0, tt))));
    again =
        let place : a + 1 + 1 + 1 + 1 + 1 + 1 + 1 + 1 + 1 ≡ a + 1 + LOOK_LENGTH + FOUND_LENGTH = omega arith in
        subst (λ i. HasAt g.code i (again_code (a + 1))) place has.1.1.1.1.1.1.1.1.1;
    cells = cell_is p field;
    small = small;
  }

  first_looks : {P : Machine → Type 0} (p : Placed) (temp field label a value : ℕ) (r : Rel)
      (small : p.file.size < 2 ^ 32) (has : HasAt g.code a (for_first_code (Some p) temp field r label a))
      → Looks g P (first_search p temp field label a r small has) (λ w. stands r w value) value
      (a + 1 + 1 + 1 + 1 + 1 + 1 + 1)
  unfolding first_search
  first_looks p temp field label a value r small has c m v s at is val some none =
      rel 2 0 r s at has.1.1.1.1.1.0 (omega arith) (λ n1 s1 at1 q1.
      let test : reg n1.run 2 ≡ one_if (stands r v value) = q1.is ∙ ap (λ y. one_if (stands r y (reg m.run 0))) is ∙ ap (λ y. one_if (stands r v y)) val in
      jz_test (stands r v value) s1 at1 has.1.1.1.1.1.1.0 test
      (λ e n2 s2 at2 q2. none e n2 s2 at2 record {
        regs = λ k lt. let ne : k ≢ 2 = omega arith in q2.regs k ∙ q1.others k ne;
        loops = loops_on n2.run.locals n1.run.locals m.run.locals q2.loops q1.loops;
      })
      (λ e n2 s2 at2 q2. some e n2 s2 at2 record {
        regs = λ k lt. let ne : k ≢ 2 = omega arith in q2.regs k ∙ q1.others k ne;
        loops = loops_on n2.run.locals n1.run.locals m.run.locals q2.loops q1.loops;
      }))

  first_sim : {c : Config} {m : Machine} {a : ℕ} (o : Option Placed) (temp field label value d : ℕ) (r : Rel)
      (rest : List Item) → Laid g → ((p : Placed) → o ≡ Some p → p.file.size < 2 ^ 32) → d ≤ 12 → temp < 24
      → reg m.run 0 ≡ value → Same g [] c m → m.run.pc ≡ a
      → HasAt g.code a (for_first_code o temp field r (g.table.label c.block label) a)
      → At g c.block m.run.locals d rest (a
      + length (for_first_code o temp field r (g.table.label c.block label) a))
      → Follows g (for_first g.exchange o temp field r value label rest c) m
  unfolding first_search
  first_sim {c = c} {m = m} {a = a} None temp field label value d r rest laid limit le lt val s at has
      after = goes_on_at rest s at (subst (At g c.block m.run.locals d rest) (omega arith) after)
  first_sim {c = c} {m = m} {a = a} (Some p) temp field label value d r rest laid limit le lt val s at has after =
      let cell_of : ℕ → ℕ = λ i. field_cell p i field in
      let test : ℕ → Bool = λ w. stands r w value in
      let size = p.file.size in
      let to = g.table.label c.block label in
      let small = limit p refl in
      let q = first_search p temp field to a r small has in
      let t = at_cell test cell_of c.world.store in
      let done = after_search test cell_of 0 size c in
      let ne : ◌≢◌ {A = ℕ} 0 1 = omega arith in
      subst (λ e. Follows g e m) (sym (on_record_is cell_of test size c (at_found g.exchange temp label rest)))
      (ldi s at has.0 (omega arith) (λ n1 s1 at1 q1.
      search_sim q test value (a + 1 + 1 + 1 + 1 + 1 + 1 + 1) (first_looks p temp field to a value r small has) size 0 c
      n1 (omega arith) s1 at1 q1.is (q1.others 0 ne ∙ val)
      (λ j found within n2 s2 at2 is2 loops2.
      subst (λ o. Follows g (at_found g.exchange temp label rest o done) n2) (sym found)
      (stt j s2 at2 has.1.1.1.1.1.1.1.0 lt is2 (omega (arith, within, small)) (λ n3 s3 at3 q3.
      jmp s3 at3 has.1.1.1.1.1.1.1.1.0 (λ n4 s4 at4 q4. label_sim laid label s4 at4))))
      (λ found n2 s2 at2 loops2.
      subst (λ o. Follows g (at_found g.exchange temp label rest o done) n2) (sym found)
      (goes_on_at rest s2 at2 (at_moves n2.run.locals le
      (loops_on n2.run.locals n1.run.locals m.run.locals loops2 q1.loops)
      (subst (At g c.block m.run.locals d rest) (omega arith) after))))))

  pub for_first_of : Laid g → (temp file field : ℕ) (r : Rel) (e : Expr) (label : ℕ) → Case g (ForFirst temp file field r e label)
  for_first_of laid temp file field r e label c m p d a rest s at has fits after =
      let ce = expr_code e (places g c.block).site 0 in
      let o = slice_get (files_of g.exchange) file in
      let tail = for_first_code o temp field r (g.table.label c.block label) (a + 1 + length ce) in
      let h = has_back g.code (a + 1) ce tail has.1 in
      let len : a + length (op.Stmt p ∷ (ce ++ tail)) ≡ a + 1 + length ce + length tail = omega (arith, length-append ce tail) in
      let le = few_loops fits in
      let limit : (k : Placed) → o ≡ Some k → k.file.size < 2 ^ 32 = λ k there. omega (arith, (placed_fits g.exchange file k laid.kept there).few) in
      count_sim (does g.exchange p (ForFirst temp file field r e label) rest) s at has.0 (λ n1 s1 at1 q1.
      value_sim 0 e (λ v d. for_first g.exchange o temp field r v label rest d) (omega arith) (expr_in e [] refl fits)
      s1 at1 (has_front g.code (a + 1) ce tail has.1) (λ n2 v loads s2 at2 q2.
      let r2 = subst (At g c.block n2.run.locals d rest) len (at_valued le q2 (at_kept le q1 after)) in
      first_sim o temp field label v d r rest laid limit le (omega (arith, fits.fits.names.0, fits.limited.temporaries)) q2.is s2 at2 h r2))
