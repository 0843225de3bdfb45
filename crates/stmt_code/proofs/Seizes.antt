-- SEIZE: the least free record joins the chain.
use Rattle.std.proofs.Common.{◌≡◌, ◌≢◌, ℕ, zero, suc, ◌+◌, ◌*◌, ◌^◌, ◌<◌, ◌≤◌, Bool, true, false}
use Rattle.std.proofs.Common.{List, [], ◌∷◌, ◌++◌, length, Option, Some, None, refl, sym, ap, ◌∙◌}
use Rattle.std.proofs.Common.{subst, arith, if◌then◌else◌}
use Rattle.std.specs.Prelude.{slice_get, nat_lt, nat_eq, not}
use Rattle.std.proofs.Math.Dec.{eqb-suc-zero}
use Rattle.job_types.specs.declared.fault.Fault.TheVariants.{NoForlopp, Chain}
use Rattle.machine_code.specs.declared.op.Op.TheVariants as op
use Rattle.exchange_model.specs.declared.stmt.StmtKind.TheOpen.{Seize}
use Rattle.exchange_model.specs.Cells.{Placed, mark_cell, record_cells}
use Rattle.job_types.specs.Own.{Own}
use Rattle.source_meaning.specs.Config.{Item, Config, files_of}
use Rattle.source_meaning.specs.Step.{does}
use Rattle.source_meaning.specs.Changes.{fails as c_fails, joins_chain, at_free, on_record, seizes}
use Rattle.machine_meaning.specs.Machine.{Machine, made_one, reg, next, fails, checks}
use Rattle.expr_code.specs.Runs.{HasOp, HasAt}
use Rattle.stmt_code.specs.declared.lengths.TheConstants.{LOOK_LENGTH, AGAIN_LENGTH}
use Rattle.stmt_code.specs.RecordCode.{again_code, take_code, seize_code}
use Rattle.stmt_code.proofs.Setting.{Setting, few_loops}
use Rattle.stmt_code.proofs.At.{At, at_moves}
use Rattle.stmt_code.proofs.Same.{Same, Follows, by_step, faults}
use Rattle.stmt_code.proofs.Instr.{Kept, loops_on, same_loops, ldi, stx, stt, check, jz_zero}
use Rattle.stmt_code.proofs.Instr.{jz_other}
use Rattle.stmt_code.proofs.Values.{Laid, count_sim}
use Rattle.stmt_code.proofs.Records.{placed_fits}
use Rattle.stmt_code.proofs.Pointers.{cell_is}
use Rattle.stmt_code.proofs.Searches.{Search, Looks, at_cell, after_search, on_record_is}
use Rattle.stmt_code.proofs.Searches.{search_sim}
use Rattle.stmt_code.proofs.Kind.{Case, at_kept, at_gave, goes_on_at, label_sim}

-- a fault where a test holds is a fault unless its contrary does
not_split : (b : Bool) (x y : Config) → (if not b then x else y) ≡ (if b then y else x)
not_split true x y = refl
not_split false x y = refl

-- one record more in the chain
abbrev joined : ℕ → ℕ → Own → Own
joined file number o = record o { chain = o.chain ++ record { file = file; number = number } ∷ [] }

-- where a free record is seized
abbrev free_at : ℕ → ℕ
free_at a = a + 1 + 1 + LOOK_LENGTH + 1 + AGAIN_LENGTH

module _ {g : Setting} where
  -- a record joins the chain, unless that is full
  chain_cases : (room : Bool) (file number r : ℕ) (go c : Config) (m : Machine) (a : ℕ)
      → nat_lt (length c.own.chain) 64 ≡ room → reg m.run r ≡ number → Same g [] c m → m.run.pc ≡ a
      → HasOp g.code a (op.Chn r file)
      → ((n : Machine) → Same g [] (record c { own = joined file number c.own }) n → n.run.pc ≡ a + 1 → Kept m n → Follows g go n)
      → Follows g (if room then go else c_fails Chain c) m
  chain_cases true file number r go c m a e is s at has k =
      let n : Machine = record { run = next (record (made_one m.run) { own = joined file number c.own }); world = m.world } in
      let s' : Same g [] (record c { own = joined file number c.own }) n = record {
        own = refl;
        world = s.world;
        temps = s.temps;
        regs = s.regs;
        small_store = s.small_store;
        small_given = s.small_given;
        small_answers = s.small_answers;
        callers = s.callers;
        out = s.out;
        small_out = s.small_out;
        runs = s.runs;
        going = s.going;
      } in
      by_step (op.Chn r file) n s.runs at has tt
      (ap (λ b. record {
        run = (if b then next (record (made_one m.run) { own = joined file (reg m.run r) m.run.own })
            else fails Chain (made_one m.run));
        world = m.world;
      })
      (ap (λ (o : Own). nat_lt (length o.chain) 64) s.own ∙ e)
      ∙ ap (λ y. record { run = next (record (made_one m.run) { own = joined file y m.run.own }); world = m.world }) is
      ∙ ap (λ o. record { run = next (record (made_one m.run) { own = joined file number o }); world = m.world }) s.own)
      (k n s' (ap (λ i. i + 1) at) record { regs = λ k. refl; loops = same_loops m.run.locals })
  chain_cases false file number r go c m a e is s at has k =
      faults (op.Chn r file) Chain s at has tt
      (ap (λ b. record {
        run = (if b then next (record (made_one m.run) { own = joined file (reg m.run r) m.run.own })
            else fails Chain (made_one m.run));
        world = m.world;
      })
      (ap (λ (o : Own). nat_lt (length o.chain) 64) s.own ∙ e))

  take_free : {c : Config} {m : Machine} {a : ℕ} (p : Placed) (file temp number d : ℕ) (rest : List Item) → d ≤ 12
      → temp < 24 → number < 2 ^ 32 → reg m.run 1 ≡ number → Same g [] c m → m.run.pc ≡ a
      → HasAt g.code a (take_code p.file (p.first + length p.file.fields) file temp)
      → At g c.block m.run.locals d rest (a + 1 + 1 + 1 + 1) → Follows g (joins_chain p file temp number rest c) m
  take_free {c = c} {m = m} {a = a} p file temp number d rest le lt small is s at has r =
      let ne12 : ◌≢◌ {A = ℕ} 1 2 = omega arith in
      chain_cases (nat_lt (length c.own.chain) 64) file number 1 _ c m a refl is s at has.0 (λ n1 s1 at1 q1.
      ldi s1 at1 has.1.0 (omega arith) (λ n2 s2 at2 q2.
      let is2 : reg n2.run 1 ≡ number = q2.others 1 ne12 ∙ q1.regs 1 ∙ is in
      stx (mark_cell p number) 1 s2 at2 has.1.1.0
      (ap (λ y. p.first + length p.file.fields + record_cells p.file * y) is2
      ∙ cell_is p (length p.file.fields) number) q2.is (omega arith) (λ n3 s3 at3 q3.
      stt number s3 at3 has.1.1.1.0 lt (q3.regs 1 ∙ is2) small (λ n4 s4 at4 q4.
      goes_on_at rest s4 at4 (at_kept le q4 (at_kept le q3 (at_gave le q2 (at_kept le q1 r))))))))

  -- the search of SEIZE
  free_search : (p : Placed) (file temp label a : ℕ) → p.file.size < 2 ^ 32
      → HasAt g.code a (seize_code (Some p) file temp label a) → Search g (mark_cell p) p.file
  free_search p file temp label a small has = record {
    head = a + 1 + 1;
    none = label;
    next = a + 1 + 1 + LOOK_LENGTH + 1;
    word = p.first + length p.file.fields;
    begin = (has.1.1.0, (has.1.1.1.0, (has.1.1.1.1.0, (has.1.1.1.1.1.0, tt))));
    again =
        let place : a + 1 + 1 + 1 + 1 + 1 + 1 + 1 ≡ a + 1 + 1 + LOOK_LENGTH + 1 = omega arith in
        subst (λ i. HasAt g.code i (again_code (a + 1 + 1))) place (has.1.1.1.1.1.1.1.0, (has.1.1.1.1.1.1.1.1.0, (has.1.1.1.1.1.1.1.1.1.0, tt)));
    cells = cell_is p (length p.file.fields);
    small = small;
  }

  free_looks : {P : Machine → Type 0} (p : Placed) (file temp label a value : ℕ) (small : p.file.size < 2 ^ 32)
      (has : HasAt g.code a (seize_code (Some p) file temp label a))
      → Looks g P (free_search p file temp label a small has) (λ mark. nat_eq mark 0) value (free_at a)
  unfolding free_search
  free_looks p file temp label a value small has c m zero s at is val some none =
      jz_zero s at has.1.1.1.1.1.1.0 is (λ n1 s1 at1 q1. some refl n1 s1 at1 record { regs = λ k lt. q1.regs k; loops = q1.loops })
  free_looks p file temp label a value small has c m (suc v) s at is val some none =
      let seven : a + 1 + 1 + 1 + 1 + 1 + 1 + 1 ≡ a + 1 + 1 + LOOK_LENGTH + 1 = omega arith in
      jz_other {v = v} s at has.1.1.1.1.1.1.0 is
      (λ n1 s1 at1 q1. none (eqb-suc-zero v) n1 s1 (at1 ∙ seven) record
      { regs = λ k lt. q1.regs k; loops = q1.loops })

  seize_sim : {c : Config} {m : Machine} {a : ℕ} (o : Option Placed) (file temp label d : ℕ) (rest : List Item) → Laid g
      → ((p : Placed) → o ≡ Some p → p.file.size < 2 ^ 32) → d ≤ 12 → temp < 24 → Same g [] c m → m.run.pc ≡ a
      → HasAt g.code a (seize_code o file temp (g.table.label c.block label) a)
      → At g c.block m.run.locals d rest (a + length (seize_code o file temp (g.table.label c.block label) a))
      → Follows g (seizes g.exchange o file temp label rest c) m
  unfolding free_search
  seize_sim {c = c} {m = m} {a = a} None file temp label d rest laid limit le lt s at has r = goes_on_at rest s at
      (subst (At g c.block m.run.locals d rest) (omega arith) r)
  seize_sim {c = c} {m = m} {a = a} (Some p) file temp label d rest laid limit le lt s at has r =
      let test : ℕ → Bool = λ mark. nat_eq mark 0 in
      let size = p.file.size in
      let to = g.table.label c.block label in
      let small = limit p refl in
      let q = free_search p file temp to a small has in
      let t = at_cell test (mark_cell p) c.world.store in
      let done = after_search test (mark_cell p) 0 size c in
      let none = nat_eq c.own.forlopp 0 in
      let found = on_record (mark_cell p) test size c (at_free g.exchange p file temp label rest) in
      let place : a + 1 + 1 + 1 + 1 + 1 + 1 + 1 + 1 + 1 + 1 ≡ free_at a = omega arith in
      subst (λ e. Follows g e m) (not_split none found (c_fails NoForlopp c))
      (check (not none) op.Ckf NoForlopp found s at has.0 tt
      (ap (λ (o : Own). record {
        run = checks (not (nat_eq o.forlopp 0)) NoForlopp (made_one m.run);
        world = m.world;
      }) s.own) (λ n1 s1 at1 q1.
      subst (λ e. Follows g e n1) (sym (on_record_is (mark_cell p) test size c (at_free g.exchange p file temp label rest)))
      (ldi s1 at1 has.1.0 (omega arith) (λ n2 s2 at2 q2.
      search_sim q test (reg n2.run 0) (free_at a) (free_looks p file temp to a (reg n2.run 0) small has) size 0 c n2 (omega arith) s2 at2 q2.is refl
      (λ j there within n3 s3 at3 is3 loops3.
      subst (λ o. Follows g (at_free g.exchange p file temp label rest o done) n3) (sym there)
      (take_free p file temp j d rest le lt (omega (arith, within, small)) is3 s3 at3
      (subst (λ i. HasAt g.code i (take_code p.file (p.first + length p.file.fields) file temp)) place
      has.1.1.1.1.1.1.1.1.1.1)
      (at_moves n3.run.locals le (loops_on n3.run.locals n2.run.locals m.run.locals loops3
      (loops_on n2.run.locals n1.run.locals m.run.locals q2.loops q1.loops))
      (subst (At g c.block m.run.locals d rest) (omega arith) r))))
      (λ there n3 s3 at3 loops3.
      subst (λ o. Follows g (at_free g.exchange p file temp label rest o done) n3) (sym there)
      (label_sim laid label s3 at3))))))

  pub seize : Laid g → (temp file label : ℕ) → Case g (Seize temp file label)
  seize laid temp file label c m p d a rest s at has fits r =
      let o = slice_get (files_of g.exchange) file in
      let cs = seize_code o file temp (g.table.label c.block label) (a + 1) in
      let len : a + length (op.Stmt p ∷ cs) ≡ a + 1 + length cs = omega arith in
      let le = few_loops fits in
      let limit : (k : Placed) → o ≡ Some k → k.file.size < 2 ^ 32 = λ k there. omega (arith, (placed_fits g.exchange file k laid.kept there).few) in
      count_sim (does g.exchange p (Seize temp file label) rest) s at has.0 (λ n1 s1 at1 q1.
      let r1 = subst (At g c.block n1.run.locals d rest) len (at_kept le q1 r) in
      seize_sim o file temp label d rest laid limit le (omega (arith, fits.fits.names.0, fits.limited.temporaries)) s1 at1 has.1 r1)
