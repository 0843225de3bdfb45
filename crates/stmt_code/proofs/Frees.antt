-- FREE: a record gets its INIT values, is marked free, and leaves the chain.
use Rattle.std.proofs.Common.{◌≡◌, ◌≢◌, ℕ, ◌+◌, ◌*◌, ◌^◌, ◌<◌, ◌≤◌, List, [], ◌∷◌, ◌++◌, length}
use Rattle.std.proofs.Common.{Option, Some, None, refl, ap, ◌∙◌, subst, arith, length-append}
use Rattle.std.proofs.Common.{pow_mono}
use Rattle.std.specs.Prelude.{slice_get, slice_index}
use Rattle.std.specs.List.{AllByRecursion}
use Rattle.machine_code.specs.declared.op.Op.TheVariants as op
use Rattle.exchange_model.specs.declared.block.Variable.{Variable}
use Rattle.exchange_model.specs.declared.stmt.StmtKind.TheOpen.{Free}
use Rattle.exchange_model.specs.Cells.{Placed, field_cell, mark_cell, record_cells}
use Rattle.exchange_model.specs.Kept.{VariableFits, FieldFits, FileFits}
use Rattle.job_types.specs.Own.{Own, writes}
use Rattle.source_meaning.specs.Config.{Item, Config, files_of}
use Rattle.source_meaning.specs.Step.{does}
use Rattle.source_meaning.specs.Changes.{goes, opens_fields, at_record, frees}
use Rattle.job_types.specs.Chain.{without}
use Rattle.machine_meaning.specs.Machine.{Machine, made_one, reg, next}
use Rattle.expr_code.specs.Code.{pointer_code}
use Rattle.expr_code.specs.Runs.{HasOp, HasAt}
use Rattle.expr_code.proofs.Places.{has_front, has_back}
use Rattle.stmt_code.specs.RecordCode.{inits_code, free_code}
use Rattle.stmt_code.proofs.Setting.{Setting, few_loops}
use Rattle.stmt_code.proofs.At.{SameLoops, At, at_moves}
use Rattle.stmt_code.proofs.Same.{Same, Comes, Follows, by_step}
use Rattle.stmt_code.proofs.Instr.{Kept, same_loops, loops_on, ldi, ldt, stx}
use Rattle.stmt_code.proofs.Values.{Laid, count_sim}
use Rattle.stmt_code.proofs.Records.{placed_fits}
use Rattle.stmt_code.proofs.Pointers.{cell_is, pointer_sim}
use Rattle.stmt_code.proofs.Kind.{Case, todo_same, at_kept, at_gave, goes_on_at}

init_small : (v : Variable) → VariableFits v → v.init < 2 ^ 32
init_small v h = let most : 2 ^ v.width ≤ 2 ^ 32 = pow_mono h.few in omega (arith, h.init, most)

abbrev leaves : ℕ → ℕ → Own → Own
leaves file number o = record o { chain = without o.chain file number }

module _ {g : Setting} {P : Machine → Type 0} where
  -- a record leaves the chain
  unc : {c : Config} {m : Machine} {a r file : ℕ} (number : ℕ) → reg m.run r ≡ number → Same g [] c m → m.run.pc ≡ a → HasOp g.code a (op.Unc r file)
      → ((n : Machine) → Same g [] (record c { own = leaves file number c.own }) n → n.run.pc ≡ a + 1 → Kept m n → Comes g P n) → Comes g P m
  unc {c = c} {m = m} {r = r} {file = file} number is s at has k =
      let n : Machine = record { run = next (record (made_one m.run) { own = leaves file number c.own }); world = m.world } in
      let s' : Same g [] (record c { own = leaves file number c.own }) n = record {
        own = refl;
        world = s.world;
        temps = s.temps;
        regs = s.regs;
        small_store = s.small_store;
        small_given = s.small_given;
        small_answers = s.small_answers;
        callers = s.callers;
        out = s.out;
        small_out = s.small_out;
        runs = s.runs;
        going = s.going;
      } in
      by_step (op.Unc r file) n s.runs at has tt
      (ap (λ y. record { run = next (record (made_one m.run) { own = leaves file y m.run.own }); world = m.world }) is
      ∙ ap (λ o. record { run = next (record (made_one m.run) { own = leaves file number o }); world = m.world }) s.own)
      (k n s' (ap (λ i. i + 1) at) record { regs = λ k. refl; loops = same_loops m.run.locals })

  -- the fields of a record get their INIT values
  inits_sim : {c : Config} {m : Machine} {a : ℕ} (p : Placed) (number field : ℕ) (fs : List Variable)
      → AllByRecursion FieldFits fs → reg m.run 0 ≡ number → Same g [] c m → m.run.pc ≡ a
      → HasAt g.code a (inits_code p field fs)
      → ((n : Machine) → Same g [] (record c { world = opens_fields p number field fs c.world }) n
      → n.run.pc ≡ a + length (inits_code p field fs) → reg n.run 0 ≡ number
      → SameLoops 12 n.run.locals m.run.locals → Comes g P n) → Comes g P m
  inits_sim {m = m} p number field [] fits is s at has k = k m s (omega (arith, at)) is (same_loops m.run.locals)
  inits_sim {c = c} {m = m} {a = a} p number field (v ∷ fs) fits is s at has k =
      let ne : ◌≢◌ {A = ℕ} 0 1 = omega arith in
      let cell = field_cell p number field in
      ldi s at has.0 (omega arith) (λ n1 s1 at1 q1.
      let is1 : reg n1.run 0 ≡ number = q1.others 0 ne ∙ is in
      stx cell v.init s1 at1 has.1.0 (ap (λ y. p.first + field + record_cells p.file * y) is1 ∙ cell_is p field number)
      q1.is (init_small v fits.0.variable) (λ n2 s2 at2 q2.
      inits_sim {c = record c { world = writes cell v.init c.world }} {m = n2} {a = a + 1 + 1} p number (field + 1) fs
      fits.1 (q2.regs 0 ∙ is1) s2 at2 has.1.1 (λ n3 s3 at3 is3 loops.
      k n3 s3 (omega (arith, at3)) is3 (loops_on n3.run.locals n2.run.locals m.run.locals loops
      (loops_on n2.run.locals n1.run.locals m.run.locals q2.loops q1.loops)))))

module _ {g : Setting} where
  free_sim : {c : Config} {m : Machine} {a : ℕ} (o : Option Placed) (file temp d : ℕ) (rest : List Item)
      → ((p : Placed) → o ≡ Some p → FileFits p.file) → d ≤ 12 → temp < 24 → Same g [] c m → m.run.pc ≡ a
      → HasAt g.code a (free_code o file temp)
      → At g c.block m.run.locals d rest (a + length (free_code o file temp))
      → Follows g (at_record o file (slice_index c.temps temp) (goes rest c)
      (frees file (slice_index c.temps temp))) m
  free_sim {c = c} {m = m} {a = a} None file temp d rest limit le lt s at has r = goes_on_at rest s at
      (subst (At g c.block m.run.locals d rest) (omega arith) r)
  free_sim {c = c} {m = m} {a = a} (Some p) file temp d rest limit le lt s at has r =
      let number = slice_index c.temps temp in
      let look = pointer_code p file 0 in
      let inits = inits_code p 0 p.file.fields in
      let tail = op.Ldi 1 0 ∷ op.Stx (p.first + length p.file.fields) (record_cells p.file) 0 1 ∷ op.Unc 0 file ∷ [] in
      let h1 = has_back g.code (a + 1) look (inits ++ tail) has.1 in
      let h2 = has_back g.code (a + 1 + length look) inits tail h1 in
      let len : a + length (free_code (Some p) file temp) ≡ a + 1 + length look + length inits + 1 + 1 + 1 =
      omega (arith, length-append look (inits ++ tail), length-append inits tail) in
      let r0 = subst (At g c.block m.run.locals d rest) len r in
      let ne : ◌≢◌ {A = ℕ} 0 1 = omega arith in
      ldt (todo_same rest s) at has.0 (omega arith) (λ n1 s1 at1 q1.
      let is1 : reg n1.run 0 ≡ number = q1.is ∙ s.temps.same temp lt in
      pointer_sim p file number 0 (frees file number p) is1 s1 at1 (has_front g.code (a + 1) look (inits ++ tail) has.1) (λ n2 s2 at2 q2.
      inits_sim p number 0 p.file.fields (limit p refl).fields (q2.regs 0 ∙ is1) s2 at2
      (has_front g.code (a + 1 + length look) inits tail h1) (λ n3 s3 at3 is3 loops3.
      let r3 = at_moves n3.run.locals le loops3 (at_kept le q2 (at_gave le q1 r0)) in
      ldi s3 at3 h2.0 (omega arith) (λ n4 s4 at4 q4.
      let is4 : reg n4.run 0 ≡ number = q4.others 0 ne ∙ is3 in
      stx (mark_cell p number) 0 s4 at4 h2.1.0
      (ap (λ y. p.first + length p.file.fields + record_cells p.file * y) is4
      ∙ cell_is p (length p.file.fields) number) q4.is (omega arith) (λ n5 s5 at5 q5.
      unc number (q5.regs 0 ∙ is4) s5 at5 h2.1.1.0 (λ n6 s6 at6 q6.
      goes_on_at rest s6 at6 (at_kept le q6 (at_kept le q5 (at_gave le q4 r3)))))))))

  pub free : Laid g → (temp file : ℕ) → Case g (Free temp file)
  free laid temp file c m p d a rest s at has fits r =
      let o = slice_get (files_of g.exchange) file in
      let cs = free_code o file temp in
      let len : a + length (op.Stmt p ∷ cs) ≡ a + 1 + length cs = omega arith in
      let le = few_loops fits in
      count_sim (does g.exchange p (Free temp file) rest) s at has.0 (λ n1 s1 at1 q1.
      let r1 = subst (At g c.block n1.run.locals d rest) len (at_kept le q1 r) in
      free_sim o file temp d rest (λ k there. placed_fits g.exchange file k laid.kept there) le
      (omega (arith, fits.fits.names.0, fits.limited.temporaries)) s1 at1 has.1 r1)
