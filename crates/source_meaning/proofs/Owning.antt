-- Which records a job can come to hold: those of its chain at its start, and those that were free
-- then, of files that it may seize.
--
-- Over what is kept besides, so that whoever knows more of the files that are seized can say so.
use Rattle.std.proofs.Common.{◌≡◌, ◌⊎◌, inl, inr, ⊎_elim, ℕ, true, List, [], ◌∷◌, length, refl, sym}
use Rattle.std.proofs.Common.{ap, ◌∙◌, subst, slice_get, arith}
use Rattle.std.proofs.lemmas.Option.{same_Some}
use Rattle.std.specs.Prelude.{slice_index}
use Rattle.job_types.specs.declared.job.JobStart.{JobStart}
use Rattle.job_types.specs.declared.chain.Held.{Held}
use Rattle.job_types.specs.Chain.{holds}
use Rattle.exchange_model.specs.declared.exchange.Exchange.{Exchange}
use Rattle.exchange_model.specs.declared.stmt.StmtKind.TheOpen as stmt
use Rattle.exchange_model.specs.Cells.{Placed, mark_cell}
use Rattle.exchange_model.specs.Kept.{IsExchange}
use Rattle.source_meaning.specs.Config.{Item, Caller, Config, base_of, files_of}
use Rattle.source_meaning.specs.Changes.{ends, frees}
use Rattle.source_meaning.specs.Deeds.{Deed, Doing}
use Rattle.source_meaning.specs.Effects.{seized, Effect, Looks, PutsVariable, PutsField, Seizes}
use Rattle.source_meaning.specs.Effects.{Frees, Goes, Posts, Leave, Faults}
use Rattle.source_meaning.specs.Job.{begins, after_steps}
use Rattle.source_meaning.specs.Ranges.{IsInRange}
use Rattle.source_meaning.specs.Rests.{AreRests, DeedStands}
use Rattle.source_meaning.specs.Valid.{IsJob, StoreFits}
use Rattle.source_meaning.proofs.Ranged.{in_range_kept, start_ranges}
use Rattle.source_meaning.proofs.Ranging.{TurnsAfter}
use Rattle.source_meaning.proofs.Rests.{DeedRest, start_rests}
use Rattle.source_meaning.specs.Holdings.{AnyFile, HoldsFrom}
use Rattle.source_meaning.proofs.Chains.{record_is, holds_more, holds_before}
use Rattle.source_meaning.proofs.Fitting.{deed_fits_in}
use Rattle.source_meaning.proofs.Holding.{uses_own}
use Rattle.source_meaning.proofs.Keeping.{KeptWith, kept_both, steps_keep}
use Rattle.source_meaning.proofs.Marks.{HasMark, variable_put, field_put, mark_put, opened_other}
use Rattle.source_meaning.proofs.Touching.{pointer_within, pointer_own, field_of, forlopp_of}

module _ (x : Exchange) (kept : IsExchange x) (S : ℕ → Type 0) (chain : List Held) (store : List ℕ)
    (P : Config → Type 0) (D : ℕ → Deed → List Item → Type 0)
    (stands : (b : ℕ) (deed : Deed) (rest : List Item) → D b deed rest → DeedStands x b deed rest)
    (whole : (c : Config) → P c → length c.world.store ≡ x.cells)
    (may : (c : Config) (p temp file label : ℕ) (rest : List Item) → P c → D c.block (Doing p (stmt.Seize temp file label)) rest → S file) where
  abbrev Q : Config → Type 0
  Q c = HoldsFrom x S chain store c

  abbrev HadOrSeized : ℕ → ℕ → Placed → Type 0
  HadOrSeized file number p = (holds chain file number ≡ true) ⊎ (S file × (slice_index store (mark_cell p number) ≡ 0))

  abbrev HadOrFree : ℕ → ℕ → Placed → Type 0
  HadOrFree file number p = (holds chain file number ≡ true) ⊎ (slice_index store (mark_cell p number) ≡ 0)

  -- the same chain, and marks that stay
  same_marks : (c d : Config) → d.own.chain ≡ c.own.chain
      → ((file number : ℕ) (p : Placed) → HasMark x file number p
      → slice_index d.world.store (mark_cell p number) ≡ slice_index c.world.store (mark_cell p number)) → Q c → Q d
  same_marks c d chains marks q = record {
    held = λ file number p rec kind h. q.held file number p rec kind (subst (λ l. holds l file number ≡ true) chains h);
    free = λ file number p rec kind z. q.free file number p rec kind (sym (marks file number p (record { at = rec; kind = kind })) ∙ z);
  }

  seized_from : (c : Config) (f n : ℕ) (put : Placed) → HasMark x f n put → P c → S f
      → slice_index c.world.store (mark_cell put n) ≡ 0 → Q c → Q (seized put f n c)
  seized_from c f n put m pc allowed zero_is q = record {
    held = λ file number p rec kind h. ⊎_elim (λ old. q.held file number p rec kind old)
        (λ new. taken file number p (record { at = rec; kind = kind })
        (record_is file number (record { file = f; number = n }) new))
        (holds_more c.own.chain (record { file = f; number = n }) file number h);
    free = λ file number p rec kind z. mark_put x kept c.world.store f n 1 put m (whole c pc) file number p
        (record { at = rec; kind = kind }) (λ w. w ≡ 0 → HadOrFree file number p)
        (λ same_file same_number one. absurd (omega arith)) (λ old. q.free file number p rec kind old) z;
  }
    where
      itself : HadOrSeized f n put
      itself = ⊎_elim (λ had. inl had) (λ was. inr (allowed, was)) (q.free f n put m.at m.kind zero_is)

      taken : (file number : ℕ) (p : Placed) → HasMark x file number p → (f ≡ file) × (n ≡ number) → HadOrSeized file number p
      taken file number p o same =
          let placed : put ≡ p = same_Some put p (sym m.at.there ∙ ap (slice_get (files_of x)) same.0 ∙ o.at.there) in
          subst (HadOrSeized file number) placed (subst (λ k. HadOrSeized k number put) same.0 (subst (λ k. HadOrSeized f k put) same.1 itself))

  freed_from : (c : Config) (f n : ℕ) (put : Placed) → HasMark x f n put → P c → holds c.own.chain f n ≡ true → Q c → Q (frees f n put c)
  freed_from c f n put m pc mine q = record {
    held = λ file number p rec kind h. q.held file number p rec kind (holds_before c.own.chain f n file number h);
    free = λ file number p rec kind z. opened_other x kept f n put c.world m (whole c pc) file number p
        (record { at = rec; kind = kind }) (λ w. w ≡ 0 → HadOrFree file number p)
        (λ same_file same_number gone. ⊎_elim (λ had. inl had) (λ was. inr was.1)
        (q.held file number p rec kind (subst (λ k. holds c.own.chain k number ≡ true) same_file
        (subst (λ k. holds c.own.chain f k ≡ true) same_number mine))))
        (λ old. q.free file number p rec kind old) z;
  }

  effect_from : (deed : Deed) (rest : List Item) (c d : Config) → D c.block deed rest → P c → Q c → Effect x deed rest c d → Q d
  unfolding base_of
  effect_from deed rest c d at pc q (PutsVariable e p variable expr v is value fits) =
      let g = deed_fits_in x kept c.block p (stmt.SetVariable variable expr) rest
      (subst (λ (a : Deed). DeedStands x c.block a rest) is (stands c.block deed rest at)) in
      same_marks c d refl (λ file number placed m. variable_put x kept c.world.store c.block variable v g.block g.there
      g.fits.names (whole c pc) file number placed m) q
  effect_from deed rest c d at pc q (PutsField e p f field pointer expr v put is usable value fits) =
      let g = deed_fits_in x kept c.block p (stmt.SetField f field pointer expr) rest
      (subst (λ (a : Deed). DeedStands x c.block a rest) is (stands c.block deed rest at)) in
      let n = slice_index c.temps pointer in
      same_marks c d refl (λ file number placed m. field_put x kept c.world.store f n field v put
      (record { there = usable.there; within = pointer_within c.own.chain f put n usable.sound })
      (field_of x kept c.block g.block f field put g.fits.names.0 usable.there) (whole c pc) file number placed m) q
  effect_from deed rest c d at pc q (Seizes e p temp f label n put is record_of forlopp room zero_is) =
      let here : D c.block (Doing p (stmt.Seize temp f label)) rest = subst (λ (a : Deed). D c.block a rest) is at in
      let g = deed_fits_in x kept c.block p (stmt.Seize temp f label) rest (stands c.block (Doing p (stmt.Seize temp f label)) rest here) in
      let m : HasMark x f n put = record {
        at = record { there = record_of.there; within = record_of.within };
        kind = forlopp_of x kept c.block g.block f true put g.fits.names.1 record_of.there;
      } in
      seized_from c f n put m pc (may c p temp f label rest pc here) zero_is q
  effect_from deed rest c d at pc q (Frees e p temp f put is usable) =
      let g = deed_fits_in x kept c.block p (stmt.Free temp f) rest (subst (λ (a : Deed). DeedStands x c.block a rest) is (stands c.block deed rest at)) in
      let n = slice_index c.temps temp in
      let marked = forlopp_of x kept c.block g.block f true put g.fits.names.1 usable.there in
      let m : HasMark x f n put = record { at = record { there = usable.there; within = pointer_within c.own.chain f put n usable.sound }; kind = marked } in
      freed_from c f n put m pc (uses_own c.own.chain f put n marked (pointer_own c.own.chain f put n usable.sound)) q
  effect_from deed rest c d at pc q (Looks e loads each) = record { held = q.held; free = q.free }
  effect_from deed rest c d at pc q (Goes e todo temps on) = record { held = q.held; free = q.free }
  effect_from deed rest c d at pc q (Posts e to vs is room) = record { held = q.held; free = q.free }

  leave_from : (deed : Deed) (rest : List Item) (c d : Config) → Q c → Leave x deed rest c d → Q d
  leave_from deed rest c d q (Faults e f why) = record { held = q.held; free = q.free }
  leave_from deed rest c d q _ = record { held = q.held; free = q.free }

  ends_from : (ks : List Caller) (c : Config) → Q c → Q (ends ks c)
  ends_from [] c q = record { held = q.held; free = q.free }
  ends_from (k ∷ ks) c q = record { held = q.held; free = q.free }

  pub from_kept : KeptWith x P D Q (λ deed rest. Unit {0})
  from_kept = record {
    context = λ c i rest p q is. tt;
    counting = λ deed rest c at p q. record { held = q.held; free = q.free };
    effect = λ deed rest c d at more p q e. effect_from deed rest c d at p q e;
    leave = λ deed rest c d at more p q e. leave_from deed rest c d q e;
    ending = λ c q. ends_from c.callers c q;
    full = λ c q. record { held = q.held; free = q.free };
  }

-- over what is in range, with any file
pub steps_from : (x : Exchange) → IsExchange x → (n : ℕ) (start : JobStart) (store : List ℕ) → IsJob x start.job
    → StoreFits x store → HoldsFrom x AnyFile start.chain store (after_steps n x (begins x start store))
steps_from x kept n start store job fits =
    let more = from_kept x kept AnyFile start.chain store (λ c. AreRests x c × IsInRange x c)
    (λ b deed rest. DeedRest x b deed rest × TurnsAfter deed rest) (λ b deed rest at. at.0.0)
    (λ c h. h.1.store.whole) (λ c p temp file label rest h at. tt) in
    (steps_keep (kept_both (in_range_kept x kept) more) n (begins x start store) (
      (start_rests x start store, start_ranges x kept start store job fits),
      record
          { held = λ file number p rec kind h. inl h; free = λ file number p rec kind z. inr z },
    )).1
