-- Whether a value fits a width.
use Rattle.std.proofs.Common.{◌≡◌, ℕ, ◌+◌, ◌^◌, ◌<◌, ◌≤◌, Bool, true, false, List, [], ◌∷◌, length}
use Rattle.std.proofs.Common.{refl, sym, ap, subst, arith, pow_mono, if◌then◌else◌}
use Rattle.std.specs.Prelude.{nat_lt}
use Rattle.std.proofs.lemmas.Bool.{lt-ltb, ltb-false}
use Rattle.job_types.specs.declared.fault.Fault.TheVariants.{Range}
use Rattle.machine_code.specs.declared.op.Op.TheVariants as op
use Rattle.source_meaning.specs.Config.{Config}
use Rattle.source_meaning.specs.Changes.{fails as c_fails}
use Rattle.machine_meaning.specs.Machine.{Machine, reg, made_one, checks}
use Rattle.expr_code.specs.Runs.{HasAt}
use Rattle.stmt_code.specs.StmtCode.{range_code}
use Rattle.stmt_code.proofs.Setting.{Setting}
use Rattle.stmt_code.proofs.Same.{Same, Follows}
use Rattle.stmt_code.proofs.Instr.{Kept, same_loops, check}

-- a value of 32 bits fits a width that is no less
fits_wide : (v width : ℕ) → v < 2 ^ 32 → nat_lt width 32 ≡ false → nat_lt v (2 ^ width) ≡ true
fits_wide v width small e =
    let most : 2 ^ 32 ≤ 2 ^ width = pow_mono (ltb-false width 32 e) in
    lt-ltb v (2 ^ width) (omega (arith, small, most))

module _ {g : Setting} {vs : List ℕ} {c : Config} {m : Machine} {a : ℕ} where
  range_cases : (narrow : Bool) (r width v : ℕ) (go : Config) → nat_lt width 32 ≡ narrow → reg m.run r ≡ v → v < 2 ^ 32
      → Same g vs c m → m.run.pc ≡ a → HasAt g.code a (if narrow then op.Ckw r width ∷ [] else [])
      → ((n : Machine) → Same g vs c n → n.run.pc ≡ a + length (if narrow then op.Ckw r width ∷ [] else []) → Kept m n → Follows g go n)
      → Follows g (if nat_lt v (2 ^ width) then go else c_fails Range c) m
  range_cases true r width v go e is small s at has k =
      check (nat_lt v (2 ^ width)) (op.Ckw r width) Range go s at has.0 tt
      (ap (λ y. record { run = checks (nat_lt y (2 ^ width)) Range (made_one m.run); world = m.world }) is) k
  range_cases false r width v go e is small s at has k =
      subst (λ b. Follows g (if b then go else c_fails Range c) m) (sym (fits_wide v width small e))
      (k m s (omega (arith, at)) record { regs = λ k. refl; loops = same_loops m.run.locals })

  -- a value in a register that does not fit ends the job by a fault, and else the run goes on
  -- behind
  pub range_sim : (r width v : ℕ) (go : Config) → reg m.run r ≡ v → v < 2 ^ 32 → Same g vs c m → m.run.pc ≡ a → HasAt g.code a (range_code r width)
      → ((n : Machine) → Same g vs c n → n.run.pc ≡ a + length (range_code r width) → Kept m n → Follows g go n)
      → Follows g (if nat_lt v (2 ^ width) then go else c_fails Range c) m
  range_sim r width v go is small s at has k = range_cases (nat_lt width 32) r width v go refl is small s at has k
