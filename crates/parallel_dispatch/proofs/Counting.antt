-- Each instruction is counted once, and so are those in a list of events.
use Rattle.std.proofs.Common.{◌≡◌, ℕ, zero, suc, ◌+◌, ◌%◌, ◌^◌, Bool, true, false, if◌then◌else◌}
use Rattle.std.proofs.Common.{List, [], ◌∷◌, ◌++◌, refl, sym, ap, ◌∙◌, arith}
use Rattle.std.proofs.Math.Nat.{mod-add-mod}
use Rattle.job_types.specs.Truth.{at_zero}
use Rattle.machine_code.specs.declared.op.Op.{Op}
use Rattle.machine_code.specs.declared.op.Op.TheVariants.{Stmt, Ldi, Ldt, Stt, Lde, Lda, Add, Sub}
use Rattle.machine_code.specs.declared.op.Op.TheVariants.{Mul, Div, Rem, Eq, Ne, Lt, Le, Gt, Ge}
use Rattle.machine_code.specs.declared.op.Op.TheVariants.{And, Or, Jmp, Jz, Ldw, Stw, Ckw, Ckp, Own}
use Rattle.machine_code.specs.declared.op.Op.TheVariants.{Ldx, Stx, Ckf, Chn, Unc, Arg, Snd, Dir}
use Rattle.machine_code.specs.declared.op.Op.TheVariants.{Call, Ret, Trf, End}
use Rattle.machine_meaning.specs.declared.frame.Frame.{Frame}
use Rattle.machine_meaning.specs.Machine.{Machine, ends, loaded, machine_step, made_one, reach}
use Rattle.machine_meaning.specs.Machine.{returns, row}
use Rattle.machine_meaning.specs.Private.{Private}
use Rattle.interleave_core.specs.declared.event.CoreEvent.{CoreEvent}
use Rattle.interleave_core.specs.declared.event.CoreEvent.TheVariants.{Issue, Step, Retire}
use Rattle.parallel_dispatch.specs.Turning.{so_many_steps, steps_in, turn_of}

-- ## An instruction

either : (t : Bool) (a b : Private) (n : ℕ) → a.made ≡ n → b.made ≡ n → (if t then a else b).made ≡ n
either true a b n one other = one
either false a b n one other = other

zero_or : (v : ℕ) (a b : Private) (n : ℕ) → a.made ≡ n → b.made ≡ n → (at_zero v a b).made ≡ n
zero_or zero a b n one other = one
zero_or (suc v) a b n one other = other

returns_made : (fs : List Frame) (answer : ℕ) (p : Private) → (returns fs answer p).made ≡ p.made
returns_made [] answer p = refl
returns_made (f ∷ fs) answer p = either _ _ _ p.made refl refl

ends_made : (fs : List Frame) (p : Private) → (ends fs p).made ≡ p.made
ends_made [] p = refl
ends_made (f ∷ fs) p = refl

-- the effect of an instruction does not change the count
row_made : (op : Op) (v : ℕ) (p : Private) → (row op v p).made ≡ p.made
row_made (Stmt point) v p = either _ _ _ p.made refl refl
row_made (Ldi r n) v p = refl
row_made (Ldt r i) v p = refl
row_made (Stt i r) v p = refl
row_made (Lde r k) v p = refl
row_made (Lda r k) v p = refl
row_made (Add r s) v p = refl
row_made (Sub r s) v p = refl
row_made (Mul r s) v p = refl
row_made (Div r s) v p = zero_or _ _ _ p.made refl refl
row_made (Rem r s) v p = zero_or _ _ _ p.made refl refl
row_made (Eq r s) v p = refl
row_made (Ne r s) v p = refl
row_made (Lt r s) v p = refl
row_made (Le r s) v p = refl
row_made (Gt r s) v p = refl
row_made (Ge r s) v p = refl
row_made (And r s) v p = refl
row_made (Or r s) v p = refl
row_made (Jmp a) v p = refl
row_made (Jz r a) v p = zero_or _ _ _ p.made refl refl
row_made (Ldw r w) v p = refl
row_made (Stw w r) v p = refl
row_made (Ckw r d) v p = either _ _ _ p.made refl refl
row_made (Ckp r n) v p = either _ _ _ p.made refl refl
row_made (Own r f) v p = either _ _ _ p.made refl refl
row_made (Ldx r w n s) v p = refl
row_made (Stx w n s r) v p = refl
row_made Ckf v p = either _ _ _ p.made refl refl
row_made (Chn r f) v p = either _ _ _ p.made refl refl
row_made (Unc r f) v p = refl
row_made (Arg r) v p = refl
row_made (Snd q x l) v p = either _ _ _ p.made refl refl
row_made (Dir a) v p = refl
row_made (Call a answer) v p = either _ _ _ p.made refl refl
row_made (Ret answer) v p = returns_made p.frames answer p
row_made (Trf a n) v p = refl
row_made End v p = ends_made p.frames p

-- a step counts one instruction
pub step_made : (op : Op) (m : Machine) (n : ℕ) → m.run.made ≡ n % 2 ^ 64 → (machine_step op m).run.made ≡ (n + 1) % 2 ^ 64
step_made op m n is = row_made op (loaded (reach op m.run) m.world.store) (made_one m.run) ∙ ap (λ k. (k + 1) % 2 ^ 64) is ∙ mod-add-mod n (2 ^ 64) 1

-- ## Events

none_and : (n : ℕ) → n ≡ 0 + n
none_and n = omega arith

pub steps_append : (es fs : List CoreEvent) → steps_in (es ++ fs) ≡ steps_in es + steps_in fs
steps_append [] fs = none_and (steps_in fs)
steps_append (Step job ∷ es) fs = (let rest = steps_append es fs in omega (arith, rest))
steps_append (Issue ∷ es) fs = steps_append es fs
steps_append (Retire ∷ es) fs = steps_append es fs

steps_so_many : (n job : ℕ) → steps_in (so_many_steps n job) ≡ n
steps_so_many zero job = refl
steps_so_many (suc n) job = ap suc (steps_so_many n job)

pub steps_turn : (n job : ℕ) → steps_in (turn_of n job) ≡ n
steps_turn n job = (let all : steps_in (turn_of n job) ≡ steps_in (so_many_steps n job)
    + 0 = steps_append (so_many_steps n job) (Retire ∷ []) in let steps = steps_so_many n job in omega
    (arith, all, steps))

-- the counts of two lists, each modulo 2^64, add up to that of both
pub sum_made : (es fs : List CoreEvent) (steps made : ℕ) → steps ≡ steps_in es % 2 ^ 64 → made ≡ steps_in fs % 2 ^ 64
    → (steps + made) % 2 ^ 64 ≡ steps_in (es ++ fs) % 2 ^ 64
sum_made es fs steps made one other =
    let a = steps_in es in
    let b = steps_in fs in
    let turned : a + b % 2 ^ 64 ≡ b % 2 ^ 64 + a = omega arith in
    let back : b + a ≡ a + b = omega arith in
    (λ i. (one i + other i) % 2 ^ 64)
    ∙ mod-add-mod a (2 ^ 64) (b % 2 ^ 64)
    ∙ ap (λ n. n % 2 ^ 64) turned
    ∙ mod-add-mod b (2 ^ 64) a
    ∙ ap (λ n. n % 2 ^ 64) (back ∙ sym (steps_append es fs))
