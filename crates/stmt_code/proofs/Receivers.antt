-- The receiver of a signal: the block that is named, or the one whose reference is held.
use Rattle.std.proofs.Common.{◌≡◌, ℕ, zero, suc, ◌+◌, ◌<◌, ◌≤◌, Bool, true, false, List, [], ◌∷◌}
use Rattle.std.proofs.Common.{◌++◌, length, Option, Some, None, refl, sym, ap, ◌∙◌, subst, arith}
use Rattle.std.proofs.Common.{length-append, if◌then◌else◌}
use Rattle.std.specs.Prelude.{slice_get, nat_eq, nat_lt}
use Rattle.std.specs.List.{AllByRecursion}
use Rattle.std.specs.Option.{option_map_or}
use Rattle.std.proofs.lemmas.Bool.{le-ltb}
use Rattle.std.proofs.lemmas.Bool.Decides.{nat_tests}
use Rattle.job_types.specs.declared.fault.Fault.TheVariants.{Pointer}
use Rattle.machine_code.specs.declared.op.Op.{Op}
use Rattle.machine_code.specs.declared.op.Op.TheVariants as op
use Rattle.exchange_model.specs.declared.exchange.Exchange.{Exchange}
use Rattle.exchange_model.specs.declared.block.Block.{Block}
use Rattle.exchange_model.specs.declared.expr.Expr.{Expr}
use Rattle.exchange_model.specs.declared.stmt.Holder.{Holder}
use Rattle.exchange_model.specs.declared.stmt.Holder.TheVariants as holder
use Rattle.exchange_model.specs.declared.stmt.Receiver.{Receiver}
use Rattle.exchange_model.specs.declared.stmt.Receiver.TheVariants as receiver
use Rattle.job_types.specs.Own.{World, seen}
use Rattle.source_meaning.specs.Value.{Sight, holder_value}
use Rattle.source_meaning.specs.Config.{Item, Config, is_receiver, receiver_of, sight}
use Rattle.source_meaning.specs.Changes.{on_values, at_receiver, to_receiver}
use Rattle.machine_meaning.specs.Machine.{Machine, made_one, reg, checks}
use Rattle.expr_code.specs.Code.{Site}
use Rattle.expr_code.specs.Runs.{HasAt, site_of, Agrees, Computes}
use Rattle.expr_code.proofs.ExprRuns.{temporary_runs, variable_runs}
use Rattle.expr_code.proofs.Places.{has_front, has_back}
use Rattle.stmt_code.specs.declared.lengths.TheConstants.{COMPARE_LENGTH}
use Rattle.stmt_code.specs.StmtCode.{compare_code, values_code, holder_code, each_receiver}
use Rattle.stmt_code.specs.StmtCode.{look_first, receiver_code}
use Rattle.stmt_code.specs.Whole.{receivers_from}
use Rattle.stmt_code.proofs.Setting.{Setting, places}
use Rattle.stmt_code.proofs.At.{At, jumps, at_moves}
use Rattle.stmt_code.proofs.Same.{Same, Follows, faults}
use Rattle.stmt_code.proofs.Instr.{loops_on, jmp}
use Rattle.stmt_code.proofs.Compares.{Compared, compare_sim}
use Rattle.stmt_code.proofs.Values.{ExprIn, agrees, got_sim, values_sim}

-- ## Which block it is

-- that one of these blocks whose reference this is
abbrev pub named : List ℕ → ℕ → Option ℕ
named [] v = None
named (b ∷ bs) v = (if nat_eq (b + 1) v then Some b else named bs v)

-- no reference is 0
none_named : (bs : List ℕ) → named bs 0 ≡ None
none_named [] = refl
none_named (b ∷ bs) = let e : nat_eq (b + 1) 0 ≡ false = grind (arith, nat_tests) in ap (λ t. if t then Some b else named bs 0) e ∙ none_named bs

-- whether the first of some blocks is among them, and this reference is another's or its own
abbrev with_first : Bool → ℕ → List ℕ → List ℕ
with_first t k bs = (if t then k ∷ bs else bs)

first_other : (t : Bool) (k n : ℕ) (bs : List ℕ) → nat_eq (k + 1) (suc n) ≡ false → named (with_first t k bs) (suc n) ≡ named bs (suc n)
first_other true k n bs e = ap (λ u. if u then Some k else named bs (suc n)) e
first_other false k n bs e = refl

first_own : (t : Bool) (k n : ℕ) (bs : List ℕ) → nat_eq (k + 1) (suc n) ≡ true → k ≡ n → named bs (suc n) ≡ None
    → named (with_first t k bs) (suc n) ≡ (if t then Some n else None)
first_own true k n bs e same none = ap (λ u. if u then Some k else named bs (suc n)) e ∙ ap Some same
first_own false k n bs e same none = none

-- a block before the first one is none of them
none_before : (signal : ℕ) (ks : List Block) (k n : ℕ) → n < k → named (receivers_from k signal ks) (suc n) ≡ None
none_before signal [] k n lt = refl
none_before signal (b ∷ ks) k n lt =
    let e : nat_eq (k + 1) (suc n) ≡ false = grind (arith, nat_tests) in
    first_other (is_receiver signal b) k n (receivers_from (k + 1) signal ks) e ∙ none_before signal ks (k + 1) n (omega arith)

-- the block at a place among them, where it receives the signal
named_at : (signal : ℕ) (ks : List Block) (k i n : ℕ) → n ≡ k + i
    → named (receivers_from k signal ks) (suc n)
    ≡ (if option_map_or (is_receiver signal) (slice_get ks i) false then Some n else None)
named_at signal [] k i n is = refl
named_at signal (b ∷ ks) k zero n is =
    let e : nat_eq (k + 1) (suc n) ≡ true = grind (arith, nat_tests) in
    first_own (is_receiver signal b) k n (receivers_from (k + 1) signal ks) e (omega arith) (none_before signal ks (k + 1) n (omega arith))
named_at signal (b ∷ ks) k (suc i) n is =
    let e : nat_eq (k + 1) (suc n) ≡ false = grind (arith, nat_tests) in
    first_other (is_receiver signal b) k n (receivers_from (k + 1) signal ks) e ∙ named_at signal ks (k + 1) i n (omega arith)

named_is : (x : Exchange) (signal v : ℕ) → named (receivers_from 0 signal x.blocks) v ≡ receiver_of x signal v
named_is x signal zero = none_named (receivers_from 0 signal x.blocks)
named_is x signal (suc n) = named_at signal x.blocks 0 n n (omega arith)

-- a temporary that holds a reference is among the first
abbrev pub IsHeld : Option Receiver → Type 0
IsHeld (Some (receiver.Held (holder.Temporary t))) = t < 24
IsHeld _ = Unit {0}

-- ## What the machine does

holder_length : (h : Holder) (site : Site) → length (holder_code h site) ≡ 1
holder_length (holder.Temporary t) site = refl
holder_length (holder.Variable v) site = refl

holder_runs : (code : List Op) (s : Sight) (h : Holder) (m : Machine) (pc : ℕ) → IsHeld (Some (receiver.Held h))
    → Agrees m s → m.run.pc ≡ pc → HasAt code pc (holder_code h (site_of s))
    → Computes code m (pc + 1) 0 50 (holder_value h s)
holder_runs code s (holder.Temporary t) m pc lt a at has = temporary_runs code s t lt m pc 0 a at (omega arith) has
holder_runs code s (holder.Variable v) m pc lt a at has = variable_runs code s v m pc 0 a at (omega arith) has

module _ {g : Setting} where
  -- the reference in register 0 is compared with that of each block
  each_sim : {vs : List ℕ} {c : Config} {m : Machine} {a : ℕ} (bs : List ℕ) (arm : ℕ → List Op) (v : ℕ)
      (go : ℕ → Config → Config) → Same g vs c m → m.run.pc ≡ a → reg m.run 0 ≡ v
      → HasAt g.code a (each_receiver bs arm a)
      → ((b : ℕ) (at : ℕ) (n : Machine) → named bs v ≡ Some b → Same g vs c n → n.run.pc ≡ at
      → HasAt g.code at (arm b ++ op.Jmp (a + length (each_receiver bs arm a)) ∷ []) → Compared m n
      → Follows g (go b c) n)
      → Follows g (at_receiver (named bs v) c go) m
  each_sim {m = m} [] arm v go s at is has k =
      let past : nat_lt (reg m.run 0) 0 ≡ false = le-ltb (reg m.run 0) 0 (omega arith) in
      faults (op.Ckp 0 0) Pointer s at has.0 tt (ap (λ t. record { run = checks t Pointer (made_one m.run); world = m.world }) past)
  each_sim {vs = vs} {c = c} {m = m} {a = a} (b ∷ bs) arm v go s at is has k =
      let body = arm b in
      let body_at = a + COMPARE_LENGTH in
      let next = body_at + length body + 1 in
      let more = each_receiver bs arm next in
      let end = next + length more in
      let tail = body ++ (op.Jmp end ∷ more) in
      let h = has_back g.code a (compare_code (b + 1) next) tail has in
      let h' = has_back g.code body_at body (op.Jmp end ∷ more) h in
      let len : end ≡ a + length (each_receiver (b ∷ bs) arm a) = omega (arith, length-append body (op.Jmp end ∷ more)) in
      let found : Bool → Option ℕ = λ t. if t then Some b else named bs v in
      compare_sim (b + 1) v s at is (has_front g.code a (compare_code (b + 1) next) tail has)
      (λ e n s1 at1 q.
      subst (λ t. Follows g (at_receiver (found t) c go) n) (sym e)
      (each_sim {m = n} {a = next} bs arm v go s1 at1 (q.value ∙ is) h'.1 (λ d here n2 there s2 at2 has2 q2.
      k d here n2 (ap found e ∙ there) s2 at2 (subst (λ i. HasAt g.code here (arm d ++ op.Jmp i ∷ [])) len has2) record
      { value = q2.value ∙ q.value; loops = loops_on n2.run.locals n.run.locals m.run.locals q2.loops q.loops })))
      (λ e n s1 at1 q.
      subst (λ t. Follows g (at_receiver (found t) c go) n) (sym e)
      (k b body_at n (ap found e) s1 at1 (subst (λ i. HasAt g.code body_at (body ++ op.Jmp i ∷ [])) len (jump_after body_at body (op.Jmp end) more h)) q))
    where
      jump_after : (at : ℕ) (xs : List Op) (j : Op) (ys : List Op) → HasAt g.code at (xs ++ (j ∷ ys)) → HasAt g.code at (xs ++ j ∷ [])
      jump_after at [] j ys h = (h.0, tt)
      jump_after at (x ∷ xs) j ys h = (h.0, jump_after (at + 1) xs j ys h.1)

  -- values go to the receiver by its code
  pub receiver_sim : {c : Config} {m : Machine} {a d : ℕ} (to : Option Receiver) (signal : ℕ) (values : List Expr)
      (arm : ℕ → List Op) (go : ℕ → List ℕ → Config → Config) (rest : List Item) → IsHeld to → d ≤ 12
      → AllByRecursion (ExprIn g.exchange c.block) values → length values ≤ 8 → Same g [] c m → m.run.pc ≡ a
      → HasAt g.code a (receiver_code to ((places g c.block).receivers signal) (places g c.block).site values arm a)
      → At g c.block m.run.locals d rest (a
      + length (receiver_code to ((places g c.block).receivers signal) (places g c.block).site values arm a))
      → ((b : ℕ) (at : ℕ) (w : World) (us : List ℕ) (n : Machine) → length us ≡ length values
      → Same g us (record c { world = w }) n → n.run.pc ≡ at → HasAt g.code at (arm b)
      → At g c.block n.run.locals d rest (at + length (arm b)) → Follows g (go b us (record c { world = w })) n)
      → Follows g (to_receiver g.exchange signal to c (λ b e. on_values g.exchange values [] e (go b))) m
  receiver_sim {c = c} {m = m} {a = a} {d = d} None signal values arm go rest held le fits few s at has r k =
      let joins = values_code values (places g c.block).site 0 in
      let len : a + length (joins ++ arm 0) ≡ a + length joins + length (arm 0) = omega (arith, length-append joins (arm 0)) in
      values_sim 0 values [] (go 0) (omega arith) fits (omega (arith, few)) s at (has_front g.code a joins (arm 0) has) (λ n w us long s1 at1 low loops.
      k 0 (a + length joins) w us n (omega (arith, long)) s1 at1 (has_back g.code a joins (arm 0) has)
      (at_moves n.run.locals le loops (subst (At g c.block m.run.locals d rest) len r)))
  receiver_sim {c = c} {m = m} {a = a} {d = d} (Some (receiver.Block b)) signal values arm go rest held le fits few s at has r k =
      let joins = values_code values (places g c.block).site 0 in
      let len : a + length (joins ++ arm b) ≡ a + length joins + length (arm b) = omega (arith, length-append joins (arm b)) in
      values_sim 0 values [] (go b) (omega arith) fits (omega (arith, few)) s at (has_front g.code a joins (arm b) has) (λ n w us long s1 at1 low loops.
      k b (a + length joins) w us n (omega (arith, long)) s1 at1 (has_back g.code a joins (arm b) has)
      (at_moves n.run.locals le loops (subst (At g c.block m.run.locals d rest) len r)))
  receiver_sim {c = c} {m = m} {a = a} {d = d} (Some (receiver.Held h)) signal [] arm go rest held le fits few s at has r k =
      let pl = places g c.block in
      let bs = pl.receivers signal in
      let load = holder_code h pl.site in
      let arms_at = a + 1 + 0 + 0 in
      let arms = each_receiver bs arm arms_at in
      let one : length load ≡ 1 = holder_length h pl.site in
      let there : a + length load ≡ arms_at = omega (arith, one) in
      let next : a + 1 ≡ arms_at = omega arith in
      let h1 = subst (λ i. HasAt g.code i arms) there (has_back g.code a load arms has) in
      let end = arms_at + length arms in
      let len : a + length (load ++ arms) ≡ end = omega (arith, one, length-append load arms) in
      let r0 = subst (At g c.block m.run.locals d rest) len r in
      let then_goes : ℕ → Config → Config = λ b e. go b [] e in
      got_sim c (λ v e. at_receiver (receiver_of g.exchange signal v) e then_goes) (omega arith) s
      (holder_runs g.code (sight g.exchange c) h m a held (agrees s) at (has_front g.code a load arms has))
      (λ n1 v loads s1 at1 q1.
      subst (λ o. Follows g (at_receiver o (record c { world = seen loads c.world }) then_goes) n1) (named_is g.exchange signal v)
      (each_sim bs arm v then_goes s1 (at1 ∙ next) q1.is h1 (λ b here n2 is s2 at2 has2 q2.
      let body = arm b in
      let after = has_back g.code here body (op.Jmp end ∷ []) has2 in
      k b here (seen loads c.world) [] n2 refl s2 at2 (has_front g.code here body (op.Jmp end ∷ []) has2)
      (jumps end after.0 (at_moves n2.run.locals le (loops_on n2.run.locals n1.run.locals m.run.locals q2.loops q1.loops) r0)))))
  receiver_sim {c = c} {m = m} {a = a} {d = d} (Some (receiver.Held h)) signal (first ∷ others) arm go rest held le fits few s at has r k =
      let values : List Expr = first ∷ others in
      let pl = places g c.block in
      let bs = pl.receivers signal in
      let load = holder_code h pl.site in
      let look = look_first bs values (a + 1) in
      let joins = values_code values pl.site 1 in
      let values_at = a + 1 + length look in
      let arms_at = a + 1 + length look + length joins in
      let arms = each_receiver bs arm arms_at in
      let one : length load ≡ 1 = holder_length h pl.site in
      let there : a + length load ≡ a + 1 = omega (arith, one) in
      let h1 = subst (λ i. HasAt g.code i (look ++ (joins ++ arms))) there (has_back g.code a load (look ++ (joins ++ arms)) has) in
      let h2 = has_back g.code (a + 1) look (joins ++ arms) h1 in
      let h3 = has_back g.code values_at joins arms h2 in
      let end = arms_at + length arms in
      let len : a + length (load ++ (look ++ (joins ++ arms)))
      ≡ end = omega (
        arith,
        one,
        length-append load (look ++ (joins ++ arms)),
        length-append look (joins ++ arms),
        length-append joins arms,
      ) in
      let r0 = subst (At g c.block m.run.locals d rest) len r in
      let then_values : ℕ → Config → Config = λ b e. on_values g.exchange values [] e (go b) in
      got_sim c (λ v e. at_receiver (receiver_of g.exchange signal v) e then_values) (omega arith) s
      (holder_runs g.code (sight g.exchange c) h m a held (agrees s) at
      (has_front g.code a load (look ++ (joins ++ arms)) has)) (λ n1 v loads s1 at1 q1.
      subst (λ o. Follows g (at_receiver o (record c { world = seen loads c.world }) then_values) n1) (named_is g.exchange signal v)
      (each_sim bs (λ b. []) v then_values s1 at1 q1.is (has_front g.code (a + 1) look (joins ++ arms) h1) (λ b here n2 is s2 at2 has2 q2.
      jmp s2 at2 has2.0 (λ n3 s3 at3 q3.
      values_sim 1 values [] (go b) (omega arith) fits (omega (arith, few)) s3 at3 (has_front g.code values_at joins arms h2) (λ n4 w us long s4 at4 low loops.
      let kept : reg n4.run 0 ≡ v = low 0 (omega arith) ∙ q3.regs 0 ∙ q2.value ∙ q1.is in
      let last : ℕ → Config → Config = λ b e. go b us e in
      let loops4 = loops_on n4.run.locals n3.run.locals m.run.locals loops
      (loops_on n3.run.locals n2.run.locals m.run.locals q3.loops
      (loops_on n2.run.locals n1.run.locals m.run.locals q2.loops q1.loops)) in
      subst (λ o. Follows g (at_receiver o (record c { world = w }) last) n4) is
      (each_sim bs arm v last s4 at4 kept h3 (λ e here2 n5 is2 s5 at5 has5 q5.
      let body = arm e in
      let after = has_back g.code here2 body (op.Jmp end ∷ []) has5 in
      k e here2 w us n5 (omega (arith, long)) s5 at5 (has_front g.code here2 body (op.Jmp end ∷ []) has5)
      (jumps end after.0 (at_moves n5.run.locals le (loops_on n5.run.locals n4.run.locals m.run.locals q5.loops loops4) r0)))))))))
