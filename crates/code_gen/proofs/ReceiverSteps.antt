-- The code of receivers is appended.
use Rattle.std.proofs.Common.{◌≡◌, ℕ, ◌+◌, ◌<◌, ◌≤◌, Bool, true, false, List, [], ◌∷◌, ◌++◌, length}
use Rattle.std.proofs.Common.{drop, get_or, Some, slice_get, refl, sym, ap, ◌∙◌, subst, arith}
use Rattle.std.proofs.Common.{append-nil, append_assoc, length-append, if◌then◌else◌}
use Rattle.std.proofs.Math.ListN.{drop_of_length-le}
use Rattle.std.proofs.lemmas.Option.{slice_get_read}
use Rattle.std.specs.Option.{option_map_or}
use Rattle.plex_num.proofs.Lists.{opens}
use Rattle.exchange_model.specs.declared.exchange.Exchange.{Exchange}
use Rattle.machine_code.specs.declared.op.Op.{Op}
use Rattle.machine_code.specs.declared.op.Op.TheVariants as op
use Rattle.exchange_model.specs.declared.block.Block.{Block}
use Rattle.exchange_model.specs.declared.expr.Expr.{Expr}
use Rattle.exchange_model.specs.declared.stmt.Holder.{Holder}
use Rattle.exchange_model.specs.declared.stmt.Holder.TheVariants.{Temporary, Variable}
use Rattle.exchange_model.specs.declared.stmt.Receiver.TheVariants.{Held}
use Rattle.source_meaning.specs.Config.{is_receiver}
use Rattle.expr_code.specs.Code.{Site}
use Rattle.stmt_code.specs.declared.lengths.TheConstants.{COMPARE_LENGTH}
use Rattle.stmt_code.specs.StmtCode.{Places, compare_code, values_code, holder_code, each_receiver}
use Rattle.stmt_code.specs.StmtCode.{look_first, receiver_code}
use Rattle.stmt_code.specs.Whole.{receivers_from}
use Rattle.code_gen.specs.declared.control.Choice.{Choice}
use Rattle.code_gen.specs.declared.receivers.Arm.{Arm}
use Rattle.code_gen.specs.declared.receivers.Arm.TheVariants.{Look}
use Rattle.code_gen.specs.declared.setting.Setting.{Setting}
use Rattle.code_gen.specs.Choices.{choice_codes}
use Rattle.code_gen.specs.Receivers.{arm_code, arms, behind_arms, receiver_at}
use Rattle.code_gen.specs.Settings.{IsHolderIn, IsVariableIn}
use Rattle.code_gen.proofs.Parts.{two, four}

-- holders

pub variable_held : (s : Setting) (h : Holder) (v : ℕ) → IsHolderIn s h → h ≡ Variable v → IsVariableIn s v
variable_held s h v in_s is =
    let fits = subst (λ (g : Holder). IsHolderIn s g) is in_s in
    record { setting = fits.setting; block = fits.block; there = fits.there; within = fits.fits }

pub variable_is : (h : Holder) (v word : ℕ) (site : Site) (old new : List Op) → h ≡ Variable v → word ≡ site.first + v
    → new ≡ old ++ op.Ldw 0 word ∷ [] → new ≡ old ++ holder_code h site
variable_is h v word site old new is at e = e ∙ ap (λ n. old ++ op.Ldw 0 n ∷ []) at ∙ sym (ap (λ g. old ++ holder_code g site) is)

pub temporary_is : (h : Holder) (t : ℕ) (site : Site) (old new : List Op) → h ≡ Temporary t → new ≡ old ++ op.Ldt 0 t ∷ [] → new ≡ old ++ holder_code h site
temporary_is h t site old new is e = e ∙ sym (ap (λ g. old ++ holder_code g site) is)

-- one receiver

pub look_is : (arm : Arm) (pl : Places) (b : ℕ) (old : List Op) → arm ≡ Look → old ≡ old ++ arm_code arm pl b
look_is arm pl b old is = sym (ap (λ m. old ++ arm_code m pl b) is ∙ append-nil old)

-- all receivers

-- these receivers are left, from an address on
pub record ArmsLeft (arm : ℕ → List Op) (now : List Choice) (a : ℕ) (bs : List ℕ) (all : List Choice) (behind : ℕ) : Type 0 where
  pub list : now ++ arms bs arm a ≡ all
  pub next : behind_arms bs arm a ≡ behind

pub arms_begin : (bs given : List ℕ) (arm : ℕ → List Op) (a : ℕ) (now : List Choice) → now ≡ [] → given ≡ bs
    → ArmsLeft arm now a given (arms bs arm a) (behind_arms bs arm a)
arms_begin bs given arm a now none same = record {
  list = λ i. none i ++ arms (same i) arm a;
  next = ap (λ cs. behind_arms cs arm a) same;
}

choices_append : (now : List Choice) (one : Choice) (rest : List Choice) → (now ++ one ∷ []) ++ rest ≡ now ++ one ∷ rest
choices_append [] one rest = refl
choices_append (c ∷ cs) one rest = ap (λ l. c ∷ l) (choices_append cs one rest)

pub arms_more : (bs : List ℕ) (i b number len next after : ℕ) (arm : ℕ → List Op) (body : List Op)
    (now new all : List Choice) (behind : ℕ) → i < length bs → b ≡ get_or bs i b → number ≡ b + 1 → body ≡ arm b
    → len ≡ length body → after ≡ next + len + (COMPARE_LENGTH + 1)
    → new ≡ now ++ record { number = number; next = after; body = body } ∷ []
    → ArmsLeft arm now next (drop i bs) all behind → ArmsLeft arm new after (drop (i + 1) bs) all behind
arms_more bs i b number len next after arm body now new all behind lt is at made long there e h =
    let rest = drop (i + 1) bs in
    let address : after ≡ next + COMPARE_LENGTH + length (arm b) + 1 = omega (arith, there, long, ap length made) in
    let there = next + COMPARE_LENGTH + length (arm b) + 1 in
    let one : Choice = record { number = b + 1; next = there; body = arm b } in
    let opened = opens bs i b lt is in
    record {
      list = (λ j. new ++ arms rest arm (address j))
          ∙ ap (λ l. l ++ arms rest arm there)
          (e ∙ λ j. now ++ record { number = at j; next = address j; body = made j } ∷ [])
          ∙ choices_append now one (arms rest arm there) ∙ sym (ap (λ cs. now ++ arms cs arm next) opened) ∙ h.list;
      next = ap (behind_arms rest arm) address ∙ sym (ap (λ cs. behind_arms cs arm next) opened) ∙ h.next;
    }

pub arms_made : (bs : List ℕ) (i : ℕ) (arm : ℕ → List Op) (next : ℕ) (now all : List Choice) (behind : ℕ)
    → length bs ≤ i → ArmsLeft arm now next (drop i bs) all behind → now ≡ all
arms_made bs i arm next now all behind past h = none_left now ∙ sym (ap (λ cs. now ++ arms cs arm next) (drop_of_length-le bs past)) ∙ h.list
  where
    none_left : (l : List Choice) → l ≡ l ++ []
    none_left l = sym (append-nil l)

pub arms_behind : (bs : List ℕ) (i : ℕ) (arm : ℕ → List Op) (next : ℕ) (now all : List Choice) (behind : ℕ)
    → length bs ≤ i → ArmsLeft arm now next (drop i bs) all behind → next ≡ behind
arms_behind bs i arm next now all behind past h = sym (ap (λ cs. behind_arms cs arm next) (drop_of_length-le bs past)) ∙ h.next

-- the receivers reach as far as the check behind them
reaches : (bs : List ℕ) (arm : ℕ → List Op) (a : ℕ) → a + length (each_receiver bs arm a) ≡ behind_arms bs arm a + 1
reaches [] arm a = refl
reaches (b ∷ bs) arm a =
    let next = a + COMPARE_LENGTH + length (arm b) + 1 in
    let rest = each_receiver bs arm next in
    omega (arith, length-append (arm b) (op.Jmp (next + length rest) ∷ rest), reaches bs arm next)

arms_are : (bs : List ℕ) (arm : ℕ → List Op) (a : ℕ) → each_receiver bs arm a ≡ choice_codes (arms bs arm a) (behind_arms bs arm a + 1) ++ op.Ckp 0 0 ∷ []
arms_are [] arm a = refl
arms_are (b ∷ bs) arm a =
    let next = a + COMPARE_LENGTH + length (arm b) + 1 in
    let end = behind_arms bs arm next + 1 in
    let made = choice_codes (arms bs arm next) end in
    (λ i. compare_code (b + 1) next ++ (arm b ++ (op.Jmp (reaches bs arm next i) ∷ arms_are bs arm next i)))
    ∙ ap (λ l. compare_code (b + 1) next ++ l) (sym (append_assoc (arm b) (op.Jmp end ∷ made) (op.Ckp 0 0 ∷ [])))

pub arms_end : (list given : List Choice) (next end : ℕ) (old n1 new : List Op) → given ≡ list → end ≡ next + 1
    → n1 ≡ old ++ choice_codes given end → new ≡ n1 ++ op.Ckp 0 0 ∷ []
    → new ≡ old ++ (choice_codes list (next + 1) ++ op.Ckp 0 0 ∷ [])
arms_end list given next end old n1 new same at e1 e2 = two old n1 new (choice_codes list (next + 1)) (op.Ckp 0 0 ∷ [])
    (e1 ∙ λ i. old ++ choice_codes (same i) (at i)) e2

pub each_is : (bs : List ℕ) (arm : ℕ → List Op) (a next : ℕ) (list : List Choice) (old new : List Op)
    → list ≡ arms bs arm a → next ≡ behind_arms bs arm a
    → new ≡ old ++ (choice_codes list (next + 1) ++ op.Ckp 0 0 ∷ []) → new ≡ old ++ each_receiver bs arm a
each_is bs arm a next list old new is at e = e ∙ (λ i. old ++ (choice_codes (is i) (at i + 1) ++ op.Ckp 0 0 ∷ []))
    ∙ sym (ap (λ l. old ++ l) (arms_are bs arm a))

-- values and a receiver

pub direct_is : (b : ℕ) (es : List Expr) (site : Site) (arm : ℕ → List Op) (old n1 new : List Op)
    → n1 ≡ old ++ values_code es site 0 → new ≡ n1 ++ arm b → new ≡ old ++ (values_code es site 0 ++ arm b)
direct_is b es site arm old n1 new e1 e2 = two old n1 new (values_code es site 0) (arm b) e1 e2

pub first_none : (bs : List ℕ) (es : List Expr) (a : ℕ) (old : List Op) → length es ≤ 0 → old ≡ old ++ look_first bs es a
first_none bs [] a old le = sym (append-nil old)
first_none bs (e ∷ es) a old le = absurd (omega (arith, le))

pub first_some : (bs : List ℕ) (es : List Expr) (e : Expr) (a : ℕ) (pl : Places) (old new : List Op)
    → slice_get es 0 ≡ Some e → new ≡ old ++ each_receiver bs (arm_code Look pl) a → new ≡ old ++ look_first bs es a
first_some bs [] e a pl old new is made = cc
first_some bs (d ∷ es) e a pl old new is made = made

pub held_is : (h : Holder) (a look_at before now arms_at : ℕ) (bs given : List ℕ) (es : List Expr) (site : Site)
    (arm : ℕ → List Op) (old n1 n2 n3 new : List Op) → given ≡ bs → look_at ≡ a + 1 → n1 ≡ old ++ holder_code h site
    → before ≡ length n1 → n2 ≡ n1 ++ look_first given es look_at → n3 ≡ n2 ++ values_code es site 1 → now ≡ length n3
    → arms_at + before ≡ look_at + now → new ≡ n3 ++ each_receiver given arm arms_at
    → new ≡ old ++ receiver_code (Some (Held h)) bs site es arm a
held_is h a look_at before now arms_at bs given es site arm old n1 n2 n3 new same at e1 was e2 e3 long sum e4 =
    let look = look_first bs es (a + 1) in
    let joins = values_code es site 1 in
    let e2' : n2 ≡ n1 ++ look = e2 ∙ λ i. n1 ++ look_first (same i) es (at i) in
    let there : arms_at ≡ a + 1 + length look + length joins = omega
    (arith, sum, was, long, at, ap length e3, length-append n2 joins, ap length e2', length-append n1 look) in
    four old n1 n2 n3 new (holder_code h site) look joins (each_receiver bs arm (a + 1 + length look + length joins)) e1
    e2' e3 (e4 ∙ λ i. n3 ++ each_receiver (same i) arm (there i))

-- the blocks that receive a signal

pub receivers_begin : (bs given : List Block) (signal : ℕ) (now : List ℕ) → now ≡ [] → given ≡ bs
    → now ++ receivers_from 0 signal given ≡ receivers_from 0 signal bs
receivers_begin bs given signal now none same = λ i. none i ++ receivers_from 0 signal (same i)

pub one_receiver : (x : Exchange) (signal n : ℕ) (t : Bool) (old new : List ℕ)
    → t ≡ option_map_or (is_receiver signal) (slice_get x.blocks n) false → t ≡ true → new ≡ old ++ n ∷ []
    → new ≡ old ++ receiver_at x signal n
one_receiver x signal n t old new at is e = e ∙ sym (ap (λ u. old ++ (if u then n ∷ [] else [])) (sym at ∙ is))

pub no_receiver : (x : Exchange) (signal n : ℕ) (t : Bool) (old : List ℕ)
    → t ≡ option_map_or (is_receiver signal) (slice_get x.blocks n) false → t ≡ false
    → old ≡ old ++ receiver_at x signal n
no_receiver x signal n t old at is = sym (append-nil old) ∙ sym (ap (λ u. old ++ (if u then n ∷ [] else [])) (sym at ∙ is))

receivers_split : (t : Bool) (n : ℕ) (rest : List ℕ) → (if t then n ∷ rest else rest) ≡ (if t then n ∷ [] else []) ++ rest
receivers_split true n rest = refl
receivers_split false n rest = refl

pub receivers_more : (x : Exchange) (bs : List Block) (i : ℕ) (b : Block) (signal : ℕ) (now new all : List ℕ)
    → bs ≡ x.blocks → i < length bs → b ≡ get_or bs i b → new ≡ now ++ receiver_at x signal i
    → now ++ receivers_from i signal (drop i bs) ≡ all → new ++ receivers_from (i + 1) signal (drop (i + 1) bs) ≡ all
receivers_more x bs i b signal now new all from lt is e h =
    let rest = receivers_from (i + 1) signal (drop (i + 1) bs) in
    let there : slice_get x.blocks i ≡ Some b = ap (λ (ks : List Block). slice_get ks i) (sym from) ∙ slice_get_read bs (length bs) i b refl lt is in
    let one = (if is_receiver signal b then i ∷ [] else []) in
    let e' : new ≡ now ++ one = e ∙ ap (λ o. now ++ (if option_map_or (is_receiver signal) o false then i ∷ [] else [])) there in
    ap (λ l. l ++ rest) e' ∙ append_assoc now one rest
    ∙ sym (ap (λ l. now ++ l) (ap (receivers_from i signal) (opens bs i b lt is) ∙ receivers_split (is_receiver signal b) i rest)) ∙ h

pub receivers_end : (bs : List Block) (i signal : ℕ) (now all : List ℕ) → length bs ≤ i → now ++ receivers_from i signal (drop i bs) ≡ all → now ≡ all
receivers_end bs i signal now all past h = sym (append-nil now) ∙ sym (ap (λ l. now ++ receivers_from i signal l) (drop_of_length-le bs past)) ∙ h

-- a loop over receivers
pub ruleset each_arm = (arms_begin, arms_more, arms_made, arms_behind)
