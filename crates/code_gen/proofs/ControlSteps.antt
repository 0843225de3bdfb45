-- The code of jumps, choices and loops is appended.
use Rattle.std.proofs.Common.{◌≡◌, ℕ, ◌+◌, ◌<◌, ◌≤◌, Bool, true, false, List, [], ◌∷◌, ◌++◌, length}
use Rattle.std.proofs.Common.{drop, get_or, sym, ap, ◌∙◌, arith, append-nil, append_assoc}
use Rattle.std.proofs.Math.ListN.{drop_of_length-le}
use Rattle.plex_num.proofs.Lists.{opens}
use Rattle.machine_code.specs.declared.op.Op.{Op}
use Rattle.machine_code.specs.declared.op.Op.TheVariants as op
use Rattle.exchange_model.specs.declared.expr.Cond.{Cond}
use Rattle.expr_code.specs.Code.{cond_code}
use Rattle.stmt_code.specs.declared.lengths.TheConstants.{TURN_LENGTH, NEXT_LENGTH}
use Rattle.stmt_code.specs.StmtCode.{Places, past_code, takes_code, compare_code, turn, last}
use Rattle.stmt_code.specs.StmtCode.{turn_code, next_code, turns_code, bounds_code}
use Rattle.code_gen.specs.declared.control.Choice.{Choice}
use Rattle.code_gen.specs.Choices.{choice_codes}
use Rattle.code_gen.proofs.Parts.{two, three, four, six, part_more}

-- temporaries that get entry values

pub takes_more : (ts : List ℕ) (i k : ℕ) (t : ℕ) (now new all : List Op) → i < length ts → t ≡ get_or ts i t → k ≡ i
    → new ≡ now ++ (op.Lde 0 k ∷ op.Stt t 0 ∷ []) → now ++ takes_code i (drop i ts) ≡ all
    → new ++ takes_code (i + 1) (drop (i + 1) ts) ≡ all
takes_more ts i k t now new all lt is same e h =
    part_more now new (op.Lde 0 i ∷ op.Stt t 0 ∷ []) (takes_code (i + 1) (drop (i + 1) ts)) all (e ∙ ap (λ n. now ++ (op.Lde 0 n ∷ op.Stt t 0 ∷ [])) same)
    (sym (ap (λ l. now ++ takes_code i l) (opens ts i t lt is)) ∙ h)

pub takes_end : (ts : List ℕ) (i : ℕ) (now all : List Op) → length ts ≤ i → now ++ takes_code i (drop i ts) ≡ all → now ≡ all
takes_end ts i now all past h = sym (append-nil now) ∙ sym (ap (λ l. now ++ takes_code i l) (drop_of_length-le ts past)) ∙ h

pub enter_is : (p a past len : ℕ) (ts given : List ℕ) (takes old n1 new : List Op) → given ≡ ts
    → takes ≡ [] ++ takes_code 0 given → len ≡ length takes → past ≡ a + len + 2
    → n1 ≡ old ++ (op.Jmp past ∷ op.Stmt p ∷ []) → new ≡ n1 ++ takes
    → new ≡ old ++ (op.Jmp (a + 2 + length (takes_code 0 ts)) ∷ op.Stmt p ∷ takes_code 0 ts)
enter_is p a past len ts given takes old n1 new same made long there e1 e2 =
    let is : takes ≡ takes_code 0 ts = made ∙ ap (takes_code 0) same in
    let address : past ≡ a + 2 + length (takes_code 0 ts) = omega (arith, there, long, ap length is) in
    two old n1 new (op.Jmp (a + 2 + length (takes_code 0 ts)) ∷ op.Stmt p ∷ []) (takes_code 0 ts)
    (e1 ∙ ap (λ n. old ++ (op.Jmp n ∷ op.Stmt p ∷ [])) address) (e2 ∙ ap (λ l. n1 ++ l) is)

-- jumps

pub if_goto_is : (p a next len label there : ℕ) (c : Cond) (pl : Places) (test old n1 n2 new : List Op)
    → test ≡ cond_code c pl.site → len ≡ length test → next ≡ a + len + 3 → there ≡ pl.label label
    → n1 ≡ old ++ op.Stmt p ∷ [] → n2 ≡ n1 ++ test → new ≡ n2 ++ (op.Jz 0 next ∷ op.Jmp there ∷ [])
    → new ≡ old ++ op.Stmt p ∷ (cond_code c pl.site ++ op.Jz 0 (a + 1 + length (cond_code c pl.site) + 2) ∷ op.Jmp (pl.label label) ∷ [])
if_goto_is p a next len label there c pl test old n1 n2 new is long after to e1 e2 e3 =
    let code = cond_code c pl.site in
    let address : next ≡ a + 1 + length code + 2 = omega (arith, after, long, ap length is) in
    three old n1 n2 new (op.Stmt p ∷ []) code (op.Jz 0 (a + 1 + length code + 2) ∷ op.Jmp (pl.label label) ∷ []) e1
    (e2 ∙ ap (λ l. n1 ++ l) is) (e3 ∙ λ i. n2 ++ (op.Jz 0 (address i) ∷ op.Jmp (to i) ∷ []))

-- branches

pub past_some : (both : Bool) (end : ℕ) (old new : List Op) → both ≡ true → new ≡ old ++ op.Jmp end ∷ [] → new ≡ old ++ past_code both end
past_some both end old new is e = e ∙ sym (ap (λ b. old ++ past_code b end) is)

pub past_none : (both : Bool) (end : ℕ) (old : List Op) → both ≡ false → old ≡ old ++ past_code both end
past_none both end old is = sym (ap (λ b. old ++ past_code b end) is ∙ append-nil old)

-- a jump past the other list, or none
pub ruleset pasts = (past_some, past_none)

pub branches_are : (p no_at end len : ℕ) (both : Bool) (test first other old n1 n2 n3 n4 n5 new : List Op)
    → len ≡ length other → end ≡ no_at + len + 0 → n1 ≡ old ++ op.Stmt p ∷ [] → n2 ≡ n1 ++ test
    → n3 ≡ n2 ++ op.Jz 0 no_at ∷ [] → n4 ≡ n3 ++ first → n5 ≡ n4 ++ past_code both end → new ≡ n5 ++ other
    → new ≡ old ++ op.Stmt p ∷ (test ++ (op.Jz 0 no_at ∷ (first ++ (past_code both (no_at + length other) ++ other))))
branches_are p no_at end len both test first other old n1 n2 n3 n4 n5 new long after e1 e2 e3 e4 e5 e6 =
    let address : end ≡ no_at + length other = omega (arith, after, long) in
    six old n1 n2 n3 n4 n5 new (op.Stmt p ∷ []) test (op.Jz 0 no_at ∷ []) first (past_code both (no_at + length other))
    other e1 e2 e3 e4 (e5 ∙ ap (λ n. n4 ++ past_code both n) address) e6

-- choices

pub choice_is : (c : Choice) (end : ℕ) (old n1 n2 new : List Op) → n1 ≡ old ++ (compare_code c.number c.next)
    → n2 ≡ n1 ++ c.body → new ≡ n2 ++ op.Jmp end ∷ [] → new ≡ old ++ choice_codes (c ∷ []) end
choice_is c end old n1 n2 new e1 e2 e3 = three old n1 n2 new (compare_code c.number c.next) c.body (op.Jmp end ∷ []) e1 e2 e3

choices_split : (c : Choice) (cs : List Choice) (end : ℕ) → choice_codes (c ∷ cs) end ≡ choice_codes (c ∷ []) end ++ choice_codes cs end
choices_split c cs end = ap (λ l. compare_code c.number c.next ++ l) (sym (append_assoc c.body (op.Jmp end ∷ []) (choice_codes cs end)))

pub choices_more : (cs : List Choice) (i : ℕ) (c : Choice) (end : ℕ) (now new all : List Op) → i < length cs
    → c ≡ get_or cs i c → new ≡ now ++ choice_codes (c ∷ []) end → now ++ choice_codes (drop i cs) end ≡ all
    → new ++ choice_codes (drop (i + 1) cs) end ≡ all
choices_more cs i c end now new all lt is e h =
    let rest = drop (i + 1) cs in
    part_more now new (choice_codes (c ∷ []) end) (choice_codes rest end) all e
    (sym (ap (λ l. now ++ l) (ap (λ l. choice_codes l end) (opens cs i c lt is) ∙ choices_split c rest end)) ∙ h)

pub choices_end : (cs : List Choice) (i end : ℕ) (now all : List Op) → length cs ≤ i → now ++ choice_codes (drop i cs) end ≡ all → now ≡ all
choices_end cs i end now all past h = sym (append-nil now) ∙ sym (ap (λ l. now ++ choice_codes l end) (drop_of_length-le cs past)) ∙ h

-- loops

pub turns_are : (p t d head exit len turn_local last_local : ℕ) (body old n1 n2 new : List Op) → turn_local ≡ turn d
    → last_local ≡ turn_local + 1 → len ≡ length body → exit ≡ head + len + (TURN_LENGTH + NEXT_LENGTH)
    → n1 ≡ old ++ (op.Stmt p ∷ op.Stt t 0 ∷ []) → n2 ≡ n1 ++ body
    → new ≡ n2 ++ (op.Ldt 0 turn_local ∷ op.Ldt 1 last_local ∷ op.Gt 1 0 ∷ op.Jz 1 exit ∷ op.Add 0 1
    ∷ op.Stt turn_local 0 ∷ op.Jmp head ∷ []) → new ≡ old ++ turns_code p t d head body
turns_are p t d head exit len turn_local last_local body old n1 n2 new is_turn is_last long after e1 e2 e3 =
    let address : exit ≡ head + TURN_LENGTH + length body + NEXT_LENGTH = omega (arith, after, long) in
    let behind : last_local ≡ last d = omega (arith, is_turn, is_last) in
    three old n1 n2 new (turn_code p t) body (next_code d head (head + TURN_LENGTH + length body + NEXT_LENGTH)) e1 e2
    (e3 ∙ λ i. n2 ++ (op.Ldt 0 (is_turn i) ∷ op.Ldt 1 (behind i) ∷ op.Gt 1 0 ∷ op.Jz 1 (address i) ∷ op.Add 0 1 ∷ op.Stt (is_turn i) 0 ∷ op.Jmp head ∷ []))

pub bounds_are : (p d exit turn_local last_local : ℕ) (from upto old n1 n2 n3 new : List Op) → turn_local ≡ turn d
    → last_local ≡ turn_local + 1 → n1 ≡ old ++ op.Stmt p ∷ [] → n2 ≡ n1 ++ from → n3 ≡ n2 ++ upto
    → new ≡ n3 ++ (op.Stt turn_local 0 ∷ op.Stt last_local 1 ∷ op.Ge 1 0 ∷ op.Jz 1 exit ∷ [])
    → new ≡ old ++ op.Stmt p ∷ (from ++ (upto ++ bounds_code d exit))
bounds_are p d exit turn_local last_local from upto old n1 n2 n3 new is_turn is_last e1 e2 e3 e4 =
    let behind : last_local ≡ last d = omega (arith, is_turn, is_last) in
    four old n1 n2 n3 new (op.Stmt p ∷ []) from upto (bounds_code d exit) e1 e2 e3
    (e4 ∙ λ i. n3 ++ (op.Stt (is_turn i) 0 ∷ op.Stt (behind i) 1 ∷ op.Ge 1 0 ∷ op.Jz 1 exit ∷ []))

pub case_parts : (p next end len : ℕ) (list given : List Choice) (value other old n1 n2 n3 new : List Op)
    → len ≡ length other → end ≡ next + len + 0 → given ≡ list → n1 ≡ old ++ op.Stmt p ∷ [] → n2 ≡ n1 ++ value
    → n3 ≡ n2 ++ choice_codes given end → new ≡ n3 ++ other
    → new ≡ old ++ op.Stmt p ∷ (value ++ (choice_codes list (next + length other) ++ other))
case_parts p next end len list given value other old n1 n2 n3 new long after same e1 e2 e3 e4 =
    let address : end ≡ next + length other = omega (arith, after, long) in
    four old n1 n2 n3 new (op.Stmt p ∷ []) value (choice_codes list (next + length other)) other e1 e2 (e3 ∙ λ i. n2 ++ choice_codes (same i) (address i)) e4
