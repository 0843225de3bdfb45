-- The code of lists of statements, and of choices, is appended.
use Rattle.std.proofs.Common.{◌≡◌, ◌≢◌, ℕ, zero, suc, ◌+◌, ◌<◌, ◌≤◌, Bool, List, [], ◌∷◌, ◌++◌}
use Rattle.std.proofs.Common.{length, map, drop, get_or, refl, sym, ap, ◌∙◌, subst, arith}
use Rattle.std.proofs.Common.{append-nil, append_assoc, add-one, length-append}
use Rattle.std.specs.Prelude.{not, nat_eq}
use Rattle.std.proofs.lemmas.Bool.{ne_eqb}
use Rattle.std.proofs.Math.ListN.{drop_of_length-le}
use Rattle.plex_num.proofs.Lists.{opens}
use Rattle.machine_code.specs.declared.op.Op.{Op}
use Rattle.machine_code.specs.declared.op.Op.TheVariants as op
use Rattle.exchange_model.specs.declared.expr.Expr.{Expr}
use Rattle.exchange_model.specs.declared.expr.Cond.{Cond}
use Rattle.exchange_model.specs.declared.stmt.Stmt.{Stmt}
use Rattle.exchange_model.specs.declared.stmt.When.{When, out-When}
use Rattle.exchange_model.specs.declared.stmt.StmtKind.{StmtKind, StmtKind-F, out-StmtKind}
use Rattle.exchange_model.specs.declared.stmt.StmtKind.TheOpen as layer
use Rattle.expr_code.specs.Code.{expr_code, cond_code}
use Rattle.stmt_code.specs.declared.lengths.TheConstants.{COMPARE_LENGTH, TURN_LENGTH, NEXT_LENGTH}
use Rattle.stmt_code.specs.declared.lengths.TheConstants.{BOUNDS_LENGTH}
use Rattle.stmt_code.specs.StmtCode.{Choice as Source, Places, codes, compare_code, choices_code}
use Rattle.stmt_code.specs.StmtCode.{next_code, has_any, past_code, turns_code, bounds_code, opened}
use Rattle.stmt_code.specs.StmtCode.{kind_code, stmt_code, when_code, kind_code-out, stmt_code-kind}
use Rattle.stmt_code.specs.StmtCode.{when_code-out}
use Rattle.stmt_code.proofs.Setting.{first_in, others_in, yes_in, no_in, body_in, otherwise_in}
use Rattle.stmt_code.proofs.Setting.{choices_in}
use Rattle.code_gen.specs.declared.control.Choice.{Choice}
use Rattle.code_gen.specs.declared.setting.Setting.{Setting}
use Rattle.code_gen.specs.Choices.{choice_codes, chosen, behind_choices}
use Rattle.code_gen.specs.Settings.{AreIn, AreChoicesIn, IsIn}
use Rattle.code_gen.proofs.Parts.{two, part_more}

-- lists

pub list_begin : (ss given : List Stmt) (pl : Places) (d a : ℕ) (now : List Op) → now ≡ [] → given ≡ ss
    → now ++ codes (map stmt_code given) pl d a ≡ codes (map stmt_code ss) pl d a
list_begin ss given pl d a now none same = λ i. none i ++ codes (map stmt_code (same i)) pl d a

pub stmt_is : (s : Stmt) (pl : Places) (d a : ℕ) → stmt_code s pl d a ≡ kind_code s.kind pl s.point d a
stmt_is s pl d a = ap (λ f. f pl d a) (stmt_code-kind s)

pub list_opens : (ss : List Stmt) (i : ℕ) (s : Stmt) (pl : Places) (d a : ℕ) → i < length ss → s ≡ get_or ss i s
    → codes (map stmt_code (drop i ss)) pl d a ≡ kind_code s.kind pl s.point d a
    ++ codes (map stmt_code (drop (i + 1) ss)) pl d (a + length (kind_code s.kind pl s.point d a))
list_opens ss i s pl d a lt is =
    ap (λ rest. codes (map stmt_code rest) pl d a) (opens ss i s lt is)
    ∙ ap (λ c. c ++ codes (map stmt_code (drop (i + 1) ss)) pl d (a + length c)) (stmt_is s pl d a)

pub list_more : (ss : List Stmt) (i : ℕ) (s : Stmt) (pl : Places) (d next after before len : ℕ) (now new all : List Op)
    → i < length ss → s ≡ get_or ss i s → before ≡ length now → new ≡ now ++ kind_code s.kind pl s.point d next
    → len ≡ length new → after + before ≡ next + len → now ++ codes (map stmt_code (drop i ss)) pl d next ≡ all
    → new ++ codes (map stmt_code (drop (i + 1) ss)) pl d after ≡ all
list_more ss i s pl d next after before len now new all lt is was e long sum h =
    let c = kind_code s.kind pl s.point d next in
    let rest = map stmt_code (drop (i + 1) ss) in
    let address : after ≡ next + length c = omega (arith, sum, was, long, ap length e, length-append now c) in
    ap (λ n. new ++ codes rest pl d n) address
    ∙ part_more now new c (codes rest pl d (next + length c)) all e (sym (ap (λ l. now ++ l) (list_opens ss i s pl d next lt is)) ∙ h)

pub list_end : (ss : List Stmt) (i : ℕ) (pl : Places) (d next : ℕ) (now all : List Op) → length ss ≤ i
    → now ++ codes (map stmt_code (drop i ss)) pl d next ≡ all → now ≡ all
list_end ss i pl d next now all past h = sym (append-nil now) ∙ sym (ap (λ rest. now ++ codes (map stmt_code rest) pl d next) (drop_of_length-le ss past)) ∙ h

at_place : (s : Setting) (d : ℕ) (ss : List Stmt) (i : ℕ) (one : Stmt) → AreIn s d ss → i < length ss → one ≡ get_or ss i one → IsIn s d (out-StmtKind one.kind)
at_place s d [] i one h lt is = absurd (omega arith)
at_place s d (x ∷ ss) zero one h lt is = subst (λ (y : Stmt). IsIn s d (out-StmtKind y.kind)) (sym is)
    (record { setting = h.setting; inside = first_in x ss h.inside })
at_place s d (x ∷ ss) (suc i) one h lt is = at_place s d ss i one (record { setting = h.setting; inside = others_in x ss h.inside }) (omega arith) is

pub item_in : (s : Setting) (d : ℕ) (ss given : List Stmt) (i : ℕ) (one : Stmt) → AreIn s d ss → given ≡ ss
    → i < length given → one ≡ get_or given i one → IsIn s d (out-StmtKind one.kind)
item_in s d ss given i one h same lt is = at_place s d given i one (subst (AreIn s d) (sym same) h) lt is

-- choices

pub record ChoicesLeft (pl : Places) (d : ℕ) (now : List Choice) (a : ℕ) (ws : List When) (all : List Choice) (behind : ℕ) : Type 0 where
  pub list : now ++ chosen (map when_code ws) pl d a ≡ all
  pub next : behind_choices (map when_code ws) pl d a ≡ behind

pub choices_begin : (ws given : List When) (pl : Places) (d a : ℕ) (now : List Choice) → now ≡ [] → given ≡ ws
    → ChoicesLeft pl d now a given (chosen (map when_code ws) pl d a) (behind_choices (map when_code ws) pl d a)
choices_begin ws given pl d a now none same = record {
  list = λ i. none i ++ chosen (map when_code (same i)) pl d a;
  next = ap (λ us. behind_choices (map when_code us) pl d a) same;
}

choices_open : (ws : List When) (i : ℕ) (w : When) → i < length ws → w ≡ get_or ws i w
    → map when_code (drop i ws) ≡ record { number = (out-When w).number; body = map stmt_code (out-When w).body }
    ∷ map when_code (drop (i + 1) ws)
choices_open ws i w lt is = ap (map when_code) (opens ws i w lt is) ∙ ap (λ c. c ∷ map when_code (drop (i + 1) ws)) (when_code-out w)

pub choices_more : (ws : List When) (i : ℕ) (w : When) (pl : Places) (d next body_at len after : ℕ) (body : List Op)
    (now new all : List Choice) (behind : ℕ) → i < length ws → w ≡ get_or ws i w → body_at ≡ next + COMPARE_LENGTH
    → body ≡ codes (map stmt_code (out-When w).body) pl d body_at → len ≡ length body → after ≡ body_at + len + 1
    → new ≡ now ++ record { number = (out-When w).number; next = after; body = body } ∷ []
    → ChoicesLeft pl d now next (drop i ws) all behind → ChoicesLeft pl d new after (drop (i + 1) ws) all behind
choices_more ws i w pl d next body_at len after body now new all behind lt is at made long there e h =
    let rest = map when_code (drop (i + 1) ws) in
    let code : body ≡ codes (map stmt_code (out-When w).body) pl d (next + COMPARE_LENGTH) = made ∙ ap (codes (map stmt_code (out-When w).body) pl d) at in
    let c = codes (map stmt_code (out-When w).body) pl d (next + COMPARE_LENGTH) in
    let address : after ≡ next + COMPARE_LENGTH + length c + 1 = omega (arith, there, at, long, ap length code) in
    let one : Choice = record { number = (out-When w).number; next = next + COMPARE_LENGTH + length c + 1; body = c } in
    let opened_ws = choices_open ws i w lt is in
    record {
      list = (λ j. new ++ chosen rest pl d (address j))
          ∙ ap (λ l. l ++ chosen rest pl d (next + COMPARE_LENGTH + length c + 1))
          (e ∙ λ j. now ++ record { number = (out-When w).number; next = address j; body = code j } ∷ [])
          ∙ append_all now one (chosen rest pl d (next + COMPARE_LENGTH + length c + 1)) ∙ sym (ap (λ us. now ++ chosen us pl d next) opened_ws) ∙ h.list;
      next = ap (behind_choices rest pl d) address ∙ sym (ap (λ us. behind_choices us pl d next) opened_ws) ∙ h.next;
    }
  where
    append_all : (now : List Choice) (one : Choice) (rest : List Choice) → (now ++ one ∷ []) ++ rest ≡ now ++ one ∷ rest
    append_all [] one rest = refl
    append_all (x ∷ now) one rest = ap (λ l. x ∷ l) (append_all now one rest)

append_none : (xs : List Choice) → xs ++ [] ≡ xs
append_none [] = refl
append_none (x ∷ xs) = ap (λ l. x ∷ l) (append_none xs)

pub choices_end : (ws : List When) (i : ℕ) (pl : Places) (d next : ℕ) (now all : List Choice) (behind : ℕ)
    → length ws ≤ i → ChoicesLeft pl d now next (drop i ws) all behind → now ≡ all
choices_end ws i pl d next now all behind past h = sym (append_none now)
    ∙ sym (ap (λ us. now ++ chosen (map when_code us) pl d next) (drop_of_length-le ws past)) ∙ h.list

pub choices_behind : (ws : List When) (i : ℕ) (pl : Places) (d next : ℕ) (now all : List Choice) (behind : ℕ)
    → length ws ≤ i → ChoicesLeft pl d now next (drop i ws) all behind → next ≡ behind
choices_behind ws i pl d next now all behind past h = sym (ap (λ us. behind_choices (map when_code us) pl d next) (drop_of_length-le ws past)) ∙ h.next

choice_at : (s : Setting) (d : ℕ) (ws : List When) (i : ℕ) (w : When) → AreChoicesIn s d ws → i < length ws → w ≡ get_or ws i w → AreIn s d (out-When w).body
choice_at s d [] i w h lt is = absurd (omega arith)
choice_at s d (x ∷ ws) zero w h lt is = subst (λ (y : When). AreIn s d (out-When y).body) (sym is) (record { setting = h.setting; inside = h.inside.0 })
choice_at s d (x ∷ ws) (suc i) w h lt is = choice_at s d ws i w (record { setting = h.setting; inside = h.inside.1 }) (omega arith) is

pub choice_in : (s : Setting) (d : ℕ) (ws given : List When) (i : ℕ) (w : When) → AreChoicesIn s d ws → given ≡ ws
    → i < length given → w ≡ get_or given i w → AreIn s d (out-When w).body
choice_in s d ws given i w h same lt is = choice_at s d given i w (subst (AreChoicesIn s d) (sym same) h) lt is

-- one statement

-- a statement of this kind is inside as its layer is
pub in_as : (s : Setting) (d : ℕ) (k : StmtKind) (l : StmtKind-F StmtKind Stmt When) → out-StmtKind k ≡ l → IsIn s d (out-StmtKind k) → IsIn s d l
in_as s d k l is h = subst (IsIn s d) is h

-- the code of this layer is that of the statement
pub as_kind : (k : StmtKind) (l : StmtKind-F StmtKind Stmt When) (pl : Places) (p d a : ℕ) (old new : List Op)
    → out-StmtKind k ≡ l → new ≡ old ++ opened l pl p d a → new ≡ old ++ kind_code k pl p d a
as_kind k l pl p d a old new is e = e ∙ sym (ap (λ f. old ++ f pl p d a) (kind_code-out k ∙ ap opened is))

pub yes_inside : (s : Setting) (d : ℕ) (c : Cond) (ss rs : List Stmt) → IsIn s d (layer.If c ss rs) → AreIn s d ss
yes_inside s d c ss rs h = record { setting = h.setting; inside = yes_in h.inside }

pub no_inside : (s : Setting) (d : ℕ) (c : Cond) (ss rs : List Stmt) → IsIn s d (layer.If c ss rs) → AreIn s d rs
no_inside s d c ss rs h = record { setting = h.setting; inside = no_in h.inside }

pub otherwise_inside : (s : Setting) (d : ℕ) (e : Expr) (ws : List When) (ss : List Stmt) → IsIn s d (layer.Case e ws ss) → AreIn s d ss
otherwise_inside s d e ws ss h = record { setting = h.setting; inside = otherwise_in h.inside }

pub choices_inside : (s : Setting) (d : ℕ) (e : Expr) (ws : List When) (ss : List Stmt) → IsIn s d (layer.Case e ws ss) → AreChoicesIn s d ws
choices_inside s d e ws ss h = record { setting = h.setting; inside = choices_in h.inside }

pub body_inside : (s : Setting) (d t : ℕ) (e f : Expr) (ss : List Stmt) → IsIn s d (layer.On t e f ss) → AreIn s (d + 1) ss
body_inside s d t e f ss h = subst (λ n. AreIn s n ss) (sym (add-one d)) (record { setting = h.setting; inside = body_in h.inside })

-- a list has a statement unless it is empty
pub any_is : (ss : List Stmt) (empty : Bool) → empty ≡ nat_eq (length ss) 0 → not empty ≡ has_any (map stmt_code ss)
any_is [] empty e = ap not e
any_is (s ∷ ss) empty e = let some : length (s ∷ ss) ≢ 0 = omega arith in ap not (e ∙ ne_eqb (length (s ∷ ss)) 0 some)

pub if_kind : (k : StmtKind) (p d a yes_at no_at test_len yes_len past_len : ℕ) (both : Bool) (c : Cond)
    (ss rs : List Stmt) (pl : Places) (test first other old new : List Op) → out-StmtKind k ≡ layer.If c ss rs
    → test ≡ cond_code c pl.site → test_len ≡ length test → yes_at ≡ a + test_len + 2
    → first ≡ codes (map stmt_code ss) pl d yes_at → yes_len ≡ length first → both ≡ has_any (map stmt_code rs)
    → past_len ≡ length (past_code both 0) → no_at ≡ yes_at + yes_len + past_len
    → other ≡ codes (map stmt_code rs) pl d no_at
    → new ≡ old ++ op.Stmt p ∷ (test ++ (op.Jz 0 no_at ∷ (first ++ (past_code both (no_at + length other) ++ other)))) → new ≡ old ++ kind_code k pl p d a
if_kind k p d a yes_at no_at test_len yes_len past_len both c ss rs pl test first other old new is et lt ey ef lf eb lp en eo e =
    let t = cond_code c pl.site in
    let ya : yes_at ≡ a + 1 + length t + 1 = omega (arith, ey, lt, ap length et) in
    let fe : first ≡ codes (map stmt_code ss) pl d (a + 1 + length t + 1) = ef ∙ ap (codes (map stmt_code ss) pl d) ya in
    let f = codes (map stmt_code ss) pl d (a + 1 + length t + 1) in
    let some = has_any (map stmt_code rs) in
    let jump : past_len ≡ length (past_code some 0) = lp ∙ ap (λ b. length (past_code b 0)) eb in
    let na : no_at ≡ a + 1 + length t + 1 + length f + length (past_code some 0) = omega (arith, en, ya, lf, ap length fe, jump) in
    let oe : other ≡ codes (map stmt_code rs) pl d (a + 1 + length t + 1 + length f + length (past_code some 0)) = eo ∙ ap (codes (map stmt_code rs) pl d) na in
    as_kind k (layer.If c ss rs) pl p d a old new is
    (e ∙ λ i. old ++ op.Stmt p ∷ (et i ++ (op.Jz 0 (na i)
    ∷ (fe i ++ (past_code (eb i) (na i + length (oe i)) ++ oe i)))))

-- the choices reach as far as what stands behind them
reaches : (ws : List Source) (ss : List Stmt) (pl : Places) (d a : ℕ)
    → a + length (choices_code ws (map stmt_code ss) pl d a) ≡ behind_choices ws pl d a
    + length (codes (map stmt_code ss) pl d (behind_choices ws pl d a))
reaches [] ss pl d a = refl
reaches (w ∷ ws) ss pl d a =
    let body = codes w.body pl d (a + COMPARE_LENGTH) in
    let next = a + COMPARE_LENGTH + length body + 1 in
    let rest = choices_code ws (map stmt_code ss) pl d next in
    omega (arith, length-append body (op.Jmp (next + length rest) ∷ rest), reaches ws ss pl d next)

choices_are : (ws : List Source) (ss : List Stmt) (pl : Places) (d a : ℕ)
    → choices_code ws (map stmt_code ss) pl d a
    ≡ choice_codes (chosen ws pl d a) (behind_choices ws pl d a
    + length (codes (map stmt_code ss) pl d (behind_choices ws pl d a)))
    ++ codes (map stmt_code ss) pl d (behind_choices ws pl d a)
choices_are [] ss pl d a = refl
choices_are (w ∷ ws) ss pl d a =
    let body = codes w.body pl d (a + COMPARE_LENGTH) in
    let next = a + COMPARE_LENGTH + length body + 1 in
    let rest = choices_code ws (map stmt_code ss) pl d next in
    let behind = behind_choices ws pl d next in
    let other = codes (map stmt_code ss) pl d behind in
    let made = choice_codes (chosen ws pl d next) (behind + length other) in
    (λ i. compare_code w.number next ++ (body ++ (op.Jmp (reaches ws ss pl d next i) ∷ choices_are ws ss pl d next i)))
    ∙ ap (λ l. compare_code w.number next ++ l) (sym (append_assoc body (op.Jmp (behind + length other) ∷ made) other))

pub case_kind : (k : StmtKind) (p d a first_at value_len next : ℕ) (v : Expr) (ws : List When) (ss : List Stmt)
    (pl : Places) (list : List Choice) (value other old new : List Op) → out-StmtKind k ≡ layer.Case v ws ss
    → value ≡ expr_code v pl.site 0 → value_len ≡ length value → first_at ≡ a + value_len + 1
    → list ≡ chosen (map when_code ws) pl d first_at → next ≡ behind_choices (map when_code ws) pl d first_at
    → other ≡ codes (map stmt_code ss) pl d next
    → new ≡ old ++ op.Stmt p ∷ (value ++ (choice_codes list (next + length other) ++ other)) → new ≡ old ++ kind_code k pl p d a
case_kind k p d a first_at value_len next v ws ss pl list value other old new is ev lv ea el en eo e =
    let code = expr_code v pl.site 0 in
    let us = map when_code ws in
    let at : first_at ≡ a + 1 + length code = omega (arith, ea, lv, ap length ev) in
    let list_is = el ∙ ap (chosen us pl d) at in
    let behind : next ≡ behind_choices us pl d (a + 1 + length code) = en ∙ ap (behind_choices us pl d) at in
    let other_is = eo ∙ ap (codes (map stmt_code ss) pl d) behind in
    as_kind k (layer.Case v ws ss) pl p d a old new is
    (e ∙ (λ i. old ++ op.Stmt p ∷ (ev i ++ (choice_codes (list_is i) (behind i + length (other_is i)) ++ other_is i)))
    ∙ sym (ap (λ l. old ++ op.Stmt p ∷ (code ++ l)) (choices_are us ss pl d (a + 1 + length code))))

turns_length : (p t d head : ℕ) (body : List Op) → length (turns_code p t d head body) ≡ length body + (TURN_LENGTH + NEXT_LENGTH)
turns_length p t d head body = omega (arith, length-append body (next_code d head (head + TURN_LENGTH + length body + NEXT_LENGTH)))

pub on_kind : (k : StmtKind) (p t d a from_len upto_len between head inner body_len exit : ℕ) (v w : Expr)
    (ss : List Stmt) (pl : Places) (from upto body old n1 new : List Op) → out-StmtKind k ≡ layer.On t v w ss
    → from ≡ expr_code v pl.site 0 → upto ≡ expr_code w pl.site 1 → from_len ≡ length from → between ≡ a + from_len + 1
    → upto_len ≡ length upto → head ≡ between + upto_len + BOUNDS_LENGTH → inner ≡ head + TURN_LENGTH
    → body ≡ codes (map stmt_code ss) pl (d + 1) inner → body_len ≡ length body
    → exit ≡ head + body_len + (TURN_LENGTH + NEXT_LENGTH)
    → n1 ≡ old ++ op.Stmt p ∷ (from ++ (upto ++ bounds_code d exit)) → new ≡ n1 ++ turns_code p t d head body → new ≡ old ++ kind_code k pl p d a
on_kind k p t d a from_len upto_len between head inner body_len exit v w ss pl from upto body old n1 new is ef eu lf eb lu eh ei ebody lb ex e1 e2 =
    let f = expr_code v pl.site 0 in
    let u = expr_code w pl.site 1 in
    let h = a + 1 + length f + length u + BOUNDS_LENGTH in
    let head_is : head ≡ h = omega (arith, eh, eb, lf, lu, ap length ef, ap length eu) in
    let inner_is : inner ≡ h + TURN_LENGTH = omega (arith, ei, head_is) in
    let body_is : body ≡ codes (map stmt_code ss) pl (suc d) (h + TURN_LENGTH) = ebody ∙ λ i. codes (map stmt_code ss) pl (add-one d i) (inner_is i) in
    let b = codes (map stmt_code ss) pl (suc d) (h + TURN_LENGTH) in
    let exit_is : exit ≡ h + length (turns_code p t d h b) = omega (arith, ex, head_is, lb, ap length body_is, turns_length p t d h b) in
    let bounds : ℕ → List Op = bounds_code d in
    let y = h + length (turns_code p t d h b) in
    let turns = turns_code p t d h b in
    let front : List Op = op.Stmt p ∷ (f ++ (u ++ bounds y)) in
    as_kind k (layer.On t v w ss) pl p d a old new is
    (two old n1 new front turns (e1 ∙ λ i. old ++ op.Stmt p ∷ (ef i ++ (eu i ++ bounds (exit_is i)))) (e2 ∙ λ i. n1 ++ turns_code p t d (head_is i) (body_is i))
    ∙ ap (λ l. old ++ op.Stmt p ∷ l) (append_assoc f (u ++ bounds y) turns ∙ ap (λ l. f ++ l) (append_assoc u (bounds y) turns)))
