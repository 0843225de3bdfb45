-- How long a statement's code is depends neither on the addresses of labels and ENTERs nor on where
-- it stands.
use Rattle.std.proofs.Common.{◌≡◌, ℕ, suc, ◌+◌, Bool, true, false, List, [], ◌∷◌, ◌++◌, length, map}
use Rattle.std.proofs.Common.{Option, Some, None, refl, sym, ap, ◌∙◌, subst, arith, length-append}
use Rattle.std.specs.Prelude.{slice_get}
use Rattle.machine_code.specs.declared.op.Op.{Op}
use Rattle.machine_code.specs.declared.op.Op.TheVariants as op
use Rattle.exchange_model.specs.declared.signal.SignalKind.{SignalKind}
use Rattle.exchange_model.specs.declared.signal.SignalKind.TheVariants.{Buffered, Direct, Combined}
use Rattle.exchange_model.specs.declared.signal.SignalKind.TheVariants.{Answer, Outside}
use Rattle.exchange_model.specs.declared.expr.Rel.{Rel}
use Rattle.exchange_model.specs.declared.stmt.Receiver.{Receiver}
use Rattle.exchange_model.specs.declared.stmt.Receiver.TheVariants as receiver
use Rattle.exchange_model.specs.declared.expr.Expr.{Expr}
use Rattle.exchange_model.specs.declared.stmt.Stmt.{Stmt, roll-Stmt, map-Stmt}
use Rattle.exchange_model.specs.declared.stmt.When.{When, roll-When, map-When, out-roll-When}
use Rattle.exchange_model.specs.declared.stmt.StmtKind.{StmtKind, StmtKind-F, roll-StmtKind}
use Rattle.exchange_model.specs.declared.stmt.StmtKind.{ind-StmtKind, out-roll-StmtKind}
use Rattle.exchange_model.specs.declared.stmt.StmtKind.{map-StmtKind}
use Rattle.exchange_model.specs.declared.stmt.StmtKind.TheOpen as stmt
use Rattle.exchange_model.specs.Cells.{Placed}
use Rattle.expr_code.specs.Code.{Site, expr_code, cond_code}
use Rattle.stmt_code.specs.declared.lengths.TheConstants.{COMPARE_LENGTH, TURN_LENGTH, NEXT_LENGTH}
use Rattle.stmt_code.specs.declared.lengths.TheConstants.{BOUNDS_LENGTH}
use Rattle.stmt_code.specs.StmtCode.{Places, codes, compare_code, choices_code, values_code}
use Rattle.stmt_code.specs.StmtCode.{has_any, past_code, if_code, next_code, turns_code}
use Rattle.stmt_code.specs.StmtCode.{bounds_code, on_code, send_code, holder_code, each_receiver}
use Rattle.stmt_code.specs.StmtCode.{look_first, receiver_code, opened, stmt_code, kind_code}
use Rattle.stmt_code.specs.StmtCode.{when_code, kind_code-out, stmt_code-kind, when_code-out}
use Rattle.stmt_code.specs.RecordCode.{for_first_code, seize_code}

-- the addresses of labels, and of ENTERs by block and signal
abbrev pub Addresses : Type 0
Addresses = (ℕ → ℕ) × (ℕ → ℕ → ℕ)

-- the same places but for the addresses
abbrev pub with_labels : Places → Addresses → Places
with_labels pl l = record { site = pl.site; width = pl.width; label = l.0; enter = l.1; entry = pl.entry; receivers = pl.receivers; signals = pl.signals }

abbrev KindSame : StmtKind → Type 0
KindSame k = (pl : Places) (l : Addresses) (p d a c : ℕ) → length (kind_code k pl p d a) ≡ length (kind_code k (with_labels pl l) p d c)

abbrev StmtSame : Stmt → Type 0
StmtSame s = (pl : Places) (l : Addresses) (d a c : ℕ) → length (stmt_code s pl d a) ≡ length (stmt_code s (with_labels pl l) d c)

abbrev WhenSame : When → Type 0
WhenSame w = (pl : Places) (l : Addresses) (d a c : ℕ) → length (codes (when_code w).body pl d a) ≡ length (codes (when_code w).body (with_labels pl l) d c)

abbrev LayerSame : StmtKind-F StmtKind Stmt When → Type 0
LayerSame k = (pl : Places) (l : Addresses) (p d a c : ℕ) → length (opened k pl p d a) ≡ length (opened k (with_labels pl l) p d c)

list_same : (ss : List ((s : Stmt) × StmtSame s)) (pl : Places) (l : Addresses) (d a c : ℕ)
    → length (codes (map stmt_code (map (λ e. e.0) ss)) pl d a)
    ≡ length (codes (map stmt_code (map (λ e. e.0) ss)) (with_labels pl l) d c)
list_same [] pl l d a c = refl
list_same (s ∷ ss) pl l d a c =
    let x = stmt_code s.0 pl d a in
    let y = stmt_code s.0 (with_labels pl l) d c in
    let more = codes (map stmt_code (map (λ e. e.0) ss)) in
    omega (
      arith,
      length-append x (more pl d (a + length x)),
      length-append y
          (more (with_labels pl l) d (c + length y)),
      s.1 pl l d a c,
      list_same ss pl l d (a + length x) (c + length y),
    )

-- a choice: three instructions, its list, and the jump behind it
pub choice_length : (n next : ℕ) (body : List Op) (j : Op) (rest : List Op)
    → length (compare_code n next ++ (body ++ (j ∷ rest))) ≡ 4 + length body + length rest
choice_length n next body j rest = omega (arith, length-append body (j ∷ rest))

sums : (x y u v : ℕ) → x ≡ y → u ≡ v → 4 + x + u ≡ 4 + y + v
sums x y u v h g = omega arith

choices_same : (ws : List ((w : When) × WhenSame w)) (ss : List ((s : Stmt) × StmtSame s)) (pl : Places) (l : Addresses)
    (d a c : ℕ) → length (choices_code (map when_code (map (λ e. e.0) ws)) (map stmt_code (map (λ e. e.0) ss)) pl d a)
    ≡ length (choices_code (map when_code (map (λ e. e.0) ws)) (map stmt_code (map (λ e. e.0) ss)) (with_labels pl l) d
    c)
choices_same [] ss pl l d a c = list_same ss pl l d a c
choices_same (w ∷ ws) ss pl l d a c =
    let n = (when_code w.0).number in
    let ql = with_labels pl l in
    let x = codes (when_code w.0).body pl d (a + COMPARE_LENGTH) in
    let y = codes (when_code w.0).body ql d (c + COMPARE_LENGTH) in
    let more = choices_code (map when_code (map (λ e. e.0) ws)) (map stmt_code (map (λ e. e.0) ss)) in
    let u = more pl d (a + COMPARE_LENGTH + length x + 1) in
    let v = more ql d (c + COMPARE_LENGTH + length y + 1) in
    let h : length x ≡ length y = w.1 pl l d (a + COMPARE_LENGTH) (c + COMPARE_LENGTH) in
    let g : length u ≡ length v = choices_same ws ss pl l d (a + COMPARE_LENGTH + length x + 1) (c + COMPARE_LENGTH + length y + 1) in
    choice_length n (a + COMPARE_LENGTH + length x + 1) x (op.Jmp (a + COMPARE_LENGTH + length x + 1 + length u)) u
    ∙ sums (length x) (length y) (length u) (length v) h g
    ∙ sym (choice_length n (c + COMPARE_LENGTH + length y + 1) y (op.Jmp (c + COMPARE_LENGTH + length y + 1 + length v)) v)

pub past_length : (both : Bool) (i j : ℕ) → length (past_code both i) ≡ length (past_code both j)
past_length false i j = refl
past_length true i j = refl

pub if_length : (p a : ℕ) (test first : List Op) (both : Bool) (else_at : ℕ → List Op)
    → length (if_code p a test first both else_at) ≡ 2 + length test + length first + length (past_code both 0)
    + length (else_at (a + 1 + length test + 1 + length first + length (past_code both 0)))
if_length p a test first both else_at =
    let o = a + 1 + length test + 1 + length first + length (past_code both 0) in
    let c2 = else_at o in
    let past = past_code both (o + length c2) in
    omega (
      arith,
      length-append test (op.Jz 0 o ∷ (first ++ (past ++ c2))),
      length-append first (past ++ c2),
      length-append past c2,
      past_length both (o + length c2) 0,
    )

pub on_length : (p t d a : ℕ) (from upto : List Op) (body_at : ℕ → List Op)
    → length (on_code p t d a from upto body_at) ≡ 14 + length from + length upto
    + length (body_at (a + 1 + length from + length upto + BOUNDS_LENGTH + TURN_LENGTH))
on_length p t d a from upto body_at =
    let head = a + 1 + length from + length upto + BOUNDS_LENGTH in
    let cb = body_at (head + TURN_LENGTH) in
    let ct = turns_code p t d head cb in
    let tail = bounds_code d (head + length ct) ++ ct in
    omega (
      arith,
      length-append from (upto ++ tail),
      length-append upto tail,
      length-append cb
          (next_code d head (head + TURN_LENGTH + length cb + NEXT_LENGTH)),
    )

-- after the same instructions as many more
tail_same : (l xs ys : List Op) → length xs ≡ length ys → length (l ++ xs) ≡ length (l ++ ys)
tail_same l xs ys h = length-append l xs ∙ ap (λ n. length l + n) h ∙ sym (length-append l ys)

both_same : (l m xs ys : List Op) → length l ≡ length m → length xs ≡ length ys → length (l ++ xs) ≡ length (m ++ ys)
both_same l m xs ys h k = omega (arith, length-append l xs, length-append m ys, h, k)

search_same : (o : Option Placed) (t field : ℕ) (rel : Rel) (i j a c : ℕ)
    → length (for_first_code o t field rel i a) ≡ length (for_first_code o t field rel j c)
search_same None t field rel i j a c = refl
search_same (Some p) t field rel i j a c = refl

seize_same : (o : Option Placed) (file t i j a c : ℕ) → length (seize_code o file t i a) ≡ length (seize_code o file t j c)
seize_same None file t i j a c = refl
seize_same (Some p) file t i j a c = refl

send_same : (o : Option SignalKind) (signal b : ℕ) (fresh : Bool) (pl : Places) (l : Addresses)
    → length (send_code o signal b fresh pl) ≡ length (send_code o signal b fresh (with_labels pl l))
send_same None signal b fresh pl l = refl
send_same (Some (Buffered name level count)) signal b fresh pl l = refl
send_same (Some (Direct name count)) signal b fresh pl l = refl
send_same (Some (Combined name count answer)) signal b fresh pl l = refl
send_same (Some (Answer name count combined)) signal b fresh pl l = refl
send_same (Some (Outside name count)) signal b fresh pl l = refl

-- the code of receivers, where that of each is as long
each_same : (bs : List ℕ) (f g : ℕ → List Op) → ((b : ℕ) → length (f b) ≡ length (g b)) → (a c : ℕ)
    → length (each_receiver bs f a) ≡ length (each_receiver bs g c)
each_same [] f g h a c = refl
each_same (b ∷ bs) f g h a c =
    let next = a + COMPARE_LENGTH + length (f b) + 1 in
    let other = c + COMPARE_LENGTH + length (g b) + 1 in
    let u = each_receiver bs f next in
    let v = each_receiver bs g other in
    let more : length u ≡ length v = each_same bs f g h next other in
    choice_length (b + 1) next (f b) (op.Jmp (next + length u)) u
    ∙ sums (length (f b)) (length (g b)) (length u) (length v) (h b) more
    ∙ sym (choice_length (b + 1) other (g b) (op.Jmp (other + length v)) v)

first_same : (bs : List ℕ) (values : List Expr) (a c : ℕ) → length (look_first bs values a) ≡ length (look_first bs values c)
first_same bs [] a c = refl
first_same bs (e ∷ es) a c = each_same bs (λ b. []) (λ b. []) (λ b. refl) a c

receiver_same : (to : Option Receiver) (bs : List ℕ) (site : Site) (values : List Expr) (f g : ℕ → List Op)
    → ((b : ℕ) → length (f b) ≡ length (g b)) → (a c : ℕ)
    → length (receiver_code to bs site values f a) ≡ length (receiver_code to bs site values g c)
receiver_same None bs site values f g h a c = tail_same (values_code values site 0) _ _ (h 0)
receiver_same (Some (receiver.Block b)) bs site values f g h a c = tail_same (values_code values site 0) _ _ (h b)
receiver_same (Some (receiver.Held holder)) bs site values f g h a c =
    let look = look_first bs values (a + 1) in
    let other = look_first bs values (c + 1) in
    let joins = values_code values site 1 in
    let u = each_receiver bs f (a + 1 + length look + length joins) in
    let v = each_receiver bs g (c + 1 + length other + length joins) in
    tail_same (holder_code holder site) (look ++ (joins ++ u)) (other ++ (joins ++ v))
    (both_same look other (joins ++ u) (joins ++ v) (first_same bs values (a + 1) (c + 1))
    (tail_same joins u v (each_same bs f g h (a + 1 + length look + length joins) (c + 1 + length other + length joins))))

layer_same : (y : StmtKind-F ((k : StmtKind) × KindSame k) ((s : Stmt) × StmtSame s) ((w : When) × WhenSame w))
    → LayerSame (map-StmtKind _ _ _ _ _ _ (λ e. e.0) (λ e. e.0) (λ e. e.0) y)
layer_same (stmt.Enter signal temps) pl l p d a c = refl
layer_same (stmt.SetTemp t e) pl l p d a c = refl
layer_same (stmt.SetVariable i e) pl l p d a c = refl
layer_same (stmt.SetField file field pointer e) pl l p d a c = refl
layer_same (stmt.Goto k) pl l p d a c = refl
layer_same (stmt.IfGoto cond k) pl l p d a c = ap suc (tail_same (cond_code cond pl.site) _ _ refl)
layer_same (stmt.If cond yes_part no_part) pl l p d a c =
    let test = cond_code cond pl.site in
    let f = codes (map stmt_code (map (λ e. e.0) yes_part)) in
    let o = codes (map stmt_code (map (λ e. e.0) no_part)) in
    let x = f pl d (a + 1 + length test + 1) in
    let y = f (with_labels pl l) d (c + 1 + length test + 1) in
    let h1 = list_same yes_part pl l d (a + 1 + length test + 1) (c + 1 + length test + 1) in
    let both = has_any (map stmt_code (map (λ e. e.0) no_part)) in
    let past = past_code both 0 in
    let h2 = list_same no_part pl l d (a + 1 + length test + 1 + length x + length past) (c + 1 + length test + 1 + length y + length past) in
    if_length p a test x both (o pl d) ∙ more test past x y _ _ h1 h2 ∙ sym (if_length p c test y both (o (with_labels pl l) d))
  where
    more : (test past x y u v : List Op) → length x ≡ length y → length u ≡ length v
        → 2 + length test + length x + length past + length u ≡ 2 + length test + length y + length past + length v
    more test past x y u v h1 h2 = omega arith
layer_same (stmt.Case e whens otherwise) pl l p d a c =
    let value = expr_code e pl.site 0 in
    ap suc (tail_same value _ _ (choices_same whens otherwise pl l d (a + 1 + length value) (c + 1 + length value)))
layer_same (stmt.On t from upto body) pl l p d a c =
    let cf = expr_code from pl.site 0 in
    let cu = expr_code upto pl.site 1 in
    let b = codes (map stmt_code (map (λ e. e.0) body)) in
    let h = list_same body pl l (suc d) (a + 1 + length cf + length cu + BOUNDS_LENGTH + TURN_LENGTH)
    (c + 1 + length cf + length cu + BOUNDS_LENGTH + TURN_LENGTH) in
    on_length p t d a cf cu (b pl (suc d)) ∙ ap (λ n. 14 + length cf + length cu + n) h ∙ sym (on_length p t d c cf cu (b (with_labels pl l) (suc d)))
layer_same (stmt.ForFirst t file field rel e k) pl l p d a c =
    let value = expr_code e pl.site 0 in
    ap suc (tail_same value _ _ (search_same (slice_get pl.site.files file) t field rel (pl.label k) (l.0 k) (a + 1 + length value) (c + 1 + length value)))
layer_same (stmt.Send signal to values fresh) pl l p d a c =
    ap suc (receiver_same to (pl.receivers signal) pl.site values _ _ (λ b. send_same (slice_get pl.signals signal) signal b fresh pl l) (a + 1) (c + 1))
layer_same (stmt.Retrieve answer temps) pl l p d a c = refl
layer_same (stmt.Return answer values) pl l p d a c = refl
layer_same (stmt.Transfer signal to) pl l p d a c = ap suc (receiver_same to (pl.receivers signal) pl.site [] _ _ (λ b. refl) (a + 1) (c + 1))
layer_same (stmt.Seize t file k) pl l p d a c = ap suc (seize_same (slice_get pl.site.files file) file t (pl.label k) (l.0 k) (a + 1) (c + 1))
layer_same (stmt.Free t file) pl l p d a c = refl
layer_same stmt.Exit pl l p d a c = refl
layer_same stmt.Finish pl l p d a c = refl

pub kind_same : (k : StmtKind) → KindSame k
kind_same = ind-StmtKind KindSame StmtSame WhenSame
    (λ x y is.
    let h = subst LayerSame is (layer_same y) in
    let e = kind_code-out (roll-StmtKind x) ∙ ap opened (out-roll-StmtKind x) in
    λ pl l p d a c. ap (λ f. length (f pl p d a)) e ∙ h pl l p d a c ∙ sym (ap (λ f. length (f (with_labels pl l) p d c)) e))
    (λ x y is. subst (λ z. StmtSame (roll-Stmt z)) is (λ pl l d a c.
    let e = stmt_code-kind (roll-Stmt (map-Stmt _ _ _ _ _ _ (λ e. e.0) (λ e. e.0) (λ e. e.0) y)) in
    ap (λ f. length (f pl d a)) e ∙ y.kind.1 pl l y.point d a c ∙ sym (ap (λ f. length (f (with_labels pl l) d c)) e)))
    (λ x y is. subst (λ z. WhenSame (roll-When z)) is (λ pl l d a c.
    let z = map-When _ _ _ _ _ _ (λ e. e.0) (λ e. e.0) (λ e. e.0) y in
    let e = ap (λ w. w.body) (when_code-out (roll-When z)) ∙ ap (λ w. map stmt_code w.body) (out-roll-When z) in
    ap (λ f. length (codes f pl d a)) e ∙ list_same y.body pl l d a c ∙ sym (ap (λ f. length (codes f (with_labels pl l) d c)) e)))

pub stmt_same : (s : Stmt) → StmtSame s
stmt_same s pl l d a c =
    ap (λ f. length (f pl d a)) (stmt_code-kind s) ∙ kind_same s.kind pl l s.point d a c ∙ sym (ap (λ f. length (f (with_labels pl l) d c)) (stmt_code-kind s))
