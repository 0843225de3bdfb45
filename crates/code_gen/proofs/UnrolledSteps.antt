-- How much code stands again, told item by item.
use Rattle.std.proofs.Common.{◌≡◌, ℕ, ◌+◌, ◌*◌, ◌<◌, ◌≤◌, Bool, true, false, List, [], ◌∷◌, ◌++◌}
use Rattle.std.proofs.Common.{length, map, drop, get_or, Option, Some, None, slice_get, Result, Ok}
use Rattle.std.proofs.Common.{Err, IfOk, refl, sym, ap, ◌∙◌, arith, length-append, suc-mul}
use Rattle.std.proofs.Math.ListN.{drop_of_length-le}
use Rattle.std.proofs.Math.Nat.{zero-mul}
use Rattle.std.proofs.lemmas.Option.{none-some}
use Rattle.plex_num.specs.declared.seq.Memory.{Memory}
use Rattle.plex_num.proofs.Lists.{opens}
use Rattle.machine_code.specs.declared.op.Op.{Op}
use Rattle.machine_code.specs.declared.op.Op.TheVariants as op
use Rattle.exchange_model.specs.declared.exchange.Exchange.{Exchange}
use Rattle.exchange_model.specs.declared.block.Variable.{Variable}
use Rattle.exchange_model.specs.declared.expr.Cond.{Cond}
use Rattle.exchange_model.specs.declared.expr.Expr.{Expr}
use Rattle.exchange_model.specs.declared.stmt.Receiver.{Receiver}
use Rattle.exchange_model.specs.declared.stmt.StmtKind.TheOpen as layer
use Rattle.exchange_model.specs.declared.stmt.StmtKind.TheVariants as kind
use Rattle.exchange_model.specs.declared.stmt.Stmt.{Stmt, fold_out-Stmt}
use Rattle.exchange_model.specs.declared.stmt.When.{When, out-When, fold_out-When}
use Rattle.exchange_model.specs.declared.stmt.StmtKind.{StmtKind, StmtKind-F, out-StmtKind}
use Rattle.exchange_model.specs.declared.stmt.StmtKind.{fold_out-StmtKind}
use Rattle.exchange_model.specs.Cells.{Placed, marks, placed_files, record_cells}
use Rattle.exchange_model.specs.Inside.{total}
use Rattle.exchange_model.proofs.Layers.{same_kind}
use Rattle.source_meaning.specs.Config.{files_of}
use Rattle.expr_code.specs.Code.{own_code}
use Rattle.stmt_code.specs.declared.lengths.TheConstants.{COMPARE_LENGTH}
use Rattle.stmt_code.specs.StmtCode.{Places, each_receiver, look_first}
use Rattle.stmt_code.specs.RecordCode.{free_code, inits_code}
use Rattle.stmt_code.proofs.Sizes.{choice_length}
use Rattle.code_gen.specs.Unrolled.{layer_unrolled, kind_unrolled, stmt_unrolled, when_unrolled}
use Rattle.code_gen.specs.Unrolled.{text_unrolled, opened_unrolled}

-- sums over a list

module _ {T : Type 0} (tells : T → ℕ) where
  pub sum_begin : (ts given : List T) → given ≡ ts → 0 + total (map tells given) ≡ total (map tells ts)
  sum_begin ts given same = let sums : total (map tells given) ≡ total (map tells ts) = ap (λ us. total (map tells us)) same in omega (arith, sums)

  pub sum_more : (ts : List T) (i : ℕ) (t : T) (more before after all : ℕ) → i < length ts → t ≡ get_or ts i t
      → more ≡ tells t → after ≡ before + more → before + total (map tells (drop i ts)) ≡ all
      → after + total (map tells (drop (i + 1) ts)) ≡ all
  sum_more ts i t more before after all lt is told e h =
      let first : total (map tells (drop i ts)) ≡ tells t + total (map tells (drop (i + 1) ts)) = ap (λ us. total (map tells us)) (opens ts i t lt is) in
      omega (arith, told, e, h, first)

  pub sum_end : (ts : List T) (i before all : ℕ) → length ts ≤ i → before + total (map tells (drop i ts)) ≡ all → before ≡ all
  sum_end ts i before all past h =
      let none : total (map tells (drop i ts)) ≡ 0 = ap (λ us. total (map tells us)) (drop_of_length-le ts past) in
      omega (arith, none, h)

-- of a statement

pub kind_unrolled-out : (pl : Places) (k : StmtKind) → kind_unrolled pl k ≡ opened_unrolled pl (out-StmtKind k)
unfolding kind_unrolled stmt_unrolled when_unrolled
kind_unrolled-out pl k = fold_out-StmtKind ℕ ℕ ℕ (layer_unrolled pl) (λ s. s.kind) (λ w. total w.body) k

pub stmt_unrolled-kind : (pl : Places) (s : Stmt) → stmt_unrolled pl s ≡ kind_unrolled pl s.kind
unfolding kind_unrolled stmt_unrolled when_unrolled
stmt_unrolled-kind pl s = fold_out-Stmt ℕ ℕ ℕ (layer_unrolled pl) (λ s. s.kind) (λ w. total w.body) s

pub when_unrolled-out : (pl : Places) (w : When) → when_unrolled pl w ≡ text_unrolled pl (out-When w).body
unfolding kind_unrolled stmt_unrolled when_unrolled
when_unrolled-out pl w = fold_out-When ℕ ℕ ℕ (layer_unrolled pl) (λ s. s.kind) (λ w. total w.body) w

-- what is told of this layer is so of the statement
pub layer_is : (pl : Places) (k : StmtKind) (l : StmtKind-F StmtKind Stmt When) (n : ℕ) → out-StmtKind k ≡ l → n ≡ opened_unrolled pl l → n ≡ kind_unrolled pl k
layer_is pl k l n is e = e ∙ sym (kind_unrolled-out pl k ∙ ap (opened_unrolled pl) is)

-- FREE

inits_length : (p : Placed) (field : ℕ) (vs : List Variable) → length (inits_code p field vs) ≡ 2 * length vs
inits_length p field [] = refl
inits_length p field (v ∷ vs) = omega (arith, inits_length p (field + 1) vs)

own_length : (forlopp : Bool) (file : ℕ) → length (own_code forlopp file 0) ≡ marks forlopp
own_length false file = refl
own_length true file = refl

free_some : (p : Placed) (file temp : ℕ) → length (free_code (Some p) file temp) ≡ 5 + marks p.file.forlopp + 2 * length p.file.fields
free_some p file temp =
    let own = own_code p.file.forlopp file 0 in
    let inits = inits_code p 0 p.file.fields in
    let end : List Op = op.Ldi 1 0 ∷ op.Stx (p.first + length p.file.fields) (record_cells p.file) 0 1 ∷ op.Unc 0 file ∷ [] in
    omega (arith, length-append own (inits ++ end), length-append inits end, own_length p.file.forlopp file, inits_length p 0 p.file.fields)

pub free_none : (x : Exchange) (file temp : ℕ) → slice_get (placed_files x.blocks) file ≡ None → 0 ≡ length (free_code (slice_get (files_of x) file) file temp)
unfolding files_of
free_none x file temp none = sym (ap (λ o. length (free_code o file temp)) none)

pub free_is : (x : Exchange) (file temp own fields n : ℕ) (p : Placed) → slice_get (placed_files x.blocks) file ≡ Some p
    → own ≡ marks p.file.forlopp → fields ≡ length p.file.fields → n ≡ 5 + own + 2 * fields
    → n ≡ length (free_code (slice_get (files_of x) file) file temp)
unfolding files_of
free_is x file temp own fields n p there is_own are e =
    let code : length (free_code (slice_get (placed_files x.blocks) file) file temp) ≡ 5 + marks p.file.forlopp
    + 2 * length p.file.fields = ap (λ o. length (free_code o file temp)) there ∙ free_some p file temp in
    omega (arith, e, is_own, are, code)

-- receivers

pub each_length : (bs : List ℕ) (f : ℕ → List Op) (m a : ℕ) → ((b : ℕ) → length (f b) ≡ m) → length (each_receiver bs f a) ≡ length bs * (4 + m) + 1
each_length [] f m a same = omega (arith, zero-mul (4 + m))
each_length (b ∷ bs) f m a same =
    let next = a + COMPARE_LENGTH + length (f b) + 1 in
    let rest = each_receiver bs f next in
    omega (arith, choice_length (b + 1) next (f b) (op.Jmp (next + length rest)) rest, same b, each_length bs f m next same, suc-mul (length bs) (4 + m))

module _ (bs : List ℕ) (values : List Expr) (f : ℕ → List Op) (m count chosen : ℕ) (few : count ≡ length bs)
    (same : (b : ℕ) → length (f b) ≡ m) (is : chosen ≡ count * (4 + m) + 1) where
  all_length : chosen ≡ length (each_receiver bs f 0)
  all_length = is ∙ ap (λ n. n * (4 + m) + 1) few ∙ sym (each_length bs f m 0 same)

  pub look_none : length values ≤ 0 → chosen ≡ length (look_first bs values 0) + length (each_receiver bs f 0)
  look_none none = looked values none
    where
      looked : (es : List Expr) → length es ≤ 0 → chosen ≡ length (look_first bs es 0) + length (each_receiver bs f 0)
      looked [] le = omega (arith, all_length)
      looked (e ∷ es) le = absurd (omega (arith, le))

  pub look_some : (e : Expr) → slice_get values 0 ≡ Some e → count * 4 + 1 + chosen ≡ length (look_first bs values 0) + length (each_receiver bs f 0)
  look_some e there = looked values there
    where
      looked : (es : List Expr) → slice_get es 0 ≡ Some e → count * 4 + 1 + chosen ≡ length (look_first bs es 0) + length (each_receiver bs f 0)
      looked [] at = absurd (none-some e at)
      looked (d ∷ es) at = λ i. (ap (λ n. n * 4 + 1) few ∙ sym (each_length bs (λ b. []) 0 0 (λ b. refl))) i + all_length i

-- one statement

pub tells : (r : Result ℕ Memory) (n m : ℕ) → n ≡ m → IfOk r (λ v. v ≡ n) → IfOk r (λ v. v ≡ m)
tells (Ok v) n m e h = h ∙ e
tells (Err _) n m e h = tt

pub none_unrolled : (pl : Places) (k : StmtKind) → ((c : Cond) (ys ns : List Stmt) → k ≡ kind.If c ys ns → ⊥)
    → ((e : Expr) (ws : List When) (os : List Stmt) → k ≡ kind.Case e ws os → ⊥)
    → ((t : ℕ) (e f : Expr) (body : List Stmt) → k ≡ kind.On t e f body → ⊥)
    → ((signal : ℕ) (to : Option Receiver) (values : List Expr) (fresh : Bool) → k ≡ kind.Send signal to values fresh
    → ⊥) → ((signal : ℕ) (to : Option Receiver) → k ≡ kind.Transfer signal to → ⊥)
    → ((temp file : ℕ) → k ≡ kind.Free temp file → ⊥) → 0 ≡ kind_unrolled pl k
none_unrolled pl k no_if no_case no_on no_send no_transfer no_free = layer_is pl k (out-StmtKind k) 0 refl (alone (out-StmtKind k) refl)
  where
    alone : (l : StmtKind-F StmtKind Stmt When) → out-StmtKind k ≡ l → 0 ≡ opened_unrolled pl l
    alone (layer.If c ys ns) is = absurd (no_if c ys ns (same_kind k (kind.If c ys ns) _ is (kind.outs-If c ys ns)))
    alone (layer.Case e ws os) is = absurd (no_case e ws os (same_kind k (kind.Case e ws os) _ is (kind.outs-Case e ws os)))
    alone (layer.On t e f body) is = absurd (no_on t e f body (same_kind k (kind.On t e f body) _ is (kind.outs-On t e f body)))
    alone (layer.Send signal to values fresh) is = absurd
        (no_send signal to values fresh (same_kind k (kind.Send signal to values fresh) _ is
        (kind.outs-Send signal to values fresh)))
    alone (layer.Transfer signal to) is = absurd (no_transfer signal to (same_kind k (kind.Transfer signal to) _ is (kind.outs-Transfer signal to)))
    alone (layer.Free temp file) is = absurd (no_free temp file (same_kind k (kind.Free temp file) _ is (kind.outs-Free temp file)))
    alone _ is = refl
