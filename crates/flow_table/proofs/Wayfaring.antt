-- The ways from a statement, kind by kind.
use Rattle.std.proofs.Common.{◌≡◌, ℕ, zero, suc, ◌+◌, ◌<◌, ◌≤◌, ◌^◌, max, List, [], ◌∷◌, ◌++◌}
use Rattle.std.proofs.Common.{length, drop, get_or, Bool, true, false, if◌then◌else◌, Option, Some}
use Rattle.std.proofs.Common.{None, Result, IfOk, slice_get, sym, ap, ◌∙◌, subst, arith, append-nil}
use Rattle.std.proofs.Common.{append_assoc}
use Rattle.std.proofs.Math.ListN.{drop_of_length-le}
use Rattle.std.proofs.lemmas.Option.{slice_get_past}
use Rattle.std.specs.List.{AllByRecursion, list_any}
use Rattle.std.specs.Option.{option_map_or}
use Rattle.plex_num.specs.declared.seq.Memory.{Memory}
use Rattle.plex_num.proofs.Lists.{opens}
use Rattle.exchange_model.specs.declared.block.Block.{Block}
use Rattle.exchange_model.specs.declared.block.Enter.{Enter as Row}
use Rattle.exchange_model.specs.declared.exchange.Exchange.{Exchange}
use Rattle.exchange_model.specs.declared.expr.Expr.{Expr}
use Rattle.exchange_model.specs.declared.signal.SignalKind.{SignalKind}
use Rattle.exchange_model.specs.declared.stmt.Stmt.{Stmt}
use Rattle.exchange_model.specs.declared.stmt.When.{When, out-When}
use Rattle.exchange_model.specs.declared.stmt.StmtKind.{StmtKind, out-StmtKind}
use Rattle.exchange_model.specs.Fits.{Scope, ExprFits}
use Rattle.exchange_model.specs.Inside.{own_exprs}
use Rattle.exchange_model.specs.Kept.{IsExchange, signal_count, scope_of}
use Rattle.source_meaning.specs.Named.{Layer}
use Rattle.source_meaning.specs.Changes.{value_count}
use Rattle.source_meaning.specs.Rests.{IsOfBlock, first_point}
use Rattle.flow_points.specs.Slots.{given_count}
use Rattle.flow_table.specs.declared.way.Way.{Way}
use Rattle.flow_table.specs.Alone.{IsExprIn}
use Rattle.flow_table.specs.Ways.{bare_points, begun_points, is_bare, listed, layer_ways, most_of}

-- the choices of a CASE

pub choices_begin : (whens : List When) (old now : List ℕ) → now ≡ old → now ++ begun_points whens ≡ old ++ begun_points whens
choices_begin whens old now same = ap (λ l. l ++ begun_points whens) same

pub choices_more : (whens : List When) (o : Option ℕ) (i : ℕ) (w : When) (body : List Stmt) (now new all : List ℕ)
    → i < length whens → w ≡ get_or whens i w → body ≡ (out-When w).body → o ≡ first_point body None
    → new ≡ now ++ listed o → now ++ begun_points (drop i whens) ≡ all → new ++ begun_points (drop (i + 1) whens) ≡ all
choices_more whens o i w body now new all lt is same at e h =
    let rest = begun_points (drop (i + 1) whens) in
    let one = listed (first_point (out-When w).body None) in
    ap (λ l. l ++ rest) (e ∙ ap (λ p. now ++ listed p) (at ∙ ap (λ b. first_point b None) same)) ∙ append_assoc now one rest
    ∙ ap (λ l. now ++ begun_points l) (sym (opens whens i w lt is)) ∙ h

pub choices_end : (whens : List When) (i : ℕ) (now all : List ℕ) → length whens ≤ i → now ++ begun_points (drop i whens) ≡ all → now ≡ all
choices_end whens i now all past h = sym (append-nil now) ∙ sym (ap (λ l. now ++ begun_points l) (drop_of_length-le whens past)) ∙ h

pub bare_some : (whens : List When) (next : Option ℕ) (t : Bool) (old new : List ℕ) → t ≡ list_any is_bare whens
    → t ≡ true → new ≡ old ++ listed next → new ≡ old ++ bare_points whens next
bare_some whens next t old new is so e = e ∙ ap (λ b. old ++ (if b then listed next else [])) (sym so ∙ is)

pub bare_none : (whens : List When) (next : Option ℕ) (t : Bool) (old : List ℕ) → t ≡ list_any is_bare whens → t ≡ false → old ≡ old ++ bare_points whens next
bare_none whens next t old is none = sym (append-nil old) ∙ ap (λ b. old ++ (if b then listed next else [])) (sym none ∙ is)

-- how many values signals have

pub count_none : (x : Exchange) (signal : ℕ) → length x.signals ≤ signal → 0 ≡ value_count x signal
count_none x signal past = sym (ap (λ o. option_map_or signal_count o 0) (slice_get_past x.signals signal past))

pub count_some : (x : Exchange) (signal n : ℕ) (k : SignalKind) → slice_get x.signals signal ≡ Some k → n ≡ signal_count k → n ≡ value_count x signal
count_some x signal n k there is = is ∙ sym (ap (λ o. option_map_or signal_count o 0) there)

pub given_none : (x : Exchange) (b : ℕ) → length x.blocks ≤ b → 0 ≡ given_count x b
given_none x b past = sym (ap (λ o. option_map_or (λ (k : Block). most_of x k.enters) o 0) (slice_get_past x.blocks b past))

pub given_some : (x : Exchange) (b n : ℕ) (k : Block) (rows : List Row) → slice_get x.blocks b ≡ Some k
    → rows ≡ k.enters → n ≡ most_of x rows → n ≡ given_count x b
given_some x b n k rows there same is = is ∙ ap (most_of x) same ∙ sym (ap (λ o. option_map_or (λ (k : Block). most_of x k.enters) o 0) there)

pub record MostSoFar (x : Exchange) (rows : List Row) (i now : ℕ) : Type 0 where
  pub all : max now (most_of x (drop i rows)) ≡ most_of x rows

pub most_begin : (x : Exchange) (rows : List Row) → MostSoFar x rows 0 0
most_begin x rows = record { all = omega arith }

pub most_more : (x : Exchange) (rows : List Row) (i now new count : ℕ) (r : Row) → i < length rows → r ≡ get_or rows i r
    → count ≡ value_count x r.signal → new ≡ max now count → MostSoFar x rows i now → MostSoFar x rows (i + 1) new
most_more x rows i now new count r lt is at e g =
    let split : most_of x (drop i rows) ≡ max (value_count x r.signal) (most_of x (drop (i + 1) rows)) = ap (most_of x) (opens rows i r lt is) in
    let all = g.all in
    record { all = omega (arith, split, all, at, e) }

pub most_end : (x : Exchange) (rows : List Row) (i now : ℕ) → length rows ≤ i → MostSoFar x rows i now → now ≡ most_of x rows
most_end x rows i now past g =
    let none : most_of x (drop i rows) ≡ 0 = ap (most_of x) (drop_of_length-le rows past) in
    let all = g.all in
    omega (arith, none, all)

-- expressions

pub expr_at : (es : List Expr) (i : ℕ) (e : Expr) → AllByRecursion IsExprIn es → i < length es → e ≡ get_or es i e → IsExprIn e
expr_at [] i e all lt is = absurd (omega arith)
expr_at (d ∷ es) zero e all lt is = subst IsExprIn (sym is) all.0
expr_at (d ∷ es) (suc i) e all lt is = expr_at es i e all.1 (omega arith) is

each_in : (s : Scope) (es : List Expr) → length s.blocks < 2 ^ 31 → AllByRecursion (ExprFits s) es → AllByRecursion IsExprIn es
each_in s [] few all = tt
each_in s (e ∷ es) few all = (record { scope = s; few = few; fits = all.0 }, each_in s es few all.1)

pub exprs_in : (x : Exchange) (b : ℕ) (k : StmtKind) (l : Layer) → IsExchange x → IsOfBlock x b (out-StmtKind k)
    → out-StmtKind k ≡ l → AllByRecursion IsExprIn (own_exprs l)
exprs_in x b k l kept h is =
    let few = kept.blocks.few in
    subst (λ (m : Layer). AllByRecursion IsExprIn (own_exprs m)) is
    (each_in (scope_of x b h.block) (own_exprs (out-StmtKind k)) (omega (arith, few)) h.fits.exprs.each)

-- what is made of a kind is made of the statement

pub made : (x : Exchange) (b p : ℕ) (next : Option ℕ) (k : StmtKind) (l : Layer) (ws : List Way)
    (r : Result (List Way) Memory) → out-StmtKind k ≡ l → ws ≡ layer_ways x b p next l → IfOk r (λ w. w ≡ ws)
    → IfOk r (λ w. w ≡ layer_ways x b p next (out-StmtKind k))
made x b p next k l ws r is e h = subst (λ v. IfOk r (λ w. w ≡ v)) (e ∙ ap (layer_ways x b p next) (sym is)) h
