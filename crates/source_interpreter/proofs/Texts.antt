-- What an exchange says of a block, and of the parts of an expression.
use Rattle.std.proofs.Common.{◌≡◌, ℕ, ◌<◌, ◌≤◌, Bool, true, false, List, [], ◌∷◌, length, map}
use Rattle.std.proofs.Common.{Option, Some, None, slice_get, refl, sym, ap, ◌∙◌, subst, arith}
use Rattle.std.specs.Prelude.{nat_eq, ◌||◌, is_some, unwrap_or, if◌then◌else◌}
use Rattle.std.specs.List.{AllByRecursion, find, list_any}
use Rattle.std.specs.Option.{option_map, option_map_or}
use Rattle.plex_limits.specs.declared.limits.TheConstants.{MOST_BLOCKS}
use Rattle.plex_num.proofs.Lists.{all_at, all_left, all_right}
use Rattle.exchange_model.specs.declared.block.Block.{Block}
use Rattle.exchange_model.specs.declared.block.Enter.{Enter as Row}
use Rattle.exchange_model.specs.declared.expr.Cond.{Cond}
use Rattle.exchange_model.specs.declared.expr.Expr.{Expr, out-Expr}
use Rattle.exchange_model.specs.declared.expr.Factor.{Factor, out-Factor}
use Rattle.exchange_model.specs.declared.expr.Factor.TheVariants as factor
use Rattle.exchange_model.specs.declared.expr.Joined.{Joined}
use Rattle.exchange_model.specs.declared.expr.Relation.{Relation}
use Rattle.exchange_model.specs.declared.expr.Term.{Term, out-Term}
use Rattle.exchange_model.specs.declared.stmt.Stmt.{Stmt}
use Rattle.exchange_model.specs.Fits.{Scope, FactorFits, StmtFits}
use Rattle.exchange_model.specs.Index.{place_in, rows_of, enter_of}
use Rattle.exchange_model.specs.Inside.{joined, relation_exprs, cond_exprs}
use Rattle.exchange_model.specs.Kept.{IsExchange, SignalsKept, scope_of}
use Rattle.exchange_model.specs.PartFits.{TermFits, JoinedFits, InsideFits}
use Rattle.exchange_model.proofs.Layers.{expr_fits-out, term_fits-out, joined_fits-out}
use Rattle.exchange_model.proofs.Layers.{factor_fits-out}
use Rattle.exchange_model.specs.Parts.{Parts}
use Rattle.source_meaning.specs.Config.{body_of, row_place, enter_place, is_receiver}
use Rattle.source_interpreter.specs.declared.cases.Cases.{Cases}
use Rattle.source_interpreter.specs.Cases.{AreKnown, AreTablesOf, BlockKnown}
use Rattle.source_interpreter.specs.Kept.{IsOf, IsExprOfText, AreExprsOfText, AreTermsOfText}
use Rattle.source_interpreter.specs.Kept.{IsFactorOfText, AreFactorsOfText, AreRelationsOfText}
use Rattle.source_interpreter.specs.Kept.{IsCondOfText, AreOfText}
use Rattle.source_meaning.proofs.Entering.{row_place_is}

-- all of a list that fit one scope

pub all_of : {X : Type 0} (Fits : Scope → X → Type 0) (s : Scope) → SignalsKept s.signals
    → length s.blocks ≤ MOST_BLOCKS → (xs : List X) → AllByRecursion (Fits s) xs → AllByRecursion (IsOf Fits) xs
all_of Fits s signals few [] h = tt
all_of Fits s signals few (x ∷ xs) h = (record { scope = s; signals = signals; few = few; fits = h.0 }, all_of Fits s signals few xs h.1)

pub of_scope : (cases : Cases) (s : Scope) → SignalsKept s.signals → length s.blocks ≤ MOST_BLOCKS → (ss : List Stmt)
    → AllByRecursion (λ (one : Stmt). StmtFits s one.kind) ss → AreKnown cases ss → AreOfText cases ss
of_scope cases s signals few [] h known = tt
of_scope cases s signals few (one ∷ ss) h known = (
  record
      { scope = s; signals = signals; few = few; fits = h.0; known = known.0 },
  of_scope cases s signals few ss h.1
      known.1,
)

-- the statements of a block are of its text
pub text_of : (x : Parts) (b : ℕ) (k : Block) → IsExchange x → slice_get x.blocks b ≡ Some k → (cases : Cases)
    → AreTablesOf cases x.blocks → AreOfText cases k.body
unfolding AreTablesOf
text_of x b k kept is cases tables = of_scope cases (scope_of x b k) kept.signals kept.blocks.few k.body
    (kept.blocks.each b k is).statements (all_at (BlockKnown cases) x.blocks b k tables is)

pub no_text : (x : Parts) (b : ℕ) → slice_get x.blocks b ≡ None → [] ≡ body_of x b
no_text x b is = sym (ap (λ (o : Option Block). option_map_or (λ k. k.body) o []) is)

-- the ENTER of a signal

any_row : (rows : List Row) (signal : ℕ) → is_some (place_in rows signal) ≡ list_any (λ (q : Row). nat_eq q.signal signal) rows
any_row [] signal = refl
any_row (r ∷ rest) signal = by (nat_eq r.signal signal) (any_row rest signal)
  where
    by : (b : Bool) → is_some (place_in rest signal) ≡ list_any (λ (q : Row). nat_eq q.signal signal) rest
        → is_some (option_map (λ (q : Row). q.place)
        (if b then Some r else find (λ (q : Row). nat_eq q.signal signal) rest)) ≡ b
        || list_any (λ (q : Row). nat_eq q.signal signal) rest
    by true h = refl
    by false h = h

pub enter_is : (x : Parts) (b signal n : ℕ) (found : Option ℕ) → found ≡ enter_of x.blocks b signal → n ≡ unwrap_or found 0 → n ≡ enter_place x b signal
enter_is x b signal n found is at = at ∙ ap (λ o. unwrap_or o 0) is ∙ by (slice_get x.blocks b)
  where
    by : (o : Option Block) → unwrap_or (place_in (rows_of o) signal) 0 ≡ option_map_or (λ (k : Block). row_place k.enters signal) o 0
    by None = refl
    by (Some k) = row_place_is k.enters signal

pub receives_is : (x : Parts) (b signal : ℕ) (found : Option ℕ) (yes_is : Bool) → found ≡ enter_of x.blocks b signal
    → yes_is ≡ is_some found → yes_is ≡ option_map_or (is_receiver signal) (slice_get x.blocks b) false
receives_is x b signal found yes_is is at = at ∙ ap is_some is ∙ by (slice_get x.blocks b)
  where
    by : (o : Option Block) → is_some (place_in (rows_of o) signal) ≡ option_map_or (is_receiver signal) o false
    by None = refl
    by (Some k) = any_row k.enters signal

-- the parts of an expression

pub terms_of : (e : Expr) (ts : List Term) → IsExprOfText e → ts ≡ (out-Expr e).terms → AreTermsOfText ts
terms_of e ts h is = subst AreTermsOfText (sym is) (all_of TermFits h.scope h.signals h.few (out-Expr e).terms (expr_fits-out h.scope e h.fits).1)

joined_of : (s : Scope) → SignalsKept s.signals → length s.blocks ≤ MOST_BLOCKS → (js : List Joined) → AllByRecursion (JoinedFits s) js → AreFactorsOfText js
joined_of s signals few [] h = tt
joined_of s signals few (j ∷ js) h = (record { scope = s; signals = signals; few = few; fits = joined_fits-out s j h.0 }, joined_of s signals few js h.1)

pub factors_of : (t : Term) (js : List Joined) → IsOf TermFits t → js ≡ (out-Term t).factors → AreFactorsOfText js
factors_of t js h is = subst AreFactorsOfText (sym is) (joined_of h.scope h.signals h.few (out-Term t).factors (term_fits-out h.scope t h.fits).1)

pub bracket_of : (f : Factor) (e : Expr) → IsFactorOfText f → f ≡ factor.Bracket e → IsExprOfText e
bracket_of f e h is =
    let inside = subst (λ l. InsideFits h.scope l) (ap out-Factor is ∙ factor.outs-Bracket e) (factor_fits-out h.scope f h.fits).1 in
    record { scope = h.scope; signals = h.signals; few = h.few; fits = inside }

pub reference_below : (f : Factor) (b : ℕ) → IsFactorOfText f → f ≡ factor.Reference b → b < MOST_BLOCKS
reference_below f b h is =
    let below : b < length h.scope.blocks = subst (λ l. FactorFits h.scope l)
    (ap out-Factor is ∙ factor.outs-Reference b) (factor_fits-out h.scope f h.fits).0 in
    omega (arith, below, h.few)

-- the relations of a condition

relations_of : (rs : List Relation) → AreExprsOfText (relation_exprs rs) → AreRelationsOfText rs
relations_of [] h = tt
relations_of (r ∷ rs) h = ((h.0, h.1.0), relations_of rs h.1.1)

lists_of : (any : List (List Relation)) → AreExprsOfText (joined (map relation_exprs any)) → AllByRecursion AreRelationsOfText any
lists_of [] h = tt
lists_of (rs ∷ any) h = (
  relations_of rs (all_left IsExprOfText (relation_exprs rs) (joined (map relation_exprs any)) h),
  lists_of any (all_right IsExprOfText (relation_exprs rs) (joined (map relation_exprs any)) h),
)

pub cond_of : (c : Cond) → AreExprsOfText (cond_exprs c) → IsCondOfText c
cond_of c h = lists_of c.any h
