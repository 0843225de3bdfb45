-- The parts of an expression of a block are of that block.
use Rattle.std.proofs.Common.{◌≡◌, ℕ, zero, suc, ◌+◌, ◌*◌, ◌<◌, ◌≤◌, ◌^◌, List, [], ◌∷◌, length}
use Rattle.std.proofs.Common.{map, get_or, Some, slice_get, refl, sym, ap, ◌∙◌, subst, arith}
use Rattle.std.proofs.lemmas.Nat.{mul-le}
use Rattle.std.proofs.lemmas.Option.{same_Some}
use Rattle.std.specs.List.{AllByRecursion}
use Rattle.exchange_model.specs.declared.expr.Expr.{Expr, out-Expr}
use Rattle.exchange_model.specs.declared.expr.Term.{Term, out-Term}
use Rattle.exchange_model.specs.declared.expr.Joined.{Joined}
use Rattle.exchange_model.specs.declared.expr.Factor.{Factor}
use Rattle.exchange_model.specs.declared.expr.Factor.TheVariants.{Variable, Field, Bracket}
use Rattle.exchange_model.specs.declared.expr.Factor.TheVariants.{Reference}
use Rattle.exchange_model.specs.declared.expr.Cond.{Cond}
use Rattle.exchange_model.specs.declared.expr.Relation.{Relation}
use Rattle.plex_limits.specs.declared.limits.TheConstants.{MOST_BRACKETS}
use Rattle.exchange_model.specs.declared.block.Block.{Block}
use Rattle.exchange_model.specs.declared.entry.Cell.TheVariants as cell
use Rattle.exchange_model.specs.Cells.{file_cells, placed_files, record_cells, IsCell, cell_number}
use Rattle.exchange_model.proofs.Numbers.{variable_is_cell}
use Rattle.exchange_model.proofs.Places.{file_below}
use Rattle.exchange_model.specs.Inside.{most, bracket_depth, relation_exprs, joined, cond_exprs}
use Rattle.exchange_model.specs.Fits.{Scope, ExprFits}
use Rattle.exchange_model.specs.PartFits.{TermFits, FactorOwnFits}
use Rattle.exchange_model.proofs.Layers.{expr_fits-out}
use Rattle.exchange_model.specs.PartCounts.{term_depth, factor_own_depth}
use Rattle.exchange_model.proofs.Counted.{bracket_depth-out}
use Rattle.store_layout.specs.declared.row.FileRow.{FileRow}
use Rattle.store_layout.specs.Laid.{HasCell, IsLayout, file_row}
use Rattle.store_layout.specs.Rows.{Rows}
use Rattle.expr_code.specs.Code.{Site}
use Rattle.expr_code.proofs.Rows.{first_of}
use Rattle.expr_code.specs.Sites.{IsSiteOf, IsExprOfBlock, IsTermOf, IsFactorOf, IsCondOf, IsSide}
use Rattle.expr_code.specs.Sites.{IsRelationOf, AreRelationsOf}
use Rattle.plex_num.proofs.Lists.{all_left, all_right, all_here}
use Rattle.store_layout.proofs.Looking.{file_row_at}
use Rattle.expr_code.proofs.Fitted.{variable_fits, field_fits, bracket_fits, reference_fits}
use Rattle.expr_code.proofs.Fitted.{factors_fit, term_is_deep, bracket_is_deep}

most_at : {A : Type 0} (f : A → ℕ) (xs : List A) (i : ℕ) (x : A) → i < length xs → x ≡ get_or xs i x → f x ≤ most (map f xs)
most_at f [] i x lt is = absurd (omega arith)
most_at f (y ∷ xs) zero x lt is = omega (arith, ap f is)
most_at f (y ∷ xs) (suc i) x lt is = omega (arith, most_at f xs i x (omega arith) is)

pub term_at : (e : Expr) (l : Rows) (b : ℕ) (ts : List Term) (i : ℕ) (t : Term) (r : ℕ) → IsExprOfBlock l b e
    → r + (2 * bracket_depth e + 2) < 16 → ts ≡ (out-Expr e).terms → i < length ts → t ≡ get_or ts i t
    → IsTermOf l b t × (r + 1 + (2 * term_depth t + 1) < 16)
term_at e l b ts i t r h room is lt item =
    let all : AllByRecursion (TermFits h.scope) ts = subst (AllByRecursion (TermFits h.scope)) (sym is) (expr_fits-out h.scope e h.fits).1 in
    let deep : bracket_depth e ≡ most (map term_depth ts) = bracket_depth-out e ∙ ap (λ l. most (map term_depth l)) (sym is) in (
      record { scope = h.scope; is_scope = h.is_scope; fits = all_here (TermFits h.scope) ts i t all lt item },
      omega
          (arith, deep, most_at term_depth ts i t lt item),
    )

pub first_term_at : (e : Expr) (l : Rows) (b : ℕ) (ts : List Term) (t : Term) (rest : List Term) (r : ℕ)
    → IsExprOfBlock l b e → r + (2 * bracket_depth e + 2) < 16 → ts ≡ (out-Expr e).terms → ts ≡ t ∷ rest
    → IsTermOf l b t × (r + (2 * term_depth t + 1) < 16)
first_term_at e l b ts t rest r h room same is =
    let here = term_at e l b (t ∷ rest) 0 t r h room (sym is ∙ same) (omega arith) refl in
    (here.0, omega (arith, here.1))

pub next_term_at : (e : Expr) (l : Rows) (b : ℕ) (ts : List Term) (first : Term) (rest : List Term) (i : ℕ) (t : Term)
    (r : ℕ) → IsExprOfBlock l b e → r + (2 * bracket_depth e + 2) < 16 → ts ≡ (out-Expr e).terms → ts ≡ first ∷ rest
    → i < length rest → t ≡ get_or rest i t → IsTermOf l b t × (r + 1 + (2 * term_depth t + 1) < 16)
next_term_at e l b ts first rest i t r h room same is lt item = term_at e l b (first ∷ rest) (suc i) t r h room (sym is ∙ same) (omega arith) item

pub factor_at : (t : Term) (l : Rows) (b : ℕ) (js : List Joined) (i : ℕ) (j : Joined) (r : ℕ) → IsTermOf l b t
    → r + (2 * term_depth t + 1) < 16 → js ≡ (out-Term t).factors → i < length js → j ≡ get_or js i j
    → IsFactorOf l b j.factor × (r + 1 + 2 * factor_own_depth j.factor < 16)
factor_at t l b js i j r h room is lt item =
    let Fits : Joined → Type 0 = λ j. FactorOwnFits h.scope j.factor in
    let depth : Joined → ℕ = λ j. factor_own_depth j.factor in
    let all : AllByRecursion Fits js = subst (AllByRecursion Fits) (sym is) (factors_fit h.scope t h.fits) in
    let deep : term_depth t ≡ most (map depth js) = term_is_deep t ∙ ap (λ l. most (map depth l)) (sym is) in
    (record { scope = h.scope; is_scope = h.is_scope; fits = all_here Fits js i j all lt item }, omega (arith, deep, most_at depth js i j lt item))

pub first_factor_at : (t : Term) (l : Rows) (b : ℕ) (js : List Joined) (j : Joined) (rest : List Joined) (r : ℕ)
    → IsTermOf l b t → r + (2 * term_depth t + 1) < 16 → js ≡ (out-Term t).factors → js ≡ j ∷ rest
    → IsFactorOf l b j.factor × (r + 2 * factor_own_depth j.factor < 16)
first_factor_at t l b js j rest r h room same is =
    let here = factor_at t l b (j ∷ rest) 0 j r h room (sym is ∙ same) (omega arith) refl in
    (here.0, omega (arith, here.1))

pub next_factor_at : (t : Term) (l : Rows) (b : ℕ) (js : List Joined) (first : Joined) (rest : List Joined) (i : ℕ)
    (j : Joined) (r : ℕ) → IsTermOf l b t → r + (2 * term_depth t + 1) < 16 → js ≡ (out-Term t).factors
    → js ≡ first ∷ rest → i < length rest → j ≡ get_or rest i j
    → IsFactorOf l b j.factor × (r + 1 + 2 * factor_own_depth j.factor < 16)
next_factor_at t l b js first rest i j r h room same is lt item = factor_at t l b (first ∷ rest) (suc i) j r h room (sym is ∙ same) (omega arith) item

pub variable_at : (f : Factor) (v : ℕ) (l : Rows) (b : ℕ) → IsFactorOf l b f → f ≡ Variable v → HasCell l (cell.Variable b v)
variable_at f v l b h is =
    let fits : v < length h.scope.block.variables = variable_fits h.scope v (subst (FactorOwnFits h.scope) is h.fits) in
    record { blocks = h.scope.blocks; layout = h.is_scope.layout; cell = variable_is_cell h.scope.blocks b v h.scope.block h.is_scope.there fits }

-- the word of a variable, for the site of its block
pub variable_word : (f : Factor) (v : ℕ) (l : Rows) (b word : ℕ) → IsFactorOf l b f → f ≡ Variable v
    → ((bs : List Block) → IsLayout bs l → IsCell bs (cell.Variable b v) → word ≡ cell_number bs (cell.Variable b v))
    → (site : Site) → IsSiteOf l b site → word ≡ site.first + v
variable_word f v l b word h is tells site is_site =
    let bs = h.scope.blocks in
    let has = variable_at f v l b h is in
    let fits : v < length h.scope.block.variables = variable_fits h.scope v (subst (FactorOwnFits h.scope) is h.fits) in
    tells bs h.is_scope.layout (variable_is_cell bs b v h.scope.block h.is_scope.there fits)
    ∙ ap (λ n. n + v) (sym (is_site.first ∙ first_of bs l b h.scope.block is_site.row h.is_scope.layout h.is_scope.there is_site.there))

pub field_at : (f : Factor) (file field pointer : ℕ) (l : Rows) (b : ℕ) → IsFactorOf l b f
    → f ≡ Field file field pointer → (row : FileRow) → slice_get l.files file ≡ Some row → row.first + field < 2 ^ 32
field_at f file field pointer l b h is row there =
    let fits = (field_fits h.scope file field pointer (subst (FactorOwnFits h.scope) is h.fits)).0 in
    let placed : slice_get (placed_files h.scope.blocks) file ≡ Some fits.placed = ap (λ ps. slice_get ps file) (sym h.is_scope.files) ∙ fits.there in
    let same : row ≡ file_row fits.placed = same_Some row (file_row fits.placed)
    (sym there ∙ file_row_at h.scope.blocks l file fits.placed h.is_scope.layout placed) in
    let some = h.is_scope.filled file fits.placed fits.there in
    let below = file_below h.scope.blocks file fits.placed placed in
    let few = h.is_scope.layout.few in
    let one : 1 * record_cells fits.placed.file
    ≤ file_cells fits.placed.file = mul-le 1 (record_cells fits.placed.file) fits.placed.file.size
    (record_cells fits.placed.file) some (omega arith) in
    omega (arith, fits.within, below, few, one, ap (λ (r : FileRow). r.first) same)

pub bracket_at : (f : Factor) (e : Expr) (l : Rows) (b : ℕ) (r : ℕ) → IsFactorOf l b f → r + 2 * factor_own_depth f < 16
    → f ≡ Bracket e → IsExprOfBlock l b e × (r + (2 * bracket_depth e + 2) < 16)
bracket_at f e l b r h room is =
    let deep : factor_own_depth f ≡ bracket_depth e + 1 = ap factor_own_depth is ∙ bracket_is_deep e in
    (record { scope = h.scope; is_scope = h.is_scope; fits = bracket_fits h.scope e (subst (FactorOwnFits h.scope) is h.fits) }, omega arith)

-- the reference of a block is a number of 32 bits
pub reference_at : (f : Factor) (block : ℕ) (l : Rows) (b : ℕ) → IsFactorOf l b f → f ≡ Reference block → block + 1 < 2 ^ 32
reference_at f block l b h is =
    let fits = reference_fits h.scope block (subst (FactorOwnFits h.scope) is h.fits) in
    omega (arith, fits, h.is_scope.layout.short)

sides_at : (scope : Scope) (rs : List Relation) (i : ℕ) (r : Relation)
    → AllByRecursion (IsSide scope) (relation_exprs rs) → i < length rs → r ≡ get_or rs i r
    → IsSide scope r.left × IsSide scope r.right
sides_at scope [] i r all lt is = absurd (omega arith)
sides_at scope (q ∷ rs) zero r all lt is = (
  subst (λ (s : Relation). IsSide scope s.left) (sym is) all.0,
  subst
      (λ (s : Relation). IsSide scope s.right) (sym is) all.1.0,
)
sides_at scope (q ∷ rs) (suc i) r all lt is = sides_at scope rs i r all.1.1 (omega arith) is

pub relation_at : (l : Rows) (b : ℕ) (rs : List Relation) (i : ℕ) (r : Relation) → AreRelationsOf l b rs → i < length rs
    → r ≡ get_or rs i r → IsRelationOf l b r
relation_at l b rs i r h lt is =
    let sides = sides_at h.scope rs i r h.sides lt is in
    record { scope = h.scope; is_scope = h.is_scope; left = sides.0; right = sides.1 }

sides_fit : (scope : Scope) (es : List Expr) → AllByRecursion (ExprFits scope) es
    → AllByRecursion (λ e. bracket_depth e ≤ MOST_BRACKETS) es → AllByRecursion (IsSide scope) es
sides_fit scope [] each shallow = tt
sides_fit scope (e ∷ es) each shallow = (record { fits = each.0; shallow = shallow.0 }, sides_fit scope es each.1 shallow.1)

list_at : (P : Expr → Type 0) (rss : List (List Relation)) (i : ℕ) (rs : List Relation)
    → AllByRecursion P (joined (map relation_exprs rss)) → i < length rss → rs ≡ get_or rss i rs
    → AllByRecursion P (relation_exprs rs)
list_at P [] i rs all lt is = absurd (omega arith)
list_at P (qs ∷ rss) zero rs all lt is = subst (λ l. AllByRecursion P (relation_exprs l)) (sym is)
    (all_left P (relation_exprs qs) (joined (map relation_exprs rss)) all)
list_at P (qs ∷ rss) (suc i) rs all lt is = list_at P rss i rs (all_right P (relation_exprs qs) (joined (map relation_exprs rss)) all) (omega arith) is

pub relations_at : (l : Rows) (b : ℕ) (c : Cond) (rss : List (List Relation)) (i : ℕ) (rs now : List Relation)
    → IsCondOf l b c → rss ≡ c.any → i < length rss → rs ≡ get_or rss i rs → now ≡ rs → AreRelationsOf l b now
relations_at l b c rss i rs now h is lt item same =
    let P : Expr → Type 0 = IsSide h.scope in
    let all : AllByRecursion P (joined (map relation_exprs rss)) = subst
    (λ l. AllByRecursion P (joined (map relation_exprs l))) (sym is)
    (sides_fit h.scope (cond_exprs c) h.fits.each h.fits.shallow) in
    record { scope = h.scope; is_scope = h.is_scope; sides = subst (λ l. AllByRecursion P (relation_exprs l)) (sym same) (list_at P rss i rs all lt item) }

-- the first of a list, and one of those behind it
pub first_relation_at : (l : Rows) (b : ℕ) (rs : List Relation) (r : Relation) (rest : List Relation)
    → AreRelationsOf l b rs → rs ≡ r ∷ rest → IsRelationOf l b r
first_relation_at l b rs r rest h is = relation_at l b (r ∷ rest) 0 r (subst (AreRelationsOf l b) is h) (omega arith) refl

pub next_relation_at : (l : Rows) (b : ℕ) (rs : List Relation) (first : Relation) (rest : List Relation) (i : ℕ)
    (r : Relation) → AreRelationsOf l b rs → rs ≡ first ∷ rest → i < length rest → r ≡ get_or rest i r
    → IsRelationOf l b r
next_relation_at l b rs first rest i r h is lt item = relation_at l b (first ∷ rest) (suc i) r (subst (AreRelationsOf l b) is h) (omega arith) item

pub first_relations_at : (l : Rows) (b : ℕ) (c : Cond) (all : List (List Relation)) (rs now : List Relation)
    (rest : List (List Relation)) → IsCondOf l b c → all ≡ c.any → all ≡ rs ∷ rest → now ≡ rs → AreRelationsOf l b now
first_relations_at l b c all rs now rest h any is same = relations_at l b c (rs ∷ rest) 0 rs now h (sym is ∙ any) (omega arith) refl same

pub next_relations_at : (l : Rows) (b : ℕ) (c : Cond) (all : List (List Relation)) (first : List Relation)
    (rest : List (List Relation)) (i : ℕ) (rs now : List Relation) → IsCondOf l b c → all ≡ c.any → all ≡ first ∷ rest
    → i < length rest → rs ≡ get_or rest i rs → now ≡ rs → AreRelationsOf l b now
next_relations_at l b c all first rest i rs now h any is lt item same =
    relations_at l b c (first ∷ rest) (suc i) rs now h (sym is ∙ any) (omega arith) item same
