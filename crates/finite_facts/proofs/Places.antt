-- All statements of an exchange stand in a list.
use Rattle.std.proofs.Common.{ℕ, ◌+◌, List, [], ◌∷◌, ◌++◌, map, Option, None, Some, sym, subst}
use Rattle.exchange_model.specs.declared.exchange.Exchange.{Exchange}
use Rattle.exchange_model.specs.declared.block.Block.{Block}
use Rattle.exchange_model.specs.declared.stmt.Stmt.{Stmt, roll-Stmt}
use Rattle.exchange_model.specs.declared.stmt.When.{When, out-When, roll-When, map-When}
use Rattle.exchange_model.specs.declared.stmt.When.{out-roll-When}
use Rattle.exchange_model.specs.declared.stmt.StmtKind.{StmtKind, StmtKind-F, out-StmtKind}
use Rattle.exchange_model.specs.declared.stmt.StmtKind.{ind-StmtKind, out-roll-StmtKind}
use Rattle.exchange_model.specs.declared.stmt.StmtKind.{map-StmtKind}
use Rattle.exchange_model.specs.declared.stmt.StmtKind.TheOpen as layer
use Rattle.source_meaning.specs.Named.{Layer}
use Rattle.source_meaning.specs.Rests.{first_point}
use Rattle.source_meaning.proofs.Lists.{all_contained}
use Rattle.flow_points.specs.Places.{IsPlace, Place, place_of}
use Rattle.flow_table.specs.Texts.{Chosen, Inside, Texts, Walked, block, choice, no_block}
use Rattle.flow_table.specs.Texts.{no_choice, nothing_left, of_case, of_if, of_none, of_on}
use Rattle.flow_table.specs.Texts.{statement}
use Rattle.flow_table.proofs.Finding.{place_found}
use Rattle.flow_table.proofs.Standing.{texts_stand}
use Rattle.finite_facts.proofs.Finite.{Listed}

-- some places are such
abbrev Held : (List Place → Type 0) → Type 0
Held Are = (ps : List Place) × Are ps

abbrev KindWalks : StmtKind → Type 0
KindWalks k = (b p : ℕ) (next : Option ℕ) → Held (Inside b p next (out-StmtKind k))

abbrev StmtWalks : Stmt → Type 0
StmtWalks s = KindWalks s.kind

abbrev WhenWalks : When → Type 0
WhenWalks w = (b : ℕ) (next : Option ℕ) → Held (Walked b (out-When w).body next)

abbrev PairK : Type 0
PairK = (k : StmtKind) × KindWalks k

abbrev PairS : Type 0
PairS = (s : Stmt) × StmtWalks s

abbrev PairW : Type 0
PairW = (w : When) × WhenWalks w

abbrev stmts_of : List PairS → List Stmt
stmts_of list = map (λ (e : PairS). e.0) list

abbrev whens_of : List PairW → List When
whens_of list = map (λ (e : PairW). e.0) list

list_walks : (list : List PairS) (b : ℕ) (end : Option ℕ) → Held (Walked b (stmts_of list) end)
list_walks [] b end = ([], nothing_left end)
list_walks (s ∷ rest) b end =
    let next = first_point (stmts_of rest) end in
    let inner = s.1 b s.0.point next in
    let more = list_walks rest b end in
    (place_of b s.0 next ∷ (inner.0 ++ more.0), statement s.0 (stmts_of rest) end inner.0 more.0 inner.1 more.1)

choices_walk : (list : List PairW) (b : ℕ) (next : Option ℕ) → Held (Chosen b next (whens_of list))
choices_walk [] b next = ([], no_choice)
choices_walk (w ∷ rest) b next =
    let one = w.1 b next in
    let more = choices_walk rest b next in
    (one.0 ++ more.0, choice w.0 (whens_of rest) one.0 more.0 one.1 more.1)

abbrev LayerWalks : Layer → Type 0
LayerWalks l = (b p : ℕ) (next : Option ℕ) → Held (Inside b p next l)

abbrev bare : StmtKind-F PairK PairS PairW → Layer
bare y = map-StmtKind PairK PairS PairW StmtKind Stmt When (λ e. e.0) (λ e. e.0) (λ e. e.0) y

layer_walks : (y : StmtKind-F PairK PairS PairW) → LayerWalks (bare y)
layer_walks (layer.If cond yes_part no_part) b p next =
    let one = list_walks yes_part b next in
    let other = list_walks no_part b next in
    (one.0 ++ other.0, of_if cond (stmts_of yes_part) (stmts_of no_part) one.0 other.0 one.1 other.1)
layer_walks (layer.Case value whens otherwise) b p next =
    let one = choices_walk whens b next in
    let other = list_walks otherwise b next in
    (one.0 ++ other.0, of_case value (whens_of whens) (stmts_of otherwise) one.0 other.0 one.1 other.1)
layer_walks (layer.On temp from upto body) b p next =
    let one = list_walks body b (Some p) in
    (one.0, of_on temp from upto (stmts_of body) one.0 one.1)
layer_walks y b p next = ([], of_none (bare y) tt)

kind_walks : (k : StmtKind) → KindWalks k
kind_walks = ind-StmtKind KindWalks StmtWalks WhenWalks
    (λ x y is. subst LayerWalks (sym (out-roll-StmtKind x)) (subst LayerWalks is (layer_walks y)))
    (λ x y is. subst (λ z. StmtWalks (roll-Stmt z)) is (λ b p next. y.kind.1 b p next))
    (λ x y is. subst (λ z. WhenWalks (roll-When z)) is
    (subst (λ (w : _). (b : ℕ) (next : Option ℕ) → Held (Walked b w.body next))
    (sym (out-roll-When (map-When _ _ _ _ _ _ (λ e. e.0) (λ e. e.0) (λ e. e.0) y)))
    (λ b next. list_walks y.body b next)))

body_walks : (list : List Stmt) (b : ℕ) (end : Option ℕ) → Held (Walked b list end)
body_walks [] b end = ([], nothing_left end)
body_walks (s ∷ rest) b end =
    let inner = kind_walks s.kind b s.point (first_point rest end) in
    let more = body_walks rest b end in
    (place_of b s (first_point rest end) ∷ (inner.0 ++ more.0), statement s rest end inner.0 more.0 inner.1 more.1)

texts_walk : (blocks : List Block) (b : ℕ) → Held (Texts b blocks)
texts_walk [] b = ([], no_block b)
texts_walk (k ∷ rest) b =
    let one = body_walks k.body b None in
    let more = texts_walk rest (b + 1) in
    (one.0 ++ more.0, block b k rest one.0 more.0 one.1 more.1)

-- the statements of all texts, in their order
pub places_of : (x : Exchange) → (ps : List Place) × Texts 0 x.blocks ps
places_of x = texts_walk x.blocks 0

pub places : (x : Exchange) → Listed (IsPlace x)
places x = (let t = places_of x in record { items = t.0; all = place_found x t.0 t.1; each = λ p c. all_contained (IsPlace x) t.0 p (texts_stand x t.0 t.1) c })
