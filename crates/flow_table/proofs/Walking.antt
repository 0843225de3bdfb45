-- The walk over a text, step by step.
use Rattle.std.proofs.Common.{◌≡◌, ℕ, ◌+◌, ◌<◌, ◌≤◌, List, [], ◌∷◌, ◌++◌, length, map, drop, get_or}
use Rattle.std.proofs.Common.{Option, Some, None, refl, sym, ap, ◌∙◌, subst, append-nil}
use Rattle.std.proofs.Common.{append_assoc}
use Rattle.std.proofs.lemmas.List.{map-append}
use Rattle.std.proofs.Math.ListN.{drop_of_length-le}
use Rattle.exchange_model.specs.declared.block.Block.{Block}
use Rattle.exchange_model.specs.declared.exchange.Exchange.{Exchange}
use Rattle.exchange_model.specs.Kept.{IsExchange}
use Rattle.flow_table.proofs.Numbered.{are_places}
use Rattle.exchange_model.specs.declared.stmt.Stmt.{Stmt}
use Rattle.exchange_model.specs.declared.stmt.When.{When, out-When}
use Rattle.exchange_model.specs.declared.stmt.StmtKind.{StmtKind, StmtKind-F, out-StmtKind}
use Rattle.exchange_model.specs.declared.stmt.StmtKind.TheOpen as layer
use Rattle.exchange_model.specs.declared.stmt.StmtKind.TheVariants as kind
use Rattle.exchange_model.specs.declared.expr.Cond.{Cond}
use Rattle.exchange_model.specs.declared.expr.Expr.{Expr}
use Rattle.std.specs.Prelude.{true, false, if◌then◌else◌}
use Rattle.plex_num.proofs.Lists.{opens}
use Rattle.exchange_model.specs.Kept.{is_enter}
use Rattle.exchange_model.proofs.Layers.{same_kind}
use Rattle.source_meaning.specs.Rests.{first_point}
use Rattle.flow_points.specs.Places.{Place, place_of}
use Rattle.flow_table.specs.declared.place.PlaceAt.{PlaceAt}
use Rattle.flow_table.specs.Texts.{seen, Walked, nothing_left, statement, Chosen, no_choice, choice}
use Rattle.flow_table.specs.Texts.{Inside, of_none, of_if, of_case, of_on, HoldsNone, Texts}
use Rattle.flow_table.specs.Texts.{no_block, block, HasMore, ArePlaces}

-- a list that has some places more, which are all that is left but for these
pub record Goes (old now : List PlaceAt) (Left All : List Place → Type 0) : Type 0 where
  pub added : List PlaceAt
  pub is : now ≡ old ++ added
  pub all : (more : List Place) → Left more → All (map seen added ++ more)

begins : (old now : List PlaceAt) (All : List Place → Type 0) → now ≡ old → Goes old now All All
begins old now All same = record { added = []; is = same ∙ sym (append-nil old); all = λ more h. h }

ends : (old now : List PlaceAt) (Left All : List Place → Type 0) → Left [] → Goes old now Left All → HasMore old now All
ends old now Left All none g = record { added = g.added; is = g.is; are = subst All (append-nil (map seen g.added)) (g.all [] none) }

-- the next part is added
goes_on : (old now new : List PlaceAt) (Part Left Rest All : List Place → Type 0)
    → ((ps qs : List Place) → Part ps → Rest qs → Left (ps ++ qs)) → HasMore now new Part → Goes old now Left All
    → Goes old new Rest All
goes_on old now new Part Left Rest All joined h g = record {
  added = g.added ++ h.added;
  is = h.is ∙ ap (λ l. l ++ h.added) g.is ∙ append_assoc old g.added h.added;
  all = λ more rest.
      subst All
      (sym (append_assoc (map seen g.added) (map seen h.added) more) ∙ ap (λ l. l ++ more) (sym (map-append seen g.added h.added)))
      (g.all (map seen h.added ++ more) (joined (map seen h.added) more h.are rest));
}

-- the statements of a list

abbrev pub ListGoes : ℕ → List Stmt → Option ℕ → List PlaceAt → ℕ → List PlaceAt → Type 0
ListGoes b list end old i now = Goes old now (Walked b (drop i list) end) (Walked b list end)

pub list_begin : (b : ℕ) (list : List Stmt) (end : Option ℕ) (old now : List PlaceAt) → now ≡ old → ListGoes b list end old 0 now
list_begin b list end old now same = begins old now (Walked b list end) same

pub list_end : (b : ℕ) (list : List Stmt) (end : Option ℕ) (old now : List PlaceAt) (i : ℕ) → length list ≤ i
    → ListGoes b list end old i now → HasMore old now (Walked b list end)
list_end b list end old now i past g = ends old now (Walked b (drop i list) end) (Walked b list end)
    (subst (λ l. Walked b l end []) (sym (drop_of_length-le list past)) (nothing_left end)) g

-- a statement, with those in it
abbrev One : ℕ → Stmt → Option ℕ → List Place → Type 0
One b s next ps = (inner : List Place) × Inside b s.point next (out-StmtKind s.kind) inner × (ps ≡ place_of b s next ∷ inner)

one_more : (b : ℕ) (s : Stmt) (next : Option ℕ) (p : PlaceAt) (now pushed new : List PlaceAt)
    → seen p ≡ place_of b s next → pushed ≡ now ++ p ∷ []
    → HasMore pushed new (Inside b s.point next (out-StmtKind s.kind)) → HasMore now new (One b s next)
one_more b s next p now pushed new sees is h = record {
  added = p ∷ h.added;
  is = h.is ∙ ap (λ l. l ++ h.added) is ∙ append_assoc now (p ∷ []) h.added;
  are = (map seen h.added, h.are, ap (λ q. q ∷ map seen h.added) sees);
}

one_joined : (b : ℕ) (s : Stmt) (rest : List Stmt) (end : Option ℕ) (ps qs : List Place)
    → One b s (first_point rest end) ps → Walked b rest end qs → Walked b (s ∷ rest) end (ps ++ qs)
one_joined b s rest end ps qs one w = subst (λ l. Walked b (s ∷ rest) end (l ++ qs)) (sym one.2) (statement s rest end one.0 qs one.1 w)

pub list_more : (b : ℕ) (list : List Stmt) (end next : Option ℕ) (i : ℕ) (s : Stmt) (p : PlaceAt)
    (old now pushed new : List PlaceAt) → i < length list → s ≡ get_or list i s
    → next ≡ first_point (drop (i + 1) list) end → pushed ≡ now ++ p ∷ [] → seen p ≡ place_of b s next
    → HasMore pushed new (Inside b s.point next (out-StmtKind s.kind)) → ListGoes b list end old i now → ListGoes b list end old (i + 1) new
list_more b list end next i s p old now pushed new lt is at pushes sees h g =
    goes_on old now new (One b s next) (Walked b (drop i list) end) (Walked b (drop (i + 1) list) end) (Walked b list end)
    (λ ps qs one w. subst (λ l. Walked b l end (ps ++ qs)) (sym (opens list i s lt is))
    (one_joined b s (drop (i + 1) list) end ps qs (subst (λ n. One b s n ps) at one) w))
    (one_more b s next p now pushed new sees pushes h) g

-- the choices of a CASE

abbrev pub ChoicesGo : ℕ → Option ℕ → List When → List PlaceAt → ℕ → List PlaceAt → Type 0
ChoicesGo b next whens old i now = Goes old now (Chosen b next (drop i whens)) (Chosen b next whens)

pub choices_begin : (b : ℕ) (next : Option ℕ) (whens : List When) (old now : List PlaceAt) → now ≡ old → ChoicesGo b next whens old 0 now
choices_begin b next whens old now same = begins old now (Chosen b next whens) same

pub choices_end : (b : ℕ) (next : Option ℕ) (whens : List When) (old now : List PlaceAt) (i : ℕ) → length whens ≤ i
    → ChoicesGo b next whens old i now → HasMore old now (Chosen b next whens)
choices_end b next whens old now i past g = ends old now (Chosen b next (drop i whens)) (Chosen b next whens)
    (subst (λ l. Chosen b next l []) (sym (drop_of_length-le whens past)) no_choice) g

pub choices_more : (b : ℕ) (next : Option ℕ) (whens : List When) (i : ℕ) (w : When) (old now new : List PlaceAt)
    → i < length whens → w ≡ get_or whens i w → HasMore now new (Walked b (out-When w).body next)
    → ChoicesGo b next whens old i now → ChoicesGo b next whens old (i + 1) new
choices_more b next whens i w old now new lt is h g =
    goes_on old now new (Walked b (out-When w).body next) (Chosen b next (drop i whens)) (Chosen b next (drop (i + 1) whens)) (Chosen b next whens)
    (λ ps qs one more. subst (λ l. Chosen b next l (ps ++ qs)) (sym (opens whens i w lt is)) (choice w (drop (i + 1) whens) ps qs one more))
    h g

-- the texts of blocks

abbrev pub BlocksGo : List Block → List PlaceAt → ℕ → List PlaceAt → Type 0
BlocksGo blocks old i now = Goes old now (Texts i (drop i blocks)) (Texts 0 blocks)

pub blocks_begin : (blocks : List Block) (old now : List PlaceAt) → now ≡ old → BlocksGo blocks old 0 now
blocks_begin blocks old now same = begins old now (Texts 0 blocks) same

pub blocks_end : (blocks : List Block) (old now : List PlaceAt) (i : ℕ) → length blocks ≤ i → BlocksGo blocks old i now → HasMore old now (Texts 0 blocks)
blocks_end blocks old now i past g = ends old now (Texts i (drop i blocks)) (Texts 0 blocks)
    (subst (λ l. Texts i l []) (sym (drop_of_length-le blocks past)) (no_block i)) g

pub blocks_more : (blocks : List Block) (i : ℕ) (k : Block) (old now new : List PlaceAt) → i < length blocks
    → k ≡ get_or blocks i k → HasMore now new (Walked i k.body None) → BlocksGo blocks old i now
    → BlocksGo blocks old (i + 1) new
blocks_more blocks i k old now new lt is h g =
    goes_on old now new (Walked i k.body None) (Texts i (drop i blocks)) (Texts (i + 1) (drop (i + 1) blocks)) (Texts 0 blocks)
    (λ ps qs one more. subst (λ l. Texts i l (ps ++ qs)) (sym (opens blocks i k lt is)) (block i k (drop (i + 1) blocks) ps qs one more))
    h g

-- two parts, one after the other
pub two_added : (old now new : List PlaceAt) (A B C : List Place → Type 0)
    → ((ps qs : List Place) → A ps → B qs → C (ps ++ qs)) → HasMore old now A → HasMore now new B → HasMore old new C
two_added old now new A B C joined h k = record {
  added = h.added ++ k.added;
  is = k.is ∙ ap (λ l. l ++ k.added) h.is ∙ append_assoc old h.added k.added;
  are = subst C (sym (map-append seen h.added k.added)) (joined (map seen h.added) (map seen k.added) h.are k.are);
}

pub none_added : (old now : List PlaceAt) (C : List Place → Type 0) → C [] → now ≡ old → HasMore old now C
none_added old now C none same = record { added = []; is = same ∙ sym (append-nil old); are = none }

-- the first statement that is no ENTER
pub first_begin : (given ss : List Stmt) (e : Option ℕ) → given ≡ ss → first_point given e ≡ first_point ss e
first_begin given ss e same = ap (λ l. first_point l e) same

pub first_more : (ss : List Stmt) (i : ℕ) (s : Stmt) (e all : Option ℕ) → i < length ss → s ≡ get_or ss i s
    → is_enter (out-StmtKind s.kind) ≡ true → first_point (drop i ss) e ≡ all → first_point (drop (i + 1) ss) e ≡ all
first_more ss i s e all lt is enters h =
    sym (ap (λ l. first_point l e) (opens ss i s lt is) ∙ ap (λ t. if t then first_point (drop (i + 1) ss) e else Some s.point) enters) ∙ h

pub first_found : (ss : List Stmt) (i : ℕ) (s : Stmt) (e all : Option ℕ) → i < length ss → s ≡ get_or ss i s
    → is_enter (out-StmtKind s.kind) ≡ false → first_point (drop i ss) e ≡ all → Some s.point ≡ all
first_found ss i s e all lt is enters h =
    sym (ap (λ l. first_point l e) (opens ss i s lt is) ∙ ap (λ t. if t then first_point (drop (i + 1) ss) e else Some s.point) enters) ∙ h

pub first_end : (ss : List Stmt) (i : ℕ) (e all : Option ℕ) → length ss ≤ i → first_point (drop i ss) e ≡ all → e ≡ all
first_end ss i e all past h = sym (ap (λ l. first_point l e) (drop_of_length-le ss past)) ∙ h

-- the lists in a statement

pub if_added : (b p : ℕ) (next : Option ℕ) (k : StmtKind) (cond : Cond) (ys ns yes_given no_given : List Stmt)
    (old now new : List PlaceAt) → out-StmtKind k ≡ layer.If cond ys ns → yes_given ≡ ys → no_given ≡ ns
    → HasMore old now (Walked b yes_given next) → HasMore now new (Walked b no_given next)
    → HasMore old new (Inside b p next (out-StmtKind k))
if_added b p next k cond ys ns yes_given no_given old now new is ye ne h g =
    subst (λ l. HasMore old new (Inside b p next l)) (sym is)
    (two_added old now new (Walked b ys next) (Walked b ns next) (Inside b p next (layer.If cond ys ns))
    (λ ps qs v w. of_if cond ys ns ps qs v w) (subst (λ l. HasMore old now (Walked b l next)) ye h)
    (subst (λ l. HasMore now new (Walked b l next)) ne g))

pub case_added : (b p : ℕ) (next : Option ℕ) (k : StmtKind) (value : Expr) (whens whens_given : List When)
    (os os_given : List Stmt) (old now new : List PlaceAt) → out-StmtKind k ≡ layer.Case value whens os
    → whens_given ≡ whens → os_given ≡ os → HasMore old now (Chosen b next whens_given)
    → HasMore now new (Walked b os_given next)
    → HasMore old new (Inside b p next (out-StmtKind k))
case_added b p next k value whens whens_given os os_given old now new is we oe h g =
    subst (λ l. HasMore old new (Inside b p next l)) (sym is)
    (two_added old now new (Chosen b next whens) (Walked b os next) (Inside b p next (layer.Case value whens os))
    (λ ps qs v w. of_case value whens os ps qs v w) (subst (λ l. HasMore old now (Chosen b next l)) we h)
    (subst (λ l. HasMore now new (Walked b l next)) oe g))

pub on_added : (b p : ℕ) (next : Option ℕ) (k : StmtKind) (temp : ℕ) (from upto : Expr) (body given : List Stmt)
    (old new : List PlaceAt) → out-StmtKind k ≡ layer.On temp from upto body → given ≡ body
    → HasMore old new (Walked b given (Some p)) → HasMore old new (Inside b p next (out-StmtKind k))
on_added b p next k temp from upto body given old new is be h =
    subst (λ l. HasMore old new (Inside b p next l)) (sym is)
    (record { added = h.added; is = h.is; are = of_on temp from upto body (map seen h.added) (subst (λ l. Walked b l (Some p) (map seen h.added)) be h.are) })

-- a statement that is none of these three holds no statements
pub holds_none : (k : StmtKind) →
    ((c : Cond) (ys ns : List Stmt) → k ≡ kind.If c ys ns → ⊥) →
    ((e : Expr) (ws : List When) (os : List Stmt) → k ≡ kind.Case e ws os → ⊥) →
    ((t : ℕ) (e f : Expr) (body : List Stmt) → k ≡ kind.On t e f body → ⊥) → HoldsNone (out-StmtKind k)
holds_none k no_if no_case no_on = alone (out-StmtKind k) refl
  where
    alone : (l : StmtKind-F StmtKind Stmt When) → out-StmtKind k ≡ l → HoldsNone l
    alone (layer.If c ys ns) is = absurd (no_if c ys ns (same_kind k (kind.If c ys ns) _ is (kind.outs-If c ys ns)))
    alone (layer.Case e ws os) is = absurd (no_case e ws os (same_kind k (kind.Case e ws os) _ is (kind.outs-Case e ws os)))
    alone (layer.On t e f body) is = absurd (no_on t e f body (same_kind k (kind.On t e f body) _ is (kind.outs-On t e f body)))
    alone _ is = tt

pub none_inside : (b p : ℕ) (next : Option ℕ) (k : StmtKind) (old : List PlaceAt) →
    ((c : Cond) (ys ns : List Stmt) → k ≡ kind.If c ys ns → ⊥) →
    ((e : Expr) (ws : List When) (os : List Stmt) → k ≡ kind.Case e ws os → ⊥) →
    ((t : ℕ) (e f : Expr) (body : List Stmt) → k ≡ kind.On t e f body → ⊥) → HasMore old old (Inside b p next (out-StmtKind k))
none_inside b p next k old no_if no_case no_on = none_added old old (Inside b p next (out-StmtKind k))
    (of_none (out-StmtKind k) (holds_none k no_if no_case no_on)) refl

-- the places of an exchange
pub places_are : (x : Exchange) (given : List Block) (old new : List PlaceAt) → IsExchange x → given ≡ x.blocks
    → old ≡ [] → HasMore old new (Texts 0 given) → ArePlaces x (map seen new)
places_are x given old new kept same none h =
    let texts : Texts 0 x.blocks (map seen h.added) = subst (λ l. Texts 0 l (map seen h.added)) same h.are in
    let is : new ≡ h.added = h.is ∙ ap (λ l. l ++ h.added) none in
    subst (λ l. ArePlaces x (map seen l)) (sym is) (are_places x kept (map seen h.added) texts)
