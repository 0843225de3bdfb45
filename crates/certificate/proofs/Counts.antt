-- A count of references, as far as a walk has come.
use Rattle.std.proofs.Common.{◌≡◌, ℕ, ◌+◌, ◌<◌, ◌≤◌, Bool, cond, min, List, [], ◌∷◌, ◌++◌, length}
use Rattle.std.proofs.Common.{drop, get_or, Option, Some, None, refl, sym, ap, ◌∙◌, subst}
use Rattle.std.proofs.Common.{append-nil, append_assoc, arith}
use Rattle.std.proofs.lemmas.List.Sums.{count_by-le-length, sum_by-append, sum_by-cons}
use Rattle.std.proofs.Math.ListN.{drop_of_length-le}
use Rattle.plex_limits.specs.declared.limits.TheConstants.{MOST_STATEMENTS}
use Rattle.plex_num.proofs.Lists.{opens}
use Rattle.exchange_model.specs.declared.block.Block.{Block}
use Rattle.exchange_model.specs.declared.exchange.Exchange.{Exchange}
use Rattle.exchange_model.specs.declared.expr.Cond.{Cond}
use Rattle.exchange_model.specs.declared.expr.Expr.{Expr}
use Rattle.exchange_model.specs.declared.stmt.Stmt.{Stmt}
use Rattle.exchange_model.specs.declared.stmt.When.{When, out-When}
use Rattle.exchange_model.specs.declared.stmt.StmtKind.{StmtKind, out-StmtKind}
use Rattle.exchange_model.specs.declared.stmt.StmtKind.TheOpen as layer
use Rattle.exchange_model.specs.declared.stmt.StmtKind.TheVariants as kind
use Rattle.exchange_model.specs.Kept.{IsExchange}
use Rattle.source_meaning.specs.Rests.{first_point}
use Rattle.flow_points.specs.Places.{Place}
use Rattle.flow_table.specs.Texts.{ArePlaces, Chosen, Inside, Texts, Walked, block, choice}
use Rattle.flow_table.specs.Texts.{no_block, no_choice, nothing_left, of_case, of_if, of_none}
use Rattle.flow_table.specs.Texts.{of_on, statement}
use Rattle.flow_table.proofs.Numbered.{are_places}
use Rattle.flow_table.proofs.Walking.{holds_none}
use Rattle.certificate.specs.Referring.{Counts, WithThose}
use Rattle.certificate_meaning.specs.Shapes.{HasReferences, referring, refers}

-- the greatest number that is counted to
abbrev top : ℕ
top = 4294967295

-- so many of some places refer, and these are all but for those that are left
pub record Goes (Left All : List Place → Type 0) (n : ℕ) : Type 0 where
  pub places : List Place
  pub all : (more : List Place) → Left more → All (places ++ more)
  pub so : referring places ≤ MOST_STATEMENTS → n ≡ referring places

both_refer : (ps qs : List Place) → referring (ps ++ qs) ≡ referring ps + referring qs
both_refer ps qs = sum_by-append (λ (p : Place). cond (refers p.layer) 1 0) ps qs

sum_told : (ps qs : List Place) (a b r : ℕ) → (referring ps ≤ MOST_STATEMENTS → a ≡ referring ps)
    → (referring qs ≤ MOST_STATEMENTS → b ≡ referring qs) → r ≡ min (a + b) top → referring (ps ++ qs) ≤ MOST_STATEMENTS
    → r ≡ referring (ps ++ qs)
sum_told ps qs a b r one other added few =
    let sum : referring (ps ++ qs) ≡ referring ps + referring qs = both_refer ps qs in
    let first : a ≡ referring ps = one (omega (arith, sum, few)) in
    let second : b ≡ referring qs = other (omega (arith, sum, few)) in
    omega (arith, added, first, second, sum, few)

both : (A B C : List Place → Type 0) (a b r : ℕ) → ((ps qs : List Place) → A ps → B qs → C (ps ++ qs)) → Counts A a
    → Counts B b → r ≡ min (a + b) top → Counts C r
both A B C a b r joined one other added = record {
  places = one.places ++ other.places;
  are = joined one.places other.places one.are other.are;
  so = sum_told one.places other.places a b r one.so other.so added;
}

begins : (All : List Place → Type 0) → Goes All All 0
begins All = record { places = []; all = λ more h. h; so = λ few. refl }

ends : (Left All : List Place → Type 0) (n : ℕ) → Left [] → Goes Left All n → Counts All n
ends Left All n none g = record { places = g.places; are = subst All (append-nil g.places) (g.all [] none); so = g.so }

-- the next part is counted
goes_on : (Part Left Rest All : List Place → Type 0) (n part r : ℕ)
    → ((ps qs : List Place) → Part ps → Rest qs → Left (ps ++ qs)) → Counts Part part → r ≡ min (n + part) top
    → Goes Left All n → Goes Rest All r
goes_on Part Left Rest All n part r joined h added g = record {
  places = g.places ++ h.places;
  all = λ more rest. subst All (sym (append_assoc g.places h.places more)) (g.all (h.places ++ more) (joined h.places more h.are rest));
  so = sum_told g.places h.places n part r g.so h.so added;
}

-- the statements of a list

abbrev pub ListGoes : List Stmt → ℕ → ℕ → Type 0
ListGoes list i n = (b : ℕ) (end : Option ℕ) → Goes (Walked b (drop i list) end) (Walked b list end) n

pub list_begin : (list : List Stmt) → ListGoes list 0 0
list_begin list b end = begins (Walked b list end)

pub list_end : (list : List Stmt) (i n : ℕ) → length list ≤ i → ListGoes list i n → (b : ℕ) (end : Option ℕ) → Counts (Walked b list end) n
list_end list i n past g b end = ends (Walked b (drop i list) end) (Walked b list end) n
    (subst (λ l. Walked b l end []) (sym (drop_of_length-le list past)) (nothing_left end)) (g b end)

one_joined : (b : ℕ) (s : Stmt) (rest : List Stmt) (end : Option ℕ) (ps qs : List Place)
    → WithThose b s.point (first_point rest end) (out-StmtKind s.kind) ps → Walked b rest end qs
    → Walked b (s ∷ rest) end (ps ++ qs)
one_joined b s rest end ps qs one w = subst (λ l. Walked b (s ∷ rest) end (l ++ qs)) (sym one.2) (statement s rest end one.0 qs one.1 w)

pub list_more : (list : List Stmt) (i : ℕ) (s : Stmt) (n one r : ℕ) → i < length list → s ≡ get_or list i s
    → ((b p : ℕ) (next : Option ℕ) → Counts (WithThose b p next (out-StmtKind s.kind)) one) → r ≡ min (n + one) top
    → ListGoes list i n → ListGoes list (i + 1) r
list_more list i s n one r lt is counted added g b end =
    let rest : List Stmt = drop (i + 1) list in
    goes_on (WithThose b s.point (first_point rest end) (out-StmtKind s.kind)) (Walked b (drop i list) end) (Walked b rest end) (Walked b list end) n one r
    (λ ps qs here w. subst (λ l. Walked b l end (ps ++ qs)) (sym (opens list i s lt is)) (one_joined b s rest end ps qs here w))
    (counted b s.point (first_point rest end)) added (g b end)

-- the choices of a CASE

abbrev pub ChoicesGo : List When → ℕ → ℕ → Type 0
ChoicesGo whens i n = (b : ℕ) (next : Option ℕ) → Goes (Chosen b next (drop i whens)) (Chosen b next whens) n

pub choices_begin : (whens : List When) → ChoicesGo whens 0 0
choices_begin whens b next = begins (Chosen b next whens)

pub choices_end : (whens : List When) (i n : ℕ) → length whens ≤ i → ChoicesGo whens i n → (b : ℕ) (next : Option ℕ) → Counts (Chosen b next whens) n
choices_end whens i n past g b next = ends (Chosen b next (drop i whens)) (Chosen b next whens) n
    (subst (λ l. Chosen b next l []) (sym (drop_of_length-le whens past)) no_choice) (g b next)

pub choices_more : (whens : List When) (i : ℕ) (w : When) (given : List Stmt) (n one r : ℕ) → i < length whens
    → w ≡ get_or whens i w → given ≡ (out-When w).body → ((b : ℕ) (end : Option ℕ) → Counts (Walked b given end) one)
    → r ≡ min (n + one) top → ChoicesGo whens i n → ChoicesGo whens (i + 1) r
choices_more whens i w given n one r lt is same counted added g b next =
    goes_on (Walked b (out-When w).body next) (Chosen b next (drop i whens)) (Chosen b next (drop (i + 1) whens)) (Chosen b next whens) n one r
    (λ ps qs here more. subst (λ l. Chosen b next l (ps ++ qs)) (sym (opens whens i w lt is)) (choice w (drop (i + 1) whens) ps qs here more))
    (subst (λ (l : List Stmt). Counts (Walked b l next) one) same (counted b next)) added (g b next)

-- the texts of blocks

abbrev pub BlocksGo : List Block → ℕ → ℕ → Type 0
BlocksGo blocks i n = Goes (Texts i (drop i blocks)) (Texts 0 blocks) n

pub blocks_begin : (blocks : List Block) → BlocksGo blocks 0 0
blocks_begin blocks = begins (Texts 0 blocks)

pub blocks_end : (blocks : List Block) (i n : ℕ) → length blocks ≤ i → BlocksGo blocks i n → Counts (Texts 0 blocks) n
blocks_end blocks i n past g = ends (Texts i (drop i blocks)) (Texts 0 blocks) n
    (subst (λ l. Texts i l []) (sym (drop_of_length-le blocks past)) (no_block i)) g

pub blocks_more : (blocks : List Block) (i : ℕ) (k : Block) (given : List Stmt) (n one r : ℕ) → i < length blocks
    → k ≡ get_or blocks i k → given ≡ k.body → ((b : ℕ) (end : Option ℕ) → Counts (Walked b given end) one)
    → r ≡ min (n + one) top → BlocksGo blocks i n → BlocksGo blocks (i + 1) r
blocks_more blocks i k given n one r lt is same counted added g =
    goes_on (Walked i k.body None) (Texts i (drop i blocks)) (Texts (i + 1) (drop (i + 1) blocks)) (Texts 0 blocks) n one r
    (λ ps qs here more. subst (λ l. Texts i l (ps ++ qs)) (sym (opens blocks i k lt is)) (block i k (drop (i + 1) blocks) ps qs here more))
    (subst (λ (l : List Stmt). Counts (Walked i l None) one) same (counted i None)) added g

-- a statement, and those in it

pub statement_told : (b p : ℕ) (next : Option ℕ) (k : StmtKind) (t : Bool) (one inner r : ℕ)
    → t ≡ refers (out-StmtKind k) → one ≡ cond t 1 0 → Counts (Inside b p next (out-StmtKind k)) inner
    → r ≡ min (one + inner) top → Counts (WithThose b p next (out-StmtKind k)) r
statement_told b p next k t one inner r tests told h added =
    let here : Place = record { block = b; point = p; layer = out-StmtKind k; next = next } in
    let own : one ≡ referring (here ∷ []) = told ∙ ap (λ (u : Bool). cond u 1 0) tests
    ∙ none (cond (refers (out-StmtKind k)) 1 0)
    ∙ sym (sum_by-cons (λ (q : Place). cond (refers q.layer) 1 0) here []) in
    record { places = here ∷ h.places; are = (h.places, h.are, refl); so = sum_told (here ∷ []) h.places one inner r (λ few. own) h.so added }
  where
    none : (n : ℕ) → n ≡ n + 0
    none n = omega arith

pub if_told : (b p : ℕ) (next : Option ℕ) (k : StmtKind) (c : Cond) (ys ns yes_given no_given : List Stmt) (y n r : ℕ)
    → out-StmtKind k ≡ layer.If c ys ns → yes_given ≡ ys → no_given ≡ ns → Counts (Walked b yes_given next) y
    → Counts (Walked b no_given next) n → r ≡ min (y + n) top → Counts (Inside b p next (out-StmtKind k)) r
if_told b p next k c ys ns yes_given no_given y n r is ye ne h g added =
    subst (λ l. Counts (Inside b p next l) r) (sym is)
    (both (Walked b ys next) (Walked b ns next) (Inside b p next (layer.If c ys ns)) y n r
    (λ ps qs v w. of_if c ys ns ps qs v w) (subst (λ l. Counts (Walked b l next) y) ye h)
    (subst (λ l. Counts (Walked b l next) n) ne g) added)

pub case_told : (b p : ℕ) (next : Option ℕ) (k : StmtKind) (value : Expr) (whens whens_given : List When)
    (os os_given : List Stmt) (w n r : ℕ) → out-StmtKind k ≡ layer.Case value whens os → whens_given ≡ whens
    → os_given ≡ os → Counts (Chosen b next whens_given) w → Counts (Walked b os_given next) n → r ≡ min (w + n) top
    → Counts (Inside b p next (out-StmtKind k)) r
case_told b p next k value whens whens_given os os_given w n r is we oe h g added =
    subst (λ l. Counts (Inside b p next l) r) (sym is)
    (both (Chosen b next whens) (Walked b os next) (Inside b p next (layer.Case value whens os)) w n r
    (λ ps qs v u. of_case value whens os ps qs v u) (subst (λ l. Counts (Chosen b next l) w) we h)
    (subst (λ l. Counts (Walked b l next) n) oe g) added)

pub on_told : (b p : ℕ) (next : Option ℕ) (k : StmtKind) (temp : ℕ) (from upto : Expr) (body given : List Stmt) (n : ℕ)
    → out-StmtKind k ≡ layer.On temp from upto body → given ≡ body → Counts (Walked b given (Some p)) n
    → Counts (Inside b p next (out-StmtKind k)) n
on_told b p next k temp from upto body given n is be h =
    subst (λ l. Counts (Inside b p next l) n) (sym is)
    (record { places = h.places; are = of_on temp from upto body h.places (subst (λ l. Walked b l (Some p) h.places) be h.are); so = h.so })

pub none_told : (b p : ℕ) (next : Option ℕ) (k : StmtKind) →
    ((c : Cond) (ys ns : List Stmt) → k ≡ kind.If c ys ns → ⊥) →
    ((e : Expr) (ws : List When) (os : List Stmt) → k ≡ kind.Case e ws os → ⊥) →
    ((t : ℕ) (e f : Expr) (body : List Stmt) → k ≡ kind.On t e f body → ⊥) → Counts (Inside b p next (out-StmtKind k)) 0
none_told b p next k no_if no_case no_on = record { places = []; are = of_none (out-StmtKind k) (holds_none k no_if no_case no_on); so = λ few. refl }

-- those of an exchange
pub references_told : (x : Exchange) (given : List Block) (n : ℕ) → IsExchange x → given ≡ x.blocks
    → length x.points ≤ MOST_STATEMENTS → Counts (Texts 0 given) n → HasReferences x n
references_told x given n kept same few h =
    let all : ArePlaces x h.places = are_places x kept h.places (subst (λ l. Texts 0 l h.places) same h.are) in
    record { places = h.places; all = all; so = h.so (omega (arith, few, all.each_point, count_by-le-length (λ (p : Place). refers p.layer) h.places)) }
