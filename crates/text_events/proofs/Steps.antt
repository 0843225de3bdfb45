-- Steps of the loops that walk, and one layer of each kind.
use Rattle.std.proofs.Common.{◌≡◌, ℕ, ◌+◌, ◌<◌, ◌≤◌, List, [], ◌∷◌, length, map, drop, get_or, refl}
use Rattle.std.proofs.Common.{sym, ◌∙◌, ap, add-one, suc, zero}
use Rattle.std.proofs.Math.ListN.{drop_of_length-le}
use Rattle.std.proofs.lemmas.List.{get_or-map}
use Rattle.plex_num.proofs.Lists.{opens}
use Rattle.plex_ast.specs.declared.expr.Expr.{Expr}
use Rattle.plex_ast.specs.declared.expr.Factor.{Factor}
use Rattle.plex_ast.specs.declared.expr.Term.{Term}
use Rattle.plex_ast.specs.declared.stmt.Stmt.{Stmt}
use Rattle.plex_ast.specs.declared.stmt.When.{When, out-When}
use Rattle.plex_ast.specs.declared.stmt.StmtKind.{StmtKind, StmtKind-F, out-StmtKind}
use Rattle.plex_ast.specs.declared.stmt.StmtKind.TheOpen as layer
use Rattle.text_events.specs.Note.{Event, Nothing}
use Rattle.text_events.specs.Note as note
use Rattle.text_events.specs.Kept.{stmt_line_at}
use Rattle.text_events.specs.Seen.{head_at, head_before, begins_at, stmt_heads}
use Rattle.text_events.specs.Walk.{EventWalk, OwnWalk, add, in_turn, each_walk, expr_walk}
use Rattle.text_events.specs.Walk.{term_walk, factor_walk, factor_kind_walk, added_walk}
use Rattle.text_events.specs.Walk.{multiplied_walk, list_walk, body_walk, first_head, head_of}
use Rattle.text_events.specs.Walk.{kind_head, kind_walk, kind_walk_at, stmt_walk, when_walk}
use Rattle.text_events.proofs.There.{line_there}
use Rattle.text_events.proofs.Layers.{expr_walk-out, term_walk-out, factor_walk-out, opened}
use Rattle.text_events.proofs.Layers.{kind_walk-out, stmt_walk-out, when_walk-out}

-- the walk of all gives what that of the rest gives from here
pub record Walks {A : Type 0} (f : A → OwnWalk) (xs : List A) (i owner : ℕ) (out old : List Event) : Type 0 where
  pub same : each_walk (map f (drop i xs)) owner out ≡ each_walk (map f xs) owner old

pub walks_begin : {A : Type 0} (f : A → OwnWalk) (xs : List A) (owner : ℕ) (out : List Event) → Walks f xs 0 owner out out
walks_begin f xs owner out = record { same = refl }

pub walks_step : {A : Type 0} (f : A → OwnWalk) (xs : List A) (i owner : ℕ) (x : A) (out new old : List Event)
    → i < length xs → x ≡ get_or xs i x → new ≡ f x owner out → Walks f xs i owner out old
    → Walks f xs (i + 1) owner new old
walks_step f xs i owner x out new old inside is more w =
    record { same = rw more (ap (λ l. each_walk (map f l) owner out) (sym (opens xs i x inside is)) ∙ w.same) }

pub walks_end : {A : Type 0} (f : A → OwnWalk) (xs : List A) (i owner : ℕ) (out old : List Event) → length xs ≤ i
    → Walks f xs i owner out old → out ≡ each_walk (map f xs) owner old
walks_end f xs i owner out old past w = ap (λ l. each_walk (map f l) owner out) (sym (drop_of_length-le xs past)) ∙ w.same

-- the same of walks that need no statement
pub record Turns {A : Type 0} (f : A → EventWalk) (xs : List A) (i : ℕ) (out old : List Event) : Type 0 where
  pub same : in_turn (map f (drop i xs)) out ≡ in_turn (map f xs) old

pub turns_begin : {A : Type 0} (f : A → EventWalk) (xs : List A) (out : List Event) → Turns f xs 0 out out
turns_begin f xs out = record { same = refl }

pub turns_step : {A : Type 0} (f : A → EventWalk) (xs : List A) (i : ℕ) (x : A) (out new old : List Event)
    → i < length xs → x ≡ get_or xs i x → new ≡ f x out → Turns f xs i out old → Turns f xs (i + 1) new old
turns_step f xs i x out new old inside is more w =
    record { same = rw more (ap (λ l. in_turn (map f l) out) (sym (opens xs i x inside is)) ∙ w.same) }

pub turns_end : {A : Type 0} (f : A → EventWalk) (xs : List A) (i : ℕ) (out old : List Event) → length xs ≤ i
    → Turns f xs i out old → out ≡ in_turn (map f xs) old
turns_end f xs i out old past w = ap (λ l. in_turn (map f l) out) (sym (drop_of_length-le xs past)) ∙ w.same

-- heads

pub kind_head_is : (l : StmtKind-F StmtKind Stmt When) → (kind_walk_at (opened l)).head ≡ kind_head l
kind_head_is (layer.Assign n e) = refl
kind_head_is (layer.SetField n p e) = refl
kind_head_is (layer.Goto l) = refl
kind_head_is (layer.IfGoto c l) = refl
kind_head_is (layer.If c first other) = refl
kind_head_is (layer.Case e whens other) = refl
kind_head_is (layer.On n from upto body) = refl
kind_head_is (layer.ForFirst n file field r e l) = refl
kind_head_is (layer.Send n r es fresh) = refl
kind_head_is (layer.Retrieve n ns) = refl
kind_head_is (layer.Return n es) = refl
kind_head_is (layer.Transfer n r) = refl
kind_head_is (layer.Seize n file l) = refl
kind_head_is (layer.Free n file) = refl
kind_head_is layer.Exit = refl

pub kind_walk_head : (k : StmtKind) → (kind_walk k).head ≡ kind_head (out-StmtKind k)
kind_walk_head k = ap (λ w. w.head) (kind_walk-out k) ∙ kind_head_is (out-StmtKind k)

pub stmt_head : (s : Stmt) → (stmt_walk s).head ≡ head_of s
stmt_head s = ap (λ w. w.head) (stmt_walk-out s) ∙ kind_walk_head s.kind

first_is : (ss : List Stmt) (j : ℕ) → first_head (map stmt_walk (drop j ss)) ≡ get_or (map head_of ss) j Nothing
first_is [] zero = refl
first_is [] (suc j) = refl
first_is (s ∷ ss) zero = stmt_head s
first_is (s ∷ ss) (suc j) = first_is ss j

-- the head of a statement of a list stands at its place
own_head : (ss : List Stmt) (i : ℕ) (s : Stmt) → i < length ss → s ≡ get_or ss i s → head_at (stmt_heads ss) i ≡ (stmt_walk s).head
own_head ss i s inside is = get_or-map head_of ss i s Nothing inside ∙ ap head_of (sym is) ∙ sym (stmt_head s)

-- the same of statements, each between its neighbours
pub record ListWalks (ss : List Stmt) (i : ℕ) (out old : List Event) : Type 0 where
  pub same : list_walk (map stmt_walk (drop i ss)) (head_before (stmt_heads ss) i) out ≡ list_walk (map stmt_walk ss) Nothing old

pub list_begin : (ss : List Stmt) (out : List Event) → ListWalks ss 0 out out
list_begin ss out = record { same = refl }

-- a statement of a list is walked on its line, between its neighbours
pub stmt_in : (ss : List Stmt) (i : ℕ) (s : Stmt) (out mid new : List Event) → i < length ss → s ≡ get_or ss i s
    → mid ≡ add (stmt_line_at ss i) (begins_at (stmt_heads ss) i) out → new ≡ (kind_walk s.kind).walk (length out) mid
    → new ≡ (stmt_walk s).walk (head_before (stmt_heads ss) i) (head_at (stmt_heads ss) (suc i)) out
stmt_in ss i s out mid new inside is m e =
    let near : head_at (stmt_heads ss) i ≡ (kind_walk s.kind).head = own_head ss i s inside is ∙ ap (λ w. w.head) (stmt_walk-out s) in
    let on : stmt_line_at ss i ≡ s.line = sym (line_there (λ (x : Stmt). x.line) ss i s s.line inside is refl) in
    e ∙ ap (λ l. (kind_walk s.kind).walk (length out) l)
    (m ∙ ap (λ n. add n (begins_at (stmt_heads ss) i) out) on
    ∙ ap (λ n. add s.line (note.Begins n (head_before (stmt_heads ss) i) (head_at (stmt_heads ss) (suc i))) out)
    near) ∙ sym (ap (λ w. w.walk (head_before (stmt_heads ss) i) (head_at (stmt_heads ss) (suc i)) out)
    (stmt_walk-out s))

pub list_step : (ss : List Stmt) (i : ℕ) (s : Stmt) (out mid new old : List Event) → i < length ss → s ≡ get_or ss i s
    → mid ≡ add (stmt_line_at ss i) (begins_at (stmt_heads ss) i) out → new ≡ (kind_walk s.kind).walk (length out) mid
    → ListWalks ss i out old → ListWalks ss (i + 1) new old
list_step ss i s out mid new old inside is m e w =
    let walked : new ≡ (stmt_walk s).walk (head_before (stmt_heads ss) i) (first_head (map stmt_walk (drop (i + 1) ss))) out =
    stmt_in ss i s out mid new inside is m e ∙ ap (λ h. (stmt_walk s).walk (head_before (stmt_heads ss) i) h out)
    (sym (ap (λ j. first_head (map stmt_walk (drop j ss))) (add-one i) ∙ first_is ss (suc i))) in
    let near : head_before (stmt_heads ss) (i + 1) ≡ (stmt_walk s).head = ap (head_before (stmt_heads ss)) (add-one i) ∙ own_head ss i s inside is in
    record {
      same = ap (λ h. list_walk (map stmt_walk (drop (i + 1) ss)) h new) near
          ∙ ap (list_walk (map stmt_walk (drop (i + 1) ss)) (stmt_walk s).head) walked
          ∙ ap (λ l. list_walk (map stmt_walk l) (head_before (stmt_heads ss) i) out) (sym (opens ss i s inside is))
          ∙ w.same;
    }

pub list_end : (ss : List Stmt) (i : ℕ) (out old : List Event) → length ss ≤ i → ListWalks ss i out old → out ≡ body_walk (map stmt_walk ss) old
list_end ss i out old past w = ap (λ l. list_walk (map stmt_walk l) (head_before (stmt_heads ss) i) out) (sym (drop_of_length-le ss past)) ∙ w.same

-- one layer of what is no choice

pub expr_opened : (e : Expr) (owner : ℕ) (out mid new : List Event) → mid ≡ term_walk e.first owner out
    → new ≡ each_walk (map added_walk e.rest) owner mid → new ≡ expr_walk e owner out
expr_opened e owner out mid new m h = h ∙ ap (each_walk (map added_walk e.rest) owner) m ∙ sym (expr_walk-out e owner out)

pub term_opened : (t : Term) (owner : ℕ) (out mid new : List Event) → mid ≡ factor_walk t.first owner out
    → new ≡ each_walk (map multiplied_walk t.rest) owner mid → new ≡ term_walk t owner out
term_opened t owner out mid new m h = h ∙ ap (each_walk (map multiplied_walk t.rest) owner) m ∙ sym (term_walk-out t owner out)

pub factor_opened : (f : Factor) (owner : ℕ) (out new : List Event) → new ≡ factor_kind_walk f.kind owner out → new ≡ factor_walk f owner out
factor_opened f owner out new h = h ∙ sym (factor_walk-out f owner out)

pub when_opened : (w : When) (owner : ℕ) (out mid new : List Event)
    → mid ≡ add (out-When w).number.line (note.Chooses owner (out-When w).number.value) out
    → new ≡ body_walk (map stmt_walk (out-When w).body) mid → new ≡ when_walk w owner out
when_opened w owner out mid new m e = e ∙ ap (body_walk (map stmt_walk (out-When w).body)) m ∙ sym (when_walk-out w owner out)
