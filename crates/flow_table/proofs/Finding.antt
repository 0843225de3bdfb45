-- What stands in the text is walked.
use Rattle.std.proofs.Common.{◌≡◌, inl, inr, ℕ, zero, suc, ◌+◌, List, [], ◌∷◌, ◌++◌, Option, Some}
use Rattle.std.proofs.Common.{None, slice_get, refl, sym, subst, arith}
use Rattle.std.proofs.lemmas.List.Elements.{Contains-append_left, Contains-append_right}
use Rattle.std.proofs.lemmas.Option.{none-some, same_Some}
use Rattle.std.specs.List.{Contains}
use Rattle.exchange_model.specs.declared.exchange.Exchange.{Exchange}
use Rattle.exchange_model.specs.declared.block.Block.{Block}
use Rattle.exchange_model.specs.declared.stmt.Stmt.{Stmt}
use Rattle.exchange_model.specs.declared.stmt.When.{When, out-When}
use Rattle.exchange_model.specs.declared.stmt.StmtKind.{out-StmtKind}
use Rattle.exchange_model.specs.declared.stmt.StmtKind.TheOpen as stmt
use Rattle.source_meaning.specs.Named.{Layer}
use Rattle.source_meaning.specs.Deeds.{IsBranch}
use Rattle.source_meaning.specs.Rests.{IsRow, whole, later, branch, turn, first_point}
use Rattle.source_meaning.proofs.Lists.{Within}
use Rattle.flow_points.specs.Places.{Place, place_of, IsPlace}
use Rattle.flow_table.specs.Texts.{HoldsNone, Walked, nothing_left, statement, Chosen, no_choice}
use Rattle.flow_table.specs.Texts.{choice, Inside, of_none, of_if, of_case, of_on, Texts, no_block}
use Rattle.flow_table.specs.Texts.{block}
use Rattle.plex_num.proofs.Members.{first_is, later_is}

-- the places of these statements are among those
pub record Found (b : ℕ) (list : List Stmt) (end : Option ℕ) (all : List Place) : Type 0 where
  pub places : List Place
  pub walked : Walked b list end places
  pub within : Within places all

found_more : (b : ℕ) (list : List Stmt) (end : Option ℕ) (ps all : List Place) → Within ps all → Found b list end ps → Found b list end all
found_more b list end ps all more f = record { places = f.places; walked = f.walked; within = λ p at. more p (f.within p at) }

in_left : (ps qs : List Place) → Within ps (ps ++ qs)
in_left ps qs p at = Contains-append_left ps qs p at

in_right : (ps qs : List Place) → Within qs (ps ++ qs)
in_right ps qs p at = Contains-append_right ps qs p at

all_of : (b : ℕ) (list : List Stmt) (end : Option ℕ) (ps : List Place) → Walked b list end ps → Found b list end ps
all_of b list end ps w = record { places = ps; walked = w; within = λ p at. at }

-- a row whose first statement is this one
pub record Opened (b : ℕ) (s : Stmt) (list : List Stmt) (end : Option ℕ) (all : List Place) : Type 0 where
  pub inner : List Place
  pub later : List Place
  pub here : Contains all (place_of b s (first_point list end))
  pub inside : Inside b s.point (first_point list end) (out-StmtKind s.kind) inner
  pub inner_within : Within inner all
  pub rest : Walked b list end later
  pub later_within : Within later all

-- the first of a row
abbrev Opens : ℕ → List Stmt → Option ℕ → List Place → Type 0
Opens b [] end all = Unit {0}
Opens b (s ∷ list) end all = Opened b s list end all

opens : (b : ℕ) (list : List Stmt) (end : Option ℕ) (ps all : List Place) → Walked b list end ps → Within ps all → Opens b list end all
opens b list end ps all (nothing_left e) within = tt
opens b list end ps all (statement s rest e inner more i w) within = record {
  inner = inner;
  later = more;
  here = within (place_of b s (first_point rest e)) (first_is (place_of b s (first_point rest e)) (inner ++ more));
  inside = i;
  inner_within = λ p at. within p (later_is (place_of b s (first_point rest e)) p (inner ++ more) (Contains-append_left inner more p at));
  rest = w;
  later_within = λ p at. within p (later_is (place_of b s (first_point rest e)) p (inner ++ more) (Contains-append_right inner more p at));
}

chosen_has : (b : ℕ) (next : Option ℕ) (whens : List When) (ps : List Place) → Chosen b next whens ps → (w : When)
    → Contains whens w → Found b (out-When w).body next ps
chosen_has b next whens ps no_choice w at = absurd (let lt = at.1 in omega arith)
chosen_has b next whens ps (choice c rest qs rs v u) w (zero, lt, is) = subst
    (λ (d : When). Found b (out-When d).body next (qs ++ rs)) is
    (found_more b (out-When c).body next qs (qs ++ rs) (in_left qs rs) (all_of b (out-When c).body next qs v))
chosen_has b next whens ps (choice c rest qs rs v u) w (suc i, lt, is) = found_more b (out-When w).body next rs
    (qs ++ rs) (in_right qs rs) (chosen_has b next rest rs u w (i, (let h = lt in omega arith), is))

none_branch : (l : Layer) (body : List Stmt) → HoldsNone l → IsBranch l body → ⊥
none_branch (stmt.If cond yes_part no_part) body none is = none
none_branch (stmt.Case value whens otherwise) body none is = none
none_branch _ body none is = is

inside_branch : (b p : ℕ) (next : Option ℕ) (l : Layer) (ps : List Place) → Inside b p next l ps → (body : List Stmt) → IsBranch l body → Found b body next ps
inside_branch b p next l ps (of_none m none) body is = absurd (none_branch m body none is)
inside_branch b p next l ps (of_if cond yes_part no_part qs rs v w) body (inl is) = subst
    (λ list. Found b list next (qs ++ rs)) (sym is)
    (found_more b yes_part next qs (qs ++ rs) (in_left qs rs) (all_of b yes_part next qs v))
inside_branch b p next l ps (of_if cond yes_part no_part qs rs v w) body (inr is) = subst
    (λ list. Found b list next (qs ++ rs)) (sym is)
    (found_more b no_part next rs (qs ++ rs) (in_right qs rs) (all_of b no_part next rs w))
inside_branch b p next l ps (of_case value whens otherwise qs rs v w) body (inl is) = subst
    (λ list. Found b list next (qs ++ rs)) (sym is)
    (found_more b otherwise next rs (qs ++ rs) (in_right qs rs) (all_of b otherwise next rs w))
inside_branch b p next l ps (of_case value whens otherwise qs rs v w) body (inr is) =
    subst (λ list. Found b list next (qs ++ rs)) (sym is.2)
    (found_more b (out-When is.0).body next qs (qs ++ rs) (in_left qs rs) (chosen_has b next whens qs v is.0 is.1))
inside_branch b p next l ps (of_on temp from upto other qs w) body is = absurd is

-- the body of an ON
abbrev IsTurn : Layer → List Stmt → Type 0
IsTurn (stmt.On temp from upto body) list = list ≡ body
IsTurn _ list = ⊥

none_turn : (l : Layer) (body : List Stmt) → HoldsNone l → IsTurn l body → ⊥
none_turn (stmt.On temp from upto other) body none is = none
none_turn _ body none is = is

inside_turn : (b p : ℕ) (next : Option ℕ) (l : Layer) (ps : List Place) → Inside b p next l ps → (body : List Stmt) → IsTurn l body → Found b body (Some p) ps
inside_turn b p next l ps (of_none m none) body is = absurd (none_turn m body none is)
inside_turn b p next l ps (of_if cond yes_part no_part qs rs v w) body is = absurd is
inside_turn b p next l ps (of_case value whens otherwise qs rs v w) body is = absurd is
inside_turn b p next l ps (of_on temp from upto other qs w) body is = subst (λ list. Found b list (Some p) qs) (sym is) (all_of b other (Some p) qs w)

texts_have : (b : ℕ) (blocks : List Block) (ps : List Place) → Texts b blocks ps → (i : ℕ) (k : Block)
    → slice_get blocks i ≡ Some k → Found (b + i) k.body None ps
texts_have b blocks ps (no_block c) i k there = absurd (none-some k there)
texts_have b blocks ps (block c k rest qs rs w t) zero other there =
    let e : b ≡ b + 0 = omega arith in
    subst (λ n. Found n other.body None (qs ++ rs)) e
    (subst (λ (d : Block). Found b d.body None (qs ++ rs)) (same_Some k other there)
    (found_more b k.body None qs (qs ++ rs) (in_left qs rs) (all_of b k.body None qs w)))
texts_have b blocks ps (block c k rest qs rs w t) (suc i) other there =
    let e : b + 1 + i ≡ b + suc i = omega arith in
    subst (λ n. Found n other.body None (qs ++ rs)) e
    (found_more (b + 1 + i) other.body None rs (qs ++ rs) (in_right qs rs)
    (texts_have (b + 1) rest rs t i other there))

module _ (x : Exchange) (all : List Place) (texts : Texts 0 x.blocks all) where
  opened : (b : ℕ) (s : Stmt) (list : List Stmt) (end : Option ℕ) → Found b (s ∷ list) end all → Opened b s list end all
  opened b s list end f = opens b (s ∷ list) end f.places all f.walked f.within

  pub row_found : (b : ℕ) (list : List Stmt) (end : Option ℕ) → IsRow x b list end → Found b list end all
  row_found b list end (whole k there) = (let e : 0 + b ≡ b = omega arith in subst (λ n. Found n k.body None all) e (texts_have 0 x.blocks all texts b k there))
  row_found b list end (later s rest e row) =
      let o = opened b s rest e (row_found b (s ∷ rest) e row) in
      record { places = o.later; walked = o.rest; within = o.later_within }
  row_found b list end (branch s rest e body row is) =
      let o = opened b s rest e (row_found b (s ∷ rest) e row) in
      found_more b body (first_point rest e) o.inner all o.inner_within
      (inside_branch b s.point (first_point rest e) (out-StmtKind s.kind) o.inner o.inside body is)
  row_found b list end (turn s rest e temp from upto body row is) =
      let o = opened b s rest e (row_found b (s ∷ rest) e row) in
      found_more b body (Some s.point) o.inner all o.inner_within
      (inside_turn b s.point (first_point rest e) (out-StmtKind s.kind) o.inner o.inside body
      (subst (λ l. IsTurn l body) (sym is) refl))

  pub place_found : (p : Place) → IsPlace x p → Contains all p
  place_found p h = subst (Contains all) (sym h.is) (opened p.block h.stmt h.list h.end (row_found p.block (h.stmt ∷ h.list) h.end h.row)).here
