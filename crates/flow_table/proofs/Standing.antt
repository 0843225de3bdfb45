-- What is walked stands in the text.
use Rattle.std.proofs.Common.{◌≡◌, inl, inr, ℕ, suc, ◌+◌, List, ◌∷◌, Option, Some, None, slice_get}
use Rattle.std.proofs.Common.{refl, subst, arith}
use Rattle.std.specs.List.{Contains}
use Rattle.exchange_model.specs.declared.exchange.Exchange.{Exchange}
use Rattle.exchange_model.specs.declared.block.Block.{Block}
use Rattle.exchange_model.specs.declared.expr.Expr.{Expr}
use Rattle.exchange_model.specs.declared.stmt.Stmt.{Stmt}
use Rattle.exchange_model.specs.declared.stmt.When.{When, out-When}
use Rattle.exchange_model.specs.declared.stmt.StmtKind.{out-StmtKind}
use Rattle.exchange_model.specs.declared.stmt.StmtKind.TheOpen as stmt
use Rattle.source_meaning.specs.Named.{Layer}
use Rattle.source_meaning.specs.Deeds.{IsBranch}
use Rattle.source_meaning.specs.Rests.{IsRow, whole, later, branch, turn, first_point}
use Rattle.std.specs.List.{AllByRecursion}
use Rattle.plex_num.proofs.Lists.{all_append}
use Rattle.flow_points.specs.Places.{Place, place_of, IsPlace}
use Rattle.flow_table.specs.Texts.{Walked, nothing_left, statement, Chosen, no_choice, choice}
use Rattle.flow_table.specs.Texts.{Inside, of_none, of_if, of_case, of_on, Texts, no_block, block}
use Rattle.plex_num.proofs.Members.{first_is, later_is}

module _ (x : Exchange) (b : ℕ) where
  row_place : (s : Stmt) (list : List Stmt) (end : Option ℕ) → IsRow x b (s ∷ list) end → IsPlace x (place_of b s (first_point list end))
  row_place s list end row = record { stmt = s; list = list; end = end; row = row; is = refl }

  -- what is in a statement is of rows of the text
  pub record HasRows (p : ℕ) (next : Option ℕ) (l : Layer) : Type 0 where
    pub branches : (body : List Stmt) → IsBranch l body → IsRow x b body next
    pub turns : (temp : ℕ) (from upto : Expr) (body : List Stmt) → l ≡ stmt.On temp from upto body → IsRow x b body (Some p)

  pub has_rows : (s : Stmt) (rest : List Stmt) (end : Option ℕ) → IsRow x b (s ∷ rest) end → HasRows s.point (first_point rest end) (out-StmtKind s.kind)
  has_rows s rest end row = record {
    branches = λ body is. branch s rest end body row is;
    turns = λ temp from upto body is. turn s rest end temp from upto body row is;
  }

  mutual
    pub walked_stand : (list : List Stmt) (end : Option ℕ) (ps : List Place) → IsRow x b list end → Walked b list end ps → AllByRecursion (IsPlace x) ps
    walked_stand list end ps row (nothing_left e) = tt
    walked_stand list end ps row (statement s rest e inner more i w) = (
      row_place s rest e row,
      all_append (IsPlace x) inner more (inside_stand s.point (first_point rest e) (out-StmtKind s.kind) inner
          (has_rows s rest e row) i) (walked_stand rest e more (later s rest e row) w),
    )

    inside_stand : (p : ℕ) (next : Option ℕ) (l : Layer) (ps : List Place) → HasRows p next l → Inside b p next l ps → AllByRecursion (IsPlace x) ps
    inside_stand p next l ps rows (of_none m none) = tt
    inside_stand p next l ps rows (of_if cond yes_part no_part qs rs v w) =
        all_append (IsPlace x) qs rs (walked_stand yes_part next qs (rows.branches yes_part (inl refl)) v)
        (walked_stand no_part next rs (rows.branches no_part (inr refl)) w)
    inside_stand p next l ps rows (of_case value whens otherwise qs rs v w) =
        all_append (IsPlace x) qs rs
        (chosen_stand next whens qs (λ c at. rows.branches (out-When c).body (inr (c, at, refl))) v)
        (walked_stand otherwise next rs (rows.branches otherwise (inl refl)) w)
    inside_stand p next l ps rows (of_on temp from upto body qs w) = walked_stand body (Some p) qs (rows.turns temp from upto body refl) w

    chosen_stand : (next : Option ℕ) (whens : List When) (ps : List Place)
        → ((w : When) → Contains whens w → IsRow x b (out-When w).body next) → Chosen b next whens ps
        → AllByRecursion (IsPlace x) ps
    chosen_stand next whens ps rows no_choice = tt
    chosen_stand next whens ps rows (choice w more qs rs v u) =
        all_append (IsPlace x) qs rs (walked_stand (out-When w).body next qs (rows w (first_is w more)) v)
        (chosen_stand next more rs (λ c at. rows c (later_is w c more at)) u)

-- a list from a place on, and from the next one
pub get_later : {A : Type 0} (xs all : List A) (y : A) (n : ℕ)
    → ((i : ℕ) (z : A) → slice_get (y ∷ xs) i ≡ Some z → slice_get all (n + i) ≡ Some z) → (i : ℕ) (z : A)
    → slice_get xs i ≡ Some z → slice_get all (n + 1 + i) ≡ Some z
get_later xs all y n h i z is = (let e : n + suc i ≡ n + 1 + i = omega arith in subst (λ m. slice_get all m ≡ Some z) e (h (suc i) z is))

module _ (x : Exchange) where
  texts_from : (b : ℕ) (blocks : List Block) (ps : List Place)
      → ((i : ℕ) (k : Block) → slice_get blocks i ≡ Some k → slice_get x.blocks (b + i) ≡ Some k) → Texts b blocks ps
      → AllByRecursion (IsPlace x) ps
  texts_from b blocks ps are (no_block c) = tt
  texts_from b blocks ps are (block c k rest qs rs w t) =
      all_append (IsPlace x) qs rs
      (walked_stand x b k.body None qs (whole k (let e : b + 0 ≡ b = omega arith in subst (λ n. slice_get x.blocks n ≡ Some k) e (are 0 k refl))) w)
      (texts_from (b + 1) rest rs (get_later rest x.blocks k b are) t)

  pub texts_stand : (ps : List Place) → Texts 0 x.blocks ps → AllByRecursion (IsPlace x) ps
  texts_stand ps t = texts_from 0 x.blocks ps (λ i k there. (let e : i ≡ 0 + i = omega arith in subst (λ n. slice_get x.blocks n ≡ Some k) e there)) t
