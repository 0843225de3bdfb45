-- What is walked stands at its point.
use Rattle.std.proofs.Common.{◌≡◌, ℕ, zero, suc, ◌+◌, List, [], ◌∷◌, ◌++◌, length, map, Option}
use Rattle.std.proofs.Common.{Some, None, slice_get, refl, sym, ap, ◌∙◌, subst, arith}
use Rattle.std.proofs.lemmas.List.{length-map, map-append}
use Rattle.std.proofs.lemmas.List.FromFn.{length-range_with_len}
use Rattle.std.proofs.lemmas.Option.{none-some, same_Some}
use Rattle.std.specs.List.{Contains, range_with_len}
use Rattle.exchange_model.specs.declared.exchange.Exchange.{Exchange}
use Rattle.exchange_model.specs.declared.block.Block.{Block}
use Rattle.exchange_model.specs.declared.stmt.Stmt.{Stmt}
use Rattle.exchange_model.specs.declared.stmt.When.{When, out-When}
use Rattle.exchange_model.specs.declared.stmt.StmtKind.{out-StmtKind}
use Rattle.exchange_model.specs.declared.stmt.StmtKind.TheOpen as stmt
use Rattle.exchange_model.specs.Inside.{PointLine, joined, spots, inner_spots}
use Rattle.exchange_model.specs.Kept.{IsExchange, all_spots}
use Rattle.exchange_model.specs.PartCounts.{when_spots, parts_spots}
use Rattle.exchange_model.proofs.Counted.{inner_spots-out}
use Rattle.source_meaning.specs.Named.{Layer}
use Rattle.source_meaning.specs.Rests.{first_point}
use Rattle.source_meaning.proofs.Lists.{all_contained}
use Rattle.source_meaning.proofs.Points.{points_many}
use Rattle.flow_points.specs.Places.{Place, IsPlace, StandsAt}
use Rattle.flow_table.specs.Texts.{HoldsNone, Walked, nothing_left, statement, Chosen, no_choice}
use Rattle.flow_table.specs.Texts.{choice, Inside, of_none, of_if, of_case, of_on, Texts, no_block}
use Rattle.flow_table.specs.Texts.{block, ArePlaces}
use Rattle.flow_table.proofs.Standing.{texts_stand}
use Rattle.flow_table.proofs.Finding.{place_found}

abbrev points : List Place → List ℕ
points ps = map (λ (p : Place). p.point) ps

abbrev numbers : List PointLine → List ℕ
numbers ss = map (λ (s : PointLine). s.point) ss

two : (ps qs : List Place) (ss ts : List PointLine) → points ps ≡ numbers ss → points qs ≡ numbers ts → points (ps ++ qs) ≡ numbers (ss ++ ts)
two ps qs ss ts e f = map-append (λ (p : Place). p.point) ps qs ∙ ap (λ l. l ++ points qs) e
    ∙ ap (λ l. numbers ss ++ l) f ∙ sym (map-append (λ (s : PointLine). s.point) ss ts)

none_spots : (l : Layer) → HoldsNone l → [] ≡ numbers (parts_spots l)
none_spots (stmt.If cond yes_part no_part) none = absurd none
none_spots (stmt.Case value whens otherwise) none = absurd none
none_spots (stmt.On temp from upto body) none = absurd none
none_spots _ none = refl

mutual
  walked_points : (b : ℕ) (list : List Stmt) (end : Option ℕ) (ps : List Place) → Walked b list end ps → points ps ≡ numbers (spots list)
  walked_points b list end ps (nothing_left e) = refl
  walked_points b list end ps (statement s rest e inner more i w) =
      let here : points inner ≡ numbers (inner_spots s.kind) = inside_points b s.point (first_point rest e)
      (out-StmtKind s.kind) inner i ∙ sym (ap numbers (inner_spots-out s.kind)) in
      ap (λ l. s.point ∷ l) (two inner more (inner_spots s.kind) (spots rest) here (walked_points b rest e more w))

  chosen_points : (b : ℕ) (next : Option ℕ) (whens : List When) (ps : List Place) → Chosen b next whens ps → points ps ≡ numbers (joined (map when_spots whens))
  chosen_points b next whens ps no_choice = refl
  chosen_points b next whens ps (choice w rest qs rs v u) = two qs rs (when_spots w) (joined (map when_spots rest))
      (walked_points b (out-When w).body next qs v) (chosen_points b next rest rs u)

  inside_points : (b p : ℕ) (next : Option ℕ) (l : Layer) (ps : List Place) → Inside b p next l ps → points ps ≡ numbers (parts_spots l)
  inside_points b p next l ps (of_none m none) = none_spots m none
  inside_points b p next l ps (of_if cond yes_part no_part qs rs v w) = two qs rs (spots yes_part) (spots no_part)
      (walked_points b yes_part next qs v) (walked_points b no_part next rs w)
  inside_points b p next l ps (of_case value whens otherwise qs rs v w) = two qs rs (joined (map when_spots whens))
      (spots otherwise) (chosen_points b next whens qs v) (walked_points b otherwise next rs w)
  inside_points b p next l ps (of_on temp from upto body qs w) = walked_points b body (Some p) qs w

texts_points : (b : ℕ) (blocks : List Block) (ps : List Place) → Texts b blocks ps → points ps ≡ numbers (all_spots blocks)
texts_points b blocks ps (no_block c) = refl
texts_points b blocks ps (block c k rest qs rs w t) = two qs rs (spots k.body) (all_spots rest)
    (walked_points b k.body None qs w) (texts_points (b + 1) rest rs t)

-- places whose points count from a number on
counted_at : (n a : ℕ) (ps : List Place) → points ps ≡ range_with_len a n → (i : ℕ) (p : Place) → slice_get ps i ≡ Some p → p.point ≡ a + i
counted_at n a [] e i p there = absurd (none-some p there)
counted_at zero a (q ∷ ps) e i p there = absurd (let long : length (points (q ∷ ps)) ≡ length (range_with_len a zero) = ap length e in omega arith)
counted_at (suc n) a (q ∷ ps) e zero p there = (let is : q.point
    ≡ a = heads q.point a (points ps) (range_with_len (a + 1) n) e in subst (λ (r : Place). r.point ≡ a + 0)
    (same_Some q p there) (omega arith))
  where
    heads : (u v : ℕ) (us vs : List ℕ) → u ∷ us ≡ v ∷ vs → u ≡ v
    heads u v us vs e = cc
counted_at (suc n) a (q ∷ ps) e (suc i) p there =
    let tail : points ps ≡ range_with_len (a + 1) n = tails q.point a (points ps) (range_with_len (a + 1) n) e in
    let is : p.point ≡ a + 1 + i = counted_at n (a + 1) ps tail i p there in
    omega arith
  where
    tails : (u v : ℕ) (us vs : List ℕ) → u ∷ us ≡ v ∷ vs → us ≡ vs
    tails u v us vs e = cc

-- an element is at some place
pub record Somewhere {A : Type 0} (xs : List A) (x : A) : Type 0 where
  pub place : ℕ
  pub is : slice_get xs place ≡ Some x

pub somewhere : {A : Type 0} (xs : List A) (x : A) → Contains xs x → Somewhere xs x
somewhere [] x h = absurd (let lt = h.1 in omega arith)
somewhere (y ∷ xs) x (zero, lt, is) = record { place = 0; is = ap Some is }
somewhere (y ∷ xs) x (suc i, lt, is) =
    let s = somewhere xs x (i, (let h = lt in omega arith), is) in
    record { place = suc s.place; is = s.is }

pub at_contains : {A : Type 0} (xs : List A) (i : ℕ) (x : A) → slice_get xs i ≡ Some x → Contains xs x
at_contains [] i x there = absurd (none-some x there)
at_contains (y ∷ xs) zero x there = (0, omega arith, same_Some y x there)
at_contains (y ∷ xs) (suc i) x there = (let c = at_contains xs i x there in let lt = c.1 in (suc c.0, omega arith, c.2))

module _ (x : Exchange) (kept : IsExchange x) (ps : List Place) (texts : Texts 0 x.blocks ps) where
  counted : points ps ≡ range_with_len 0 (length (all_spots x.blocks))
  counted = texts_points 0 x.blocks ps texts ∙ kept.numbered.statements

  point_at : (i : ℕ) (p : Place) → slice_get ps i ≡ Some p → p.point ≡ i
  point_at i p there = (let is : p.point ≡ 0 + i = counted_at (length (all_spots x.blocks)) 0 ps counted i p there in omega arith)

  long : length ps ≡ length x.points
  long =
      let mapped : length (points ps) ≡ length ps = length-map ps (λ (p : Place). p.point) in
      let range : length (points ps) ≡ length (all_spots x.blocks) = ap length counted ∙ length-range_with_len 0 (length (all_spots x.blocks)) in
      let many : length x.points ≡ length (all_spots x.blocks) = ap length kept.numbered.points ∙ points_many 0 x.blocks in
      omega arith

  stands : (i : ℕ) (p : Place) → slice_get ps i ≡ Some p → StandsAt x i p
  stands i p there = record { place = all_contained (IsPlace x) ps p (texts_stand x ps texts) (at_contains ps i p there); here = point_at i p there }

  listed : (i : ℕ) (p : Place) → StandsAt x i p → slice_get ps i ≡ Some p
  listed i p h =
      let s = somewhere ps p (place_found x ps texts p h.place) in
      let e : s.place ≡ i = sym (point_at s.place p s.is) ∙ h.here in
      subst (λ n. slice_get ps n ≡ Some p) e s.is

  pub are_places : ArePlaces x ps
  are_places = record { each_point = long; stands = stands; listed = listed }
