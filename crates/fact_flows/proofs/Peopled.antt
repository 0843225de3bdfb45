-- At each point of an exchange a statement stands.
use Rattle.std.proofs.Common.{◌≡◌, inl, inr, ⊎_elim, ℕ, zero, suc, ◌+◌, ◌<◌, List, [], ◌∷◌, length}
use Rattle.std.proofs.Common.{map, max, Option, Some, None, slice_get, get_or, refl, sym, ap, ◌∙◌}
use Rattle.std.proofs.Common.{subst, arith}
use Rattle.std.proofs.Math.Nat.{le-max_left, le-max_right}
use Rattle.std.proofs.lemmas.List.Elements.{Contains-append_cases}
use Rattle.std.proofs.lemmas.List.FromFn.{length-range_with_len, get_or-range_with_len}
use Rattle.std.specs.List.{Contains, range_with_len}
use Rattle.plex_num.proofs.Members.{first_or_later, none_in, first_is, later_is}
use Rattle.exchange_model.specs.declared.block.Block.{Block}
use Rattle.exchange_model.specs.declared.exchange.Exchange.{Exchange}
use Rattle.exchange_model.specs.declared.stmt.Stmt.{Stmt}
use Rattle.exchange_model.specs.declared.stmt.When.{When, out-When}
use Rattle.exchange_model.specs.declared.stmt.StmtKind.{out-StmtKind}
use Rattle.exchange_model.specs.declared.stmt.StmtKind.TheOpen as stmt
use Rattle.exchange_model.specs.Inside.{PointLine, joined, most, spots, inner_spots, text_depth}
use Rattle.exchange_model.specs.Inside.{kind_depth}
use Rattle.exchange_model.specs.Kept.{IsExchange, all_spots}
use Rattle.exchange_model.specs.PartCounts.{parts_depth, when_depth, stmt_spots, when_spots}
use Rattle.exchange_model.specs.PartCounts.{parts_spots}
use Rattle.exchange_model.proofs.Counted.{inner_spots-out, kind_depth-out}
use Rattle.source_meaning.specs.Named.{Layer}
use Rattle.source_meaning.specs.Rests.{IsRow, whole, later, first_point}
use Rattle.source_meaning.proofs.Points.{points_many}
use Rattle.flow_points.specs.Places.{Place, place_of, StandsAt}
use Rattle.flow_table.proofs.Standing.{HasRows, get_later, has_rows}

-- a statement at the point
pub record Standing (x : Exchange) (p : ℕ) : Type 0 where
  pub at : Place
  pub stands : StandsAt x p at

left_lt : (a b n : ℕ) → max a b < n → a < n
left_lt a b n lt = (let le = le-max_left a b in omega (arith, le, lt))

right_lt : (a b n : ℕ) → max a b < n → b < n
right_lt a b n lt = (let le = le-max_right a b in omega (arith, le, lt))

one_less : (m n : ℕ) → 1 + m < suc n → m < n
one_less m n lt = omega arith

module _ (x : Exchange) (b : ℕ) where
  -- each statement of a row of less than this depth stands at its point
  abbrev Stood : ℕ → Type 0
  Stood n = (list : List Stmt) (end : Option ℕ) → IsRow x b list end → text_depth list < n → (spot : PointLine)
      → Contains (spots list) spot → Standing x spot.point

  in_whens : (n : ℕ) (next : Option ℕ) → Stood n → (whens : List When)
      → ((w : When) → Contains whens w → IsRow x b (out-When w).body next) → most (map when_depth whens) < n
      → (spot : PointLine) → Contains (joined (map when_spots whens)) spot → Standing x spot.point
  in_whens n next deep [] rows lt spot c = absurd (none_in spot c)
  in_whens n next deep (w ∷ ws) rows lt spot c =
      ⊎_elim
      (λ here. deep (out-When w).body next (rows w (first_is w ws)) (left_lt (when_depth w) (most (map when_depth ws)) n lt) spot here)
      (λ more. in_whens n next deep ws (λ v at. rows v (later_is w v ws at)) (right_lt (when_depth w) (most (map when_depth ws)) n lt) spot more)
      (Contains-append_cases (when_spots w) (joined (map when_spots ws)) spot c)

  inside : (n p : ℕ) (next : Option ℕ) → Stood n → (l : Layer) → HasRows x b p next l → parts_depth l < suc n
      → (spot : PointLine) → Contains (parts_spots l) spot → Standing x spot.point
  inside n p next deep (stmt.If cond yes_part no_part) rows lt spot c =
      let low = one_less (max (text_depth yes_part) (text_depth no_part)) n lt in
      ⊎_elim
      (λ h. deep yes_part next (rows.branches yes_part (inl refl)) (left_lt (text_depth yes_part) (text_depth no_part) n low) spot h)
      (λ h. deep no_part next (rows.branches no_part (inr refl)) (right_lt (text_depth yes_part) (text_depth no_part) n low) spot h)
      (Contains-append_cases (spots yes_part) (spots no_part) spot c)
  inside n p next deep (stmt.Case value whens otherwise) rows lt spot c =
      let low = one_less (max (most (map when_depth whens)) (text_depth otherwise)) n lt in
      ⊎_elim
      (λ h. in_whens n next deep whens (λ w at. rows.branches (out-When w).body (inr (w, at, refl)))
      (left_lt (most (map when_depth whens)) (text_depth otherwise) n low) spot h)
      (λ h. deep otherwise next (rows.branches otherwise (inl refl)) (right_lt (most (map when_depth whens)) (text_depth otherwise) n low) spot h)
      (Contains-append_cases (joined (map when_spots whens)) (spots otherwise) spot c)
  inside n p next deep (stmt.On temp from upto body) rows lt spot c = deep body (Some p)
      (rows.turns temp from upto body refl) (one_less (text_depth body) n lt) spot c
  inside n p next deep _ rows lt spot c = absurd (none_in spot c)

  deeper : (n : ℕ) → Stood n → (list : List Stmt) (end : Option ℕ) → IsRow x b list end → text_depth list < suc n
      → (spot : PointLine) → Contains (spots list) spot → Standing x spot.point
  deeper n deep [] end row lt spot c = absurd (none_in spot c)
  deeper n deep (s ∷ rest) end row lt spot c =
      ⊎_elim
      (λ own. ⊎_elim here within (first_or_later (record { point = s.point; line = s.line }) spot (inner_spots s.kind) own))
      (λ more. deeper n deep rest end (later s rest end row) (right_lt (kind_depth s.kind) (text_depth rest) (suc n) lt) spot more)
      (Contains-append_cases (stmt_spots s) (spots rest) spot c)
    where
      here : record { point = s.point; line = s.line } ≡ spot → Standing x spot.point
      here e = record {
        at = place_of b s (first_point rest end);
        stands = record { place = record { stmt = s; list = rest; end = end; row = row; is = refl }; here = ap (λ (t : PointLine). t.point) e };
      }

      within : Contains (inner_spots s.kind) spot → Standing x spot.point
      within h =
          inside n s.point (first_point rest end) deep (out-StmtKind s.kind) (has_rows x b s rest end row)
          (subst (λ d. d < suc n) (kind_depth-out s.kind) (left_lt (kind_depth s.kind) (text_depth rest) (suc n) lt))
          spot
          (subst (λ l. Contains l spot) (inner_spots-out s.kind) h)

  all_stood : (n : ℕ) → Stood n
  all_stood zero list end row lt = absurd (let h = lt in omega arith)
  all_stood (suc n) list end row lt = deeper n (all_stood n) list end row lt

module _ (x : Exchange) where
  texts_from : (b : ℕ) (blocks : List Block) → ((i : ℕ) (k : Block) → slice_get blocks i ≡ Some k
      → slice_get x.blocks (b + i) ≡ Some k) → (spot : PointLine) → Contains (all_spots blocks) spot
      → Standing x spot.point
  texts_from b [] are spot c = absurd (none_in spot c)
  texts_from b (k ∷ rest) are spot c =
      ⊎_elim
      (λ own. all_stood x b (suc (text_depth k.body)) k.body None
      (whole k (let e : b + 0 ≡ b = omega arith in subst (λ n. slice_get x.blocks n ≡ Some k) e (are 0 k refl)))
      (omega arith) spot own)
      (λ more. texts_from (b + 1) rest (get_later rest x.blocks k b are) spot more)
      (Contains-append_cases (spots k.body) (all_spots rest) spot c)

  spot_stands : (spot : PointLine) → Contains (all_spots x.blocks) spot → Standing x spot.point
  spot_stands spot c = texts_from 0 x.blocks (λ i k there. (let e : i ≡ 0 + i = omega arith in subst (λ n. slice_get x.blocks n ≡ Some k) e there)) spot c

record AtPoint (all : List PointLine) (p : ℕ) : Type 0 where
  spot : PointLine
  among : Contains all spot
  point : spot.point ≡ p

at_point : (all : List PointLine) (p : ℕ) → Contains (map (λ (s : PointLine). s.point) all) p → AtPoint all p
at_point [] p c = absurd (none_in p c)
at_point (s ∷ all) p c =
    ⊎_elim
    (λ is. record { spot = s; among = first_is s all; point = is })
    (λ more. let a = at_point all p more in record { spot = a.spot; among = later_is s a.spot all a.among; point = a.point })
    (first_or_later s.point p (map (λ (s : PointLine). s.point) all) c)

range_has : (n p : ℕ) → p < n → Contains (range_with_len 0 n) p
range_has n p lt =
    let long = length-range_with_len 0 n in
    let at : get_or (range_with_len 0 n) p p ≡ 0 + p = get_or-range_with_len 0 n p p lt in
    (p, omega (arith, long, lt), at ∙ (let e : 0 + p ≡ p = omega arith in e))

pub point_stands : (x : Exchange) → IsExchange x → (p : ℕ) → p < length x.points → Standing x p
point_stands x kept p lt =
    let many : length x.points ≡ length (all_spots x.blocks) = ap length kept.numbered.points ∙ points_many 0 x.blocks in
    let below : p < length (all_spots x.blocks) = omega (arith, many, lt) in
    let a = at_point (all_spots x.blocks) p (subst (λ l. Contains l p) (sym kept.numbered.statements) (range_has (length (all_spots x.blocks)) p below)) in
    subst (Standing x) a.point (spot_stands x a.spot a.among)
