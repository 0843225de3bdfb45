-- Each statement of the text of an exchange has its point.
use Rattle.std.proofs.Common.{◌≡◌, inl, inr, ℕ, zero, suc, ◌+◌, ◌<◌, List, [], ◌∷◌, ◌++◌, map}
use Rattle.std.proofs.Common.{length, get_or, Option, Some, refl, sym, ap, ◌∙◌, subst, slice_get}
use Rattle.std.proofs.Common.{arith, length-append}
use Rattle.std.proofs.lemmas.List.{length-map}
use Rattle.std.proofs.lemmas.List.Elements.{Contains-append_left, Contains-append_right}
use Rattle.std.proofs.lemmas.List.FromFn.{length-range_with_len, get_or-range_with_len}
use Rattle.std.proofs.lemmas.Option.{none-some, same_Some}
use Rattle.std.specs.List.{Contains, range_with_len}
use Rattle.plex_num.proofs.Members.{in_map, first_is, later_is}
use Rattle.exchange_model.specs.declared.exchange.Exchange.{Exchange}
use Rattle.exchange_model.specs.declared.block.Block.{Block}
use Rattle.exchange_model.specs.declared.entry.PointInfo.{PointInfo}
use Rattle.exchange_model.specs.declared.signal.SignalKind.{SignalKind}
use Rattle.exchange_model.specs.declared.stmt.Stmt.{Stmt}
use Rattle.exchange_model.specs.declared.stmt.StmtKind.{out-StmtKind}
use Rattle.exchange_model.specs.declared.stmt.StmtKind.TheOpen as stmt
use Rattle.exchange_model.proofs.Counted.{inner_spots-out}
use Rattle.exchange_model.specs.PartCounts.{stmt_spots, when_spots, parts_spots}
use Rattle.exchange_model.specs.Inside.{PointLine, joined, spots, inner_spots}
use Rattle.exchange_model.specs.Kept.{IsExchange, all_spots, points_from, entries_from, entries_in}
use Rattle.source_meaning.specs.Config.{Item}
use Rattle.source_meaning.specs.Deeds.{Deed, Doing, Starting, Turning, deed_point, IsBranch}
use Rattle.source_meaning.specs.Named.{Layer}
use Rattle.source_meaning.specs.Rests.{IsRow, whole, later, branch, turn, StandsInText, DeedStands}
use Rattle.source_meaning.proofs.Lists.{Within}

within_joined : {A B : Type 0} (f : A → List B) (xs : List A) (i : ℕ) (x : A) → slice_get xs i ≡ Some x → Within (f x) (joined (map f xs))
within_joined f [] i x there = absurd (none-some x there)
within_joined f (y ∷ xs) zero x there = λ b at. Contains-append_left (f y) (joined (map f xs)) b (subst (λ z. Contains (f z) b) (sym (same_Some y x there)) at)
within_joined f (y ∷ xs) (suc i) x there = λ b at. Contains-append_right (f y) (joined (map f xs)) b (within_joined f xs i x there b at)

within_member : {A B : Type 0} (f : A → List B) (xs : List A) (x : A) → Contains xs x → Within (f x) (joined (map f xs))
within_member f [] x h = absurd (let lt = h.1 in omega arith)
within_member f (y ∷ xs) x (zero, lt, is) = λ b at. Contains-append_left (f y) (joined (map f xs)) b (subst (λ z. Contains (f z) b) (sym is) at)
within_member f (y ∷ xs) x (suc i, lt, is) = λ b at. Contains-append_right (f y) (joined (map f xs)) b
    (within_member f xs x (i, (let h = lt in omega arith), is) b at)

-- the statements in a branch are among those in the statement
branch_spots : (l : Layer) (body : List Stmt) → IsBranch l body → Within (spots body) (parts_spots l)
branch_spots (stmt.If cond yes_part no_part) body (inl is) = λ z at. Contains-append_left (spots yes_part)
    (spots no_part) z (subst (λ b. Contains (spots b) z) is at)
branch_spots (stmt.If cond yes_part no_part) body (inr is) = λ z at. Contains-append_right (spots yes_part)
    (spots no_part) z (subst (λ b. Contains (spots b) z) is at)
branch_spots (stmt.Case value whens otherwise) body (inl is) = λ z at. Contains-append_right
    (joined (map when_spots whens)) (spots otherwise) z (subst (λ b. Contains (spots b) z) is at)
branch_spots (stmt.Case value whens otherwise) body (inr is) =
    λ z at. Contains-append_left (joined (map when_spots whens)) (spots otherwise) z
    (within_member when_spots whens is.0 is.1 z (subst (λ b. Contains (spots b) z) is.2 at))
branch_spots _ body is = absurd is

inside_spots : (s : Stmt) (rest : List Stmt) (body : List Stmt)
    → Within (spots body) (parts_spots (out-StmtKind s.kind)) → Within (spots body) (spots (s ∷ rest))
inside_spots s rest body within z at =
    let inner : Contains (inner_spots s.kind) z = subst (λ l. Contains l z) (sym (inner_spots-out s.kind)) (within z at) in
    Contains-append_left (stmt_spots s) (spots rest) z (later_is (record { point = s.point; line = s.line }) z (inner_spots s.kind) inner)

module _ (x : Exchange) (b : ℕ) where
  -- the statements of a row are among those of all blocks
  row_spots : (list : List Stmt) (end : Option ℕ) → IsRow x b list end → Within (spots list) (all_spots x.blocks)
  row_spots list end (whole k there) = within_joined (λ (k : Block). spots k.body) x.blocks b k there
  row_spots list end (later s rest e row) = λ z at. row_spots (s ∷ rest) e row z (Contains-append_right (stmt_spots s) (spots rest) z at)
  row_spots list end (branch s rest e body row is) = λ z at. row_spots (s ∷ rest) e row z
      (inside_spots s rest body (branch_spots (out-StmtKind s.kind) body is) z at)
  row_spots list end (turn s rest e temp from upto body row is) =
      λ z at. row_spots (s ∷ rest) e row z (inside_spots s rest body (λ y here. subst (λ l. Contains (parts_spots l) y) (sym is) here) z at)

  row_spot : (s : Stmt) (rest : List Stmt) (end : Option ℕ) → IsRow x b (s ∷ rest) end
      → Contains (all_spots x.blocks) (record { point = s.point; line = s.line })
  row_spot s rest end row = row_spots (s ∷ rest) end row (record { point = s.point; line = s.line })
      (first_is (record { point = s.point; line = s.line }) (inner_spots s.kind ++ spots rest))

pub points_many : (b : ℕ) (blocks : List Block) → length (points_from b blocks) ≡ length (all_spots blocks)
unfolding points_from
points_many b [] = refl
points_many b (k ∷ blocks) =
    let here : List PointInfo = map (λ (s : PointLine). record { block = b; line = s.line }) (spots k.body) in
    let long : length here ≡ length (spots k.body) = length-map (spots k.body) (λ (s : PointLine). record { block = b; line = s.line }) in
    let rest = points_many (b + 1) blocks in
    let left = length-append here (points_from (b + 1) blocks) in
    let right = length-append (spots k.body) (all_spots blocks) in
    omega arith

range_below : (n v : ℕ) → Contains (range_with_len 0 n) v → v < n
range_below n v h =
    let long = length-range_with_len 0 n in
    let within = h.1 in
    let lt : h.0 < n = omega arith in
    let at : get_or (range_with_len 0 n) h.0 v ≡ 0 + h.0 = get_or-range_with_len 0 n h.0 v lt in
    let is : get_or (range_with_len 0 n) h.0 v ≡ v = h.2 in
    omega arith

module _ (x : Exchange) (kept : IsExchange x) where
  spot_below : (p line : ℕ) → Contains (all_spots x.blocks) (record { point = p; line = line }) → p < length x.points
  spot_below p line h =
      let point : PointLine → ℕ = λ s. s.point in
      let at : Contains (range_with_len 0 (length (all_spots x.blocks))) p = subst (λ l. Contains l p)
      kept.numbered.statements (in_map point (all_spots x.blocks) (record { point = p; line = line }) h) in
      let below = range_below (length (all_spots x.blocks)) p at in
      let many : length x.points ≡ length (all_spots x.blocks) = ap length kept.numbered.points ∙ points_many 0 x.blocks in
      omega arith

  pub stands_point : (b : ℕ) (s : Stmt) (rest : List Item) → StandsInText x b s rest → s.point < length x.points
  stands_point b s rest h = spot_below s.point s.line (row_spot x b s h.list h.end h.row)

  pub deed_below : (b : ℕ) (deed : Deed) (rest : List Item) → DeedStands x b deed rest → deed_point deed < length x.points
  deed_below b (Doing p l) rest h = subst (λ n. n < length x.points) h.point (stands_point b h.stmt rest h.stands)
  deed_below b (Starting p l) rest h = subst (λ n. n < length x.points) h.0.point (stands_point b h.0.stmt rest h.0.stands)
  deed_below b (Turning p temp this end body) rest h = subst (λ n. n < length x.points) h.0.point (stands_point b h.0.stmt rest h.0.stands)

-- where there is an entry, there is a point
some_spots : (signals : List SignalKind) (b : ℕ) (blocks : List Block) → 0 < length (entries_from signals b blocks) → 0 < length (all_spots blocks)
unfolding entries_from
some_spots signals b [] some = some
some_spots signals b (k ∷ blocks) some = by k.body refl (some_spots signals (b + 1) blocks)
  where
    many : length (all_spots (k ∷ blocks)) ≡ length (spots k.body) + length (all_spots blocks)
    many = length-append (spots k.body) (all_spots blocks)

    by : (body : List Stmt) → k.body ≡ body → (0 < length (entries_from signals (b + 1) blocks)
        → 0 < length (all_spots blocks)) → 0 < length (all_spots (k ∷ blocks))
    by [] is more =
        let none : length (entries_from signals b (k ∷ blocks)) ≡ length (entries_from signals (b + 1) blocks) =
        ap (λ l. length (entries_in signals b l ++ entries_from signals (b + 1) blocks)) is in
        let rest = more (omega arith) in
        omega (arith, many)
    by (s ∷ rest) is more =
        let one : length (spots k.body) ≡ length (spots (s ∷ rest)) = ap (λ l. length (spots l)) is in
        let long = length-append (stmt_spots s) (spots rest) in
        omega (arith, many, one, long)

pub some_point : (x : Exchange) → IsExchange x → (entry : ℕ) → entry < length x.entries → 0 < length x.points
some_point x kept entry lt =
    let listed : length x.entries ≡ length (entries_from x.signals 0 x.blocks) = ap length kept.numbered.entries in
    let some = some_spots x.signals 0 x.blocks (omega arith) in
    let many : length x.points ≡ length (all_spots x.blocks) = ap length kept.numbered.points ∙ points_many 0 x.blocks in
    omega arith
