-- The rows of the table, step by step.
use Rattle.std.proofs.Common.{◌≡◌, ℕ, zero, suc, ◌+◌, ◌<◌, ◌≤◌, List, [], ◌∷◌, ◌++◌, length, map}
use Rattle.std.proofs.Common.{drop, get_or, Option, Some, None, slice_get, refl, sym, ap, ◌∙◌}
use Rattle.std.proofs.Common.{subst, arith, append-nil, append_assoc}
use Rattle.std.specs.Option.{option_map_or}
use Rattle.std.specs.List.{AllByRecursion, Contains}
use Rattle.std.proofs.Math.ListN.{drop_of_length-le}
use Rattle.std.proofs.lemmas.List.{length-map}
use Rattle.std.proofs.lemmas.Option.{slice_get_past, none-some, same_Some}
use Rattle.plex_num.proofs.Lists.{opens}
use Rattle.exchange_model.specs.declared.block.Block.{Block}
use Rattle.exchange_model.specs.declared.exchange.Exchange.{Exchange}
use Rattle.exchange_model.specs.Fits.{retrieved}
use Rattle.exchange_model.specs.Kept.{IsExchange}
use Rattle.source_meaning.specs.Config.{Item, Do, Turns}
use Rattle.source_meaning.specs.Rests.{IsOfBlock, StandsInText, head_point}
use Rattle.source_meaning.proofs.Fitting.{stmt_fits_in}
use Rattle.flow_points.specs.Places.{Place, IsPlace}
use Rattle.flow_points.specs.Slots.{temp_count, given_count, answer_count}
use Rattle.flow_table.specs.declared.place.PlaceAt.{PlaceAt}
use Rattle.flow_table.specs.declared.row.Row.{Row}
use Rattle.flow_table.specs.declared.way.Way.{Way}
use Rattle.flow_table.specs.Rows.{IsRowOf, HasRow, AreRows}
use Rattle.flow_table.specs.Texts.{ArePlaces, seen}
use Rattle.flow_table.specs.Ways.{AreWays, ways_of}
use Rattle.flow_table.specs.Small.{IsSmall}
use Rattle.flow_table.proofs.Smallness.{ways_small}
use Rattle.flow_table.proofs.Telling.{ways_exact}
use Rattle.plex_num.proofs.Members.{first_is, later_is}

-- a place is of its block

-- what remains after a row may begin at any point
ending : Option ℕ → List Item
ending None = []
ending (Some p) = Turns p 0 0 0 [] ∷ []

ending_at : (end : Option ℕ) → head_point (ending end) ≡ end
unfolding ending
ending_at None = refl
ending_at (Some p) = refl

pub place_fits : (x : Exchange) (p : Place) → IsExchange x → IsPlace x p → IsOfBlock x p.block p.layer
place_fits x p kept h =
    let stands : StandsInText x p.block h.stmt (map Do h.list ++ ending h.end) = record
    { list = h.list; end = h.end; more = ending h.end; row = h.row; is = refl; ends = ending_at h.end } in
    subst (λ (q : Place). IsOfBlock x p.block q.layer) (sym h.is) (stmt_fits_in x kept p.block h.stmt (map Do h.list ++ ending h.end) stands)

pub row_is : (x : Exchange) (at : Place) (r : Row) (ways : List Way) → IsExchange x → IsPlace x at → ways ≡ ways_of x at
    → r.temps ≡ temp_count x at.block → r.given ≡ given_count x at.block
    → r.answered ≡ answer_count x (retrieved at.layer) → r.ways ≡ ways → IsRowOf x at r
row_is x at r ways kept place made temps given answered same = record {
  temps = temps;
  given = given;
  answered = answered;
  ways = subst (AreWays x at) (sym (same ∙ made)) (ways_exact x at);
  small = subst (AllByRecursion (λ (w : Way). IsSmall w.how)) (sym (same ∙ made)) (ways_small x at kept (place_fits x at kept place));
}

-- temporaries

pub temps_none : (x : Exchange) (b : ℕ) → length x.blocks ≤ b → 0 ≡ temp_count x b
temps_none x b past = sym (ap (λ o. option_map_or (λ (k : Block). length k.temporaries) o 0) (slice_get_past x.blocks b past))

pub temps_some : (x : Exchange) (b n : ℕ) (k : Block) → slice_get x.blocks b ≡ Some k → n ≡ length k.temporaries → n ≡ temp_count x b
temps_some x b n k there is = is ∙ sym (ap (λ o. option_map_or (λ (k : Block). length k.temporaries) o 0) there)

pub temps_few : (x : Exchange) (b n : ℕ) (k : Block) → IsExchange x → slice_get x.blocks b ≡ Some k → n ≡ length k.temporaries → n ≤ 255
temps_few x b n k kept there is = (let few = (kept.blocks.each b k there).temporaries in omega (arith, few, is))

-- rows, one after the other

-- each place with its row
abbrev Pairs : Exchange → List PlaceAt → List Row → Type 0
Pairs x [] [] = Unit {0}
Pairs x (at ∷ places) (r ∷ rows) = IsRowOf x (seen at) r × Pairs x places rows
Pairs x _ _ = ⊥

pub record RowsGo (x : Exchange) (places : List PlaceAt) (i : ℕ) (now : List Row) : Type 0 where
  pub all : (rest : List Row) → Pairs x (drop i places) rest → Pairs x places (now ++ rest)

pub rows_begin : (x : Exchange) (places : List PlaceAt) (now : List Row) → now ≡ [] → RowsGo x places 0 now
rows_begin x places now none = record { all = λ rest h. subst (λ l. Pairs x places (l ++ rest)) (sym none) h }

pub rows_more : (x : Exchange) (places : List PlaceAt) (i : ℕ) (at : PlaceAt) (r : Row) (now new : List Row)
    → i < length places → at ≡ get_or places i at → IsRowOf x (seen at) r → new ≡ now ++ r ∷ [] → RowsGo x places i now
    → RowsGo x places (i + 1) new
rows_more x places i at r now new lt is row e g = record {
  all = λ rest h.
      subst (Pairs x places) (sym (append_assoc now (r ∷ []) rest) ∙ ap (λ l. l ++ rest) (sym e))
      (g.all (r ∷ rest) (subst (λ l. Pairs x l (r ∷ rest)) (sym (opens places i at lt is)) (row, h)));
}

pairs_long : (x : Exchange) (places : List PlaceAt) (rows : List Row) → Pairs x places rows → length rows ≡ length places
pairs_long x [] [] h = refl
pairs_long x [] (r ∷ rows) h = absurd h
pairs_long x (at ∷ places) [] h = absurd h
pairs_long x (at ∷ places) (r ∷ rows) h = (let e = pairs_long x places rows h.1 in omega arith)

pairs_get : (x : Exchange) (places : List PlaceAt) (rows : List Row) → Pairs x places rows → (p : ℕ) (at : Place)
    → slice_get (map seen places) p ≡ Some at → HasRow x rows p at
pairs_get x [] rows h p at there = absurd (none-some at there)
pairs_get x (a ∷ places) [] h p at there = absurd h
pairs_get x (a ∷ places) (r ∷ rows) h zero at there = record
    { row = r; there = refl; is = subst (λ (q : Place). IsRowOf x q r) (same_Some (seen a) at there) h.0 }
pairs_get x (a ∷ places) (r ∷ rows) h (suc p) at there = (let g = pairs_get x places rows h.1 p at there in record { row = g.row; there = g.there; is = g.is })

pub rows_end : (x : Exchange) (places : List PlaceAt) (i : ℕ) (now : List Row) → ArePlaces x (map seen places)
    → length places ≤ i → RowsGo x places i now → AreRows x now
rows_end x places i now are past g =
    let pairs : Pairs x places now = subst (Pairs x places) (append-nil now) (g.all [] (subst (λ l. Pairs x l []) (sym (drop_of_length-le places past)) tt)) in
    let long = pairs_long x places now pairs in
    let mapped : length (map seen places) ≡ length places = length-map places seen in
    let each = are.each_point in
    record {
      each_point = omega (arith, long, mapped, each);
      each = λ p at stands. pairs_get x places now pairs p at (are.listed p at stands);
    }

pub seen_at : (places : List PlaceAt) (i : ℕ) (at : PlaceAt) → i < length places → at ≡ get_or places i at → slice_get (map seen places) i ≡ Some (seen at)
seen_at [] i at lt is = absurd (omega arith)
seen_at (a ∷ places) zero at lt is = ap (λ (p : PlaceAt). Some (seen p)) (sym is)
seen_at (a ∷ places) (suc i) at lt is = seen_at places i at (omega arith) is

pub place_at : (x : Exchange) (places : List PlaceAt) (i : ℕ) (at : PlaceAt) → ArePlaces x (map seen places)
    → i < length places → at ≡ get_or places i at → IsPlace x (seen at)
place_at x places i at are lt is = (are.stands i (seen at) (seen_at places i at lt is)).place

pub placed_from : (places : List PlaceAt) (q : ℕ) (p : Place) → slice_get (map seen places) q ≡ Some p → (at : PlaceAt) × Contains places at × (seen at ≡ p)
placed_from [] q p there = absurd (none-some p there)
placed_from (a ∷ places) zero p there = (a, first_is a places, same_Some (seen a) p there)
placed_from (a ∷ places) (suc q) p there = (let f = placed_from places q p there in (f.0, later_is a f.0 places f.1, f.2))
