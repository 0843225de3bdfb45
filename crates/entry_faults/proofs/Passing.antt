-- Closed points are passed over.
use Rattle.std.proofs.Common.{◌≡◌, ◌⊎◌, inl, inr, ⊎_elim, ℕ, zero, suc, ◌+◌, ◌<◌, ◌≤◌, Bool, true}
use Rattle.std.proofs.Common.{false, nat_eq, List, [], ◌∷◌, length, drop, get_or, Option, Some}
use Rattle.std.proofs.Common.{None, refl, sym, ap, ◌∙◌, subst, arith, add-one, drop-cons}
use Rattle.std.specs.List.{Contains}
use Rattle.std.proofs.Math.ListN.{drop_of_length-le}
use Rattle.std.proofs.lemmas.Bool.{eqb-true}
use Rattle.plex_num.proofs.Members.{first_or_later, none_in, first_is, later_is}
use Rattle.plex_num.proofs.Lists.{opens}
use Rattle.flow_table.specs.declared.row.FlowTable.{FlowTable}
use Rattle.flow_table.specs.declared.way.Way.{Way}
use Rattle.entry_faults.specs.declared.frame.Frame.{Frame}
use Rattle.entry_faults.specs.declared.mark.Mark.{Mark}
use Rattle.entry_faults.specs.declared.mark.Mark.TheVariants.{Closed}
use Rattle.entry_faults.specs.Marks.{mark_at, is_closed}
use Rattle.entry_faults.specs.Circles.{LeadTo, ends_of}
use Rattle.entry_faults.specs.Frames.{first, Among, Left, IsUnclosed, Passes, Stops, Moves}
use Rattle.entry_faults.proofs.Marking.{closed_is}

-- points

pub record PassesGo (r : List Bool) (m : List Mark) (ends : List ℕ) (i : ℕ) : Type 0 where
  pub to : (q : ℕ) → Contains ends q → (mark_at r m q ≡ Closed) ⊎ Contains (drop i ends) q

pub passes_begin : (r : List Bool) (m : List Mark) (ends : List ℕ) → PassesGo r m ends 0
passes_begin r m ends = record { to = λ q c. inr c }

at_point : (ends : List ℕ) (i : ℕ) → i < length ends → drop i ends ≡ get_or ends i 0 ∷ drop (i + 1) ends
at_point ends i lt = drop-cons ends i 0 lt ∙ ap (λ n. get_or ends i 0 ∷ drop n ends) (sym (add-one i))

pub passes_more : (r : List Bool) (m : List Mark) (ends : List ℕ) (i : ℕ) (t : Bool) → i < length ends
    → t ≡ is_closed (mark_at r m (get_or ends i 0)) → t ≡ true → PassesGo r m ends i → PassesGo r m ends (i + 1)
passes_more r m ends i t lt test closed g = record {
  to = λ q c.
      ⊎_elim inl
      (λ later.
      ⊎_elim
      (λ e. inl (subst (λ n. mark_at r m n ≡ Closed) e (closed_is (mark_at r m (get_or ends i 0)) (sym test ∙ closed))))
      inr
      (first_or_later (get_or ends i 0) q (drop (i + 1) ends) (subst (λ l. Contains l q) (at_point ends i lt) later)))
      (g.to q c);
}

from_drop : (xs : List ℕ) (n q : ℕ) → Contains (drop n xs) q → Contains xs q
from_drop xs zero q c = c
from_drop [] (suc n) q c = c
from_drop (x ∷ xs) (suc n) q c = later_is x q xs (from_drop xs n q c)

pub passes_stop : (r : List Bool) (m : List Mark) (ends : List ℕ) (i : ℕ) (t : Bool) (rest : List ℕ) → i < length ends
    → t ≡ is_closed (mark_at r m (get_or ends i 0)) → t ≡ false → rest ≡ drop i ends → PassesGo r m ends i
    → Passes r m ends rest
passes_stop r m ends i t rest lt test other same g = record {
  to = λ q c. subst (λ l. (mark_at r m q ≡ Closed) ⊎ Contains l q) (sym same) (g.to q c);
  from = λ q c. from_drop ends i q (subst (λ l. Contains l q) same c);
  first = subst (IsUnclosed r m) (sym (same ∙ at_point ends i lt)) (sym test ∙ other);
}

pub passes_end : (r : List Bool) (m : List Mark) (ends : List ℕ) (i : ℕ) (rest : List ℕ) → length ends ≤ i
    → rest ≡ drop (length ends) ends → PassesGo r m ends i → Passes r m ends rest
passes_end r m ends i rest past same g =
    let none : rest ≡ [] = same ∙ drop_of_length-le ends (omega arith) in
    record {
      to = λ q c. ⊎_elim inl (λ later. absurd (none_in q (subst (λ l. Contains l q) (drop_of_length-le ends past) later))) (g.to q c);
      from = λ q c. absurd (none_in q (subst (λ l. Contains l q) none c));
      first = subst (IsUnclosed r m) (sym none) tt;
    }

-- ways

lead_more : (t : FlowTable) (way : Way) (ways : List Way) (q : ℕ) → LeadTo t (way ∷ ways) q → Contains (ends_of t way.ends) q ⊎ LeadTo t ways q
lead_more t way ways q l =
    ⊎_elim
    (λ e. inl (subst (λ (w : Way). Contains (ends_of t w.ends) q) (sym e) l.end))
    (λ later. inr (record { way = l.way; one = later; end = l.end }))
    (first_or_later way l.way ways l.one)

lead_later : (t : FlowTable) (xs : List Way) (n q : ℕ) → LeadTo t (drop n xs) q → LeadTo t xs q
lead_later t xs zero q l = l
lead_later t [] (suc n) q l = l
lead_later t (x ∷ xs) (suc n) q l = (let k = lead_later t xs n q l in record { way = k.way; one = later_is x k.way xs k.one; end = k.end })

lead_at : (t : FlowTable) (ways : List Way) (i : ℕ) (way : Way) (q : ℕ) → i < length ways → way ≡ get_or ways i way
    → Contains (ends_of t way.ends) q → LeadTo t ways q
lead_at t ways i way q lt is c =
    lead_later t ways i q (subst (λ l. LeadTo t l q) (sym (opens ways i way lt is)) (record { way = way; one = first_is way (drop (i + 1) ways); end = c }))

no_lead : (t : FlowTable) (q : ℕ) → LeadTo t [] q → ⊥
no_lead t q l = none_in l.way l.one

pub record MovesGo (t : FlowTable) (r : List Bool) (m : List Mark) (f : Frame) (i : ℕ) (ends : List ℕ) : Type 0 where
  pub to : (q : ℕ) → Left t f q → (mark_at r m q ≡ Closed) ⊎ Among t ends (drop i f.ways.now) q
  pub from : (q : ℕ) → Contains ends q → Left t f q
  pub first : IsUnclosed r m ends

pub moves_begin : (t : FlowTable) (r : List Bool) (m : List Mark) (f : Frame) (ends : List ℕ) → Passes r m f.ends.now ends → MovesGo t r m f 0 ends
moves_begin t r m f ends p = record {
  to = λ q left. ⊎_elim (λ c. ⊎_elim inl (λ k. inr (inl k)) (p.to q c)) (λ l. inr (inr l)) left;
  from = λ q c. inl (p.from q c);
  first = p.first;
}

-- nothing was left of the ends so far
pub moves_more : (t : FlowTable) (r : List Bool) (m : List Mark) (f : Frame) (i : ℕ) (way : Way) (ends new : List ℕ)
    → i < length f.ways.now → way ≡ get_or f.ways.now i way → ends ≡ [] → Passes r m (ends_of t way.ends) new
    → MovesGo t r m f i ends → MovesGo t r m f (i + 1) new
moves_more t r m f i way ends new lt is none p g = record {
  to = λ q left.
      ⊎_elim inl
      (λ among.
      ⊎_elim
      (λ c. absurd (none_in q (subst (λ l. Contains l q) none c)))
      (λ l.
      ⊎_elim
      (λ c. ⊎_elim inl (λ k. inr (inl k)) (p.to q c))
      (λ later. inr (inr later))
      (lead_more t way (drop (i + 1) f.ways.now) q (subst (λ ws. LeadTo t ws q) (opens f.ways.now i way lt is) l)))
      among)
      (g.to q left);
  from = λ q c. inr (lead_at t f.ways.now i way q lt is (p.from q c));
  first = p.first;
}

stops_some : (t : FlowTable) (r : List Bool) (m : List Mark) (ends : List ℕ) (ways : List Way) → (ends ≡ [] → ⊥) → IsUnclosed r m ends → Stops t r m ends ways
stops_some t r m [] ways some first = absurd (some refl)
stops_some t r m (q ∷ qs) ways some first = first

stops_last : (t : FlowTable) (r : List Bool) (m : List Mark) (ends : List ℕ) → IsUnclosed r m ends → Stops t r m ends []
stops_last t r m [] first = λ q l. no_lead t q l
stops_last t r m (q ∷ qs) first = first

pub moves_stop : (t : FlowTable) (r : List Bool) (m : List Mark) (f : Frame) (i : ℕ) (ends : List ℕ) (g : Frame)
    → g.point ≡ f.point → g.ends.now ≡ ends → g.ways.now ≡ drop i f.ways.now → (ends ≡ [] → ⊥) → MovesGo t r m f i ends
    → Moves t r m f g
moves_stop t r m f i ends g point same ways some h = record {
  point = point;
  to = λ q left. ⊎_elim inl (λ among. inr (subst (λ ws. Among t g.ends.now ws q) (sym ways)
      (subst (λ es. Among t es (drop i f.ways.now) q) (sym same) among))) (h.to q left);
  from = λ q left. ⊎_elim (λ c. h.from q (subst (λ l. Contains l q) same c)) (λ l. inr (lead_later t f.ways.now i q (subst (λ ws. LeadTo t ws q) ways l))) left;
  stops = subst (λ es. Stops t r m es g.ways.now) (sym same) (stops_some t r m ends g.ways.now some h.first);
}

pub moves_end : (t : FlowTable) (r : List Bool) (m : List Mark) (f : Frame) (i : ℕ) (ends : List ℕ) (g : Frame)
    → length f.ways.now ≤ i → g.point ≡ f.point → g.ends.now ≡ ends → g.ways.now ≡ drop (length f.ways.now) f.ways.now
    → MovesGo t r m f i ends → Moves t r m f g
moves_end t r m f i ends g past point same ways h =
    let none : g.ways.now ≡ [] = ways ∙ drop_of_length-le f.ways.now (omega arith) in
    record {
      point = point;
      to = λ q left. ⊎_elim inl (λ among. ⊎_elim (λ c. inr (inl (subst (λ l. Contains l q) (sym same) c)))
          (λ l. absurd (no_lead t q (subst (λ ws. LeadTo t ws q) (drop_of_length-le f.ways.now past) l))) among)
          (h.to q left);
      from = λ q left. ⊎_elim (λ c. h.from q (subst (λ l. Contains l q) same c)) (λ l. absurd (no_lead t q (subst (λ ws. LeadTo t ws q) none l))) left;
      stops = subst (λ es. Stops t r m es g.ways.now) (sym same) (subst (Stops t r m ends) (sym none) (stops_last t r m ends h.first));
    }

pub some_left : (ends : List ℕ) (b : Bool) → b ≡ nat_eq (length ends) 0 → b ≡ false → ends ≡ [] → ⊥
some_left ends b is other none = (let clash : true ≡ false = ap (λ l. nat_eq (length l) 0) (sym none) ∙ sym is ∙ other in cc)

pub none_left : (ends : List ℕ) (b : Bool) → b ≡ nat_eq (length ends) 0 → b ≡ true → ends ≡ []
none_left [] b is empty = refl
none_left (q ∷ qs) b is empty = absurd (let e : length (q ∷ qs) ≡ 0 = eqb-true (length (q ∷ qs)) 0 (sym is ∙ empty) in omega (arith, e))

-- the first point of what is left

pub first_none : (ends : List ℕ) → first ends ≡ None → ends ≡ []
first_none [] e = refl
first_none (q ∷ qs) e = absurd (let clash : Some q ≡ None = e in cc)

pub record IsFirst (r : List Bool) (m : List Mark) (ends : List ℕ) (q : ℕ) : Type 0 where
  pub one : Contains ends q
  pub other : is_closed (mark_at r m q) ≡ false

pub first_some : (t : FlowTable) (r : List Bool) (m : List Mark) (ends : List ℕ) (ways : List Way) (q : ℕ)
    → first ends ≡ Some q → Stops t r m ends ways → IsFirst r m ends q
first_some t r m [] ways q e stops = absurd (let clash : None ≡ Some q = e in cc)
first_some t r m (p ∷ ps) ways q e stops =
    let same : p ≡ q = ap (λ o. value p o) e in
    record { one = subst (λ n. Contains (p ∷ ps) n) same (first_is p ps); other = subst (λ n. is_closed (mark_at r m n) ≡ false) same stops }
  where
    value : ℕ → Option ℕ → ℕ
    value d None = d
    value d (Some n) = n
