-- What remains to be done stands in the text, so that a flow may begin and end there.
use Rattle.std.proofs.Common.{◌≡◌, inr, ℕ, Bool, true, false, List, [], ◌∷◌, map, length, Option}
use Rattle.std.proofs.Common.{Some, None, refl, ap, ◌∙◌, subst}
use Rattle.std.proofs.lemmas.Option.{none-some, same_Some}
use Rattle.std.specs.Prelude.{if◌then◌else◌, nat_lt}
use Rattle.exchange_model.specs.declared.exchange.Exchange.{Exchange}
use Rattle.exchange_model.specs.declared.stmt.Stmt.{Stmt}
use Rattle.exchange_model.specs.declared.stmt.StmtKind.{out-StmtKind}
use Rattle.exchange_model.specs.declared.stmt.StmtKind.TheOpen as stmt
use Rattle.source_meaning.specs.Named.{Layer}
use Rattle.source_meaning.specs.Config.{Item, Do, Start, Turns, Caller, next_counted}
use Rattle.exchange_model.specs.Kept.{is_enter}
use Rattle.source_meaning.specs.Deeds.{deed_of, deed_point}
use Rattle.source_meaning.specs.Rests.{IsRow, StandsAs, IsLoop, IsRest, first_point, head_point}
use Rattle.source_meaning.proofs.Rests.{cons_head, stands_next}
use Rattle.flow_points.specs.declared.fact.Value.TheVariants.{Const}
use Rattle.flow_points.specs.declared.flow.Passing.TheVariants.{Kept}
use Rattle.flow_points.specs.Places.{Place, IsPlace, place_of}
use Rattle.flow_points.specs.Flows.{Leads}
use Rattle.flow_points.specs.Facts.{Facts, IsClosed}
use Rattle.fact_laws.specs.Covers.{Activation, KnownBefore}
use Rattle.fact_laws.proofs.Carrying.{Target, carried_kept, lands}

abbrev pub at_place : ℕ → ℕ → Layer → List Item → Place
at_place b p l rest = record { block = b; point = p; layer = l; next = head_point rest }

place_same : (b p q : ℕ) (l m : Layer) (n o : Option ℕ) → q ≡ p → m ≡ l → n ≡ o
    → ◌≡◌ {A = Place} (record { block = b; point = p; layer = l; next = n })
    (record { block = b; point = q; layer = m; next = o })
place_same b p q l m n o point layer next = cc

-- where flows begin

pub deed_place : {x : Exchange} {b p : ℕ} {l : Layer} {rest : List Item} → StandsAs x b p l rest → IsPlace x (at_place b p l rest)
deed_place {x} {b} {p} {l} {rest} h = record {
  stmt = h.stmt;
  list = h.stands.list;
  end = h.stands.end;
  row = h.stands.row;
  is = place_same b p h.stmt.point l (out-StmtKind h.stmt.kind) (head_point rest) (first_point h.stands.list h.stands.end) h.point h.is (stands_next h.stands);
}

pub loop_place : {x : Exchange} {b p temp : ℕ} {body : List Stmt} {rest : List Item} (h : IsLoop x b p temp body rest)
    → IsPlace x (at_place b p (stmt.On temp h.from h.upto body) rest)
loop_place {x} {b} {p} {temp} {body} {rest} h =
    let s : StandsAs x b p (stmt.On temp h.from h.upto body) rest = record { stmt = h.stmt; point = h.point; is = h.is; stands = h.stands } in
    deed_place s

-- where they end

pub row_target : {x : Exchange} {b : ℕ} {s : Stmt} {list : List Stmt} {end : Option ℕ} → IsRow x b (s ∷ list) end → Target x b s.point
row_target {x} {b} {s} {list} {end} row = record {
  place = place_of b s (first_point list end);
  stands = record { place = record { stmt = s; list = list; end = end; row = row; is = refl }; here = refl };
  block = refl;
}

pub rest_target : (x : Exchange) (b : ℕ) (todo : List Item) → IsRest x b todo → (q : ℕ) → head_point todo ≡ Some q → Target x b q
rest_target x b [] h q is = absurd (none-some q is)
rest_target x b (Do s ∷ rest) h q is = by (is_enter (out-StmtKind s.kind)) is (rest_target x b rest h.1 q)
  where
    by : (e : Bool) → (if e then head_point rest else Some s.point) ≡ Some q → (head_point rest ≡ Some q → Target x b q) → Target x b q
    by true at past = past at
    by false at past = subst (Target x b) (same_Some s.point q at) (row_target h.0.row)
rest_target x b (Start s ∷ rest) h q is = subst (Target x b) (same_Some s.point q is) (row_target h.0.row)
rest_target x b (Turns p temp this end body ∷ rest) h q is = subst (Target x b) (h.0.point ∙ same_Some p q is) (row_target h.0.stands.row)

-- the head of statements alone
pub head_alone : (list : List Stmt) → head_point (map Do list) ≡ first_point list None
head_alone [] = refl
head_alone (s ∷ list) = ap (λ o. if is_enter (out-StmtKind s.kind) then o else Some s.point) (head_alone list)

module _ (x : Exchange) (P : Facts) (closed : IsClosed x P) (e : ℕ) (args : List ℕ) (b : ℕ) (temps given : List ℕ) (callers : List Caller) where
  abbrev pub KnownAt : ℕ → Type 0
  KnownAt p = Activation x P e args b p temps given callers

  -- all goes along within the block
  pub stays_known : (p : ℕ) (l : Layer) (rest : List Item) (q : ℕ) → IsPlace x (at_place b p l rest)
      → Leads x b p (head_point rest) l q Kept → KnownAt p → Target x b q → KnownAt q
  stays_known p l rest q place leads a target =
      lands x P closed e args (at_place b p l rest) q Kept
      (record { place = place; leads = leads; reached = (Const (length callers), a.depth); guarded = tt }) b temps
      given callers target (carried_kept P e args p a) a.past

  -- what is known before the items is known before the one that is counted next
  pub next_known : (todo : List Item) (i : Item) (rest : List Item) → IsRest x b todo → next_counted todo ≡ i ∷ rest
      → KnownBefore x P e args b todo temps given callers → KnownAt (deed_point (deed_of i))
  unfolding next_counted
  next_known [] i rest h is known = absurd (let none = is in cc)
  next_known (Do s ∷ more) i rest h is known = by (is_enter (out-StmtKind s.kind)) is known (next_known more i rest h.1)
    where
      by : (t : Bool) → (if t then next_counted more else Do s ∷ more) ≡ i ∷ rest
          → ((p : ℕ) → (if t then head_point more else Some s.point) ≡ Some p → KnownAt p)
          → (next_counted more ≡ i ∷ rest → KnownBefore x P e args b more temps given callers
          → KnownAt (deed_point (deed_of i))) → KnownAt (deed_point (deed_of i))
      by true same before past = past same before
      by false same before past = subst (λ j. KnownAt (deed_point (deed_of j))) (cons_head (Do s) i more rest same) (before s.point refl)
  next_known (Start s ∷ more) i rest h is known = subst (λ j. KnownAt (deed_point (deed_of j))) (cons_head (Start s) i more rest is) (known s.point refl)
  next_known (Turns p temp this end body ∷ more) i rest h is known = by (nat_lt end this) is (next_known more i rest h.1)
    where
      by : (t : Bool) → (if t then next_counted more else Turns p temp this end body ∷ more) ≡ i ∷ rest
          → (next_counted more ≡ i ∷ rest → KnownBefore x P e args b more temps given callers
          → KnownAt (deed_point (deed_of i))) → KnownAt (deed_point (deed_of i))
      by true same past =
          past same (λ q at. stays_known p (stmt.On temp h.0.from h.0.upto body) more q (loop_place h.0)
          (inr (record { ends = at; is = refl })) (known p refl) (rest_target x b more h.1 q at))
      by false same past = subst (λ j. KnownAt (deed_point (deed_of j))) (cons_head (Turns p temp this end body) i more rest same) (known p refl)
