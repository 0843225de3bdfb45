-- What look-ups find.
use Rattle.std.proofs.Common.{◌≡◌, ℕ, zero, suc, ◌<◌, ◌≤◌, Bool, true, false, List, [], ◌∷◌, ◌++◌}
use Rattle.std.proofs.Common.{length, drop, map, Some, None, slice_get, Option, refl, sym, ap, ◌∙◌}
use Rattle.std.proofs.Common.{if◌then◌else◌, append-nil, arith}
use Rattle.std.proofs.Math.ListN.{drop_of_length-le}
use Rattle.std.proofs.Math.Seq.{drop-nil}
use Rattle.std.proofs.lemmas.Option.{none-some, same_Some}
use Rattle.exchange_model.specs.declared.exchange.Exchange.{Exchange}
use Rattle.exchange_model.specs.declared.block.Block.{Block}
use Rattle.exchange_model.specs.declared.stmt.Stmt.{Stmt}
use Rattle.exchange_model.specs.declared.stmt.StmtKind.{out-StmtKind}
use Rattle.source_meaning.specs.Config.{Do, Start, body_of, enter_place, starting}
use Rattle.exchange_model.specs.Kept.{is_enter}
use Rattle.source_meaning.specs.Rests.{first_point, head_point}
use Rattle.source_meaning.proofs.Lookups.{body_past, body_is}
use Rattle.flow_points.specs.Places.{enter_point, receives}
use Rattle.flow_table.specs.Ways.{listed, enters_in, receiving}

-- the text of a block from a place on

pub first_no_block : (x : Exchange) (b place : ℕ) → length x.blocks ≤ b → None ≡ first_point (drop place (body_of x b)) None
first_no_block x b place past = sym (ap (λ ss. first_point (drop place ss) None) (body_past x b past) ∙ ap (λ ss. first_point ss None) (drop-nil place))

pub first_past : (x : Exchange) (b place n : ℕ) (k : Block) (body : List Stmt) → slice_get x.blocks b ≡ Some k
    → body ≡ k.body → n ≡ length body → n < place → None ≡ first_point (drop place (body_of x b)) None
first_past x b place n k body there same long past =
    let far : length k.body ≤ place = (let e = ap length same in omega (arith, e, long, past)) in
    sym (ap (λ ss. first_point (drop place ss) None) (body_is x b k there) ∙ ap (λ ss. first_point ss None) (drop_of_length-le k.body far))

pub first_is : (x : Exchange) (b place : ℕ) (k : Block) (body rest : List Stmt) (r : Option ℕ)
    → slice_get x.blocks b ≡ Some k → body ≡ k.body → rest ≡ drop place body → r ≡ first_point rest None
    → r ≡ first_point (drop place (body_of x b)) None
first_is x b place k body rest r there same at is = is ∙ ap (λ ss. first_point ss None) at
    ∙ ap (λ ss. first_point (drop place ss) None) (same ∙ sym (body_is x b k there))

-- the ENTER of a signal

abbrev entered : List Stmt → Option ℕ
entered ss = head_point (starting ss)

pub enter_no_block : (x : Exchange) (b signal : ℕ) → length x.blocks ≤ b → None ≡ enter_point x b signal
enter_no_block x b signal past = sym (ap (λ ss. entered (drop (enter_place x b signal) ss)) (body_past x b past)
    ∙ ap entered (drop-nil (enter_place x b signal)))

pub enter_no_place : (x : Exchange) (b signal place : ℕ) (k : Block) → place ≡ enter_place x b signal
    → slice_get x.blocks b ≡ Some k → length k.body ≤ place → None ≡ enter_point x b signal
enter_no_place x b signal place k at there past =
    sym (ap (λ n. entered (drop n (body_of x b))) (sym at) ∙ ap (λ ss. entered (drop place ss)) (body_is x b k there)
    ∙ ap entered (drop_of_length-le k.body past))

begun : (t : Bool) (s : Stmt) (ss : List Stmt) → is_enter (out-StmtKind s.kind) ≡ t → entered (s ∷ ss) ≡ (if t then Some s.point else None)
begun true s ss is = ap (λ u. head_point (if u then Start s ∷ map Do ss else [])) is
begun false s ss is = ap (λ u. head_point (if u then Start s ∷ map Do ss else [])) is

entered_at : (ss : List Stmt) (place : ℕ) (s : Stmt) → slice_get ss place ≡ Some s
    → entered (drop place ss) ≡ (if is_enter (out-StmtKind s.kind) then Some s.point else None)
entered_at [] place s e = absurd (none-some s e)
entered_at (t ∷ ss) zero s e = begun (is_enter (out-StmtKind t.kind)) t ss refl
    ∙ ap (λ (u : Stmt). if is_enter (out-StmtKind u.kind) then Some u.point else None) (same_Some t s e)
entered_at (t ∷ ss) (suc place) s e = entered_at ss place s e

pub enter_is : (x : Exchange) (b signal place : ℕ) (k : Block) (s : Stmt) (r : Option ℕ)
    → place ≡ enter_place x b signal → slice_get x.blocks b ≡ Some k → slice_get k.body place ≡ Some s
    → r ≡ (if is_enter (out-StmtKind s.kind) then Some s.point else None) → r ≡ enter_point x b signal
enter_is x b signal place k s r at there found is =
    is ∙ sym (ap (λ n. entered (drop n (body_of x b))) (sym at) ∙ ap (λ ss. entered (drop place ss)) (body_is x b k there) ∙ entered_at k.body place s found)

-- points that are listed

pub none_listed : (points : List ℕ) (o : Option ℕ) → o ≡ None → points ≡ points ++ listed o
none_listed points o none = sym (append-nil points) ∙ ap (λ p. points ++ listed p) (sym none)

pub received : (x : Exchange) (signal b : ℕ) (t : Bool) (o : Option ℕ) (old new : List ℕ) → t ≡ receives x signal b
    → t ≡ true → o ≡ enter_point x b signal → new ≡ old ++ listed o
    → new ≡ old ++ enters_in x signal (receiving x signal (b ∷ []))
received x signal b t o old new at is point e =
    e ∙ ap (λ p. old ++ listed p) point ∙ ap (λ l. old ++ l) (sym (append-nil (listed (enter_point x b signal))))
    ∙ ap (λ u. old ++ enters_in x signal (if u then b ∷ [] else [])) (sym is ∙ at)

pub not_received : (x : Exchange) (signal b : ℕ) (t : Bool) (old : List ℕ) → t ≡ receives x signal b → t ≡ false
    → old ≡ old ++ enters_in x signal (receiving x signal (b ∷ []))
not_received x signal b t old at is = sym (append-nil old) ∙ ap (λ u. old ++ enters_in x signal (if u then b ∷ [] else [])) (sym is ∙ at)
