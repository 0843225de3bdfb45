-- A state goes over to another exchange in one way alone.
use Rattle.std.proofs.Common.{◌≡◌, ℕ, List, sym, ap, ◌∙◌, subst, arith}
use Rattle.std.specs.Prelude.{slice_index}
use Rattle.exchange_model.specs.declared.exchange.Exchange.{Exchange}
use Rattle.exchange_model.specs.Kept.{IsExchange}
use Rattle.exchange_model.proofs.Numbers.{cell_numbered}
use Rattle.job_types.specs.declared.chain.Held.{Held}
use Rattle.job_types.specs.Forlopps.{all_records}
use Rattle.source_meaning.specs.State.{State}
use Rattle.block_change.specs.Carried.{AreCarriedWords, IsCarried, carried_with}
use Rattle.block_change.proofs.Lists.{list_same}

words_once : (x y : Exchange) (store : List ℕ) (records : List Held) (ws vs : List ℕ) → IsExchange y
    → AreCarriedWords x y store records ws → AreCarriedWords x y store records vs → ws ≡ vs
words_once x y store records ws vs kept are also = list_same ws vs (are.whole ∙ sym also.whole) (λ i inside.
    let whole = are.whole in
    let cells = kept.numbered.cells in
    let c = cell_numbered y.blocks i (omega (arith, inside, whole, cells)) in
    ap (slice_index ws) (sym c.same) ∙ are.each c.cell c.is ∙ sym (also.each c.cell c.is) ∙ ap (slice_index vs) c.same)

pub state_once : (x y : Exchange) (s t u : State) → IsExchange y → IsCarried x y s t → IsCarried x y s u → t ≡ u
state_once x y s t u kept is also =
    let one : all_records u.chains ≡ all_records t.chains = ap (λ (v : State). all_records v.chains) also.books
    ∙ sym (ap (λ (v : State). all_records v.chains) is.books) in
    let words : t.store ≡ u.store = words_once x y s.store (all_records t.chains) t.store u.store kept is.words
    (subst (λ rs. AreCarriedWords x y s.store rs u.store) one also.words) in
    is.books ∙ ap (carried_with x y s) words ∙ sym also.books
