-- The ENTERs of a signal, block by block.
use Rattle.std.proofs.Common.{◌≡◌, ℕ, suc, ◌+◌, ◌-◌, ◌<◌, ◌≤◌, Bool, true, false, List, [], ◌∷◌}
use Rattle.std.proofs.Common.{◌++◌, length, Option, Some, None, refl, sym, ap, ◌∙◌, arith}
use Rattle.std.proofs.Common.{append-nil, append_assoc, if◌then◌else◌}
use Rattle.std.specs.List.{range_with_len}
use Rattle.exchange_model.specs.declared.exchange.Exchange.{Exchange}
use Rattle.exchange_model.specs.declared.stmt.Receiver.{Receiver}
use Rattle.exchange_model.specs.declared.stmt.Receiver.TheVariants as receiver
use Rattle.flow_points.specs.Places.{enter_point, receives}
use Rattle.flow_table.specs.Ways.{listed, receiving, all_receiving, receivers_of, enters_in}

pub no_enters : (x : Exchange) (signal : ℕ) (to : Option Receiver) (points : List ℕ) → to ≡ None
    → points ≡ points ++ enters_in x signal (receivers_of x signal to)
no_enters x signal to points none = sym (append-nil points) ∙ ap (λ o. points ++ enters_in x signal (receivers_of x signal o)) (sym none)

pub named_enter : (x : Exchange) (signal b : ℕ) (to : Option Receiver) (o : Option ℕ) (old new : List ℕ)
    → to ≡ Some (receiver.Block b) → o ≡ enter_point x b signal → new ≡ old ++ listed o
    → new ≡ old ++ enters_in x signal (receivers_of x signal to)
named_enter x signal b to o old new is at e =
    e ∙ ap (λ p. old ++ listed p) at ∙ ap (λ l. old ++ l) (sym (append-nil (listed (enter_point x b signal))))
    ∙ ap (λ u. old ++ enters_in x signal (receivers_of x signal u)) (sym is)

-- the ENTERs from a block on are left
pub record EntersGo (x : Exchange) (signal count : ℕ) (old : List ℕ) (number : ℕ) (now : List ℕ) : Type 0 where
  pub all : now ++ enters_in x signal (receiving x signal (range_with_len number (count - number))) ≡ old
      ++ enters_in x signal (receiving x signal (range_with_len 0 count))

pub enters_begin : (x : Exchange) (signal count : ℕ) (old now : List ℕ) → now ≡ old → EntersGo x signal count old 0 now
enters_begin x signal count old now same =
    let e : count - 0 ≡ count = omega arith in
    record { all = (λ i. same i ++ enters_in x signal (receiving x signal (range_with_len 0 (e i)))) }

opened : (number count : ℕ) → number < count → range_with_len number (count - number) ≡ number ∷ range_with_len (number + 1) (count - (number + 1))
opened number count lt = (let e : count - number ≡ suc (count - (number + 1)) = omega arith in ap (range_with_len number) e)

split : (x : Exchange) (signal b : ℕ) (bs : List ℕ) (t : Bool) → receives x signal b ≡ t
    → enters_in x signal (if t then b ∷ receiving x signal bs else receiving x signal bs)
    ≡ enters_in x signal (if t then b ∷ [] else []) ++ enters_in x signal (receiving x signal bs)
split x signal b bs true is = ap (λ l. l ++ enters_in x signal (receiving x signal bs)) (sym (append-nil (listed (enter_point x b signal))))
split x signal b bs false is = refl

pub enters_more : (x : Exchange) (signal count number : ℕ) (old now new : List ℕ) → number < count
    → new ≡ now ++ enters_in x signal (receiving x signal (number ∷ [])) → EntersGo x signal count old number now
    → EntersGo x signal count old (number + 1) new
enters_more x signal count number old now new lt is g =
    let one = enters_in x signal (receiving x signal (number ∷ [])) in
    let bs = range_with_len (number + 1) (count - (number + 1)) in
    let rest = enters_in x signal (receiving x signal bs) in
    record {
      all = ap (λ l. l ++ rest) is ∙ append_assoc now one rest
          ∙ ap (λ l. now ++ l) (sym (split x signal number bs (receives x signal number) refl))
          ∙ ap (λ l. now ++ enters_in x signal (receiving x signal l)) (sym (opened number count lt)) ∙ g.all;
    }

pub enters_end : (x : Exchange) (signal count number blocks : ℕ) (old now : List ℕ) → count ≡ length x.blocks
    → count ≤ number → EntersGo x signal count old number now → now ≡ old ++ enters_in x signal (all_receiving x signal)
enters_end x signal count number blocks old now is past g =
    let none : count - number ≡ 0 = omega arith in
    sym (append-nil now) ∙ sym (ap (λ n. now ++ enters_in x signal (receiving x signal (range_with_len number n))) none) ∙ g.all
    ∙ ap (λ n. old ++ enters_in x signal (receiving x signal (range_with_len 0 n))) is
