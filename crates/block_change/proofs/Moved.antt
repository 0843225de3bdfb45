-- The parts of the books are carried over.
use Rattle.std.proofs.Common.{◌≡◌, ℕ, zero, suc, ◌+◌, ◌≤◌, Bool, true, false, nat_eq, cond, List}
use Rattle.std.proofs.Common.{[], ◌∷◌, length, map, drop, Some, None, refl, sym, ap, ◌∙◌, subst}
use Rattle.std.proofs.Common.{arith}
use Rattle.std.specs.HashMap.{get}
use Rattle.std.specs.Cmp.{nat_cmp_total}
use Rattle.std.specs.FinMap as fin
use Rattle.std.specs.Ordering.{nat_cmp}
use Rattle.std.specs.List.{AllByRecursion}
use Rattle.std.proofs.lemmas.List.{length-map}
use Rattle.exchange_model.specs.declared.exchange.Exchange.{Exchange}
use Rattle.exchange_model.specs.Kept.{IsExchange}
use Rattle.signal_file.specs.declared.line.Line.{Line}
use Rattle.job_types.specs.declared.chain.Held.{Held}
use Rattle.job_types.specs.Forlopps.{ChainMap, all_records}
use Rattle.forlopp_chain.specs.Chains.{AreBelow}
use Rattle.run_books.specs.Accounts.{with_words}
use Rattle.run_books.specs.Lines.{arrived_of, coming_of, found_in}
use Rattle.run_books.specs.Parts.{AreParts, account_of}
use Rattle.run_books.specs.declared.parts.BookParts.{BookParts}
use Rattle.source_meaning.specs.State.{Arrived, State}
use Rattle.source_meaning.specs.Valid.{IsRecord, IsValid}
use Rattle.source_meaning.proofs.Maps.{all_records_fit}
use Rattle.block_change.specs.Carried.{AreCarriedWords, IsCarried, carried_arrived, carried_chain}
use Rattle.block_change.specs.Carried.{carried_chains, carried_line, new_entries}
use Rattle.block_change.specs.Misfits.{misfit}
use Rattle.block_change.specs.Moves.{AreMoved}
use Rattle.block_change.specs.Renamed.{AreAtLevels, line_with}
use Rattle.block_change.proofs.Chaining.{chain_at-carried}
use Rattle.block_change.proofs.Valid.{carried_valid, levels_of, new_records}

-- ## Lines

arrived_carried : (x y : Exchange) (lines : List Line) (given : List ℕ)
    → arrived_of (map (line_with (new_entries x y)) lines) given ≡ map (carried_arrived x y) (arrived_of lines given)
arrived_carried x y [] given = refl
arrived_carried x y (l ∷ rest) [] = refl
arrived_carried x y (l ∷ rest) (f ∷ given) = ap (λ got. record { line = carried_line x y (coming_of l); forlopp = f } ∷ got) (arrived_carried x y rest given)

left_carried : (x y : Exchange) (n : ℕ) (lines : List Line)
    → map coming_of (drop n (map (line_with (new_entries x y)) lines))
    ≡ map (carried_line x y) (map coming_of (drop n lines))
left_carried x y zero [] = refl
left_carried x y zero (l ∷ rest) = ap (λ ls. carried_line x y (coming_of l) ∷ ls) (left_carried x y zero rest)
left_carried x y (suc n) [] = refl
left_carried x y (suc n) (l ∷ rest) = left_carried x y n rest

found_carried : (x y : Exchange) (got : List Arrived) (n : ℕ) → found_in (map (carried_arrived x y) got) n ≡ found_in got n
found_carried x y [] n = refl
found_carried x y (a ∷ rest) n = ap (λ o. cond (nat_eq a.line.number n) (Some a.forlopp) o) (found_carried x y rest n)

-- ## Chains

below_carried : (x y : Exchange) (m : ChainMap) (next : ℕ) → AreBelow m next → AreBelow (carried_chains x y m) next
below_carried x y m next below n some = below n (λ none. some (chain_at-carried x y m n ∙ ap (carried_chain x y) none))

len_insert : {X : Type 0} (m : fin.FinMap nat_cmp X) (k : ℕ) (v : X) → fin.len (fin.insert m k v) ≤ fin.len m + 1
len_insert m k v = by (fin.contains_key m k) (fin.len-insert nat_cmp_total m k v)
  where
    by : (b : Bool) → fin.len (fin.insert m k v) ≡ cond b (fin.len m) (fin.len m + 1) → fin.len (fin.insert m k v) ≤ fin.len m + 1
    by true is = omega (arith, is)
    by false is = omega (arith, is)

len_from : {X : Type 0} (es : List (ℕ × X)) → fin.len (fin.from_entries {R = nat_cmp} es) ≤ length es
len_from {X} [] = omega (arith, fin.len-empty nat_cmp X)
len_from (e ∷ es) = let rest = len_from es in let one = len_insert (fin.from_entries {R = nat_cmp} es) e.0 e.1 in omega (arith, rest, one)

len_carried : (x y : Exchange) (m : ChainMap) → fin.len (carried_chains x y m) ≤ fin.len m
unfolding carried_chains
len_carried x y m =
    let few = len_from (map (λ (e : ℕ × List Held). (e.0, carried_chain x y e.1)) (fin.entries m)) in
    let same = length-map {B = ℕ × List Held} (fin.entries m) (λ (e : ℕ × List Held). (e.0, carried_chain x y e.1)) in
    omega (arith, few, same, fin.len-entries m)

pub records_there : (x y : Exchange) (s : State) (m : ChainMap) → IsExchange x → IsExchange y → misfit x y ≡ None
    → IsValid x s → m ≡ carried_chains x y s.chains → AllByRecursion (IsRecord y) (all_records m)
records_there x y s m kept_x kept_y fits valid is =
    subst (AllByRecursion (IsRecord y)) (sym (ap all_records is))
    (all_records_fit (IsRecord y) (carried_chains x y s.chains) (new_records x y kept_x kept_y fits s valid []))

pub levels_there : (x : Exchange) (s : State) → IsValid x s → AreAtLevels s.waiting
levels_there x s valid = levels_of x s valid.waiting

-- ## Parts

module _ (x y : Exchange) (p q : BookParts) (moved : AreMoved x y p q) where
  arrived_is : arrived_of q.lines q.given ≡ map (carried_arrived x y) (arrived_of p.lines p.given)
  arrived_is = (λ i. arrived_of (moved.lines i) (moved.given i)) ∙ arrived_carried x y p.lines p.given

  left_is : map coming_of (drop (length q.given) q.lines) ≡ map (carried_line x y) (map coming_of (drop (length p.given) p.lines))
  left_is = (λ i. map coming_of (drop (length (moved.given i)) (moved.lines i))) ∙ left_carried x y (length p.given) p.lines

  pub parts_kept : AreParts p → AreParts q
  parts_kept parts = record {
    next_line = moved.next_line ∙ parts.next_line ∙ ap length (sym moved.given);
    within = let within = parts.within in omega (arith, within, ap length moved.given, ap length moved.lines, length-map p.lines (line_with (new_entries x y)));
    numbers = λ n. ap (λ t. get nat_eq t n) moved.numbers ∙ parts.numbers n
        ∙ sym (ap (λ got. found_in got n) arrived_is ∙ found_carried x y (arrived_of p.lines p.given) n);
    kept =
        let k = parts.kept in
        let some = k.some in
        let few = k.few in
        let within = k.within in
        let restarts = k.restarts in
        let next = k.next in
        let lines = k.lines in
        let chains = k.chains in
        let arrived = ap length arrived_is in
        let arrived_many = length-map (arrived_of p.lines p.given) (carried_arrived x y) in
        let left = ap length left_is in
        let left_many = length-map (map coming_of (drop (length p.given) p.lines)) (carried_line x y) in
        let fewer = len_carried x y p.chains.chains in
        let len = ap fin.len moved.chains in
        let n = moved.next in
        let e = moved.ended in
        let r = moved.restarts in
        let l = moved.limit in
        record {
          few = omega (arith, few, l);
          within = omega (arith, within, e, l);
          restarts = omega (arith, restarts, r, e);
          some = omega (arith, some, n);
          next = omega (arith, next, n, e, arrived, arrived_many);
          lines = omega (arith, lines, arrived, arrived_many, left, left_many);
          below = subst (λ m. AreBelow m q.next_forlopp) (sym moved.chains)
              (subst (AreBelow (carried_chains x y p.chains.chains)) (sym n)
              (below_carried x y p.chains.chains p.next_forlopp k.below));
          chains = omega (arith, chains, len, fewer, e);
        };
  }

  pub parts_carried : (words slice carried : List ℕ) → slice ≡ words
      → AreCarriedWords x y slice (all_records q.chains.chains) carried
      → IsCarried x y (with_words (account_of p).state words) (with_words (account_of q).state carried)
  parts_carried words slice carried same are = record {
    books = λ i. record {
      store = carried;
      waiting = moved.waiting i;
      chains = moved.chains i;
      dead = moved.dead i;
      next = moved.next i;
      ended = moved.ended i;
      restarts = moved.restarts i;
      events = moved.events i;
      lines = left_is i;
      arrived = arrived_is i;
    };
    words = subst (λ ws. AreCarriedWords x y ws (all_records q.chains.chains) carried) same are;
  }

  pub parts_valid : (words slice carried : List ℕ) → slice ≡ words → IsExchange x → IsExchange y → misfit x y ≡ None
      → IsValid x (with_words (account_of p).state words)
      → AreCarriedWords x y slice (all_records q.chains.chains) carried → IsValid y (with_words (account_of q).state carried)
  parts_valid words slice carried same kept_x kept_y fits valid are =
      carried_valid x y (with_words (account_of p).state words) (with_words (account_of q).state carried) kept_x kept_y
      fits valid (parts_carried words slice carried same are)
