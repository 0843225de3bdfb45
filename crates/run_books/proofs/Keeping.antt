-- What holds of the books at every moment, after each change.
use Rattle.std.proofs.Common.{◌≡◌, ◌≢◌, ℕ, zero, suc, ◌+◌, ◌<◌, ◌≤◌, ◌^◌, List, [], length, map}
use Rattle.std.proofs.Common.{sym, ap, subst, ◌∙◌, arith}
use Rattle.std.proofs.lemmas.List.{length-map}
use Rattle.std.specs.FinMap as fin
use Rattle.std.specs.Ordering.{nat_cmp}
use Rattle.plex_limits.specs.declared.limits.TheConstants.{MOST_CELLS, MOST_JOBS, MOST_SENT}
use Rattle.signal_file.specs.declared.line.Line.{Line}
use Rattle.job_types.specs.declared.chain.Held.{Held}
use Rattle.job_types.specs.Forlopps.{ChainMap, Dead, with_chain}
use Rattle.job_types.specs.Waiting.{Waiting}
use Rattle.forlopp_chain.specs.Chains.{AreBelow}
use Rattle.forlopp_chain.proofs.Sound.{below_empty, below_with}
use Rattle.source_meaning.specs.State.{RunEvent}
use Rattle.source_meaning.specs.Valid.{MayBe}
use Rattle.source_meaning.proofs.States.{live_of}
use Rattle.run_books.specs.Accounts.{Account, IsKept, account}
use Rattle.run_books.specs.Retired.{chain_kept}
use Rattle.run_books.proofs.Counted.{len-kept, len-without}
use Rattle.run_books.proofs.Settled.{moved}
use Rattle.run_books.specs.Lines.{Timetable, coming_of}

-- before the first line has arrived
pub opening_kept : (t : Timetable) (lines : List Line) (waiting : Waiting) (chains : ChainMap) (dead : Dead) (events : List RunEvent) (limit : ℕ)
    → t.lines ≡ map coming_of lines → t.arrived ≡ [] → chains ≡ fin.empty → limit ≤ MOST_JOBS → length lines < 2 ^ 32
    → IsKept (account t waiting chains dead events 1 0 0 0 limit)
opening_kept t lines waiting chains dead events limit left none empty few short = record {
  few = few;
  within = omega arith;
  restarts = omega arith;
  some = omega arith;
  next = omega arith;
  lines = omega (arith, short, ap length left, length-map lines coming_of, ap length none);
  below = subst (λ m. AreBelow m 1) (sym empty) (below_empty 1);
  chains = omega (arith, ap fin.len empty, fin.len-empty nat_cmp (List Held));
}

-- no matter which events there are
pub untold_kept : (t : Timetable) (waiting : Waiting) (chains : ChainMap) (dead : Dead) (before events : List RunEvent) (next ended restarts running limit : ℕ)
    → IsKept (account t waiting chains dead before next ended restarts running limit)
    → IsKept (account t waiting chains dead events next ended restarts running limit)
untold_kept t waiting chains dead before events next ended restarts running limit kept = record {
  few = kept.few;
  within = kept.within;
  restarts = kept.restarts;
  some = kept.some;
  next = kept.next;
  lines = kept.lines;
  below = kept.below;
  chains = kept.chains;
}

-- after a job has retired

-- the chain of a job's forlopp, which is below the next new number
pub below_kept : (f : ℕ) (chain : List Held) (m : ChainMap) (before next : ℕ) → AreBelow m before → (f ≢ 0 → f < before)
    → before ≤ next → AreBelow (chain_kept f chain m) next
below_kept zero chain m before next below some up = λ q held. let under = below q held in omega (arith, under, up)
below_kept (suc n) chain m before next below some up =
    let drawn : suc n < before = some (λ none. absurd (omega (arith, none))) in
    below_with m (suc n) chain next (λ q held. let under = below q held in omega (arith, under, up)) (omega (arith, drawn, up))

pub retired_kept : (old : Account) (w : Waiting) (es : List RunEvent) (n e k r : ℕ) (m : ChainMap) (d : Dead)
    → IsKept old → e ≡ old.state.ended + 1 → r + 1 ≡ old.running → k ≤ old.state.restarts + 1
    → old.state.next ≤ n → n ≤ old.state.next + MOST_SENT → AreBelow m n → fin.len m ≤ MOST_CELLS + e → IsKept (moved old w es n e k r m d)
retired_kept old w es n e k r m d kept ends one again up few below short = record {
  few = kept.few;
  within = let within = kept.within in omega (arith, within, ends, one);
  restarts = let restarts = kept.restarts in omega (arith, restarts, again, ends);
  some = let some = kept.some in omega (arith, some, up);
  next = let next = kept.next in omega (arith, next, few, ends);
  lines = kept.lines;
  below = below;
  chains = short;
}

-- the chains, once the job's is its forlopp's
pub chains_kept : (old : Account) (f : ℕ) (chain : List Held) (m0 m : ChainMap) (n : ℕ) → IsKept old → MayBe old.state f
    → m0 ≡ old.state.chains → m ≡ chain_kept f chain m0 → old.state.next ≤ n
    → AreBelow m n × (fin.len m ≤ MOST_CELLS + (old.state.ended + 1))
chains_kept old f chain m0 m n kept may same is up =
    let own : m ≡ chain_kept f chain old.state.chains = is ∙ ap (chain_kept f chain) same in
    let short = len-kept f chain old.state.chains in
    let few = kept.chains in (
      subst (λ k. AreBelow k n) (sym own) (below_kept f chain old.state.chains old.state.next n kept.below (λ some. (live_of old.state f some may).before) up),
      omega (arith, short, few, ap fin.len own),
    )

-- no chain is left
pub chains_gone : (m : ChainMap) (n e : ℕ) → m ≡ fin.empty → AreBelow m n × (fin.len m ≤ MOST_CELLS + e)
chains_gone m n e empty = (subst (λ k. AreBelow k n) (sym empty) (below_empty n), omega (arith, ap fin.len empty, fin.len-empty nat_cmp (List Held)))

-- that of a released forlopp is not
pub chains_released : (old : Account) (f : ℕ) (m m2 : ChainMap) (n e : ℕ) → MayBe old.state f → f ≢ 0
    → old.state.next ≤ n → m2 ≡ with_chain m f [] → AreBelow m n × (fin.len m ≤ MOST_CELLS + e)
    → AreBelow m2 n × (fin.len m2 ≤ MOST_CELLS + e)
chains_released old f m m2 n e may some up is held =
    let before = (live_of old.state f some may).before in
    let less = len-without m f in
    let few = held.1 in
    (subst (λ k. AreBelow k n) (sym is) (below_with m f [] n held.0 (omega (arith, before, up))), omega (arith, less, few, ap fin.len is))
