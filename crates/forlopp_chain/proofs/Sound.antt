-- What holds of chains and dead numbers at every moment, after each change.
use Rattle.std.proofs.Common.{◌≡◌, ◌≢◌, ℕ, ◌<◌, ◌≤◌, Bool, true, false, cond, eqb, List, [], ◌∷◌}
use Rattle.std.proofs.Common.{length, None, Some, unwrap_or, refl, sym, ap, subst, ◌∙◌, arith}
use Rattle.std.specs.Ordering.{nat_cmp}
use Rattle.std.specs.Cmp.{nat_cmp_total, unsigned_tied}
use Rattle.std.specs.FinMap as map
use Rattle.std.specs.FinSet as set
use Rattle.std.proofs.lemmas.Bool.{eqb-true, ne_eqb, or_from, or_parts}
use Rattle.plex_limits.specs.declared.limits.TheConstants.{MOST_HELD}
use Rattle.job_types.specs.declared.chain.Held.{Held}
use Rattle.job_types.specs.Forlopps.{ChainMap, Dead, chain_at, is_dead, none_dead, with_chain}
use Rattle.job_types.specs.Forlopps.{with_dead, dead_below}
use Rattle.job_types.proofs.ChainMaps.{get-with_chain, get-with_none, chain_at-with_chain}
use Rattle.job_types.proofs.ChainMaps.{chain_at-empty}
use Rattle.forlopp_chain.specs.Chains.{AreBelow, IsSound, NoneEmpty}

NoneEmpty-with : (m : ChainMap) (n : ℕ) (chain : List Held) → NoneEmpty m → NoneEmpty (with_chain m n chain)
NoneEmpty-with m n [] some q is = at (eqb q n) (sym (get-with_none m n q) ∙ is)
  where
    at : (b : Bool) → cond b None (map.get m q) ≢ Some []
    at true e = cc
    at false e = some q e
NoneEmpty-with m n (h ∷ chain) some q is = at (eqb q n) (sym (get-with_chain m n h chain q) ∙ is)
  where
    at : (b : Bool) → cond b (Some (h ∷ chain)) (map.get m q) ≢ Some []
    at true e = let same : h ∷ chain ≡ [] = ap (λ o. unwrap_or o []) e in cc
    at false e = some q e

-- no chain is left, whatever is dead but 0
pub IsSound-empty : (dead : Dead) → is_dead dead 0 ≡ false → IsSound map.empty dead
IsSound-empty dead zero = record {
  some = λ n is. let no : None ≡ Some [] = sym (map.get-empty nat_cmp n) ∙ is in cc;
  few = λ n. omega (arith, ap length (chain_at-empty n));
  live = λ n some. absurd (some (chain_at-empty n));
  zero = zero;
}

pub none_dead-zero : is_dead none_dead 0 ≡ false
none_dead-zero = set.contains-empty nat_cmp 0

-- no bound makes 0 dead
pub dead_below-zero : (dead : Dead) (next : ℕ) → is_dead dead 0 ≡ false → is_dead (dead_below dead next) 0 ≡ false
dead_below-zero dead next zero = zero

-- a live number gets a chain
pub IsSound-put : (m : ChainMap) (dead : Dead) (n : ℕ) (chain : List Held) → IsSound m dead → n ≢ 0
    → is_dead dead n ≡ false → length chain ≤ MOST_HELD → IsSound (with_chain m n chain) dead
IsSound-put m dead n chain sound some live few = record {
  some = NoneEmpty-with m n chain sound.some;
  few = λ q. subst (λ c. length c ≤ MOST_HELD) (sym (chain_at-with_chain m n chain q)) (short q (eqb q n));
  live = λ q held. at q (eqb q n) refl (λ none. held (chain_at-with_chain m n chain q ∙ none));
  zero = sound.zero;
}
  where
    short : (q : ℕ) (b : Bool) → length (cond b chain (chain_at m q)) ≤ MOST_HELD
    short q true = few
    short q false = sound.few q

    at : (q : ℕ) (b : Bool) → eqb q n ≡ b → cond b chain (chain_at m q) ≢ [] → (q ≢ 0) × (is_dead dead q ≡ false)
    at q true e held = let is = eqb-true q n e in (λ zero. some (sym is ∙ zero), ap (is_dead dead) is ∙ live)
    at q false e held = sound.live q held

-- a live number dies
pub IsSound-kill : (m : ChainMap) (dead : Dead) (n : ℕ) → IsSound m dead → n ≢ 0 → IsSound (with_chain m n []) (with_dead dead n)
IsSound-kill m dead n sound some = record {
  some = NoneEmpty-with m n [] sound.some;
  few = λ q. subst (λ c. length c ≤ MOST_HELD) (sym (chain_at-with_chain m n [] q)) (short q (eqb q n));
  live = λ q held. at q (eqb q n) refl (λ none. held (chain_at-with_chain m n [] q ∙ none));
  zero = others 0 (ne_eqb 0 n (λ zero. some (sym zero))) sound.zero;
}
  where
    short : (q : ℕ) (b : Bool) → length (cond b [] (chain_at m q)) ≤ MOST_HELD
    short q true = omega arith
    short q false = sound.few q

    others : (q : ℕ) → eqb q n ≡ false → is_dead dead q ≡ false → is_dead (with_dead dead n) q ≡ false
    others q e live = let parts = or_parts _ (set.contains dead.others q) live in
        or_from _ _ parts.0 (set.contains-insert nat_cmp_total dead.others n q ∙ or_from _ _ (unsigned_tied q n ∙ e) parts.1)

    at : (q : ℕ) (b : Bool) → eqb q n ≡ b → cond b [] (chain_at m q) ≢ [] → (q ≢ 0) × (is_dead (with_dead dead n) q ≡ false)
    at q true e held = absurd (held refl)
    at q false e held = let live = sound.live q held in (live.0, others q e live.1)

-- ---- that all numbers that hold records are below one

pub below_empty : (next : ℕ) → AreBelow map.empty next
below_empty next n some = absurd (some (chain_at-empty n))

pub below_with : (m : ChainMap) (n : ℕ) (chain : List Held) (next : ℕ) → AreBelow m next → n < next → AreBelow (with_chain m n chain) next
below_with m n chain next below lt q some = at (eqb q n) refl (λ none. some (chain_at-with_chain m n chain q ∙ none))
  where
    at : (b : Bool) → eqb q n ≡ b → cond b chain (chain_at m q) ≢ [] → q < next
    at true e held = let is = eqb-true q n e in omega (arith, is)
    at false e held = below q held
