-- Temporaries: each activation has all of them, and what they get is told place by place.
use Rattle.std.proofs.Common.{◌≡◌, ℕ, zero, suc, ◌+◌, ◌<◌, List, [], ◌∷◌, ◌++◌, length, Some, refl}
use Rattle.std.proofs.Common.{sym, ap, ◌∙◌, subst, slice_get, arith, length-append}
use Rattle.std.proofs.Math.ListN.{length-set}
use Rattle.std.proofs.lemmas.List.{get_or-set_same, get_or-set_other, length-replicate}
use Rattle.std.proofs.lemmas.Option.{none-some, same_Some, slice_get_within}
use Rattle.std.specs.Prelude.{slice_index, slice_set, Ok, ◌≢◌}
use Rattle.std.specs.List.{AllByRecursion}
use Rattle.plex_limits.specs.declared.limits.TheConstants.{MOST_TEMPORARIES}
use Rattle.job_types.specs.declared.job.JobStart.{JobStart}
use Rattle.job_types.specs.declared.touch.Touch.{Touch}
use Rattle.plex_num.proofs.Lists.{slice_get-append_left, slice_get-append_seam}
use Rattle.plex_num.proofs.Options.{same_Ok}
use Rattle.exchange_model.specs.declared.exchange.Exchange.{Exchange}
use Rattle.exchange_model.specs.declared.expr.Expr.{Expr}
use Rattle.source_meaning.specs.Changes.{ends, takes}
use Rattle.source_meaning.specs.Config.{Item, Caller, Config, blank}
use Rattle.source_meaning.specs.Deeds.{Deed, GoesOn, with_value, to_turn, with_found, with_seized}
use Rattle.source_meaning.specs.Deeds.{with_answers, with_given}
use Rattle.source_meaning.specs.Effects.{Effect, Looks, Goes, Leave, Begins, Asks, Returns, Ends}
use Rattle.source_meaning.specs.Effects.{Faults}
use Rattle.source_meaning.specs.Job.{begins, after_steps}
use Rattle.source_meaning.specs.Ranges.{HasTemporaries}
use Rattle.source_meaning.specs.Value.{Got, Gives, Fails, Sight, expr_value, answer_of, and_then}
use Rattle.source_meaning.specs.Value.{values_of}
use Rattle.source_meaning.proofs.Keeping.{Kept, steps_keep}

-- how many there are

takes_long : (k : ℕ) (ts values temps : List ℕ) → length (takes k ts values temps) ≡ length temps
takes_long k [] values temps = refl
takes_long k (t ∷ ts) values temps = takes_long (k + 1) ts values (slice_set temps t (slice_index values k)) ∙ length-set temps t (slice_index values k)

blank_long : length blank ≡ MOST_TEMPORARIES
blank_long = length-replicate {A = ℕ} MOST_TEMPORARIES 0

goes_long : (x : Exchange) (rest : List Item) (c : Config) (deed : Deed) (todo : List Item) (temps : List ℕ)
    → GoesOn x rest c deed todo temps → length temps ≡ length c.temps
goes_long x rest c deed todo temps (with_value p temp e v is) = length-set c.temps temp v
goes_long x rest c deed todo temps (to_turn p temp this end body) = length-set c.temps temp this
goes_long x rest c deed todo temps (with_found p temp file field rel e label number placed is) = length-set c.temps temp number
goes_long x rest c deed todo temps (with_seized p temp file label number placed is) = length-set c.temps temp number
goes_long x rest c deed todo temps (with_answers p answer ts) = takes_long 0 ts c.own.answers c.temps
goes_long x rest c deed todo temps (with_given p signal ts) = takes_long 0 ts c.own.given c.temps
goes_long x rest c deed todo temps _ = refl

effect_has : (x : Exchange) (deed : Deed) (rest : List Item) (c d : Config) → HasTemporaries c → Effect x deed rest c d → HasTemporaries d
effect_has x deed rest c d h (Goes e todo temps on) = record { temps = goes_long x rest c deed todo temps on ∙ h.temps; callers = h.callers }
effect_has x deed rest c d h (Looks e loads each) = record { temps = h.temps; callers = h.callers }
effect_has x deed rest c d h _ = record { temps = h.temps; callers = h.callers }

leave_has : (x : Exchange) (deed : Deed) (rest : List Item) (c d : Config) → HasTemporaries c → Leave x deed rest c d → HasTemporaries d
leave_has x deed rest c d h (Begins e b signal vs is) = record { temps = blank_long; callers = h.callers }
leave_has x deed rest c d h (Asks e b signal answer vs is room) = record { temps = blank_long; callers = (h.temps, h.callers) }
leave_has x deed rest c d h (Returns e p answer values vs k ks is given some same) =
    let waiting : AllByRecursion (λ (k : Caller). length k.temps ≡ MOST_TEMPORARIES) (k ∷ ks) =
    subst (AllByRecursion (λ (k : Caller). length k.temps ≡ MOST_TEMPORARIES)) some h.callers in
    record { temps = waiting.0; callers = waiting.1 }
leave_has x deed rest c d h (Ends e p l is end none) = record { temps = h.temps; callers = h.callers }
leave_has x deed rest c d h (Faults e f why) = record { temps = h.temps; callers = h.callers }

ends_have : (ks : List Caller) (c : Config) → HasTemporaries c → HasTemporaries (ends ks c)
ends_have [] c h = record { temps = h.temps; callers = h.callers }
ends_have (k ∷ ks) c h = record { temps = h.temps; callers = h.callers }

temporaries_kept : (x : Exchange) → Kept x HasTemporaries (λ b deed rest. Unit {0})
temporaries_kept x = record {
  context = λ c i rest h going is. tt;
  counting = λ deed rest c at h. record { temps = h.temps; callers = h.callers };
  effect = λ deed rest c d at h e. effect_has x deed rest c d h e;
  leave = λ deed rest c d at h e. leave_has x deed rest c d h e;
  ending = λ c h. ends_have c.callers c h;
  full = λ c h. record { temps = h.temps; callers = h.callers };
}

pub steps_have : (x : Exchange) (n : ℕ) (start : JobStart) (store : List ℕ) → HasTemporaries (after_steps n x (begins x start store))
steps_have x n start store = steps_keep (temporaries_kept x) n (begins x start store) (record { temps = blank_long; callers = tt })

-- what they get: a temporary that is not named stays, and one that is gets the value of its last
-- place

pub takes_other : (k : ℕ) (ts values temps : List ℕ) (t : ℕ) → AllByRecursion (λ u. t ≢ u) ts → slice_index (takes k ts values temps) t ≡ slice_index temps t
takes_other k [] values temps t none = refl
takes_other k (u ∷ ts) values temps t none = takes_other (k + 1) ts values (slice_set temps u (slice_index values k)) t
    none.1 ∙ get_or-set_other temps u t (slice_index values k) 0 none.0

pub takes_last : (k : ℕ) (before : List ℕ) (t : ℕ) (after values temps : List ℕ) → t < length temps
    → AllByRecursion (λ u. t ≢ u) after → slice_index (takes k (before ++ t ∷ after) values temps) t
    ≡ slice_index values (k + length before)
takes_last k [] t after values temps lt none =
    let here : k ≡ k + 0 = omega arith in
    takes_other (k + 1) after values (slice_set temps t (slice_index values k)) t none
    ∙ get_or-set_same temps t (slice_index values k) 0 lt ∙ ap (slice_index values) here
takes_last k (u ∷ before) t after values temps lt none =
    let next : k + 1 + length before ≡ k + suc (length before) = omega arith in
    let long = length-set temps u (slice_index values k) in
    takes_last (k + 1) before t after values (slice_set temps u (slice_index values k)) (omega arith) none ∙ ap (slice_index values) next

-- the value of each expression of a list

-- the values found before stay in front
pub values_before : (es : List Expr) (vs ws : List ℕ) (s : Sight) → values_of es vs s ≡ Ok ws → (i : ℕ) (v : ℕ)
    → slice_get vs i ≡ Some v → slice_get ws i ≡ Some v
values_before [] vs ws s is i v there = ap (λ l. slice_get l i) (sym (same_Ok vs ws is)) ∙ there
values_before (e ∷ es) vs ws s is i v there = by (expr_value e s) is
    (λ w more. values_before es (vs ++ w ∷ []) ws s more i v
    (slice_get-append_left vs (w ∷ []) i (slice_get_within vs i v there) ∙ there))
  where
    by : (got : Got) → and_then (answer_of got) (λ w. values_of es (vs ++ w ∷ []) s) ≡ Ok ws
        → ((w : ℕ) → values_of es (vs ++ w ∷ []) s ≡ Ok ws → slice_get ws i ≡ Some v) → slice_get ws i ≡ Some v
    by (Gives loads w) at more = more w at
    by (Fails loads f) at more = cc

-- the value of an expression, and where it stands
pub record IsValueAt (e : Expr) (s : Sight) (ws : List ℕ) (i : ℕ) : Type 0 where
  pub loads : List Touch
  pub value : ℕ
  pub is : expr_value e s ≡ Gives loads value
  pub there : slice_get ws i ≡ Some value

pub values_at : (es : List Expr) (vs ws : List ℕ) (s : Sight) → values_of es vs s ≡ Ok ws → (i : ℕ) (e : Expr)
    → slice_get es i ≡ Some e → IsValueAt e s ws (length vs + i)
values_at [] vs ws s is i e there = absurd (none-some e there)
values_at (f ∷ es) vs ws s is i e there = by (expr_value f s) refl is (λ w at j here. values_at es (vs ++ w ∷ []) ws s at j e here)
  where
    first : (loads : List Touch) (w : ℕ) → expr_value f s ≡ Gives loads w → values_of es (vs ++ w ∷ []) s ≡ Ok ws → f ≡ e → IsValueAt e s ws (length vs + 0)
    first loads w got at same =
        let here : length vs + 0 ≡ length vs = omega arith in
        record {
          loads = loads;
          value = w;
          is = ap (λ z. expr_value z s) (sym same) ∙ got;
          there = values_before es (vs ++ w ∷ []) ws s at (length vs + 0) w
              (ap (slice_get (vs ++ w ∷ [])) here ∙ slice_get-append_seam vs w []);
        }

    place : (loads : List Touch) (w i : ℕ) → slice_get (f ∷ es) i ≡ Some e → expr_value f s ≡ Gives loads w
        → values_of es (vs ++ w ∷ []) s ≡ Ok ws
        → ((j : ℕ) → slice_get es j ≡ Some e → IsValueAt e s ws (length (vs ++ w ∷ []) + j))
        → IsValueAt e s ws (length vs + i)
    place loads w zero here got at more = first loads w got at (same_Some f e here)
    place loads w (suc j) here got at more =
        let long = length-append vs (w ∷ []) in
        let next : length (vs ++ w ∷ []) + j ≡ length vs + suc j = omega arith in
        subst (IsValueAt e s ws) next (more j here)

    by : (got : Got) → expr_value f s ≡ got → and_then (answer_of got) (λ w. values_of es (vs ++ w ∷ []) s) ≡ Ok ws
        → ((w : ℕ) → values_of es (vs ++ w ∷ []) s ≡ Ok ws → (j : ℕ) → slice_get es j ≡ Some e
        → IsValueAt e s ws (length (vs ++ w ∷ []) + j)) → IsValueAt e s ws (length vs + i)
    by (Gives loads w) got at more = place loads w i there got at (more w at)
    by (Fails loads g) got at more = cc
