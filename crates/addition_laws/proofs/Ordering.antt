-- Two jobs that touch no words of one another but those to which both only add, in either order.
use Rattle.std.proofs.Common.{◌≡◌, ◌⊎◌, inl, inr, ⊎_elim, ℕ, ◌+◌, ◌-◌, ◌%◌, ◌^◌, ◌<◌, List, [], ◌∷◌}
use Rattle.std.proofs.Common.{◌++◌, length, sym, ap, ◌∙◌, arith}
use Rattle.std.proofs.Math.Nat.{add-mod-mod, add-mod_right, mod-eq_of_lt}
use Rattle.std.proofs.lemmas.Bool.{cases_eq}
use Rattle.std.proofs.lemmas.Grind.{same_number_lists}
use Rattle.std.specs.Prelude.{slice_index, if◌then◌else◌}
use Rattle.job_types.specs.declared.job.JobStart.{JobStart}
use Rattle.job_types.specs.declared.touch.Touch.{Touch}
use Rattle.job_types.specs.declared.touch.Touch.TheVariants.{Load, Store}
use Rattle.job_types.specs.Touches.{stored, NoStore}
use Rattle.job_types.proofs.Touched.{length-stored, stored-append, stored-kept}
use Rattle.exchange_model.specs.declared.exchange.Exchange.{Exchange}
use Rattle.exchange_model.specs.Kept.{IsExchange}
use Rattle.source_meaning.specs.Config.{Config}
use Rattle.source_meaning.specs.Job.{job}
use Rattle.source_meaning.specs.Traces.{IsTouched, AgreeOn, touched_word, with_store, trace_of}
use Rattle.source_meaning.specs.Traces.{store_after}
use Rattle.source_meaning.specs.Valid.{IsJob, StoreFits}
use Rattle.source_meaning.proofs.Agreeing.{job_agrees, job_length, stored_alike}
use Rattle.source_meaning.proofs.Growing.{job_store}
use Rattle.source_meaning.proofs.Ranged.{job_in_range}
use Rattle.flow_points.specs.Facts.{Facts, IsClosed}
use Rattle.additions_meaning.specs.Additions.{OnlyAddsToEach, IsAddedWord, Targets}
use Rattle.additions_meaning.specs.Amounts.{DiffersBy, RunsAlike, with_world}
use Rattle.addition_laws.specs.Either.{LeavesAloneBut, AreApartBut, IsSameRun, SameInEitherOrder}
use Rattle.addition_laws.specs.Either.{left_by}
use Rattle.addition_laws.proofs.Amounting.{no_store}
use Rattle.addition_laws.proofs.Going.{job_alike}
use Rattle.addition_laws.proofs.Mixing.{mixed, length-mixed, mixed_at, mixed_fits, added_small}
use Rattle.addition_laws.proofs.Mixing.{is_word_added, test, test_added, test_other}

-- a list touches a word, or it does not
is_touched : (ts : List Touch) (w : ℕ) → IsTouched ts w ⊎ (IsTouched ts w → ⊥)
is_touched [] w = inr (λ at. at)
is_touched (t ∷ ts) w = ⊎_elim (λ here. inl (inl here))
    (λ other. ⊎_elim (λ later. inl (inr later)) (λ none. inr (λ at. ⊎_elim other none at)) (is_touched ts w))
    (cases_eq (touched_word t) w)

untouched_kept : (ts : List Touch) (w : ℕ) → (IsTouched ts w → ⊥) → NoStore w ts
untouched_kept [] w none = tt
untouched_kept (Load u v ∷ ts) w none = untouched_kept ts w (λ at. none (inr at))
untouched_kept (Store u v ∷ ts) w none = ((λ same. none (inl (sym same))), untouched_kept ts w (λ at. none (inr at)))

-- by how much a number is more than another one, modulo m
more_than : (m now was : ℕ) → now < m → was < m → now ≡ (was + (now + m - was) % m) % m
more_than m now was low small =
    let sum : was + (now + m - was) ≡ now + m = omega (arith, low, small) in
    sym (add-mod-mod was (now + m - was) m ∙ ap (λ n. n % m) sum ∙ add-mod_right now m ∙ mod-eq_of_lt low)

-- what both add comes out the same in either order
same_sums : (m was first other : ℕ) → was < m → (first + (other + m - was) % m) % m ≡ (other + (first + m - was) % m) % m
same_sums m was first other low =
    let turned : first + (other + m - was) ≡ other + (first + m - was) = omega (arith, low) in
    add-mod-mod first (other + m - was) m ∙ ap (λ n. n % m) turned ∙ sym (add-mod-mod other (first + m - was) m)

module _ (x : Exchange) (kept : IsExchange x) (P : Facts) (closed : IsClosed x P) (d : Targets) (s : List ℕ) (fits : StoreFits x s) where
  abbrev Added : ℕ → Type 0
  Added w = IsAddedWord x d w

  store_fits : (a : JobStart) → IsJob x a.job → StoreFits x (store_after x a s)
  store_fits a is_job = (job_in_range x kept a s is_job fits).store

  -- a job after these stores
  record ComesAfter (ws : List Touch) (now : List ℕ) (b : JobStart) : Type 0 where
    run : IsSameRun (job x b s) (job x b now)
    others : (w : ℕ) → (Added w → ⊥) → slice_index (store_after x b now) w ≡ slice_index (stored (stored s ws) (trace_of x b s)) w
    added : (w : ℕ) → Added w → slice_index (store_after x b now) w
        ≡ (slice_index (store_after x b s) w + (slice_index now w + 2 ^ 32 - slice_index s w) % 2 ^ 32) % 2 ^ 32

  comes_after : (ws : List Touch) (now : List ℕ) (b : JobStart) → now ≡ stored s ws → StoreFits x now → IsJob x b.job
      → OnlyAddsToEach x P b.job.entry d → LeavesAloneBut Added ws (trace_of x b s) → ComesAfter ws now b
  comes_after ws now b is now_fits is_job only alone = record {
    run = alike.same ∙ ap (with_world (job x b now).world) same;
    others = λ w not. sym (alike.words.same w not) ∙ after w ∙ stored_alike us m now w long_now (at_other w not) ∙ ap (λ l. slice_index (stored l us) w) is;
    added = λ w added. alike.words.added w added
        ∙ ap (λ n. (n + more w) % 2 ^ 32) (after w ∙ stored_alike us m s w long_was (at_added w added)
        ∙ sym (ap (λ l. slice_index l w) (job_store x b s)));
  }
    where
      us : List Touch
      us = trace_of x b s

      -- the words of the start where one is added, and else those after the stores
      m : List ℕ
      m = mixed (test x kept d) s now

      same_long : length s ≡ length now
      same_long = sym (ap length is ∙ length-stored ws s)

      long_was : length m ≡ length s
      long_was = length-mixed (test x kept d) s now

      long_now : length m ≡ length now
      long_now = long_was ∙ same_long

      at_added : (w : ℕ) → Added w → slice_index m w ≡ slice_index s w
      at_added w added = mixed_at (test x kept d) s now w same_long ∙ ap (λ b. if b then slice_index s w else slice_index now w) (test_added x kept d w added)

      at_other : (w : ℕ) → (Added w → ⊥) → slice_index m w ≡ slice_index now w
      at_other w not = mixed_at (test x kept d) s now w same_long ∙ ap (λ b. if b then slice_index s w else slice_index now w) (test_other x kept d w not)

      more : ℕ → ℕ
      more w = (slice_index now w + 2 ^ 32 - slice_index s w) % 2 ^ 32

      agree : AgreeOn us s m
      agree = record {
        long = sym long_was;
        same = λ w at. ⊎_elim (λ added. sym (at_added w added))
            (λ not. sym (at_other w not ∙ ap (λ l. slice_index l w) is ∙ stored-kept ws s w (alone w not at))) (is_word_added x kept d w);
      }

      same : job x b m ≡ with_store (stored m us) (job x b s)
      same = job_agrees x b s m agree

      after : (w : ℕ) → slice_index (job x b m).world.store w ≡ slice_index (stored m us) w
      after w = ap (λ (c : Config). slice_index c.world.store w) same

      differs : DiffersBy Added more m now
      differs = record {
        long = long_now;
        same = at_other;
        added = λ w added. more_than (2 ^ 32) (slice_index now w) (slice_index s w)
            (added_small x kept d now w now_fits added) (added_small x kept d s w fits added)
            ∙ ap (λ n. (n + more w) % 2 ^ 32) (sym (at_added w added));
      }

      alike : RunsAlike Added more (job x b m) (job x b now)
      alike = job_alike x kept P closed b is_job m (mixed_fits x kept d (test x kept d) s now fits now_fits) d only more now differs

  -- stores of two lists at a word that the first does not store to if the second touches it
  either_stores : (ts us : List Touch) (w : ℕ) → (IsTouched us w → NoStore w ts)
      → slice_index (stored (stored s ts) us) w ≡ slice_index (stored (stored s us) ts) w
  either_stores ts us w alone = ⊎_elim
      (λ at.
      let none = alone at in
      stored_alike us (stored s ts) s w (length-stored ts s) (stored-kept ts s w none) ∙ sym (stored-kept ts (stored s us) w none))
      (λ not.
      let none = untouched_kept us w not in
      stored-kept us (stored s ts) w none ∙ sym (stored_alike ts (stored s us) s w (length-stored us s) (stored-kept us s w none)))
      (is_touched us w)

  pub either_order : (a b : JobStart) (ending : List Touch) → IsJob x a.job → IsJob x b.job
      → OnlyAddsToEach x P a.job.entry d → OnlyAddsToEach x P b.job.entry d → AreApartBut x Added s a b ending
      → SameInEitherOrder x s a b ending
  either_order a b ending first_job later_job first_only later_only apart = record {
    later = later.run;
    first = first.run;
    words = same_number_lists (store_after x b left) (stored again ending) long (λ w within. ⊎_elim (at_added w) (at_other w) (is_word_added x kept d w));
  }
    where
      ts : List Touch
      ts = trace_of x a s

      us : List Touch
      us = trace_of x b s

      ws : List Touch
      ws = ts ++ ending

      left : List ℕ
      left = left_by x a ending s

      again : List ℕ
      again = store_after x a (store_after x b s)

      left_is : left ≡ stored s ws
      left_is = ap (λ l. stored l ending) (job_store x a s) ∙ sym (stored-append ts ending s)

      later : ComesAfter ws left b
      later = comes_after ws left b left_is apart.fits later_job later_only apart.first

      first : ComesAfter us (store_after x b s) a
      first = comes_after us (store_after x b s) a (job_store x b s) (store_fits b later_job) first_job first_only apart.later

      long : length (store_after x b left) ≡ length (stored again ending)
      long = job_length x b left ∙ length-stored ending (store_after x a s) ∙ job_length x a s
          ∙ sym (length-stored ending again ∙ job_length x a (store_after x b s) ∙ job_length x b s)

      at_added : (w : ℕ) → Added w → slice_index (store_after x b left) w ≡ slice_index (stored again ending) w
      at_added w added =
          let none = no_store Added ending w apart.outside added in
          let was = slice_index s w in
          let other = slice_index (store_after x b s) w in
          later.added w added ∙ ap (λ n. (other + (n + 2 ^ 32 - was) % 2 ^ 32) % 2 ^ 32) (stored-kept ending (store_after x a s) w none)
          ∙ same_sums (2 ^ 32) was other (slice_index (store_after x a s) w) (added_small x kept d s w fits added)
          ∙ sym (first.added w added) ∙ sym (stored-kept ending again w none)

      at_other : (w : ℕ) → (Added w → ⊥) → slice_index (store_after x b left) w ≡ slice_index (stored again ending) w
      at_other w not =
          let same : length again ≡ length (stored (stored s us) ts) = job_length x a (store_after x b s)
          ∙ job_length x b s ∙ sym (length-stored ts (stored s us) ∙ length-stored us s) in
          later.others w not ∙ either_stores ws us w (apart.first w not) ∙ ap (λ l. slice_index l w) (stored-append ts ending (stored s us))
          ∙ sym (stored_alike ending again (stored (stored s us) ts) w same (first.others w not))
