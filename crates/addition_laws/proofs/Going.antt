-- A job over words that have more at listed variables and fields goes the same way, step by step.
use Rattle.std.proofs.Common.{◌≡◌, ⊎_elim, ℕ, zero, suc, ◌+◌, List, [], ◌∷◌, length, Option, Some}
use Rattle.std.proofs.Common.{None, refl, sym, ap, ◌∙◌, subst}
use Rattle.std.proofs.lemmas.List.{append-nil}
use Rattle.std.specs.List.{AllByRecursion, Contains}
use Rattle.job_types.specs.declared.job.JobStart.{JobStart}
use Rattle.job_types.specs.declared.outcome.Outcome.{Outcome}
use Rattle.job_types.specs.declared.touch.Touch.{Touch}
use Rattle.job_types.specs.Own.{World, untouched, budget}
use Rattle.job_types.specs.Touches.{stored}
use Rattle.exchange_model.specs.declared.exchange.Exchange.{Exchange}
use Rattle.exchange_model.specs.declared.expr.Expr.{Expr}
use Rattle.exchange_model.specs.declared.stmt.Stmt.{Stmt}
use Rattle.exchange_model.specs.declared.stmt.StmtKind.{out-StmtKind}
use Rattle.exchange_model.specs.declared.stmt.StmtKind.TheOpen as stmt
use Rattle.exchange_model.specs.Kept.{IsExchange}
use Rattle.source_meaning.specs.Named.{Layer}
use Rattle.source_meaning.specs.Config.{Item, Do, Start, Turns, Caller, Config, next_counted}
use Rattle.source_meaning.specs.Changes.{ends}
use Rattle.source_meaning.specs.Deeds.{deed_of}
use Rattle.source_meaning.specs.Effects.{Step, NothingLeft, CountFull, Counts}
use Rattle.source_meaning.specs.Job.{unless_over, after_steps, begins, job}
use Rattle.source_meaning.specs.Rests.{AreRests, IsRest, StandsAs}
use Rattle.source_meaning.specs.Step.{step}
use Rattle.source_meaning.specs.Traces.{Answers, with_store}
use Rattle.source_meaning.specs.Valid.{IsJob, StoreFits}
use Rattle.source_meaning.proofs.Frame.{step_framed}
use Rattle.source_meaning.proofs.Rests.{counted_stands, steps_rest}
use Rattle.source_meaning.proofs.Stepping.{every_step}
use Rattle.flow_points.specs.declared.fact.Value.TheVariants.{Const}
use Rattle.flow_points.specs.Facts.{Facts, IsClosed, Reached}
use Rattle.entry_summary.specs.Numbers.{field_number, variable_number}
use Rattle.fact_laws.specs.Covers.{KnownNext}
use Rattle.fact_laws.proofs.Covering.{steps_known}
use Rattle.fact_laws.proofs.Standing.{at_place, deed_place}
use Rattle.additions_meaning.specs.Additions.{AddsTo, adds, AddsToField, adds_field, OnlyAddsToEach}
use Rattle.additions_meaning.specs.Additions.{IsAddedWord, Targets}
use Rattle.additions_meaning.specs.Amounts.{DiffersBy, RunsAlike, with_world}
use Rattle.addition_laws.proofs.Adding.{OnlyAdds, field_alike, variable_alike}
use Rattle.addition_laws.proofs.Amounting.{differ_answers, differ_stored}
use Rattle.addition_laws.proofs.Cells.{is_listed}
use Rattle.addition_laws.proofs.Leading.{led, step_led}
use Rattle.addition_laws.proofs.Outside.{AllPlain, IsApart, IsApartAt, Outs, effects_out}

-- a job before any touch
abbrev bare : Config → Config
bare c = record c { world = untouched c.world.store }

module _ (x : Exchange) (kept : IsExchange x) (P : Facts) (entry : ℕ) (d : Targets) (plain : AllPlain x d.fields) (more : ℕ → ℕ) where
  abbrev Added : ℕ → Type 0
  Added w = IsAddedWord x d w

  abbrev Alike : Config → Config → Type 0
  Alike c e = RunsAlike Added more c e

  abbrev OutsSo : Touch → Type 0
  OutsSo = Outs x d

  ends_out : (ks : List Caller) (c : Config) → AllByRecursion OutsSo c.world.trace → AllByRecursion OutsSo (ends ks c).world.trace
  ends_out [] c all = all
  ends_out (k ∷ ks) c all = all

  abbrev ApartNext : Config → Type 0
  ApartNext c = (i : Item) (rest : List Item) → next_counted c.todo ≡ i ∷ rest → IsApart x kept P entry d plain c.block (deed_of i)

  step_out : (c e : Config) → IsRest x c.block c.todo → ApartNext c → AllByRecursion OutsSo c.world.trace → Step x c e → AllByRecursion OutsSo e.world.trace
  step_out c e rests apart all (NothingLeft none) = ends_out c.callers c all
  step_out c e rests apart all (CountFull i rest is full) = all
  step_out c e rests apart all (Counts i rest f is room effects) =
      effects_out x kept P entry d plain (deed_of i) rest c.temps _ e (counted_stands x c.block c.todo i rest rests is).0 (apart i rest is) all effects

  -- a step that touches no listed word
  apart_alike : (c : Config) (w : World) → IsRest x c.block c.todo → ApartNext c
      → DiffersBy Added more c.world.store w.store → Alike (step x c) (step x (with_world w c))
  apart_alike c w rests apart words =
      let b = bare c in
      let z = step x b in
      let t = w.store in
      let framed = step_framed x b in
      let ts = framed.grows.touches in
      let outs : AllByRecursion OutsSo ts = subst (AllByRecursion OutsSo) framed.grows.trace (step_out b z rests apart tt (every_step x b)) in
      let told : Answers t ts = differ_answers Added more ts c.world.store t words outs framed.grows.told in
      let first : step x c ≡ led c.world.trace z =
      ap (λ u. step x (record c { world = record c.world { trace = u } })) (sym (append-nil c.world.trace)) ∙ step_led c.world.trace x b in
      let other : step x (with_world w c) ≡ led w.trace (with_store (stored t ts) z) =
      ap (λ u. step x (record c { world = record w { trace = u } })) (sym (append-nil w.trace))
      ∙ step_led w.trace x (with_store t b) ∙ ap (led w.trace) (framed.same t told) in
      let both : Alike (led c.world.trace z) (led w.trace (with_store (stored t ts) z)) = record {
        same = refl;
        words = subst (λ s. DiffersBy Added more s (stored t ts)) (sym framed.grows.store) (differ_stored Added more ts c.world.store t words outs);
      } in
      subst (λ e. Alike e (step x (with_world w c))) (sym first) (subst (Alike (led c.world.trace z)) (sym other) both)

  -- at each statement that may be counted next, listed variables and fields are only added to
  abbrev AddsNext : Config → Type 0
  AddsNext c = (s : Stmt) (rest : List Item) → next_counted c.todo ≡ Do s ∷ rest → OnlyAdds x kept P entry d plain more c.block s.point (out-StmtKind s.kind)

  -- it sets a listed variable or field, or it touches none
  data Way (b p : ℕ) : Layer → Type 0 where
    of_variable : (v : ℕ) (e : Expr) → Contains d.variables (variable_number x b v) → Way b p (stmt.SetVariable v e)
    of_field : (file field pointer : ℕ) (e : Expr) → Contains d.fields (field_number x file field) → Way b p (stmt.SetField file field pointer e)
    of_none : (l : Layer) → IsApartAt x kept P entry d plain b p l → Way b p l

  apart_from : (b p : ℕ) (l : Layer) → OnlyAdds x kept P entry d plain more b p l
      → ((v : ℕ) (e : Expr) → l ≡ stmt.SetVariable v e → Contains d.variables (variable_number x b v) → ⊥)
      → ((file field pointer : ℕ) (e : Expr) → l ≡ stmt.SetField file field pointer e
      → Contains d.fields (field_number x file field) → ⊥) → IsApartAt x kept P entry d plain b p l
  apart_from b p l only no_variable no_field = record {
    knows = only.knows;
    variables = λ n there write is. by_variable n there l (only.variables n there write is) no_variable;
    fields = λ n there write v is. by_field n there l (only.fields n there write v is) no_field;
  }
    where
      by_variable : (n : ℕ) → Contains d.variables n → (l : Layer) → AddsTo x b n l
          → ((v : ℕ) (e : Expr) → l ≡ stmt.SetVariable v e → Contains d.variables (variable_number x b v) → ⊥) → ⊥
      by_variable n there l (adds v e numbered addition width) none = none v e refl (subst (Contains d.variables) numbered there)

      by_field : (n : ℕ) → Contains d.fields n → (l : Layer) → AddsToField x n l
          → ((file field pointer : ℕ) (e : Expr) → l ≡ stmt.SetField file field pointer e
          → Contains d.fields (field_number x file field) → ⊥) → ⊥
      by_field n there l (adds_field file field pointer e placed numbered found addition width) none =
          none file field pointer e refl (subst (Contains d.fields) numbered there)

  way : (b p : ℕ) (l : Layer) → OnlyAdds x kept P entry d plain more b p l → Way b p l
  way b p (stmt.SetVariable v e) only = ⊎_elim
      (λ there. of_variable v e there)
      (λ none. of_none (stmt.SetVariable v e) (apart_from b p (stmt.SetVariable v e) only
      (λ w f same there. (let index : w ≡ v = cc in none (subst (λ n. Contains d.variables (variable_number x b n)) index there)))
      (λ file field pointer f same there. cc)))
      (is_listed (variable_number x b v) d.variables)
  way b p (stmt.SetField file field pointer e) only = ⊎_elim
      (λ there. of_field file field pointer e there)
      (λ none. of_none (stmt.SetField file field pointer e) (apart_from b p (stmt.SetField file field pointer e) only
      (λ w f same there. cc)
      (λ other place at f same there.
      let first : other ≡ file = cc in
      let second : place ≡ field = cc in
      none (subst (λ n. Contains d.fields (field_number x file n)) second (subst (λ n. Contains d.fields (field_number x n place)) first there)))))
      (is_listed (field_number x file field) d.fields)
  way b p l only = of_none l (apart_from b p l only (λ v e same there. cc) (λ file field pointer e same there. cc))

  step_alike : (c : Config) (w : World) → IsRest x c.block c.todo → AddsNext c
      → DiffersBy Added more c.world.store w.store → Alike (step x c) (step x (with_world w c))
  step_alike c w rests next words = by (next_counted c.todo) refl
    where
      apart : (i : Item) (rest : List Item) → next_counted c.todo ≡ i ∷ rest → IsApart x kept P entry d plain c.block (deed_of i) → ApartNext c
      apart i rest is h j more same = subst (λ k. IsApart x kept P entry d plain c.block (deed_of k)) (item_same (sym is ∙ same)) h
        where
          item_same : i ∷ rest ≡ j ∷ more → i ≡ j
          item_same e = cc

      by_way : (s : Stmt) (rest : List Item) (l : Layer) → next_counted c.todo ≡ Do s ∷ rest → out-StmtKind s.kind ≡ l
          → StandsAs x c.block s.point l rest → OnlyAdds x kept P entry d plain more c.block s.point l
          → Way c.block s.point l → Alike (step x c) (step x (with_world w c))
      by_way s rest l is layer at only (of_variable v e there) = variable_alike x kept P entry d plain more c w s rest v e is layer at only there words
      by_way s rest l is layer at only (of_field file field pointer e there) = field_alike x kept P entry d plain more c
          w s rest file field pointer e is layer at only there words
      by_way s rest l is layer at only (of_none m out) = apart_alike c w rests
          (apart (Do s) rest is (subst (IsApartAt x kept P entry d plain c.block s.point) (sym layer) out)) words

      by : (items : List Item) → next_counted c.todo ≡ items → Alike (step x c) (step x (with_world w c))
      by [] is = apart_alike c w rests (λ i rest same. absurd (let none : [] ≡ i ∷ rest = sym is ∙ same in cc)) words
      by (Start s ∷ rest) is = apart_alike c w rests (apart (Start s) rest is tt) words
      by (Turns p temp this end body ∷ rest) is = apart_alike c w rests (apart (Turns p temp this end body) rest is tt) words
      by (Do s ∷ rest) is =
          let only = next s rest is in
          by_way s rest (out-StmtKind s.kind) is refl (counted_stands x c.block c.todo (Do s) rest rests is).0 only
          (way c.block s.point (out-StmtKind s.kind) only)

-- the last of some steps
last_of : (n : ℕ) (x : Exchange) (c : Config) → after_steps (suc n) x c ≡ unless_over (after_steps n x c).over (after_steps n x c) (step x (after_steps n x c))
unfolding after_steps
last_of zero x c = refl
last_of (suc n) x c = by c.over refl (last_of n x (step x c))
  where
    next : Config
    next = after_steps n x (step x c)

    by : (over : Option Outcome) → c.over ≡ over → after_steps (suc n) x (step x c) ≡ unless_over next.over next (step x next)
        → unless_over over c (after_steps (suc n) x (step x c))
        ≡ unless_over (unless_over over c next).over (unless_over over c next) (step x (unless_over over c next))
    by None is more = more
    by (Some o) is more = sym (ap (λ v. unless_over v c (step x c)) is)

module _ (x : Exchange) (kept : IsExchange x) (P : Facts) (closed : IsClosed x P) (start : JobStart)
    (is_job : IsJob x start.job) (s : List ℕ) (fits : StoreFits x s) (d : Targets)
    (only : OnlyAddsToEach x P start.job.entry d) (more : ℕ → ℕ) (t : List ℕ) (words : DiffersBy (IsAddedWord x d) more s t) where
  abbrev AlikeSo : Config → Config → Type 0
  AlikeSo c e = RunsAlike (IsAddedWord x d) more c e

  first_alike : AlikeSo (after_steps 0 x (begins x start s)) (after_steps 0 x (begins x start t))
  unfolding after_steps
  first_alike = record { same = refl; words = words }

  all_plain : AllPlain x d.fields
  all_plain n there = (only.fields n there).plain

  adds_next : (c : Config) (s : Stmt) (rest : List Item) → AreRests x c → next_counted c.todo ≡ Do s ∷ rest
      → KnownNext x P start.job.entry start.job.values c (Do s)
      → OnlyAdds x kept P start.job.entry d all_plain more c.block s.point (out-StmtKind s.kind)
  adds_next c s rest rests is known =
      let l = out-StmtKind s.kind in
      let at = (counted_stands x c.block c.todo (Do s) rest rests.here is).0 in
      let reached : Reached P start.job.entry s.point = (Const (length c.callers), known.depth) in
      record {
        knows = λ t lt. (let k = known.temp t lt in (k.0, k.1));
        variables = λ n there write is. only.variables n there (at_place c.block s.point l rest) s.point
            (record { place = deed_place at; here = refl }) reached write is;
        fields = λ n there write v is. (only.fields n there).adds (at_place c.block s.point l rest) s.point
            (record { place = deed_place at; here = refl }) reached write v is;
      }

  one_more : (n : ℕ) (c e : Config) → c ≡ after_steps n x (begins x start s) → AlikeSo c e
      → AlikeSo (unless_over c.over c (step x c)) (unless_over e.over e (step x e))
  one_more n c e here before = subst (λ z. AlikeSo (unless_over c.over c (step x c)) (unless_over z.over z (step x z))) (sym before.same) (by c.over refl)
    where
      rests : AreRests x c
      rests = subst (AreRests x) (sym here) (steps_rest x start s n)

      known : c.over ≡ None → (i : Item) (rest : List Item) → next_counted c.todo ≡ i ∷ rest → KnownNext x P start.job.entry start.job.values c i
      known = subst (λ (e : Config). e.over ≡ None → (i : Item) (rest : List Item) → next_counted e.todo ≡ i ∷ rest
          → KnownNext x P start.job.entry start.job.values e i) (sym here)
          (steps_known x kept P closed start s is_job fits n)

      by : (over : Option Outcome) → c.over ≡ over
          → AlikeSo (unless_over over c (step x c))
          (unless_over over (with_world e.world c) (step x (with_world e.world c)))
      by (Some o) is = record { same = refl; words = before.words }
      by None is = step_alike x kept P start.job.entry d all_plain more c e.world rests.here
          (λ s rest next. adds_next c s rest rests next (known is (Do s) rest next)) before.words

  pub steps_alike : (n : ℕ) → AlikeSo (after_steps n x (begins x start s)) (after_steps n x (begins x start t))
  steps_alike zero = first_alike
  steps_alike (suc n) =
      let c = after_steps n x (begins x start s) in
      let e = after_steps n x (begins x start t) in
      subst (λ z. AlikeSo z (after_steps (suc n) x (begins x start t))) (sym (last_of n x (begins x start s)))
      (subst (AlikeSo (unless_over c.over c (step x c))) (sym (last_of n x (begins x start t))) (one_more n c e refl (steps_alike n)))

  pub job_alike : AlikeSo (job x start s) (job x start t)
  unfolding job
  job_alike = steps_alike (budget + 1)
