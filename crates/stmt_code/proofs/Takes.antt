-- Temporaries take entry values or answer values.
use Rattle.std.proofs.Common.{◌≡◌, ℕ, ◌+◌, ◌<◌, ◌≤◌, List, [], ◌∷◌, length, subst, arith}
use Rattle.std.specs.Prelude.{slice_index, slice_set}
use Rattle.std.specs.List.{AllByRecursion}
use Rattle.exchange_model.specs.declared.stmt.StmtKind.TheOpen.{Retrieve}
use Rattle.exchange_model.specs.Fits.{Scope, NamesFit}
use Rattle.exchange_model.specs.Kept.{scope_of}
use Rattle.source_meaning.specs.Config.{Item, Config}
use Rattle.source_meaning.specs.Step.{does}
use Rattle.source_meaning.specs.Changes.{takes}
use Rattle.machine_meaning.specs.Machine.{Machine}
use Rattle.expr_code.specs.Runs.{HasAt}
use Rattle.stmt_code.specs.StmtCode.{takes_code, retrieve_code}
use Rattle.stmt_code.proofs.Setting.{Setting, few_loops}
use Rattle.stmt_code.proofs.At.{At}
use Rattle.stmt_code.proofs.Same.{Same, Follows}
use Rattle.stmt_code.proofs.Instr.{lde, lda, stt}
use Rattle.stmt_code.proofs.Values.{count_sim}
use Rattle.stmt_code.proofs.Kind.{Case, at_kept, at_gave, goes_on_at}

-- temporaries of a block are among the first 24
abbrev pub AreTemps : List ℕ → Type 0
AreTemps temps = AllByRecursion (λ t. t < 24) temps

pub are_temps : (scope : Scope) (temps : List ℕ) → length scope.block.temporaries ≤ 24 → NamesFit scope temps → AreTemps temps
are_temps scope [] few fits = tt
are_temps scope (t ∷ ts) few fits = (omega (arith, few, fits.0), are_temps scope ts few fits.1)

module _ {g : Setting} where
  -- the entry values go into the temporaries
  pub take_sim : (ts : List ℕ) (k : ℕ) (c : Config) (m : Machine) (d a : ℕ) (rest : List Item) → d ≤ 12 → AreTemps ts
      → Same g [] c m → m.run.pc ≡ a → HasAt g.code a (takes_code k ts)
      → At g c.block m.run.locals d rest (a + length (takes_code k ts))
      → Follows g (record c { todo = rest; temps = takes k ts c.own.given c.temps }) m
  take_sim [] k c m d a rest le all s at has r = goes_on_at rest s at (subst (At g c.block m.run.locals d rest) (omega arith) r)
  take_sim (t ∷ ts) k c m d a rest le all s at has r =
      let v = slice_index c.own.given k in
      let len : a + length (takes_code k (t ∷ ts)) ≡ a + 1 + 1 + length (takes_code (k + 1) ts) = omega arith in
      lde s at has.0 (omega arith) (λ n1 s1 at1 q1.
      stt v s1 at1 has.1.0 all.0 q1.is (s.small_given k) (λ n2 s2 at2 q2.
      take_sim ts (k + 1) (record c { temps = slice_set c.temps t v }) n2 d (a + 1 + 1) rest le all.1 s2 at2 has.1.1
      (subst (At g c.block n2.run.locals d rest) len (at_kept le q2 (at_gave le q1 r)))))

  -- the answer values go into the temporaries
  retrieve_sim : (ts : List ℕ) (k : ℕ) (c : Config) (m : Machine) (d a : ℕ) (rest : List Item) → d ≤ 12 → AreTemps ts
      → Same g [] c m → m.run.pc ≡ a → HasAt g.code a (retrieve_code k ts)
      → At g c.block m.run.locals d rest (a + length (retrieve_code k ts))
      → Follows g (record c { todo = rest; temps = takes k ts c.own.answers c.temps }) m
  retrieve_sim [] k c m d a rest le all s at has r = goes_on_at rest s at (subst (At g c.block m.run.locals d rest) (omega arith) r)
  retrieve_sim (t ∷ ts) k c m d a rest le all s at has r =
      let v = slice_index c.own.answers k in
      let len : a + length (retrieve_code k (t ∷ ts)) ≡ a + 1 + 1 + length (retrieve_code (k + 1) ts) = omega arith in
      lda s at has.0 (omega arith) (λ n1 s1 at1 q1.
      stt v s1 at1 has.1.0 all.0 q1.is (s.small_answers k) (λ n2 s2 at2 q2.
      retrieve_sim ts (k + 1) (record c { temps = slice_set c.temps t v }) n2 d (a + 1 + 1) rest le all.1 s2 at2 has.1.1
      (subst (At g c.block n2.run.locals d rest) len (at_kept le q2 (at_gave le q1 r)))))

  pub retrieve : (answer : ℕ) (temps : List ℕ) → Case g (Retrieve answer temps)
  retrieve answer temps c m p d a rest s at has fits r =
      let le = few_loops fits in
      count_sim (does g.exchange p (Retrieve answer temps) rest) s at has.0 (λ n1 s1 at1 q1.
      retrieve_sim temps 0 _ n1 d (a + 1) rest le
      (are_temps (scope_of g.exchange c.block fits.block) temps fits.limited.temporaries fits.fits.names.1) s1 at1
      has.1 (subst (At g c.block n1.run.locals d rest) (omega arith) (at_kept le q1 r)))
