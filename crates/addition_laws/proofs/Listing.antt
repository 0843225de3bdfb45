-- The lists of two entries tell who passes but for additions.
use Rattle.std.proofs.Common.{◌≡◌, ℕ, ◌<◌, Bool, true, List, sym, ◌∙◌, subst}
use Rattle.std.specs.List.{Contains}
use Rattle.std.specs.Prelude.{◌↔◌}
use Rattle.plex_num.specs.declared.level.Level.{Level}
use Rattle.job_types.specs.declared.job.JobStart.{JobStart}
use Rattle.exchange_model.specs.declared.exchange.Exchange.{Exchange}
use Rattle.exchange_model.specs.Kept.{IsExchange}
use Rattle.source_meaning.specs.Named.{Layer}
use Rattle.flow_points.specs.declared.fact.Value.{Value}
use Rattle.flow_points.specs.Facts.{Facts}
use Rattle.entry_summary.specs.declared.summary.Access.TheVariants.{Field, Frees, Seizes, Variable}
use Rattle.entry_summary.specs.declared.summary.Summary.{Summary}
use Rattle.entry_summary.specs.Accesses as access
use Rattle.entry_summary.specs.Accesses.{Accesses, IsAccess}
use Rattle.entry_summary.specs.Orders.{level_number}
use Rattle.entry_summary.specs.Summaries.{IsSummary}
use Rattle.pair_tests.specs.declared.pair.Conflict.{Conflict}
use Rattle.pair_tests.specs.declared.pair.Test.{Test}
use Rattle.pair_tests.specs.Pairs.{IsConflict, IsTest, Passes, ShareField, ShareFile, both_seize}
use Rattle.pair_tests.specs.Pairs.{later_frees, first_frees, on_variable, on_field, on_file}
use Rattle.pair_tests.specs.Pairs.{on_level, two_values, first_value, later_value, in_forlopp}
use Rattle.pair_tests.specs.Pairs.{holds_none}
use Rattle.pair_laws.proofs.Naming.{access_fits, plain_at}
use Rattle.additions_meaning.specs.Additions.{AddsTo, adds, OnlyAddsTo, OnlyAddsToEach}
use Rattle.additions_meaning.specs.Additions.{OnlyAddsToField, Targets}
use Rattle.additions_meaning.specs.Lists.{AreAdded, AreOfBoth, HaveTheSame, IsAdded, IsAddedField}
use Rattle.addition_laws.specs.Sparing.{PassesAdding}
use Rattle.additions_meaning.specs.Sparing.{IsSparing}
use Rattle.addition_laws.proofs.Sparing.{stands}

-- two that say the same of a third
same_said : {A B C : Type 0} → A ↔ C → B ↔ C → A ↔ B
same_said one other = ((λ a. other.1 (one.0 a)), (λ b. one.1 (other.0 b)))

module _ (x : Exchange) (P : Facts) (entry : ℕ) where
  pub same_lists : (d e : Targets) → AreAdded x P entry d → AreAdded x P entry e → HaveTheSame d e
  same_lists d e one other = record {
    variables = λ n. same_said (one.variables n) (other.variables n);
    fields = λ n. same_said (one.fields n) (other.fields n);
  }

  -- an addition writes its variable
  adding_writes : (b p n : ℕ) (l : Layer) → AddsTo x b n l → Accesses x P entry b p l (Variable true n)
  adding_writes b p n l (adds v e numbered addition width) = subst (λ m. Accesses x P entry b p l (Variable true m)) (sym numbered) (access.writes v e)

  -- what is accessed and only added to
  pub variable_listed : (n : ℕ) (write : Bool) → OnlyAddsTo x P entry n → IsAccess x P entry (Variable write n) → IsAdded x P entry n
  variable_listed n write only h = record {
    written = record {
      at = h.at;
      point = h.point;
      stands = h.stands;
      reached = h.reached;
      access = adding_writes h.at.block h.point n h.at.layer (only h.at h.point h.stands h.reached write h.access);
    };
    only = only;
  }

  pub field_listed : (n : ℕ) (write : Bool) (selector : Value) → OnlyAddsToField x P entry n
      → IsAccess x P entry (Field write n selector) → IsAddedField x P entry n
  field_listed n write selector only h = record { write = write; selector = selector; accessed = h; only = only.adds }

  -- lists within those of the entry
  pub only_each : IsExchange x → (d shared : Targets) → AreAdded x P entry d
      → ((n : ℕ) → Contains shared.variables n → Contains d.variables n)
      → ((n : ℕ) → Contains shared.fields n → Contains d.fields n) → OnlyAddsToEach x P entry shared
  only_each kept d shared are variables fields = record {
    variables = λ n there. ((are.variables n).0 (variables n there)).only;
    fields = λ n there. of_field n ((are.fields n).0 (fields n there));
  }
    where
      of_field : (n : ℕ) → IsAddedField x P entry n → OnlyAddsToField x P entry n
      of_field n h = record {
        plain = λ file field at. plain_at x n file field
            (access_fits x kept P entry (Field h.write n h.selector) h.accessed) at;
        adds = h.only;
      }

module _ (x : Exchange) (kept : IsExchange x) (P : Facts) (first later one other : Summary) (a b : JobStart)
    (d e shared : Targets) (first_told : IsSummary x P a.job.entry first) (later_told : IsSummary x P b.job.entry later)
    (first_adds : AreAdded x P a.job.entry d) (later_adds : AreAdded x P b.job.entry e) (both : AreOfBoth d e shared)
    (of_first : IsSparing shared first one) (of_later : IsSparing shared later other) where
  passes_adding : Passes one other a b → PassesAdding x P first later a b
  passes_adding passes = record {
    shared = shared;
    first_only = only_each x P a.job.entry kept d shared first_adds (λ n there. ((both.variables n).0 there).0) (λ n there. ((both.fields n).0 there).0);
    later_only = only_each x P b.job.entry kept e shared later_adds (λ n there. ((both.variables n).0 there).1) (λ n there. ((both.fields n).0 there).1);
    one = one;
    other = other;
    of_first = of_first;
    of_later = of_later;
    passes = passes;
  }

  -- whatever lists let two jobs pass, these do
  module _ (p : PassesAdding x P first later a b) where
    -- what both access and only add to, both lists have
    variable_kept : (n : ℕ) (u v : Bool) → Contains one.accesses (Variable u n) → Contains other.accesses (Variable v n) → Contains p.shared.variables n → ⊥
    variable_kept n u v there again listed =
        let here = (of_first.accesses (Variable u n)).0 there in
        let also = (of_later.accesses (Variable v n)).0 again in
        here.1 ((both.variables n).1 (
          (first_adds.variables n).1 (variable_listed x P a.job.entry n u (p.first_only.variables n listed) ((first_told.accesses (Variable u n)).0 here.0)),
          (later_adds.variables n).1 (variable_listed x P b.job.entry n v (p.later_only.variables n listed) ((later_told.accesses (Variable v n)).0 also.0)),
        ))

    field_kept : (n : ℕ) (u v : Bool) (i j : Value) → Contains one.accesses (Field u n i)
        → Contains other.accesses (Field v n j) → Contains p.shared.fields n → ⊥
    field_kept n u v i j there again listed =
        let here = (of_first.accesses (Field u n i)).0 there in
        let also = (of_later.accesses (Field v n j)).0 again in
        here.1 ((both.fields n).1 (
          (first_adds.fields n).1 (field_listed x P a.job.entry n u i (p.first_only.fields n listed) ((first_told.accesses (Field u n i)).0 here.0)),
          (later_adds.fields n).1 (field_listed x P b.job.entry n v j (p.later_only.fields n listed) ((later_told.accesses (Field v n j)).0 also.0)),
        ))

    share_field : (n : ℕ) (i j : Value) → ShareField one other n i j → ShareField p.one p.other n i j
    share_field n i j h = record {
      first_writes = h.first_writes;
      later_writes = h.later_writes;
      by_first = stands x p.shared first p.one p.of_first (Field h.first_writes n i)
          ((of_first.accesses (Field h.first_writes n i)).0 h.by_first).0
          (field_kept n h.first_writes h.later_writes i j h.by_first h.by_later);
      by_later = stands x p.shared later p.other p.of_later (Field h.later_writes n j)
          ((of_later.accesses (Field h.later_writes n j)).0 h.by_later).0
          (field_kept n h.first_writes h.later_writes i j h.by_first h.by_later);
      one_writes = h.one_writes;
    }

    first_seizes : (file : ℕ) → Contains one.accesses (Seizes file) → Contains p.one.accesses (Seizes file)
    first_seizes file there = stands x p.shared first p.one p.of_first (Seizes file) ((of_first.accesses (Seizes file)).0 there).0 (λ none. none)

    first_gives : (file : ℕ) → Contains one.accesses (Frees file) → Contains p.one.accesses (Frees file)
    first_gives file there = stands x p.shared first p.one p.of_first (Frees file) ((of_first.accesses (Frees file)).0 there).0 (λ none. none)

    later_seizes : (file : ℕ) → Contains other.accesses (Seizes file) → Contains p.other.accesses (Seizes file)
    later_seizes file there = stands x p.shared later p.other p.of_later (Seizes file) ((of_later.accesses (Seizes file)).0 there).0 (λ none. none)

    later_gives : (file : ℕ) → Contains other.accesses (Frees file) → Contains p.other.accesses (Frees file)
    later_gives file there = stands x p.shared later p.other p.of_later (Frees file) ((of_later.accesses (Frees file)).0 there).0 (λ none. none)

    share_file : (file : ℕ) → ShareFile one other file → ShareFile p.one p.other file
    share_file file (both_seize u v) = both_seize (first_seizes file u) (later_seizes file v)
    share_file file (later_frees u v) = later_frees (first_seizes file u) (later_gives file v)
    share_file file (first_frees u v) = first_frees (first_gives file u) (later_seizes file v)

    fault_same : one.fault ≡ true → p.one.fault ≡ true
    fault_same fault = p.of_first.fault ∙ sym of_first.fault ∙ fault

    conflict_so : (c : Conflict) → IsConflict one other c → IsConflict p.one p.other c
    conflict_so c (on_variable n h) = on_variable n (record {
      first_writes = h.first_writes;
      later_writes = h.later_writes;
      by_first = stands x p.shared first p.one p.of_first (Variable h.first_writes n)
          ((of_first.accesses (Variable h.first_writes n)).0 h.by_first).0
          (variable_kept n h.first_writes h.later_writes h.by_first h.by_later);
      by_later = stands x p.shared later p.other p.of_later (Variable h.later_writes n)
          ((of_later.accesses (Variable h.later_writes n)).0 h.by_later).0
          (variable_kept n h.first_writes h.later_writes h.by_first h.by_later);
      one_writes = h.one_writes;
    })
    conflict_so c (on_field n u v h meet) = on_field n u v (share_field n u v h) meet
    conflict_so c (on_file file h) = on_file file (share_file file h)
    conflict_so c (on_level level there lt) =
        on_level level (subst (λ (ls : List Level). Contains ls level) (of_first.levels ∙ sym p.of_first.levels) there)
        (subst (λ (l : Level). level_number level < level_number l) (of_later.level ∙ sym p.of_later.level) lt)

    test_so : (t : Test) → IsTest one other t → IsTest p.one p.other t
    test_so t (two_values n i j h) = two_values n i j (share_field n _ _ h)
    test_so t (first_value n i k h) = first_value n i k (share_field n _ _ h)
    test_so t (later_value n j k h) = later_value n j k (share_field n _ _ h)
    test_so t (in_forlopp fault) = in_forlopp (fault_same fault)
    test_so t (holds_none file fault seizes) = holds_none file (fault_same fault) (later_seizes file seizes)

    passes_so : Passes one other a b
    passes_so = record { apart = λ c h. p.passes.apart c (conflict_so c h); tests = λ t h. p.passes.tests t (test_so t h); forlopps = p.passes.forlopps }

  pub lists_tell : Passes one other a b ↔ PassesAdding x P first later a b
  lists_tell = (passes_adding, passes_so)
