-- Summaries that say no more conflict in no other way, ask for no other test, and let all the jobs
-- pass that pass by larger ones.
use Rattle.std.proofs.Common.{ℕ, ◌<◌, subst}
use Rattle.job_types.specs.declared.job.JobStart.{JobStart}
use Rattle.flow_points.specs.declared.fact.Value.{Value}
use Rattle.entry_summary.specs.declared.summary.Summary.{Summary}
use Rattle.entry_summary.specs.Orders.{level_number}
use Rattle.pair_tests.specs.declared.pair.Conflict.{Conflict}
use Rattle.pair_tests.specs.declared.pair.Test.{Test}
use Rattle.pair_tests.specs.declared.pair.Verdict.{Verdict}
use Rattle.pair_tests.specs.declared.pair.Verdict.TheVariants.{Never, Tests}
use Rattle.pair_tests.specs.Pairs.{HasNoConflict, IsConflict, IsFirstConflict, IsTest, IsVerdict}
use Rattle.pair_tests.specs.Pairs.{Passes, ShareField, ShareFile, ShareVariable, both_seize}
use Rattle.pair_tests.specs.Pairs.{later_frees, first_frees, on_variable, on_field, on_file}
use Rattle.pair_tests.specs.Pairs.{on_level, two_values, first_value, later_value, in_forlopp}
use Rattle.pair_tests.specs.Pairs.{holds_none}
use Rattle.precision_laws.specs.Summaries.{IsNeverBy, SaysNoMore}

module _ (first later great_first great_later : Summary) (f : SaysNoMore first great_first) (l : SaysNoMore later great_later) where
  variable_more : (n : ℕ) → ShareVariable first later n → ShareVariable great_first great_later n
  variable_more n s = record {
    first_writes = s.first_writes;
    later_writes = s.later_writes;
    by_first = f.accesses _ s.by_first;
    by_later = l.accesses _ s.by_later;
    one_writes = s.one_writes;
  }

  field_more : (n : ℕ) (u v : Value) → ShareField first later n u v → ShareField great_first great_later n u v
  field_more n u v s = record {
    first_writes = s.first_writes;
    later_writes = s.later_writes;
    by_first = f.accesses _ s.by_first;
    by_later = l.accesses _ s.by_later;
    one_writes = s.one_writes;
  }

  file_more : (file : ℕ) → ShareFile first later file → ShareFile great_first great_later file
  file_more file (both_seize p q) = both_seize (f.accesses _ p) (l.accesses _ q)
  file_more file (later_frees p q) = later_frees (f.accesses _ p) (l.accesses _ q)
  file_more file (first_frees p q) = first_frees (f.accesses _ p) (l.accesses _ q)

  pub conflict_more : (c : Conflict) → IsConflict first later c → IsConflict great_first great_later c
  conflict_more c (on_variable n s) = on_variable n (variable_more n s)
  conflict_more c (on_field n u v s meet) = on_field n u v (field_more n u v s) meet
  conflict_more c (on_file file s) = on_file file (file_more file s)
  conflict_more c (on_level level there above) = on_level level (f.levels level there) (subst (λ m. level_number level < level_number m) l.level above)

  pub test_more : (t : Test) → IsTest first later t → IsTest great_first great_later t
  test_more t (two_values n a b s) = two_values n a b (field_more n _ _ s)
  test_more t (first_value n a c s) = first_value n a c (field_more n _ _ s)
  test_more t (later_value n b c s) = later_value n b c (field_more n _ _ s)
  test_more t (in_forlopp may) = in_forlopp (f.fault may)
  test_more t (holds_none file may there) = holds_none file (f.fault may) (l.accesses _ there)

  pub apart_less : HasNoConflict great_first great_later → HasNoConflict first later
  apart_less none c h = none c (conflict_more c h)

  pub passes_less : (a b : JobStart) → Passes great_first great_later a b → Passes first later a b
  passes_less a b p = record { apart = apart_less p.apart; tests = λ t h. p.tests t (test_more t h); forlopps = p.forlopps }

  pub never_by : (c : Conflict) (v : Verdict) → IsFirstConflict first later c → IsVerdict great_first great_later v → IsNeverBy c v
  never_by c (Never d) is by = by.none_before c (conflict_more c is.conflict)
  never_by c Tests is none = none c (conflict_more c is.conflict)
