-- A conflict over a variable, a field or a file, and a test of a field that fails, is about words
-- that both jobs may touch.
use Rattle.std.proofs.Common.{◌≡◌, ◌⊎◌, inl, inr, ℕ, ◌<◌, Bool, true, false, ◌||◌, List, refl, sym}
use Rattle.std.proofs.Common.{◌∙◌, arith}
use Rattle.std.specs.Prelude.{slice_index}
use Rattle.std.specs.List.{Contains}
use Rattle.std.proofs.lemmas.Bool.{cases_eq, false≢true}
use Rattle.job_types.specs.declared.job.JobStart.{JobStart}
use Rattle.job_types.specs.Forlopps.{ChainMap}
use Rattle.exchange_model.specs.declared.exchange.Exchange.{Exchange}
use Rattle.exchange_model.specs.Cells.{Placed, field_cell, mark_cell}
use Rattle.exchange_model.specs.Fits.{ExprFits}
use Rattle.exchange_model.specs.Inside.{own_exprs}
use Rattle.exchange_model.specs.Kept.{IsExchange, scope_of}
use Rattle.exchange_model.proofs.Facts.{file_kept}
use Rattle.source_meaning.specs.Config.{files_of}
use Rattle.source_meaning.specs.Deeds.{IsFileAt}
use Rattle.source_meaning.specs.Named.{Layer, NamedVariable, named_in}
use Rattle.source_meaning.specs.Rests.{IsOfBlock}
use Rattle.source_meaning.proofs.Fitting.{NamedFits, names_fit}
use Rattle.source_meaning.proofs.Lists.{all_contained}
use Rattle.source_meaning.proofs.Touching.{holder_variable}
use Rattle.flow_points.specs.declared.fact.Value.{Value}
use Rattle.flow_points.specs.declared.fact.Value.TheVariants.{Arg, Const, Any}
use Rattle.flow_points.specs.Facts.{Facts, IsLeast}
use Rattle.flow_table.proofs.Rowing.{place_fits}
use Rattle.entry_summary.specs.declared.summary.Access.{Access}
use Rattle.entry_summary.specs.declared.summary.Access.TheVariants as access
use Rattle.entry_summary.specs.declared.summary.Summary.{Summary}
use Rattle.entry_summary.specs.Accesses.{Accesses, IsForlopp, reads, reads_holder, writes}
use Rattle.entry_summary.specs.Accesses.{reads_field, writes_field, searches, reads_own, writes_own}
use Rattle.entry_summary.specs.Accesses.{opens_own, seizes, frees}
use Rattle.entry_summary.specs.Summaries.{IsSummary}
use Rattle.pair_tests.specs.declared.pair.Conflict.{Conflict}
use Rattle.pair_tests.specs.declared.pair.Conflict.TheVariants as conflict
use Rattle.pair_tests.specs.declared.pair.Test.{Test}
use Rattle.pair_tests.specs.Pairs as pair
use Rattle.pair_tests.specs.Pairs.{IsConflict, IsTest, Meet, Passes, ShareField, ShareVariable}
use Rattle.pair_tests.specs.Pairs.{TestHolds, on_variable, on_field, on_file, on_level, two_values}
use Rattle.pair_tests.specs.Pairs.{first_value, later_value, in_forlopp, holds_none}
use Rattle.start_permit.specs.Granted.{IsVariableWord, Lets, OneOf, Selects}
use Rattle.permit_laws.proofs.Words.{lets, mark_word, variable_word}
use Rattle.pair_laws.proofs.Naming.{AccessFits, access_fits}
use Rattle.precision_laws.specs.Summaries.{IsSummaryOf, by_facts, by_least}
use Rattle.precision_laws.specs.Words.{BothSelect, IsAtStake, IsShared, PassBesides, SharesField}
use Rattle.precision_laws.specs.Words.{SharesMarks, SharesRecord, SharesVariable, TellsRecord}
use Rattle.precision_laws.specs.Words.{both_seize, later_frees, first_frees}

-- what an access names is of the exchange

-- a variable of the number has a word
abbrev pub VariableStands : Exchange → Access → Type 0
VariableStands x (access.Variable write number) = (word : ℕ) × IsVariableWord x number word
VariableStands x _ = Unit {0}

-- an access of the summary names what is there
pub record AllStand (x : Exchange) (s : Summary) : Type 0 where
  pub fits : (a : Access) → Contains s.accesses a → AccessFits x a
  pub variables : (a : Access) → Contains s.accesses a → VariableStands x a

module _ (x : Exchange) (kept : IsExchange x) where
  stands_in : (P : Facts) (e b p : ℕ) (l : Layer) (a : Access) → IsOfBlock x b l → Accesses x P e b p l a → VariableStands x a
  stands_in P e b p l a h (reads m variable n) =
      let scope = scope_of x b h.block in
      let fits = all_contained (ExprFits scope) (own_exprs m) n.expr h.fits.exprs.each n.own in (
        _,
        variable_word x b variable h.block h.there
            (all_contained (NamedFits scope) (named_in n.expr) (NamedVariable variable) (names_fit scope n.expr fits)
            n.named),
      )
  stands_in P e b p l a h (reads_holder m variable held) = (
    _,
    variable_word x b variable h.block h.there
        (holder_variable x kept (scope_of x b h.block) m variable held h.fits.names),
  )
  stands_in P e b p l a h (writes variable value) = (_, variable_word x b variable h.block h.there h.fits.names)
  stands_in P e b p l a h (reads_field m file field pointer v n plain known) = tt
  stands_in P e b p l a h (writes_field file field pointer value v plain known) = tt
  stands_in P e b p l a h (searches temp file field rel value label) = tt
  stands_in P e b p l a h (reads_own m file field pointer n own) = tt
  stands_in P e b p l a h (writes_own file field pointer value own) = tt
  stands_in P e b p l a h (opens_own temp file field placed there within) = tt
  stands_in P e b p l a h (seizes temp file label) = tt
  stands_in P e b p l a h (frees temp file) = tt

  all_stand_by : (P : Facts) (e : ℕ) (s : Summary) → IsSummary x P e s → AllStand x s
  all_stand_by P e s is = record {
    fits = λ a there. access_fits x kept P e a ((is.accesses a).0 there);
    variables = λ a there. (let i = (is.accesses a).0 there in stands_in P e i.at.block i.point i.at.layer a (place_fits x i.at kept i.stands.place) i.access);
  }

  pub all_stand : (e : ℕ) (s : Summary) → IsSummaryOf x e s → AllStand x s
  all_stand e s (by_facts facts is) = all_stand_by (Contains facts) e s is
  all_stand e s (by_least is) = all_stand_by (IsLeast x) e s is

  some_records : (file : ℕ) (p : Placed) → IsFileAt x file p → 0 < p.file.size
  unfolding files_of
  some_records file p there = (let fits = file_kept x kept file p there in omega (arith, fits.some))

-- records that selectors tell

abbrev selected : List ℕ → Value → ℕ
selected values (Arg k) = slice_index values k
selected values (Const c) = c
selected values Any = 0

selects_it : (values : List ℕ) (v : Value) → Selects values v (selected values v)
selects_it values (Arg k) = refl
selects_it values (Const c) = refl
selects_it values Any = tt

both_tell : (u v : Value) (a b : JobStart) → Meet u v → (r : ℕ) × BothSelect u v a b r
both_tell Any v a b meet = (selected b.job.values v, record { by_first = tt; by_later = selects_it b.job.values v })
both_tell (Arg k) Any a b meet = (slice_index a.job.values k, record { by_first = refl; by_later = tt })
both_tell (Arg k) (Arg l) a b meet = absurd meet
both_tell (Arg k) (Const d) a b meet = absurd meet
both_tell (Const c) Any a b meet = (c, record { by_first = refl; by_later = tt })
both_tell (Const c) (Arg l) a b meet = absurd meet
both_tell (Const c) (Const d) a b meet = (c, record { by_first = refl; by_later = meet })

abbrev pub RecordOf : JobStart → JobStart → Conflict → Type 0
RecordOf a b (conflict.Field number u v) = (r : ℕ) × BothSelect u v a b r
RecordOf a b _ = Unit {0}

pub record_of : (first later : Summary) (a b : JobStart) (c : Conflict) → IsConflict first later c → RecordOf a b c
record_of first later a b c (on_variable number share) = tt
record_of first later a b c (on_field number u v share meet) = both_tell u v a b meet
record_of first later a b c (on_file file share) = tt
record_of first later a b c (on_level level there above) = tt

-- shared words

module _ (x : Exchange) (first later : Summary) (one : AllStand x first) (other : AllStand x later) (kept : IsExchange x) where
  abbrev Touch : Summary → JobStart → ChainMap → Bool → ℕ → Type 0
  Touch s start chains write w = OneOf (Lets x s.accesses start chains write) s.accesses w

  shared : (a b : JobStart) (chains : ChainMap) (w : ℕ) (u v : Bool) → (u || v) ≡ true → Touch first a chains u w
      → Touch later b chains v w → IsShared x first later a b chains w
  shared a b chains w true v is p q = inl (p, may_read v q)
    where
      may_read : (v : Bool) → Touch later b chains v w → Touch later b chains false w ⊎ Touch later b chains true w
      may_read true t = inr t
      may_read false t = inl t
  shared a b chains w false true is p q = inr (inl p, q)
  shared a b chains w false false is p q = absurd (false≢true is)

  -- each access of its own

  shares_variable : (number : ℕ) → ShareVariable first later number → SharesVariable x first later number
  shares_variable number s =
      let at = one.variables (access.Variable s.first_writes number) s.by_first in
      record {
        word = at.0;
        is = at.1;
        shared = λ a b chains.
            shared a b chains at.0 s.first_writes s.later_writes s.one_writes
            (lets x first a chains s.first_writes (access.Variable s.first_writes number) at.0 s.by_first refl at.1)
            (lets x later b chains s.later_writes (access.Variable s.later_writes number) at.0 s.by_later refl at.1);
      }

  shares_field : (number : ℕ) (u v : Value) → ShareField first later number u v → SharesField x first later number u v
  shares_field number u v s =
      let f = one.fits (access.Field s.first_writes number u) s.by_first in
      record {
        file = f.file;
        field = f.field;
        at = f.at;
        some = some_records x kept f.file f.at.placed f.at.there;
        shared = λ a b chains r below both.
            shared a b chains (field_cell f.at.placed r f.field) s.first_writes s.later_writes s.one_writes
            (lets x first a chains s.first_writes (access.Field s.first_writes number u) (field_cell f.at.placed r f.field) s.by_first refl
            (record { file = f.file; field = f.field; at = f.at; of_record = record { number = r; below = below; chosen = both.by_first; is = refl } }))
            (lets x later b chains s.later_writes (access.Field s.later_writes number v) (field_cell f.at.placed r f.field) s.by_later refl
            (record { file = f.file; field = f.field; at = f.at; of_record = record { number = r; below = below; chosen = both.by_later; is = refl } }));
      }

  -- marks

  seizing_mark : (s : Summary) (start : JobStart) (chains : ChainMap) (file r : ℕ) (p : Placed) → IsFileAt x file p
      → r < p.file.size → Contains s.accesses (access.Seizes file) → Touch s start chains false (mark_cell p r)
  seizing_mark s start chains file r p there below seizes_it = lets x s start chains false (access.Seizes file)
      (mark_cell p r) seizes_it tt (mark_word x (λ n. Unit {0}) file r p (record { there = there; within = below }) tt)

  at_stake : (a b : JobStart) (chains : ChainMap) (file r : ℕ) (p : Placed) → IsFileAt x file p → r < p.file.size
      → IsAtStake first later a b chains file r → IsShared x first later a b chains (mark_cell p r)
  at_stake a b chains file r p there below (both_seize by_first by_later free) = inl (
    lets x first a chains true (access.Seizes file) (mark_cell p r) by_first tt
        (record {
          placed = p;
          there = there;
          of_record = record { number = r; below = below; chosen = free; is = refl };
        }),
    inl (seizing_mark later b chains file r p there below by_later),
  )
  at_stake a b chains file r p there below (later_frees by_first by_later held) = inr (
    inl (seizing_mark first a chains file r p there below by_first),
    lets x later b chains true (access.Frees file) (mark_cell p r) by_later refl
        (record {
          placed = p;
          there = there;
          of_record = record
              { number = r; below = below; chosen = inl held; is = refl };
        }),
  )
  at_stake a b chains file r p there below (first_frees by_first by_later held) = inl (
    lets x first a chains true (access.Frees file) (mark_cell p r) by_first refl
        (record {
          placed = p;
          there = there;
          of_record = record
              { number = r; below = below; chosen = inl held; is = refl };
        }),
    inl (seizing_mark later b chains file r p there below by_later),
  )

  shares_marks : (file : ℕ) → IsForlopp x file → SharesMarks x first later file
  shares_marks file f = record {
    placed = f.placed;
    there = f.there;
    some = some_records x kept file f.placed f.there;
    shared = λ a b chains r below stake. at_stake a b chains file r f.placed f.there below stake;
  }

  seized_file : (file : ℕ) → pair.ShareFile first later file → IsForlopp x file
  seized_file file (pair.both_seize p q) = one.fits (access.Seizes file) p
  seized_file file (pair.later_frees p q) = one.fits (access.Seizes file) p
  seized_file file (pair.first_frees p q) = one.fits (access.Frees file) p

  -- conflicts and tests

  abbrev pub IsAbout : Conflict → Type 0
  IsAbout (conflict.Variable number) = SharesVariable x first later number
  IsAbout (conflict.Field number u v) = SharesField x first later number u v
  IsAbout (conflict.Seizing file) = SharesMarks x first later file
  IsAbout (conflict.Above level) = Unit {0}

  pub about : (c : Conflict) → IsConflict first later c → IsAbout c
  about c (on_variable number share) = shares_variable number share
  about c (on_field number u v share meet) = shares_field number u v share
  about c (on_file file share) = shares_marks file (seized_file file share)
  about c (on_level level there above) = tt

  equal : (m n : ℕ) → ((m ≡ n → ⊥) → ⊥) → m ≡ n
  equal m n fails = elim (cases_eq m n) [
    | inl same ↦ same
    | inr differ ↦ absurd (fails differ)
  ]

  pub failed : (a b : JobStart) (t : Test) (r : ℕ) → IsTest first later t → (TestHolds a b t → ⊥) → TellsRecord a t r → SharesRecord x first later a b r
  failed a b t r (two_values number k l share) fails tells = record {
    number = number;
    by_first = Arg k;
    by_later = Arg l;
    field = shares_field number (Arg k) (Arg l) share;
    both = record { by_first = tells; by_later = tells ∙ equal (slice_index a.job.values k) (slice_index b.job.values l) fails };
  }
  failed a b t r (first_value number k c share) fails tells = record {
    number = number;
    by_first = Arg k;
    by_later = Const c;
    field = shares_field number (Arg k) (Const c) share;
    both = record { by_first = tells ∙ sym (equal (slice_index a.job.values k) c fails); by_later = tells };
  }
  failed a b t r (later_value number l c share) fails tells = record {
    number = number;
    by_first = Const c;
    by_later = Arg l;
    field = shares_field number (Const c) (Arg l) share;
    both = record { by_first = tells; by_later = tells ∙ sym (equal (slice_index b.job.values l) c fails) };
  }
  failed a b t r (in_forlopp may) fails tells = absurd tells
  failed a b t r (holds_none file may there) fails tells = absurd tells

  -- jobs that share no word

  module _ (a b : JobStart) (chains : ChainMap) (none : (w : ℕ) → IsShared x first later a b chains w → ⊥) (besides : PassBesides x first later a b) where
    no_record_told : (number : ℕ) (u v : Value) (r : ℕ) → ShareField first later number u v → BothSelect u v a b r → ⊥
    no_record_told number u v r share both =
        let s = besides.records number u v r share both in
        let f = shares_field number u v share in
        none (field_cell f.at.placed s.r f.field) (f.shared a b chains s.r (s.below f.file f.field f.at) s.both)

    no_conflict : (c : Conflict) → IsConflict first later c → ⊥
    no_conflict c (on_variable number share) = (let s = shares_variable number share in none s.word (s.shared a b chains))
    no_conflict c (on_field number u v share meet) = (let t = both_tell u v a b meet in no_record_told number u v t.0 share t.1)
    no_conflict c (on_file file share) = besides.apart c tt (on_file file share)
    no_conflict c (on_level level there above) = besides.apart c tt (on_level level there above)

    all_hold : (t : Test) → IsTest first later t → TestHolds a b t
    all_hold t (two_values number k l share) = λ same. no_record_told number (Arg k) (Arg l)
        (slice_index a.job.values k) share (record { by_first = refl; by_later = same })
    all_hold t (first_value number k c share) = λ same. no_record_told number (Arg k) (Const c) c share (record { by_first = sym same; by_later = refl })
    all_hold t (later_value number l c share) = λ same. no_record_told number (Const c) (Arg l) c share (record { by_first = refl; by_later = sym same })
    all_hold t (in_forlopp may) = besides.tests t tt (in_forlopp may)
    all_hold t (holds_none file may there) = besides.tests t tt (holds_none file may there)

    pub all_pass : Passes first later a b
    all_pass = record { apart = no_conflict; tests = all_hold; forlopps = besides.forlopps }
