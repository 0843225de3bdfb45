-- Words that have a shape are read as its command, and words that are read have its shape.
use Rattle.std.proofs.Common.{◌≡◌, ◌↔◌, inl, inr, ℕ, ◌≤◌, Bool, true, false, ◌&&◌, nat_le}
use Rattle.std.proofs.Common.{List, [], ◌∷◌, Option, Some, None, refl, sym, ap, ◌∙◌, subst}
use Rattle.std.specs.Option.{is_some, ok_or, option_map, option_or}
use Rattle.std.specs.Prelude.{Result, Ok, Err, codes, if◌then◌else◌}
use Rattle.std.specs.Result.{result_ok}
use Rattle.std.specs.Str.{bytes_eq}
use Rattle.std.proofs.lemmas.Bool.{and_from, and_parts, cases_Bool, cond-false, cond-true, le-leb}
use Rattle.std.proofs.lemmas.Bool.{leb-true, false≢true}
use Rattle.std.proofs.lemmas.Option.{none-some, same_Some}
use Rattle.std.proofs.lemmas.Slice.Eq.{bytes_eq-Decides}
use Rattle.plex_limits.specs.declared.limits.TheConstants.{MOST_JOBS, MOST_WORKERS}
use Rattle.plex_num.specs.Number.{number_of}
use Rattle.command_words.specs.declared.command.TheConstants.{MOST_CALLS}
use Rattle.command_words.specs.declared.command.Command.{Command}
use Rattle.command_words.specs.declared.command.Command.TheVariants as command
use Rattle.command_words.specs.declared.command.RunWords.{RunWords}
use Rattle.command_words.specs.declared.fault.CommandName.{CommandName}
use Rattle.command_words.specs.declared.fault.CommandName.TheVariants as name
use Rattle.command_words.specs.declared.fault.CommandOption.{CommandOption}
use Rattle.command_words.specs.declared.fault.CommandOption.TheVariants.{Workers, Jobs, Certificate}
use Rattle.command_words.specs.declared.fault.WordsFault.{WordsFault}
use Rattle.command_words.specs.declared.fault.WordsFault.TheVariants as fault
use Rattle.command_words.specs.declared.options.OptionValues.{OptionValues}
use Rattle.command_words.specs.Shapes.{AreOptions, AreReadAs, IsCount, IsShape, or_usual_jobs}
use Rattle.command_words.specs.Shapes.{or_usual_workers, run_of}
use Rattle.command_words.specs.Shapes.AreOptions.{NoOptions, TellCertificate, TellJobs, TellWorkers}
use Rattle.command_words.specs.Shapes.IsShape.{Analyses, Certifies, Changes, Lists, Loads, Runs}
use Rattle.command_words.specs.Shapes.IsShape.{RunsBySource, RunsTimed, Traces}
use Rattle.command_words.specs.Words.{Word, added, alone, change_words, command_behind}
use Rattle.command_words.specs.Words.{command_named, command_of, count_of, has_told, load_words}
use Rattle.command_words.specs.Words.{made_of, no_more, nothing_told, once_told, only_word}
use Rattle.command_words.specs.Words.{open_option, option_named, options_of, run_by, run_told}
use Rattle.command_words.specs.Words.{shape, taken, takes, then_read, timed_words}
use Rattle.command_words.specs.Words.{told_with, trace_words, within}

-- ---- values that were read

-- a mapped value, and what it came from
record Mapped {A B : Type 0} (f : A → B) (o : Option A) (y : B) : Type 0 where
  value : A
  there : o ≡ Some value
  is : f value ≡ y

mapped : {A B : Type 0} (f : A → B) (o : Option A) (y : B) → option_map f o ≡ Some y → Mapped f o y
mapped f None y is = absurd (none-some y is)
mapped f (Some a) y is = record { value = a; there = refl; is = same_Some (f a) y is }

-- a value that is there
ok_from : {A : Type 0} (o : Option A) (f : WordsFault) (y : A) → ok_or o f ≡ Ok y → o ≡ Some y
ok_from None f y is = absurd (none-some y (ap result_ok is))
ok_from (Some a) f y is = ap result_ok is

same_Ok : {A : Type 0} (a b : A) → ◌≡◌ {A = Result A WordsFault} (Ok a) (Ok b) → a ≡ b
same_Ok a b is = same_Some a b (ap result_ok is)

-- what was read on with
record Read {A B : Type 0} (r : Result A WordsFault) (more : A → Result B WordsFault) (y : B) : Type 0 where
  value : A
  there : r ≡ Ok value
  is : more value ≡ Ok y

read : {A B : Type 0} (r : Result A WordsFault) (more : A → Result B WordsFault) (y : B) → then_read r more ≡ Ok y → Read r more y
read (Err f) more y is = absurd (none-some y (ap result_ok is))
read (Ok a) more y is = record { value = a; there = refl; is = is }

-- a test of a value, and its parts
tested : {A : Type 0} (t : Bool) (x : Option A) (y : A) → (if t then x else None) ≡ Some y → (t ≡ true) × (x ≡ Some y)
tested true x y is = (refl, is)
tested false x y is = absurd (none-some y is)

-- ---- numbers

within_is : (most n : ℕ) → 1 ≤ n → n ≤ most → within most (Some n) ≡ Some n
within_is most n some few = cond-true (nat_le 1 n && nat_le n most) (Some n) None (and_from (nat_le 1 n) (nat_le n most) (le-leb 1 n some) (le-leb n most few))

count_read : (most : ℕ) (value : Word) (n : ℕ) → IsCount most value n → count_of most value ≡ Some n
count_read most value n count = ap (within most) count.number ∙ within_is most n count.some count.few

within_from : (most : ℕ) (value : Word) (n : ℕ) (o : Option ℕ) → number_of value ≡ o → within most o ≡ Some n → IsCount most value n
within_from most value n None number is = absurd (none-some n is)
within_from most value n (Some m) number is =
    let both = tested (nat_le 1 m && nat_le m most) (Some m) n is in
    let same : m ≡ n = same_Some m n both.1 in
    let parts = and_parts (nat_le 1 m) (nat_le m most) both.0 in
    record {
      number = number ∙ ap (λ k. Some k) same;
      some = subst (λ (k : ℕ). 1 ≤ k) same (leb-true 1 m parts.0);
      few = subst (λ (k : ℕ). k ≤ most) same (leb-true m most parts.1);
    }

count_from : (most : ℕ) (value : Word) (n : ℕ) → count_of most value ≡ Some n → IsCount most value n
count_from most value n is = within_from most value n (number_of value) refl is

-- ---- options

-- the word of an option
abbrev word_of : CommandOption → Word
word_of Workers = codes "--workers"
word_of Jobs = codes "--jobs"
word_of Certificate = codes "--cert"

-- the name that a word is where a test of it chooses, and else another test
chosen : {K : Type 0} (spelled : K → Word) (word text : Word) (k c : K) (y : Option K)
    → text ≡ spelled k → (y ≡ Some c → word ≡ spelled c)
    → (if bytes_eq word text then Some k else y) ≡ Some c → word ≡ spelled c
chosen spelled word text k c y of other is = elim (cases_Bool (bytes_eq word text)) [
  | inl same ↦ (bytes_eq-Decides word text).0 same ∙ of ∙ ap spelled (same_Some k c (sym (cond-true (bytes_eq word text) (Some k) y same) ∙ is))
  | inr differs ↦ other (sym (cond-false (bytes_eq word text) (Some k) y differs) ∙ is)
]

names_option : (word : Word) (o : CommandOption) → option_named word ≡ Some o → word ≡ word_of o
names_option word o =
    chosen word_of word (codes "--workers") Workers o _ refl
    (chosen word_of word (codes "--jobs") Jobs o _ refl
    (chosen word_of word (codes "--cert") Certificate o _ refl (λ none. absurd (none-some o none))))

-- an option may tell this behind what was told before, or it tells nothing
abbrev MayTell : {A : Type 0} → Bool → Option A → Option A → Type 0
MayTell {A} t before told = (a : A) → told ≡ Some a → (t ≡ true) × (before ≡ None)

-- the options of a command may tell this behind so much
record MayTellAll (c : CommandName) (t : OptionValues) (w j : Option ℕ) (f : Option Word) : Type 0 where
  workers : MayTell (takes c Workers) t.workers w
  jobs : MayTell (takes c Jobs) t.jobs j
  certificate : MayTell (takes c Certificate) t.certificate f

-- an option that tells nothing
silent : {A : Type 0} (t : Bool) (before : Option A) → MayTell t before None
silent t before a is = absurd (none-some a is)

-- what may tell nothing tells nothing
untold : {A : Type 0} (told : Option A) → ((a : A) → told ≡ Some a → ⊥) → told ≡ None
untold None not_told = refl
untold (Some a) not_told = absurd (not_told a refl)

not_there : {A : Type 0} (o : Option A) → is_some o ≡ false → o ≡ None
not_there None is = refl
not_there (Some a) is = absurd (false≢true (sym is))

-- so much, and what is told behind it
abbrev joined : OptionValues → Option ℕ → Option ℕ → Option Word → OptionValues
joined t w j f = record {
  workers = option_or w t.workers;
  jobs = option_or j t.jobs;
  certificate = option_or f t.certificate;
}

-- one option more is told
add_read : (c : CommandName) (t u : OptionValues) (o : CommandOption) (word value : Word) → option_named word ≡ Some o → takes c o ≡ true
    → has_told t o ≡ false → told_with t o value ≡ Some u → added t value (open_option c t word) ≡ Ok u
add_read c t u o word value names takes_it free told =
    ap (λ q. added t value (then_read (ok_or (taken c q) (fault.UnknownOption c word)) (once_told t))) names
    ∙ ap (λ (q : Bool). added t value (then_read (ok_or (if q then Some o else None) (fault.UnknownOption c word)) (once_told t))) takes_it
    ∙ ap (λ (q : Bool). added t value (if q then Err (fault.OptionTwice o) else Ok o)) free
    ∙ ap (λ q. ok_or q (fault.BadValue o value)) told

on_with : (c : CommandName) (t u : OptionValues) (word value : Word) (rest : List Word) → added t value (open_option c t word) ≡ Ok u
    → options_of c t (word ∷ value ∷ rest) ≡ options_of c u rest
on_with c t u word value rest is = ap (λ q. then_read q (λ m. options_of c m rest)) is

-- what is told behind so much, once one option more is told
pub told_on : (c : CommandName) (t u : OptionValues) (ws behind more : List Word) (word value : Word) (start : Result OptionValues WordsFault)
    → ws ≡ word ∷ behind → behind ≡ value ∷ more → Ok u ≡ added t value (open_option c t word)
    → options_of c t ws ≡ start → options_of c u more ≡ start
told_on c t u ws behind more word value start first_is next_is told at =
    sym (ap (options_of c t) (first_is ∙ ap (λ b. word ∷ b) next_is) ∙ on_with c t u word value more (sym told)) ∙ at

options_read : {ws : List Word} {w j : Option ℕ} {f : Option Word} (c : CommandName) (t : OptionValues) → AreOptions ws w j f → MayTellAll c t w j f
    → options_of c t ws ≡ Ok (joined t w j f)
options_read c t NoOptions may = refl
options_read c t (TellWorkers value n rest j f count more) may =
    let free = may.workers n refl in
    let u : OptionValues = record t { workers = Some n } in
    on_with c t u (codes "--workers") value rest (add_read c t u Workers (codes "--workers") value refl free.0 (ap is_some free.1)
    (ap (option_map (λ k. record t { workers = Some k })) (count_read MOST_WORKERS value n count)))
    ∙ options_read c u more (record { workers = silent (takes c Workers) u.workers; jobs = may.jobs; certificate = may.certificate })
options_read c t (TellJobs value n rest w f count more) may =
    let free = may.jobs n refl in
    let u : OptionValues = record t { jobs = Some n } in
    on_with c t u (codes "--jobs") value rest (add_read c t u Jobs (codes "--jobs") value refl free.0 (ap is_some free.1)
    (ap (option_map (λ k. record t { jobs = Some k })) (count_read MOST_JOBS value n count)))
    ∙ options_read c u more (record { workers = may.workers; jobs = silent (takes c Jobs) u.jobs; certificate = may.certificate })
options_read c t (TellCertificate file rest w j more) may =
    let free = may.certificate file refl in
    let u : OptionValues = record t { certificate = Some file } in
    on_with c t u (codes "--cert") file rest (add_read c t u Certificate (codes "--cert") file refl free.0 (ap is_some free.1) refl)
    ∙ options_read c u more (record { workers = may.workers; jobs = may.jobs; certificate = silent (takes c Certificate) u.certificate })

-- an option that was told
record Adds (c : CommandName) (t u : OptionValues) (word value : Word) : Type 0 where
  option : CommandOption
  names : word ≡ word_of option
  takes_it : takes c option ≡ true
  free : has_told t option ≡ false
  told : told_with t option value ≡ Some u

once_from : (t : OptionValues) (a o : CommandOption) → once_told t a ≡ Ok o → (has_told t a ≡ false) × (a ≡ o)
once_from t a o is = elim (cases_Bool (has_told t a)) [
  | inl twice ↦ absurd (none-some o (ap result_ok (sym (cond-true (has_told t a) (Err (fault.OptionTwice a)) (Ok a) twice) ∙ is)))
  | inr free ↦ (free, same_Ok a o (sym (cond-false (has_told t a) (Err (fault.OptionTwice a)) (Ok a) free) ∙ is))
]

taken_from : (c : CommandName) (q : Option CommandOption) (o : CommandOption) → taken c q ≡ Some o → (takes c o ≡ true) × (q ≡ Some o)
taken_from c None o is = absurd (none-some o is)
taken_from c (Some a) o is =
    let both = tested (takes c a) (Some a) o is in
    (subst (λ q. takes c q ≡ true) (same_Some a o both.1) both.0, both.1)

adds : (c : CommandName) (t u : OptionValues) (word value : Word) → added t value (open_option c t word) ≡ Ok u → Adds c t u word value
adds c t u word value is =
    let r = read (open_option c t word) (λ o. ok_or (told_with t o value) (fault.BadValue o value)) u is in
    let q = read (ok_or (taken c (option_named word)) (fault.UnknownOption c word)) (once_told t) r.value r.there in
    let once = once_from t q.value r.value q.is in
    let take = taken_from c (option_named word) q.value (ok_from (taken c (option_named word)) (fault.UnknownOption c word) q.value q.there) in
    record {
      option = r.value;
      names = names_option word r.value (take.1 ∙ ap (λ o. Some o) once.1);
      takes_it = subst (λ o. takes c o ≡ true) once.1 take.0;
      free = subst (λ o. has_told t o ≡ false) once.1 once.0;
      told = ok_from (told_with t r.value value) (fault.BadValue r.value value) u r.is;
    }

-- options that were read behind so much
record Given (c : CommandName) (t u : OptionValues) (ws : List Word) : Type 0 where
  w : Option ℕ
  j : Option ℕ
  f : Option Word
  options : AreOptions ws w j f
  may : MayTellAll c t w j f
  is : joined t w j f ≡ u

-- an option that is told cannot be told again behind it
not_again : {A : Type 0} (t : Bool) (a : A) (told : Option A) → MayTell t (Some a) told → told ≡ None
not_again t a told may = untold told (λ b is. none-some a (sym (may b is).1))

given_workers : (c : CommandName) (t u : OptionValues) (n : ℕ) (value : Word) (rest : List Word) → takes c Workers ≡ true → is_some t.workers ≡ false
    → IsCount MOST_WORKERS value n → Given c (record t { workers = Some n }) u rest → Given c t u (codes "--workers" ∷ value ∷ rest)
given_workers c t u n value rest takes_it free count g =
    let none = not_again (takes c Workers) n g.w g.may.workers in
    record {
      w = Some n;
      j = g.j;
      f = g.f;
      options = TellWorkers value n rest g.j g.f count (subst (λ w. AreOptions rest w g.j g.f) none g.options);
      may = record { workers = λ k is. (takes_it, not_there t.workers free); jobs = g.may.jobs; certificate = g.may.certificate };
      is = ap (λ w. joined (record t { workers = Some n }) w g.j g.f) (sym none) ∙ g.is;
    }

given_jobs : (c : CommandName) (t u : OptionValues) (n : ℕ) (value : Word) (rest : List Word) → takes c Jobs ≡ true → is_some t.jobs ≡ false
    → IsCount MOST_JOBS value n → Given c (record t { jobs = Some n }) u rest → Given c t u (codes "--jobs" ∷ value ∷ rest)
given_jobs c t u n value rest takes_it free count g =
    let none = not_again (takes c Jobs) n g.j g.may.jobs in
    record {
      w = g.w;
      j = Some n;
      f = g.f;
      options = TellJobs value n rest g.w g.f count (subst (λ j. AreOptions rest g.w j g.f) none g.options);
      may = record { workers = g.may.workers; jobs = λ k is. (takes_it, not_there t.jobs free); certificate = g.may.certificate };
      is = ap (λ j. joined (record t { jobs = Some n }) g.w j g.f) (sym none) ∙ g.is;
    }

given_certificate : (c : CommandName) (t u : OptionValues) (file : Word) (rest : List Word) → takes c Certificate ≡ true → is_some t.certificate ≡ false
    → Given c (record t { certificate = Some file }) u rest → Given c t u (codes "--cert" ∷ file ∷ rest)
given_certificate c t u file rest takes_it free g =
    let none = not_again (takes c Certificate) file g.f g.may.certificate in
    record {
      w = g.w;
      j = g.j;
      f = Some file;
      options = TellCertificate file rest g.w g.j (subst (AreOptions rest g.w g.j) none g.options);
      may = record { workers = g.may.workers; jobs = g.may.jobs; certificate = λ k is. (takes_it, not_there t.certificate free) };
      is = ap (joined (record t { certificate = Some file }) g.w g.j) (sym none) ∙ g.is;
    }

given_with : (c : CommandName) (t m u : OptionValues) (o : CommandOption) (value : Word) (rest : List Word) → takes c o ≡ true → has_told t o ≡ false
    → told_with t o value ≡ Some m → Given c m u rest → Given c t u (word_of o ∷ value ∷ rest)
given_with c t m u Workers value rest takes_it free told g =
    let n = mapped (λ k. record t { workers = Some k }) (count_of MOST_WORKERS value) m told in
    given_workers c t u n.value value rest takes_it free (count_from MOST_WORKERS value n.value n.there) (subst (λ q. Given c q u rest) (sym n.is) g)
given_with c t m u Jobs value rest takes_it free told g =
    let n = mapped (λ k. record t { jobs = Some k }) (count_of MOST_JOBS value) m told in
    given_jobs c t u n.value value rest takes_it free (count_from MOST_JOBS value n.value n.there) (subst (λ q. Given c q u rest) (sym n.is) g)
given_with c t m u Certificate value rest takes_it free told g =
    given_certificate c t u value rest takes_it free
    (subst (λ q. Given c q u rest) (sym (same_Some (record t { certificate = Some value }) m told)) g)

given : (c : CommandName) (t u : OptionValues) (ws : List Word) → options_of c t ws ≡ Ok u → Given c t u ws
given c t u [] is = record {
  w = None;
  j = None;
  f = None;
  options = NoOptions;
  may = record { workers = silent (takes c Workers) t.workers; jobs = silent (takes c Jobs) t.jobs; certificate = silent (takes c Certificate) t.certificate };
  is = same_Ok t u is;
}
given c t u (word ∷ []) is = absurd (none-some u (ap result_ok is))
given c t u (word ∷ value ∷ rest) is =
    let r = read (added t value (open_option c t word)) (λ m. options_of c m rest) u is in
    let a = adds c t r.value word value r.there in
    subst (λ n. Given c t u (n ∷ value ∷ rest)) (sym a.names)
    (given_with c t r.value u a.option value rest a.takes_it a.free a.told (given c r.value u rest r.is))

-- ---- runs

-- all that options tell
abbrev told_all : Option ℕ → Option ℕ → Option Word → OptionValues
told_all w j f = record { workers = w; jobs = j; certificate = f }

or_none : {A : Type 0} (o : Option A) → option_or o None ≡ o
or_none None = refl
or_none (Some a) = refl

joined_nothing : (w j : Option ℕ) (f : Option Word) → joined nothing_told w j f ≡ told_all w j f
joined_nothing w j f = λ i. told_all (or_none w i) (or_none j i) (or_none f i)

run_read : {w j : Option ℕ} {f : Option Word} {options : List Word} (c : CommandName) (e s : Word) → AreOptions options w j f
    → MayTellAll c nothing_told w j f → run_by c e s options ≡ Ok (run_told c e s (told_all w j f))
run_read {w} {j} {f} c e s are may = ap (made_of (run_told c e s)) (options_read c nothing_told are may ∙ ap (λ t. Ok t) (joined_nothing w j f))

-- an option that a command takes may be the first
first : {A : Type 0} (told : Option A) → MayTell true None told
first told a is = (refl, refl)

-- a run that was read
record Ran (c : CommandName) (e s : Word) (options : List Word) (run : RunWords) : Type 0 where
  w : Option ℕ
  j : Option ℕ
  f : Option Word
  are : AreOptions options w j f
  may : MayTellAll c nothing_told w j f
  is : run_told c e s (told_all w j f) ≡ run

ran : (c : CommandName) (e s : Word) (options : List Word) (run : RunWords) → run_by c e s options ≡ Ok run → Ran c e s options run
ran c e s options run is =
    let r = read (options_of c nothing_told options) (λ t. Ok (run_told c e s t)) run is in
    let g = given c nothing_told r.value options r.there in
    record {
      w = g.w;
      j = g.j;
      f = g.f;
      are = g.options;
      may = g.may;
      is = ap (run_told c e s) (sym (joined_nothing g.w g.j g.f) ∙ g.is) ∙ same_Ok (run_told c e s r.value) run r.is;
    }

-- an option that a command does not take tells nothing
not_taken : {A : Type 0} (before told : Option A) → MayTell false before told → told ≡ None
not_taken before told may = untold told (λ a is. false≢true (may a is).0)

-- a run without a certificate that was read
record RanBounded (e s : Word) (options : List Word) (run : RunWords) : Type 0 where
  w : Option ℕ
  j : Option ℕ
  are : AreOptions options w j None
  is : run_of e s (or_usual_workers w) (or_usual_jobs j) None ≡ run

-- a run with one worker that was read
record RanAlone (e s : Word) (options : List Word) (run : RunWords) : Type 0 where
  j : Option ℕ
  are : AreOptions options None j None
  is : run_of e s 1 (or_usual_jobs j) None ≡ run

module _ (c : CommandName) (no_certificate : takes c Certificate ≡ false) (e s : Word) (options : List Word) (run : RunWords) (r : Ran c e s options run) where
  uncertified : r.f ≡ None
  uncertified = not_taken None r.f (subst (λ t. MayTell t None r.f) no_certificate r.may.certificate)

  bounded : takes c Workers ≡ true → RanBounded e s options run
  bounded workers = record {
    w = r.w;
    j = r.j;
    are = subst (AreOptions options r.w r.j) uncertified r.are;
    is =
        ap (λ (t : Bool). run_of e s (if t then or_usual_workers r.w else 1) (or_usual_jobs r.j) None) (sym workers)
        ∙ ap (λ f. run_told c e s (told_all r.w r.j f)) (sym uncertified) ∙ r.is;
  }

  alone_run : takes c Workers ≡ false → RanAlone e s options run
  alone_run no_workers =
      let none = not_taken None r.w (subst (λ t. MayTell t None r.w) no_workers r.may.workers) in
      record {
        j = r.j;
        are = subst (λ w. AreOptions options w r.j None) none (subst (AreOptions options r.w r.j) uncertified r.are);
        is =
            ap (λ (t : Bool). run_of e s (if t then or_usual_workers r.w else 1) (or_usual_jobs r.j) None) (sym no_workers)
            ∙ ap (λ f. run_told c e s (told_all r.w r.j f)) (sym uncertified) ∙ r.is;
      }

-- ---- commands

-- options of a run with workers and a limit of jobs
bounded_may : (c : CommandName) (w j : Option ℕ) → takes c Workers ≡ true → takes c Jobs ≡ true → MayTellAll c nothing_told w j None
bounded_may c w j workers jobs = record {
  workers = λ a is. (workers, refl);
  jobs = λ a is. (jobs, refl);
  certificate = silent (takes c Certificate) None;
}

-- options of a run with a limit of jobs
alone_may : (c : CommandName) (j : Option ℕ) → takes c Jobs ≡ true → MayTellAll c nothing_told None j None
alone_may c j jobs = record {
  workers = silent (takes c Workers) None;
  jobs = λ a is. (jobs, refl);
  certificate = silent (takes c Certificate) None;
}

command_read : {words : List Word} {c : Command} → IsShape words c → command_of words ≡ Ok c
command_read (Runs e s options w j f are) =
    ap (made_of command.Run) (run_read name.Run e s are (record { workers = first w; jobs = first j; certificate = first f }))
command_read (RunsBySource e s options j are) = ap (made_of command.Single) (run_read name.Single e s are (alone_may name.Single j refl))
command_read (Analyses e) = refl
command_read (Certifies e) = refl
command_read (Lists e) = refl
command_read (Loads value n count) =
    ap (λ o. made_of command.Load (then_read (ok_or o (fault.BadNumber name.Load value)) (λ k. alone k None))) (count_read MOST_CALLS value n count)
command_read (RunsTimed e s t options w j are) =
    ap (λ o. made_of command.Timed (made_of (λ (r : RunWords). record { run = r; table = t }) o))
    (run_read name.Timed e s are (bounded_may name.Timed w j refl refl))
command_read (Changes e s new k at options w j count are) =
    ap (λ o. made_of command.Change (then_read (ok_or o (fault.BadNumber name.Change k))
    (λ n. made_of (λ (r : RunWords). record { run = r; new = new; at = n }) (run_by name.Change e s options)))) (count_read MOST_JOBS k at count)
    ∙ ap (λ o. made_of command.Change (made_of (λ (r : RunWords). record { run = r; new = new; at = at }) o))
    (run_read name.Change e s are (bounded_may name.Change w j refl refl))
command_read (Traces e s q options j are) =
    ap (λ o. made_of command.Trace (made_of (λ (r : RunWords). record { run = r; filter = q }) o)) (run_read name.Trace e s are (alone_may name.Trace j refl))

-- a value that was made of what was read
record Made {A B : Type 0} (make : A → B) (r : Result A WordsFault) (y : B) : Type 0 where
  value : A
  there : r ≡ Ok value
  is : make value ≡ y

made : {A B : Type 0} (make : A → B) (r : Result A WordsFault) (y : B) → made_of make r ≡ Ok y → Made make r y
made make (Err f) y is = absurd (none-some y (ap result_ok is))
made make (Ok a) y is = record { value = a; there = refl; is = same_Ok (make a) y is }

missing : {A : Type 0} (f : WordsFault) (y : A) → ◌≡◌ {A = Result A WordsFault} (Err f) (Ok y) → ⊥
missing f y is = none-some y (ap result_ok is)

of_run : (rest : List Word) (c : Command) → command_behind name.Run rest ≡ Ok c → IsShape (codes "run" ∷ rest) c
of_run [] c is = absurd (missing _ c is)
of_run (e ∷ []) c is = absurd (missing _ c is)
of_run (e ∷ s ∷ options) c is =
    let m = made command.Run (run_by name.Run e s options) c is in
    let r = ran name.Run e s options m.value m.there in
    subst (IsShape (codes "run" ∷ e ∷ s ∷ options)) (ap command.Run r.is ∙ m.is) (Runs e s options r.w r.j r.f r.are)

of_single : (rest : List Word) (c : Command) → command_behind name.Single rest ≡ Ok c → IsShape (codes "single" ∷ rest) c
of_single [] c is = absurd (missing _ c is)
of_single (e ∷ []) c is = absurd (missing _ c is)
of_single (e ∷ s ∷ options) c is =
    let m = made command.Single (run_by name.Single e s options) c is in
    let r = alone_run name.Single refl e s options m.value (ran name.Single e s options m.value m.there) refl in
    subst (IsShape (codes "single" ∷ e ∷ s ∷ options)) (ap command.Single r.is ∙ m.is) (RunsBySource e s options r.j r.are)

-- a command of one file
of_one : (k : CommandName) (name : Word) (make : Word → Command) → ((w : Word) → IsShape (name ∷ w ∷ []) (make w))
    → (rest : List Word) (c : Command) → made_of make (only_word k rest) ≡ Ok c → IsShape (name ∷ rest) c
of_one k name make shaped [] c is = absurd (missing _ c is)
of_one k name make shaped (w ∷ []) c is = subst (IsShape (name ∷ w ∷ [])) (same_Ok (make w) c is) (shaped w)
of_one k name make shaped (w ∷ more ∷ rest) c is = absurd (missing _ c is)

alone_from : {A : Type 0} (a : A) (k : CommandName) (rest : List Word) (y : A) → alone a (no_more k rest) ≡ Ok y → (rest ≡ []) × (a ≡ y)
alone_from a k [] y is = (refl, same_Ok a y is)
alone_from a k (word ∷ rest) y is = absurd (missing _ y is)

of_load : (rest : List Word) (c : Command) → command_behind name.Load rest ≡ Ok c → IsShape (codes "load" ∷ rest) c
of_load [] c is = absurd (missing _ c is)
of_load (value ∷ rest) c is =
    let m = made command.Load (load_words (value ∷ rest)) c is in
    let r = read (ok_or (count_of MOST_CALLS value) (fault.BadNumber name.Load value)) (λ n. alone n (no_more name.Load rest)) m.value m.there in
    let last = alone_from r.value name.Load rest m.value r.is in
    let count = count_from MOST_CALLS value r.value (ok_from (count_of MOST_CALLS value) (fault.BadNumber name.Load value) r.value r.there) in
    subst (IsShape (codes "load" ∷ value ∷ rest)) (ap command.Load last.1 ∙ m.is)
    (subst (λ ws. IsShape (codes "load" ∷ value ∷ ws) (command.Load r.value)) (sym last.0) (Loads value r.value count))

of_timed : (rest : List Word) (c : Command) → command_behind name.Timed rest ≡ Ok c → IsShape (codes "timed" ∷ rest) c
of_timed [] c is = absurd (missing _ c is)
of_timed (e ∷ []) c is = absurd (missing _ c is)
of_timed (e ∷ s ∷ []) c is = absurd (missing _ c is)
of_timed (e ∷ s ∷ t ∷ options) c is =
    let m = made command.Timed (timed_words (e ∷ s ∷ t ∷ options)) c is in
    let n = made (λ (r : RunWords). record { run = r; table = t }) (run_by name.Timed e s options) m.value m.there in
    let r = bounded name.Timed refl e s options n.value (ran name.Timed e s options n.value n.there) refl in
    subst (IsShape (codes "timed" ∷ e ∷ s ∷ t ∷ options))
    (ap (λ (q : RunWords). command.Timed (record { run = q; table = t })) r.is ∙ ap command.Timed n.is ∙ m.is)
    (RunsTimed e s t options r.w r.j r.are)

of_change : (rest : List Word) (c : Command) → command_behind name.Change rest ≡ Ok c → IsShape (codes "change" ∷ rest) c
of_change [] c is = absurd (missing _ c is)
of_change (e ∷ []) c is = absurd (missing _ c is)
of_change (e ∷ s ∷ []) c is = absurd (missing _ c is)
of_change (e ∷ s ∷ n ∷ []) c is = absurd (missing _ c is)
of_change (e ∷ s ∷ n ∷ k ∷ options) c is =
    let m = made command.Change (change_words (e ∷ s ∷ n ∷ k ∷ options)) c is in
    let a = read (ok_or (count_of MOST_JOBS k) (fault.BadNumber name.Change k))
    (λ at. made_of (λ (w : RunWords). record { run = w; new = n; at = at }) (run_by name.Change e s options)) m.value m.there in
    let g = made (λ (w : RunWords). record { run = w; new = n; at = a.value }) (run_by name.Change e s options) m.value a.is in
    let r = bounded name.Change refl e s options g.value (ran name.Change e s options g.value g.there) refl in
    let count = count_from MOST_JOBS k a.value (ok_from (count_of MOST_JOBS k) (fault.BadNumber name.Change k) a.value a.there) in
    subst (IsShape (codes "change" ∷ e ∷ s ∷ n ∷ k ∷ options))
    (ap (λ (q : RunWords). command.Change (record { run = q; new = n; at = a.value })) r.is ∙ ap command.Change g.is ∙ m.is)
    (Changes e s n k a.value options r.w r.j count r.are)

of_trace : (rest : List Word) (c : Command) → command_behind name.Trace rest ≡ Ok c → IsShape (codes "trace" ∷ rest) c
of_trace [] c is = absurd (missing _ c is)
of_trace (e ∷ []) c is = absurd (missing _ c is)
of_trace (e ∷ s ∷ []) c is = absurd (missing _ c is)
of_trace (e ∷ s ∷ q ∷ options) c is =
    let m = made command.Trace (trace_words (e ∷ s ∷ q ∷ options)) c is in
    let n = made (λ (r : RunWords). record { run = r; filter = q }) (run_by name.Trace e s options) m.value m.there in
    let r = alone_run name.Trace refl e s options n.value (ran name.Trace e s options n.value n.there) refl in
    subst (IsShape (codes "trace" ∷ e ∷ s ∷ q ∷ options))
    (ap (λ (p : RunWords). command.Trace (record { run = p; filter = q })) r.is ∙ ap command.Trace n.is ∙ m.is)
    (Traces e s q options r.j r.are)

-- the word of a command
abbrev spelled : CommandName → Word
spelled name.Run = codes "run"
spelled name.Single = codes "single"
spelled name.Analyse = codes "analyse"
spelled name.Certify = codes "certify"
spelled name.List = codes "list"
spelled name.Load = codes "load"
spelled name.Timed = codes "timed"
spelled name.Change = codes "change"
spelled name.Trace = codes "trace"

names_command : (word : Word) (k : CommandName) → command_named word ≡ Some k → word ≡ spelled k
names_command word k =
    chosen spelled word (codes "run") name.Run k _ refl
    (chosen spelled word (codes "single") name.Single k _ refl
    (chosen spelled word (codes "analyse") name.Analyse k _ refl
    (chosen spelled word (codes "certify") name.Certify k _ refl
    (chosen spelled word (codes "list") name.List k _ refl
    (chosen spelled word (codes "load") name.Load k _ refl
    (chosen spelled word (codes "timed") name.Timed k _ refl
    (chosen spelled word (codes "change") name.Change k _ refl
    (chosen spelled word (codes "trace") name.Trace k _ refl (λ none. absurd (none-some k none))))))))))

of_command : (k : CommandName) (rest : List Word) (c : Command) → command_behind k rest ≡ Ok c → IsShape (spelled k ∷ rest) c
of_command name.Run rest c is = of_run rest c is
of_command name.Single rest c is = of_single rest c is
of_command name.Analyse rest c is = of_one name.Analyse (codes "analyse") command.Analyse Analyses rest c is
of_command name.Certify rest c is = of_one name.Certify (codes "certify") command.Certify Certifies rest c is
of_command name.List rest c is = of_one name.List (codes "list") command.List Lists rest c is
of_command name.Load rest c is = of_load rest c is
of_command name.Timed rest c is = of_timed rest c is
of_command name.Change rest c is = of_change rest c is
of_command name.Trace rest c is = of_trace rest c is

has_shape : (words : List Word) (c : Command) → command_of words ≡ Ok c → IsShape words c
has_shape [] c is = absurd (missing _ c is)
has_shape (word ∷ rest) c is =
    let r = read (ok_or (command_named word) (fault.UnknownCommand word)) (λ k. command_behind k rest) c is in
    let names = names_command word r.value (ok_from (command_named word) (fault.UnknownCommand word) r.value r.there) in
    subst (λ n. IsShape (n ∷ rest) c) (sym names) (of_command r.value rest c r.is)

ok_is : {A : Type 0} (r : Result A WordsFault) (a : A) → result_ok r ≡ Some a → r ≡ Ok a
ok_is (Ok b) a is = ap (λ q. Ok q) (same_Some b a is)
ok_is (Err f) a is = absurd (none-some a is)

pub shape_is : (words : List Word) (c : Command) → (shape words ≡ Some c) ↔ IsShape words c
shape_is words c = (λ is. has_shape words c (ok_is (command_of words) c is), λ is. ap result_ok (command_read is))

pub one_shape : (words : List Word) (a b : Command) → IsShape words a → IsShape words b → a ≡ b
one_shape words a b is other = same_Ok a b (sym (command_read is) ∙ command_read other)

-- for `search`
pub read_as : (words : List Word) (r : Result Command WordsFault) → r ≡ command_of words → AreReadAs words r
read_as words r is c = (λ e. has_shape words c (sym is ∙ e), λ s. is ∙ command_read s)
