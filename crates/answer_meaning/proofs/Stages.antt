-- Sequencing of stages, and what a refusal does to the later ones.
use Rattle.std.proofs.Common.{◌≡◌, ℕ, ◌+◌, ◌<◌, ◌≤◌, Bool, true, false, nat_lt, List, length, take}
use Rattle.std.proofs.Common.{Option, Some, None, Result, Ok, Err, IfSome, IsSomeAnd, refl, sym}
use Rattle.std.proofs.Common.{subst, ap, ◌∙◌, ◌++◌, append_assoc, IfOk, arith, min}
use Rattle.std.proofs.lemmas.List.{take_all, length-take}
use Rattle.std.proofs.lemmas.Bool.{lt-ltb, le-ltb}
use Rattle.std.proofs.lemmas.Bool.Decides.{nat_tests}
use Rattle.plex_io.specs.Files.{Files, ReadGives, Lacks}
use Rattle.plex_limits.specs.declared.limits.TheConstants.{MOST_BYTES}
use Rattle.answer_meaning.specs.Outcome.{ComesOf, Out, goes_on, not_held, or_refused}
use Rattle.answer_meaning.specs.Stages.{Comes, IsStopOf, IsStopWith, Performs, ReadAs, StopsBy}
use Rattle.answer_meaning.specs.Stages.{TellsOutcome}
use Rattle.answer_meaning.specs.Given.{fitting, text_of_file, text_at}
use Rattle.answer_meaning.specs.declared.answer.Answer.{Answer}
use Rattle.answer_meaning.specs.declared.answer.Stop.{Stop}
use Rattle.answer_meaning.specs.declared.answer.Stop.TheVariants as stop
use Rattle.command_words.specs.declared.status.Status.{Status}
use Rattle.plex_num.specs.declared.seq.Memory.{Memory}
use Rattle.exchange_model.specs.declared.exchange.Exchange.{Exchange}
use Rattle.certificate_text.specs.declared.certificate.Certificate.{Certificate}
use Rattle.certificate_text.specs.Lines.{HasBadLine, IsTextOf}
use Rattle.checked.specs.Kept.{KeptSummaries}
use Rattle.certificate_meaning.proofs.Judging.{accepted_is_checked}
use Rattle.answer_meaning.specs.declared.fault.FileFault.{FileFault}
use Rattle.answer_meaning.specs.Text.{IsRefusalOf, certificate_refusal}
use Rattle.answer_meaning.specs.RunAnswer.{IsCertifiedRun}
use Rattle.answer_meaning.specs.Certificates.{IsAcceptedOrNot, IsJudged, IsKeptOrNot, large, bad}
use Rattle.answer_meaning.specs.Certificates.{read}
use Rattle.answer_meaning.specs.declared.fault.CertificateFault.{CertificateFault}
use Rattle.answer_meaning.specs.declared.fault.CertificateFault.TheVariants.{BadText, TooLarge}

-- a text within the size limit, and one above it
pub is_fitting : (bytes : List ℕ) → length bytes ≤ MOST_BYTES → Some bytes ≡ fitting MOST_BYTES bytes
is_fitting bytes le = sym (rw (le-ltb MOST_BYTES (length bytes) le) refl)

pub none_fitting : (bytes : List ℕ) → MOST_BYTES < length bytes → None ≡ fitting MOST_BYTES bytes
none_fitting bytes lt = sym (rw (lt-ltb MOST_BYTES (length bytes) lt) refl)

-- the limit holds for the bytes read exactly if it holds for the file
read_fits : (limit : ℕ) (bytes got : List ℕ) → got ≡ take (limit + 1) bytes → fitting limit bytes ≡ fitting limit got
read_fits limit bytes got e = by (nat_lt limit (length got)) refl
  where
    size : length got ≡ min (limit + 1) (length bytes)
    size = ap length e ∙ length-take (limit + 1) bytes

    by : (b : Bool) → nat_lt limit (length got) ≡ b → fitting limit bytes ≡ fitting limit got
    by true over =
        let long : limit < length got = grind (arith, nat_tests, over) in
        rw (lt-ltb limit (length bytes) (let n = size in omega (arith, n, long)), over) refl
    by false fits =
        let short : length got ≤ limit = grind (arith, nat_tests, fits) in
        ap (fitting limit) (sym (e ∙ take_all (limit + 1) bytes (let n = size in omega (arith, n, short))))

-- the text of a file
pub text_comes : (held : Option Files) (name got : List ℕ) (kept : Option (List ℕ)) (b a : ℕ)
    → IfSome held (λ f. ReadGives (f name) MOST_BYTES got) → kept ≡ fitting MOST_BYTES got → b ≤ a
    → Comes held (text_at name) b a (Ok kept)
text_comes held name got kept b a given is later = record { ok = by held given; stops = tt; later = later }
  where
    of : (o : Option (List ℕ)) → ReadGives o MOST_BYTES got → text_of_file o ≡ Ok kept
    of None e = absurd e
    of (Some bytes) e = ap Ok (read_fits MOST_BYTES bytes got e ∙ sym is)

    by : (h : Option Files) → IfSome h (λ f. ReadGives (f name) MOST_BYTES got) → IfSome h (λ f. text_at name f ≡ Ok kept)
    by None e = tt
    by (Some files) e = of (files name) e

-- the file is missing
pub text_absent : (files : Option Files) (name : List ℕ) → Lacks files name → IsSomeAnd files (λ f. text_at name f ≡ Err not_held)
text_absent None name e = absurd e
text_absent (Some files) name e = rw e refl

-- a stage that stops stops the whole sequence
stops_on : {A B : Type 0} (held : Option Files) (was : Files → Out A → Type 0) (work : Files → Out B → Type 0) (b a : ℕ)
    (e : Stop) → ((files : Files) (r : Answer) → was files (Err r) → work files (Err r)) → StopsBy held was b a e
    → StopsBy held work b a e
stops_on None was work b a (stop.Told r f) so s = (s.0, tt)
stops_on (Some files) was work b a (stop.Told r f) so s = (s.0, so files r s.1)
stops_on None was work b a stop.NotHeld so s = s
stops_on (Some files) was work b a stop.NotHeld so s = so files not_held s
stops_on held was work b a stop.Failed so s = s
stops_on held was work b a stop.Memory so s = tt

stopped : {A B : Type 0} (held : Option Files) (f : Files → Out A) (work : Files → Out B → Type 0) (b a : ℕ) (e : Stop)
    → ((files : Files) (r : Answer) → f files ≡ Err r → work files (Err r)) → Comes held f b a (Err e)
    → Performs held work b a (Err e)
stopped held f work b a e so c = record { ok = tt; stops = stops_on held (λ files o. f files ≡ o) work b a e so c.stops; later = c.later }

-- a stage, then the next one on its value
went_on : {A B : Type 0} (held : Option Files) (f : Files → Out A) (next work : Files → Out B → Type 0) (b m a : ℕ)
    (v : A) (r : Result B Stop) → ((files : Files) (o : Out B) → f files ≡ Ok v → next files o → work files o)
    → Comes held f b m (Ok v) → Performs held next m a r → Performs held work b a r
went_on held f next work b m a v (Ok w) so c d = record { ok = by held c.ok d.ok; stops = tt; later = omega (arith, c.later, d.later) } where
  by : (h : Option Files) → IfSome h (λ files. f files ≡ Ok v) → IfSome h (λ files. next files (Ok w)) → IfSome h (λ files. work files (Ok w))
  by None c d = tt
  by (Some files) c d = so files (Ok w) c d
went_on {A = A} {B = B} held f next work b m a v (Err e) so c d = record
    { ok = tt; stops = by held e c.ok c.later d.stops; later = omega (arith, c.later, d.later) } where
      by : (h : Option Files) (e : Stop) → IfSome h (λ files. f files ≡ Ok v) → b ≤ m → StopsBy {A = B} h next m a e → StopsBy {A = B} h work b a e
      by None (stop.Told r f) c le s = (s.0, tt)
      by (Some files) (stop.Told r f) c le s = (s.0, so files (Err r) c s.1)
      by None stop.NotHeld c le s = s
      by (Some files) stop.NotHeld c le s = so files (Err not_held) c s
      by h stop.Failed c le s = omega (arith, le, s)
      by h stop.Memory c le s = tt

-- a weaker description of the outcome
pub performs_as : {A : Type 0} (held : Option Files) (was work : Files → Out A → Type 0) (b a : ℕ) (r : Result A Stop)
    → ((files : Files) (o : Out A) → was files o → work files o) → Performs held was b a r → Performs held work b a r
performs_as held was work b a (Ok v) so c = record { ok = by held c.ok; stops = tt; later = c.later } where
  by : (h : Option Files) → IfSome h (λ files. was files (Ok v)) → IfSome h (λ files. work files (Ok v))
  by None c = tt
  by (Some files) c = so files (Ok v) c
performs_as held was work b a (Err e) so c = record { ok = tt; stops = stops_on held was work b a e (λ files r. so files (Err r)) c.stops; later = c.later }

-- an answer is passed on by a next stage that is a function
on_err : {A B : Type 0} (s : Out A) (go : A → Out B) (r : Answer) → s ≡ Err r → goes_on s go ≡ Err r
on_err s go r is = ap (λ s. goes_on s go) is

on_ok : {A B : Type 0} (s : Out A) (go : A → Out B) (v : A) (o : Out B) → s ≡ Ok v → go v ≡ o → goes_on s go ≡ o
on_ok s go v o is gone = ap (λ s. goes_on s go) is ∙ gone

pub comes_stop : {A B : Type 0} (held : Option Files) (f : Files → Out A) (g : Files → A → Out B) (b a : ℕ) (e : Stop)
    → Comes held f b a (Err e) → Comes held (λ files. goes_on (f files) (g files)) b a (Err e)
comes_stop held f g b a e c = stopped held f (λ files o. goes_on (f files) (g files) ≡ o) b a e (λ files r is. on_err (f files) (g files) r is) c

pub comes_go : {A B : Type 0} (held : Option Files) (f : Files → Out A) (g : Files → A → Out B) (b m a : ℕ) (v : A)
    (r : Result B Stop) → Comes held f b m (Ok v) → Comes held (λ files. g files v) m a r
    → Comes held (λ files. goes_on (f files) (g files)) b a r
comes_go held f g b m a v r c d = went_on held f (λ files o. g files v ≡ o) (λ files o. goes_on (f files) (g files) ≡ o)
    b m a v r (λ files o is gone. on_ok (f files) (g files) v o is gone) c d

-- an answer is passed on by a next stage that is a relation
goes_err : {A : Type 0} (s : Out A) (Go : A → Out Answer → Type 0) (r : Answer) → s ≡ Err r → ComesOf s Go (Err r)
goes_err s Go r is = subst (λ s. ComesOf s Go (Err r)) (sym is) refl

goes_ok : {A : Type 0} (s : Out A) (Go : A → Out Answer → Type 0) (v : A) (o : Out Answer) → s ≡ Ok v → Go v o → ComesOf s Go o
goes_ok s Go v o is go = subst (λ s. ComesOf s Go o) (sym is) go

pub performs_stop : {A : Type 0} (held : Option Files) (f : Files → Out A) (Go : Files → A → Out Answer → Type 0)
    (b a : ℕ) (e : Stop) → Comes held f b a (Err e) → Performs held (λ files. ComesOf (f files) (Go files)) b a (Err e)
performs_stop held f Go b a e c = stopped held f (λ files. ComesOf (f files) (Go files)) b a e (λ files r is. goes_err (f files) (Go files) r is) c

pub performs_go : {A : Type 0} (held : Option Files) (f : Files → Out A) (Go : Files → A → Out Answer → Type 0)
    (b m a : ℕ) (v : A) (r : Result Answer Stop) → Comes held f b m (Ok v) → Performs held (λ files. Go files v) m a r
    → Performs held (λ files. ComesOf (f files) (Go files)) b a r
performs_go held f Go b m a v r c d = went_on held f (λ files. Go files v) (λ files. ComesOf (f files) (Go files)) b m a
    v r (λ files o is go. goes_ok (f files) (Go files) v o is go) c d

-- an outcome that needs no file
pub performs_told : {A : Type 0} (held : Option Files) (Is : Out A → Type 0) (n : ℕ) (r : Result A Stop) → TellsOutcome Is r → Performs held (λ files. Is) n n r
performs_told None Is n (Ok v) s = record { ok = tt; stops = tt; later = omega arith }
performs_told (Some files) Is n (Ok v) s = record { ok = s; stops = tt; later = omega arith }
performs_told None Is n (Err (stop.Told r f)) s = record { ok = tt; stops = (s.0, tt); later = omega arith }
performs_told (Some files) Is n (Err (stop.Told r f)) s = record { ok = tt; stops = s; later = omega arith }
performs_told held Is n (Err stop.NotHeld) s = absurd s
performs_told held Is n (Err stop.Failed) s = absurd s
performs_told held Is n (Err stop.Memory) s = record { ok = tt; stops = tt; later = omega arith }

pub comes_answer : {A : Type 0} (held : Option Files) (said : A) (n : ℕ) (v : A) → v ≡ said → Comes held (λ files. Ok said) n n (Ok v)
comes_answer held said n v is = performs_told held (λ o. Ok said ≡ o) n (Ok v) (ap Ok (sym is))

-- out of memory
refused_memory : {A : Type 0} (held : Option Files) (Is : Files → Out A → Type 0) (b a : ℕ) (e : Stop) → e ≡ stop.Memory → b ≤ a → Performs held Is b a (Err e)
refused_memory {A = A} held Is b a e is later = subst (λ f. Performs {A = A} held Is b a (Err f)) (sym is) (record { ok = tt; stops = tt; later = later })

pub performs_memory : {A : Type 0} (held : Option Files) (Is : Files → Out A → Type 0) (n : ℕ) (e : Stop) → e ≡ stop.Memory → Performs held Is n n (Err e)
performs_memory held Is n e is = refused_memory held Is n n e is (omega arith)

pub ruleset comes_rules = (comes_stop, comes_go, comes_answer, performs_told, performs_memory)

pub ruleset performs_rules = (performs_stop, performs_go, performs_told, performs_memory)

-- a stage that reads a text refuses it
pub reads_stop : {A B : Type 0} (f : Out A) (g : A → Out B) (e : Stop) → ReadAs f (Err e) → ReadAs (goes_on f g) (Err e)
reads_stop f g (stop.Told r k) s = (s.0, on_err f g r s.1)
reads_stop f g stop.NotHeld s = s
reads_stop f g stop.Failed s = s
reads_stop f g stop.Memory s = tt

-- a stage that reads a text, then the next one on its value
pub reads_go : {A B : Type 0} (f : Out A) (g : A → Out B) (v : A) (r : Result B Stop) → f ≡ Ok v → ReadAs (g v) r → ReadAs (goes_on f g) r
reads_go f g v (Ok w) is s = on_ok f g v (Ok w) is s
reads_go f g v (Err (stop.Told r k)) is s = (s.0, on_ok f g v (Err r) is s.1)
reads_go f g v (Err stop.NotHeld) is s = s
reads_go f g v (Err stop.Failed) is s = s
reads_go f g v (Err stop.Memory) is s = tt

pub reads_memory : {A : Type 0} (f : Out A) (e : Stop) → e ≡ stop.Memory → ReadAs f (Err e)
reads_memory f e is = subst (λ s. ReadAs f (Err s)) (sym is) tt

pub reads_answer : {A : Type 0} (said v : A) → v ≡ said → ReadAs (Ok said) (Ok v)
reads_answer said v is = ap Ok (sym is)

-- the same for an outcome that is described by a relation
pub told_memory : {A : Type 0} (Is : Out A → Type 0) (e : Stop) → e ≡ stop.Memory → TellsOutcome Is (Err e)
told_memory Is e is = subst (λ s. TellsOutcome Is (Err s)) (sym is) tt

pub ruleset reads_rules = (reads_stop, reads_go, reads_memory, reads_answer)

-- the value of a file, or the stop for its first fault
pub refused_ok : {A F : Type 0} (by : F → Answer) (said : Result A F) (a : A) → Ok a ≡ said → ReadAs (or_refused by said) (Ok a)
refused_ok by said a is = ap (or_refused by) (sym is)

pub refused_so : {A : Type 0} (said : Out A) (a : Answer) (s : Stop) → said ≡ Err a → IsStopOf a s → ReadAs said (Err s)
refused_so said a (stop.Told b f) is stops = (stops.0, is ∙ ap Err stops.1)
refused_so said a stop.NotHeld is stops = stops
refused_so said a stop.Failed is stops = stops
refused_so said a stop.Memory is stops = tt

pub refused_fault : {A F : Type 0} (by : F → Answer) (said : Result A F) (f : F) (s : Stop) → Err f ≡ said
    → IsStopOf (by f) s → ReadAs (or_refused by said) (Err s)
refused_fault by said f s is stops = refused_so (or_refused by said) (by f) s (ap (or_refused by) (sym is)) stops

pub ruleset refused_rules = (refused_ok, refused_fault, refused_so)

-- the stop for the line of a refusal

pub told_so : (f : FileFault) (s : Status) (said : List ℕ) (line : Result (List ℕ) Memory) (t : Stop)
    → IsRefusalOf f (record { status = s; text = said }) → IfOk line (λ text. text ≡ said) → IsStopWith f s line t
    → IsStopOf (record { status = s; text = said }) t
told_so f s said (Ok text) t refuses is stops =
    let same : t ≡ stop.Told (record { status = s; text = said }) f = stops ∙ ap (λ words. stop.Told (record { status = s; text = words }) f) is in
    subst (IsStopOf (record { status = s; text = said })) (sym same) (refuses, refl)
told_so f s said (Err m) t refuses is stops = subst (IsStopOf (record { status = s; text = said })) (sym stops) tt

-- a text that was written in two pieces
pub two_pieces : (old middle new first second : List ℕ) → middle ≡ old ++ first → new ≡ middle ++ second → new ≡ old ++ (first ++ second)
two_pieces old middle new first second a b = b ∙ ap (λ l. l ++ second) a ∙ append_assoc old first second

-- ## Runs with a certificate

pub judged_large : (x : Exchange) → IsJudged x None (Some TooLarge)
judged_large x = large

pub judged_bad : (x : Exchange) (text : List ℕ) (line : ℕ) → HasBadLine text line → IsJudged x (Some text) (Some (BadText line))
judged_bad x text line is = bad text line is

-- the verdict on a certificate is the verdict on its text
pub text_kept : (x : Exchange) (text : List ℕ) (c : Certificate)
    (r : Result (Result KeptSummaries CertificateFault) Memory) → IsTextOf text c → IfOk r (IsAcceptedOrNot x c)
    → IfOk r (IsKeptOrNot x (Some text))
text_kept x text c (Ok (Ok k)) is verdict = record { judged = read text c None is verdict.is; checked = accepted_is_checked x c k verdict }
text_kept x text c (Ok (Err f)) is verdict = read text c (Some f) is verdict
text_kept x text c (Err m) is verdict = tt

-- the run with an accepted certificate
pub certified_runs : (x : Exchange) (text : Option (List ℕ)) (a : Answer) (r : Result Answer Stop)
    → IsJudged x text None → ReadAs (Ok a) r → TellsOutcome (IsCertifiedRun x text a) r
certified_runs x text a (Ok v) judged reads = record { fault = None; judged = judged; comes = reads }
certified_runs x text a (Err (stop.Told r f)) judged reads = (reads.0, record { fault = None; judged = judged; comes = reads.1 })
certified_runs x text a (Err stop.NotHeld) judged reads = absurd reads
certified_runs x text a (Err stop.Failed) judged reads = absurd reads
certified_runs x text a (Err stop.Memory) judged reads = tt

-- the refusal of a certificate
pub certified_refused : (x : Exchange) (text : Option (List ℕ)) (a : Answer) (f : CertificateFault) (s : Stop)
    → IsJudged x text (Some f) → IsStopOf (certificate_refusal f) s → TellsOutcome (IsCertifiedRun x text a) (Err s)
certified_refused x text a f (stop.Told b k) judged is = (is.0, record { fault = Some f; judged = judged; comes = ap Err is.1 })
certified_refused x text a f stop.NotHeld judged is = absurd is
certified_refused x text a f stop.Failed judged is = absurd is
certified_refused x text a f stop.Memory judged is = tt

pub ruleset certified_rules = (certified_runs, certified_refused, reads_memory, reads_answer)
