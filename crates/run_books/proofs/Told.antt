-- Events as bytes, and told again.
use Rattle.std.proofs.Common.{◌≡◌, ◌≢◌, ℕ, zero, suc, ◌+◌, ◌*◌, ◌/◌, ◌%◌, ◌<◌, ◌≤◌, ◌^◌, min, List}
use Rattle.std.proofs.Common.{[], ◌∷◌, ◌++◌, flat_map, length, reverse, refl, sym, ap, subst, ◌∙◌}
use Rattle.std.proofs.Common.{append_assoc, arith, length-append}
use Rattle.std.specs.List.{AllByRecursion}
use Rattle.std.proofs.lemmas.List.{append-nil}
use Rattle.std.proofs.lemmas.List.Concat.{flat_map-append}
use Rattle.plex_limits.specs.declared.limits.TheConstants.{MOST_VALUES}
use Rattle.job_types.specs.declared.fault.Fault.{Fault}
use Rattle.job_types.specs.declared.fault.Fault.TheVariants.{Pointer, Range, Divide, NotOwn}
use Rattle.job_types.specs.declared.fault.Fault.TheVariants.{NoForlopp, Chain, BadEnd, Depth, Sends}
use Rattle.job_types.specs.declared.fault.Fault.TheVariants.{Budget}
use Rattle.source_meaning.specs.State.{RunEvent, Out, Release, Lost, Restart}
use Rattle.run_books.specs.Bytes.{AreBytesOf, IsNarrow, after_event, after_kind, after_number}
use Rattle.run_books.specs.Bytes.{after_words, event_bytes, event_numbers, event_of_kind, events_in}
use Rattle.run_books.specs.Bytes.{fault_number, fault_of, first_event, long_at, number_at}
use Rattle.run_books.specs.Bytes.{number_bytes, told, word_at, words_at}
use Rattle.run_books.proofs.Numbered.{number_read, some_bytes}

-- numbers one after the other, before something else
abbrev row : List ℕ → List ℕ → List ℕ
row ns rest = flat_map number_bytes ns ++ rest

row_first : (n : ℕ) (ns rest : List ℕ) → number_at (row (n ∷ ns) rest) ≡ n
row_first n ns rest = ap number_at (append_assoc (number_bytes n) (flat_map number_bytes ns) rest) ∙ (number_read n (row ns rest)).0

row_next : (n : ℕ) (ns rest : List ℕ) → after_number (row (n ∷ ns) rest) ≡ row ns rest
row_next n ns rest = ap after_number (append_assoc (number_bytes n) (flat_map number_bytes ns) rest) ∙ (number_read n (row ns rest)).1

row_long : (bytes : List ℕ) (n : ℕ) (ns rest : List ℕ) → bytes ≡ row (n ∷ ns) rest → n < 2 ^ 64 → long_at bytes ≡ n
row_long bytes n ns rest is below = omega (arith, below, ap number_at is ∙ row_first n ns rest)

row_word : (bytes : List ℕ) (n : ℕ) (ns rest : List ℕ) → bytes ≡ row (n ∷ ns) rest → n < 2 ^ 32 → word_at bytes ≡ n
row_word bytes n ns rest is below = omega (arith, below, ap number_at is ∙ row_first n ns rest)

row_after : (bytes : List ℕ) (n : ℕ) (ns rest : List ℕ) → bytes ≡ row (n ∷ ns) rest → after_number bytes ≡ row ns rest
row_after bytes n ns rest is = ap after_number is ∙ row_next n ns rest

row_words : (bytes vs rest : List ℕ) → bytes ≡ row vs rest → AllByRecursion (λ (v : ℕ). v < 2 ^ 32) vs
    → (words_at (length vs) bytes ≡ vs) × (after_words (length vs) bytes ≡ rest)
unfolding words_at after_words
row_words bytes [] rest is below = (refl, is)
row_words bytes (v ∷ vs) rest is below =
    let others = row_words (after_number bytes) vs rest (row_after bytes v vs rest is) below.1 in
    ((λ i. row_word bytes v vs rest is below.0 i ∷ others.0 i), others.1)

fault_again : (f : Fault) → (fault_of (fault_number f) ≡ f) × (fault_number f < 10)
fault_again Pointer = (refl, omega arith)
fault_again Range = (refl, omega arith)
fault_again Divide = (refl, omega arith)
fault_again NotOwn = (refl, omega arith)
fault_again NoForlopp = (refl, omega arith)
fault_again Chain = (refl, omega arith)
fault_again BadEnd = (refl, omega arith)
fault_again Depth = (refl, omega arith)
fault_again Sends = (refl, omega arith)
fault_again Budget = (refl, omega arith)

-- what the first number says
record Begins (bytes : List ℕ) (kind more : ℕ) (left : List ℕ) : Type 0 where
  event : first_event bytes ≡ event_of_kind kind more left
  after : after_event bytes ≡ after_kind kind more left

begins : (bytes : List ℕ) (n kind more : ℕ) (ns rest : List ℕ) → bytes ≡ row (n ∷ ns) rest → n ≡ 4 * more + kind
    → kind < 4 → more < 100 → Begins bytes kind more (row ns rest)
unfolding first_event after_event
begins bytes n kind more ns rest is both low few =
    let number : long_at bytes ≡ n = row_long bytes n ns rest is (omega (arith, both, low, few)) in
    let says : long_at bytes % 4 ≡ kind = omega (arith, number, both, low) in
    let counts : long_at bytes / 4 ≡ more = omega (arith, number, both, low) in
    let left = row_after bytes n ns rest is in
    record { event = λ i. event_of_kind (says i) (counts i) (left i); after = λ i. after_kind (says i) (counts i) (left i) }

-- an event is told again
record Again (e : RunEvent) (bytes rest : List ℕ) : Type 0 where
  event : first_event bytes ≡ e
  left : after_event bytes ≡ rest

again : (e : RunEvent) (bytes rest : List ℕ) → bytes ≡ event_bytes e ++ rest → IsNarrow e → Again e bytes rest
again (Out job signal values forlopp) bytes rest is narrow =
    let begin = begins bytes (4 * length values) 0 (length values) (job ∷ signal ∷ forlopp ∷ values) rest is
    (omega arith) (omega arith) (omega (arith, narrow.2)) in
    let one = row (job ∷ signal ∷ forlopp ∷ values) rest in
    let two = row_next job (signal ∷ forlopp ∷ values) rest in
    let three = ap after_number two ∙ row_next signal (forlopp ∷ values) rest in
    let four = ap after_number three ∙ row_next forlopp values rest in
    let all : min (length values) MOST_VALUES ≡ length values = omega (arith, narrow.2) in
    let words = row_words (after_number (after_number (after_number one))) values rest four narrow.3 in
    record {
      event = begin.event ∙ (λ i. Out
          (row_long one job (signal ∷ forlopp ∷ values) rest refl narrow.0 i)
          (row_word (after_number one) signal (forlopp ∷ values) rest two narrow.1 i)
          ((ap (λ k. words_at k (after_number (after_number (after_number one)))) all ∙ words.0) i)
          (row_long (after_number (after_number one)) forlopp values rest three narrow.4 i));
      left = begin.after ∙ ap (λ k. after_words k (after_number (after_number (after_number one)))) all ∙ words.1;
    }
again (Release forlopp job fault point jobs records) bytes rest is narrow =
    let f = fault_number fault in
    let known = fault_again fault in
    let begin = begins bytes (4 * f + 1) 1 f (forlopp ∷ job ∷ point ∷ jobs ∷ records ∷ []) rest is refl (omega arith) (omega (arith, known.1)) in
    let one = row (forlopp ∷ job ∷ point ∷ jobs ∷ records ∷ []) rest in
    let two = row_next forlopp (job ∷ point ∷ jobs ∷ records ∷ []) rest in
    let three = ap after_number two ∙ row_next job (point ∷ jobs ∷ records ∷ []) rest in
    let four = ap after_number three ∙ row_next point (jobs ∷ records ∷ []) rest in
    let five = ap after_number four ∙ row_next jobs (records ∷ []) rest in
    let six = ap after_number five ∙ row_next records [] rest in
    record {
      event = begin.event ∙ (λ i. Release
          (row_long one forlopp (job ∷ point ∷ jobs ∷ records ∷ []) rest refl narrow.0 i)
          (row_long (after_number one) job (point ∷ jobs ∷ records ∷ []) rest two narrow.1 i)
          (known.0 i)
          (row_word (after_number (after_number one)) point (jobs ∷ records ∷ []) rest three narrow.2 i)
          (row_long (after_number (after_number (after_number one))) jobs (records ∷ []) rest four narrow.3 i)
          (row_word (after_number (after_number (after_number (after_number one)))) records [] rest five narrow.4 i));
      left = begin.after ∙ six;
    }
again (Lost line) bytes rest is narrow =
    let begin = begins bytes 2 2 0 (line ∷ []) rest is refl (omega arith) (omega arith) in
    record {
      event = begin.event ∙ ap Lost (row_word (row (line ∷ []) rest) line [] rest refl narrow);
      left = begin.after ∙ row_next line [] rest;
    }
again (Restart job fault point jobs records) bytes rest is narrow =
    let f = fault_number fault in
    let known = fault_again fault in
    let begin = begins bytes (4 * f + 3) 3 f (job ∷ point ∷ jobs ∷ records ∷ []) rest is refl (omega arith) (omega (arith, known.1)) in
    let one = row (job ∷ point ∷ jobs ∷ records ∷ []) rest in
    let two = row_next job (point ∷ jobs ∷ records ∷ []) rest in
    let three = ap after_number two ∙ row_next point (jobs ∷ records ∷ []) rest in
    let four = ap after_number three ∙ row_next jobs (records ∷ []) rest in
    let five = ap after_number four ∙ row_next records [] rest in
    record {
      event = begin.event ∙ (λ i. Restart
          (row_long one job (point ∷ jobs ∷ records ∷ []) rest refl narrow.0 i)
          (known.0 i)
          (row_word (after_number one) point (jobs ∷ records ∷ []) rest two narrow.1 i)
          (row_long (after_number (after_number one)) jobs (records ∷ []) rest three narrow.2 i)
          (row_word (after_number (after_number (after_number one))) records [] rest four narrow.3 i));
      left = begin.after ∙ five;
    }

-- all events

numbered : (e : RunEvent) → 0 < length (event_numbers e)
numbered (Out job signal values forlopp) = omega arith
numbered (Release forlopp job fault point jobs records) = omega arith
numbered (Lost line) = omega arith
numbered (Restart job fault point jobs records) = omega arith

row_some : (ns : List ℕ) → 0 < length ns → 0 < length (flat_map number_bytes ns)
row_some [] some = absurd (omega (arith, some))
row_some (n ∷ ns) some = omega (arith, some_bytes n, length-append (number_bytes n) (flat_map number_bytes ns))

event_some : (e : RunEvent) → 0 < length (event_bytes e)
event_some e = row_some (event_numbers e) (numbered e)

next_in : (most : ℕ) (bytes : List ℕ) → 0 < length bytes → events_in (suc most) bytes ≡ first_event bytes ∷ events_in most (after_event bytes)
unfolding events_in
next_in most [] some = absurd (omega (arith, some))
next_in most (b ∷ bytes) some = refl

told_in : (most : ℕ) (es : List RunEvent) → length es ≤ most → AllByRecursion IsNarrow es → events_in most (flat_map event_bytes es) ≡ es
unfolding events_in
told_in zero [] few narrow = refl
told_in (suc most) [] few narrow = refl
told_in zero (e ∷ es) few narrow = absurd (omega (arith, few))
told_in (suc most) (e ∷ es) few narrow =
    let bytes = event_bytes e ++ flat_map event_bytes es in
    let some : 0 < length bytes = omega (arith, event_some e, length-append (event_bytes e) (flat_map event_bytes es)) in
    let first = again e bytes (flat_map event_bytes es) refl narrow.0 in
    let others : events_in most (after_event bytes) ≡ es = ap (events_in most) first.left ∙ told_in most es (omega (arith, few)) narrow.1 in
    next_in most bytes some ∙ (λ i. first.event i ∷ others i)

few_events : (es : List RunEvent) → length es ≤ length (flat_map event_bytes es)
few_events [] = omega arith
few_events (e ∷ es) = omega (arith, few_events es, event_some e, length-append (event_bytes e) (flat_map event_bytes es))

told_is : (es : List RunEvent) → AllByRecursion IsNarrow es → told (flat_map event_bytes es) ≡ es
unfolding told
told_is es narrow = told_in (length (flat_map event_bytes es)) es (few_events es) narrow

pub are_of : (bytes : List ℕ) (es : List RunEvent) → AreBytesOf bytes es → told bytes ≡ es
are_of bytes es are = ap told are.are ∙ told_is es are.narrow

are_told : (bytes : List ℕ) (es : List RunEvent) → AreBytesOf bytes es → AreBytesOf bytes (told bytes)
are_told bytes es are = subst (AreBytesOf bytes) (sym (are_of bytes es are)) are

-- no bytes tell nothing

pub told_none : (bytes : List ℕ) → bytes ≡ [] → told bytes ≡ []
told_none bytes none = ap told none ∙ told_is [] tt

pub told_empty : (bytes : List ℕ) → length bytes ≡ 0 → told (reverse bytes) ≡ []
told_empty [] none = told_none (reverse []) refl
told_empty (b ∷ bytes) none = absurd (omega (arith, none))

pub none_told : (bytes : List ℕ) → bytes ≡ [] → AreBytesOf bytes (told bytes)
none_told bytes none = are_told bytes [] (record { are = none; narrow = tt })

-- there are no more of them than bytes
pub told_few : (bytes : List ℕ) → AreBytesOf bytes (told bytes) → length (told bytes) ≤ length bytes
told_few bytes are = omega (arith, few_events (told bytes), ap length are.are)

-- an event more

all_more : (es : List RunEvent) (e : RunEvent) → AllByRecursion IsNarrow es → IsNarrow e → AllByRecursion IsNarrow (es ++ e ∷ [])
all_more [] e all last = (last, tt)
all_more (d ∷ es) e all last = (all.0, all_more es e all.1 last)

are_more : (bytes more : List ℕ) (e : RunEvent) → AreBytesOf bytes (told bytes) → more ≡ bytes ++ event_bytes e
    → IsNarrow e → AreBytesOf more (told bytes ++ e ∷ [])
are_more bytes more e are put narrow = record {
  are =
      put ∙ ap (λ bs. bs ++ event_bytes e) are.are ∙ ap (λ bs. flat_map event_bytes (told bytes) ++ bs) (sym (append-nil (event_bytes e)))
      ∙ sym (flat_map-append event_bytes (told bytes) (e ∷ []));
  narrow = all_more (told bytes) e are.narrow narrow;
}

pub told_more : (bytes more : List ℕ) (e : RunEvent) → AreBytesOf bytes (told bytes) → more ≡ bytes ++ event_bytes e
    → IsNarrow e → told more ≡ told bytes ++ e ∷ []
told_more bytes more e are put narrow = are_of more (told bytes ++ e ∷ []) (are_more bytes more e are put narrow)

pub more_told : (bytes more : List ℕ) (e : RunEvent) → AreBytesOf bytes (told bytes) → more ≡ bytes ++ event_bytes e → IsNarrow e → AreBytesOf more (told more)
more_told bytes more e are put narrow = are_told more (told bytes ++ e ∷ []) (are_more bytes more e are put narrow)

-- the next one

record Next (bytes left : List ℕ) (e : RunEvent) : Type 0 where
  told_now : told bytes ≡ e ∷ told left
  are : AreBytesOf left (told left)

next_of : (bytes left : List ℕ) (e : RunEvent) (es : List RunEvent) → AreBytesOf bytes es → 0 < length bytes
    → e ≡ first_event bytes → left ≡ after_event bytes → Next bytes left e
next_of bytes left e [] are some first after = absurd (omega (arith, some, ap length are.are))
next_of bytes left e (d ∷ es) are some first after =
    let here = again d bytes (flat_map event_bytes es) are.are are.narrow.0 in
    let others : AreBytesOf left es = record { are = after ∙ here.left; narrow = are.narrow.1 } in
    record {
      told_now = are_of bytes (d ∷ es) are ∙ (λ i. sym (first ∙ here.event) i ∷ sym (are_of left es others) i);
      are = are_told left es others;
    }

pub told_next : (bytes left : List ℕ) (e : RunEvent) → AreBytesOf bytes (told bytes) → 0 < length bytes
    → e ≡ first_event bytes → left ≡ after_event bytes → told bytes ≡ e ∷ told left
told_next bytes left e are some first after = (next_of bytes left e (told bytes) are some first after).told_now

pub next_told : (bytes left : List ℕ) (e : RunEvent) → AreBytesOf bytes (told bytes) → 0 < length bytes
    → e ≡ first_event bytes → left ≡ after_event bytes → AreBytesOf left (told left)
next_told bytes left e are some first after = (next_of bytes left e (told bytes) are some first after).are

-- by the code

pub first_by : (bytes left : List ℕ) (kind n : ℕ) (e : RunEvent) → n ≡ long_at bytes → left ≡ after_number bytes
    → n % 4 ≡ kind → e ≡ event_of_kind kind (n / 4) left → e ≡ first_event bytes
unfolding first_event
first_by bytes left kind n e number after is tells = tells ∙ (λ i. event_of_kind (sym (ap (λ m. m % 4) (sym number) ∙ is) i) (number i / 4) (after i))

pub after_by : (bytes left behind : List ℕ) (kind n : ℕ) → n ≡ long_at bytes → left ≡ after_number bytes → n % 4 ≡ kind
    → behind ≡ after_kind kind (n / 4) left → behind ≡ after_event bytes
unfolding after_event
after_by bytes left behind kind n number after is tells = tells ∙ (λ i. after_kind (sym (ap (λ m. m % 4) (sym number) ∙ is) i) (number i / 4) (after i))

pub last_kind : (n : ℕ) → n % 4 ≢ 0 → n % 4 ≢ 1 → n % 4 ≢ 2 → n % 4 ≡ 3
last_kind n zero_not one_not two_not = omega (arith, zero_not, one_not, two_not)

-- an event is put behind others
pub row_put : (old mid new a b : List ℕ) → mid ≡ old ++ flat_map number_bytes a → new ≡ mid ++ flat_map number_bytes b
    → new ≡ old ++ flat_map number_bytes (a ++ b)
row_put old mid new a b first second =
    second ∙ ap (λ bs. bs ++ flat_map number_bytes b) first ∙ append_assoc old (flat_map number_bytes a) (flat_map number_bytes b)
    ∙ ap (λ bs. old ++ bs) (sym (flat_map-append number_bytes a b))
