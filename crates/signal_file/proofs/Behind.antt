-- The lines of a file, one after the other.
use Rattle.std.proofs.Common.{◌≡◌, ℕ, ◌+◌, ◌<◌, ◌≤◌, ◌^◌, Bool, false, List, [], ◌∷◌, ◌++◌, length}
use Rattle.std.proofs.Common.{map, Option, Some, None, Result, Ok, Err, refl, sym, ap, ◌∙◌}
use Rattle.std.proofs.Common.{append_assoc, append-nil, length-append, arith}
use Rattle.std.proofs.lemmas.Option.{none-some, same_Some}
use Rattle.std.specs.List.{cons_option}
use Rattle.std.specs.Str.Lines.{lines}
use Rattle.std.proofs.lemmas.List.{map-append}
use Rattle.std.proofs.lemmas.List.Sums.{fold-append}
use Rattle.exchange_model.specs.declared.exchange.Exchange.{Exchange}
use Rattle.signal_file.specs.declared.before.Before.{Before}
use Rattle.signal_file.specs.declared.fault.SignalsFault.{SignalsFault}
use Rattle.signal_file.specs.declared.line.Line.{Line}
use Rattle.signal_file.specs.Form.{Saying}
use Rattle.signal_file.specs.Lines.{lines_behind, signal_lines}
use Rattle.signal_file.specs.Rules.{added, and_then, before_of, count_or, gives, gives_forlopp}
use Rattle.signal_file.specs.Rules.{is_origin, last_count, line_of, says}
use Rattle.signal_file.proofs.Meant.{Adds, adds}

-- ---- what a line adds

-- a line as it is noted
record Noted (l : Line) (o : Option Saying) : Type 0 where
  pub count : (n : ℕ) → count_or n o ≡ l.after
  pub origin : gives_forlopp o ≡ gives l.kind

-- a line that is skipped says nothing
passed_by : (x : Exchange) (b : Before) (o : Option Saying) → Adds x b o None → o ≡ None
passed_by x b None adds = refl
passed_by x b (Some s) adds = absurd (none-some adds.0 adds.1)

passed : (x : Exchange) (b : Before) (line : List ℕ) → added x b line ≡ Ok None → says line ≡ None
passed x b line e = passed_by x b (says line) (adds x b line None e)

-- and every other one says the line that is added
noted_by : (x : Exchange) (b : Before) (o : Option Saying) (l : Line) → Adds x b o (Some l) → Noted l o
noted_by x b None l adds = absurd (none-some l (sym adds))
noted_by x b (Some s) l adds =
    let same : line_of b s adds.2.entry ≡ l = adds.2.same ∙ sym (same_Some l adds.0 adds.1) in
    record { count = λ n. ap (λ (k : Line). k.after) same; origin = ap (λ (k : Line). gives k.kind) same }

noted : (x : Exchange) (b : Before) (line : List ℕ) (l : Line) → added x b line ≡ Ok (Some l) → Noted l (says line)
noted x b line l e = noted_by x b (says line) l (adds x b line (Some l) e)

-- what counts of the lines up to a line
before_more : (done : List (List ℕ)) (line : List ℕ) (b : Before) (last : ℕ) (origin : Bool) → b ≡ before_of done
    → count_or b.last (says line) ≡ last → gives_forlopp (says line) ≡ origin
    → record { last = last; origins = b.origins ++ origin ∷ [] } ≡ before_of (done ++ line ∷ [])
unfolding before_of last_count
before_more done line b last origin is count gives_one =
    let counts : last_count (done ++ line ∷ []) ≡ last =
    fold-append (λ n l. count_or n (says l)) 0 done (line ∷ []) ∙ ap (λ (k : Before). count_or k.last (says line)) (sym is) ∙ count in
    let origins : map is_origin (done ++ line ∷ []) ≡ b.origins ++ origin ∷ [] =
    map-append is_origin done (line ∷ []) ∙ ap (λ (k : Before). k.origins ++ gives_forlopp (says line) ∷ []) (sym is)
    ∙ ap (λ o. b.origins ++ o ∷ []) gives_one in
    sym (λ i. record { last = counts i; origins = origins i })

-- the lines so far, in front of the others

abbrev fronted : List Line → Result (List Line) SignalsFault → Result (List Line) SignalsFault
fronted front rest = and_then rest (λ ls. Ok (front ++ ls))

-- the lines of a text are these, and those of the rest
pub record Reads (x : Exchange) (text rest : List ℕ) (b : Before) (list : List Line) : Type 0 where
  pub done : List (List ℕ)
  pub stands : b ≡ before_of done
  pub so : signal_lines x text ≡ fronted list (lines_behind x done (lines rest))
  pub few : length b.origins + length rest ≤ length text

fronted_none : (o : Result (List Line) SignalsFault) → o ≡ fronted [] o
fronted_none (Ok ls) = refl
fronted_none (Err f) = refl

pub read_begin : (x : Exchange) (text : List ℕ) → Reads x text text (record { last = 0; origins = [] }) []
unfolding before_of last_count
read_begin x text = record { done = []; stands = refl; so = fronted_none (signal_lines x text); few = omega arith }

-- the lines of the rest, from its first line
next : (x : Exchange) (done : List (List ℕ)) (rest line after : List ℕ) (b : Before) → b ≡ before_of done
    → lines rest ≡ line ∷ lines after → lines_behind x done (lines rest)
    ≡ and_then (added x b line) (λ first. and_then (lines_behind x (done ++ line ∷ []) (lines after))
    (λ ls. Ok (cons_option first ls)))
unfolding lines_behind
next x done rest line after b stands is =
    ap (lines_behind x done) is ∙ ap (λ k. and_then (added x k line)
    (λ first. and_then (lines_behind x (done ++ line ∷ []) (lines after)) (λ ls. Ok (cons_option first ls))))
    (sym stands)

skip_front : (list : List Line) (o : Result (List Line) SignalsFault) → fronted list (and_then o (λ ls. Ok (cons_option None ls))) ≡ fronted list o
skip_front list (Ok ls) = refl
skip_front list (Err f) = refl

more_front : (list : List Line) (l : Line) (o : Result (List Line) SignalsFault)
    → fronted list (and_then o (λ ls. Ok (cons_option (Some l) ls))) ≡ fronted (list ++ l ∷ []) o
more_front list l (Ok ls) = ap Ok (sym (append_assoc list (l ∷ []) ls))
more_front list l (Err f) = refl

one_longer : (origins : List Bool) (origin : Bool) → length (origins ++ origin ∷ []) ≡ length origins + 1
one_longer origins origin = length-append origins (origin ∷ [])

pub read_skip : (x : Exchange) (text rest line after : List ℕ) (b : Before) (list : List Line)
    → Reads x text rest b list → lines rest ≡ line ∷ lines after → length after < length rest → Ok None ≡ added x b line
    → Reads x text after (record { last = b.last; origins = b.origins ++ false ∷ [] }) list
read_skip x text rest line after b list r is shorter e =
    let none : says line ≡ None = passed x b line (sym e) in
    let few = r.few in
    let longer = one_longer b.origins false in
    record {
      done = r.done ++ line ∷ [];
      stands = before_more r.done line b b.last false r.stands (ap (count_or b.last) none) (ap gives_forlopp none);
      so =
          r.so
          ∙ ap (fronted list) (next x r.done rest line after b r.stands is
          ∙ ap (λ a. and_then a (λ first. and_then (lines_behind x (r.done ++ line ∷ []) (lines after))
          (λ ls. Ok (cons_option first ls)))) (sym e))
          ∙ skip_front list (lines_behind x (r.done ++ line ∷ []) (lines after));
      few = omega (arith, few, longer, shorter);
    }

pub read_more : (x : Exchange) (text rest line after : List ℕ) (b : Before) (list : List Line) (l : Line)
    → Reads x text rest b list → lines rest ≡ line ∷ lines after → length after < length rest
    → Ok (Some l) ≡ added x b line → Reads x text after
    (record { last = l.after; origins = b.origins ++ gives l.kind ∷ [] }) (list ++ l ∷ [])
read_more x text rest line after b list l r is shorter e =
    let n = noted x b line l (sym e) in
    let few = r.few in
    let longer = one_longer b.origins (gives l.kind) in
    record {
      done = r.done ++ line ∷ [];
      stands = before_more r.done line b l.after (gives l.kind) r.stands (n.count b.last) n.origin;
      so =
          r.so
          ∙ ap (fronted list) (next x r.done rest line after b r.stands is
          ∙ ap (λ a. and_then a (λ first. and_then (lines_behind x (r.done ++ line ∷ []) (lines after))
          (λ ls. Ok (cons_option first ls)))) (sym e))
          ∙ more_front list l (lines_behind x (r.done ++ line ∷ []) (lines after));
      few = omega (arith, few, longer, shorter);
    }

pub read_stop : (x : Exchange) (text rest line after : List ℕ) (b : Before) (list : List Line) (f : SignalsFault)
    → Reads x text rest b list → lines rest ≡ line ∷ lines after → Err f ≡ added x b line → Err f ≡ signal_lines x text
read_stop x text rest line after b list f r is e =
    sym (r.so ∙ ap (fronted list) (next x r.done rest line after b r.stands is
    ∙ ap (λ a. and_then a (λ first. and_then (lines_behind x (r.done ++ line ∷ []) (lines after))
    (λ ls. Ok (cons_option first ls)))) (sym e)))

pub read_end : (x : Exchange) (text rest : List ℕ) (b : Before) (list : List Line) → Reads x text rest b list → lines rest ≡ [] → Ok list ≡ signal_lines x text
unfolding lines_behind
read_end x text rest b list r none = sym (r.so ∙ ap (λ ls. fronted list (lines_behind x r.done ls)) none ∙ ap Ok (append-nil list))

-- the next line's number is small
pub read_few : (x : Exchange) (text rest after : List ℕ) (b : Before) (list : List Line) → Reads x text rest b list
    → length after < length rest → length text ≤ 2 ^ 24 → length b.origins < 2 ^ 24
read_few x text rest after b list r shorter small = let few = r.few in omega (arith, few, shorter, small)

-- the first faulty line decides

pub ok_first : {A B F : Type 0} (r : Result A F) (go : A → Result B F) (b : B) → and_then r go ≡ Ok b → (a : A) × (r ≡ Ok a) × (go a ≡ Ok b)
ok_first (Ok a) go b e = (a, refl, e)
ok_first (Err f) go b e = cc

decides : (x : Exchange) (before front rest : List (List ℕ)) (line : List ℕ) (list : List Line) (f : SignalsFault)
    → lines_behind x before front ≡ Ok list → added x (before_of (before ++ front)) line ≡ Err f
    → lines_behind x before (front ++ line ∷ rest) ≡ Err f
unfolding lines_behind
decides x before [] rest line list f right wrong =
    ap (λ r. and_then r (λ first. and_then (lines_behind x (before ++ line ∷ []) rest)
    (λ ls. Ok (cons_option first ls)))) (ap (λ b. added x (before_of b) line) (sym (append-nil before)) ∙ wrong)
decides x before (one ∷ front) rest line list f right wrong =
    let here = ok_first (added x (before_of before) one)
    (λ first. and_then (lines_behind x (before ++ one ∷ []) front) (λ ls. Ok (cons_option first ls))) list right in
    let more = ok_first (lines_behind x (before ++ one ∷ []) front) (λ ls. Ok (cons_option here.0 ls)) list here.2 in
    let later = decides x (before ++ one ∷ []) front rest line more.0 f more.1
    (ap (λ b. added x (before_of b) line) (append_assoc before (one ∷ []) front) ∙ wrong) in
    ap (λ r. and_then r (λ first. and_then (lines_behind x (before ++ one ∷ []) (front ++ line ∷ rest)) (λ ls. Ok (cons_option first ls)))) here.1
    ∙ ap (λ r. and_then r (λ ls. Ok (cons_option here.0 ls))) later

pub first_faulty : (x : Exchange) (front rest : List (List ℕ)) (line : List ℕ) (list : List Line) (f : SignalsFault)
    → lines_behind x [] front ≡ Ok list → added x (before_of front) line ≡ Err f
    → lines_behind x [] (front ++ line ∷ rest) ≡ Err f
first_faulty x front rest line list f right wrong = decides x [] front rest line list f right wrong

-- for `search`
pub ruleset file_read = (read_begin, read_skip, read_more, read_stop, read_end, read_few)
