-- The lines of a filter, one after the other, and its first faulty line.
use Rattle.std.proofs.Common.{◌≡◌, ℕ, ◌+◌, ◌<◌, ◌≤◌, ◌^◌, List, [], ◌∷◌, ◌++◌, length, Option, Some}
use Rattle.std.proofs.Common.{None, Result, Ok, Err, refl, sym, ap, ◌∙◌, append_assoc, append-nil}
use Rattle.std.proofs.Common.{arith}
use Rattle.std.specs.List.{cons_option}
use Rattle.std.specs.Str.Lines.{lines}
use Rattle.exchange_model.specs.declared.exchange.Exchange.{Exchange}
use Rattle.signal_file.specs.declared.directory.Directory.{Directory}
use Rattle.signal_file.specs.Rules.{IsDirectory, and_then}
use Rattle.signal_trace.specs.declared.fault.FilterFault.{FilterFault}
use Rattle.signal_trace.specs.declared.show.Show.{Show}
use Rattle.signal_trace.specs.Filter.{added, filter_of, lines_from, names_of}
use Rattle.signal_file.proofs.Behind.{ok_first}

-- these lines, in front of the others
abbrev fronted : List Show → Result (List Show) FilterFault → Result (List Show) FilterFault
fronted front rest = and_then rest (λ ls. Ok (front ++ ls))

-- the lines of a text are these, and those of the rest, before which there were so many lines
pub record Reads (d : Directory) (text rest : List ℕ) (number : ℕ) (list : List Show) : Type 0 where
  pub so : lines_from d 1 (lines text) ≡ fronted list (lines_from d (number + 1) (lines rest))
  pub few : number + length rest ≤ length text

fronted_none : (o : Result (List Show) FilterFault) → o ≡ fronted [] o
fronted_none (Ok ls) = refl
fronted_none (Err f) = refl

pub read_begin : (d : Directory) (text : List ℕ) → Reads d text text 0 []
read_begin d text = record { so = fronted_none (lines_from d 1 (lines text)); few = omega arith }

-- the lines of the rest, from its first line
next : (d : Directory) (number : ℕ) (rest line after : List ℕ) → lines rest ≡ line ∷ lines after
    → lines_from d number (lines rest) ≡ and_then (added d number line)
    (λ first. and_then (lines_from d (number + 1) (lines after)) (λ ls. Ok (cons_option first ls)))
unfolding lines_from
next d number rest line after is = ap (lines_from d number) is

skip_front : (list : List Show) (o : Result (List Show) FilterFault) → fronted list (and_then o (λ ls. Ok (cons_option None ls))) ≡ fronted list o
skip_front list (Ok ls) = refl
skip_front list (Err f) = refl

more_front : (list : List Show) (l : Show) (o : Result (List Show) FilterFault)
    → fronted list (and_then o (λ ls. Ok (cons_option (Some l) ls))) ≡ fronted (list ++ l ∷ []) o
more_front list l (Ok ls) = ap Ok (sym (append_assoc list (l ∷ []) ls))
more_front list l (Err f) = refl

-- the lines, from the first line of the rest, which adds this
on : (d : Directory) (text rest line after : List ℕ) (number : ℕ) (list : List Show)
    (a : Result (Option Show) FilterFault) → Reads d text rest number list → lines rest ≡ line ∷ lines after
    → a ≡ added d (number + 1) line → lines_from d 1 (lines text)
    ≡ fronted list (and_then a (λ first. and_then (lines_from d (number + 1 + 1) (lines after))
    (λ ls. Ok (cons_option first ls))))
on d text rest line after number list a r is e =
    r.so ∙ ap (fronted list) (next d (number + 1) rest line after is
    ∙ ap (λ a. and_then a (λ first. and_then (lines_from d (number + 1 + 1) (lines after))
    (λ ls. Ok (cons_option first ls)))) (sym e))

pub read_skip : (d : Directory) (text rest line after : List ℕ) (number : ℕ) (list : List Show)
    → Reads d text rest number list → lines rest ≡ line ∷ lines after → length after < length rest
    → Ok None ≡ added d (number + 1) line → Reads d text after (number + 1) list
read_skip d text rest line after number list r is shorter e =
    let few = r.few in
    record {
      so = on d text rest line after number list (Ok None) r is e ∙ skip_front list (lines_from d (number + 1 + 1) (lines after));
      few = omega (arith, few, shorter);
    }

pub read_more : (d : Directory) (text rest line after : List ℕ) (number : ℕ) (list : List Show) (l : Show)
    → Reads d text rest number list → lines rest ≡ line ∷ lines after → length after < length rest
    → Ok (Some l) ≡ added d (number + 1) line → Reads d text after (number + 1) (list ++ l ∷ [])
read_more d text rest line after number list l r is shorter e =
    let few = r.few in
    record {
      so = on d text rest line after number list (Ok (Some l)) r is e ∙ more_front list l (lines_from d (number + 1 + 1) (lines after));
      few = omega (arith, few, shorter);
    }

-- the names of a directory
named : (x : Exchange) (d : Directory) (text : List ℕ) → IsDirectory x d → filter_of x text ≡ lines_from d 1 (lines text)
named x d text n = let names : names_of x ≡ d = λ i. record { signals = sym n.signals i; blocks = sym n.blocks i } in ap
    (λ e. lines_from e 1 (lines text)) names

pub read_stop : (x : Exchange) (d : Directory) (text rest line after : List ℕ) (number : ℕ) (list : List Show)
    (f : FilterFault) → IsDirectory x d → Reads d text rest number list → lines rest ≡ line ∷ lines after
    → Err f ≡ added d (number + 1) line → Err f ≡ filter_of x text
read_stop x d text rest line after number list f n r is e = sym (named x d text n ∙ on d text rest line after number list (Err f) r is e)

pub read_end : (x : Exchange) (d : Directory) (text rest : List ℕ) (number : ℕ) (list : List Show) → IsDirectory x d
    → Reads d text rest number list → lines rest ≡ [] → Ok list ≡ filter_of x text
unfolding lines_from
read_end x d text rest number list n r none =
    sym (named x d text n ∙ r.so ∙ ap (λ ls. fronted list (lines_from d (number + 1) ls)) none ∙ ap Ok (append-nil list))

-- the next line's number is small
pub read_few : (d : Directory) (text rest after : List ℕ) (number : ℕ) (list : List Show)
    → Reads d text rest number list → length after < length rest → length text ≤ 2 ^ 24 → number + 1 < 2 ^ 32
read_few d text rest after number list r shorter small = let few = r.few in omega (arith, few, shorter, small)

-- for `search`
pub ruleset file_read = (read_begin, read_skip, read_more, read_stop, read_end, read_few)

-- ## The first faulty line of a filter decides

pub first_faulty : (d : Directory) (number : ℕ) (front rest : List (List ℕ)) (line : List ℕ) (list : List Show) (f : FilterFault)
    → lines_from d number front ≡ Ok list → added d (number + length front) line ≡ Err f → lines_from d number (front ++ line ∷ rest) ≡ Err f
unfolding lines_from
first_faulty d number [] rest line list f right wrong =
    let here : number ≡ number + length {A = List ℕ} [] = omega arith in
    ap (λ r. and_then r (λ first. and_then (lines_from d (number + 1) rest) (λ ls. Ok (cons_option first ls)))) (ap (λ n. added d n line) here ∙ wrong)
first_faulty d number (one ∷ front) rest line list f right wrong =
    let here = ok_first (added d number one) (λ first. and_then (lines_from d (number + 1) front) (λ ls. Ok (cons_option first ls))) list right in
    let more = ok_first (lines_from d (number + 1) front) (λ ls. Ok (cons_option here.0 ls)) list here.2 in
    let same : number + 1 + length front ≡ number + length (one ∷ front) = omega arith in
    let later = first_faulty d (number + 1) front rest line more.0 f more.1 (ap (λ n. added d n line) same ∙ wrong) in
    ap (λ r. and_then r (λ first. and_then (lines_from d (number + 1) (front ++ line ∷ rest)) (λ ls. Ok (cons_option first ls)))) here.1
    ∙ ap (λ r. and_then r (λ ls. Ok (cons_option here.0 ls))) later
