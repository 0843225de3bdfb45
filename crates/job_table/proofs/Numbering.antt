-- Lines that are numbered one after the other.
use Rattle.std.proofs.Common.{◌≡◌, ℕ, suc, ◌+◌, ◌<◌, ◌≤◌, List, [], ◌∷◌, ◌++◌, length, take, get_or}
use Rattle.std.proofs.Common.{Option, refl, sym, ap, ◌∙◌, arith}
use Rattle.std.specs.Option.{unwrap_or}
use Rattle.std.proofs.lemmas.List.{take_more, take_all, length-take-le}
use Rattle.signal_file.specs.declared.line.Line.{Line}
use Rattle.signal_file.specs.declared.line.LineKind.{LineKind}
use Rattle.signal_file.specs.declared.line.LineKind.TheVariants.{Bare, Fresh, Same}
use Rattle.job_table.specs.declared.places.Places.{Places}
use Rattle.job_table.specs.Merged.{number_in, numbered, numbered_from, renamed, renumbered}
use Rattle.job_table.specs.Places.{ArePlaces, noted}

pub numbered-cons : (new : ℕ → Option ℕ) (number : ℕ) (l : Line) (rest : List Line)
    → numbered_from new number (l ∷ rest) ≡ renumbered new number l ∷ numbered_from new (number + 1) rest
unfolding numbered_from
numbered-cons new number l rest = refl

pub numbered-nil : (new : ℕ → Option ℕ) (number : ℕ) → numbered_from new number [] ≡ []
unfolding numbered_from
numbered-nil new number = refl

pub numbered-push : (new : ℕ → Option ℕ) (number last : ℕ) (ls : List Line) (l : Line) → last ≡ number + length ls
    → numbered_from new number (ls ++ l ∷ []) ≡ numbered_from new number ls ++ renumbered new last l ∷ []
unfolding numbered_from
numbered-push new number last [] l is = ap (λ n. renumbered new n l ∷ []) (omega (arith, is))
numbered-push new number last (k ∷ ls) l is = ap (λ more. renumbered new number k ∷ more) (numbered-push new (number + 1) last ls l (omega (arith, is)))

pub length-numbered : (new : ℕ → Option ℕ) (number : ℕ) (ls : List Line) → length (numbered_from new number ls) ≡ length ls
unfolding numbered_from
length-numbered new number [] = refl
length-numbered new number (l ∷ ls) = ap suc (length-numbered new (number + 1) ls)

-- what gives the same numbers
renamed_same : (f g : ℕ → Option ℕ) (kind : LineKind) → ((n : ℕ) → f n ≡ g n) → renamed f kind ≡ renamed g kind
renamed_same f g Fresh same = refl
renamed_same f g Bare same = refl
renamed_same f g (Same line) same = ap (λ o. Same (unwrap_or o 0)) (same line)

numbered_same : (f g : ℕ → Option ℕ) (number : ℕ) (ls : List Line) → ((n : ℕ) → f n ≡ g n) → numbered_from f number ls ≡ numbered_from g number ls
unfolding numbered_from
numbered_same f g number [] same = refl
numbered_same f g number (l ∷ ls) same =
    ap (λ kind. record { number = number; after = l.after; entry = l.entry; values = l.values; kind = kind }
    ∷ numbered_from f (number + 1) ls) (renamed_same f g l.kind same)
    ∙ ap (λ more. renumbered g number l ∷ more) (numbered_same f g (number + 1) ls same)

-- the lines up to one are numbered
pub record Listed (p : Places) (lines : List Line) (i : ℕ) (list : List Line) : Type 0 where
  pub so : list ≡ numbered_from (noted p) 1 (take i lines)

pub numbered_begin : (p : Places) (lines list : List Line) → list ≡ [] → Listed p lines 0 list
numbered_begin p lines list none = record { so = none ∙ sym (numbered-nil (noted p) 1) }

pub numbered_more : (p : Places) (lines list pushed : List Line) (i : ℕ) (l made : Line) → i < length lines
    → l ≡ get_or lines i l → Listed p lines i list → made ≡ renumbered (noted p) (i + 1) l → pushed ≡ list ++ made ∷ []
    → Listed p lines (i + 1) pushed
numbered_more p lines list pushed i l made inside is r renamed added =
    let many : length (take i lines) ≡ i = length-take-le i lines (omega arith) in
    record {
      so =
          added ∙ ap (λ ls. ls ++ made ∷ []) r.so ∙ ap (λ m. numbered_from (noted p) 1 (take i lines) ++ m ∷ []) renamed
          ∙ sym (numbered-push (noted p) 1 (i + 1) (take i lines) l (omega (arith, many)))
          ∙ ap (λ m. numbered_from (noted p) 1 (take i lines ++ m ∷ [])) is
          ∙ ap (numbered_from (noted p) 1) (sym (take_more lines i l inside));
    }

pub numbered_end : (p : Places) (lines list : List Line) (i : ℕ) → length lines ≤ i → Listed p lines i list → ArePlaces p lines → list ≡ numbered lines
numbered_end p lines list i past r are = r.so ∙ ap (numbered_from (noted p) 1) (take_all i lines past) ∙ numbered_same (noted p) (number_in lines) 1 lines are

-- for `search`
pub ruleset lines_numbered = (numbered_begin, numbered_more, numbered_end)
