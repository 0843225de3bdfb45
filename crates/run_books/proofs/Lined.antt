-- The lines that have arrived, and the forlopps that they got.
use Rattle.std.proofs.Common.{◌≡◌, ℕ, zero, suc, ◌<◌, ◌≤◌, Bool, true, false, nat_eq, cond, List}
use Rattle.std.proofs.Common.{[], ◌∷◌, ◌++◌, length, map, drop, Option, Some, None, unwrap_or}
use Rattle.std.proofs.Common.{slice_get, refl, sym, ap, ◌∙◌, arith, length-append}
use Rattle.std.specs.Option.{option_or}
use Rattle.signal_file.specs.declared.line.Line.{Line}
use Rattle.source_meaning.specs.Arrivals.{given_to}
use Rattle.source_meaning.specs.State.{Arrived}
use Rattle.run_books.specs.Lines.{arrived_of, coming_of, found_in}

-- what is found is what a line got
pub given_found : (arrived : List Arrived) (n : ℕ) → unwrap_or (found_in arrived n) 0 ≡ given_to arrived n
given_found [] n = refl
given_found (a ∷ rest) n = at (nat_eq a.line.number n) (given_found rest n)
  where
    at : (b : Bool) → unwrap_or (found_in rest n) 0 ≡ given_to rest n
        → unwrap_or (cond b (Some a.forlopp) (found_in rest n)) 0 ≡ cond b a.forlopp (given_to rest n)
    at true later = refl
    at false later = later

pub given_some : (arrived : List Arrived) (n forlopp : ℕ) → found_in arrived n ≡ Some forlopp → forlopp ≡ given_to arrived n
given_some arrived n forlopp found = sym (ap (λ o. unwrap_or o 0) found) ∙ given_found arrived n

pub given_none : (arrived : List Arrived) (n : ℕ) → found_in arrived n ≡ None → 0 ≡ given_to arrived n
given_none arrived n found = sym (ap (λ o. unwrap_or o 0) found) ∙ given_found arrived n

-- before the first line has arrived
pub none_arrived : (lines : List Line) → arrived_of lines [] ≡ []
none_arrived [] = refl
none_arrived (l ∷ rest) = refl

-- one line more
pub arrived_more : (lines : List Line) (given : List ℕ) (l : Line) (forlopp : ℕ) → slice_get lines (length given) ≡ Some l
    → arrived_of lines (given ++ forlopp ∷ []) ≡ arrived_of lines given ++ record { line = coming_of l; forlopp = forlopp } ∷ []
arrived_more [] given l forlopp there = absurd (cc)
arrived_more (k ∷ rest) [] l forlopp there = let same : k ≡ l = cc in
    ap (λ got. record { line = coming_of k; forlopp = forlopp } ∷ got) (none_arrived rest)
    ∙ ap (λ (z : Line). record { line = coming_of z; forlopp = forlopp } ∷ []) same
arrived_more (k ∷ rest) (f ∷ given) l forlopp there = ap (λ got. record { line = coming_of k; forlopp = f } ∷ got) (arrived_more rest given l forlopp there)

pub arrived_length : (lines : List Line) (given : List ℕ) → length given ≤ length lines → length (arrived_of lines given) ≡ length given
arrived_length [] [] within = refl
arrived_length [] (f ∷ given) within = absurd (omega (arith, within))
arrived_length (l ∷ rest) [] within = refl
arrived_length (l ∷ rest) (f ∷ given) within = ap suc (arrived_length rest given (omega (arith, within)))

pub left_more : (lines : List Line) (n : ℕ) (l : Line) → slice_get lines n ≡ Some l
    → map coming_of (drop n lines) ≡ coming_of l ∷ map coming_of (drop (suc n) lines)
left_more [] n l there = absurd (cc)
left_more (k ∷ rest) zero l there = let same : k ≡ l = cc in ap (λ (z : Line). coming_of z ∷ map coming_of rest) same
left_more (k ∷ rest) (suc n) l there = left_more rest n l there

found_last : (arrived : List Arrived) (a : Arrived) (n : ℕ)
    → found_in (arrived ++ a ∷ []) n ≡ option_or (found_in arrived n)
    (cond (nat_eq a.line.number n) (Some a.forlopp) None)
found_last [] a n = refl
found_last (b ∷ rest) a n = at (nat_eq b.line.number n) (found_last rest a n)
  where
    at : (t : Bool) → found_in (rest ++ a ∷ []) n
        ≡ option_or (found_in rest n) (cond (nat_eq a.line.number n) (Some a.forlopp) None)
        → cond t (Some b.forlopp) (found_in (rest ++ a ∷ []) n)
        ≡ option_or (cond t (Some b.forlopp) (found_in rest n)) (cond (nat_eq a.line.number n) (Some a.forlopp) None)
    at true later = refl
    at false later = later

-- a look into a table that has what was found
abbrev pub Known : (ℕ → Option ℕ) → List Arrived → Type 0
Known table arrived = (n : ℕ) → table n ≡ found_in arrived n

pub known_begin : (table : ℕ → Option ℕ) (lines : List Line) (given : List ℕ) → given ≡ [] → ((n : ℕ) → table n ≡ None) → Known table (arrived_of lines given)
known_begin table lines given none empty n = empty n ∙ sym (ap (λ g. found_in (arrived_of lines g) n) none ∙ ap (λ got. found_in got n) (none_arrived lines))

pub known_more : (old new : ℕ → Option ℕ) (lines : List Line) (given : List ℕ) (l : Line) (forlopp : ℕ)
    → slice_get lines (length given) ≡ Some l → Known old (arrived_of lines given)
    → ((n : ℕ) → new n ≡ option_or (old n) (cond (nat_eq l.number n) (Some forlopp) None)) → Known new (arrived_of lines (given ++ forlopp ∷ []))
known_more old new lines given l forlopp there known noted n =
    noted n ∙ ap (λ o. option_or o (cond (nat_eq l.number n) (Some forlopp) None)) (known n)
    ∙ sym (ap (λ got. found_in got n) (arrived_more lines given l forlopp there)
    ∙ found_last (arrived_of lines given) (record { line = coming_of l; forlopp = forlopp }) n)

pub get_within : (lines : List Line) (n : ℕ) (l : Line) → slice_get lines n ≡ Some l → n < length lines
get_within [] n l there = absurd (cc)
get_within (k ∷ rest) zero l there = omega arith
get_within (k ∷ rest) (suc n) l there = let within = get_within rest n l there in omega (arith, within)

pub one_longer : (given more : List ℕ) (forlopp : ℕ) → more ≡ given ++ forlopp ∷ [] → length more ≡ suc (length given)
one_longer given more forlopp is = omega (arith, ap length is, length-append given (forlopp ∷ []))
