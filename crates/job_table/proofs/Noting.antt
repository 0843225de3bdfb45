-- New numbers noted by old ones, line after line.
use Rattle.std.proofs.Common.{◌≡◌, ℕ, ◌+◌, ◌<◌, ◌≤◌, Bool, true, false, nat_eq, cond, List, [], ◌∷◌}
use Rattle.std.proofs.Common.{◌++◌, length, take, get_or, Option, Some, None, position, refl, sym}
use Rattle.std.proofs.Common.{ap, ◌∙◌, arith}
use Rattle.std.specs.HashMap.{Updates}
use Rattle.std.specs.Option.{option_map, option_or}
use Rattle.std.proofs.lemmas.Bool.{eqb-true}
use Rattle.std.proofs.lemmas.List.{take_more, take_all, length-take-le}
use Rattle.plex_num.proofs.Options.{option_or-None}
use Rattle.exchange_model.proofs.Noting.{position-push}
use Rattle.signal_file.specs.declared.line.Line.{Line}
use Rattle.job_table.specs.declared.places.Places.{Places}
use Rattle.job_table.specs.Merged.{has_number, number_in}
use Rattle.job_table.specs.Places.{ArePlaces, HasNoted, noted}

-- what is there stays
stays : (t : Bool) (o : Option ℕ) (n m : ℕ) → (t ≡ true → o ≡ Some m) → o ≡ option_or o (cond t (Some n) None)
stays true o n m h = let e : o ≡ Some m = h refl in e ∙ ap (λ p. option_or p (Some n)) (sym e)
stays false o n m h = sym (option_or-None o)

-- what is not there comes
comes : (t : Bool) (o : Option ℕ) (n : ℕ) → (t ≡ true → o ≡ None) → cond t (Some n) o ≡ option_or o (cond t (Some n) None)
comes true o n h = ap (λ p. option_or p (Some n)) (sym (h refl))
comes false o n h = sym (option_or-None o)

pub noted_stays : (p : Places) (old number m : ℕ) → noted p old ≡ Some m → HasNoted p p old number
noted_stays p old number m there n = stays (nat_eq old n) (noted p n) number m (λ h. ap (noted p) (sym (eqb-true old n h)) ∙ there)

pub noted_comes : (before after : Places) (old number : ℕ) → noted before old ≡ None
    → Updates nat_eq before.numbers after.numbers old (Some number) → HasNoted before after old number
noted_comes before after old number none updates n = updates.0 n
    ∙ comes (nat_eq old n) (noted before n) number (λ h. ap (noted before) (sym (eqb-true old n h)) ∙ none)

number_map : (o : Option ℕ) (t : Bool) (place : ℕ)
    → option_map (λ place. place + 1) (option_or o (cond t (Some place) None))
    ≡ option_or (option_map (λ place. place + 1) o) (cond t (Some (place + 1)) None)
number_map None true place = refl
number_map None false place = refl
number_map (Some n) true place = refl
number_map (Some n) false place = refl

-- the lines up to one are noted
pub noted_begin : (p : Places) (lines : List Line) → ((n : ℕ) → noted p n ≡ None) → ArePlaces p (take 0 lines)
noted_begin p lines none n = none n

pub noted_more : (before after : Places) (lines : List Line) (i : ℕ) (l : Line) → i < length lines
    → l ≡ get_or lines i l → ArePlaces before (take i lines) → HasNoted before after l.number (i + 1)
    → ArePlaces after (take (i + 1) lines)
noted_more before after lines i l inside is are has n =
    let t : Bool = nat_eq l.number n in
    let many : length (take i lines) ≡ i = length-take-le i lines (omega arith) in
    has n
    ∙ ap (λ o. option_or o (cond t (Some (i + 1)) None)) (are n)
    ∙ sym (number_map (position (has_number n) (take i lines)) t i)
    ∙ ap (λ k. option_map (λ place. place + 1) (option_or (position (has_number n) (take i lines)) (cond t (Some k) None))) (sym many)
    ∙ ap (option_map (λ place. place + 1)) (sym (position-push (has_number n) (take i lines) l))
    ∙ ap (λ k. number_in (take i lines ++ k ∷ []) n) is
    ∙ ap (λ ls. number_in ls n) (sym (take_more lines i l inside))

pub noted_end : (p : Places) (lines : List Line) (i : ℕ) → length lines ≤ i → ArePlaces p (take i lines) → ArePlaces p lines
noted_end p lines i past are n = are n ∙ ap (λ ls. number_in ls n) (take_all i lines past)

-- for `search`
pub ruleset lines_noted = (noted_begin, noted_end)
