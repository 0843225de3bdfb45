-- Merged lines fit the exchange.
use Rattle.std.proofs.Common.{◌≡◌, ℕ, zero, suc, ◌+◌, ◌<◌, ◌≤◌, ◌^◌, ◌⊎◌, inl, inr, Bool, true}
use Rattle.std.proofs.Common.{false, not, cond, nat_eq, List, [], ◌∷◌, ◌++◌, length, map, slice_get}
use Rattle.std.proofs.Common.{Option, Some, None, refl, sym, ap, subst, ◌∙◌, append_assoc}
use Rattle.std.proofs.Common.{length-append, arith}
use Rattle.std.specs.Prelude.{nat_le, if◌then◌else◌, Ok}
use Rattle.std.specs.List.{AllByRecursion, flat_map, position_or_len, range_with_len}
use Rattle.std.specs.Option.{option_map, unwrap_or}
use Rattle.std.proofs.lemmas.Bool.{cases_Bool, cond_below, eqb-true, eq-eqb}
use Rattle.std.proofs.lemmas.List.{map-append}
use Rattle.std.proofs.lemmas.Option.{none-some, same_Some}
use Rattle.plex_num.proofs.Lists.{all_append, all_left, all_right, all_weaker}
use Rattle.exchange_model.specs.declared.exchange.Exchange.{Exchange}
use Rattle.signal_file.specs.declared.line.Line.{Line}
use Rattle.signal_file.specs.declared.line.LineKind.{LineKind}
use Rattle.signal_file.specs.declared.line.LineKind.TheVariants.{Bare, Fresh, Same}
use Rattle.signal_file.specs.Lines.{signal_lines}
use Rattle.signal_file.specs.Rules.{gives}
use Rattle.source_meaning.specs.State.{Coming}
use Rattle.source_meaning.specs.Valid.{HasOrigin, IsWord, LineFits, LinesFit, NamesEarlier}
use Rattle.source_meaning.specs.Valid.{entry_count}
use Rattle.run_books.specs.Lines.{coming_of, origin_of}
use Rattle.run_books.proofs.Fitting.{all_coming, got_coming, signal_lines_fit}
use Rattle.job_table.specs.declared.period.Period.{Period}
use Rattle.job_table.specs.Fit.{AreNumberedFrom, Rises}
use Rattle.job_table.specs.Merged.{all_lines, by_count, has_number, line_at, lines_of, merged}
use Rattle.job_table.specs.Merged.{number_in, numbered_from, placed_in, renamed, renumbered}
use Rattle.job_table.specs.Table.{table_periods}
use Rattle.job_table.proofs.Fitted.{PeriodFits, periods_fit}
use Rattle.job_table.proofs.Numbering.{numbered-cons, numbered-nil, numbered-push}
use Rattle.job_table.proofs.Signals.{IsSound, signal_lines_sound}
use Rattle.job_table.proofs.Sorting.{not_up, all_by_count, by_count-cons, by_count-nil}
use Rattle.job_table.proofs.Sorting.{placed_alone, placed_first, placed_later, rises-by_count}
use Rattle.job_table.proofs.Turns.{turn_small}

-- a line is one of these
abbrev pub Has : Line → List Line → Type 0
Has l [] = ⊥
Has l (m ∷ rest) = (l ≡ m) ⊎ Has l rest

has_all : (P : Line → Type 0) (l : Line) (ls : List Line) → AllByRecursion P ls → Has l ls → P l
has_all P l [] all has = absurd has
has_all P l (m ∷ rest) all (inl is) = subst P (sym is) all.0
has_all P l (m ∷ rest) all (inr later) = has_all P l rest all.1 later

pub had_front : (g : Line) (xs ys : List Line) → Has g xs → Has g (xs ++ ys)
had_front g [] ys has = absurd has
had_front g (k ∷ xs) ys (inl is) = inl is
had_front g (k ∷ xs) ys (inr has) = inr (had_front g xs ys has)

has_last : (l m : Line) (ls : List Line) → (l ≡ m) ⊎ Has l ls → Has l (ls ++ m ∷ [])
has_last l m [] (inl is) = inl is
has_last l m [] (inr has) = absurd has
has_last l m (k ∷ ls) (inl is) = inr (has_last l m ls (inl is))
has_last l m (k ∷ ls) (inr (inl is)) = inl is
has_last l m (k ∷ ls) (inr (inr has)) = inr (has_last l m ls (inr has))

-- each line of this number has a forlopp to give
abbrev Gives : List Line → ℕ → Type 0
Gives all number = AllByRecursion (λ (m : Line). m.number ≡ number → gives m.kind ≡ true) all

-- a line takes the forlopp of the line of this number, which is one of those before it
record Names (all seen : List Line) (l : Line) (number : ℕ) : Type 0 where
  pub giver : Line
  pub has : Has giver seen
  pub is : giver.number ≡ number
  pub earlier : giver.after ≤ l.after
  pub all_give : Gives all number

abbrev Owes : List Line → List Line → Line → LineKind → Type 0
Owes all seen l Fresh = Unit {0}
Owes all seen l Bare = Unit {0}
Owes all seen l (Same number) = Names all seen l number

-- the same of each line behind these
abbrev Origins : List Line → List Line → List Line → Type 0
Origins all seen [] = Unit {0}
Origins all seen (l ∷ rest) = Owes all seen l l.kind × Origins all (l ∷ seen) rest

owes_more : (all s t : List Line) (l : Line) (kind : LineKind) → ((g : Line) → Has g s → Has g t) → Owes all s l kind → Owes all t l kind
owes_more all s t l Fresh more o = tt
owes_more all s t l Bare more o = tt
owes_more all s t l (Same number) more o = record { giver = o.giver; has = more o.giver o.has; is = o.is; earlier = o.earlier; all_give = o.all_give }

one_more : (s t : List Line) (l : Line) → ((g : Line) → Has g s → Has g t) → (g : Line) → Has g (l ∷ s) → Has g (l ∷ t)
one_more s t l more g (inl is) = inl is
one_more s t l more g (inr has) = inr (more g has)

origins_more : (all s t ls : List Line) → ((g : Line) → Has g s → Has g t) → Origins all s ls → Origins all t ls
origins_more all s t [] more o = tt
origins_more all s t (l ∷ ls) more o = (owes_more all s t l l.kind more o.0, origins_more all (l ∷ s) (l ∷ t) ls (one_more s t l more) o.1)

-- ---- the lines of a signal file

-- what holds of arrivals holds of a line that is one of them
had_coming : (P : Coming → Type 0) (g : Line) (ls : List Line) → AllByRecursion P (map coming_of ls) → Has g ls → P (coming_of g)
had_coming P g [] all has = absurd has
had_coming P g (m ∷ ls) all (inl is) = subst (λ (q : Line). P (coming_of q)) (sym is) all.0
had_coming P g (m ∷ ls) all (inr later) = had_coming P g ls all.1 later

-- the numbers of the rest are above that of a line before
numbers_above : (x : Exchange) (g : Line) (done rest : List Line) → Has g done
    → LinesFit x (map coming_of done) (map coming_of rest) → AllByRecursion (λ (m : Line). g.number < m.number) rest
numbers_above x g done [] has fit = tt
numbers_above x g done (l ∷ rest) has fit = (
  had_coming (λ e. e.number < l.number) g done fit.0.number has,
  numbers_above x g (done ++ l ∷ []) rest (has_last g l done (inr has))
      (subst (λ us. LinesFit x us (map coming_of rest)) (sym (map-append coming_of done (l ∷ []))) fit.1),
)

pub lines_of_coming : (P : Coming → Type 0) (ls : List Line) → AllByRecursion P (map coming_of ls) → AllByRecursion (λ (l : Line). P (coming_of l)) ls
lines_of_coming P [] all = tt
lines_of_coming P (l ∷ ls) all = (all.0, lines_of_coming P ls all.1)

-- what holds of a line holds of each that has its number: no other line has
only_one : (Q : Line → Type 0) (x : Exchange) (g : Line) (done rest : List Line)
    → LinesFit x (map coming_of done) (map coming_of rest) → Has g rest → Q g
    → AllByRecursion (λ (m : Line). m.number ≡ g.number → Q m) (done ++ rest)
only_one Q x g done [] fit has own = absurd has
only_one Q x g done (l ∷ rest) fit (inl is) own =
    let numbers : AllByRecursion (λ (m : Line). m.number < l.number) done = lines_of_coming (λ e. e.number < l.number) done fit.0.number in
    let above : AllByRecursion (λ (m : Line). l.number < m.number) rest =
    numbers_above x l (done ++ l ∷ []) rest (has_last l l done (inl refl))
    (subst (λ us. LinesFit x us (map coming_of rest)) (sym (map-append coming_of done (l ∷ []))) fit.1) in
    let same : g.number ≡ l.number = ap (λ (q : Line). q.number) is in
    all_append (λ (m : Line). m.number ≡ g.number → Q m) done (l ∷ rest)
    (all_weaker (λ (m : Line). m.number < l.number) (λ (m : Line). m.number ≡ g.number → Q m) done
    (λ m less e. absurd (omega (arith, less, e, same))) numbers) (
      (λ e. subst Q is own),
      all_weaker (λ (m : Line). l.number < m.number) (λ (m : Line). m.number ≡ g.number → Q m)
          rest (λ m less e. absurd (omega (arith, less, e, same))) above,
    )
only_one Q x g done (l ∷ rest) fit (inr later) own =
    subst (AllByRecursion (λ (m : Line). m.number ≡ g.number → Q m)) (append_assoc done (l ∷ []) rest)
    (only_one Q x g (done ++ l ∷ []) rest (subst (λ us. LinesFit x us (map coming_of rest)) (sym (map-append coming_of done (l ∷ []))) fit.1) later own)

-- the line behind a place
line_at_place : (done : List Line) (i : ℕ) (c : Coming) → slice_get (map coming_of done) i ≡ Some c → (g : Line) × Has g done × (coming_of g ≡ c)
line_at_place [] i c is = absurd (none-some c is)
line_at_place (l ∷ done) zero c is = (l, inl refl, same_Some (coming_of l) c is)
line_at_place (l ∷ done) (suc i) c is = let there = line_at_place done i c is in (there.0, inr there.1, there.2)

pub giver_gives : (kind : LineKind) → HasOrigin (origin_of kind) → gives kind ≡ true
giver_gives Fresh has = refl
giver_gives Bare has = absurd has
giver_gives (Same line) has = refl

owes_from : (all done seen : List Line) (l : Line) (kind : LineKind) → ((g : Line) → Has g done → Has g seen)
    → ((g : Line) → Has g done → gives g.kind ≡ true → Gives all g.number)
    → AllByRecursion (λ (e : Coming). e.after ≤ l.after) (map coming_of done) → NamesEarlier (map coming_of done) (origin_of kind) → Owes all seen l kind
owes_from all done seen l Fresh more only after names = tt
owes_from all done seen l Bare more only after names = tt
owes_from all done seen l (Same number) more only after names =
    let there = line_at_place done names.1.0 names.0 names.1.1 in
    let g : Line = there.0 in
    let is : g.number ≡ number = ap (λ (c : Coming). c.number) there.2 ∙ names.2 in
    let giving : gives g.kind ≡ true = giver_gives g.kind (subst (λ (c : Coming). HasOrigin c.origin) (sym there.2) names.3) in
    record {
      giver = g;
      has = more g there.1;
      is = is;
      earlier = had_coming (λ e. e.after ≤ l.after) g done after there.1;
      all_give = subst (Gives all) is (only g there.1 giving);
    }

origins_from : (x : Exchange) (all done seen rest : List Line) → ((g : Line) → Has g done → Has g seen)
    → ((g : Line) → Has g (done ++ rest) → gives g.kind ≡ true → Gives all g.number)
    → LinesFit x (map coming_of done) (map coming_of rest) → Origins all seen rest
origins_from x all done seen [] more only fit = tt
origins_from x all done seen (l ∷ rest) more only fit = (
  owes_from all done seen l l.kind more (λ g has giving. only g (had_front g done (l ∷ rest) has) giving) fit.0.after fit.0.origin,
  origins_from x all (done ++ l ∷ []) (l ∷ seen) rest (λ g has. back g has)
      (λ g has giving. only g (subst (Has g) (append_assoc done (l ∷ []) rest) has) giving)
      (subst (λ us. LinesFit x us (map coming_of rest)) (sym (map-append coming_of done (l ∷ []))) fit.1),
)
  where
    split : (g : Line) (xs : List Line) → Has g (xs ++ l ∷ []) → (g ≡ l) ⊎ Has g xs
    split g [] (inl is) = inl is
    split g [] (inr has) = absurd has
    split g (k ∷ xs) (inl is) = inr (inl is)
    split g (k ∷ xs) (inr has) = further (split g xs has)
      where
        further : (g ≡ l) ⊎ Has g xs → (g ≡ l) ⊎ Has g (k ∷ xs)
        further (inl is) = inl is
        further (inr has) = inr (inr has)

    joined : (g : Line) → (g ≡ l) ⊎ Has g done → Has g (l ∷ seen)
    joined g (inl is) = inl is
    joined g (inr has) = inr (more g has)

    back : (g : Line) → Has g (done ++ l ∷ []) → Has g (l ∷ seen)
    back g has = joined g (split g done has)

-- ---- the lines that are ordered

-- a line that takes no other's forlopp
abbrev IsOwn : LineKind → Type 0
IsOwn Fresh = Unit {0}
IsOwn Bare = Unit {0}
IsOwn (Same line) = ⊥

own_owes : (all seen : List Line) (l : Line) (kind : LineKind) → IsOwn kind → Owes all seen l kind
own_owes all seen l Fresh own = tt
own_owes all seen l Bare own = tt
own_owes all seen l (Same line) own = absurd own

own_origins : (all seen ls : List Line) → AllByRecursion (λ (l : Line). IsOwn l.kind) ls → Origins all seen ls
own_origins all seen [] own = tt
own_origins all seen (l ∷ ls) own = (own_owes all seen l l.kind own.0, own_origins all (l ∷ seen) ls own.1)

origins_append : (all seen xs ys : List Line) → Origins all seen xs → AllByRecursion (λ (l : Line). IsOwn l.kind) ys → Origins all seen (xs ++ ys)
origins_append all seen [] ys o own = own_origins all seen ys own
origins_append all seen (l ∷ xs) ys o own = (o.0, origins_append all (l ∷ seen) xs ys o.1 own)

-- a line that is put in front of others of its count or greater ones goes behind those that it
-- names
earlier_owes : (all seen : List Line) (l m : Line) (kind : LineKind) → m.after < l.after → Owes all (l ∷ seen) m kind → Owes all seen m kind
earlier_owes all seen l m Fresh less o = tt
earlier_owes all seen l m Bare less o = tt
earlier_owes all seen l m (Same number) less o = record { giver = o.giver; has = still o.has; is = o.is; earlier = o.earlier; all_give = o.all_give }
  where
    still : Has o.giver (l ∷ seen) → Has o.giver seen
    still (inl is) = let same : o.giver.after ≡ l.after = ap (λ (q : Line). q.after) is in let le = o.earlier in absurd (omega (arith, same, le, less))
    still (inr has) = has

swapped : (l m : Line) (seen : List Line) (g : Line) → Has g (m ∷ l ∷ seen) → Has g (l ∷ m ∷ seen)
swapped l m seen g (inl is) = inr (inl is)
swapped l m seen g (inr (inl is)) = inl is
swapped l m seen g (inr (inr has)) = inr (inr has)

origins_placed : (all seen : List Line) (l : Line) (ls : List Line) → Owes all seen l l.kind → Origins all (l ∷ seen) ls → Origins all seen (placed_in l ls)
origins_placed all seen l [] own o = subst (Origins all seen) (sym (placed_alone l)) (own, tt)
origins_placed all seen l (m ∷ rest) own o = elim (cases_Bool (nat_le l.after m.after)) [
  | inl up ↦ subst (Origins all seen) (sym (placed_first l m rest up)) (own, o)
  | inr down ↦
      subst (Origins all seen) (sym (placed_later l m rest down)) (
        earlier_owes all seen l m m.kind (not_up l.after m.after down) o.0,
        origins_placed all (m ∷ seen) l rest (owes_more all seen (m ∷ seen) l l.kind (λ g has. inr has) own)
            (origins_more all (m ∷ l ∷ seen) (l ∷ m ∷ seen) rest (swapped l m seen) o.1),
      )
]

origins_by_count : (all seen ls : List Line) → Origins all seen ls → Origins all seen (by_count ls)
origins_by_count all seen [] o = subst (Origins all seen) (sym by_count-nil) tt
origins_by_count all seen (l ∷ ls) o = subst (Origins all seen) (sym (by_count-cons l ls))
    (origins_placed all seen l (by_count ls) o.0 (origins_by_count all (l ∷ seen) ls o.1))

-- ---- the signals of a table

-- entry and values of a line fit the exchange
record IsFine (x : Exchange) (l : Line) : Type 0 where
  pub entry : l.entry < length x.entries
  pub values : length l.values ≡ entry_count x l.entry
  pub words : AllByRecursion IsWord l.values
  pub after : l.after < 2 ^ 32

-- a line that the table tells
record IsTurn (x : Exchange) (l : Line) : Type 0 where
  pub fine : IsFine x l
  pub number : l.number ≡ 0
  pub own : IsOwn l.kind

own_kind : (fresh : Bool) → IsOwn (if fresh then Fresh else Bare)
own_kind true = tt
own_kind false = tt

turn_is : (x : Exchange) (p : Period) (turn : ℕ) → PeriodFits x p → turn < p.times → IsTurn x (line_at p turn)
turn_is x p turn fits before = record {
  fine = record { entry = fits.entry; values = fits.values; words = fits.words; after = turn_small p turn fits.in_range before };
  number = refl;
  own = own_kind p.fresh;
}

turns_are : (x : Exchange) (p : Period) → PeriodFits x p → (first many : ℕ) → first + many ≤ p.times
    → AllByRecursion (IsTurn x) (map (line_at p) (range_with_len first many))
turns_are x p fits first zero few = tt
turns_are x p fits first (suc many) few = (turn_is x p first fits (omega arith), turns_are x p fits (first + 1) many (omega arith))

periods_are : (x : Exchange) (periods : List Period) → AllByRecursion (PeriodFits x) periods → AllByRecursion (IsTurn x) (flat_map lines_of periods)
periods_are x [] fits = tt
periods_are x (p ∷ periods) fits = all_append (IsTurn x) (lines_of p) (flat_map lines_of periods)
    (turns_are x p fits.0 0 p.times (omega arith)) (periods_are x periods fits.1)

lines_are : (x : Exchange) (done rest : List Line) → LinesFit x (map coming_of done) (map coming_of rest)
    → AllByRecursion IsSound rest → AllByRecursion (IsFine x) rest
lines_are x done [] fit sound = tt
lines_are x done (l ∷ rest) fit sound = (
  record { entry = fit.0.entry; values = fit.0.values; words = fit.0.words; after = sound.0.after },
  lines_are x (done ++ l ∷ []) rest (subst (λ us. LinesFit x us (map coming_of rest)) (sym (map-append coming_of done (l ∷ []))) fit.1) sound.1,
)

-- ---- the lines that are numbered

-- of these lines one has the number, and the first of them gives its forlopp
pub record First (number : ℕ) (done more : List Line) : Type 0 where
  pub place : ℕ
  pub line : Line
  pub there : slice_get done place ≡ Some line
  pub is : line.number ≡ number
  pub inside : place < length done
  pub first : position_or_len (has_number number) (done ++ more) ≡ place

pub first_from : (number : ℕ) (done more : List Line) (g : Line) → Has g done → g.number ≡ number → First number done more
first_from number [] more g has is = absurd has
first_from number (l ∷ done) more g has is = elim (cases_Bool (nat_eq l.number number)) [
  | inl same ↦ record {
    place = 0;
    line = l;
    there = refl;
    is = eqb-true l.number number same;
    inside = omega arith;
    first = ap (λ b. cond (not b) (1 + position_or_len (has_number number) (done ++ more)) 0) same;
  }
  | inr other ↦
      let later = first_from number done more g (behind has other) is in
      let inside = later.inside in
      record {
        place = suc later.place;
        line = later.line;
        there = later.there;
        is = later.is;
        inside = omega (arith, inside);
        first = ap (λ b. cond (not b) (1 + position_or_len (has_number number) (done ++ more)) 0) other ∙ ap (λ n. 1 + n) later.first ∙ omega arith;
      }
]
  where
    behind : Has g (l ∷ done) → nat_eq l.number number ≡ false → Has g done
    behind (inl same) other = let e : l.number ≡ number = ap (λ (q : Line). q.number) (sym same) ∙ is in let yes = eq-eqb l.number number e in absurd (cc)
    behind (inr has) other = has

pub number_is : (number : ℕ) (done more : List Line) (f : First number done more) → number_in (done ++ more) number ≡ Some (f.place + 1)
number_is number done more f =
    let n : ℕ = position_or_len (has_number number) (done ++ more) in
    let inside = f.inside in
    let first = f.first in
    let longer = length-append done more in
    ap (option_map (λ place. place + 1)) (sym (cond_below n (length (done ++ more)) (Some n) None
    (omega (arith, inside, first, longer)))) ∙ ap (λ (k : ℕ). Some (k + 1)) first

pub got_numbered : (new : ℕ → Option ℕ) (from : ℕ) (ls : List Line) (i : ℕ) (l : Line) (number : ℕ)
    → slice_get ls i ≡ Some l → number ≡ from + i
    → slice_get (numbered_from new from ls) i ≡ Some (renumbered new number l)
got_numbered new from [] i l number is n = absurd (none-some l is)
got_numbered new from (k ∷ ls) zero l number is n =
    ap (λ ms. slice_get ms 0) (numbered-cons new from k ls)
    ∙ ap (λ (q : Line). Some (renumbered new from q)) (same_Some k l is) ∙ ap (λ (m : ℕ). Some (renumbered new m l)) (omega (arith, n))
got_numbered new from (k ∷ ls) (suc i) l number is n = ap (λ ms. slice_get ms (suc i)) (numbered-cons new from k ls)
    ∙ got_numbered new (from + 1) ls i l number is (omega (arith, n))

pub all_numbered : (P : Line → Type 0) (new : ℕ → Option ℕ) (from : ℕ) (ls : List Line)
    → ((l : Line) (n : ℕ) → P l → P (renumbered new n l)) → AllByRecursion P ls
    → AllByRecursion P (numbered_from new from ls)
all_numbered P new from [] keeps all = subst (AllByRecursion P) (sym (numbered-nil new from)) tt
all_numbered P new from (l ∷ ls) keeps all = subst (AllByRecursion P) (sym (numbered-cons new from l ls))
    (keeps l from all.0, all_numbered P new (from + 1) ls keeps all.1)

numbers_below : (new : ℕ → Option ℕ) (from : ℕ) (ls : List Line) (top : ℕ) → from + length ls ≤ top
    → AllByRecursion (λ (l : Line). l.number < top) (numbered_from new from ls)
numbers_below new from [] top le = subst (AllByRecursion (λ (l : Line). l.number < top)) (sym (numbered-nil new from)) tt
numbers_below new from (l ∷ ls) top le = subst (AllByRecursion (λ (l : Line). l.number < top))
    (sym (numbered-cons new from l ls)) (omega (arith, le), numbers_below new (from + 1) ls top (omega (arith, le)))

pub numbered_are : (new : ℕ → Option ℕ) (from : ℕ) (ls : List Line) → AreNumberedFrom from (numbered_from new from ls)
numbered_are new from [] = subst (AreNumberedFrom from) (sym (numbered-nil new from)) tt
numbered_are new from (l ∷ ls) = subst (AreNumberedFrom from) (sym (numbered-cons new from l ls)) (refl, numbered_are new (from + 1) ls)

-- no count of those before is above a line's own
risen : (done : List Line) (l : Line) (rest : List Line) → Rises (done ++ l ∷ rest) → AllByRecursion (λ (m : Line). m.after ≤ l.after) done
risen [] l rest rises = tt
risen (m ∷ done) l rest rises = ((all_right (λ (k : Line). m.after ≤ k.after) done (l ∷ rest) rises.0).0, risen done l rest rises.1)

has_origin : (new : ℕ → Option ℕ) (kind : LineKind) → gives kind ≡ true → HasOrigin (origin_of (renamed new kind))
has_origin new Fresh giving = tt
has_origin new Bare giving = absurd (cc)
has_origin new (Same line) giving = tt

pub all_got : (P : Line → Type 0) (ls : List Line) (i : ℕ) (l : Line) → AllByRecursion P ls → slice_get ls i ≡ Some l → P l
all_got P [] i l all is = absurd (none-some l is)
all_got P (k ∷ ls) zero l all is = subst P (same_Some k l is) all.0
all_got P (k ∷ ls) (suc i) l all is = all_got P ls i l all.1 is

-- a line names one before it by its new number
names_new : (all done more seen : List Line) (l : Line) (kind : LineKind)
    → ((n : ℕ) → Gives all n → Gives (done ++ more) n) → ((g : Line) → Has g seen → Has g done) → Owes all seen l kind
    → NamesEarlier (map coming_of (numbered_from (number_in (done ++ more)) 1 done)) (origin_of (renamed (number_in (done ++ more)) kind))
names_new all done more seen l Fresh sorted had o = tt
names_new all done more seen l Bare sorted had o = tt
names_new all done more seen l (Same number) sorted had o =
    let new : ℕ → Option ℕ = number_in (done ++ more) in
    let f : First number done more = first_from number done more o.giver (had o.giver o.has) o.is in
    let giving : gives f.line.kind ≡ true = all_got (λ m. m.number ≡ number → gives m.kind ≡ true) done f.place f.line
    (all_left (λ m. m.number ≡ number → gives m.kind ≡ true) done more (sorted number o.all_give)) f.there f.is in (
      coming_of (renumbered new (f.place + 1) f.line),
      (
        f.place,
        got_coming (numbered_from new 1 done) f.place (renumbered new (f.place + 1) f.line)
            (got_numbered new 1 done f.place f.line (f.place + 1) f.there (omega arith)),
      ),
      ap (λ (q : Option ℕ). unwrap_or q 0) (sym (number_is number done more f)),
      has_origin new f.line.kind giving,
    )

numbered_fit : (x : Exchange) (all done seen rest : List Line) → ((n : ℕ) → Gives all n → Gives (done ++ rest) n)
    → ((g : Line) → Has g seen → Has g done) → Origins all seen rest → Rises (done ++ rest)
    → AllByRecursion (IsFine x) rest
    → (sorted : List Line) → sorted ≡ done ++ rest
    → LinesFit x (map coming_of (numbered_from (number_in sorted) 1 done))
    (map coming_of (numbered_from (number_in sorted) (1 + length done) rest))
numbered_fit x all done seen [] kept had o rises fine sorted is =
    subst (λ ls. LinesFit x (map coming_of (numbered_from (number_in sorted) 1 done)) (map coming_of ls))
    (sym (numbered-nil (number_in sorted) (1 + length done))) tt
numbered_fit x all done seen (l ∷ rest) kept had o rises fine sorted is =
    let new : ℕ → Option ℕ = number_in sorted in
    let before : List Line = numbered_from new 1 done in
    let own : Line = renumbered new (1 + length done) l in
    let longer : length (done ++ l ∷ []) ≡ length done + 1 = length-append done (l ∷ []) in
    let whole : (done ++ l ∷ []) ++ rest ≡ done ++ (l ∷ rest) = append_assoc done (l ∷ []) rest in
    let pushed : map coming_of (numbered_from new 1 (done ++ l ∷ [])) ≡ map coming_of before ++ coming_of own ∷ [] =
    ap (map coming_of) (numbered-push new 1 (1 + length done) done l refl) ∙ map-append coming_of before (own ∷ []) in
    let here : LineFits x (map coming_of before) (coming_of own) = record {
      number = all_coming (λ e. e.number < 1 + length done) before (numbers_below new 1 done (1 + length done) (omega arith));
      after = all_coming (λ e. e.after ≤ l.after) before (all_numbered (λ m. m.after ≤ l.after) new 1 done (λ m n le. le) (risen done l rest rises));
      entry = fine.0.entry;
      values = fine.0.values;
      words = fine.0.words;
      origin =
          subst (λ ls. NamesEarlier (map coming_of (numbered_from (number_in ls) 1 done)) (origin_of (renamed (number_in ls) l.kind))) (sym is)
          (names_new all done (l ∷ rest) seen l l.kind kept had o.0);
    } in
    let later : LinesFit x (map coming_of (numbered_from new 1 (done ++ l ∷ []))) (map coming_of (numbered_from new (1 + length (done ++ l ∷ [])) rest)) =
    numbered_fit x all (done ++ l ∷ []) (l ∷ seen) rest (λ n g. subst (λ ls. Gives ls n) (sym whole) (kept n g))
    (λ g has. has_last g l done (more_had g has)) o.1 (subst Rises (sym whole) rises) fine.1 sorted (is ∙ sym whole)
    in
    let next : LinesFit x (map coming_of before ++ coming_of own ∷ []) (map coming_of (numbered_from new (1 + length done + 1) rest)) =
    subst (λ us. LinesFit x us (map coming_of (numbered_from new (1 + length done + 1) rest))) pushed
    (subst (λ n. LinesFit x (map coming_of (numbered_from new 1 (done ++ l ∷ [])))
    (map coming_of (numbered_from new n rest))) (omega (arith, longer)) later) in
    subst (λ ls. LinesFit x (map coming_of before) (map coming_of ls)) (sym (numbered-cons new (1 + length done) l rest)) (here, next)
  where
    more_had : (g : Line) → Has g (l ∷ seen) → (g ≡ l) ⊎ Has g done
    more_had g (inl is) = inl is
    more_had g (inr has) = inr (had g has)

-- ---- all together

module _ (x : Exchange) (signals table : List ℕ) (lines : List Line) (periods : List Period)
    (lines_read : signal_lines x signals ≡ Ok lines)
    (table_read : table_periods x (length lines) table ≡ Ok periods) where
  sound : AllByRecursion IsSound lines
  sound = signal_lines_sound x signals lines lines_read

  fit : LinesFit x [] (map coming_of lines)
  fit = signal_lines_fit x signals lines lines_read

  turns : AllByRecursion (IsTurn x) (flat_map lines_of periods)
  turns = periods_are x periods (periods_fit x (length lines) table periods table_read)

  pub only_all : (Q : Line → Type 0) (g : Line) → Has g lines → Q g → AllByRecursion (λ (m : Line). m.number ≡ g.number → Q m) (all_lines lines periods)
  only_all Q g has own =
      let some : 1 ≤ g.number = (has_all IsSound g lines sound has).number in
      all_append (λ (m : Line). m.number ≡ g.number → Q m) lines (flat_map lines_of periods) (only_one Q x g [] lines fit has own)
      (all_weaker (IsTurn x) (λ (m : Line). m.number ≡ g.number → Q m) (flat_map lines_of periods)
      (λ m t e. let n = t.number in absurd (omega (arith, n, e, some))) turns)

  origins : Origins (all_lines lines periods) [] (all_lines lines periods)
  origins =
      origins_append (all_lines lines periods) [] lines (flat_map lines_of periods)
      (origins_from x (all_lines lines periods) [] [] lines (λ g has. has)
      (λ g has giving. only_all (λ (m : Line). gives m.kind ≡ true) g has giving) fit)
      (all_weaker (IsTurn x) (λ (m : Line). IsOwn m.kind) (flat_map lines_of periods) (λ m t. t.own) turns)

  fine : AllByRecursion (IsFine x) (by_count (all_lines lines periods))
  fine =
      all_by_count (IsFine x) (all_lines lines periods)
      (all_append (IsFine x) lines (flat_map lines_of periods) (lines_are x [] lines fit sound)
      (all_weaker (IsTurn x) (IsFine x) (flat_map lines_of periods) (λ m t. t.fine) turns))

  pub merged_fit : LinesFit x [] (map coming_of (merged lines periods))
  merged_fit =
      let sorted : List Line = by_count (all_lines lines periods) in
      subst (λ ls. LinesFit x (map coming_of ls) (map coming_of (merged lines periods))) (numbered-nil (number_in sorted) 1)
      (numbered_fit x (all_lines lines periods) [] [] sorted
      (λ n g. all_by_count (λ (m : Line). m.number ≡ n → gives m.kind ≡ true) (all_lines lines periods) g)
      (λ g has. has)
      (origins_by_count (all_lines lines periods) [] (all_lines lines periods) origins) (rises-by_count (all_lines lines periods)) fine sorted refl)

  pub merged_small : AllByRecursion (λ (l : Line). l.after < 2 ^ 32) (merged lines periods)
  merged_small =
      let sorted : List Line = by_count (all_lines lines periods) in
      all_numbered (λ (l : Line). l.after < 2 ^ 32) (number_in sorted) 1 sorted (λ l n small. small)
      (all_weaker (IsFine x) (λ (l : Line). l.after < 2 ^ 32) sorted (λ l f. f.after) fine)
