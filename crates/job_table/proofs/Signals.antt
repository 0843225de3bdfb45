-- What is known of each line of a signal file: it has a number, and its count is below 2^32.
use Rattle.std.proofs.Common.{◌≡◌, ℕ, ◌<◌, ◌≤◌, ◌^◌, Bool, true, false, List, [], ◌∷◌, ◌++◌, Option}
use Rattle.std.proofs.Common.{Some, None, Ok, refl, sym, subst, arith}
use Rattle.std.specs.Prelude.{codes, if◌then◌else◌}
use Rattle.std.specs.List.{AllByRecursion, cons_option}
use Rattle.std.specs.Str.{bytes_eq}
use Rattle.std.specs.Str.Lines.{lines}
use Rattle.std.proofs.lemmas.Option.{same_Some}
use Rattle.plex_num.specs.Number.{number_of}
use Rattle.plex_num.proofs.Digits.{number_small}
use Rattle.exchange_model.specs.declared.exchange.Exchange.{Exchange}
use Rattle.signal_file.specs.declared.before.Before.{Before}
use Rattle.signal_file.specs.declared.line.Line.{Line}
use Rattle.signal_file.specs.Form.{Closing, Saying, closing, said_in, with}
use Rattle.text_lines.specs.Words.{is_skipped, words}
use Rattle.signal_file.specs.Lines.{lines_behind, signal_lines}
use Rattle.signal_file.specs.Rules.{added, and_then, before_of, says}
use Rattle.signal_file.proofs.Behind.{ok_first}
use Rattle.signal_file.proofs.Meant.{Adds, IsMeant, adds}

-- numbers are small

count_small : (b : Bool) (o : Option ℕ) (signal block : List ℕ) (r : Option Closing) (s : Saying) → ((n : ℕ) → o ≡ Some n → n < 2 ^ 32)
    → (if b then with o (λ n. with r (λ t. Some
    (record { after = n; signal = signal; block = block; values = t.values; kind = t.kind }))) else None) ≡ Some s
    → s.after < 2 ^ 32
count_small false o signal block r s each e = absurd (cc)
count_small true None signal block r s each e = absurd (cc)
count_small true (Some n) signal block None s each e = absurd (cc)
count_small true (Some n) signal block (Some t) s each e = subst (λ (q : Saying). q.after < 2 ^ 32) (same_Some _ s e) (each n refl)

said_small : (ws : List (List ℕ)) (s : Saying) → said_in ws ≡ Some s → s.after < 2 ^ 32
unfolding said_in
said_small [] s e = absurd (cc)
said_small (a ∷ []) s e = absurd (cc)
said_small (a ∷ b ∷ []) s e = absurd (cc)
said_small (a ∷ b ∷ c ∷ []) s e = absurd (cc)
said_small (first ∷ count ∷ signal ∷ block ∷ rest) s e = count_small (bytes_eq first (codes "AFTER")) (number_of count)
    signal block (closing rest) s (λ n is. number_small count n is) e

unskipped_small : (b : Bool) (ws : List (List ℕ)) (s : Saying) → (if b then None else said_in ws) ≡ Some s → s.after < 2 ^ 32
unskipped_small true ws s e = absurd (cc)
unskipped_small false ws s e = said_small ws s e

-- what a line means

-- a line has a number, and its count is below 2^32
pub record IsSound (l : Line) : Type 0 where
  pub number : 1 ≤ l.number
  pub after : l.after < 2 ^ 32

sound : (x : Exchange) (b : Before) (s : Saying) (l : Line) → s.after < 2 ^ 32 → IsMeant x b s l → IsSound l
sound x b s l small m = subst IsSound m.same (record { number = omega arith; after = small })

-- what a line adds
abbrev AllSound : Option Line → Type 0
AllSound None = Unit {0}
AllSound (Some l) = IsSound l

sound_adds : (x : Exchange) (b : Before) (line : List ℕ) (o : Option Saying) (r : Option Line) → says line ≡ o → Adds x b o r → AllSound r
sound_adds x b line None r is none = subst AllSound (sym none) tt
sound_adds x b line (Some s) r is adds = subst AllSound (sym adds.1) (sound x b s adds.0 (unskipped_small (is_skipped line) (words line) s is) adds.2)

sound_added : (x : Exchange) (b : Before) (line : List ℕ) (r : Option Line) → added x b line ≡ Ok r → AllSound r
sound_added x b line r e = sound_adds x b line (says line) r refl (adds x b line r e)

joined : (first : Option Line) (ls : List Line) → AllSound first → AllByRecursion IsSound ls → AllByRecursion IsSound (cons_option first ls)
joined None ls one all = all
joined (Some l) ls one all = (one, all)

lines_sound : (x : Exchange) (before rest : List (List ℕ)) (list : List Line) → lines_behind x before rest ≡ Ok list → AllByRecursion IsSound list
unfolding lines_behind
lines_sound x before [] list e = let same : [] ≡ list = cc in subst (AllByRecursion IsSound) same tt
lines_sound x before (line ∷ rest) list e =
    let here = ok_first (added x (before_of before) line)
    (λ first. and_then (lines_behind x (before ++ line ∷ []) rest) (λ ls. Ok (cons_option first ls))) list e in
    let more = ok_first (lines_behind x (before ++ line ∷ []) rest) (λ ls. Ok (cons_option here.0 ls)) list here.2 in
    let told_all : Ok (cons_option here.0 more.0) ≡ Ok list = more.2 in
    let same : cons_option here.0 more.0 ≡ list = cc in
    subst (AllByRecursion IsSound) same (joined here.0 more.0 (sound_added x (before_of before) line here.0 here.1)
    (lines_sound x (before ++ line ∷ []) rest more.0 more.1))

pub signal_lines_sound : (x : Exchange) (text : List ℕ) (list : List Line) → signal_lines x text ≡ Ok list → AllByRecursion IsSound list
signal_lines_sound x text list e = lines_sound x [] (lines text) list e
