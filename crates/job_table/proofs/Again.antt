-- Lines that are written out are read again.
use Rattle.std.proofs.Common.{◌≡◌, ℕ, zero, suc, ◌+◌, ◌-◌, ◌<◌, ◌≤◌, ◌^◌, true, false, ◌||◌, nat_eq}
use Rattle.std.proofs.Common.{List, [], ◌∷◌, ◌++◌, length, map, codes, decimal, position, slice_get}
use Rattle.std.proofs.Common.{Option, Some, None, Ok, refl, sym, ap, subst, ◌∙◌, append_assoc}
use Rattle.std.proofs.Common.{length-append, arith}
use Rattle.std.specs.Prelude.{if◌then◌else◌}
use Rattle.std.specs.List.{AllByRecursion, cons_option}
use Rattle.std.specs.Option.{option_map_or}
use Rattle.std.specs.Str.Lines.{lines}
use Rattle.std.proofs.lemmas.Bool.{eq-eqb, le-leb, ne_eqb}
use Rattle.std.proofs.lemmas.List.{map-append}
use Rattle.std.proofs.lemmas.List.Concat.{flat_map-cons}
use Rattle.std.proofs.lemmas.Option.{none-some, same_Some}
use Rattle.plex_num.proofs.Lists.{all_append, all_at, all_right, some_at, all_weaker, got_map}
use Rattle.text_lines.proofs.Numerals.{number_of-decimal}
use Rattle.exchange_model.specs.declared.block.Block.{Block}
use Rattle.exchange_model.specs.declared.entry.Entry.{Entry}
use Rattle.exchange_model.specs.declared.exchange.Exchange.{Exchange}
use Rattle.exchange_model.specs.declared.signal.SignalKind.{SignalKind}
use Rattle.exchange_model.specs.declared.signal.SignalKind.TheVariants.{Answer, Buffered, Combined}
use Rattle.exchange_model.specs.declared.signal.SignalKind.TheVariants.{Direct, Outside}
use Rattle.exchange_model.specs.Index.{is_entry}
use Rattle.exchange_model.specs.Kept.{IsExchange, signal_count, signal_name}
use Rattle.signal_file.specs.declared.before.Before.{Before}
use Rattle.signal_file.specs.declared.directory.Signal.{Signal}
use Rattle.signal_file.specs.declared.line.Line.{Line}
use Rattle.signal_file.specs.declared.line.LineKind.{LineKind}
use Rattle.signal_file.specs.declared.line.LineKind.TheVariants.{Bare, Fresh, Same}
use Rattle.signal_file.specs.Form.{Saying, closing, said_in, with}
use Rattle.text_lines.specs.Words.{has_no_word, is_comment, is_skipped, words}
use Rattle.signal_file.specs.Lines.{lines_behind, signal_lines}
use Rattle.signal_file.specs.Rules.{added, and_then, before_of, count_or, entry_of, gives}
use Rattle.signal_file.specs.Rules.{gives_forlopp, has_origin, if_buffered, is_origin, is_true}
use Rattle.signal_file.specs.Rules.{last_count, meaning, next_number, says, signal_of, tests, told}
use Rattle.signal_file.proofs.Meant.{keeps}
use Rattle.signal_file.proofs.Tests.{AllHold}
use Rattle.exchange_model.specs.Names.{names_of_blocks, names_of_signals}
use Rattle.source_meaning.specs.State.{Coming}
use Rattle.source_meaning.specs.Valid.{HasOrigin, LinesFit, NamesEarlier, entry_count}
use Rattle.run_books.specs.Lines.{coming_of, origin_of}
use Rattle.job_table.specs.Fit.{AreNumberedFrom, HasWords, IsPlainWord}
use Rattle.job_table.specs.Writing.{ending_words, line_words, value_words, written_out}
use Rattle.exchange_model.specs.Names.{name_of_block, name_of_entry, name_of_signal}
use Rattle.run_books.proofs.Fitting.{counts_more, before_is}
use Rattle.job_table.proofs.Entries.{HasNames, IsBuffered, entry_named, name_found}
use Rattle.job_table.proofs.Fit.{giver_gives, lines_of_coming}
use Rattle.job_table.proofs.Words.{AllAbove, AreSmall, HasSmall, NoEnds, decimal_plain, line_first}
use Rattle.job_table.proofs.Words.{low_all, plain_after, tail_is, tail_read, tail_words, word_first}

-- ---- one line

regroup : (a d s name block v k : List ℕ) → a ++ d ++ s ++ (name ++ s ++ block) ++ v ++ k ≡ a ++ (d ++ (s ++ (name ++ (s ++ (block ++ (v ++ k))))))
regroup a d s name block v k = simp append_assoc

-- the text of a line, word by word
shape : (d name block v k : List ℕ) → codes "AFTER " ++ d ++ codes " " ++ (name ++ codes " " ++ block) ++ v
    ++ k ≡ codes "AFTER" ++ 32 ∷ (d ++ 32 ∷ (name ++ 32 ∷ (block ++ (v ++ k))))
shape d name block v k = regroup (codes "AFTER ") d (codes " ") name block v k

-- the names of a line's signal and block, by which its entry is found
record IsWritten (x : Exchange) (l : Line) : Type 0 where
  pub name : List ℕ
  pub block : List ℕ
  pub signal : Signal
  pub text : line_words x l ≡ codes "AFTER" ++ 32 ∷ (decimal l.after ++ 32 ∷ (name ++ 32 ∷ (block ++ (value_words l.values ++ ending_words l.kind))))
  pub name_plain : IsPlainWord name
  pub block_plain : IsPlainWord block
  pub found : signal_of x name ≡ Some signal
  pub entry : entry_of x signal.number block ≡ Some l.entry
  pub many : length l.values ≡ signal.count

buffered_is : (number : ℕ) (o : Option SignalKind) → IsBuffered o
    → (signal : Signal) × (if_buffered number o ≡ Some signal) × (signal.number ≡ number)
    × (option_map_or signal_count o 0 ≡ signal.count) × ((k : SignalKind) × (o ≡ Some k))
buffered_is number None is = absurd is
buffered_is number (Some (Buffered name level count)) is = (record { number = number; count = count }, refl, refl, refl, (Buffered name level count, refl))
buffered_is number (Some (Direct name count)) is = absurd is
buffered_is number (Some (Combined name count answer)) is = absurd is
buffered_is number (Some (Answer name count combined)) is = absurd is
buffered_is number (Some (Outside name count)) is = absurd is

written_line : (x : Exchange) → IsExchange x → HasWords x → (l : Line) → l.entry < length x.entries → length l.values ≡ entry_count x l.entry → IsWritten x l
written_line x kept has l inside many =
    let there = some_at x.entries l.entry inside in
    let e : Entry = there.0 in
    let n : HasNames x l.entry e = entry_named x kept l.entry e there.1 in
    let b = buffered_is e.signal (slice_get x.signals e.signal) n.kind in
    let kind : SignalKind = b.4.0 in
    let name : List ℕ = signal_name kind in
    let block : List ℕ = n.owner.name in
    let signal_there : slice_get (names_of_signals x.signals) e.signal ≡ Some name = got_map signal_name x.signals e.signal kind b.4.1 in
    let block_there : slice_get (names_of_blocks x.blocks) e.block ≡ Some block = got_map (λ (k : Block). k.name) x.blocks e.block n.owner n.block in
    let names : name_of_entry x l.entry ≡ name ++ codes " " ++ block =
    ap (λ o. option_map_or (λ (q : Entry). name_of_signal x.signals q.signal ++ codes " " ++ name_of_block x.blocks q.block) o []) there.1
    ∙ ap (λ o. option_map_or signal_name o [] ++ codes " " ++ name_of_block x.blocks e.block) b.4.1
    ∙ ap (λ o. name ++ codes " " ++ option_map_or (λ (k : Block). k.name) o []) n.block in
    let found : signal_of x name ≡ Some b.0 =
    ap (λ o. with o (λ number. if_buffered number (slice_get x.signals number)))
    (name_found (names_of_signals x.signals) e.signal name kept.signals.names signal_there) ∙ b.1 in
    let entry : entry_of x e.signal block ≡ Some l.entry =
    ap (λ o. with o (λ number. position (is_entry number e.signal) x.entries))
    (name_found (names_of_blocks x.blocks) e.block block kept.blocks.names block_there) ∙ n.first in
    let count : entry_count x l.entry ≡ b.0.count =
    ap (λ o. option_map_or (λ (q : Entry). option_map_or signal_count (slice_get x.signals q.signal) 0) o 0) there.1 ∙ b.3 in
    record {
      name = name;
      block = block;
      signal = b.0;
      text = ap (λ t. codes "AFTER " ++ decimal l.after ++ codes " " ++ t ++ value_words l.values
          ++ ending_words l.kind) names ∙ shape (decimal l.after) name block (value_words l.values)
          (ending_words l.kind);
      name_plain = all_at IsPlainWord (names_of_signals x.signals) e.signal name has.signals signal_there;
      block_plain = all_at IsPlainWord (names_of_blocks x.blocks) e.block block has.blocks block_there;
      found = found;
      entry = ap (λ number. entry_of x number block) b.2 ∙ entry;
      many = many ∙ count;
    }

-- a line that can be written and read
record IsReady (x : Exchange) (l : Line) : Type 0 where
  pub written : IsWritten x l
  pub after : l.after < 2 ^ 32
  pub values : AreSmall l.values
  pub kind : HasSmall l.kind

saying_of : (x : Exchange) (l : Line) → IsReady x l → Saying
saying_of x l r = record { after = l.after; signal = r.written.name; block = r.written.block; values = l.values; kind = l.kind }

words_are : (x : Exchange) (l : Line) (r : IsReady x l)
    → words (line_words x l) ≡ codes "AFTER" ∷ decimal l.after ∷ r.written.name ∷ r.written.block
    ∷ tail_words l.values l.kind
words_are x l r =
    let w = r.written in
    let rest : List ℕ = value_words l.values ++ ending_words l.kind in
    ap words w.text
    ∙ word_first (codes "AFTER") (decimal l.after ++ 32 ∷ (w.name ++ 32 ∷ (w.block ++ rest))) plain_after
    ∙ ap (λ ws. codes "AFTER" ∷ ws) (word_first (decimal l.after) (w.name ++ 32 ∷ (w.block ++ rest)) (decimal_plain l.after r.after)
    ∙ ap (λ ws. decimal l.after ∷ ws) (word_first w.name (w.block ++ rest) w.name_plain
    ∙ ap (λ ws. w.name ∷ ws) (tail_read w.block l.values l.kind w.block_plain r.values r.kind)))

said_is : (x : Exchange) (l : Line) (r : IsReady x l) → said_in (words (line_words x l)) ≡ Some (saying_of x l r)
unfolding said_in saying_of
said_is x l r =
    let w = r.written in
    ap said_in (words_are x l r)
    ∙ ap (λ o. with o (λ n. with (closing (tail_words l.values l.kind))
    (λ t. Some (record { after = n; signal = w.name; block = w.block; values = t.values; kind = t.kind }))))
    (number_of-decimal l.after r.after)
    ∙ ap (λ o. with o (λ t. Some (record {
      after = l.after;
      signal = w.name;
      block = w.block;
      values = t.values;
      kind = t.kind;
    }))) (tail_is l.values l.kind r.values r.kind)

not_skipped : (x : Exchange) (l : Line) → IsReady x l → is_skipped (line_words x l) ≡ false
not_skipped x l r = ap (λ ws. has_no_word ws || is_comment (line_words x l)) (words_are x l r) ∙ ap is_comment r.written.text

says_is : (x : Exchange) (l : Line) (r : IsReady x l) → says (line_words x l) ≡ Some (saying_of x l r)
says_is x l r = ap (λ t. if t then None else said_in (words (line_words x l))) (not_skipped x l r) ∙ said_is x l r

-- a line that is merged keeps each rule of a signal file
keeps_rules : (b : Before) (l : Line) (signal : Signal) → length l.values ≡ signal.count → b.last ≤ l.after
    → has_origin b l.kind ≡ true → AllHold (tests b signal l.after (length l.values) l.kind)
keeps_rules b l signal many no_less origin = (eq-eqb (length l.values) signal.count many, (le-leb b.last l.after no_less, (origin, tt)))

meaning_is : (x : Exchange) (b : Before) (l : Line) (r : IsReady x l) → next_number b ≡ l.number → b.last ≤ l.after
    → has_origin b l.kind ≡ true → meaning x b (saying_of x l r) ≡ Ok l
unfolding saying_of
meaning_is x b l r number no_less origin =
    let w = r.written in
    let s : Saying = record { after = l.after; signal = w.name; block = w.block; values = l.values; kind = l.kind } in
    keeps x b s w.signal l.entry w.found w.entry (keeps_rules b l w.signal w.many no_less origin)
    ∙ ap (λ m. Ok (record { number = m; after = l.after; entry = l.entry; values = l.values; kind = l.kind })) number

added_is : (x : Exchange) (b : Before) (l : Line) → IsReady x l → next_number b ≡ l.number → b.last ≤ l.after
    → has_origin b l.kind ≡ true → added x b (line_words x l) ≡ Ok (Some l)
unfolding added
added_is x b l r number no_less origin =
    ap (λ t. if t then Ok None else told x b (said_in (words (line_words x l)))) (not_skipped x l r)
    ∙ ap (told x b) (said_is x l r)
    ∙ ap (λ m. and_then m (λ k. Ok (Some k))) (meaning_is x b l r number no_less origin)

-- ---- the lines of the text

low : (bytes : List ℕ) → AllAbove bytes → NoEnds bytes
low bytes all = all_weaker (λ b. 32 < b) (λ b. 31 < b) bytes (λ b above. omega arith) all

values_low : (values : List ℕ) → AreSmall values → NoEnds (value_words values)
values_low [] small = tt
values_low (v ∷ values) small = all_append (λ b. 31 < b) (codes " " ++ decimal v) (value_words values)
    (omega arith, low (decimal v) (decimal_plain v small.0).all) (values_low values small.1)

ending_low : (kind : LineKind) → HasSmall kind → NoEnds (ending_words kind)
ending_low Fresh small = low_all (codes " NEW") refl
ending_low Bare small = low_all (codes " NONE") refl
ending_low (Same line) small = all_append (λ b. 31 < b) (codes " AS ") (decimal line) (low_all (codes " AS ") refl)
    (low (decimal line) (decimal_plain line small).all)

line_low : (x : Exchange) (l : Line) → IsReady x l → NoEnds (line_words x l)
line_low x l r =
    let w = r.written in
    let rest : NoEnds (w.block ++ (value_words l.values ++ ending_words l.kind)) =
    all_append (λ b. 31 < b) w.block (value_words l.values ++ ending_words l.kind) (low w.block w.block_plain.all)
    (all_append (λ b. 31 < b) (value_words l.values) (ending_words l.kind) (values_low l.values r.values) (ending_low l.kind r.kind)) in
    let named : NoEnds (w.name ++ 32 ∷ (w.block ++ (value_words l.values ++ ending_words l.kind))) =
    all_append (λ b. 31 < b) w.name (32 ∷ (w.block ++ (value_words l.values ++ ending_words l.kind))) (low w.name w.name_plain.all) (omega arith, rest) in
    let counted : NoEnds (decimal l.after ++ 32 ∷ (w.name ++ 32 ∷ (w.block ++ (value_words l.values ++ ending_words l.kind)))) =
    all_append (λ b. 31 < b) (decimal l.after)
    (32 ∷ (w.name ++ 32 ∷ (w.block ++ (value_words l.values ++ ending_words l.kind))))
    (low (decimal l.after) (decimal_plain l.after r.after).all) (omega arith, named) in
    subst NoEnds (sym w.text)
    (all_append (λ b. 31 < b) (codes "AFTER") (32
    ∷ (decimal l.after ++ 32 ∷ (w.name ++ 32 ∷ (w.block ++ (value_words l.values ++ ending_words l.kind)))))
    (low (codes "AFTER") plain_after.all) (omega arith, counted))

lines_are : (x : Exchange) (ls : List Line) → AllByRecursion (IsReady x) ls → lines (written_out x ls) ≡ map (line_words x) ls
lines_are x [] ready = refl
lines_are x (l ∷ ls) ready =
    ap lines (flat_map-cons (λ k. line_words x k ++ 10 ∷ []) l ls ∙ append_assoc (line_words x l) (10 ∷ []) (written_out x ls))
    ∙ line_first (line_words x l) (written_out x ls) (line_low x l ready.0)
    ∙ ap (λ more. line_words x l ∷ more) (lines_are x ls ready.1)

-- ---- what counts of the lines before

record IsBehind (before : List (List ℕ)) (done : List Line) : Type 0 where
  pub origins : map is_origin before ≡ map (λ (l : Line). gives l.kind) done
  pub last : (n : ℕ) → AllByRecursion (λ (l : Line). l.after ≤ n) done → last_count before ≤ n

behind_begin : IsBehind [] []
unfolding last_count
behind_begin = record { origins = refl; last = λ n all. omega arith }

behind_more : (x : Exchange) (before : List (List ℕ)) (done : List Line) (l : Line) → IsReady x l → IsBehind before done
    → IsBehind (before ++ line_words x l ∷ []) (done ++ l ∷ [])
unfolding saying_of
behind_more x before done l r b =
    let said : says (line_words x l) ≡ Some (saying_of x l r) = says_is x l r in
    let count : last_count (before ++ line_words x l ∷ []) ≡ l.after = counts_more before (line_words x l) ∙ ap (count_or (last_count before)) said in
    record {
      origins =
          map-append is_origin before (line_words x l ∷ []) ∙ ap (λ os. os ++ is_origin (line_words x l) ∷ []) b.origins
          ∙ ap (λ o. map (λ (k : Line). gives k.kind) done ++ o ∷ []) (ap gives_forlopp said)
          ∙ sym (map-append (λ (k : Line). gives k.kind) done (l ∷ []));
      last = λ n all. let le = (all_right (λ (k : Line). k.after ≤ n) done (l ∷ []) all).0 in omega (arith, count, le);
    }

number_at : (from : ℕ) (done : List Line) (j : ℕ) (c : Coming) → AreNumberedFrom from done → slice_get (map coming_of done) j ≡ Some c → c.number ≡ from + j
number_at from [] j c numbers is = absurd (none-some c is)
number_at from (l ∷ done) zero c numbers is = let e = numbers.0 in let same : l.number
    ≡ c.number = ap (λ (q : Coming). q.number) (same_Some (coming_of l) c is) in omega (arith, e, same)
number_at from (l ∷ done) (suc j) c numbers is = let e = number_at (from + 1) done j c numbers.1 is in omega (arith, e)

numbers_more : (from : ℕ) (done : List Line) (l : Line) → AreNumberedFrom from done → l.number ≡ from + length done → AreNumberedFrom from (done ++ l ∷ [])
numbers_more from [] l numbers is = (omega (arith, is), tt)
numbers_more from (k ∷ done) l numbers is = (numbers.0, numbers_more (from + 1) done l numbers.1 (omega (arith, is)))

giver_at : (done : List Line) (j : ℕ) (c : Coming) → slice_get (map coming_of done) j ≡ Some c → HasOrigin c.origin
    → slice_get (map (λ (l : Line). gives l.kind) done) j ≡ Some true
giver_at [] j c is has = absurd (none-some c is)
giver_at (l ∷ done) zero c is has = ap Some (giver_gives l.kind (subst (λ (q : Coming). HasOrigin q.origin) (sym (same_Some (coming_of l) c is)) has))
giver_at (l ∷ done) (suc j) c is has = giver_at done j c is has

origin_there : (b : Before) (done : List Line) (kind : LineKind) → b.origins ≡ map (λ (l : Line). gives l.kind) done
    → AreNumberedFrom 1 done → NamesEarlier (map coming_of done) (origin_of kind) → has_origin b kind ≡ true
origin_there b done Fresh is numbers names = refl
origin_there b done Bare is numbers names = refl
origin_there b done (Same line) is numbers names =
    let j : ℕ = names.1.0 in
    let own = number_at 1 done j names.0 numbers names.1.1 in
    let named = names.2 in
    let line_is : line ≡ 1 + j = omega (arith, own, named) in
    let some : nat_eq line 0 ≡ false = ne_eqb line 0 (λ e. omega (arith, e, line_is)) in
    let place : line - 1 ≡ j = omega (arith, line_is) in
    ap (λ t. if t then false else is_true (slice_get b.origins (line - 1))) some
    ∙ ap (λ n. is_true (slice_get b.origins n)) place
    ∙ ap (λ os. is_true (slice_get os j)) is
    ∙ ap is_true (giver_at done j names.0 names.1.1 names.3)

-- ---- all lines

small_kind : (done : List Line) (kind : LineKind) → length done < 2 ^ 32 → AreNumberedFrom 1 done
    → NamesEarlier (map coming_of done) (origin_of kind) → HasSmall kind
small_kind done Fresh few numbers names = tt
small_kind done Bare few numbers names = tt
small_kind done (Same line) few numbers names =
    let own = number_at 1 done names.1.0 names.0 numbers names.1.1 in
    let named = names.2 in
    let inside = there done names.1.0 names.0 names.1.1 in
    omega (arith, own, named, inside, few)
  where
    there : (done : List Line) (j : ℕ) (c : Coming) → slice_get (map coming_of done) j ≡ Some c → j < length done
    there [] j c is = absurd (none-some c is)
    there (k ∷ done) zero c is = omega arith
    there (k ∷ done) (suc j) c is = let less = there done j c is in omega (arith, less)

all_ready : (x : Exchange) → IsExchange x → HasWords x → (done rest : List Line) → length done + length rest < 2 ^ 32
    → LinesFit x (map coming_of done) (map coming_of rest) → AreNumberedFrom 1 done
    → AreNumberedFrom (1 + length done) rest
    → AllByRecursion (λ (l : Line). l.after < 2 ^ 32) rest → AllByRecursion (IsReady x) rest
all_ready x kept has done [] few fit numbers more small = tt
all_ready x kept has done (l ∷ rest) few fit numbers more small =
    let longer : length (done ++ l ∷ []) ≡ length done + 1 = length-append done (l ∷ []) in (
      record {
        written = written_line x kept has l fit.0.entry fit.0.values;
        after = small.0;
        values = fit.0.words;
        kind = small_kind done l.kind (omega (arith, few)) numbers fit.0.origin;
      },
      all_ready x kept has (done ++ l ∷ []) rest (omega (arith, longer, few))
          (subst (λ us. LinesFit x us (map coming_of rest)) (sym (map-append coming_of done (l ∷ []))) fit.1)
          (numbers_more 1 done l numbers more.0)
          (subst (λ n. AreNumberedFrom n rest)
          (let next : 1 + length done + 1 ≡ 1 + length (done ++ l ∷ []) = omega (arith, longer) in next) more.1)
          small.1,
    )

read_on : (x : Exchange) (before : List (List ℕ)) (done rest : List Line) → IsBehind before done
    → length before ≡ length done → LinesFit x (map coming_of done) (map coming_of rest) → AreNumberedFrom 1 done
    → AreNumberedFrom (1 + length done) rest
    → AllByRecursion (IsReady x) rest → lines_behind x before (map (line_words x) rest) ≡ Ok rest
unfolding lines_behind
read_on x before done [] b same fit numbers more ready = refl
read_on x before done (l ∷ rest) b same fit numbers more ready =
    let text : List ℕ = line_words x l in
    let at : Before = before_of before in
    let is = before_is before in
    let longer : length (done ++ l ∷ []) ≡ length done + 1 = length-append done (l ∷ []) in
    let longer_text : length (before ++ text ∷ []) ≡ length before + 1 = length-append before (text ∷ []) in
    let origins : at.origins ≡ map (λ (k : Line). gives k.kind) done = ap (λ (k : Before). k.origins) is ∙ b.origins in
    let many : length (map (λ (k : Line). gives k.kind) done) ≡ length done = as_many done in
    let own = more.0 in
    let number : next_number at ≡ l.number = ap (λ os. length os + 1) origins
    ∙ (let counted : length (map (λ (k : Line). gives k.kind) done) + 1
    ≡ l.number = omega (arith, many, own) in counted) in
    let last : at.last ≡ last_count before = ap (λ (k : Before). k.last) is in
    let least = b.last l.after (lines_of_coming (λ e. e.after ≤ l.after) done fit.0.after) in
    let here : added x at text ≡ Ok (Some l) = added_is x at l ready.0 number (omega (arith, last, least))
    (origin_there at done l.kind origins numbers fit.0.origin) in
    let later : lines_behind x (before ++ text ∷ []) (map (line_words x) rest) ≡ Ok rest =
    read_on x (before ++ text ∷ []) (done ++ l ∷ []) rest (behind_more x before done l ready.0 b)
    (omega (arith, longer, longer_text, same))
    (subst (λ us. LinesFit x us (map coming_of rest)) (sym (map-append coming_of done (l ∷ []))) fit.1)
    (numbers_more 1 done l numbers more.0) (subst (λ n. AreNumberedFrom n rest)
    (let next : 1 + length done + 1 ≡ 1 + length (done ++ l ∷ []) = omega (arith, longer) in next) more.1) ready.1
    in
    ap (λ a. and_then a (λ first. and_then (lines_behind x (before ++ text ∷ []) (map (line_words x) rest)) (λ ls. Ok (cons_option first ls)))) here
    ∙ ap (λ a. and_then a (λ ls. Ok (l ∷ ls))) later
  where
    as_many : (ls : List Line) → length (map (λ (k : Line). gives k.kind) ls) ≡ length ls
    as_many [] = refl
    as_many (k ∷ ls) = ap suc (as_many ls)

pub written_read : (x : Exchange) (ls : List Line) → IsExchange x → HasWords x → LinesFit x [] (map coming_of ls)
    → AreNumberedFrom 1 ls → AllByRecursion (λ (l : Line). l.after < 2 ^ 32) ls → length ls < 2 ^ 32
    → signal_lines x (written_out x ls) ≡ Ok ls
written_read x ls kept has fit numbers small few =
    let ready = all_ready x kept has [] ls (omega (arith, few)) fit tt numbers small in
    ap (lines_behind x []) (lines_are x ls ready) ∙ read_on x [] [] ls behind_begin refl fit tt numbers ready
