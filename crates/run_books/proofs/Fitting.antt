-- The lines of a signal file fit an exchange.
use Rattle.std.proofs.Common.{◌≡◌, ℕ, zero, suc, ◌+◌, ◌-◌, ◌<◌, ◌≤◌, ◌^◌, ◌&&◌, ◌⊎◌, inl, inr, Bool}
use Rattle.std.proofs.Common.{true, false, nat_eq, List, [], ◌∷◌, ◌++◌, length, map, get_or}
use Rattle.std.proofs.Common.{position, slice_get, Option, Some, None, Ok, refl, sym, ap, subst}
use Rattle.std.proofs.Common.{◌∙◌, arith, length-append}
use Rattle.std.specs.Prelude.{◌==◌, if◌then◌else◌, nat_le, nat_lt, codes}
use Rattle.std.specs.List.{AllByRecursion, cons_option, slice_split}
use Rattle.std.specs.Option.{option_map_or}
use Rattle.std.specs.Str.{bytes_eq}
use Rattle.std.specs.Str.Lines.{lines, lines_of_parts}
use Rattle.std.proofs.lemmas.Bool.{and_parts, eqb-true, ltb-true}
use Rattle.std.proofs.lemmas.List.{length-map, map-append}
use Rattle.std.proofs.lemmas.List.Quantifiers.{position-Some}
use Rattle.std.proofs.lemmas.List.Splits.{length-slice_split}
use Rattle.std.proofs.lemmas.List.Sums.{count_by-le-length, fold-append}
use Rattle.std.proofs.lemmas.Option.{none-some, same_Some, slice_get-get_or}
use Rattle.plex_num.proofs.Lists.{all_append, slice_get-append_seam, got_more, all_weaker}
use Rattle.plex_num.specs.Number.{below_2_32, digits_from, number_of}
use Rattle.exchange_model.specs.declared.exchange.Exchange.{Exchange}
use Rattle.exchange_model.specs.declared.entry.Entry.{Entry}
use Rattle.exchange_model.specs.declared.signal.SignalKind.{SignalKind}
use Rattle.exchange_model.specs.declared.signal.SignalKind.TheVariants.{Answer, Buffered, Combined}
use Rattle.exchange_model.specs.declared.signal.SignalKind.TheVariants.{Direct, Outside}
use Rattle.exchange_model.specs.Index.{is_entry}
use Rattle.exchange_model.specs.Kept.{signal_count}
use Rattle.signal_file.specs.declared.before.Before.{Before}
use Rattle.signal_file.specs.declared.directory.Signal.{Signal}
use Rattle.signal_file.specs.declared.line.Line.{Line}
use Rattle.signal_file.specs.declared.line.LineKind.{LineKind}
use Rattle.signal_file.specs.declared.line.LineKind.TheVariants.{Bare, Fresh, Same}
use Rattle.signal_file.specs.Form.{Closing, Saying, closing, end_or_value, ending, one_more}
use Rattle.signal_file.specs.Form.{said_in, with}
use Rattle.text_lines.specs.Words.{is_skipped, words}
use Rattle.signal_file.specs.Lines.{lines_behind, signal_lines}
use Rattle.signal_file.specs.Rules.{added, and_then, before_of, count_or, entry_of, gives}
use Rattle.signal_file.specs.Rules.{gives_forlopp, has_origin, if_buffered, is_origin, is_true}
use Rattle.signal_file.specs.Rules.{last_count, next_number, says, signal_of}
use Rattle.exchange_model.specs.Names.{names_of_blocks, names_of_signals}
use Rattle.signal_file.proofs.Behind.{ok_first}
use Rattle.signal_file.proofs.Meant.{Adds, IsMeant, adds}
use Rattle.source_meaning.specs.State.{Coming}
use Rattle.source_meaning.specs.Valid.{HasOrigin, IsWord, LineFits, LinesFit, NamesEarlier}
use Rattle.source_meaning.specs.Valid.{entry_count}
use Rattle.run_books.specs.Lines.{coming_of, origin_of}

-- ---- values are words

pub below : (m : ℕ) (b : Bool) (k n : ℕ) → nat_lt k m ≡ b → (if b then Some k else None) ≡ Some n → n < m
below m true k n lt e = let same : k ≡ n = cc in let under = ltb-true k m lt in omega (arith, same, under)
below m false k n lt e = absurd (cc)

small : (o : Option ℕ) (n : ℕ) → below_2_32 o ≡ Some n → IsWord n
small None n e = absurd (cc)
small (Some k) n e = below (2 ^ 32) (nat_lt k (2 ^ 32)) k n refl e

tested : (b : Bool) (o : Option ℕ) (n : ℕ) → (if b then below_2_32 o else None) ≡ Some n → IsWord n
tested true o n e = small o n e
tested false o n e = absurd (cc)

number_word : (text : List ℕ) (n : ℕ) → number_of text ≡ Some n → IsWord n
unfolding number_of
number_word text n e = tested (nat_lt 0 (length text) && nat_le (length text) 10) (digits_from 0 text) n e

value_more : (o : Option LineKind) (v : Option ℕ) (r : Option Closing) (c : Closing) → ((n : ℕ) → v ≡ Some n → IsWord n)
    → ((t : Closing) → r ≡ Some t → AllByRecursion IsWord t.values) → end_or_value o v r ≡ Some c
    → AllByRecursion IsWord c.values
value_more (Some kind) v r c here later e = let same : record { values = []; kind = kind }
    ≡ c = same_Some _ c e in subst (λ (q : Closing). AllByRecursion IsWord q.values) same tt
value_more None None r c here later e = absurd (cc)
value_more None (Some v) None c here later e = absurd (cc)
value_more None (Some v) (Some t) c here later e = subst (λ (q : Closing). AllByRecursion IsWord q.values)
    (same_Some (one_more v t) c e) (here v refl, later t refl)

pub closing_words : (ws : List (List ℕ)) (c : Closing) → closing ws ≡ Some c → AllByRecursion IsWord c.values
unfolding closing
closing_words [] c e = absurd (cc)
closing_words (w ∷ rest) c e = value_more (ending (w ∷ rest)) (number_of w) (closing rest) c (λ n is. number_word w n is) (λ t is. closing_words rest t is) e

said_values : (b : Bool) (o : Option ℕ) (signal block : List ℕ) (r : Option Closing) (s : Saying)
    → ((t : Closing) → r ≡ Some t → AllByRecursion IsWord t.values)
    → (if b then with o (λ n. with r (λ t. Some
    (record { after = n; signal = signal; block = block; values = t.values; kind = t.kind }))) else None) ≡ Some s
    → AllByRecursion IsWord s.values
said_values false o signal block r s all e = absurd (cc)
said_values true None signal block r s all e = absurd (cc)
said_values true (Some n) signal block None s all e = absurd (cc)
said_values true (Some n) signal block (Some t) s all e = subst (λ (q : Saying). AllByRecursion IsWord q.values) (same_Some _ s e) (all t refl)

said_words : (ws : List (List ℕ)) (s : Saying) → said_in ws ≡ Some s → AllByRecursion IsWord s.values
unfolding said_in
said_words [] s e = absurd (cc)
said_words (a ∷ []) s e = absurd (cc)
said_words (a ∷ b ∷ []) s e = absurd (cc)
said_words (a ∷ b ∷ c ∷ []) s e = absurd (cc)
said_words (first ∷ count ∷ signal ∷ block ∷ rest) s e = said_values (bytes_eq first (codes "AFTER")) (number_of count)
    signal block (closing rest) s (λ t is. closing_words rest t is) e

unskipped_words : (b : Bool) (ws : List (List ℕ)) (s : Saying) → (if b then None else said_in ws) ≡ Some s → AllByRecursion IsWord s.values
unskipped_words true ws s e = absurd (cc)
unskipped_words false ws s e = said_words ws s e

line_words : (line : List ℕ) (s : Saying) → says line ≡ Some s → AllByRecursion IsWord s.values
line_words line s e = unskipped_words (is_skipped line) (words line) s e

-- ---- the entry of a signal

found : (p : Entry → Bool) (es : List Entry) (i : ℕ) → position p es ≡ Some i → (e : Entry) × (i < length es) × (slice_get es i ≡ Some e) × (p e ≡ true)
found p [] i is = absurd (cc)
found p (d ∷ es) i is = let at = position-Some p (d ∷ es) i d is in (get_or (d ∷ es) i d, at.0, slice_get-get_or (d ∷ es) i d at.0, at.1)

-- what is looked for with what there is
pub went : {A B : Type 0} (o : Option A) (go : A → Option B) (b : B) → with o go ≡ Some b → (a : A) × (go a ≡ Some b)
went None go b is = absurd (cc)
went (Some a) go b is = (a, is)

buffered : (number : ℕ) (o : Option SignalKind) (signal : Signal) → if_buffered number o ≡ Some signal
    → (number ≡ signal.number) × (option_map_or signal_count o 0 ≡ signal.count)
buffered number None signal e = absurd (cc)
buffered number (Some (Buffered name level count)) signal e = let same : record { number = number; count = count }
    ≡ signal = same_Some _ signal e in (ap (λ (q : Signal). q.number) same, ap (λ (q : Signal). q.count) same)
buffered number (Some (Direct name count)) signal e = absurd (cc)
buffered number (Some (Combined name count answer)) signal e = absurd (cc)
buffered number (Some (Answer name count combined)) signal e = absurd (cc)
buffered number (Some (Outside name count)) signal e = absurd (cc)

signal_counted : (x : Exchange) (name : List ℕ) (signal : Signal) → signal_of x name ≡ Some signal
    → option_map_or signal_count (slice_get x.signals signal.number) 0 ≡ signal.count
signal_counted x name signal is =
    let at = went (position (bytes_eq name) (names_of_signals x.signals)) (λ number. if_buffered number (slice_get x.signals number)) signal is in
    let here = buffered at.0 (slice_get x.signals at.0) signal at.1 in
    ap (λ n. option_map_or signal_count (slice_get x.signals n) 0) (sym here.0) ∙ here.1

pub entry_there : (x : Exchange) (signal : Signal) (name block : List ℕ) (entry : ℕ) → signal_of x name ≡ Some signal
    → entry_of x signal.number block ≡ Some entry → (entry < length x.entries) × (entry_count x entry ≡ signal.count)
entry_there x signal name block entry is at =
    let in_block = went (position (bytes_eq block) (names_of_blocks x.blocks)) (λ b. position (is_entry b signal.number) x.entries) entry at in
    let there = found (is_entry in_block.0 signal.number) x.entries entry in_block.1 in
    let e : Entry = there.0 in
    let parts = and_parts (nat_eq e.block in_block.0) (nat_eq e.signal signal.number) there.3 in
    let same : e.signal ≡ signal.number = eqb-true e.signal signal.number parts.1 in (
      there.1,
      ap (λ o. option_map_or (λ (q : Entry). option_map_or signal_count (slice_get x.signals q.signal) 0) o 0) there.2
          ∙ ap (λ n. option_map_or signal_count (slice_get x.signals n) 0) same ∙ signal_counted x name signal is,
    )

-- ---- what a signal line means

-- the line that a line says, behind those before
record IsPlaced (x : Exchange) (b : Before) (s : Saying) (l : Line) : Type 0 where
  pub number : l.number ≡ next_number b
  pub after : l.after ≡ s.after
  pub kind : l.kind ≡ s.kind
  pub no_less : b.last ≤ s.after
  pub origin : has_origin b s.kind ≡ true
  pub entry : l.entry < length x.entries
  pub values : l.values ≡ s.values
  pub many : length l.values ≡ entry_count x l.entry

placed : (x : Exchange) (b : Before) (s : Saying) (l : Line) → IsMeant x b s l → IsPlaced x b s l
placed x b s l m =
    let there = entry_there x m.signal s.signal s.block m.entry m.named m.received in
    subst (IsPlaced x b s) m.same (record {
      number = refl;
      after = refl;
      kind = refl;
      no_less = m.no_less;
      origin = m.origin;
      entry = there.0;
      values = refl;
      many = m.as_many ∙ sym there.1;
    })

-- ---- what counts of the lines before

pub counts_more : (before : List (List ℕ)) (line : List ℕ) → last_count (before ++ line ∷ []) ≡ count_or (last_count before) (says line)
unfolding last_count
counts_more before line = fold-append (λ n l. count_or n (says l)) 0 before (line ∷ [])

pub before_is : (before : List (List ℕ)) → before_of before ≡ record { last = last_count before; origins = map is_origin before }
unfolding before_of
before_is before = refl

before_or_last : (xs : List Bool) (y : Bool) (i : ℕ) → slice_get (xs ++ y ∷ []) i ≡ Some true → (slice_get xs i ≡ Some true) ⊎ ((i ≡ length xs) × (y ≡ true))
before_or_last [] y zero is = inr (refl, same_Some y true is)
before_or_last [] y (suc i) is = absurd (none-some true is)
before_or_last (x ∷ xs) y zero is = inl is
before_or_last (x ∷ xs) y (suc i) is = further (before_or_last xs y i is)
  where
    further : (slice_get xs i ≡ Some true) ⊎ ((i ≡ length xs) × (y ≡ true)) → (slice_get xs i ≡ Some true) ⊎ ((suc i ≡ suc (length xs)) × (y ≡ true))
    further (inl there) = inl there
    further (inr last) = inr (ap suc last.0, last.1)

-- one of these lines, of this number, has a forlopp to give
abbrev HasGiver : List Line → ℕ → Type 0
HasGiver done number = (j : ℕ) × (l : Line) × (slice_get done j ≡ Some l) × (l.number ≡ number) × (gives l.kind ≡ true)

-- these are the signal lines of the lines before
record Tells (before : List (List ℕ)) (done : List Line) : Type 0 where
  pub numbers : AllByRecursion (λ (l : Line). l.number ≤ length before) done
  pub counts : AllByRecursion (λ (l : Line). l.after ≤ last_count before) done
  pub origins : (i : ℕ) → slice_get (map is_origin before) i ≡ Some true → HasGiver done (i + 1)

giver_more : (done more : List Line) (number : ℕ) → HasGiver done number → HasGiver (done ++ more) number
giver_more done more number g = (g.0, g.1, got_more done more g.0 g.1 g.2, g.3, g.4)

tells_begin : Tells [] []
tells_begin = record { numbers = tt; counts = tt; origins = λ i is. absurd (none-some true is) }

origin_more : (before : List (List ℕ)) (line : List ℕ) (i : ℕ)
    → slice_get (map is_origin (before ++ line ∷ [])) i ≡ Some true
    → (slice_get (map is_origin before) i ≡ Some true) ⊎ ((i ≡ length before) × (is_origin line ≡ true))
origin_more before line i is = counted (before_or_last (map is_origin before) (is_origin line) i
    (sym (ap (λ bs. slice_get bs i) (map-append is_origin before (line ∷ []))) ∙ is))
  where
    counted : (slice_get (map is_origin before) i ≡ Some true)
        ⊎ ((i ≡ length (map is_origin before)) × (is_origin line ≡ true))
        → (slice_get (map is_origin before) i ≡ Some true) ⊎ ((i ≡ length before) × (is_origin line ≡ true))
    counted (inl there) = inl there
    counted (inr last) = inr (last.0 ∙ length-map before is_origin, last.1)

tells_skip : (before : List (List ℕ)) (line : List ℕ) (done : List Line) → says line ≡ None → Tells before done → Tells (before ++ line ∷ []) done
tells_skip before line done none t =
    let longer : length (before ++ line ∷ []) ≡ length before + 1 = length-append before (line ∷ []) in
    let same : last_count (before ++ line ∷ []) ≡ last_count before = counts_more before line ∙ ap (count_or (last_count before)) none in
    record {
      numbers = all_weaker (λ (l : Line). l.number ≤ length before)
          (λ (l : Line). l.number ≤ length (before ++ line ∷ [])) done (λ l le. omega (arith, le, longer)) t.numbers;
      counts = all_weaker (λ (l : Line). l.after ≤ last_count before)
          (λ (l : Line). l.after ≤ last_count (before ++ line ∷ [])) done (λ l le. omega (arith, le, same)) t.counts;
      origins = λ i is. still i (origin_more before line i is);
    }
  where
    still : (i : ℕ) → (slice_get (map is_origin before) i ≡ Some true) ⊎ ((i ≡ length before) × (is_origin line ≡ true)) → HasGiver done (i + 1)
    still i (inl there) = t.origins i there
    still i (inr last) = let no : gives_forlopp None ≡ true = ap gives_forlopp (sym none) ∙ last.1 in absurd (cc)

tells_more : (before : List (List ℕ)) (line : List ℕ) (done : List Line) (s : Saying) (l : Line) → says line ≡ Some s
    → l.number ≡ length before + 1 → l.after ≡ s.after → l.kind ≡ s.kind → last_count before ≤ s.after
    → Tells before done → Tells (before ++ line ∷ []) (done ++ l ∷ [])
tells_more before line done s l is number after kind up t =
    let longer : length (before ++ line ∷ []) ≡ length before + 1 = length-append before (line ∷ []) in
    let counted : last_count (before ++ line ∷ []) ≡ s.after = counts_more before line ∙ ap (count_or (last_count before)) is in
    record {
      numbers = all_append (λ (k : Line). k.number ≤ length (before ++ line ∷ [])) done (l ∷ [])
          (all_weaker (λ (k : Line). k.number ≤ length before) (λ (k : Line). k.number ≤ length (before ++ line ∷ []))
          done (λ k le. omega (arith, le, longer)) t.numbers)
          (omega (arith, number, longer), tt);
      counts = all_append (λ (k : Line). k.after ≤ last_count (before ++ line ∷ [])) done (l ∷ [])
          (all_weaker (λ (k : Line). k.after ≤ last_count before)
          (λ (k : Line). k.after ≤ last_count (before ++ line ∷ [])) done (λ k le. omega (arith, le, up, counted))
          t.counts)
          (omega (arith, after, counted), tt);
      origins = λ i was. still i (origin_more before line i was);
    }
  where
    still : (i : ℕ) → (slice_get (map is_origin before) i ≡ Some true) ⊎ ((i ≡ length before) × (is_origin line ≡ true)) → HasGiver (done ++ l ∷ []) (i + 1)
    still i (inl there) = giver_more done (l ∷ []) (i + 1) (t.origins i there)
    still i (inr last) = (length done, l, slice_get-append_seam done l [], omega (arith, number, last.0), ap gives kind ∙ ap gives_forlopp (sym is) ∙ last.1)

-- ---- a line fits behind those before

pub all_coming : (P : Coming → Type 0) (ls : List Line) → AllByRecursion (λ (l : Line). P (coming_of l)) ls → AllByRecursion P (map coming_of ls)
all_coming P [] all = tt
all_coming P (l ∷ ls) all = (all.0, all_coming P ls all.1)

pub got_coming : (ls : List Line) (j : ℕ) (l : Line) → slice_get ls j ≡ Some l → slice_get (map coming_of ls) j ≡ Some (coming_of l)
got_coming [] j l is = absurd (none-some l is)
got_coming (k ∷ ls) zero l is = ap (λ (q : Line). Some (coming_of q)) (same_Some k l is)
got_coming (k ∷ ls) (suc j) l is = got_coming ls j l is

giver_origin : (kind : LineKind) → gives kind ≡ true → HasOrigin (origin_of kind)
giver_origin Fresh is = tt
giver_origin Bare is = absurd (cc)
giver_origin (Same line) is = tt

true_some : (o : Option Bool) → is_true o ≡ true → o ≡ Some true
true_some None is = absurd (cc)
true_some (Some b) is = ap Some is

-- the line after AS is one before
named : (t : Bool) (line : ℕ) (bs : List Bool) → nat_eq line 0 ≡ t
    → (if t then false else is_true (slice_get bs (line - 1))) ≡ true
    → (i : ℕ) × (line ≡ i + 1) × (slice_get bs i ≡ Some true)
named true line bs e is = absurd (cc)
named false zero bs e is = absurd (cc)
named false (suc i) bs e is =
    let less : suc i - 1 ≡ i = omega arith in
    (i, omega arith, true_some (slice_get bs i) (ap (λ n. is_true (slice_get bs n)) (sym less) ∙ is))

names_earlier : (before : List (List ℕ)) (done : List Line) (kind : LineKind) → Tells before done
    → has_origin (before_of before) kind ≡ true → NamesEarlier (map coming_of done) (origin_of kind)
names_earlier before done Fresh t is = tt
names_earlier before done Bare t is = tt
names_earlier before done (Same line) t is =
    let own : has_origin (record { last = last_count before; origins = map is_origin before }) (Same line)
    ≡ true = ap (λ (b : Before). has_origin b (Same line)) (sym (before_is before)) ∙ is in
    let at = named (nat_eq line 0) line (map is_origin before) refl own in
    let giver = t.origins at.0 at.2 in
    (coming_of giver.1, (giver.0, got_coming done giver.0 giver.1 giver.2), giver.3 ∙ sym at.1, giver_origin giver.1.kind giver.4)

line_fits : (x : Exchange) (before : List (List ℕ)) (line : List ℕ) (done : List Line) (s : Saying) (l : Line)
    → Tells before done → says line ≡ Some s → IsPlaced x (before_of before) s l
    → LineFits x (map coming_of done) (coming_of l)
line_fits x before line done s l t is m =
    let b = before_is before in
    let number : l.number ≡ length before + 1 = m.number ∙ ap next_number b ∙ ap (λ n. n + 1) (length-map before is_origin) in
    let no_less : last_count before ≤ s.after = subst (λ (k : Before). k.last ≤ s.after) b m.no_less in
    record {
      number = all_coming (λ (e : Coming). e.number < l.number) done
          (all_weaker (λ (k : Line). k.number ≤ length before) (λ (k : Line). k.number < l.number) done
          (λ k le. omega (arith, le, number)) t.numbers);
      after = all_coming (λ (e : Coming). e.after ≤ l.after) done
          (all_weaker (λ (k : Line). k.after ≤ last_count before) (λ (k : Line). k.after ≤ l.after) done
          (λ k le. omega (arith, le, no_less, m.after)) t.counts);
      entry = m.entry;
      values = m.many;
      words = subst (AllByRecursion IsWord) (sym m.values) (line_words line s is);
      origin = subst (λ (k : LineKind). NamesEarlier (map coming_of done) (origin_of k)) (sym m.kind) (names_earlier before done s.kind t m.origin);
    }

-- ---- all lines

-- from a line on
fits_from : (x : Exchange) (before : List (List ℕ)) (line : List ℕ) (done : List Line) (o : Option Saying)
    (first : Option Line) (ls : List Line) → says line ≡ o → Adds x (before_of before) o first → Tells before done
    → ((more : List Line) → Tells (before ++ line ∷ []) more → LinesFit x (map coming_of more) (map coming_of ls))
    → LinesFit x (map coming_of done) (map coming_of (cons_option first ls))
fits_from x before line done None first ls is none t later =
    subst (λ (q : Option Line). LinesFit x (map coming_of done) (map coming_of (cons_option q ls))) (sym none) (later done (tells_skip before line done is t))
fits_from x before line done (Some s) first ls is adds t later =
    let l : Line = adds.0 in
    let m = placed x (before_of before) s l adds.2 in
    let b = before_is before in
    let number : l.number ≡ length before + 1 = m.number ∙ ap next_number b ∙ ap (λ n. n + 1) (length-map before is_origin) in
    let no_less : last_count before ≤ s.after = subst (λ (k : Before). k.last ≤ s.after) b m.no_less in
    subst (λ (q : Option Line). LinesFit x (map coming_of done) (map coming_of (cons_option q ls))) (sym adds.1) (
      line_fits x before line done s l t is m,
      subst (λ us. LinesFit x us (map coming_of ls)) (map-append coming_of done (l ∷ []))
          (later (done ++ l ∷ []) (tells_more before line done s l is number m.after m.kind no_less t)),
    )

lines_fit : (x : Exchange) (before : List (List ℕ)) (done : List Line) (rest : List (List ℕ)) (list : List Line)
    → Tells before done → lines_behind x before rest ≡ Ok list → LinesFit x (map coming_of done) (map coming_of list)
unfolding lines_behind
lines_fit x before done [] list t e = let same : [] ≡ list = cc in subst (λ ls. LinesFit x (map coming_of done) (map coming_of ls)) same tt
lines_fit x before done (line ∷ rest) list t e =
    let here = ok_first (added x (before_of before) line)
    (λ first. and_then (lines_behind x (before ++ line ∷ []) rest) (λ ls. Ok (cons_option first ls))) list e in
    let more = ok_first (lines_behind x (before ++ line ∷ []) rest) (λ ls. Ok (cons_option here.0 ls)) list here.2 in
    let told_all : Ok (cons_option here.0 more.0) ≡ Ok list = more.2 in
    let same : cons_option here.0 more.0 ≡ list = cc in
    subst (λ ls. LinesFit x (map coming_of done) (map coming_of ls)) same
    (fits_from x before line done (says line) here.0 more.0 refl (adds x (before_of before) line here.0 here.1) t
    (λ further tells. lines_fit x (before ++ line ∷ []) further rest more.0 tells more.1))

pub signal_lines_fit : (x : Exchange) (text : List ℕ) (list : List Line) → signal_lines x text ≡ Ok list → LinesFit x [] (map coming_of list)
signal_lines_fit x text list e = lines_fit x [] [] (lines text) list tells_begin e

-- ---- there are no more lines than bytes, and one

parts_few : (ps : List (List ℕ)) → length (lines_of_parts ps) ≤ length ps
parts_few [] = omega arith
parts_few (p ∷ []) = at (nat_eq (length p) 0)
  where
    at : (b : Bool) → length (if b then [] else p ∷ []) ≤ length (p ∷ [])
    at true = omega arith
    at false = omega arith
parts_few (p ∷ q ∷ more) = let rest = parts_few (q ∷ more) in omega (arith, rest)

added_few : (first : Option Line) (ls : List Line) (n : ℕ) → length ls ≤ n → length (cons_option first ls) ≤ suc n
added_few None ls n few = omega (arith, few)
added_few (Some l) ls n few = omega (arith, few)

lines_few : (x : Exchange) (before rest : List (List ℕ)) (list : List Line) → lines_behind x before rest ≡ Ok list → length list ≤ length rest
unfolding lines_behind
lines_few x before [] list e = let same : [] ≡ list = cc in omega (arith, ap length same)
lines_few x before (line ∷ rest) list e =
    let here = ok_first (added x (before_of before) line)
    (λ first. and_then (lines_behind x (before ++ line ∷ []) rest) (λ ls. Ok (cons_option first ls))) list e in
    let more = ok_first (lines_behind x (before ++ line ∷ []) rest) (λ ls. Ok (cons_option here.0 ls)) list here.2 in
    let told_all : Ok (cons_option here.0 more.0) ≡ Ok list = more.2 in
    let same : cons_option here.0 more.0 ≡ list = cc in
    subst (λ (ls : List Line). length ls ≤ suc (length rest)) same
    (added_few here.0 more.0 (length rest) (lines_few x (before ++ line ∷ []) rest more.0 more.1))

pub signal_lines_few : (x : Exchange) (text : List ℕ) (list : List Line) → length text ≤ 2 ^ 24 → signal_lines x text ≡ Ok list → length list < 2 ^ 32
signal_lines_few x text list short e =
    let is_end = λ (b : ℕ). b == 10 in
    let few = lines_few x [] (lines text) list e in
    let parts = parts_few (slice_split is_end text) in
    let split = length-slice_split is_end text in
    let ends = count_by-le-length is_end text in
    omega (arith, short, few, parts, split, ends)
