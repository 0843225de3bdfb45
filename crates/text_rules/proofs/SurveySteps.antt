-- Steps of the loops over surveys.
use Rattle.std.proofs.Common.{◌≡◌, ℕ, ◌+◌, ◌<◌, ◌≤◌, Bool, true, false, cond, not, ◌||◌, ◌&&◌, List}
use Rattle.std.proofs.Common.{[], ◌∷◌, ◌++◌, length, take, get_or, Option, Some, None, refl, sym}
use Rattle.std.proofs.Common.{◌∙◌, ap, arith, suc, zero}
use Rattle.std.specs.Prelude.{if◌then◌else◌, nat_eq}
use Rattle.std.specs.Str.{bytes_eq}
use Rattle.std.proofs.lemmas.List.{take_all, length-take-le}
use Rattle.std.proofs.lemmas.Option.{slice_get_past}
use Rattle.first_fault.specs.First.{any, count, or_else}
use Rattle.first_fault.proofs.First.{more_events, any_push, count_push}
pub use Rattle.signal_types.proofs.Found.{note_kept, note_new}
use Rattle.signal_types.proofs.Found.{or_none, position_push}
use Rattle.std.proofs.lemmas.Cmp.{nat_eq_equiv}
use Rattle.plex_ast.specs.declared.block.Block.{Block}
use Rattle.plex_ast.specs.declared.block.Survey.{Survey}
use Rattle.text_rules.specs.Surveys.{line_receives, receives, has_name, block_named, first_receiver}
use Rattle.text_rules.specs.Surveys.{receiver_count, receives_at, is_so}
use Rattle.text_rules.specs.declared.surveys.Receiving.{Receiving}
use Rattle.text_rules.specs.declared.surveys.Received.{Received}
use Rattle.text_rules.specs.Received.{count_of, first_of, chosen, has_pair, counted_in, first_in}
use Rattle.plex_num.proofs.Names.{same_bytes}

-- what a map finds after one insertion: `found` before, `now` then

module _ (found now : List ℕ → Option Receiving) (k : List ℕ) (x : Receiving) (each : (s : List ℕ) → now s ≡ cond (bytes_eq k s) (Some x) (found s)) where
  pub count_again : (y : Receiving) (n : ℕ) → Some y ≡ found k → n ≡ y.count + 1 → x.count ≡ n → (s : List ℕ)
      → count_of (now s) ≡ count_of (found s) + (if bytes_eq k s then 1 else 0)
  count_again y n there one is s = ap count_of (each s) ∙ by (bytes_eq k s) refl
    where
      by : (b : Bool) → bytes_eq k s ≡ b → count_of (cond b (Some x) (found s)) ≡ count_of (found s) + (if b then 1 else 0)
      by true e = is ∙ one ∙ ap (λ o. count_of o + 1) (there ∙ ap found (same_bytes k s e))
      by false e = omega arith

  pub count_new : None ≡ found k → x.count ≡ 1 → (s : List ℕ) → count_of (now s) ≡ count_of (found s) + (if bytes_eq k s then 1 else 0)
  count_new none is s = ap count_of (each s) ∙ by (bytes_eq k s) refl
    where
      by : (b : Bool) → bytes_eq k s ≡ b → count_of (cond b (Some x) (found s)) ≡ count_of (found s) + (if b then 1 else 0)
      by true e = is ∙ ap (λ o. count_of o + 1) (none ∙ ap found (same_bytes k s e))
      by false e = omega arith

  pub first_again : (y : Receiving) (block : ℕ) → Some y ≡ found k → x.first ≡ y.first → (s : List ℕ)
      → first_of (now s) ≡ or_else (first_of (found s)) (chosen (bytes_eq k s) block)
  first_again y block there is s = ap first_of (each s) ∙ by (bytes_eq k s) refl
    where
      by : (b : Bool) → bytes_eq k s ≡ b → first_of (cond b (Some x) (found s)) ≡ or_else (first_of (found s)) (chosen b block)
      by true e = ap Some is ∙ ap (λ o. or_else (first_of o) (Some block)) (there ∙ ap found (same_bytes k s e))
      by false e = or_none (first_of (found s))

  pub first_new : (block : ℕ) → None ≡ found k → x.first ≡ block → (s : List ℕ) → first_of (now s) ≡ or_else (first_of (found s)) (chosen (bytes_eq k s) block)
  first_new block none is s = ap first_of (each s) ∙ by (bytes_eq k s) refl
    where
      by : (b : Bool) → bytes_eq k s ≡ b → first_of (cond b (Some x) (found s)) ≡ or_else (first_of (found s)) (chosen b block)
      by true e = ap Some is ∙ ap (λ o. or_else (first_of o) (Some block)) (none ∙ ap found (same_bytes k s e))
      by false e = or_none (first_of (found s))

-- one pair more

pub pair_more : (a b : ℕ) (e o : Bool) → cond (nat_eq a b && e) true o ≡ (o || (nat_eq b a && e))
pair_more a b e o = ap (λ n. cond (n && e) true o) (nat_eq_equiv.symm a b) ∙ either (nat_eq b a && e) o
  where
    either : (x o : Bool) → cond x true o ≡ (o || x)
    either true true = refl
    either true false = refl
    either false true = refl
    either false false = refl

-- the signals of the first lines of a block's survey, of which it received none before

both_chosen : (o : Option ℕ) (s t : Bool) (b : ℕ) → or_else (or_else o (chosen s b)) (chosen (t && not s) b) ≡ or_else o (chosen (s || t) b)
both_chosen (Some x) s t b = refl
both_chosen None true t b = refl
both_chosen None false true b = refl
both_chosen None false false b = refl

both_counted : (n : ℕ) (s t : Bool) → n + (if s then 1 else 0) + (if t && not s then 1 else 0) ≡ n + (if s || t then 1 else 0)
both_counted n true true = omega arith
both_counted n true false = omega arith
both_counted n false true = omega arith
both_counted n false false = omega arith

both_paired : (f b s t : Bool) → ((f || (b && s)) || (b && t)) ≡ (f || (b && (s || t)))
both_paired f b s t = grind arith

pub nothing_paired : (a b : Bool) → a ≡ (a || (b && false))
nothing_paired a b = grind arith

eq_self : (n : ℕ) → nat_eq n n ≡ true
eq_self n = grind arith

-- what a table of received signals answers, at a block
pub record Answers : Type 0 where
  pub pair : ℕ → List ℕ → Bool
  pub counted : List ℕ → ℕ
  pub first : List ℕ → Option ℕ

abbrev pub answers_in : Received → Answers
answers_in r = record { pair = has_pair r; counted = counted_in r; first = first_in r }

module _ (lines : List Survey) (block : ℕ) (start : Answers) where
  abbrev on : ℕ → List ℕ → Bool
  on i s = any (line_receives s) (take i lines)

  pub record Lined (i : ℕ) (now : Answers) : Type 0 where
    pub pairs : (b : ℕ) (s : List ℕ) → now.pair b s ≡ (start.pair b s || (nat_eq b block && on i s))
    pub counts : (s : List ℕ) → now.counted s ≡ start.counted s + (if on i s then 1 else 0)
    pub firsts : (s : List ℕ) → now.first s ≡ or_else (start.first s) (chosen (on i s) block)

  pub lines_begin : Lined 0 start
  lines_begin = record { pairs = λ b s. nothing_paired (start.pair b s) (nat_eq b block); counts = λ s. omega arith; firsts = λ s. or_none (start.first s) }

  pub lines_step : (i : ℕ) (l : Survey) (now new : Answers) → i < length lines → l ≡ get_or lines i l →
      ((b : ℕ) (s : List ℕ) → new.pair b s ≡ (now.pair b s || (nat_eq b block && line_receives s l))) →
      ((s : List ℕ) → new.counted s ≡ now.counted s + (if line_receives s l && not (now.pair block s) then 1 else 0)) →
      ((s : List ℕ) → new.first s ≡ or_else (now.first s) (chosen (line_receives s l && not (now.pair block s)) block)) →
      ((s : List ℕ) → start.pair block s ≡ false) → Lined i now → Lined (i + 1) new
  lines_step i l now new inside is pair count first fresh w = record {
    pairs = λ b s. pair b s ∙ ap (λ a. a || (nat_eq b block && line_receives s l)) (w.pairs b s)
        ∙ both_paired (start.pair b s) (nat_eq b block) (on i s) (line_receives s l)
        ∙ ap (λ a. start.pair b s || (nat_eq b block && a)) (sym (more s));
    counts = λ s. count s ∙ ap (λ h. now.counted s + (if line_receives s l && not h then 1 else 0)) (own s)
        ∙ ap (λ n. n + (if line_receives s l && not (on i s) then 1 else 0)) (w.counts s)
        ∙ both_counted (start.counted s) (on i s) (line_receives s l) ∙ ap (λ a. start.counted s + (if a then 1 else 0)) (sym (more s));
    firsts = λ s. first s ∙ ap (λ h. or_else (now.first s) (chosen (line_receives s l && not h) block)) (own s)
        ∙ ap (λ o. or_else o (chosen (line_receives s l && not (on i s)) block)) (w.firsts s)
        ∙ both_chosen (start.first s) (on i s) (line_receives s l) block ∙ ap (λ a. or_else (start.first s) (chosen a block)) (sym (more s));
  }
    where
      more : (s : List ℕ) → on (i + 1) s ≡ (on i s || line_receives s l)
      more s = ap (any (line_receives s)) (more_events lines i l inside is) ∙ any_push (line_receives s) (take i lines) l

      own : (s : List ℕ) → now.pair block s ≡ on i s
      own s = w.pairs block s ∙ ap (λ f. f || (nat_eq block block && on i s)) (fresh s) ∙ ap (λ e. false || (e && on i s)) (eq_self block)

  pub lines_pairs : (i : ℕ) (now : Answers) → length lines ≤ i → Lined i now → (b : ℕ) (s : List ℕ)
      → now.pair b s ≡ (start.pair b s || (nat_eq b block && any (line_receives s) lines))
  lines_pairs i now past w b s = w.pairs b s ∙ ap (λ l. start.pair b s || (nat_eq b block && any (line_receives s) l)) (take_all i lines past)

  pub lines_counts : (i : ℕ) (now : Answers) → length lines ≤ i → Lined i now → (s : List ℕ)
      → now.counted s ≡ start.counted s + (if any (line_receives s) lines then 1 else 0)
  lines_counts i now past w s = w.counts s ∙ ap (λ l. start.counted s + (if any (line_receives s) l then 1 else 0)) (take_all i lines past)

  pub lines_firsts : (i : ℕ) (now : Answers) → length lines ≤ i → Lined i now → (s : List ℕ)
      → now.first s ≡ or_else (start.first s) (chosen (any (line_receives s) lines) block)
  lines_firsts i now past w s = w.firsts s ∙ ap (λ l. or_else (start.first s) (chosen (any (line_receives s) l) block)) (take_all i lines past)

-- a line receives a signal, which may have stood on a line before

once : (has : List ℕ → Bool) (k s : List ℕ) → (bytes_eq k s && not (has k)) ≡ (bytes_eq k s && not (has s))
once has k s = by (bytes_eq k s) refl
  where
    by : (b : Bool) → bytes_eq k s ≡ b → (b && not (has k)) ≡ (b && not (has s))
    by true e = ap (λ n. not (has n)) (same_bytes k s e)
    by false e = refl

pub counted_once : (has : List ℕ → Bool) (k : List ℕ) (old new : List ℕ → ℕ)
    → ((s : List ℕ) → new s ≡ old s + (if bytes_eq k s && not (has k) then 1 else 0)) → (s : List ℕ)
    → new s ≡ old s + (if bytes_eq k s && not (has s) then 1 else 0)
counted_once has k old new e s = e s ∙ ap (λ b. old s + (if b then 1 else 0)) (once has k s)

pub first_once : (has : List ℕ → Bool) (k : List ℕ) (block : ℕ) (old new : List ℕ → Option ℕ)
    → ((s : List ℕ) → new s ≡ or_else (old s) (chosen (bytes_eq k s && not (has k)) block)) → (s : List ℕ)
    → new s ≡ or_else (old s) (chosen (bytes_eq k s && not (has s)) block)
first_once has k block old new e s = e s ∙ ap (λ b. or_else (old s) (chosen b block)) (once has k s)

-- all blocks

pub record Told (blocks : List Block) (i number : ℕ) (names : List ℕ → Option ℕ) (now : Answers) : Type 0 where
  pub at : number ≡ i
  pub named : (n : List ℕ) → names n ≡ block_named (take i blocks) n
  pub pairs : (b : ℕ) (s : List ℕ) → now.pair b s ≡ receives_at (take i blocks) b s
  pub counts : (s : List ℕ) → now.counted s ≡ receiver_count (take i blocks) s
  pub firsts : (s : List ℕ) → now.first s ≡ first_receiver (take i blocks) s

survey_push : (s : List ℕ) (blocks : List Block) (x : Block) (b : ℕ)
    → receives_at (blocks ++ x ∷ []) b s ≡ (receives_at blocks b s || (nat_eq b (length blocks) && receives s x))
survey_push s [] x zero = refl
survey_push s [] x (suc b) = grind arith
survey_push s (y ∷ ys) x zero = grind arith
survey_push s (y ∷ ys) x (suc b) = survey_push s ys x b ∙ ap (λ e. receives_at ys b s || (e && receives s x)) (same_after b (length ys))
  where
    same_after : (a b : ℕ) → nat_eq a b ≡ nat_eq (suc a) (suc b)
    same_after a b = grind arith

pub blocks_begin : (blocks : List Block) (names : List ℕ → Option ℕ) (now : Answers) → ((n : List ℕ) → names n ≡ None)
    → ((b : ℕ) (s : List ℕ) → now.pair b s ≡ false) → ((s : List ℕ) → now.counted s ≡ 0)
    → ((s : List ℕ) → now.first s ≡ None) → Told blocks 0 0 names now
blocks_begin blocks names now n p c f = record { at = refl; named = n; pairs = p; counts = c; firsts = f }

pub blocks_fresh : (blocks : List Block) (i number : ℕ) (names : List ℕ → Option ℕ) (now : Answers) → i < length blocks
    → Told blocks i number names now → (s : List ℕ) → now.pair number s ≡ false
blocks_fresh blocks i number names now inside g s = g.pairs number s
    ∙ ap (λ o. is_so (receives s) o) (slice_get_past (take i blocks) number
    (omega (arith, g.at, length-take-le i blocks (omega arith))))

pub blocks_step : (blocks : List Block) (i number after : ℕ) (x : Block) (names more_names : List ℕ → Option ℕ)
    (now new : Answers) → i < length blocks → x ≡ get_or blocks i x → after ≡ number + 1 →
    ((n : List ℕ) → more_names n ≡ or_else (names n) (if bytes_eq x.name.name n then Some number else None)) →
    ((b : ℕ) (s : List ℕ) → new.pair b s ≡ (now.pair b s || (nat_eq b number && any (line_receives s) x.surveys))) →
    ((s : List ℕ) → new.counted s ≡ now.counted s + (if any (line_receives s) x.surveys then 1 else 0)) →
    ((s : List ℕ) → new.first s ≡ or_else (now.first s) (chosen (any (line_receives s) x.surveys) number)) →
    Told blocks i number names now → Told blocks (i + 1) after more_names new
blocks_step blocks i number after x names more_names now new inside is one n p c f g = record {
  at = one ∙ ap (λ m. m + 1) g.at;
  named = λ m. n m ∙ ap (λ o. or_else o (chosen (has_name m x) number)) (g.named m)
      ∙ ap (λ k. or_else (block_named (take i blocks) m) (chosen (has_name m x) k)) far
      ∙ sym (position_push (has_name m) (take i blocks) x) ∙ ap (λ l. block_named l m) all;
  pairs = λ b s. p b s ∙ ap (λ a. a || (nat_eq b number && receives s x)) (g.pairs b s)
      ∙ ap (λ k. receives_at (take i blocks) b s || (nat_eq b k && receives s x)) far
      ∙ sym (survey_push s (take i blocks) x b) ∙ ap (λ l. receives_at l b s) all;
  counts = λ s. c s ∙ ap (λ a. a + (if receives s x then 1 else 0)) (g.counts s)
      ∙ sym (count_push (receives s) (take i blocks) x) ∙ ap (λ l. receiver_count l s) all;
  firsts = λ s. f s ∙ ap (λ o. or_else o (chosen (receives s x) number)) (g.firsts s)
      ∙ ap (λ k. or_else (first_receiver (take i blocks) s) (chosen (receives s x) k)) far
      ∙ sym (position_push (receives s) (take i blocks) x) ∙ ap (λ l. first_receiver l s) all;
}
  where
    far : number ≡ length (take i blocks)
    far = g.at ∙ sym (length-take-le i blocks (omega arith))

    all : take i blocks ++ x ∷ [] ≡ take (i + 1) blocks
    all = sym (more_events blocks i x inside is)

-- the table of all blocks
pub blocks_named : (blocks : List Block) (i number : ℕ) (names : List ℕ → Option ℕ) (now : Answers) → length blocks ≤ i
    → Told blocks i number names now → (n : List ℕ) → names n ≡ block_named blocks n
blocks_named blocks i number names now past g n = g.named n ∙ ap (λ l. block_named l n) (take_all i blocks past)

pub blocks_pairs : (blocks : List Block) (i number : ℕ) (names : List ℕ → Option ℕ) (now : Answers) → length blocks ≤ i
    → Told blocks i number names now → (b : ℕ) (s : List ℕ) → now.pair b s ≡ receives_at blocks b s
blocks_pairs blocks i number names now past g b s = g.pairs b s ∙ ap (λ l. receives_at l b s) (take_all i blocks past)

pub blocks_counts : (blocks : List Block) (i number : ℕ) (names : List ℕ → Option ℕ) (now : Answers) → length blocks ≤ i
    → Told blocks i number names now → (s : List ℕ) → now.counted s ≡ receiver_count blocks s
blocks_counts blocks i number names now past g s = g.counts s ∙ ap (λ l. receiver_count l s) (take_all i blocks past)

pub blocks_firsts : (blocks : List Block) (i number : ℕ) (names : List ℕ → Option ℕ) (now : Answers) → length blocks ≤ i
    → Told blocks i number names now → (s : List ℕ) → now.first s ≡ first_receiver blocks s
blocks_firsts blocks i number names now past g s = g.firsts s ∙ ap (λ l. first_receiver l s) (take_all i blocks past)
