-- The exchange that a file's text denotes, or the first fault of the text.
use Rattle.std.proofs.Common.{◌≡◌, ℕ, ◌≤◌, List, length, Some, sym, ◌∙◌, ap, slice_get, Result, Ok}
use Rattle.std.proofs.Common.{Err, true, IfOk, arith, subst, suc, ◌+◌, ◌-◌, Bool, false, nat_eq, []}
use Rattle.std.proofs.Common.{◌∷◌, Option, None, refl, if◌then◌else◌, ◌<◌, get_or, map, nat_lt}
use Rattle.std.specs.Option.{option_map}
use Rattle.std.proofs.lemmas.Option.{slice_get-map, slice_get_past, none-some, same_Some}
use Rattle.plex_lexer.specs.Cursors.{lines}
use Rattle.plex_lexer.specs.declared.token.Token.{Token}
use Rattle.answer_meaning.specs.Reading.{line_or_none, token_line, Finds, at_line, exchange_of}
use Rattle.answer_meaning.specs.Reading.{resolved_or, rule_of, IsSpelled, tree_of_lexed}
use Rattle.answer_meaning.specs.Reading.{tree_of_tokens, exchange_of_text, tree_of, tree_or_fault}
use Rattle.exchange_model.specs.declared.exchange.Exchange.{Exchange}
use Rattle.plex_ast.specs.declared.tree.Tree.{Tree}
use Rattle.text_rules.specs.declared.rule.Rule.{Rule as TextRule}
use Rattle.text_soundness.specs.declared.fault.TextFault.{TextFault}
use Rattle.text_soundness.specs.declared.fault.TextFault.TheVariants as fault
use Rattle.text_soundness.specs.Resolved.{resolved, told_or}
use Rattle.answer_meaning.specs.declared.fault.Rule.{Rule}
use Rattle.answer_meaning.specs.declared.fault.SourceFault.{SourceFault}
use Rattle.plex_num.specs.declared.seq.Memory.{Memory}
use Rattle.plex_limits.specs.declared.limits.TheConstants.{MOST_BYTES, MOST_WHENS, MOST_BRACKETS}
use Rattle.plex_limits.specs.declared.limits.TheConstants.{MOST_NESTED}
use Rattle.plex_num.proofs.Numbers.{few_enough}
use Rattle.plex_lexer.specs.Lexed.{tokens_of, Mode, Between, Comment, InWord, InDigits, InMark}
use Rattle.plex_lexer.specs.Lexed.{begins, goes_on as stays_in, lexed, put, with_kind, with_mark}
use Rattle.plex_ast.specs.Grammar.{Sentence}
use Rattle.resolved_block.specs.Texts.{choices_in, exchange_of_tree, exchange_of as built_of}
use Rattle.resolved_block.specs.Texts.{none_before, typed_from}
use Rattle.kept_trees.proofs.Texts.{read_keeps}
use Rattle.text_soundness.proofs.SpelledTexts.{tree_least}
use Rattle.std.specs.Char.{is_ascii_digit, is_ascii_uppercase}
use Rattle.std.specs.List.{take_while, AllByRecursion, list_all}
use Rattle.std.specs.Result.{result_ok}
use Rattle.plex_lexer.specs.declared.fault.LexFault.{LexFault}
use Rattle.plex_lexer.specs.declared.token.TokenKind.{TokenKind}
use Rattle.plex_lexer.specs.declared.token.TokenKind.TheVariants as kinds
use Rattle.plex_lexer.specs.Bytes.{is_blank, in_word}
use Rattle.plex_lexer.specs.Marks.{mark_of}
use Rattle.plex_lexer.specs.Words.{number_kind, word_kind}
use Rattle.std.proofs.lemmas.Bool.{and_parts}
use Rattle.std.proofs.lemmas.Bool.Decides.{nat_tests}
use Rattle.std.proofs.lemmas.List.{map-append}
use Rattle.plex_num.proofs.Lists.{all_append}
use Rattle.plex_ast.specs.declared.block.Block.{Block as TreeBlock}
use Rattle.plex_ast.specs.declared.tree.ShapeKind.{ShapeKind}
use Rattle.plex_ast.specs.declared.tree.ShapeKind.TheVariants.{Buffered, Combined, Direct, Outside}
use Rattle.plex_ast.specs.declared.tree.Signal.{Signal}
use Rattle.kept_trees.specs.Keeps.{Every, IsKept, IsName, KeepsBlock, KeepsShapeAt, KeepsSignal}
use Rattle.exchange_model.specs.declared.block.Block.{Block}
use Rattle.exchange_model.specs.declared.signal.SignalKind.{SignalKind}
use Rattle.exchange_model.specs.Kept.{signal_name, IsExchange}
use Rattle.signal_types.specs.Signals.{kinds_of, shape_kinds, signals_from, signals_of}
use Rattle.text_lines.specs.Words.{is_some_byte}
use Rattle.resolved_block.specs.Blocks.{typed_of}
use Rattle.resolved_block.specs.declared.parts.First.{First}
use Rattle.job_table.specs.Fit.{HasWords, IsPlainWord}
use Rattle.plex_io.specs.Files.{Files}
use Rattle.plex_parser.specs.declared.parser.ParseFault.{ParseFault}
use Rattle.plex_parser.specs.Parses.{parsed}
use Rattle.plex_parser.proofs.Parsed.{ok_exactly}
use Rattle.text_rules.specs.Texts.{BreaksNoRule, text_told}
use Rattle.text_soundness.proofs.Whole.{is_exchange}
use Rattle.answer_meaning.specs.Outcome.{Out, goes_on, or_refused}
use Rattle.answer_meaning.specs.declared.fault.Which.{Which}
use Rattle.answer_meaning.specs.Given.{exchange_as, exchange_of_file, text_at, text_of_file}
use Rattle.answer_meaning.specs.Text.{source_refusal}
use Rattle.answer_meaning.specs.declared.answer.Answer.{Answer}

-- the line of a token

pub line_found : (tokens : List Token) (i line : ℕ) → slice_get (lines tokens) i ≡ Some line → line ≡ token_line tokens i
line_found tokens i line is = sym (ap line_or_none is)

pub line_absent : (tokens : List Token) (i : ℕ) → length tokens ≤ i → 0 ≡ token_line tokens i
line_absent tokens i past = sym (ap line_or_none
    (slice_get-map (λ (t : Token). t.line) tokens i
    ∙ ap (option_map (λ (t : Token). t.line)) (slice_get_past tokens i past)))

pub ruleset line_rules = (line_found, line_absent)

-- the exchange of a text, or its first fault

pub resolves_ok : (said : Result Exchange TextFault) (x : Exchange) → said ≡ Ok x → Finds (resolved_or said) (Ok (Ok x))
resolves_ok said x is = ap resolved_or is

pub resolves_rule : (said : Result Exchange TextFault) (broken : TextRule) (line : ℕ) (rule : Rule) (f : SourceFault)
    → said ≡ Err (fault.Rule broken line) → rule ≡ rule_of broken → f ≡ at_line line rule
    → Finds (resolved_or said) (Ok (Err f))
resolves_rule said broken line rule f is named at = ap resolved_or is ∙ ap (λ r. Err (at_line line r)) (sym named) ∙ ap (λ g. Err g) (sym at)

pub ruleset resolve_rules = (resolves_ok, resolves_rule)

pub found_tree : (said : Result Tree SourceFault) (t : Tree) (found : Result Exchange SourceFault) → said ≡ Ok t
    → resolved_or (resolved t) ≡ found → Finds (exchange_of said) (Ok found)
found_tree said t found is means = ap exchange_of is ∙ means

pub found_fault : (said : Result Tree SourceFault) (f : SourceFault) → said ≡ Err f → Finds (exchange_of said) (Ok (Err f))
found_fault said f is = ap exchange_of is

pub ruleset found_rules = (found_tree, found_fault)

-- the syntax tree of a text's tokens

pub text_spells : (text : List ℕ) (tokens : List Token) (t : Tree) → tokens_of text ≡ Ok tokens
    → length tokens ≤ length text → length text ≤ MOST_BYTES → Sentence t tokens → IsSpelled t
text_spells text tokens t lexed fewer small spelled = record {
  keeps = read_keeps true text tokens t lexed spelled;
  few = few_enough MOST_WHENS MOST_BYTES (choices_in (exchange_of_tree t)) (length tokens) (length text) (omega arith)
      ((tree_least t).long tokens spelled) fewer small;
}

-- the same for the result of the parser
pub all_spelled : (text : List ℕ) (tokens : List Token) (r : Result (Result Tree SourceFault) Memory)
    → tokens_of text ≡ Ok tokens → length tokens ≤ length text → length text ≤ MOST_BYTES
    → IfOk r (λ found. IfOk found (λ t. Sentence t tokens)) → IfOk r (λ found. IfOk found IsSpelled)
all_spelled text tokens (Ok (Ok t)) lexed fewer small spelled = text_spells text tokens t lexed fewer small spelled
all_spelled text tokens (Ok (Err f)) lexed fewer small spelled = tt
all_spelled text tokens (Err m) lexed fewer small spelled = tt

pub all_found : (text : List ℕ) (tokens : List Token) (r : Result (Result Tree SourceFault) Memory)
    → tokens_of text ≡ Ok tokens → Finds (tree_of_tokens text tokens) r → Finds (tree_of_lexed text (tokens_of text)) r
all_found text tokens r lexed found = subst (λ l. Finds (tree_of_lexed text l) r) (sym lexed) found

-- ## A text has at most as many tokens as bytes

abbrev Lexed : Type 0
Lexed = Result (List Token) LexFault

-- by cases on a condition
pick : {Z P : Type 0} (c : Bool) {x y z : Z} → (x ≡ z → P) → (y ≡ z → P) → (if c then x else y) ≡ z → P
pick true f g e = f e
pick false f g e = g e

-- there are at most this many tokens
abbrev AreFew : ℕ → Lexed → Type 0
AreFew n r = (tokens : List Token) → r ≡ Ok tokens → length tokens ≤ n

more_few : (n : ℕ) (r : Lexed) → AreFew n r → AreFew (suc n) r
more_few n r few tokens e = let le = few tokens e in omega (arith, le)

put_few : (n : ℕ) (t : Token) (r : Lexed) → AreFew n r → AreFew (suc n) (put t r)
put_few n t (Ok ts) few tokens e = let le = few ts refl in let same : suc (length ts)
    ≡ length tokens = ap length (same_Some (t ∷ ts) tokens (ap result_ok e)) in omega (arith, le, same)
put_few n t (Err f) few tokens e = absurd (none-some tokens (ap result_ok e))

kind_few : (n : ℕ) (k : Result TokenKind LexFault) (offset line : ℕ) (r : Lexed) → AreFew n r → AreFew (suc n) (with_kind k offset line r)
kind_few n (Ok kind) offset line r few tokens e = put_few n (record { kind = kind; line = line; offset = offset }) r few tokens e
kind_few n (Err f) offset line r few tokens e = absurd (none-some tokens (ap result_ok e))

mark_few : (n : ℕ) (m : Option (ℕ × Bool)) (offset line : ℕ) (follow : Mode → Lexed)
    → ((mode : Mode) → AreFew n (follow mode)) → AreFew (suc n) (with_mark m offset line follow)
mark_few n None offset line follow few tokens e = absurd (none-some tokens (ap result_ok e))
mark_few n (Some mark) offset line follow few tokens e = put_few n
    (record { kind = kinds.Mark mark.0; line = line; offset = offset }) (follow (if mark.1 then InMark else Between))
    (few (if mark.1 then InMark else Between)) tokens e

begins_few : (n : ℕ) (follow : Mode → ℕ → Lexed) → ((mode : Mode) (line : ℕ) → AreFew n (follow mode line))
    → (offset line b : ℕ) (rest : List ℕ) → AreFew (suc n) (begins follow offset line b rest)
begins_few n follow few offset line b rest tokens =
    pick (nat_eq b 10) (λ e. more_few n (follow Between (line + 1)) (few Between (line + 1)) tokens e) (
    pick (is_blank b) (λ e. more_few n (follow Between line) (few Between line) tokens e) (
    pick (nat_eq b 33) (λ e. more_few n (follow Comment line) (few Comment line) tokens e) (
    pick (is_ascii_uppercase b) (λ e. kind_few n (word_kind (b ∷ take_while in_word rest) offset line) offset line
    (follow InWord line) (few InWord line) tokens e) (
    pick (is_ascii_digit b) (λ e. kind_few n (number_kind (b ∷ take_while is_ascii_digit rest) offset line) offset line
    (follow InDigits line) (few InDigits line) tokens e) (λ e.
    mark_few n (mark_of b rest) offset line (λ mode. follow mode line) (λ mode. few mode line) tokens e)))))

nothing_few : AreFew 0 (Ok [])
nothing_few tokens e = let same : 0 ≡ length tokens = ap length (same_Some [] tokens (ap result_ok e)) in omega (arith, same)

lexed_few : (mode : Mode) (n line : ℕ) (bs : List ℕ) → AreFew (length bs) (lexed mode n line bs)
unfolding lexed
lexed_few Between n line [] tokens e = nothing_few tokens e
lexed_few Comment n line [] tokens e = nothing_few tokens e
lexed_few InWord n line [] tokens e = nothing_few tokens e
lexed_few InDigits n line [] tokens e = nothing_few tokens e
lexed_few InMark n line [] tokens e = nothing_few tokens e
lexed_few InMark n line (b ∷ rest) tokens e = more_few (length rest) (lexed Between n line rest) (lexed_few Between n line rest) tokens e
lexed_few Between n line (b ∷ rest) tokens e = begins_few (length rest) (λ k l. lexed k n l rest)
    (λ k l. lexed_few k n l rest) (n - length (b ∷ rest)) line b rest tokens e
lexed_few Comment n line (b ∷ rest) tokens h = pick (stays_in Comment b)
    (λ e. more_few (length rest) (lexed Comment n line rest) (lexed_few Comment n line rest) tokens e)
    (λ e. begins_few (length rest) (λ k l. lexed k n l rest) (λ k l. lexed_few k n l rest) (n - length (b ∷ rest)) line
    b rest tokens e) h
lexed_few InWord n line (b ∷ rest) tokens h = pick (stays_in InWord b)
    (λ e. more_few (length rest) (lexed InWord n line rest) (lexed_few InWord n line rest) tokens e)
    (λ e. begins_few (length rest) (λ k l. lexed k n l rest) (λ k l. lexed_few k n l rest) (n - length (b ∷ rest)) line
    b rest tokens e) h
lexed_few InDigits n line (b ∷ rest) tokens h = pick (stays_in InDigits b)
    (λ e. more_few (length rest) (lexed InDigits n line rest) (lexed_few InDigits n line rest) tokens e)
    (λ e. begins_few (length rest) (λ k l. lexed k n l rest) (λ k l. lexed_few k n l rest) (n - length (b ∷ rest)) line
    b rest tokens e) h

pub tokens_few : (text : List ℕ) (tokens : List Token) → tokens_of text ≡ Ok tokens → length tokens ≤ length text
unfolding tokens_of
tokens_few text = lexed_few Between (length text) 1 text

-- ## Names are words

-- a name is a word

byte_above : (b : ℕ) → in_word b ≡ true → 32 < b
byte_above b is = grind (arith, nat_tests)

bytes_above : (bytes : List ℕ) → list_all in_word bytes ≡ true → AllByRecursion (λ b. 32 < b) bytes
bytes_above [] all = tt
bytes_above (b ∷ bytes) all = let parts = and_parts (in_word b) (list_all in_word bytes) all in (byte_above b parts.0, bytes_above bytes parts.1)

some_byte : (bytes : List ℕ) → is_ascii_uppercase (get_or bytes 0 0) ≡ true → is_some_byte bytes ≡ true
some_byte [] first = let no : is_ascii_uppercase 0 ≡ true = first in cc
some_byte (b ∷ bytes) first = refl

name_plain : (name : List ℕ) → IsName name → IsPlainWord name
name_plain name is = record { some = some_byte name is.first; all = bytes_above name is.others }

-- the signals of a text

abbrev ArePlain : List SignalKind → Type 0
ArePlain signals = AllByRecursion IsPlainWord (map signal_name signals)

shape_plain : (number : ℕ) (name : List ℕ) (kind : ShapeKind) → IsPlainWord name → KeepsShapeAt kind → ArePlain (shape_kinds number name kind)
shape_plain number name (Buffered level values) is keeps = (is, tt)
shape_plain number name (Direct values) is keeps = (is, tt)
shape_plain number name (Combined values answer answer_values) is keeps = (is, (name_plain answer.name keeps.1.0, tt))
shape_plain number name (Outside values) is keeps = (is, tt)

signals_plain : (number : ℕ) (signals : List Signal) → Every KeepsSignal signals → ArePlain (signals_from number signals)
unfolding signals_from
signals_plain number [] keeps = tt
signals_plain number (s ∷ rest) keeps =
    let own = kinds_of number s in
    let more = signals_from (number + length own) rest in
    subst (AllByRecursion IsPlainWord) (sym (map-append signal_name own more))
    (all_append IsPlainWord (map signal_name own) (map signal_name more)
    (shape_plain number s.name.name s.shape.kind (name_plain s.name.name keeps.0.0) keeps.0.1)
    (signals_plain (number + length own) rest keeps.1))

-- the blocks of a text

block_name : (signals : List SignalKind) (blocks : List TreeBlock) (first : First) (b : TreeBlock) → b.name.name ≡ (typed_of signals blocks first b).block.name
unfolding typed_of
block_name signals blocks first b = refl

blocks_plain : (signals : List SignalKind) (blocks : List TreeBlock) (first : First) (rest : List TreeBlock)
    → Every (KeepsBlock MOST_BRACKETS MOST_NESTED) rest
    → AllByRecursion IsPlainWord (map (λ (k : Block). k.name) (typed_from signals blocks first rest))
unfolding typed_from
blocks_plain signals blocks first [] keeps = tt
blocks_plain signals blocks first (b ∷ rest) keeps = (
  subst IsPlainWord (block_name signals blocks first b) (name_plain b.name.name keeps.0.0),
  blocks_plain signals blocks (typed_of signals blocks first b).next rest keeps.1,
)

pub has_words : (t : Tree) → IsKept t → HasWords (exchange_of_tree t)
unfolding built_of
has_words t keeps = record { signals = signals_plain 0 t.signals keeps.0; blocks = blocks_plain (signals_of t) t.blocks none_before t.blocks keeps.1 }

-- ## The exchange of a file

-- the value of a stage, and the result of the next stage on it
pub gone_on : {A B : Type 0} (s : Out A) (go : A → Out B) (b : B) → goes_on s go ≡ Ok b → (a : A) × (s ≡ Ok a) × (go a ≡ Ok b)
gone_on (Ok a) go b e = (a, refl, e)
gone_on (Err r) go b e = absurd (none-some b (ap result_ok e))

-- a text within the size limit

fits : (limit : ℕ) (b : Bool) (bytes text : List ℕ) → nat_lt limit (length bytes) ≡ b → (if b then None else Some bytes) ≡ Some text → length text ≤ limit
fits limit true bytes text large e = absurd (none-some text e)
fits limit false bytes text fine e = let le : length bytes ≤ limit = grind (arith, nat_tests, fine) in subst (λ t. length t ≤ limit) (same_Some bytes text e) le

fits_held : (o : Option (List ℕ)) (text : List ℕ) → text_of_file o ≡ Ok (Some text) → length text ≤ MOST_BYTES
fits_held None text e = absurd (none-some (Some text) (ap result_ok e))
fits_held (Some bytes) text e = fits MOST_BYTES (nat_lt MOST_BYTES (length bytes)) bytes text refl (same_Some _ _ (ap result_ok e))

pub text_small : (name : List ℕ) (files : Files) (text : List ℕ) → text_at name files ≡ Ok (Some text) → length text ≤ MOST_BYTES
text_small name files text e = fits_held (files name) text e

-- the tree of a text

pub read : {A F : Type 0} (by : F → Answer) (r : Result A F) (a : A) → or_refused by r ≡ Ok a → r ≡ Ok a
read by (Ok b) a e = ap Ok (same_Some b a (ap result_ok e))
read by (Err f) a e = absurd (none-some a (ap result_ok e))

module _ (text : List ℕ) (t : Tree) (small : length text ≤ MOST_BYTES) where
  parses : (tokens : List Token) (r : Result Tree ParseFault) → tokens_of text ≡ Ok tokens → parsed tokens ≡ r
      → tree_or_fault text tokens r ≡ Ok t → IsSpelled t
  parses tokens (Err f) lexes is e = absurd (none-some t (ap result_ok e))
  parses tokens (Ok s) lexes is e =
      text_spells text tokens t lexes (tokens_few text tokens lexes) small ((ok_exactly tokens t).0 (is ∙ ap Ok (same_Some s t (ap result_ok e))))

  lexes_to : (r : Result (List Token) LexFault) → tokens_of text ≡ r → tree_of_lexed text r ≡ Ok t → IsSpelled t
  lexes_to (Err f) lexes e = absurd (none-some t (ap result_ok e))
  lexes_to (Ok tokens) lexes e = parses tokens (parsed tokens) lexes refl e

  spells : tree_of text ≡ Ok t → IsSpelled t
  unfolding tree_of
  spells e = lexes_to (tokens_of text) refl e

-- the exchange of a tree

breaks_none : (t : Tree) (x : Exchange) → resolved t ≡ Ok x → BreaksNoRule t × (exchange_of_tree t ≡ x)
unfolding resolved
breaks_none t x e = by (text_told t) refl e
  where
    by : (o : Option (TextRule × ℕ)) → text_told t ≡ o → told_or o (exchange_of_tree t) ≡ Ok x → BreaksNoRule t × (exchange_of_tree t ≡ x)
    by None told e = (told, same_Some (exchange_of_tree t) x (ap result_ok e))
    by (Some broken) told e = absurd (none-some x (ap result_ok e))

-- a valid exchange whose names are words
pub record IsAccepted (x : Exchange) : Type 0 where
  pub kept : IsExchange x
  pub words : HasWords x

-- a result of the resolver is the exchange of the tree
resolves : (r : Result Exchange TextFault) (x : Exchange) → resolved_or r ≡ Ok x → r ≡ Ok x
resolves (Ok y) x e = ap Ok (same_Some y x (ap result_ok e))
resolves (Err f) x e = absurd (none-some x (ap result_ok e))

means : (text : List ℕ) (r : Result Tree SourceFault) (x : Exchange) → length text ≤ MOST_BYTES → tree_of text ≡ r → exchange_of r ≡ Ok x → IsAccepted x
means text (Err f) x small is e = absurd (none-some x (ap result_ok e))
means text (Ok t) x small is e =
    let s = spells text t small is in
    let r = breaks_none t x (resolves (resolved t) x e) in
    record {
      kept = subst IsExchange r.1 (is_exchange t (record { spelled = s.keeps; few = s.few; fine = r.0 }));
      words = subst HasWords r.1 (has_words t s.keeps);
    }

pub accepted : (which : Which) (name : List ℕ) (files : Files) (x : Exchange) → exchange_as which name files ≡ Ok x → IsAccepted x
accepted which name files x e = let a = gone_on (text_at name files) (exchange_of_file which) x e in by a.0 a.1
    (read (source_refusal which) (exchange_of_text a.0) x a.2)
  where
    by : (o : Option (List ℕ)) → text_at name files ≡ Ok o → exchange_of_text o ≡ Ok x → IsAccepted x
    by None held e = absurd (none-some x (ap result_ok e))
    by (Some text) held e = means text (tree_of text) x (text_small name files text held) refl e
