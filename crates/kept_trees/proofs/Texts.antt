-- The tokens of a text are words that a text may have, and so what they spell is kept.
use Rattle.std.proofs.Common.{◌≡◌, ℕ, ◌+◌, ◌-◌, ◌<◌, ◌^◌, get_or, Bool, true, false, cond, nat_eq}
use Rattle.std.proofs.Common.{nat_lt, List, [], ◌∷◌, length, Result, Ok, Err, Option, Some, None}
use Rattle.std.proofs.Common.{refl, sym, ◌∙◌, ap, arith, subst, if◌then◌else◌}
use Rattle.std.proofs.lemmas.Bool.Decides.{nat_tests}
use Rattle.std.proofs.lemmas.List.Sums.{take_while-cons}
use Rattle.std.specs.Char.{is_ascii_digit, is_ascii_uppercase}
use Rattle.std.specs.List.{take_while, list_all}
use Rattle.plex_lexer.specs.declared.fault.LexFault.{LexFault}
use Rattle.plex_lexer.specs.declared.token.Token.{Token}
use Rattle.plex_lexer.specs.declared.token.TokenKind.{TokenKind}
use Rattle.plex_lexer.specs.declared.token.TokenKind.TheVariants as kinds
use Rattle.plex_lexer.specs.Bytes.{is_blank, in_word}
use Rattle.plex_lexer.specs.Lexed.{Mode, Between, Comment, InWord, InDigits, InMark, goes_on, lexed}
use Rattle.plex_lexer.specs.Lexed.{tokens_of, begins, put, with_kind, with_mark}
use Rattle.plex_lexer.specs.Marks.{mark_of}
use Rattle.plex_lexer.specs.Words.{keyword_of, keyword_or_name, word_kind, number_kind}
use Rattle.plex_lexer.specs.Words.{number_or_fault}
use Rattle.plex_num.specs.Number.{number_of}
use Rattle.plex_ast.specs.declared.tree.Tree.{Tree}
use Rattle.plex_ast.specs.Grammar.{tree}
use Rattle.plex_limits.specs.declared.limits.TheConstants.{MOST_BRACKETS, MOST_NESTED}
use Rattle.kept_trees.specs.Keeps.{Keeps}
use Rattle.kept_trees.specs.Words.{IsTextWord, AreWords}
use Rattle.kept_trees.proofs.Kept.{kept-tree}
use Rattle.plex_num.proofs.Digits.{number_small}

abbrev Lexed : Type 0
Lexed = Result (List Token) LexFault

-- by cases on a test
pick : {Z P : Type 0} (c : Bool) {x y z : Z} → (c ≡ true → x ≡ z → P) → (c ≡ false → y ≡ z → P) → cond c x y ≡ z → P
pick true f g e = f refl e
pick false f g e = g refl e

same_tokens : (a b : List Token) → ◌≡◌ {A = Lexed} (Ok a) (Ok b) → a ≡ b
same_tokens a b e = cc

no_tokens : (f : LexFault) (b : List Token) → ◌≡◌ {A = Lexed} (Err f) (Ok b) → ⊥
no_tokens f b e = cc

same_kind : (a b : TokenKind) → ◌≡◌ {A = Result TokenKind LexFault} (Ok a) (Ok b) → a ≡ b
same_kind a b e = cc

no_kind : (f : LexFault) (b : TokenKind) → ◌≡◌ {A = Result TokenKind LexFault} (Err f) (Ok b) → ⊥
no_kind f b e = cc

same_some : (a b : ℕ) → ◌≡◌ {A = Option ℕ} (Some a) (Some b) → a ≡ b
same_some a b e = cc

no_some : (b : ℕ) → ◌≡◌ {A = Option ℕ} None (Some b) → ⊥
no_some b e = cc

-- tokens that are words
abbrev Good : Lexed → Type 0
Good r = (tokens : List Token) → r ≡ Ok tokens → AreWords tokens

put_good : (t : Token) (r : Lexed) → IsTextWord t.kind → Good r → Good (put t r)
put_good t (Ok ts) w more tokens e = subst AreWords (same_tokens (t ∷ ts) tokens e) (w, more ts refl)
put_good t (Err f) w more tokens e = absurd (no_tokens f tokens e)

kind_good : (k : Result TokenKind LexFault) (offset line : ℕ) (r : Lexed)
    → ((kind : TokenKind) → k ≡ Ok kind → IsTextWord kind) → Good r → Good (with_kind k offset line r)
kind_good (Ok kind) offset line r is more tokens e = put_good (record { kind = kind; line = line; offset = offset }) r (is kind refl) more tokens e
kind_good (Err f) offset line r is more tokens e = absurd (no_tokens f tokens e)

mark_good : (m : Option (ℕ × Bool)) (offset line : ℕ) (follow : Mode → Lexed) → ((mode : Mode) → Good (follow mode)) → Good (with_mark m offset line follow)
mark_good None offset line follow more tokens e = absurd (no_tokens _ tokens e)
mark_good (Some mark) offset line follow more tokens e = put_good
    (record { kind = kinds.Mark mark.0; line = line; offset = offset }) (follow (if mark.1 then InMark else Between)) tt
    (more (if mark.1 then InMark else Between)) tokens e

-- a run of letters and digits is a keyword or a name

run_all : (p : ℕ → Bool) (xs : List ℕ) → list_all p (take_while p xs) ≡ true
run_all p [] = refl
run_all p (x ∷ xs) = ap (list_all p) (take_while-cons p x xs) ∙ go (p x) refl (run_all p xs)
  where
    go : (c : Bool) → p x ≡ c → list_all p (take_while p xs) ≡ true → list_all p (cond c (x ∷ take_while p xs) []) ≡ true
    go true h all = rw (h, all) refl
    go false h all = refl

named : (run : List ℕ) (b : ℕ) (rest : List ℕ) (o : Option ℕ) → run ≡ b ∷ rest → is_ascii_uppercase b ≡ true
    → list_all in_word rest ≡ true → nat_lt 31 (length run) ≡ false → keyword_of run ≡ o
    → IsTextWord (keyword_or_name run o)
named run b rest (Some k) e up all few free = tt
named run b rest None e up all few free = record {
  first = subst (λ r. is_ascii_uppercase (get_or r 0 0) ≡ true) (sym e) up;
  others = subst (λ r. list_all in_word r ≡ true) (sym e) (rw (up, all) refl);
  short = grind (arith, nat_tests);
  free = free;
}

word_good : (b : ℕ) (rest : List ℕ) (offset line : ℕ) → is_ascii_uppercase b ≡ true → (kind : TokenKind)
    → word_kind (b ∷ take_while in_word rest) offset line ≡ Ok kind → IsTextWord kind
word_good b rest offset line up kind = pick (nat_lt 31 (length (b ∷ take_while in_word rest)))
    (λ _ e. absurd (no_kind _ kind e))
    (λ few e. subst IsTextWord (same_kind _ kind e)
    (named (b ∷ take_while in_word rest) b (take_while in_word rest) (keyword_of (b ∷ take_while in_word rest)) refl
    up (run_all in_word rest) few refl))

-- a run of digits is a number

fault_good : (o : Option ℕ) (offset line : ℕ) (kind : TokenKind) → ((n : ℕ) → o ≡ Some n → n < 2 ^ 32)
    → number_or_fault o offset line ≡ Ok kind → IsTextWord kind
fault_good (Some n) offset line kind small e = subst IsTextWord (same_kind _ kind e) (small n refl)
fault_good None offset line kind small e = absurd (no_kind _ kind e)

number_good : (run : List ℕ) (offset line : ℕ) (kind : TokenKind) → number_kind run offset line ≡ Ok kind → IsTextWord kind
number_good run offset line kind = fault_good (number_of run) offset line kind (number_small run)

begins_good : (follow : Mode → ℕ → Lexed) → ((mode : Mode) (line : ℕ) → Good (follow mode line))
    → (offset line b : ℕ) (rest : List ℕ) → Good (begins follow offset line b rest)
begins_good follow more offset line b rest tokens =
    pick (nat_eq b 10) (λ _ e. more Between (line + 1) tokens e) (λ _.
    pick (is_blank b) (λ _ e. more Between line tokens e) (λ _.
    pick (nat_eq b 33) (λ _ e. more Comment line tokens e) (λ _.
    pick (is_ascii_uppercase b) (λ up e. kind_good (word_kind (b ∷ take_while in_word rest) offset line) offset line
    (follow InWord line) (word_good b rest offset line up) (more InWord line) tokens e) (λ _.
    pick (is_ascii_digit b) (λ _ e. kind_good (number_kind (b ∷ take_while is_ascii_digit rest) offset line) offset line
    (follow InDigits line) (number_good (b ∷ take_while is_ascii_digit rest) offset line) (more InDigits line)
    tokens e) (λ _ e.
    mark_good (mark_of b rest) offset line (λ mode. follow mode line) (λ mode. more mode line) tokens e)))))

nothing_good : Good (Ok [])
nothing_good tokens e = subst AreWords (same_tokens [] tokens e) tt

lexed_good : (mode : Mode) (n line : ℕ) (bs : List ℕ) → Good (lexed mode n line bs)
unfolding lexed
lexed_good Between n line [] tokens e = nothing_good tokens e
lexed_good Comment n line [] tokens e = nothing_good tokens e
lexed_good InWord n line [] tokens e = nothing_good tokens e
lexed_good InDigits n line [] tokens e = nothing_good tokens e
lexed_good InMark n line [] tokens e = nothing_good tokens e
lexed_good InMark n line (b ∷ rest) tokens e = lexed_good Between n line rest tokens e
lexed_good Between n line (b ∷ rest) tokens e = begins_good (λ k l. lexed k n l rest) (λ k l. lexed_good k n l rest)
    (n - length (b ∷ rest)) line b rest tokens e
lexed_good Comment n line (b ∷ rest) tokens h = pick (goes_on Comment b)
    (λ _ e. lexed_good Comment n line rest tokens e)
    (λ _ e. begins_good (λ k l. lexed k n l rest) (λ k l. lexed_good k n l rest) (n - length (b ∷ rest)) line b rest
    tokens e) h
lexed_good InWord n line (b ∷ rest) tokens h = pick (goes_on InWord b) (λ _ e. lexed_good InWord n line rest tokens e)
    (λ _ e. begins_good (λ k l. lexed k n l rest) (λ k l. lexed_good k n l rest) (n - length (b ∷ rest)) line b rest
    tokens e) h
lexed_good InDigits n line (b ∷ rest) tokens h = pick (goes_on InDigits b)
    (λ _ e. lexed_good InDigits n line rest tokens e)
    (λ _ e. begins_good (λ k l. lexed k n l rest) (λ k l. lexed_good k n l rest) (n - length (b ∷ rest)) line b rest
    tokens e) h

pub text_good : (text : List ℕ) (tokens : List Token) → tokens_of text ≡ Ok tokens → AreWords tokens
unfolding tokens_of
text_good text = lexed_good Between (length text) 1 text

pub read_keeps : (s : Bool) (text : List ℕ) (tokens : List Token) (t : Tree) → tokens_of text ≡ Ok tokens
    → tree s MOST_BRACKETS MOST_NESTED t tokens → Keeps MOST_BRACKETS MOST_NESTED t
read_keeps s text tokens t e h = (kept-tree s MOST_BRACKETS MOST_NESTED t).keeps tokens (text_good text tokens e) h
