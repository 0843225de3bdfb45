-- What bytes are read as, wherever they stand in a text.
use Rattle.std.proofs.Common.{◌≡◌, ℕ, ◌+◌, ◌-◌, ◌<◌, ◌^◌, Bool, true, false, cond, nat_eq, ◌&&◌}
use Rattle.std.proofs.Common.{List, [], ◌∷◌, ◌++◌, length, drop, take, Result, Ok, Err, Some, refl}
use Rattle.std.proofs.Common.{sym, ◌∙◌, ap, arith, append_assoc, decimal}
use Rattle.std.proofs.lemmas.Bool.Decides.{nat_tests}
use Rattle.std.proofs.lemmas.Bool.{le-ltb}
use Rattle.std.specs.Char.{is_ascii_digit, is_ascii_uppercase}
use Rattle.std.specs.List.{take_while, prefix_len, list_all}
use Rattle.plex_lexer.specs.declared.fault.LexFault.{LexFault}
use Rattle.plex_lexer.specs.declared.token.Token.{Token}
use Rattle.plex_lexer.specs.declared.token.TokenKind.{TokenKind}
use Rattle.plex_lexer.specs.declared.token.TokenKind.TheVariants as kinds
use Rattle.plex_lexer.specs.Bytes.{is_blank, in_word}
use Rattle.plex_lexer.specs.Lexed.{Between, lexed, put}
use Rattle.plex_lexer.specs.Marks.{single_mark}
use Rattle.plex_lexer.specs.Pieces.{with_tokens, token_at, and_the_rest, kind_and_rest}
use Rattle.plex_lexer.specs.Words.{word_kind, number_kind, number_or_fault}
use Rattle.plex_lexer.proofs.Steps.{at_token, at_blank, yes_then, no_then}
use Rattle.kept_trees.specs.Keeps.{IsName}
use Rattle.std.proofs.lemmas.Fmt.{decimal_nonempty}
use Rattle.text_lines.proofs.Numerals.{decimal_all_digits, number_of-decimal}
use Rattle.plex_num.specs.Number.{number_of}

-- the kinds of tokens
abbrev pub kinds_of : List Token → List TokenKind
kinds_of [] = []
kinds_of (t ∷ ts) = t.kind ∷ kinds_of ts

pub kinds-append : (u v : List Token) → kinds_of (u ++ v) ≡ kinds_of u ++ kinds_of v
kinds-append [] v = refl
kinds-append (t ∷ u) v = ap (λ ks. t.kind ∷ ks) (kinds-append u v)

-- the last bytes of a text of n bytes are read as tokens of these kinds, and then the rest
pub record Read (ks : List TokenKind) (n line : ℕ) (bytes rest : List ℕ) : Type 0 where
  pub next : ℕ
  pub tokens : List Token
  pub same : kinds_of tokens ≡ ks
  pub is : lexed Between n line (bytes ++ rest) ≡ with_tokens tokens (lexed Between n next rest)

-- .. in every text
abbrev pub Reads : List TokenKind → List ℕ → Type 0
Reads ks bytes = (n line : ℕ) (rest : List ℕ) → Read ks n line bytes rest

regroup : (a b : List Token) (z : Result (List Token) LexFault) → with_tokens a (with_tokens b z) ≡ with_tokens (a ++ b) z
regroup a b (Ok ts) = ap (λ v. Ok v) (sym (append_assoc a b ts))
regroup a b (Err e) = refl

in_front : (t : Token) (z : Result (List Token) LexFault) → put t z ≡ with_tokens (t ∷ []) z
in_front t (Ok ts) = refl
in_front t (Err e) = refl

no_front : (z : Result (List Token) LexFault) → z ≡ with_tokens [] z
no_front (Ok ts) = refl
no_front (Err e) = refl

-- no bytes
pub Reads-none : Reads [] []
Reads-none n line rest = record { next = line; tokens = []; same = refl; is = no_front (lexed Between n line rest) }

-- some after others
pub Reads-append : (ks js : List TokenKind) (a b : List ℕ) → Reads ks a → Reads js b → Reads (ks ++ js) (a ++ b)
Reads-append ks js a b ra rb n line rest =
    let r = ra n line (b ++ rest) in
    let s = rb n r.next rest in
    record {
      next = s.next;
      tokens = r.tokens ++ s.tokens;
      same = kinds-append r.tokens s.tokens ∙ ap (λ z. z ++ kinds_of s.tokens) r.same ∙ ap (λ z. ks ++ z) s.same;
      is = ap (lexed Between n line) (append_assoc a b rest) ∙ r.is ∙ ap (with_tokens r.tokens) s.is ∙ regroup r.tokens s.tokens (lexed Between n s.next rest);
    }

-- one token
pub Reads-one : (k : TokenKind) (bytes : List ℕ) (step : ℕ → ℕ)
    → ((n line : ℕ) (rest : List ℕ) → lexed Between n line (bytes ++ rest)
    ≡ put (record { kind = k; line = line; offset = n - length (bytes ++ rest) })
    (lexed Between n (step line) rest))
    → Reads (k ∷ []) bytes
Reads-one k bytes step e n line rest = record {
  next = step line;
  tokens = record { kind = k; line = line; offset = n - length (bytes ++ rest) } ∷ [];
  same = refl;
  is = e n line rest ∙ in_front (record { kind = k; line = line; offset = n - length (bytes ++ rest) }) (lexed Between n (step line) rest);
}

-- a run that a blank ends

run_len : (p : ℕ → Bool) (bs rest : List ℕ) → list_all p bs ≡ true → p 32 ≡ false → prefix_len p (bs ++ (32 ∷ rest)) ≡ length bs
run_len p [] rest h stop = ap (λ b. cond b (1 + prefix_len p rest) 0) stop
run_len p (b ∷ bs) rest h stop = rw (both-first (p b) (list_all p bs) h, run_len p bs rest (both-second (p b) (list_all p bs) h) stop) (omega arith)
  where
    both-first : (a b : Bool) → (a && b) ≡ true → a ≡ true
    both-first true b h = refl
    both-first false b h = h

    both-second : (a b : Bool) → (a && b) ≡ true → b ≡ true
    both-second true b h = h
    both-second false b h = cc

take-all-of : (bs cs : List ℕ) → take (length bs) (bs ++ cs) ≡ bs
take-all-of [] cs = refl
take-all-of (b ∷ bs) cs = ap (λ z. b ∷ z) (take-all-of bs cs)

drop-all-of : (bs cs : List ℕ) → drop (length bs) (bs ++ cs) ≡ cs
drop-all-of [] cs = refl
drop-all-of (b ∷ bs) cs = drop-all-of bs cs

pub run_is : (p : ℕ → Bool) (bs rest : List ℕ) → list_all p bs ≡ true → p 32 ≡ false → take_while p (bs ++ (32 ∷ rest)) ≡ bs
run_is p bs rest h stop = ap (λ k. take k (bs ++ (32 ∷ rest))) (run_len p bs rest h stop) ∙ take-all-of bs (32 ∷ rest)

-- a byte that begins a word or a number begins no blank, comment or line

begins_word : (b : ℕ) → is_ascii_uppercase b ≡ true → (nat_eq b 10 ≡ false) × (is_blank b ≡ false) × (nat_eq b 33 ≡ false)
begins_word b h = (grind (arith, nat_tests), grind (arith, nat_tests), grind (arith, nat_tests))

begins_number : (b : ℕ) → is_ascii_digit b ≡ true → (nat_eq b 10 ≡ false) × (is_blank b ≡ false) × (nat_eq b 33 ≡ false) × (is_ascii_uppercase b ≡ false)
begins_number b h = (grind (arith, nat_tests), grind (arith, nat_tests), grind (arith, nat_tests), grind (arith, nat_tests))

after_blank : (n line : ℕ) (rest : List ℕ) → lexed Between n line (32 ∷ rest) ≡ lexed Between n line rest
after_blank n line rest = at_blank n line 32 rest refl refl

-- a word and a blank
pub Reads-word : (b : ℕ) (bs : List ℕ) (k : TokenKind) → is_ascii_uppercase b ≡ true → list_all in_word bs ≡ true
    → ((o l : ℕ) → word_kind (b ∷ bs) o l ≡ Ok k) → Reads (k ∷ []) ((b ∷ bs) ++ (32 ∷ []))
Reads-word b bs k up all kind = Reads-one k ((b ∷ bs) ++ (32 ∷ [])) (λ l. l) go
  where
    at_word : (o line : ℕ) (rest : List ℕ) → token_at o line b (bs ++ (32 ∷ rest)) ≡ Ok (record { kind = k; line = line; offset = o }, 32 ∷ rest)
    at_word o line rest =
        let run : take_while in_word (bs ++ (32 ∷ rest)) ≡ bs = run_is in_word bs rest all refl in
        yes_then (is_ascii_uppercase b) _ _ up
        ∙ ap (λ z. kind_and_rest (word_kind (b ∷ z) o line) o line (drop (length z) (bs ++ (32 ∷ rest)))) run
        ∙ ap (λ z. kind_and_rest z o line (drop (length bs) (bs ++ (32 ∷ rest)))) (kind o line)
        ∙ ap (λ z. kind_and_rest (Ok k) o line z) (drop-all-of bs (32 ∷ rest))

    go : (n line : ℕ) (rest : List ℕ) → lexed Between n line (((b ∷ bs) ++ (32 ∷ [])) ++ rest)
        ≡ put (record { kind = k; line = line; offset = n - length (((b ∷ bs) ++ (32 ∷ [])) ++ rest) })
        (lexed Between n line rest)
    go n line rest =
        let e : ((b ∷ bs) ++ (32 ∷ [])) ++ rest ≡ b ∷ (bs ++ (32 ∷ rest)) = append_assoc (b ∷ bs) (32 ∷ []) rest in
        let no = begins_word b up in
        ap (lexed Between n line) e
        ∙ at_token n line b (bs ++ (32 ∷ rest)) no.0 no.1 no.2
        ∙ ap (and_the_rest n line) (at_word (n - length (b ∷ (bs ++ (32 ∷ rest)))) line rest)
        ∙ ap (put (record { kind = k; line = line; offset = n - length (b ∷ (bs ++ (32 ∷ rest))) })) (after_blank n line rest)
        ∙ ap (λ z. put (record { kind = k; line = line; offset = n - length z }) (lexed Between n line rest)) (sym e)

-- digits and a blank
Reads-digits : (b : ℕ) (bs : List ℕ) (k : TokenKind) → is_ascii_digit b ≡ true → list_all is_ascii_digit bs ≡ true
    → ((o l : ℕ) → number_kind (b ∷ bs) o l ≡ Ok k) → Reads (k ∷ []) ((b ∷ bs) ++ (32 ∷ []))
Reads-digits b bs k up all kind = Reads-one k ((b ∷ bs) ++ (32 ∷ [])) (λ l. l) go
  where
    at_digits : (o line : ℕ) (rest : List ℕ) → token_at o line b (bs ++ (32 ∷ rest)) ≡ Ok (record { kind = k; line = line; offset = o }, 32 ∷ rest)
    at_digits o line rest =
        let run : take_while is_ascii_digit (bs ++ (32 ∷ rest)) ≡ bs = run_is is_ascii_digit bs rest all refl in
        no_then (is_ascii_uppercase b) _ _ ((begins_number b up).3) ∙ yes_then (is_ascii_digit b) _ _ up
        ∙ ap (λ z. kind_and_rest (number_kind (b ∷ z) o line) o line (drop (length z) (bs ++ (32 ∷ rest)))) run
        ∙ ap (λ z. kind_and_rest z o line (drop (length bs) (bs ++ (32 ∷ rest)))) (kind o line)
        ∙ ap (λ z. kind_and_rest (Ok k) o line z) (drop-all-of bs (32 ∷ rest))

    go : (n line : ℕ) (rest : List ℕ) → lexed Between n line (((b ∷ bs) ++ (32 ∷ [])) ++ rest)
        ≡ put (record { kind = k; line = line; offset = n - length (((b ∷ bs) ++ (32 ∷ [])) ++ rest) })
        (lexed Between n line rest)
    go n line rest =
        let e : ((b ∷ bs) ++ (32 ∷ [])) ++ rest ≡ b ∷ (bs ++ (32 ∷ rest)) = append_assoc (b ∷ bs) (32 ∷ []) rest in
        let no = begins_number b up in
        ap (lexed Between n line) e
        ∙ at_token n line b (bs ++ (32 ∷ rest)) no.0 no.1 no.2
        ∙ ap (and_the_rest n line) (at_digits (n - length (b ∷ (bs ++ (32 ∷ rest)))) line rest)
        ∙ ap (put (record { kind = k; line = line; offset = n - length (b ∷ (bs ++ (32 ∷ rest))) })) (after_blank n line rest)
        ∙ ap (λ z. put (record { kind = k; line = line; offset = n - length z }) (lexed Between n line rest)) (sym e)

both-first : (a b : Bool) → (a && b) ≡ true → a ≡ true
both-first true b h = refl
both-first false b h = h

both-second : (a b : Bool) → (a && b) ≡ true → b ≡ true
both-second true b h = h
both-second false b h = cc

-- a name
pub Reads-name : (name : List ℕ) → IsName name → Reads (kinds.Name name ∷ []) (name ++ (32 ∷ []))
Reads-name [] is = absurd (no is.first)
  where
    no : is_ascii_uppercase 0 ≡ true → ⊥
    no h = cc
Reads-name (b ∷ bs) is = Reads-word b bs (kinds.Name (b ∷ bs)) is.first (both-second (in_word b) (list_all in_word bs) is.others) kind
  where
    kind : (o l : ℕ) → word_kind (b ∷ bs) o l ≡ Ok (kinds.Name (b ∷ bs))
    kind o l = rw (le-ltb 31 (length (b ∷ bs)) is.short, is.free) refl

-- a number
digits_read : (n : ℕ) (ds : List ℕ) → 0 < length ds → list_all is_ascii_digit ds ≡ true → number_of ds ≡ Some n → Reads (kinds.Number n ∷ []) (ds ++ (32 ∷ []))
digits_read n [] some all is = absurd (omega arith)
digits_read n (b ∷ bs) some all is = Reads-digits b bs (kinds.Number n)
    (both-first (is_ascii_digit b) (list_all is_ascii_digit bs) all)
    (both-second (is_ascii_digit b) (list_all is_ascii_digit bs) all) (λ o l. ap (λ z. number_or_fault z o l) is)

pub Reads-number : (n : ℕ) → n < 2 ^ 32 → Reads (kinds.Number n ∷ []) (decimal n ++ (32 ∷ []))
Reads-number n h = (let wide : n < 2 ^ 64 = omega arith in digits_read n (decimal n) (decimal_nonempty n wide)
    (decimal_all_digits n wide) (number_of-decimal n h))

-- a semicolon and an LF
pub Reads-semi : Reads (kinds.Mark 0 ∷ []) (59 ∷ 10 ∷ [])
unfolding lexed single_mark
Reads-semi = Reads-one (kinds.Mark 0) (59 ∷ 10 ∷ []) (λ l. l + 1) (λ n line rest. refl)
