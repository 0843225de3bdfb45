-- The lexer's steps, over plain variables.
use Rattle.std.proofs.Common.{◌≡◌, ℕ, suc, ◌+◌, ◌-◌, Bool, true, false, cond, nat_eq, List, [], ◌∷◌}
use Rattle.std.proofs.Common.{◌++◌, length, drop, Result, Ok, Err, Option, Some, None, refl, sym}
use Rattle.std.proofs.Common.{◌∙◌, ap, arith, append_assoc, inl, inr}
use Rattle.std.specs.Char.{is_ascii_digit, is_ascii_uppercase}
use Rattle.std.specs.List.{take_while, prefix_len}
use Rattle.std.proofs.lemmas.List.Folds.{length-prefix_len}
use Rattle.std.proofs.lemmas.List.{append-nil}
use Rattle.std.proofs.lemmas.Bool.{cases_Bool, eq-eqb, ne_eqb}
use Rattle.plex_lexer.specs.declared.fault.LexFault.{LexFault}
use Rattle.plex_lexer.specs.declared.fault.LexFault.TheVariants as faults
use Rattle.plex_lexer.specs.declared.token.Token.{Token}
use Rattle.plex_lexer.specs.declared.token.TokenKind.{TokenKind}
use Rattle.plex_lexer.specs.Bytes.{is_blank, in_word, in_comment}
use Rattle.plex_lexer.specs.Lexed.{Mode, Between, Comment, InWord, InDigits, InMark, goes_on, lexed}
use Rattle.plex_lexer.specs.Lexed.{tokens_of, begins, put, with_kind, with_mark, TellsTokens}
use Rattle.plex_lexer.specs.Marks.{mark_of}
use Rattle.plex_lexer.specs.Pieces.{with_tokens, token_at, and_the_rest, kind_and_rest}
use Rattle.plex_lexer.specs.Pieces.{mark_and_rest}
use Rattle.plex_lexer.specs.Words.{word_kind, number_kind}

-- the modes that take a run
data Runs : Mode → Type 0 where
  comment : Runs Comment
  word : Runs InWord
  digits : Runs InDigits

run_on : (m : Mode) → Runs m → (n line b : ℕ) (bs : List ℕ) → goes_on m b ≡ true → lexed m n line (b ∷ bs) ≡ lexed m n line bs
unfolding lexed
run_on Comment comment n line b bs h = ap (λ y. cond y (lexed Comment n line bs) (begins (λ k l. lexed k n l bs) (n - length (b ∷ bs)) line b bs)) h
run_on InWord word n line b bs h = ap (λ y. cond y (lexed InWord n line bs) (begins (λ k l. lexed k n l bs) (n - length (b ∷ bs)) line b bs)) h
run_on InDigits digits n line b bs h = ap (λ y. cond y (lexed InDigits n line bs) (begins (λ k l. lexed k n l bs) (n - length (b ∷ bs)) line b bs)) h
run_on Between r n line b bs h = elim r [ ]
run_on InMark r n line b bs h = elim r [ ]

run_off : (m : Mode) → Runs m → (n line b : ℕ) (bs : List ℕ) → goes_on m b ≡ false → lexed m n line (b ∷ bs) ≡ lexed Between n line (b ∷ bs)
unfolding lexed
run_off Comment comment n line b bs h = ap (λ y. cond y (lexed Comment n line bs) (begins (λ k l. lexed k n l bs) (n - length (b ∷ bs)) line b bs)) h
run_off InWord word n line b bs h = ap (λ y. cond y (lexed InWord n line bs) (begins (λ k l. lexed k n l bs) (n - length (b ∷ bs)) line b bs)) h
run_off InDigits digits n line b bs h = ap (λ y. cond y (lexed InDigits n line bs) (begins (λ k l. lexed k n l bs) (n - length (b ∷ bs)) line b bs)) h
run_off Between r n line b bs h = elim r [ ]
run_off InMark r n line b bs h = elim r [ ]

run_end : (m : Mode) → Runs m → (n line : ℕ) → lexed m n line [] ≡ lexed Between n line []
unfolding lexed
run_end Comment comment n line = refl
run_end InWord word n line = refl
run_end InDigits digits n line = refl
run_end Between r n line = elim r [ ]
run_end InMark r n line = elim r [ ]

-- a run is over where its bytes are
run_over : (m : Mode) → Runs m → (n line : ℕ) (bs : List ℕ) → lexed m n line bs ≡ lexed Between n line (drop (prefix_len (goes_on m) bs) bs)
run_over m r n line [] = run_end m r n line
run_over m r n line (b ∷ bs) = elim (cases_Bool (goes_on m b)) [
  | inl h ↦
      let one : 1 + prefix_len (goes_on m) bs ≡ suc (prefix_len (goes_on m) bs) = omega arith in
      let e : cond (goes_on m b) (1 + prefix_len (goes_on m) bs) 0 ≡ suc (prefix_len (goes_on m) bs) =
      ap (λ y. cond y (1 + prefix_len (goes_on m) bs) 0) h ∙ one in
      run_on m r n line b bs h ∙ run_over m r n line bs ∙ ap (λ k. lexed Between n line (drop k (b ∷ bs))) (sym e)
  | inr h ↦ run_off m r n line b bs h ∙ ap (λ k. lexed Between n line (drop k (b ∷ bs))) (sym (ap (λ y. cond y (1 + prefix_len (goes_on m) bs) 0) h))
]

pub word_over : (n line : ℕ) (bs : List ℕ) → lexed InWord n line bs ≡ lexed Between n line (drop (length (take_while in_word bs)) bs)
word_over n line bs = run_over InWord word n line bs ∙ ap (λ k. lexed Between n line (drop k bs)) (sym (length-prefix_len in_word bs))

pub digits_over : (n line : ℕ) (bs : List ℕ) → lexed InDigits n line bs ≡ lexed Between n line (drop (length (take_while is_ascii_digit bs)) bs)
digits_over n line bs = run_over InDigits digits n line bs ∙ ap (λ k. lexed Between n line (drop k bs)) (sym (length-prefix_len is_ascii_digit bs))

pub comment_over : (n line : ℕ) (bs : List ℕ) → lexed Comment n line bs ≡ lexed Between n line (drop (length (take_while in_comment bs)) bs)
comment_over n line bs = run_over Comment comment n line bs ∙ ap (λ k. lexed Between n line (drop k bs)) (sym (length-prefix_len in_comment bs))

pub yes_then : {Z : Type 0} (b : Bool) (x y : Z) → b ≡ true → cond b x y ≡ x
yes_then b x y h = ap (λ z. cond z x y) h

pub no_then : {Z : Type 0} (b : Bool) (x y : Z) → b ≡ false → cond b x y ≡ y
no_then b x y h = ap (λ z. cond z x y) h

pub at_line : (n line b : ℕ) (bs : List ℕ) → nat_eq b 10 ≡ true → lexed Between n line (b ∷ bs) ≡ lexed Between n (line + 1) bs
unfolding lexed
at_line n line b bs h = yes_then (nat_eq b 10) _ _ h

pub at_blank : (n line b : ℕ) (bs : List ℕ) → nat_eq b 10 ≡ false → is_blank b ≡ true → lexed Between n line (b ∷ bs) ≡ lexed Between n line bs
unfolding lexed
at_blank n line b bs h k = no_then (nat_eq b 10) _ _ h ∙ yes_then (is_blank b) _ _ k

pub at_comment : (n line b : ℕ) (bs : List ℕ) → nat_eq b 10 ≡ false → is_blank b ≡ false → nat_eq b 33 ≡ true
    → lexed Between n line (b ∷ bs) ≡ lexed Between n line (drop (length (take_while in_comment bs)) bs)
unfolding lexed
at_comment n line b bs h k j = here ∙ comment_over n line bs
  where
    here : lexed Between n line (b ∷ bs) ≡ lexed Comment n line bs
    here = no_then (nat_eq b 10) _ _ h ∙ no_then (is_blank b) _ _ k ∙ yes_then (nat_eq b 33) _ _ j

-- at any other byte a token is taken
pub at_token : (n line b : ℕ) (bs : List ℕ) → nat_eq b 10 ≡ false → is_blank b ≡ false → nat_eq b 33 ≡ false
    → lexed Between n line (b ∷ bs) ≡ and_the_rest n line (token_at (n - length (b ∷ bs)) line b bs)
unfolding lexed
at_token n line b bs h k j = no_then (nat_eq b 10) _ _ h ∙ no_then (is_blank b) _ _ k ∙ no_then (nat_eq b 33) _ _ j ∙ rest
  where
    o : ℕ
    o = n - length (b ∷ bs)

    kinds : (r : Result TokenKind LexFault) (x : Result (List Token) LexFault) (left : List ℕ)
        → x ≡ lexed Between n line left → with_kind r (n - length (b ∷ bs)) line x
        ≡ and_the_rest n line (kind_and_rest r (n - length (b ∷ bs)) line left)
    kinds (Ok k) x left e = ap (put (record { kind = k; line = line; offset = n - length (b ∷ bs) })) e
    kinds (Err f) x left e = refl

    marks : (m : Option (ℕ × Bool)) (cs : List ℕ)
        → with_mark m (n - length (b ∷ bs)) line (λ m. lexed m n line cs)
        ≡ and_the_rest n line (mark_and_rest m (n - length (b ∷ bs)) line cs)
    marks None cs = refl
    marks (Some (m, false)) cs = refl
    marks (Some (m, true)) [] = refl
    marks (Some (m, true)) (c ∷ cs) = refl

    rest : cond (is_ascii_uppercase b) (with_kind (word_kind (b ∷ take_while in_word bs) (n - length (b ∷ bs)) line)
        (n - length (b ∷ bs)) line (lexed InWord n line bs))
        (cond (is_ascii_digit b) (with_kind (number_kind (b ∷ take_while is_ascii_digit bs) (n - length (b ∷ bs)) line)
        (n - length (b ∷ bs)) line (lexed InDigits n line bs))
        (with_mark (mark_of b bs) (n - length (b ∷ bs)) line (λ m. lexed m n line bs)))
        ≡ and_the_rest n line (token_at (n - length (b ∷ bs)) line b bs)
    rest = elim (cases_Bool (is_ascii_uppercase b)) [
      | inl y ↦ yes_then (is_ascii_uppercase b) _ _ y
          ∙ kinds (word_kind (b ∷ take_while in_word bs) (n - length (b ∷ bs)) line) (lexed InWord n line bs)
          (drop (length (take_while in_word bs)) bs) (word_over n line bs)
          ∙ ap (and_the_rest n line) (sym (yes_then (is_ascii_uppercase b) _ _ y))
      | inr y ↦ no_then (is_ascii_uppercase b) _ _ y ∙ elim (cases_Bool (is_ascii_digit b)) [
        | inl z ↦ yes_then (is_ascii_digit b) _ _ z
            ∙ kinds (number_kind (b ∷ take_while is_ascii_digit bs) (n - length (b ∷ bs)) line)
            (lexed InDigits n line bs) (drop (length (take_while is_ascii_digit bs)) bs) (digits_over n line bs)
            ∙ ap (and_the_rest n line) (sym (no_then (is_ascii_uppercase b) _ _ y ∙ yes_then (is_ascii_digit b) _ _ z))
        | inr z ↦ no_then (is_ascii_digit b) _ _ z ∙ marks (mark_of b bs) bs
            ∙ ap (and_the_rest n line) (sym (no_then (is_ascii_uppercase b) _ _ y ∙ no_then (is_ascii_digit b) _ _ z))
      ]
    ]

-- what is read: tokens, or the first fault
abbrev Read : Type 0
Read = Result (List Token) LexFault

pub line_on : (front : List Token) (n line b : ℕ) (w bs : List ℕ) (all : Read) → w ≡ b ∷ bs → b ≡ 10
    → with_tokens front (lexed Between n line w) ≡ all → with_tokens front (lexed Between n (line + 1) bs) ≡ all
line_on front n line b w bs all e h i = sym (ap (with_tokens front) (ap (lexed Between n line) e ∙ at_line n line b bs (eq-eqb b 10 h))) ∙ i

pub blank_on : (front : List Token) (n line b : ℕ) (w bs : List ℕ) (all : Read) → w ≡ b ∷ bs → (b ≡ 10 → ⊥)
    → is_blank b ≡ true → with_tokens front (lexed Between n line w) ≡ all
    → with_tokens front (lexed Between n line bs) ≡ all
blank_on front n line b w bs all e h k i = sym (ap (with_tokens front) (ap (lexed Between n line) e ∙ at_blank n line b bs (ne_eqb b 10 h) k)) ∙ i

pub comment_on : (front : List Token) (n line b : ℕ) (w bs rest : List ℕ) (all : Read) → w ≡ b ∷ bs → (b ≡ 10 → ⊥)
    → is_blank b ≡ false → b ≡ 33 → rest ≡ drop (length (take_while in_comment bs)) bs
    → with_tokens front (lexed Between n line w) ≡ all → with_tokens front (lexed Between n line rest) ≡ all
comment_on front n line b w bs rest all e h k j d i = ap (λ r. with_tokens front (lexed Between n line r)) d
    ∙ (sym (ap (with_tokens front) (ap (lexed Between n line) e
    ∙ at_comment n line b bs (ne_eqb b 10 h) k (eq-eqb b 33 j))) ∙ i)

pub token_on : (front : List Token) (n line b : ℕ) (w bs rest : List ℕ) (t : Token) (o : ℕ) (all : Read) → w ≡ b ∷ bs
    → (b ≡ 10 → ⊥) → is_blank b ≡ false → (b ≡ 33 → ⊥) → o ≡ n - length w → Ok (t, rest) ≡ token_at o line b bs
    → with_tokens front (lexed Between n line w) ≡ all
    → with_tokens (front ++ (t ∷ [])) (lexed Between n line rest) ≡ all
token_on front n line b w bs rest t o all e h k j oe g i =
    let here : lexed Between n line w ≡ put t (lexed Between n line rest) =
    ap (lexed Between n line) e ∙ at_token n line b bs (ne_eqb b 10 h) k (ne_eqb b 33 j)
    ∙ ap (and_the_rest n line) (ap (λ x. token_at x line b bs) (ap (λ z. n - length z) (sym e) ∙ sym oe) ∙ sym g) in
    regroup (lexed Between n line rest) ∙ (sym (ap (with_tokens front) here) ∙ i)
  where
    regroup : (z : Read) → with_tokens (front ++ (t ∷ [])) z ≡ with_tokens front (put t z)
    regroup (Ok ts) = ap (λ v. Ok v) (append_assoc front (t ∷ []) ts)
    regroup (Err x) = refl

pub token_bad : (front : List Token) (n line b : ℕ) (w bs : List ℕ) (f : LexFault) (o : ℕ) (all : Read) → w ≡ b ∷ bs
    → (b ≡ 10 → ⊥) → is_blank b ≡ false → (b ≡ 33 → ⊥) → o ≡ n - length w → Err f ≡ token_at o line b bs
    → with_tokens front (lexed Between n line w) ≡ all → all ≡ Err f
token_bad front n line b w bs f o all e h k j oe g i =
    let here : lexed Between n line w ≡ Err f =
    ap (lexed Between n line) e ∙ at_token n line b bs (ne_eqb b 10 h) k (ne_eqb b 33 j)
    ∙ ap (and_the_rest n line) (ap (λ x. token_at x line b bs) (ap (λ z. n - length z) (sym e) ∙ sym oe) ∙ sym g) in
    sym i ∙ ap (with_tokens front) here

pub end_on : (front : List Token) (n line : ℕ) (w : List ℕ) (all : Read) → w ≡ [] → with_tokens front (lexed Between n line w) ≡ all → all ≡ Ok front
unfolding lexed
end_on front n line w all e i = sym i ∙ ap (λ z. with_tokens front (lexed Between n line z)) e ∙ ap (λ v. Ok v) (append-nil front)

pub begin_on : (w : List ℕ) → with_tokens [] (lexed Between (length w) 1 w) ≡ tokens_of w
unfolding tokens_of
begin_on w = same (lexed Between (length w) 1 w)
  where
    same : (z : Read) → with_tokens [] z ≡ z
    same (Ok ts) = refl
    same (Err e) = refl

pub tells_err : (e : LexFault) (read : Read) → read ≡ Err e → TellsTokens (Err e) read
tells_err (faults.BadByte o l) read h = h
tells_err (faults.BadNumber o l) read h = h
tells_err (faults.LongName o l) read h = h
tells_err faults.Memory read h = tt
