-- Each token is on its line.
use Rattle.std.proofs.Common.{true≢false, ◌≡◌, ℕ, ◌+◌, ◌-◌, ◌≤◌, Bool, true, false, cond, ◌&&◌}
use Rattle.std.proofs.Common.{nat_eq, List, [], ◌∷◌, ◌++◌, length, take, Result, Ok, Err, Option}
use Rattle.std.proofs.Common.{Some, None, refl, sym, ◌∙◌, ap, subst, arith, get_or, length-take-le}
use Rattle.std.proofs.Common.{append_assoc, add-zero, length-append, inl, inr, IfOk, All}
use Rattle.std.specs.Char.{is_ascii_digit, is_ascii_uppercase}
use Rattle.std.specs.List.{take_while}
use Rattle.std.proofs.lemmas.List.Elements.{All-cons, All-nil}
use Rattle.std.proofs.lemmas.List.Sums.{sum_by-append, count_by-le-length}
use Rattle.std.proofs.Math.Seq.{take-append_seam}
use Rattle.std.proofs.lemmas.Bool.{cases_Bool, eqb-true}
use Rattle.plex_lexer.specs.declared.fault.LexFault.{LexFault}
use Rattle.plex_lexer.specs.declared.token.Token.{Token}
use Rattle.plex_lexer.specs.declared.token.TokenKind.{TokenKind}
use Rattle.plex_lexer.specs.declared.token.TokenKind.TheVariants.{Mark}
use Rattle.plex_lexer.specs.Bytes.{is_blank, in_word, in_comment}
use Rattle.plex_lexer.specs.Lexed.{Mode, Between, Comment, InWord, InDigits, InMark, lexed}
use Rattle.plex_lexer.specs.Lexed.{tokens_of, begins, put, with_kind, with_mark}
use Rattle.plex_lexer.specs.Lines.{feeds, IsOnItsLine}
use Rattle.plex_lexer.specs.Marks.{single_mark, double_mark, longer, mark_of}
use Rattle.plex_lexer.specs.Words.{word_kind, number_kind}

-- what is read: tokens, or the first fault
abbrev Read : Type 0
Read = Result (List Token) LexFault

-- what is told of all tokens that were read
abbrev Lined : List ℕ → Read → Type 0
Lined w r = IfOk r (All (IsOnItsLine w))

-- the byte that a mark of two bytes leaves is no LF
abbrev Calm : Mode → List ℕ → Type 0
Calm InMark (b ∷ rest) = nat_eq b 10 ≡ false
Calm InMark [] = Unit {0}
Calm Between bs = Unit {0}
Calm Comment bs = Unit {0}
Calm InWord bs = Unit {0}
Calm InDigits bs = Unit {0}

pub feeds-push : (front : List ℕ) (b : ℕ) → feeds (front ++ b ∷ []) ≡ feeds front + cond (nat_eq b 10) 1 0
feeds-push front b = sum_by-append (λ x. cond (nat_eq x 10) 1 0) front (b ∷ []) ∙ omega arith

feeds-feed : (front : List ℕ) (b : ℕ) → nat_eq b 10 ≡ true → feeds (front ++ b ∷ []) ≡ feeds front + 1
feeds-feed front b h = feeds-push front b ∙ ap (λ t. feeds front + cond t 1 0) h

feeds-same : (front : List ℕ) (b : ℕ) → nat_eq b 10 ≡ false → feeds (front ++ b ∷ []) ≡ feeds front
feeds-same front b h = let e : feeds (front ++ b ∷ []) ≡ feeds front + 0 = feeds-push front b
    ∙ ap (λ t. feeds front + cond t 1 0) h in e ∙ add-zero (feeds front)

-- a branch of a choice
choose : (w : List ℕ) (t : Bool) (x y : Read) → (t ≡ true → Lined w x) → (t ≡ false → Lined w y) → Lined w (cond t x y)
choose w true x y p q = p refl
choose w false x y p q = q refl

put_lined : (w : List ℕ) (t : Token) (r : Read) → IsOnItsLine w t → Lined w r → Lined w (put t r)
put_lined w t (Ok ts) p h = All-cons (IsOnItsLine w) t ts p h
put_lined w t (Err f) p h = tt

kind_lined : (w : List ℕ) (k : Result TokenKind LexFault) (offset line : ℕ) (r : Read)
    → ((kind : TokenKind) → IsOnItsLine w (record { kind = kind; line = line; offset = offset })) → Lined w r
    → Lined w (with_kind k offset line r)
kind_lined w (Ok kind) offset line r p h = put_lined w (record { kind = kind; line = line; offset = offset }) r (p kind) h
kind_lined w (Err f) offset line r p h = tt

mark_lined : (w : List ℕ) (m : Option (ℕ × Bool)) (offset line : ℕ) (follow : Mode → Read)
    → ((kind : TokenKind) → IsOnItsLine w (record { kind = kind; line = line; offset = offset }))
    → ((n : ℕ) (two : Bool) → m ≡ Some (n, two) → Lined w (follow (cond two InMark Between))) → Lined w (with_mark m offset line follow)
mark_lined w None offset line follow p h = tt
mark_lined w (Some m) offset line follow p h = put_lined w (record { kind = Mark m.0; line = line; offset = offset })
    (follow (cond m.1 InMark Between)) (p (Mark m.0)) (h m.0 m.1 refl)

-- a mark's second byte is no LF
no_double : (b c : ℕ) (rest : List ℕ) → c ≡ 10 → double_mark b (c ∷ rest) ≡ None
no_double b c rest e = rw e (neither (nat_eq b 60) (nat_eq b 62))
  where
    neither : (s t : Bool) → ◌≡◌ {A = Option ℕ} (cond (s && false) (Some 11) (cond (t && false) (Some 12) (cond (s && false) (Some 13) None))) None
    neither true true = refl
    neither true false = refl
    neither false true = refl
    neither false false = refl

no_longer : (s : Option ℕ) (n : ℕ) → ◌≡◌ {A = Option (ℕ × Bool)} (longer None s) (Some (n, true)) → ⊥
no_longer s n e = true≢false (sym (sym (short s) ∙ ap two e))
  where
    two : Option (ℕ × Bool) → Bool
    two None = false
    two (Some m) = m.1

    short : (s : Option ℕ) → two (longer None s) ≡ false
    short None = refl
    short (Some k) = refl

mark_calm : (b : ℕ) (rest : List ℕ) (n : ℕ) (two : Bool) → mark_of b rest ≡ Some (n, two) → Calm (cond two InMark Between) rest
mark_calm b rest n false e = tt
mark_calm b [] n true e = tt
mark_calm b (c ∷ rest) n true e = elim (cases_Bool (nat_eq c 10)) [
  | inl h ↦ absurd (no_longer (single_mark b) n (sym (ap (λ d. longer d (single_mark b)) (no_double b c rest (eqb-true c 10 h))) ∙ e))
  | inr h ↦ h
]

-- a byte that goes on with a run is no LF
is_no_feed : (p : ℕ → Bool) (b : ℕ) → p 10 ≡ false → p b ≡ true → nat_eq b 10 ≡ false
is_no_feed p b not_there here = decide (nat_eq b 10) refl
  where
    decide : (t : Bool) → nat_eq b 10 ≡ t → t ≡ false
    decide true e = absurd (true≢false (sym here ∙ ap p (eqb-true b 10 e) ∙ not_there))
    decide false e = refl

module _ (w : List ℕ) where
  abbrev n : ℕ
  n = length w

  -- what begins at a byte is on its line, where what follows is
  begins_lined : (front : List ℕ) (line b : ℕ) (rest : List ℕ) → front ++ (b ∷ rest) ≡ w → line ≡ 1 + feeds front
      → ((mode : Mode) (l : ℕ) → l ≡ 1 + feeds (front ++ b ∷ []) → Calm mode rest → Lined w (lexed mode n l rest))
      → Lined w (begins (λ mode l. lexed mode n l rest) (n - length (b ∷ rest)) line b rest)
  begins_lined front line b rest whole on more =
      choose w (nat_eq b 10) _ _ (λ feed. more Between (line + 1) (omega (arith, feeds-feed front b feed)) tt) (λ no_feed.
      let same : line ≡ 1 + feeds (front ++ b ∷ []) = on ∙ ap (λ k. 1 + k) (sym (feeds-same front b no_feed)) in
      choose w (is_blank b) _ _ (λ _. more Between line same tt) (λ _.
      choose w (nat_eq b 33) _ _ (λ _. more Comment line same tt) (λ _.
      choose w (is_ascii_uppercase b) _ _ (λ _. kind_lined w (word_kind (b ∷ take_while in_word rest) offset line)
      offset line _ here (more InWord line same tt)) (λ _.
      choose w (is_ascii_digit b) _ _ (λ _. kind_lined w (number_kind (b ∷ take_while is_ascii_digit rest) offset line)
      offset line _ here (more InDigits line same tt)) (λ _.
      mark_lined w (mark_of b rest) offset line (λ mode. lexed mode n line rest) here
      (λ k two e. more (cond two InMark Between) line same (mark_calm b rest k two e)))))))
    where
      offset : ℕ
      offset = n - length (b ∷ rest)

      here : (kind : TokenKind) → IsOnItsLine w (record { kind = kind; line = line; offset = offset })
      here kind =
          let lengths : length front + length (b ∷ rest) ≡ n = sym (length-append front (b ∷ rest)) ∙ ap length whole in
          let at : offset ≡ length front = omega arith in
          let before : take offset w ≡ front = rw (at, ← whole) (take-append_seam front (b ∷ rest)) in
          (omega arith, on ∙ ap (λ k. 1 + feeds k) (sym before))

  -- all tokens that are read of the last bytes of w, after front, are on their lines
  lined : (front : List ℕ) (mode : Mode) (line : ℕ) (bs : List ℕ) → front ++ bs ≡ w → line ≡ 1 + feeds front → Calm mode bs → Lined w (lexed mode n line bs)
  unfolding lexed
  lined front Between line [] whole on calm = All-nil (IsOnItsLine w)
  lined front Comment line [] whole on calm = All-nil (IsOnItsLine w)
  lined front InWord line [] whole on calm = All-nil (IsOnItsLine w)
  lined front InDigits line [] whole on calm = All-nil (IsOnItsLine w)
  lined front InMark line [] whole on calm = All-nil (IsOnItsLine w)
  lined front InMark line (b ∷ rest) whole on calm = lined (front ++ b ∷ []) Between line rest
      (append_assoc front (b ∷ []) rest ∙ whole) (on ∙ ap (λ k. 1 + k) (sym (feeds-same front b calm))) tt
  lined front Between line (b ∷ rest) whole on calm = begins_lined front line b rest whole on
      (λ m l e c. lined (front ++ b ∷ []) m l rest (append_assoc front (b ∷ []) rest ∙ whole) e c)
  lined front Comment line (b ∷ rest) whole on calm = choose w (in_comment b) _ _
      (λ h. lined (front ++ b ∷ []) Comment line rest (append_assoc front (b ∷ []) rest ∙ whole)
      (on ∙ ap (λ k. 1 + k) (sym (feeds-same front b (is_no_feed in_comment b refl h)))) tt)
      (λ _. begins_lined front line b rest whole on (λ m l e c. lined (front ++ b ∷ []) m l rest (append_assoc front (b ∷ []) rest ∙ whole) e c))
  lined front InWord line (b ∷ rest) whole on calm = choose w (in_word b) _ _
      (λ h. lined (front ++ b ∷ []) InWord line rest (append_assoc front (b ∷ []) rest ∙ whole)
      (on ∙ ap (λ k. 1 + k) (sym (feeds-same front b (is_no_feed in_word b refl h)))) tt)
      (λ _. begins_lined front line b rest whole on (λ m l e c. lined (front ++ b ∷ []) m l rest (append_assoc front (b ∷ []) rest ∙ whole) e c))
  lined front InDigits line (b ∷ rest) whole on calm = choose w (is_ascii_digit b) _ _
      (λ h. lined (front ++ b ∷ []) InDigits line rest (append_assoc front (b ∷ []) rest ∙ whole)
      (on ∙ ap (λ k. 1 + k) (sym (feeds-same front b (is_no_feed is_ascii_digit b refl h)))) tt)
      (λ _. begins_lined front line b rest whole on (λ m l e c. lined (front ++ b ∷ []) m l rest (append_assoc front (b ∷ []) rest ∙ whole) e c))

pub tokens_on_their_lines : (text : List ℕ) (tokens : List Token) → tokens_of text ≡ Ok tokens → All (IsOnItsLine text) tokens
unfolding tokens_of
tokens_on_their_lines text tokens e = subst (Lined text) e (lined text [] Between 1 text refl refl tt)

pub lines_are_few : (text : List ℕ) (tokens : List Token) → tokens_of text ≡ Ok tokens → All (λ t. t.line ≤ 1 + length text) tokens
lines_are_few text tokens e = λ k d lt.
    let on : IsOnItsLine text (get_or tokens k d) = tokens_on_their_lines text tokens e k d lt in
    let offset : ℕ = (get_or tokens k d).offset in
    let few : feeds (take offset text) ≤ length (take offset text) = count_by-le-length (λ b. nat_eq b 10) (take offset text) in
    let long : length (take offset text) ≡ offset = length-take-le offset text (omega arith) in
    omega (arith, on.1)
