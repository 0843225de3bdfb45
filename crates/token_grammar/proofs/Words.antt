-- Names and numbers are read exactly.
use Rattle.std.proofs.Common.{◌≡◌, ℕ, ◌+◌, ◌*◌, Bool, true, false, cond, List, [], refl, sym, ◌∙◌}
use Rattle.std.proofs.Common.{ap, arith, codes}
use Rattle.std.proofs.lemmas.Bool.Decides.{nat_tests}
use Rattle.std.specs.Str.{bytes_eq}
use Rattle.std.proofs.lemmas.Slice.Eq.{bytes_eq-Decides}
use Rattle.plex_lexer.specs.declared.token.Token.{Token}
use Rattle.plex_lexer.specs.declared.token.TokenKind.{TokenKind}
use Rattle.plex_lexer.specs.declared.token.TokenKind.TheVariants as kinds
use Rattle.token_grammar.specs.declared.named.Named.{Named}
use Rattle.token_grammar.specs.declared.named.Numbered.{Numbered}
use Rattle.token_grammar.specs.declared.named.Leveled.{Leveled}
use Rattle.plex_num.specs.declared.level.Level.{Level}
use Rattle.plex_num.specs.declared.level.Level.TheVariants.{A, B, C, D}
use Rattle.token_grammar.specs.Language.{mem, name_class, kind_class, NAME, NUMBER, LEVEL, named}
use Rattle.token_grammar.specs.Language.{numbered, leveled, level_name, line_at}
use Rattle.token_grammar.specs.Reading.{name_in, number_in, named_at, numbered_at, name_read}
use Rattle.token_grammar.specs.Reading.{number_read, level_of, leveled_at, level_read}
use Rattle.token_grammar.proofs.Exact.{Exact, Exact-word, Exact-same, Exact-lined, Lined, one}

-- a token of each kind
abbrev pub a_keyword : ℕ → Token
a_keyword k = record { kind = kinds.Keyword k; line = 1; offset = 0 }

abbrev pub a_mark : ℕ → Token
a_mark m = record { kind = kinds.Mark m; line = 1; offset = 0 }

abbrev pub a_name : Token
a_name = record { kind = kinds.Name []; line = 1; offset = 0 }

abbrev pub a_level : Token
a_level = record { kind = kinds.Name (codes "A"); line = 1; offset = 0 }

abbrev pub a_number : Token
a_number = record { kind = kinds.Number 0; line = 1; offset = 0 }

-- a name's class is one of the names'
chosen : (a b c d : Bool) → mem (cond a 1 (cond b 2 (cond c 3 (cond d 4 0)))) NAME ≡ true
chosen true b c d = refl
chosen false true c d = refl
chosen false false true d = refl
chosen false false false true = refl
chosen false false false false = refl

pub is_in_names : (n : List ℕ) → mem (name_class n) NAME ≡ true
is_in_names n = chosen (bytes_eq n (codes "A")) (bytes_eq n (codes "B")) (bytes_eq n (codes "C")) (bytes_eq n (codes "D"))

past_names : (k : ℕ) → mem (k + 6) NAME ≡ true → ⊥
past_names k h = grind (arith, nat_tests)

past_numbers : (k : ℕ) → mem (k + 6) NUMBER ≡ true → ⊥
past_numbers k h = grind (arith, nat_tests)

number_no_name : (a b c d : Bool) → mem (cond a 1 (cond b 2 (cond c 3 (cond d 4 0)))) NUMBER ≡ true → ⊥
number_no_name true b c d h = cc
number_no_name false true c d h = cc
number_no_name false false true d h = cc
number_no_name false false false true h = cc
number_no_name false false false false h = cc

pub is_name : (k : TokenKind) → mem (kind_class k) NAME ≡ true → k ≡ kinds.Name (name_in k)
is_name (kinds.Name n) h = refl
is_name (kinds.Number n) h = cc
is_name (kinds.Keyword n) h = absurd (past_names (2 * n) h)
is_name (kinds.Mark n) h = absurd (past_names (2 * n + 1) (let e : 2 * n + 1 + 6 ≡ 2 * n + 7 = omega arith in ap (λ c. mem c NAME) e ∙ h))

pub is_number : (k : TokenKind) → mem (kind_class k) NUMBER ≡ true → k ≡ kinds.Number (number_in k)
is_number (kinds.Name n) h = absurd (number_no_name (bytes_eq n (codes "A")) (bytes_eq n (codes "B")) (bytes_eq n (codes "C")) (bytes_eq n (codes "D")) h)
is_number (kinds.Number n) h = refl
is_number (kinds.Keyword n) h = absurd (past_numbers (2 * n) h)
is_number (kinds.Mark n) h = absurd (past_numbers (2 * n + 1) (let e : 2 * n + 1 + 6 ≡ 2 * n + 7 = omega arith in ap (λ c. mem c NUMBER) e ∙ h))

named_same : (a b : Named) → a.line ≡ b.line → a.name ≡ b.name → a ≡ b
named_same a b p q = λ i. record { line = p i; name = q i }

numbered_same : (a b : Numbered) → a.line ≡ b.line → a.value ≡ b.value → a ≡ b
numbered_same a b p q = λ i. record { line = p i; value = q i }

pub Exact-name : Exact (named true) (named true) NAME false [] name_read name_read
unfolding name_read
Exact-name = Exact-same (named true) (named true) to from to (Exact-lined named_at (Exact-word NAME a_name refl))
  where
    to : (x : Named) (u : List Token) → Lined named_at (one NAME) x u → named true x u
    to x u h = (
      h.0,
      h.2.0,
      is_name h.0.kind h.2.1
          ∙ ap (λ n. kinds.Name n) (sym (ap (λ (y : Named). y.name) h.1)),
      λ _. ap (λ (y : Named). y.line) h.1
          ∙ ap line_at h.2.0,
    )

    from : (x : Named) (u : List Token) → named true x u → Lined named_at (one NAME) x u
    from x u h = (
      h.0,
      named_same x (named_at (line_at u) h.0) (h.3 refl ∙ sym (ap line_at h.1)) (sym (ap name_in h.2)),
      (h.1, ap (λ k. mem (kind_class k) NAME) h.2 ∙ is_in_names x.name),
    )

pub Exact-number : Exact (numbered true) (numbered true) NUMBER false [] number_read number_read
unfolding number_read
Exact-number = Exact-same (numbered true) (numbered true) to from to (Exact-lined numbered_at (Exact-word NUMBER a_number refl))
  where
    to : (x : Numbered) (u : List Token) → Lined numbered_at (one NUMBER) x u → numbered true x u
    to x u h = (
      h.0,
      h.2.0,
      is_number h.0.kind h.2.1
          ∙ ap (λ n. kinds.Number n) (sym (ap (λ (y : Numbered). y.value) h.1)),
      λ _. ap (λ (y : Numbered). y.line) h.1
          ∙ ap line_at h.2.0,
    )

    from : (x : Numbered) (u : List Token) → numbered true x u → Lined numbered_at (one NUMBER) x u
    from x u h = (
      h.0,
      numbered_same x (numbered_at (line_at u) h.0) (h.3 refl ∙ sym (ap line_at h.1))
          (sym (ap number_in h.2)),
      (h.1, ap (λ k. mem (kind_class k) NUMBER) h.2),
    )

-- a name of the level's class is the name of the level
level_named : (n : List ℕ) (a b c d : Bool) → (a ≡ true → n ≡ codes "A") → (b ≡ true → n ≡ codes "B")
    → (c ≡ true → n ≡ codes "C") → (d ≡ true → n ≡ codes "D")
    → mem (cond a 1 (cond b 2 (cond c 3 (cond d 4 0)))) LEVEL ≡ true → n ≡ level_name (cond a A (cond b B (cond c C D)))
level_named n true b c d p q r s h = p refl
level_named n false true c d p q r s h = q refl
level_named n false false true d p q r s h = r refl
level_named n false false false true p q r s h = s refl
level_named n false false false false p q r s h = cc

past_levels : (k : ℕ) → mem (k + 6) LEVEL ≡ true → ⊥
past_levels k h = grind (arith, nat_tests)

pub is_level : (k : TokenKind) → mem (kind_class k) LEVEL ≡ true → k ≡ kinds.Name (level_name (level_of (name_in k)))
is_level (kinds.Name n) h =
    ap (λ m. kinds.Name m)
    (level_named n (bytes_eq n (codes "A")) (bytes_eq n (codes "B")) (bytes_eq n (codes "C")) (bytes_eq n (codes "D"))
    (bytes_eq-Decides n (codes "A")).0 (bytes_eq-Decides n (codes "B")).0 (bytes_eq-Decides n (codes "C")).0
    (bytes_eq-Decides n (codes "D")).0 h)
is_level (kinds.Number n) h = cc
is_level (kinds.Keyword n) h = absurd (past_levels (2 * n) h)
is_level (kinds.Mark n) h = absurd (past_levels (2 * n + 1) (let e : 2 * n + 1 + 6 ≡ 2 * n + 7 = omega arith in ap (λ c. mem c LEVEL) e ∙ h))

level_back : (l : Level) → (level_of (level_name l) ≡ l) × (mem (name_class (level_name l)) LEVEL ≡ true)
level_back A = (refl, refl)
level_back B = (refl, refl)
level_back C = (refl, refl)
level_back D = (refl, refl)

leveled_same : (a b : Leveled) → a.line ≡ b.line → a.level ≡ b.level → a ≡ b
leveled_same a b p q = λ i. record { line = p i; level = q i }

pub Exact-level : Exact (leveled true) (leveled true) LEVEL false [] level_read level_read
unfolding level_read
Exact-level = Exact-same (leveled true) (leveled true) to from to (Exact-lined leveled_at (Exact-word LEVEL a_level refl))
  where
    to : (x : Leveled) (u : List Token) → Lined leveled_at (one LEVEL) x u → leveled true x u
    to x u h = (
      h.0,
      h.2.0,
      is_level h.0.kind h.2.1
          ∙ ap (λ l. kinds.Name (level_name l)) (sym (ap (λ (y : Leveled). y.level) h.1)),
      λ _. ap
          (λ (y : Leveled). y.line) h.1 ∙ ap line_at h.2.0,
    )

    from : (x : Leveled) (u : List Token) → leveled true x u → Lined leveled_at (one LEVEL) x u
    from x u h = (
      h.0,
      leveled_same x (leveled_at (line_at u) h.0) (h.3 refl ∙ sym (ap line_at h.1))
          (sym (ap (λ k. level_of (name_in k)) h.2 ∙ (level_back x.level).0)),
      (h.1, ap (λ k. mem (kind_class k) LEVEL) h.2 ∙ (level_back x.level).1),
    )
