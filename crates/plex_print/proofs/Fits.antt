-- What is written for a thing of the grammar spells it, put together as the grammar is.
use Rattle.std.proofs.Common.{◌≡◌, ℕ, ◌+◌, ◌*◌, ◌≤◌, Bool, true, false, cond, List, [], ◌∷◌, ◌++◌}
use Rattle.std.proofs.Common.{Option, Some, None, IfSome, refl, sym, ◌∙◌, ap, arith, append_assoc}
use Rattle.std.proofs.Common.{codes, decimal, subst}
use Rattle.std.proofs.lemmas.Bool.{false≢true}
use Rattle.std.proofs.lemmas.Bool.Decides.{nat_tests}
use Rattle.std.proofs.lemmas.List.{append-nil}
use Rattle.std.specs.Str.{bytes_eq}
use Rattle.plex_lexer.specs.declared.token.Token.{Token}
use Rattle.plex_lexer.specs.declared.token.TokenKind.{TokenKind}
use Rattle.plex_lexer.specs.declared.token.TokenKind.TheVariants as kinds
use Rattle.plex_num.specs.declared.level.Level.{Level}
use Rattle.plex_num.specs.declared.level.Level.TheVariants.{A, B, C, D}
use Rattle.token_grammar.specs.declared.named.Named.{Named}
use Rattle.token_grammar.specs.declared.named.Numbered.{Numbered}
use Rattle.token_grammar.specs.declared.named.Leveled.{Leveled}
use Rattle.token_grammar.specs.Language.{Lang, word, ◌·◌, nothing, never, on, each, maybe, flag}
use Rattle.token_grammar.specs.Language.{named, numbered, leveled, level_name, mem, kind_class}
use Rattle.token_grammar.specs.Language.{name_class, keyword, mark}
use Rattle.plex_lexer.specs.Words.{keyword_of}
use Rattle.kept_trees.specs.Keeps.{IsName, IsNamed, KeepsNumber, Every}
use Rattle.kept_trees.specs.Words.{AreWords, IsTextWord}
use Rattle.plex_print.specs.Writing.{Writer, say, semi, leave, ◌▷◌, each_of, maybe_of, flag_of}
use Rattle.plex_print.specs.PrintedExpressions.{name_text, number_text, level_text}
use Rattle.plex_print.proofs.Lexing.{kinds_of, kinds-append, Reads, Reads-none, Reads-append}
use Rattle.plex_print.proofs.Lexing.{Reads-word, Reads-name, Reads-number, Reads-semi}
use Rattle.kept_trees.proofs.Kept.{words-first, words-second, word_at}

-- what was added to a text is read as tokens of these kinds
pub record Wrote (ks : List TokenKind) (old new : List ℕ) : Type 0 where
  pub bytes : List ℕ
  pub adds : new ≡ old ++ bytes
  pub reads : Reads ks bytes

-- some words spell the thing
pub record Some_words (M : Lang) : Type 0 where
  pub words : List Token
  pub are : AreWords words
  pub spell : M words

-- whatever words spell the thing, words of their kinds are written, and each list of words of those
-- kinds spells it, lines aside; some words spell it where it keeps K
pub record Fits (K : Type 0) (L M : Lang) (f : Writer) : Type 0 where
  pub wrote : (u : List Token) → AreWords u → L u → (old : List ℕ) → Wrote (kinds_of u) old (f old)
  pub same : (u v : List Token) → kinds_of u ≡ kinds_of v → L u → M v
  pub has : K → Some_words M

-- lists of words

words-both : (a b : List Token) → AreWords a → AreWords b → AreWords (a ++ b)
words-both [] b k j = j
words-both (t ∷ a) b k j = (k.0, words-both a b k.1 j)

record Cut (a b v : List Token) : Type 0 where
  first : List Token
  second : List Token
  is : v ≡ first ++ second
  first_same : kinds_of a ≡ kinds_of first
  second_same : kinds_of b ≡ kinds_of second

heads : (k j : TokenKind) (ks js : List TokenKind) → k ∷ ks ≡ j ∷ js → k ≡ j
heads k j ks js e = cc

tails : (k j : TokenKind) (ks js : List TokenKind) → k ∷ ks ≡ j ∷ js → ks ≡ js
tails k j ks js e = cc

cut : (a b v : List Token) → kinds_of (a ++ b) ≡ kinds_of v → Cut a b v
cut [] b v e = record { first = []; second = v; is = refl; first_same = refl; second_same = e }
cut (t ∷ a) b [] e = absurd (no e)
  where
    no : t.kind ∷ kinds_of (a ++ b) ≡ [] → ⊥
    no e = cc
cut (t ∷ a) b (s ∷ v) e =
    let c = cut a b v (tails t.kind s.kind (kinds_of (a ++ b)) (kinds_of v) e) in
    record {
      first = s ∷ c.first;
      second = c.second;
      is = ap (λ z. s ∷ z) c.is;
      first_same = ap (λ k. k ∷ kinds_of a) (heads t.kind s.kind (kinds_of (a ++ b)) (kinds_of v) e) ∙ ap (λ ks. s.kind ∷ ks) c.first_same;
      second_same = c.second_same;
    }

record One (k : TokenKind) (v : List Token) : Type 0 where
  token : Token
  is : v ≡ token ∷ []
  kind : token.kind ≡ k

-- the one token of a list that has the kinds of one token
one_of : (k : TokenKind) (v : List Token) → k ∷ [] ≡ kinds_of v → One k v
one_of k [] e = absurd (no e)
  where
    no : k ∷ [] ≡ [] → ⊥
    no e = cc
one_of k (s ∷ []) e = record { token = s; is = refl; kind = sym (heads k s.kind [] [] e) }
one_of k (s ∷ r ∷ v) e = absurd (no (tails k s.kind [] (r.kind ∷ kinds_of v) e))
  where
    no : [] ≡ r.kind ∷ kinds_of v → ⊥
    no e = cc

-- one after the other

pub Fits-then : {K J : Type 0} {L L' M M' : Lang} {f g : Writer} → Fits K L L' f → Fits J M M' g → Fits (K × J) (L · M) (L' · M') (f ▷ g)
Fits-then {K} {J} {L} {L'} {M} {M'} {f} {g} F G = record { wrote = wrote; same = same; has = has }
  where
    wrote : (u : List Token) → AreWords u → (L · M) u → (old : List ℕ) → Wrote (kinds_of u) old (g (f old))
    wrote u k h old =
        let k2 : AreWords (h.0 ++ h.1) = subst AreWords h.2 k in
        let x = F.wrote h.0 (words-first h.0 h.1 k2) h.3 old in
        let y = G.wrote h.1 (words-second h.0 h.1 k2) h.4 (f old) in
        let e : kinds_of h.0 ++ kinds_of h.1 ≡ kinds_of u = sym (kinds-append h.0 h.1) ∙ ap kinds_of (sym h.2) in
        record {
          bytes = x.bytes ++ y.bytes;
          adds = y.adds ∙ ap (λ z. z ++ y.bytes) x.adds ∙ append_assoc old x.bytes y.bytes;
          reads = subst (λ ks. Reads ks (x.bytes ++ y.bytes)) e (Reads-append (kinds_of h.0) (kinds_of h.1) x.bytes y.bytes x.reads y.reads);
        }

    same : (u v : List Token) → kinds_of u ≡ kinds_of v → (L · M) u → (L' · M') v
    same u v e h =
        let c = cut h.0 h.1 v (ap kinds_of (sym h.2) ∙ e) in
        (c.first, c.second, c.is, F.same h.0 c.first c.first_same h.3, G.same h.1 c.second c.second_same h.4)

    has : K × J → Some_words (L' · M')
    has k =
        let x = F.has k.0 in
        let y = G.has k.1 in
        record { words = x.words ++ y.words; are = words-both x.words y.words x.are y.are; spell = (x.words, y.words, refl, x.spell, y.spell) }

-- the same under another condition
pub Fits-as : {K J : Type 0} {L M : Lang} {f : Writer} → (J → K) → Fits K L M f → Fits J L M f
Fits-as to F = record { wrote = F.wrote; same = F.same; has = λ j. F.has (to j) }

-- a word first, and a word last
pub Fits-after : {J : Type 0} {L L' M M' : Lang} {f g : Writer} → Fits (Unit {0}) L L' f → Fits J M M' g → Fits J (L · M) (L' · M') (f ▷ g)
Fits-after {J} F G = Fits-as (λ (j : J). (tt, j)) (Fits-then F G)

pub Fits-ended : {K : Type 0} {L L' M M' : Lang} {f g : Writer} → Fits K L L' f → Fits (Unit {0}) M M' g → Fits K (L · M) (L' · M') (f ▷ g)
Fits-ended {K} F G = Fits-as (λ (k : K). (k, tt)) (Fits-then F G)

-- nothing

no_tokens : (v : List Token) → [] ≡ kinds_of v → v ≡ []
no_tokens [] e = refl
no_tokens (t ∷ v) e = absurd (no e)
  where
    no : [] ≡ t.kind ∷ kinds_of v → ⊥
    no e = cc

pub Fits-nothing : Fits (Unit {0}) nothing nothing leave
Fits-nothing = record {
  wrote = λ u k h old. record { bytes = []; adds = sym (append-nil old); reads = subst (λ z. Reads (kinds_of z) []) (sym h) Reads-none };
  same = λ u v e h. no_tokens v (ap kinds_of (sym h) ∙ e);
  has = λ k. record { words = []; are = tt; spell = refl };
}

pub Fits-never : {X : Type 0} (x : X) (f : Writer) → Fits ⊥ (never x) (never x) f
Fits-never x f = record { wrote = λ u k h old. absurd h; same = λ u v e h. h; has = λ k. absurd k }

-- where lines count or do not

pub Fits-on : {K : Type 0} {L M : Lang} {f : Writer} (s : Bool) (line : ℕ) → Fits K L M f → Fits K (on s line L) (on false line M) f
Fits-on s line F = record {
  wrote = λ u k h old. F.wrote u k h.0 old;
  same = λ u v e h. (F.same u v e h.0, λ z. absurd (false≢true z));
  has = λ k. let x = F.has k in record { words = x.words; are = x.are; spell = (x.spell, λ z. absurd (false≢true z)) };
}

-- several, one or none

pub Fits-each : {X : Type 0} {K : X → Type 0} {L M : X → Lang} {f : X → Writer}
    → ((x : X) → Fits (K x) (L x) (M x) (f x)) → (xs : List X)
    → Fits (Every K xs) (each L xs) (each M xs) (each_of f xs)
Fits-each F [] = Fits-nothing
Fits-each F (x ∷ xs) = Fits-then (F x) (Fits-each F xs)

pub Fits-maybe : {X : Type 0} {K : X → Type 0} {L M : X → Lang} {f : X → Writer}
    → ((x : X) → Fits (K x) (L x) (M x) (f x)) → (o : Option X)
    → Fits (IfSome o K) (maybe L o) (maybe M o) (maybe_of f o)
Fits-maybe F None = Fits-nothing
Fits-maybe F (Some x) = F x

pub Fits-flag : {L M : Lang} {f : Writer} → Fits (Unit {0}) L M f → (b : Bool) → Fits (Unit {0}) (flag L b) (flag M b) (flag_of f b)
Fits-flag F true = F
Fits-flag F false = Fits-nothing

-- one word

wrote_one : (k : TokenKind) (bytes : List ℕ) (f : Writer) (u : List Token) (t : Token) → u ≡ t ∷ [] → t.kind ≡ k
    → Reads (k ∷ []) bytes → ((old : List ℕ) → f old ≡ old ++ bytes) → (old : List ℕ) → Wrote (kinds_of u) old (f old)
wrote_one k bytes f u t e h r adds old =
    let same : k ∷ [] ≡ kinds_of u = ap (λ z. z ∷ []) (sym h) ∙ ap kinds_of (sym e) in
    record { bytes = bytes; adds = adds old; reads = subst (λ ks. Reads ks bytes) same r }

said : (bytes old : List ℕ) → say bytes old ≡ old ++ (bytes ++ (32 ∷ []))
unfolding say
said bytes old = refl

-- a token of this kind
abbrev an : TokenKind → Token
an k = record { kind = k; line = 1; offset = 0 }

word_same : (cs : List ℕ) (u v : List Token) → kinds_of u ≡ kinds_of v → word cs u → word cs v
word_same cs u v e h =
    let o = one_of h.0.kind v (ap kinds_of (sym h.1) ∙ e) in
    (o.token, o.is, ap (λ k. mem (kind_class k) cs) o.kind ∙ h.2)

Fits-word : (cs : List ℕ) (k : TokenKind) (bytes : List ℕ) (f : Writer) → IsTextWord k → mem (kind_class k) cs ≡ true
    → ((j : TokenKind) → mem (kind_class j) cs ≡ true → j ≡ k) → Reads (k ∷ []) bytes
    → ((old : List ℕ) → f old ≡ old ++ bytes) → Fits (Unit {0}) (word cs) (word cs) f
Fits-word cs k bytes f good its only r adds = record {
  wrote = λ u w h old. wrote_one k bytes f u h.0 h.1 (only h.0.kind h.2) r adds old;
  same = word_same cs;
  has = λ _. record { words = an k ∷ []; are = (good, tt); spell = (an k, refl, its) };
}

one_is : (c : ℕ) → mem c (c ∷ []) ≡ true
one_is c = grind (arith, nat_tests)

is_one : (c d : ℕ) → mem c (d ∷ []) ≡ true → c ≡ d
is_one c d h = grind (arith, nat_tests)

few_names : (a b c d : Bool) → cond a 1 (cond b 2 (cond c 3 (cond d 4 0))) ≤ 4
few_names true b c d = omega arith
few_names false true c d = omega arith
few_names false false true d = omega arith
few_names false false false true = omega arith
few_names false false false false = omega arith

name_few : (n : List ℕ) → name_class n ≤ 4
name_few n = few_names (bytes_eq n (codes "A")) (bytes_eq n (codes "B")) (bytes_eq n (codes "C")) (bytes_eq n (codes "D"))

only_keyword : (k : ℕ) (j : TokenKind) → mem (kind_class j) (keyword k) ≡ true → j ≡ kinds.Keyword k
only_keyword k (kinds.Name n) h = absurd (omega (arith, is_one (name_class n) (2 * k + 6) h, name_few n))
only_keyword k (kinds.Number n) h = absurd (omega (arith, is_one 5 (2 * k + 6) h))
only_keyword k (kinds.Keyword n) h = let e : n ≡ k = omega (arith, is_one (2 * n + 6) (2 * k + 6) h) in ap kinds.Keyword e
only_keyword k (kinds.Mark n) h = absurd (omega (arith, is_one (2 * n + 7) (2 * k + 6) h))

only_mark : (k : ℕ) (j : TokenKind) → mem (kind_class j) (mark k) ≡ true → j ≡ kinds.Mark k
only_mark k (kinds.Name n) h = absurd (omega (arith, is_one (name_class n) (2 * k + 7) h, name_few n))
only_mark k (kinds.Number n) h = absurd (omega (arith, is_one 5 (2 * k + 7) h))
only_mark k (kinds.Keyword n) h = absurd (omega (arith, is_one (2 * n + 6) (2 * k + 7) h))
only_mark k (kinds.Mark n) h = let e : n ≡ k = omega (arith, is_one (2 * n + 7) (2 * k + 7) h) in ap kinds.Mark e

pub Fits-keyword : (k : ℕ) (bytes : List ℕ) → Reads (kinds.Keyword k ∷ []) (bytes ++ (32 ∷ []))
    → Fits (Unit {0}) (word (keyword k)) (word (keyword k)) (say bytes)
Fits-keyword k bytes r = Fits-word (keyword k) (kinds.Keyword k) (bytes ++ (32 ∷ [])) (say bytes) tt (one_is (2 * k + 6)) (only_keyword k) r (said bytes)

pub Fits-mark : (k : ℕ) (bytes : List ℕ) → Reads (kinds.Mark k ∷ []) (bytes ++ (32 ∷ [])) → Fits (Unit {0}) (word (mark k)) (word (mark k)) (say bytes)
Fits-mark k bytes r = Fits-word (mark k) (kinds.Mark k) (bytes ++ (32 ∷ [])) (say bytes) tt (one_is (2 * k + 7)) (only_mark k) r (said bytes)

pub Fits-semi : Fits (Unit {0}) (word (mark 0)) (word (mark 0)) semi
unfolding semi
Fits-semi = Fits-word (mark 0) (kinds.Mark 0) (59 ∷ 10 ∷ []) semi tt (one_is 7) (only_mark 0) Reads-semi (λ old. refl)

-- names and numbers

pub Fits-name : (s : Bool) (x : Named) → Fits (IsNamed x) (named s x) (named false x) (name_text x)
Fits-name s x = record {
  wrote = λ u w h old. wrote_one (kinds.Name x.name) (x.name ++ (32 ∷ [])) (say x.name) u h.0 h.1 h.2
      (Reads-name x.name (word_at u h.0 (kinds.Name x.name) h.1 h.2 w)) (said x.name) old;
  same = λ u v e h. let o = one_of h.0.kind v (ap kinds_of (sym h.1) ∙ e) in (o.token, o.is, o.kind ∙ h.2, λ z. absurd (false≢true z));
  has = λ k. record { words = an (kinds.Name x.name) ∷ []; are = (k, tt); spell = (an (kinds.Name x.name), refl, refl, λ z. absurd (false≢true z)) };
}

pub Fits-number : (s : Bool) (x : Numbered) → Fits (KeepsNumber x) (numbered s x) (numbered false x) (number_text x)
Fits-number s x = record {
  wrote = λ u w h old. wrote_one (kinds.Number x.value) (decimal x.value ++ (32 ∷ [])) (say (decimal x.value)) u h.0 h.1
      h.2 (Reads-number x.value (word_at u h.0 (kinds.Number x.value) h.1 h.2 w)) (said (decimal x.value)) old;
  same = λ u v e h. let o = one_of h.0.kind v (ap kinds_of (sym h.1) ∙ e) in (o.token, o.is, o.kind ∙ h.2, λ z. absurd (false≢true z));
  has = λ k. record { words = an (kinds.Number x.value) ∷ []; are = (k, tt); spell = (an (kinds.Number x.value), refl, refl, λ z. absurd (false≢true z)) };
}

level_reads : (l : Level) → Reads (kinds.Name (level_name l) ∷ []) (level_name l ++ (32 ∷ []))
unfolding keyword_of
level_reads A = Reads-word 65 [] (kinds.Name (codes "A")) refl refl (λ o l. refl)
level_reads B = Reads-word 66 [] (kinds.Name (codes "B")) refl refl (λ o l. refl)
level_reads C = Reads-word 67 [] (kinds.Name (codes "C")) refl refl (λ o l. refl)
level_reads D = Reads-word 68 [] (kinds.Name (codes "D")) refl refl (λ o l. refl)

level_is : (l : Level) → IsName (level_name l)
unfolding keyword_of
level_is A = record { first = refl; others = refl; short = omega arith; free = refl }
level_is B = record { first = refl; others = refl; short = omega arith; free = refl }
level_is C = record { first = refl; others = refl; short = omega arith; free = refl }
level_is D = record { first = refl; others = refl; short = omega arith; free = refl }

pub Fits-level : (s : Bool) (x : Leveled) → Fits (Unit {0}) (leveled s x) (leveled false x) (level_text x)
Fits-level s x = record {
  wrote = λ u w h old. wrote_one (kinds.Name (level_name x.level)) (level_name x.level ++ (32 ∷ []))
      (say (level_name x.level)) u h.0 h.1 h.2 (level_reads x.level) (said (level_name x.level)) old;
  same = λ u v e h. let o = one_of h.0.kind v (ap kinds_of (sym h.1) ∙ e) in (o.token, o.is, o.kind ∙ h.2, λ z. absurd (false≢true z));
  has = λ k. record {
    words = an (kinds.Name (level_name x.level)) ∷ [];
    are = (level_is x.level, tt);
    spell = (an (kinds.Name (level_name x.level)), refl, refl, λ z. absurd (false≢true z));
  };
}
