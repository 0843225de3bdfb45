-- Reading from the front of a list of tokens.
use Rattle.std.specs.Prelude.{ℕ, zero, suc, Bool, true, false, cond, nat_lt, List, [], ◌∷◌, ◌++◌}
use Rattle.std.specs.Prelude.{length, Result, Ok, Err, Option, Some, None, codes}
use Rattle.plex_lexer.specs.declared.token.Token.{Token}
pub use Rattle.plex_lexer.specs.Spots.{name_in, number_in}
use Rattle.token_grammar.specs.declared.named.Named.{Named}
use Rattle.token_grammar.specs.declared.named.Numbered.{Numbered}
use Rattle.token_grammar.specs.declared.named.Leveled.{Leveled}
use Rattle.plex_num.specs.declared.level.Level.{Level}
use Rattle.plex_num.specs.declared.level.Level.TheVariants.{A, B, C, D}
use Rattle.std.specs.Str.{bytes_eq}
use Rattle.token_grammar.specs.Language.{class, line_at, mem, NAME, NUMBER, LEVEL}

-- a reading that stopped: how many tokens were left, and whether the first of them would be allowed
-- with deeper nesting
pub record Stuck : Type 0 where
  pub left : ℕ
  pub deep : Bool

abbrev pub Reader : Type 0 → Type 0
Reader X = List Token → Result (X × List Token) Stuck

infixl 10 ◌>>=◌
abbrev pub ◌>>=◌ : {A B : Type 0} → Result A Stuck → (A → Result B Stuck) → Result B Stuck
(Ok x) >>= f = f x
(Err e) >>= f = Err e

-- the first token is of one of these classes
abbrev pub at : List ℕ → List Token → Bool
at cs [] = false
at cs (t ∷ ts) = mem (class t) cs

abbrev pub fails : {X : Type 0} → Bool → Reader X
fails deep w = Err (record { left = length w; deep = deep })

-- one token of these classes
unfoldable pub word_of : List ℕ → Reader Token
word_of cs [] = Err (record { left = 0; deep = false })
word_of cs (t ∷ ts) =
    cond (mem (class t) cs) (Ok (t, ts)) (Err (record { left = length (t ∷ ts); deep = false }))

-- goes on where something was read
abbrev pub shorter : {X : Type 0} → List Token → List Token → Result X Stuck → Result X Stuck
shorter rest w go = cond (nat_lt (length rest) (length w)) go
    (Err (record { left = length w; deep = false }))

-- as many as begin with a token of these classes, at most n
unfoldable pub up_to : {X : Type 0} → ℕ → List ℕ → Reader X → Reader (List X)
up_to zero cs r w = Ok ([], w)
up_to (suc n) cs r w = cond (at cs w) (r w >>= λ x. shorter x.1 w
    (up_to n cs r x.1 >>= λ xs. Ok (x.0 ∷ xs.0, xs.1))) (Ok ([], w))

unfoldable pub many : {X : Type 0} → List ℕ → Reader X → Reader (List X)
many cs r w = up_to (length w) cs r w

-- one after the other, into one value
abbrev pub both : {A B C : Type 0} → (A → B → C) → Reader A → Reader B → Reader C
both h r s w = r w >>= λ x. s x.1 >>= λ y. Ok (h x.0 y.0, y.1)

-- the first where the next token is of these classes, else the second
abbrev pub branch : {X : Type 0} → List ℕ → Reader X → Reader X → Reader X
branch cs r s w = cond (at cs w) (r w) (s w)

-- nothing may stand here; tokens of these classes might, with deeper nesting
abbrev pub halt : {X : Type 0} → List ℕ → Reader X
halt ks w = Err (record { left = length w; deep = at ks w })

-- with the line of the first token
abbrev pub lined : {A X : Type 0} → (ℕ → A → X) → Reader A → Reader X
lined f r w = r w >>= λ x. Ok (f (line_at w) x.0, x.1)

-- nothing to read
abbrev pub done : {X : Type 0} → X → Reader X
done x w = Ok (x, w)

-- a word, and then this; this, and then a word; two things
abbrev pub after : {X : Type 0} → List ℕ → Reader X → Reader X
after {X} c r = both (λ (t : Token) (x : X). x) (word_of c) r

abbrev pub ended : {X : Type 0} → Reader X → List ℕ → Reader X
ended {X} r c = both (λ (x : X) (t : Token). x) r (word_of c)

abbrev pub pair : {A B : Type 0} → Reader A → Reader B → Reader (A × B)
pair {A} {B} r s = both (λ (a : A) (b : B). let p : A × B = (a, b) in p) r s

-- where the next token is of these classes, what is read there
abbrev pub optional : {X : Type 0} → List ℕ → Reader X → Reader (Option X)
optional {X} cs r = branch cs (lined (λ _ (x : X). Some x) r) (done None)

-- this, and then two words
abbrev pub closed : {X : Type 0} → Reader X → List ℕ → List ℕ → Reader X
closed {X} r c d = both (λ (x : X) (t : Token). x) r (after c (word_of d))

-- whether the next token is of these classes, and then what is read there
abbrev pub flag_read : {X : Type 0} → List ℕ → Reader X → Reader Bool
flag_read {X} cs r = branch cs (lined (λ _ (x : X). true) r) (done false)

-- a value, where no token is left
abbrev pub only_all : {X : Type 0} → X → List Token → Result X Stuck
only_all x [] = Ok x
only_all x (t ∷ ts) = Err (record { left = length (t ∷ ts); deep = false })

-- the whole list
abbrev pub all_read : {X : Type 0} → Result (X × List Token) Stuck → Result X Stuck
all_read (Err e) = Err e
all_read (Ok x) = only_all x.0 x.1

-- what was read before, and then this
abbrev pub with_front : {X : Type 0} → List X → Result (List X × List Token) Stuck
    → Result (List X × List Token) Stuck
with_front front read = read >>= λ xs. Ok (front ++ xs.0, xs.1)

-- a token as a name, as a number, and as the name of a job buffer, on this line
abbrev pub named_at : ℕ → Token → Named
named_at line t = record { line = line; name = name_in t.kind }

abbrev pub numbered_at : ℕ → Token → Numbered
numbered_at line t = record { line = line; value = number_in t.kind }

-- the job buffer of a name; D for any other name
abbrev pub level_of : List ℕ → Level
level_of n = cond (bytes_eq n (codes "A")) A (cond (bytes_eq n (codes "B")) B
    (cond (bytes_eq n (codes "C")) C D))

abbrev pub leveled_at : ℕ → Token → Leveled
leveled_at line t = record { line = line; level = level_of (name_in t.kind) }

unfoldable pub name_read : Reader Named
name_read = lined named_at (word_of NAME)

unfoldable pub number_read : Reader Numbered
number_read = lined numbered_at (word_of NUMBER)

unfoldable pub level_read : Reader Leveled
level_read = lined leveled_at (word_of LEVEL)
