-- Languages of tokens: what may be said of a list of tokens, and how languages are put together. A
-- language speaks of whole lists, so a production of a grammar is one line in the grammar's own
-- order. A token counts by its class alone, so that which tokens may begin or follow a production
-- is a list of numbers.
use Rattle.std.specs.Prelude.{◌≡◌, ℕ, ◌+◌, ◌*◌, Bool, true, false, cond, ◌||◌, eqb, List, [], ◌∷◌}
use Rattle.std.specs.Prelude.{◌++◌, Option, Some, None, codes}
use Rattle.std.specs.Str.{bytes_eq}
use Rattle.plex_lexer.specs.declared.token.Token.{Token}
use Rattle.plex_lexer.specs.declared.token.TokenKind.{TokenKind}
use Rattle.plex_lexer.specs.declared.token.TokenKind.TheVariants as kinds
use Rattle.token_grammar.specs.declared.named.Named.{Named}
use Rattle.token_grammar.specs.declared.named.Numbered.{Numbered}
use Rattle.token_grammar.specs.declared.named.Leveled.{Leveled}
use Rattle.plex_num.specs.declared.level.Level.{Level}
use Rattle.plex_num.specs.declared.level.Level.TheVariants.{A, B, C, D}

-- the class of a name: those of the four job buffers have one of their own
abbrev pub name_class : List ℕ → ℕ
name_class n =
    cond (bytes_eq n (codes "A")) 1 (cond (bytes_eq n (codes "B")) 2
    (cond (bytes_eq n (codes "C")) 3 (cond (bytes_eq n (codes "D")) 4 0)))

-- what a grammar sees of a token: a name, a number, or which keyword or mark it is
abbrev pub kind_class : TokenKind → ℕ
kind_class (kinds.Name n) = name_class n
kind_class (kinds.Number n) = 5
kind_class (kinds.Keyword k) = 2 * k + 6
kind_class (kinds.Mark m) = 2 * m + 7

abbrev pub class : Token → ℕ
class t = kind_class t.kind

-- the classes of the words of a grammar: any name, the name of a job buffer, a number, a keyword, a
-- mark
abbrev pub NAME : List ℕ
NAME = 0 ∷ 1 ∷ 2 ∷ 3 ∷ 4 ∷ []

abbrev pub LEVEL : List ℕ
LEVEL = 1 ∷ 2 ∷ 3 ∷ 4 ∷ []

abbrev pub NUMBER : List ℕ
NUMBER = 5 ∷ []

abbrev pub keyword : ℕ → List ℕ
keyword k = (2 * k + 6) ∷ []

abbrev pub mark : ℕ → List ℕ
mark m = (2 * m + 7) ∷ []

abbrev pub mem : ℕ → List ℕ → Bool
mem c [] = false
mem c (d ∷ ds) = eqb c d || mem c ds

-- a language: which lists of tokens spell something
abbrev pub Lang : Type 1
Lang = List Token → Type 0

-- one token of these classes
abbrev pub word : List ℕ → Lang
word cs u = (t : Token) × (u ≡ t ∷ []) × (mem (class t) cs ≡ true)

-- one after the other
infixr 20 ◌·◌
abbrev pub ◌·◌ : Lang → Lang → Lang
(L · M) u = (a : List Token) × (b : List Token) × (u ≡ a ++ b) × L a × M b

-- no token
abbrev pub nothing : Lang
nothing u = u ≡ []

-- what no tokens spell
abbrev pub never : {X : Type 0} → X → Lang
never x u = ⊥

-- the line of the first token; an empty text is on line 1
abbrev pub line_at : List Token → ℕ
line_at [] = 1
line_at (t ∷ ts) = t.line

-- where lines count, the first token is on that line
abbrev pub on : Bool → ℕ → Lang → Lang
on strict line L u = L u × (strict ≡ true → line ≡ line_at u)

-- the things one after the other
abbrev pub each : {X : Type 0} → (X → Lang) → List X → Lang
each L [] = nothing
each L (x ∷ xs) = L x · each L xs

-- one, or nothing
abbrev pub maybe : {X : Type 0} → (X → Lang) → Option X → Lang
maybe L None = nothing
maybe L (Some x) = L x

-- these tokens, or none of them
abbrev pub flag : Lang → Bool → Lang
flag L true = L
flag L false = nothing

-- a name, with its line where lines count
abbrev pub named : Bool → Named → Lang
named strict x u = (t : Token) × (u ≡ t ∷ []) × (t.kind ≡ kinds.Name x.name)
    × (strict ≡ true → x.line ≡ t.line)

-- a number, with its line where lines count
abbrev pub numbered : Bool → Numbered → Lang
numbered strict x u =
    (t : Token) × (u ≡ t ∷ []) × (t.kind ≡ kinds.Number x.value) × (strict ≡ true → x.line ≡ t.line)

-- the name of a job buffer
abbrev pub level_name : Level → List ℕ
level_name A = codes "A"
level_name B = codes "B"
level_name C = codes "C"
level_name D = codes "D"

-- a job buffer by its name, with its line where lines count
abbrev pub leveled : Bool → Leveled → Lang
leveled strict x u = (t : Token) × (u ≡ t ∷ []) × (t.kind ≡ kinds.Name (level_name x.level))
    × (strict ≡ true → x.line ≡ t.line)
