-- A whole exchange is read exactly.
use Rattle.std.proofs.Common.{◌≡◌, ℕ, ◌<◌, true, List, [], ◌∷◌, ◌++◌, Ok, Err, Result, refl, sym}
use Rattle.std.proofs.Common.{◌∙◌, ap, subst}
use Rattle.plex_lexer.specs.declared.token.Token.{Token}
use Rattle.token_grammar.specs.Language.{Lang, ◌·◌, each, line_at}
use Rattle.token_grammar.specs.Reading.{Stuck, all_read, ◌>>=◌}
use Rattle.token_grammar.proofs.Exact.{Exact, Exact-pair, Exact-many, Exact-weak}
use Rattle.token_grammar.proofs.Whole.{Told, ok_same, ok_err, all_again, all_sound, all_told}
use Rattle.token_grammar.proofs.Same.{told_same}
use Rattle.plex_ast.specs.declared.block.Block.{Block}
use Rattle.plex_ast.specs.declared.tree.Signal.{Signal}
use Rattle.plex_ast.specs.declared.tree.Tree.{Tree}
use Rattle.plex_ast.specs.Words.{SIGNAL, BLOCK}
use Rattle.plex_ast.specs.Grammar.{block, signal, tree}
use Rattle.declaration_parser.proofs.Signalling.{Exact-signal}
use Rattle.plex_parser.specs.Blocks.{lists_read, tree_made, tree_read}
use Rattle.plex_parser.proofs.Blocks.{Exact-block}

-- an exchange by its two lists, which may be empty

abbrev pub Lists : Type 0
Lists = List Signal × List Block

abbrev pub lists : ℕ → ℕ → Lists → Lang
lists b n p = each (signal true) p.0 · each (block true b n) p.1

pub Exact-lists : (b m c n : ℕ) → b < c → m < n → Exact (lists b m) (lists c n) (SIGNAL ++ BLOCK) true (SIGNAL ++ BLOCK) (lists_read b m) (lists_read c n)
unfolding lists_read
Exact-lists b m c n h k = Exact-weak (SIGNAL ++ BLOCK) (SIGNAL ++ BLOCK)
    (Exact-pair (Exact-many Exact-signal refl) (Exact-many (Exact-block b c h m n k) refl) refl) refl refl

-- .. and by its tree, with the line
tree_of_lists : (b n : ℕ) (p : Lists) (u : List Token) → lists b n p u → (x : Tree) × tree true b n x u
tree_of_lists b n p u h = (tree_made (line_at u) p, (h, λ _. refl))

lists_of_tree : (b n : ℕ) (x : Tree) (u : List Token) → tree true b n x u → (p : Lists) × lists b n p u
lists_of_tree b n x u h = ((x.signals, x.blocks), h.0)

abbrev tree_with : ℕ → Result Lists Stuck → Result Tree Stuck
tree_with line (Ok p) = Ok (tree_made line p)
tree_with line (Err e) = Err e

all_lined : (line : ℕ) (z : Result (Lists × List Token) Stuck) → all_read (z >>= λ x. Ok (tree_made line x.0, x.1)) ≡ tree_with line (all_read z)
all_lined line (Ok (p, [])) = refl
all_lined line (Ok (p, t ∷ ts)) = refl
all_lined line (Err e) = refl

tree_is : (b n : ℕ) (w : List Token) → all_read (tree_read b n w) ≡ tree_with (line_at w) (all_read (lists_read b n w))
unfolding tree_read
tree_is b n w = all_lined (line_at w) (lists_read b n w)

lists_again : (b n : ℕ) (p : Lists) (u : List Token) → lists b n p u → all_read (lists_read b n u) ≡ Ok p
lists_again = all_again lists lists_read (SIGNAL ++ BLOCK) (SIGNAL ++ BLOCK) true Exact-lists

lists_sound : (b n : ℕ) (p : Lists) (u : List Token) → all_read (lists_read b n u) ≡ Ok p → lists b n p u
lists_sound = all_sound lists lists_read (SIGNAL ++ BLOCK) (SIGNAL ++ BLOCK) true Exact-lists

lists_told : (b n : ℕ) (u : List Token) (e : Stuck) → all_read (lists_read b n u) ≡ Err e → Told lists b n u e.left e.deep
lists_told = all_told lists lists_read (SIGNAL ++ BLOCK) (SIGNAL ++ BLOCK) true Exact-lists

-- what a parser that does what tree_read does has told
pub tree_again : (b n : ℕ) (x : Tree) (u : List Token) → tree true b n x u → all_read (tree_read b n u) ≡ Ok x
tree_again b n x u h =
    tree_is b n u ∙ ap (tree_with (line_at u)) (lists_again b n (x.signals, x.blocks) u h.0)
    ∙ ap (λ (y : Tree). Ok y) (λ i. record { line = sym (h.1 refl) i; signals = x.signals; blocks = x.blocks })

pub tree_sound : (b n : ℕ) (x : Tree) (u : List Token) → all_read (tree_read b n u) ≡ Ok x → tree true b n x u
tree_sound b n x u h = of (all_read (lists_read b n u)) refl (sym (tree_is b n u) ∙ h)
  where
    of : (z : Result Lists Stuck) → all_read (lists_read b n u) ≡ z → tree_with (line_at u) z ≡ Ok x → tree true b n x u
    of (Ok p) e k = let same : tree_made (line_at u) p
        ≡ x = ok_same (tree_made (line_at u) p) x (Ok x) (sym k) refl in subst (λ y. tree true b n y u) same
        (lists_sound b n p u e, λ _. refl)
    of (Err e) d k = absurd (ok_err x e (Ok x) refl (sym k))

pub tree_told : (b n : ℕ) (u : List Token) (e : Stuck) → all_read (tree_read b n u) ≡ Err e → Told (tree true) b n u e.left e.deep
tree_told b n u e h = told_same lists (tree true) tree_of_lists lists_of_tree b n u e.left e.deep
    (of (all_read (lists_read b n u)) refl (sym (tree_is b n u) ∙ h))
  where
    of : (z : Result Lists Stuck) → all_read (lists_read b n u) ≡ z → tree_with (line_at u) z ≡ Err e → Told lists b n u e.left e.deep
    of (Ok p) d k = absurd (ok_err (tree_made (line_at u) p) e (Err e) (sym k) refl)
    of (Err f) d k = let same : ◌≡◌ {A = Result Tree Stuck} (Err f) (Err e) = k in lists_told b n u e (d ∙ again f same)
      where
        again : (f : Stuck) → ◌≡◌ {A = Result Tree Stuck} (Err f) (Err e) → ◌≡◌ {A = Result Lists Stuck} (Err f) (Err e)
        again f k = let s : f ≡ e = cc in ap (λ (g : Stuck). Err g) s
