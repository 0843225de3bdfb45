-- What the loops over items and blocks rest on, over plain variables.
use Rattle.std.proofs.Common.{◌≡◌, ℕ, suc, ◌<◌, true, false, List, [], ◌∷◌, ◌++◌, length, Ok, Err}
use Rattle.std.proofs.Common.{Result, arith}
use Rattle.plex_lexer.specs.declared.token.Token.{Token}
use Rattle.token_grammar.specs.Reading.{Stuck, at, many, with_front}
use Rattle.token_grammar.proofs.Exact.{Exact-shorter, loop_more, loop_stop, loop_fail}
use Rattle.plex_ast.specs.declared.block.Block.{Block}
use Rattle.plex_ast.specs.declared.block.Item.{Item}
use Rattle.plex_ast.specs.Words.{BLOCK}
use Rattle.plex_parser.specs.Blocks.{ITEM, item_read, block_read}
use Rattle.plex_parser.proofs.Blocks.{Exact-item, Exact-block}

pub item_less : (b : ℕ) (n : ℕ) → (w rest : List Token) (x : Item) → item_read b n w ≡ Ok (x, rest) → length rest < length w
item_less b n = Exact-shorter (Exact-item b (suc b) (omega arith) n (suc n) (omega arith))

pub item_on : (b : ℕ) (n : ℕ) → (front : List Item) (x : Item) (w rest : List Token)
    (all : Result (List Item × List Token) Stuck) → at ITEM w ≡ true → item_read b n w ≡ Ok (x, rest)
    → with_front front (many ITEM (item_read b n) w) ≡ all
    → with_front (front ++ (x ∷ [])) (many ITEM (item_read b n) rest) ≡ all
item_on b n = loop_more ITEM (item_read b n) (item_less b n)

pub item_end : (b : ℕ) (n : ℕ) → (front : List Item) (w : List Token) (all : Result (List Item × List Token) Stuck)
    → at ITEM w ≡ false → with_front front (many ITEM (item_read b n) w) ≡ all → all ≡ Ok (front, w)
item_end b n = loop_stop ITEM (item_read b n) (item_less b n)

pub item_bad : (b : ℕ) (n : ℕ) → (front : List Item) (w : List Token) (e : Stuck)
    (all : Result (List Item × List Token) Stuck) → at ITEM w ≡ true → item_read b n w ≡ Err e
    → with_front front (many ITEM (item_read b n) w) ≡ all → all ≡ Err e
item_bad b n = loop_fail ITEM (item_read b n) (item_less b n)

pub block_less : (b : ℕ) (n : ℕ) → (w rest : List Token) (x : Block) → block_read b n w ≡ Ok (x, rest) → length rest < length w
block_less b n = Exact-shorter (Exact-block b (suc b) (omega arith) n (suc n) (omega arith))

pub block_on : (b : ℕ) (n : ℕ) → (front : List Block) (x : Block) (w rest : List Token)
    (all : Result (List Block × List Token) Stuck) → at BLOCK w ≡ true → block_read b n w ≡ Ok (x, rest)
    → with_front front (many BLOCK (block_read b n) w) ≡ all
    → with_front (front ++ (x ∷ [])) (many BLOCK (block_read b n) rest) ≡ all
block_on b n = loop_more BLOCK (block_read b n) (block_less b n)

pub block_end : (b : ℕ) (n : ℕ) → (front : List Block) (w : List Token) (all : Result (List Block × List Token) Stuck)
    → at BLOCK w ≡ false → with_front front (many BLOCK (block_read b n) w) ≡ all → all ≡ Ok (front, w)
block_end b n = loop_stop BLOCK (block_read b n) (block_less b n)

pub block_bad : (b : ℕ) (n : ℕ) → (front : List Block) (w : List Token) (e : Stuck)
    (all : Result (List Block × List Token) Stuck) → at BLOCK w ≡ true → block_read b n w ≡ Err e
    → with_front front (many BLOCK (block_read b n) w) ≡ all → all ≡ Err e
block_bad b n = loop_fail BLOCK (block_read b n) (block_less b n)
