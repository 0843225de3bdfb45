-- The first FORLOPP FILE that another exchange has not.
use Rattle.std.proofs.Common.{◌≡◌, ℕ, zero, suc, ◌+◌, ◌<◌, ◌≤◌, List, [], ◌∷◌, length, drop, get_or}
use Rattle.std.proofs.Common.{Some, None, refl, sym, ap, ◌∙◌, arith}
use Rattle.std.specs.Option.{option_or}
use Rattle.exchange_model.specs.declared.block.Block.{Block}
use Rattle.exchange_model.specs.declared.block.File.{File}
use Rattle.exchange_model.specs.declared.exchange.Exchange.{Exchange}
use Rattle.block_change.specs.Misfits.{first_lacking, lacking}

-- none of the blocks before this place has one
abbrev pub LackingFrom : Exchange → List Block → ℕ → Type 0
LackingFrom y blocks i = first_lacking y blocks ≡ first_lacking y (drop i blocks)

pub lacking_begin : (y : Exchange) (blocks : List Block) → LackingFrom y blocks 0
lacking_begin y blocks = refl

at_block : (y : Exchange) (blocks : List Block) (i : ℕ) (k : Block) → i < length blocks → k ≡ get_or blocks i k
    → first_lacking y (drop i blocks) ≡ option_or (lacking y k) (first_lacking y (drop (suc i) blocks))
unfolding first_lacking
at_block y [] i k inside is = absurd (omega arith)
at_block y (l ∷ rest) zero k inside is = ap (λ (z : Block). option_or (lacking y z) (first_lacking y rest)) (sym is)
at_block y (l ∷ rest) (suc i) k inside is = at_block y rest i k (omega (arith, inside)) is

pub lacking_more : (y : Exchange) (blocks : List Block) (i : ℕ) (k : Block) → i < length blocks → k ≡ get_or blocks i k
    → lacking y k ≡ None → LackingFrom y blocks i → LackingFrom y blocks (i + 1)
lacking_more y blocks i k inside is none before =
    let next : suc i ≡ i + 1 = omega arith in
    before ∙ at_block y blocks i k inside is ∙ ap (λ o. option_or o (first_lacking y (drop (suc i) blocks))) none
    ∙ ap (λ n. first_lacking y (drop n blocks)) next

pub lacking_found : (y : Exchange) (blocks : List Block) (i : ℕ) (k : Block) (f : File) → i < length blocks
    → k ≡ get_or blocks i k → Some f ≡ lacking y k → LackingFrom y blocks i → Some f ≡ first_lacking y blocks
lacking_found y blocks i k f inside is some before =
    sym (before ∙ at_block y blocks i k inside is ∙ ap (λ o. option_or o (first_lacking y (drop (suc i) blocks))) (sym some))

all_gone : (y : Exchange) (blocks : List Block) (i : ℕ) → length blocks ≤ i → first_lacking y (drop i blocks) ≡ None
unfolding first_lacking
all_gone y [] zero past = refl
all_gone y [] (suc i) past = refl
all_gone y (k ∷ rest) zero past = absurd (omega (arith, past))
all_gone y (k ∷ rest) (suc i) past = all_gone y rest i (omega (arith, past))

pub lacking_end : (y : Exchange) (blocks : List Block) (i : ℕ) → length blocks ≤ i → LackingFrom y blocks i → None ≡ first_lacking y blocks
lacking_end y blocks i past before = sym (before ∙ all_gone y blocks i past)
