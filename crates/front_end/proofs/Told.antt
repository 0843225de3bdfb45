-- The phases of a text, one after the other.
use Rattle.std.proofs.Common.{◌≡◌, ℕ, ◌≤◌, List, Option, Some, None, Ok, Err, sym, ◌∙◌, ap, subst}
use Rattle.first_fault.specs.First.{or_else}
use Rattle.plex_limits.specs.declared.limits.TheConstants.{MOST_WHENS}
use Rattle.exchange_model.specs.declared.signal.SignalKind.{SignalKind}
use Rattle.exchange_model.specs.declared.block.Block.{Block}
use Rattle.exchange_model.specs.Kept.{IsExchange}
use Rattle.exchange_model.specs.Parts.{Parts}
use Rattle.plex_ast.specs.declared.block.Block.{Block as TreeBlock}
use Rattle.plex_ast.specs.declared.tree.Tree.{Tree}
use Rattle.kept_trees.specs.Keeps.{IsKept}
use Rattle.signal_types.specs.Signals.{signals_of}
use Rattle.text_events.specs.Note.{Event}
use Rattle.text_events.specs.Texts.{text_events}
use Rattle.text_rules.specs.declared.rule.SignalRule.{SignalRule}
use Rattle.text_rules.specs.declared.rule.BlockRule.{BlockRule}
use Rattle.text_rules.specs.declared.rule.LinkRule.{LinkRule}
use Rattle.text_rules.specs.declared.rule.Rule.{Rule}
use Rattle.text_rules.specs.declared.rule.Rule.TheVariants as rule
use Rattle.text_rules.specs.Texts.{as_rule, signals_told, blocks_told, links_told, text_told}
use Rattle.text_rules.specs.Texts.{BreaksNoRule}
use Rattle.resolved_block.specs.Texts.{choices_in, exchange_of, exchange_of_tree, typed_blocks}
use Rattle.text_soundness.proofs.Whole.{is_exchange}
use Rattle.text_soundness.specs.declared.fault.TextFault.{TextFault}
use Rattle.text_soundness.specs.declared.fault.TextFault.TheVariants as fault
use Rattle.text_soundness.specs.Resolved.{told_or, resolved, IsToldOf, Resolves}

-- what the phases tell, in their order
abbrev pub in_order : Option (SignalRule × ℕ) → Option (BlockRule × ℕ) → Option (LinkRule × ℕ) → Option (Rule × ℕ)
in_order s b l = or_else (as_rule rule.Signals s) (or_else (as_rule rule.Blocks b) (as_rule rule.Links l))

blocks_of_tree : Tree → Option (BlockRule × ℕ)
blocks_of_tree t = blocks_told (signals_of t) t.blocks (text_events t)

links_of_tree : Tree → Option (LinkRule × ℕ)
links_of_tree t = links_told (signals_of t) t.blocks (text_events t)

phases : (t : Tree) (s : Option (SignalRule × ℕ)) (b : Option (BlockRule × ℕ)) (l : Option (LinkRule × ℕ))
    → signals_told (text_events t) ≡ s → blocks_of_tree t ≡ b → links_of_tree t ≡ l → text_told t ≡ in_order s b l
unfolding text_told blocks_of_tree links_of_tree
phases t s b l hs hb hl = λ i. in_order (hs i) (hb i) (hl i)

-- a phase over what the code holds

blocks_same : (t : Tree) (kinds : List SignalKind) (blocks : List TreeBlock) (parts : List (List Event))
    → parts ≡ text_events t → kinds ≡ signals_of t → blocks ≡ t.blocks
    → blocks_of_tree t ≡ blocks_told kinds blocks parts
unfolding blocks_of_tree
blocks_same t kinds blocks parts p k b = sym (λ i. blocks_told (k i) (b i) (p i))

links_same : (t : Tree) (kinds : List SignalKind) (blocks : List TreeBlock) (parts : List (List Event))
    → parts ≡ text_events t → kinds ≡ signals_of t → blocks ≡ t.blocks → links_of_tree t ≡ links_told kinds blocks parts
unfolding links_of_tree
links_same t kinds blocks parts p k b = sym (λ i. links_told (k i) (b i) (p i))

-- the first fault

pub signals_first : (t : Tree) (parts : List (List Event)) (r : SignalRule) (line : ℕ) → parts ≡ text_events t
    → signals_told parts ≡ Some (r, line) → text_told t ≡ Some (rule.Signals r, line)
signals_first t parts r line p told = phases t (Some (r, line)) (blocks_of_tree t) (links_of_tree t)
    (sym (ap signals_told p) ∙ told) (λ i. blocks_of_tree t) (λ i. links_of_tree t)

pub blocks_first : (t : Tree) (kinds : List SignalKind) (blocks : List TreeBlock) (parts : List (List Event))
    (r : BlockRule) (line : ℕ) → parts ≡ text_events t → kinds ≡ signals_of t → blocks ≡ t.blocks
    → signals_told (text_events t) ≡ None → blocks_told kinds blocks parts ≡ Some (r, line)
    → text_told t ≡ Some (rule.Blocks r, line)
blocks_first t kinds blocks parts r line p k b none told = phases t None (Some (r, line)) (links_of_tree t) none
    (blocks_same t kinds blocks parts p k b ∙ told) (λ i. links_of_tree t)

pub links_first : (t : Tree) (kinds : List SignalKind) (blocks : List TreeBlock) (parts : List (List Event))
    (r : LinkRule) (line : ℕ) → parts ≡ text_events t → kinds ≡ signals_of t → blocks ≡ t.blocks
    → signals_told (text_events t) ≡ None → blocks_told kinds blocks parts ≡ None
    → links_told kinds blocks parts ≡ Some (r, line) → text_told t ≡ Some (rule.Links r, line)
links_first t kinds blocks parts r line p k b none fine told = phases t None None (Some (r, line)) none
    (blocks_same t kinds blocks parts p k b ∙ fine) (links_same t kinds blocks parts p k b ∙ told)

pub nothing_told : (t : Tree) (kinds : List SignalKind) (blocks : List TreeBlock) (parts : List (List Event))
    → parts ≡ text_events t → kinds ≡ signals_of t → blocks ≡ t.blocks → signals_told (text_events t) ≡ None
    → blocks_told kinds blocks parts ≡ None → links_told kinds blocks parts ≡ None → BreaksNoRule t
nothing_told t kinds blocks parts p k b none fine linked = phases t None None None none
    (blocks_same t kinds blocks parts p k b ∙ fine) (links_same t kinds blocks parts p k b ∙ linked)

-- the exchange

pub resolves_told : (t : Tree) (f : TextFault) → IsToldOf (text_told t) f → Resolves (resolved t) (Err f)
unfolding resolved
resolves_told t (fault.Rule r line) told = ap (λ o. told_or o (exchange_of_tree t)) told
resolves_told t fault.Memory told = tt

pub resolves_fine : (t : Tree) (kinds : List SignalKind) (blocks : List Block) (x : Parts) → BreaksNoRule t
    → kinds ≡ signals_of t → blocks ≡ typed_blocks t → x ≡ exchange_of kinds blocks → resolved t ≡ Ok x
unfolding resolved
resolves_fine t kinds blocks x fine k b is = ap (λ o. told_or o (exchange_of_tree t)) fine ∙ ap Ok (sym (is ∙ (λ i. exchange_of (k i) (b i))))

pub is_kept : (t : Tree) (kinds : List SignalKind) (blocks : List Block) → IsKept t
    → choices_in (exchange_of_tree t) ≤ MOST_WHENS → BreaksNoRule t → kinds ≡ signals_of t → blocks ≡ typed_blocks t
    → IsExchange (exchange_of kinds blocks)
is_kept t kinds blocks kept few fine k b = subst IsExchange (sym (λ i. exchange_of (k i) (b i)))
    (is_exchange t (record { spelled = kept; few = few; fine = fine }))
