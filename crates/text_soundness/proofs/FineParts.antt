-- A text that breaks no rule: what that says of each part, and of each of its blocks.
use Rattle.std.proofs.Common.{◌≡◌, ℕ, zero, suc, Bool, false, List, [], ◌∷◌, ◌++◌, length, map}
use Rattle.std.proofs.Common.{take, Option, Some, None, slice_get, refl, ◌∙◌, ap, subst}
use Rattle.std.proofs.Math.Seq.{take-append_seam}
use Rattle.plex_num.proofs.Lists.{got_map, slice_get-append_seam}
use Rattle.first_fault.specs.First.{or_else, IsFine, breaks_at}
use Rattle.first_fault.specs.Told.{AreFine, IsSo}
use Rattle.first_fault.proofs.Tells.{tells_parts}
use Rattle.exchange_model.specs.Inside.{joined}
use Rattle.plex_ast.specs.declared.block.Block.{Block}
use Rattle.plex_ast.specs.declared.tree.Tree.{Tree}
use Rattle.signal_types.specs.Signals.{signals_of}
use Rattle.text_events.specs.Note.{Event}
use Rattle.text_events.specs.Blocks.{block_events}
use Rattle.text_events.specs.Texts.{signal_events, text_events}
use Rattle.text_rules.specs.declared.rule.SignalRule.{SignalRule}
use Rattle.text_rules.specs.declared.rule.BlockRule.{BlockRule}
use Rattle.text_rules.specs.declared.rule.Rule.{Rule}
use Rattle.text_rules.specs.declared.rule.Rule.TheVariants as rule
use Rattle.text_rules.specs.Signals as signals
use Rattle.text_rules.specs.Blocks as blocks
use Rattle.text_rules.specs.Links as links
use Rattle.text_rules.specs.Texts.{line_of, signals_told, blocks_told, links_told, as_rule}
use Rattle.text_rules.specs.Texts.{text_told, BreaksNoRule}
use Rattle.text_rules.proofs.SignalSteps as signal_steps
use Rattle.text_rules.proofs.BlockSteps as block_steps
use Rattle.text_rules.proofs.LinkSteps as link_steps
use Rattle.text_soundness.specs.Fine.{IsFineBlock, link_broken_at}

-- the three phases

abbrev pub signal_broken : SignalRule → signals.KnownNames → Event → Bool
signal_broken r k e = signals.broken r k e.note

abbrev pub block_broken : BlockRule → blocks.KnownInBlock → Event → Bool
block_broken r k e = blocks.broken r k e.note

pub record FineParts (t : Tree) : Type 0 where
  pub signals : AreFine signal_broken signals.number_of line_of signals.known_in_part (text_events t)
  pub blocks : AreFine block_broken blocks.number_of line_of (blocks.known_in_part (signals_of t) t.blocks) (text_events t)
  pub links : AreFine link_broken_at links.number_of line_of (links.known_in_part (signals_of t) t.blocks) (text_events t)

none_first : {X : Type 0} (a b : Option X) → or_else a b ≡ None → a ≡ None
none_first (Some x) b h = absurd cc
none_first None b h = refl

none_other : {X : Type 0} (a b : Option X) → or_else a b ≡ None → b ≡ None
none_other (Some x) b h = absurd cc
none_other None b h = h

nothing_told : {R : Type 0} (kind : R → Rule) (o : Option (R × ℕ)) → as_rule kind o ≡ None → o ≡ None
nothing_told kind (Some fault) h = absurd cc
nothing_told kind None h = refl

pub fine_parts : (t : Tree) → BreaksNoRule t → FineParts t
unfolding text_told
fine_parts t h =
    let parts = text_events t in
    let kinds = signals_of t in
    let first = as_rule rule.Signals (signals_told parts) in
    let second = as_rule rule.Blocks (blocks_told kinds t.blocks parts) in
    let third = as_rule rule.Links (links_told kinds t.blocks parts) in
    let others : or_else second third ≡ None = none_other first (or_else second third) h in
    record {
      signals = subst (IsSo signal_broken signals.number_of line_of signals.known_in_part parts)
          (nothing_told rule.Signals (signals_told parts) (none_first first (or_else second third) h))
          (tells_parts signal_broken signals.all_rules signals.number_of signal_steps.every_rule line_of signals.known_in_part parts);
      blocks = subst (IsSo block_broken blocks.number_of line_of (blocks.known_in_part kinds t.blocks) parts)
          (nothing_told rule.Blocks (blocks_told kinds t.blocks parts) (none_first second third others))
          (tells_parts block_broken blocks.all_rules blocks.number_of block_steps.every_rule line_of (blocks.known_in_part kinds t.blocks) parts);
      links = subst (IsSo link_broken_at links.number_of line_of (links.known_in_part kinds t.blocks) parts)
          (nothing_told rule.Links (links_told kinds t.blocks parts) (none_other second third others))
          (tells_parts link_broken_at links.all_rules links.number_of link_steps.every_rule line_of (links.known_in_part kinds t.blocks) parts);
    }

-- a part of a text

-- an event of a part, by what stands before it
pub fine_event : {E K R : Type 0} (broken : R → K → E → Bool) (number : R → ℕ) (line : E → ℕ)
    (known : List (List E) → List E → List E → K) (parts : List (List E)) → AreFine broken number line known parts
    → (done rest : List (List E)) (own before after : List E) (e : E) (r : R) → parts ≡ done ++ own ∷ rest
    → own ≡ before ++ e ∷ after → broken r (known done own before) e ≡ false
fine_event broken number line known parts fine done rest own before after e r is here =
    let part = fine.each (length done) own (ap (λ p. slice_get p (length done)) is ∙ slice_get-append_seam done own rest) in
    let at : slice_get own (length before) ≡ Some e = ap (λ w. slice_get w (length before)) here ∙ slice_get-append_seam before e after in
    let done_is : take (length done) parts ≡ done = ap (take (length done)) is ∙ take-append_seam done (own ∷ rest) in
    let before_is : take (length before) own ≡ before = ap (take (length before)) here ∙ take-append_seam before (e ∷ after) in
    subst (λ b. broken r (known done own b) e ≡ false) before_is
    (subst (λ d. broken r (known d own (take (length before) own)) e ≡ false) done_is
    (part.each (length before) e r at))

-- a block of a text

long_map : {X Y : Type 0} (f : X → Y) (xs : List X) (i : ℕ) (x : X) → slice_get xs i ≡ Some x → length (take i (map f xs)) ≡ i
long_map f [] i x h = cc
long_map f (y ∷ xs) zero x h = refl
long_map f (y ∷ xs) (suc i) x h = ap suc (long_map f xs i x h)

pub fine_block : (t : Tree) → FineParts t → (b : ℕ) (k : Block) → slice_get t.blocks b ≡ Some k → IsFineBlock (signals_of t) t.blocks k
unfolding text_events
fine_block t f b k at =
    let parts = text_events t in
    let own = block_events k in
    let done = signal_events t ∷ take b (map block_events t.blocks) in
    let there : slice_get parts (suc b) ≡ Some own = got_map block_events t.blocks b k at in
    let long : length done ≡ suc b = ap suc (long_map block_events t.blocks b k at) in
    let is : links.block_of t.blocks (length done) ≡ Some k = ap (links.block_of t.blocks) long ∙ at in
    record {
      fine = f.blocks.each (suc b) own there;
      before = joined done;
      linked = subst (λ (o : Option Block). IsFine
          (breaks_at link_broken_at (λ before. links.known_of (signals_of t) t.blocks o (joined done ++ before) before)
          own) own) is (f.links.each (suc b) own there);
    }
