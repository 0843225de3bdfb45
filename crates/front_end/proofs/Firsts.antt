-- What is told is the first fault, and a text has one.
use Rattle.std.proofs.Common.{⊎_elim, ◌≡◌, ℕ, ◌<◌, Bool, List, [], ◌∷◌, Option, Some, None, sym}
use Rattle.std.proofs.Common.{◌∙◌, ap, subst, arith, slice_get}
use Rattle.std.proofs.lemmas.Option.{same_Some}
use Rattle.std.proofs.lemmas.Bool.{cases_lt}
use Rattle.first_fault.specs.First.{IsFirstFault as IsFirst}
use Rattle.first_fault.specs.Told.{AreFine, IsFirstOfParts, IsSo, HasAll, Among, Rising, breaks_in}
use Rattle.first_fault.proofs.Once.{fine_no_fault, same_line, same_number}
use Rattle.first_fault.proofs.Tells.{tells_parts}
use Rattle.plex_ast.specs.declared.tree.Tree.{Tree}
use Rattle.signal_types.specs.Signals.{signals_of}
use Rattle.text_events.specs.Note.{Event}
use Rattle.text_events.specs.Texts.{text_events}
use Rattle.text_rules.specs.declared.rule.SignalRule.{SignalRule}
use Rattle.text_rules.specs.declared.rule.BlockRule.{BlockRule}
use Rattle.text_rules.specs.declared.rule.LinkRule.{LinkRule}
use Rattle.text_rules.specs.declared.rule.Rule.{Rule}
use Rattle.text_rules.specs.declared.rule.Rule.TheVariants as rule
use Rattle.text_rules.specs.Signals as signals
use Rattle.text_rules.specs.Blocks as blocks
use Rattle.text_rules.specs.Links as links
use Rattle.text_rules.specs.Texts.{line_of, signals_told, blocks_told, links_told, text_told}
use Rattle.text_rules.specs.Texts.{BreaksNoRule}
use Rattle.text_rules.proofs.SignalSteps as signal_steps
use Rattle.text_rules.proofs.BlockSteps as block_steps
use Rattle.text_rules.proofs.LinkSteps as link_steps
use Rattle.front_end.specs.Firsts.{IsFine, IsFirstFault, KeepsSignals, KeepsBlocks, KeepsLinks}
use Rattle.front_end.specs.Firsts.{FirstOfSignals, FirstOfBlocks, FirstOfLinks}
use Rattle.front_end.proofs.Told.{in_order}
use Rattle.first_fault.proofs.First.{above_among}

-- rules of one number are one

one_number : {R : Type 0} (number : R → ℕ) (rs : List R) (q r : R) → Rising number rs → Among q rs → Among r rs → number q ≡ number r → q ≡ r
one_number number [] q r rising in_q in_r same = absurd in_q
one_number number (x ∷ rs) q r rising in_q in_r same =
    ⊎_elim (λ q_is. ⊎_elim (λ r_is. q_is ∙ sym r_is)
    (λ r_later. absurd (let low = above_among number (number x) rs r rising.0 r_later in let first = ap number q_is
    in omega (arith, low, first, same))) in_r)
    (λ q_later. ⊎_elim (λ r_is. absurd (let low = above_among number (number x) rs q rising.0 q_later in let first = ap
    number r_is in omega (arith, low, first, same)))
    (λ r_later. one_number number rs q r rising.1 q_later r_later same) in_r) in_q

same_rule : {R : Type 0} (number : R → ℕ) (rs : List R) (all : HasAll number rs) (q r : R) → number q ≡ number r → q ≡ r
same_rule number rs all q r same = one_number number rs q r all.rising (all.all q) (all.all r) same

-- one set of rules

module _ {E K R : Type 0} (broken : R → K → E → Bool) (rules : List R) (number : R → ℕ) (all : HasAll number rules)
    (line : E → ℕ) (known : List (List E) → List E → List E → K) (parts : List (List E)) where
  pub none_first : (r : R) (on : ℕ) → AreFine broken number line known parts → IsFirstOfParts broken number line known parts r on → ⊥
  none_first r on fine x = fine_no_fault (breaks_in broken number line known parts x.part x.own) number line x.own r on (fine.each x.part x.own x.at) x.first

  not_before : (r q : R) (on at : ℕ) (x : IsFirstOfParts broken number line known parts r on)
      (y : IsFirstOfParts broken number line known parts q at) → x.part < y.part → ⊥
  not_before r q on at x y low = fine_no_fault (breaks_in broken number line known parts x.part x.own) number line x.own
      r on (y.before x.part x.own low x.at) x.first

  same_part : (r q : R) (on at : ℕ) (x : IsFirstOfParts broken number line known parts r on)
      (y : IsFirstOfParts broken number line known parts q at) → x.part ≡ y.part
  same_part r q on at x y =
      ⊎_elim (λ low. absurd (not_before r q on at x y low)) (λ high.
      ⊎_elim (λ low. absurd (not_before q r at on y x low)) (λ low. omega arith) (cases_lt y.part x.part)) (cases_lt x.part y.part)

  pub one_first : (r q : R) (on at : ℕ) → IsFirstOfParts broken number line known parts r on
      → IsFirstOfParts broken number line known parts q at → (r ≡ q) × (on ≡ at)
  one_first r q on at x y =
      let part = same_part r q on at x y in
      let own : x.own ≡ y.own = same_Some x.own y.own (sym x.at ∙ ap (slice_get parts) part ∙ y.at) in
      let first : IsFirst (breaks_in broken number line known parts y.part y.own) number line y.own r on =
      subst (λ p. IsFirst (breaks_in broken number line known parts p y.own) number line y.own r on) part
      (subst (λ w. IsFirst (breaks_in broken number line known parts x.part w) number line w r on) own x.first) in (
        same_rule number rules all r q (same_number (breaks_in broken number line known parts y.part y.own) number line y.own r q on at first y.first),
        same_line (breaks_in broken number line known parts y.part y.own) number line y.own r q on at first y.first,
      )

-- the three sets

SignalsSo : Tree → Option (SignalRule × ℕ) → Type 0
SignalsSo t = IsSo (λ r k (e : Event). signals.broken r k e.note) signals.number_of line_of signals.known_in_part (text_events t)

BlocksSo : Tree → Option (BlockRule × ℕ) → Type 0
BlocksSo t = IsSo (λ r k (e : Event). blocks.broken r k e.note) blocks.number_of line_of (blocks.known_in_part (signals_of t) t.blocks) (text_events t)

LinksSo : Tree → Option (LinkRule × ℕ) → Type 0
LinksSo t = IsSo (λ r k (e : Event). links.broken r k e.note) links.number_of line_of (links.known_in_part (signals_of t) t.blocks) (text_events t)

signals_so : (t : Tree) → SignalsSo t (signals_told (text_events t))
unfolding SignalsSo
signals_so t = tells_parts (λ r k e. signals.broken r k e.note) signals.all_rules signals.number_of
    signal_steps.every_rule line_of signals.known_in_part (text_events t)

blocks_so : (t : Tree) → BlocksSo t (blocks_told (signals_of t) t.blocks (text_events t))
unfolding BlocksSo
blocks_so t = tells_parts (λ r k e. blocks.broken r k e.note) blocks.all_rules blocks.number_of block_steps.every_rule
    line_of (blocks.known_in_part (signals_of t) t.blocks) (text_events t)

links_so : (t : Tree) → LinksSo t (links_told (signals_of t) t.blocks (text_events t))
unfolding LinksSo
links_so t = tells_parts (λ r k e. links.broken r k e.note) links.all_rules links.number_of link_steps.every_rule
    line_of (links.known_in_part (signals_of t) t.blocks) (text_events t)

-- what is told is so of the text
abbrev pub IsOf : Tree → Option (Rule × ℕ) → Type 0
IsOf t None = IsFine t
IsOf t (Some fault) = IsFirstFault t fault.0 fault.1

all_so : (t : Tree) (s : Option (SignalRule × ℕ)) (b : Option (BlockRule × ℕ)) (l : Option (LinkRule × ℕ))
    → SignalsSo t s → BlocksSo t b → LinksSo t l → IsOf t (in_order s b l)
unfolding SignalsSo BlocksSo LinksSo
all_so t (Some s) b l hs hb hl = hs
all_so t None (Some b) l hs hb hl = (hs, hb)
all_so t None None (Some l) hs hb hl = ((hs, hb), hl)
all_so t None None None hs hb hl = record { signals = hs; blocks = hb; links = hl }

told_so : (t : Tree) → IsOf t (text_told t)
unfolding text_told
told_so t = all_so t (signals_told (text_events t)) (blocks_told (signals_of t) t.blocks (text_events t))
    (links_told (signals_of t) t.blocks (text_events t)) (signals_so t) (blocks_so t) (links_so t)

pub told_first : (t : Tree) (r : Rule) (line : ℕ) → text_told t ≡ Some (r, line) → IsFirstFault t r line
told_first t r line told = subst (IsOf t) told (told_so t)

pub none_told : (t : Tree) → BreaksNoRule t → IsFine t
none_told t told = subst (IsOf t) told (told_so t)

-- one fault

apart_signals : (t : Tree) (r : SignalRule) (line : ℕ) → KeepsSignals t → FirstOfSignals t r line → ⊥
apart_signals t r line = none_first (λ r k e. signals.broken r k e.note) signals.all_rules signals.number_of
    signal_steps.every_rule line_of signals.known_in_part (text_events t) r line

apart_blocks : (t : Tree) (r : BlockRule) (line : ℕ) → KeepsBlocks t → FirstOfBlocks t r line → ⊥
apart_blocks t r line = none_first (λ r k e. blocks.broken r k e.note) blocks.all_rules blocks.number_of
    block_steps.every_rule line_of (blocks.known_in_part (signals_of t) t.blocks) (text_events t) r line

apart_links : (t : Tree) (r : LinkRule) (line : ℕ) → KeepsLinks t → FirstOfLinks t r line → ⊥
apart_links t r line = none_first (λ r k e. links.broken r k e.note) links.all_rules links.number_of
    link_steps.every_rule line_of (links.known_in_part (signals_of t) t.blocks) (text_events t) r line

pub no_first : (t : Tree) (r : Rule) (line : ℕ) → IsFine t → IsFirstFault t r line → ⊥
no_first t (rule.Signals r) line fine x = apart_signals t r line fine.signals x
no_first t (rule.Blocks r) line fine x = apart_blocks t r line fine.blocks x.1
no_first t (rule.Links r) line fine x = apart_links t r line fine.links x.1

one_signal : (t : Tree) (r q : SignalRule) (line on : ℕ) → FirstOfSignals t r line → FirstOfSignals t q on → (r ≡ q) × (line ≡ on)
one_signal t r q line on = one_first (λ r k e. signals.broken r k e.note) signals.all_rules signals.number_of
    signal_steps.every_rule line_of signals.known_in_part (text_events t) r q line on

one_block : (t : Tree) (r q : BlockRule) (line on : ℕ) → FirstOfBlocks t r line → FirstOfBlocks t q on → (r ≡ q) × (line ≡ on)
one_block t r q line on = one_first (λ r k e. blocks.broken r k e.note) blocks.all_rules blocks.number_of
    block_steps.every_rule line_of (blocks.known_in_part (signals_of t) t.blocks) (text_events t) r q line on

one_link : (t : Tree) (r q : LinkRule) (line on : ℕ) → FirstOfLinks t r line → FirstOfLinks t q on → (r ≡ q) × (line ≡ on)
one_link t r q line on = one_first (λ r k e. links.broken r k e.note) links.all_rules links.number_of
    link_steps.every_rule line_of (links.known_in_part (signals_of t) t.blocks) (text_events t) r q line on

as_one : {R : Type 0} (kind : R → Rule) (r q : R) (line on : ℕ) → (r ≡ q) × (line ≡ on) → (kind r ≡ kind q) × (line ≡ on)
as_one kind r q line on same = (ap kind same.0, same.1)

pub same_first : (t : Tree) (r q : Rule) (line on : ℕ) → IsFirstFault t r line → IsFirstFault t q on → (r ≡ q) × (line ≡ on)
same_first t (rule.Signals r) (rule.Signals q) line on x y = as_one rule.Signals r q line on (one_signal t r q line on x y)
same_first t (rule.Signals r) (rule.Blocks q) line on x y = absurd (apart_signals t r line y.0 x)
same_first t (rule.Signals r) (rule.Links q) line on x y = absurd (apart_signals t r line y.0.0 x)
same_first t (rule.Blocks r) (rule.Signals q) line on x y = absurd (apart_signals t q on x.0 y)
same_first t (rule.Blocks r) (rule.Blocks q) line on x y = as_one rule.Blocks r q line on (one_block t r q line on x.1 y.1)
same_first t (rule.Blocks r) (rule.Links q) line on x y = absurd (apart_blocks t r line y.0.1 x.1)
same_first t (rule.Links r) (rule.Signals q) line on x y = absurd (apart_signals t q on x.0.0 y)
same_first t (rule.Links r) (rule.Blocks q) line on x y = absurd (apart_blocks t q on x.0.1 y.1)
same_first t (rule.Links r) (rule.Links q) line on x y = as_one rule.Links r q line on (one_link t r q line on x.1 y.1)
