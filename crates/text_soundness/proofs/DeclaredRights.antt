-- What the rules say of each number and each signal that a block declares with.
use Rattle.std.proofs.Common.{◌≡◌, ℕ, ◌+◌, ◌<◌, ◌≤◌, ◌^◌, zero, suc, Bool, false, not, List, []}
use Rattle.std.proofs.Common.{◌∷◌, map, take, get_or, Option, Some, None, refl, sym, ap, subst}
use Rattle.std.proofs.Common.{arith, slice_get}
use Rattle.std.specs.Prelude.{if◌then◌else◌, nat_eq, nat_lt}
use Rattle.std.specs.List.{AllByRecursion}
use Rattle.std.proofs.lemmas.Nat.{pow_pos}
use Rattle.std.proofs.lemmas.Option.{slice_get-get_or}
use Rattle.std.proofs.lemmas.Bool.{eqb-false, ltb-true, ltb-false, lt-ltb, or_parts, not-false}
use Rattle.std.proofs.lemmas.List.Elements.{recursion_from_All}
use Rattle.plex_num.proofs.Lists.{all_left, all_last}
use Rattle.token_grammar.specs.declared.named.Named.{Named}
use Rattle.token_grammar.specs.declared.named.Numbered.{Numbered}
use Rattle.plex_ast.specs.declared.block.Block.{Block as TreeBlock}
use Rattle.plex_ast.specs.declared.block.Field.{Field}
use Rattle.exchange_model.specs.declared.signal.SignalKind.{SignalKind}
use Rattle.exchange_model.specs.Kept.{VariableFits, FieldFits}
use Rattle.signal_types.specs.Found.{kind_in}
use Rattle.text_events.specs.Note.{Event}
use Rattle.text_events.specs.declared.role.Meaning.TheVariants as meaning
use Rattle.text_events.specs.Note.{Note}
use Rattle.text_events.specs.Note as note
use Rattle.text_events.specs.Walk.{add}
use Rattle.text_events.specs.Blocks.{width_walk, fields_walk, field_walk, block_events}
use Rattle.text_rules.specs.declared.rule.BlockRule.TheVariants as rule
use Rattle.text_rules.specs.Blocks.{wrong_width, wrong_init, wrong_size, too_many_temporaries}
use Rattle.text_rules.specs.Blocks.{wrong_signal, stands}
use Rattle.text_soundness.specs.Fine.{Text, known_of}
use Rattle.text_soundness.specs.Fine.{IsFineBlock, text_of}
use Rattle.resolved_block.specs.Meant.{byte_of}
use Rattle.resolved_block.specs.Blocks.{init_of, variable_of, field_of}
use Rattle.text_soundness.proofs.MeaningsSaid.{Said, Adds}

-- a signal that is named stands there
abbrev pub wrong_kind : List SignalKind → Note → Bool
wrong_kind signals (note.Names n role) = not (stands role (kind_in signals n))
wrong_kind signals _ = false

-- what an event keeps, wherever it stands
pub record Right (signals : List SignalKind) (e : Event) : Type 0 where
  pub width : wrong_width e.note ≡ false
  pub init : wrong_init e.note ≡ false
  pub size : wrong_size e.note ≡ false
  pub temporaries : too_many_temporaries e.note ≡ false
  pub kind : wrong_kind signals e.note ≡ false

kind_right : (text : Text) (before : List Event) (said : Note) → wrong_signal (known_of text before) said ≡ false → wrong_kind text.signals said ≡ false
kind_right text before (note.Names n role) h = h
kind_right text before _ h = refl

abbrev pub AllRight : List SignalKind → List Event → Type 0
AllRight signals events = AllByRecursion (Right signals) events

pub all_right : (signals : List SignalKind) (blocks : List TreeBlock) (b : TreeBlock) → IsFineBlock signals blocks b → AllRight signals (block_events b)
all_right signals blocks b fine = recursion_from_All (Right signals) (block_events b) (λ k d inside.
    let whole = block_events b in
    let text = text_of signals blocks b in
    let e = get_or whole k d in
    let at : slice_get whole k ≡ Some e = slice_get-get_or whole k d inside in
    record {
      width = fine.fine.each k e rule.Width at;
      init = fine.fine.each k e rule.Init at;
      size = fine.fine.each k e rule.Size at;
      temporaries = fine.fine.each k e rule.Temporaries at;
      kind = kind_right text (take k whole) e.note (fine.fine.each k e rule.WrongSignal at);
    })

pub before_add : (signals : List SignalKind) (line : ℕ) (said : Note) (out : List Event) → AllRight signals (add line said out) → AllRight signals out
before_add signals line said out h = all_left (Right signals) out (record { line = line; note = said } ∷ []) h

pub at_add : (signals : List SignalKind) (line : ℕ) (said : Note) (out : List Event)
    → AllRight signals (add line said out) → Right signals (record { line = line; note = said })
at_add signals line said out h = all_last (Right signals) out (record { line = line; note = said }) h

pub before_adds : (signals : List SignalKind) (out new : List Event) (saids : List Said) → Adds out new saids → AllRight signals new → AllRight signals out
before_adds signals out new saids adds h = all_left (Right signals) out adds.more (subst (AllRight signals) adds.same h)

-- widths

pub byte_is : (n : ℕ) → n < 256 → byte_of n ≡ n
byte_is n low = ap (λ b. if b then n else 0) (lt-ltb n 256 low)

pub record WidthKept (w : Numbered) : Type 0 where
  pub some : 1 ≤ w.value
  pub few : w.value ≤ 32

width_kept : (w : Numbered) → wrong_width (note.Width w.value) ≡ false → WidthKept w
width_kept w h =
    let parts = or_parts (nat_eq w.value 0) (nat_lt 32 w.value) h in
    record { some = above w.value (eqb-false w.value 0 parts.0); few = ltb-false 32 w.value parts.1 }
  where
    above : (n : ℕ) → (n ≡ 0 → ⊥) → 1 ≤ n
    above zero h = absurd (h refl)
    above (suc n) h = omega arith

init_kept : (init : Option Numbered) (w : Numbered) (signals : List SignalKind) (out : List Event)
    → AllRight signals (width_walk w init out) → init_of init < 2 ^ w.value
init_kept None w signals out h = pow_pos w.value
init_kept (Some i) w signals out h =
    let right = at_add signals i.line (note.Init i.value w.value) (add w.line (note.Width w.value) out) h in
    ltb-true i.value (2 ^ w.value) (not-false (nat_lt i.value (2 ^ w.value)) right.init)

before_init : (init : Option Numbered) (w : Numbered) (signals : List SignalKind) (out : List Event)
    → AllRight signals (width_walk w init out) → AllRight signals (add w.line (note.Width w.value) out)
before_init None w signals out h = h
before_init (Some i) w signals out h = before_add signals i.line (note.Init i.value w.value) (add w.line (note.Width w.value) out) h

pub before_width : (init : Option Numbered) (w : Numbered) (signals : List SignalKind) (out : List Event)
    → AllRight signals (width_walk w init out) → AllRight signals out
before_width init w signals out h = before_add signals w.line (note.Width w.value) out (before_init init w signals out h)

pub variable_fits : (n : Named) (init : Option Numbered) (w : Numbered) (clear : Bool) (signals : List SignalKind)
    (out : List Event) → AllRight signals (width_walk w init out) → VariableFits (variable_of n w init clear)
variable_fits n init w clear signals out h =
    let right = at_add signals w.line (note.Width w.value) out (before_init init w signals out h) in
    let kept = width_kept w right.width in
    let low : w.value < 256 = omega (arith, kept.few) in
    let same : byte_of w.value ≡ w.value = byte_is w.value low in
    record {
      some = omega (arith, same, kept.some);
      few = omega (arith, same, kept.few);
      init = subst (λ k. init_of init < 2 ^ k) (sym same) (init_kept init w signals out h);
    }

-- files

pub record Walked (signals : List SignalKind) (P : Type 0) (out : List Event) : Type 0 where
  pub fits : P
  pub before : AllRight signals out

pub fields_fit : (fields : List Field) (file place : ℕ) (signals : List SignalKind) (out : List Event)
    → AllRight signals (fields_walk fields file place out)
    → Walked signals (AllByRecursion FieldFits (map field_of fields)) out
fields_fit [] file place signals out h = record { fits = tt; before = h }
fields_fit (d ∷ rest) file place signals out h =
    let more = fields_fit rest file (place + 1) signals (field_walk d file place out) h in
    let named = add d.name.line (note.Declares d.name.name (meaning.Field file place)) out in
    record {
      fits = (record { variable = variable_fits d.name d.init d.width false signals named more.before; stays = refl }, more.fits);
      before = before_add signals d.name.line (note.Declares d.name.name (meaning.Field file place)) out
          (before_width d.init d.width signals named more.before);
    }

pub size_kept : (n : ℕ) → wrong_size (note.Size n) ≡ false → (1 ≤ n) × (n ≤ 65535)
size_kept n h =
    let parts = or_parts (nat_eq n 0) (nat_lt 65535 n) h in
    (above n (eqb-false n 0 parts.0), ltb-false 65535 n parts.1)
  where
    above : (n : ℕ) → (n ≡ 0 → ⊥) → 1 ≤ n
    above zero h = absurd (h refl)
    above (suc n) h = omega arith
