-- A total that goes over its limit nowhere in a text is within it.
use Rattle.std.proofs.Common.{◌≡◌, ℕ, ◌+◌, ◌≤◌, false, ◌||◌, List, [], ◌∷◌, ◌++◌, refl, sym, ◌∙◌}
use Rattle.std.proofs.Common.{subst, arith, append-nil, append_assoc}
use Rattle.std.proofs.lemmas.Bool.{or_parts}
use Rattle.first_fault.specs.First.{total}
use Rattle.exchange_model.specs.Inside.{joined}
use Rattle.exchange_model.proofs.Lists.{joined_push}
use Rattle.plex_limits.specs.declared.limits.TheConstants.{MOST_SIGNALS, MOST_BLOCKS, MOST_ENTRIES}
use Rattle.plex_limits.specs.declared.limits.TheConstants.{MOST_STATEMENTS, MOST_CELLS}
use Rattle.plex_ast.specs.declared.tree.Tree.{Tree}
use Rattle.signal_types.specs.Signals.{signals_of}
use Rattle.signal_types.specs.Found.{kind_in}
use Rattle.text_events.specs.Note.{Event}
use Rattle.text_events.specs.Texts.{text_events}
use Rattle.text_rules.specs.declared.rule.LinkRule.TheVariants.{Limit}
use Rattle.text_rules.specs.Links.{Amounts, adds, amounts_in, goes_over, one_goes_over}
use Rattle.text_rules.specs.Links.{known_in_part, number_of}
use Rattle.text_rules.specs.Texts.{line_of}
use Rattle.text_soundness.specs.Fine.{link_broken_at}
use Rattle.text_soundness.proofs.BuiltText.{total_append}
use Rattle.text_soundness.proofs.FineParts.{FineParts, fine_event}

stays_within : (limit before more : ℕ) → goes_over limit before more ≡ false → before ≤ limit → before + more ≤ limit
stays_within limit before more h le = grind arith

-- what is not over
pub record Stays (a more : Amounts) : Type 0 where
  pub signals : goes_over MOST_SIGNALS a.signals more.signals ≡ false
  pub blocks : goes_over MOST_BLOCKS a.blocks more.blocks ≡ false
  pub entries : goes_over MOST_ENTRIES a.entries more.entries ≡ false
  pub statements : goes_over MOST_STATEMENTS a.statements more.statements ≡ false
  pub cells : goes_over MOST_CELLS a.cells more.cells ≡ false

stays : (a more : Amounts) → one_goes_over a more ≡ false → Stays a more
stays a more h =
    let signals = goes_over MOST_SIGNALS a.signals more.signals in
    let blocks = goes_over MOST_BLOCKS a.blocks more.blocks in
    let entries = goes_over MOST_ENTRIES a.entries more.entries in
    let statements = goes_over MOST_STATEMENTS a.statements more.statements in
    let cells = goes_over MOST_CELLS a.cells more.cells in
    let first = or_parts signals (blocks || (entries || (statements || cells))) h in
    let second = or_parts blocks (entries || (statements || cells)) first.1 in
    let third = or_parts entries (statements || cells) second.1 in
    let last = or_parts statements cells third.1 in
    record { signals = first.0; blocks = second.0; entries = third.0; statements = last.0; cells = last.1 }

module _ (t : Tree) (fine : FineParts t) (amount : Event → ℕ) (limit : ℕ)
    (each : (before : List Event) (e : Event) → Stays (amounts_in (kind_in (signals_of t)) before)
    (adds (kind_in (signals_of t)) e.note) → goes_over limit (total amount before) (amount e) ≡ false) where
  own_within : (done rest : List (List Event)) (own before after : List Event) → text_events t ≡ done ++ own ∷ rest
      → own ≡ before ++ after → total amount (joined done ++ before) ≤ limit → total amount (joined done ++ own) ≤ limit
  own_within done rest own before [] is here le = subst (λ o. total amount (joined done ++ o) ≤ limit) (sym (here ∙ append-nil before)) le
  own_within done rest own before (e ∷ after) is here le =
      let over = fine_event link_broken_at number_of line_of (known_in_part (signals_of t) t.blocks) (text_events t)
      fine.links done rest own before after e Limit is here in
      let one = each (joined done ++ before) e
      (stays (amounts_in (kind_in (signals_of t)) (joined done ++ before)) (adds (kind_in (signals_of t)) e.note)
      over) in
      let more = stays_within limit (total amount (joined done ++ before)) (amount e) one le in
      own_within done rest own (before ++ e ∷ []) after is (here ∙ sym (append_assoc before (e ∷ []) after))
      (omega (arith, more, total_append amount (joined done) (before ++ e ∷ []), total_append amount before (e ∷ []), total_append amount (joined done) before))

  parts_within : (done rest : List (List Event)) → text_events t ≡ done ++ rest → total amount (joined done) ≤ limit
      → total amount (joined (text_events t)) ≤ limit
  parts_within done [] is le = subst (λ p. total amount (joined p) ≤ limit) (sym (is ∙ append-nil done)) le
  parts_within done (own ∷ rest) is le =
      parts_within (done ++ own ∷ []) rest (is ∙ sym (append_assoc done (own ∷ []) rest))
      (subst (λ r. total amount r ≤ limit) (sym (joined_push done own))
      (own_within done rest own [] own is refl
      (subst (λ r. total amount r ≤ limit) (sym (append-nil (joined done))) le)))

  all_within : total amount (joined (text_events t)) ≤ limit
  all_within = parts_within [] (text_events t) refl (omega arith)

-- each number that has a limit
pub record AreWithin (a : Amounts) : Type 0 where
  pub signals : a.signals ≤ MOST_SIGNALS
  pub blocks : a.blocks ≤ MOST_BLOCKS
  pub entries : a.entries ≤ MOST_ENTRIES
  pub statements : a.statements ≤ MOST_STATEMENTS
  pub cells : a.cells ≤ MOST_CELLS

pub are_within : (t : Tree) → FineParts t → AreWithin (amounts_in (kind_in (signals_of t)) (joined (text_events t)))
are_within t f =
    let kind = kind_in (signals_of t) in
    record {
      signals = all_within t f (λ (e : Event). (adds kind e.note).signals) MOST_SIGNALS (λ before e s. s.signals);
      blocks = all_within t f (λ (e : Event). (adds kind e.note).blocks) MOST_BLOCKS (λ before e s. s.blocks);
      entries = all_within t f (λ (e : Event). (adds kind e.note).entries) MOST_ENTRIES (λ before e s. s.entries);
      statements = all_within t f (λ (e : Event). (adds kind e.note).statements) MOST_STATEMENTS (λ before e s. s.statements);
      cells = all_within t f (λ (e : Event). (adds kind e.note).cells) MOST_CELLS (λ before e s. s.cells);
    }
