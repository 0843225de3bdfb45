use Rattle.std.proofs.Common.{◌≡◌, ◌<◌, ◌≤◌, ◌∙◌, sym, ap, subst}
use Rattle.flow_points.specs.declared.fact.Slot.{Slot}
use Rattle.flow_points.specs.declared.fact.Slot.TheVariants.{Awaits}
use Rattle.flow_points.specs.declared.fact.Value.{Value}
use Rattle.flow_points.specs.declared.flow.Source.TheVariants.{Of}
use Rattle.flow_points.specs.Facts.{SourceGives}
use Rattle.flow_points.specs.Sources.{source_of}
use Rattle.flow_table.specs.Giving.{SlotGives}
use Rattle.fact_flows.specs.Slots.{row_slots}
use Rattle.fact_rows.specs.Known.{HasSpot, Knows}
use Rattle.fact_rows.specs.Values.{HasNumber, is_awaits}
use Rattle.least_facts.specs.Giving.{Gives}
use Rattle.least_facts.proofs.Filling.{slot_alike, slot_number, slot_spot, slots_begin, slots_more}
use Rattle.least_facts.proofs.Filling.{slots_end}
use Rattle.least_facts.proofs.giving.give_slots.Goals as goal

pub loop-i-init : goal.loop-i-init
loop-i-init c = slots_begin c.args.setting.now.exchange.now c.args.setting.now.entry c.args.from c.args.how.now
    c.args.to (row_slots c.args.row.now) c.args.rows.now

pub source_over-source-requires : goal.source_over-source-requires
source_over-source-requires c = c.requires.can.good.small

pub give-requires-clause-entry : goal.give-requires-clause-entry
give-requires-clause-entry c = c.loop-i.invariant.fills.entry ∙ c.requires.can.of_entry

pub give-requires-clause-spot : goal.give-requires-clause-spot
give-requires-clause-spot c = subst (HasSpot c.loop-i.rows.marks.slots c.args.to) (sym c.slot_at-slot.ensures)
    (slot_spot c.args.setting.now.exchange.now c.args.setting.now.table.now c.args.setting.now.entry c.args.from
    c.args.how.now c.args.to c.args.rows.now c.kept.ensures c.requires.setting.table c.requires.can
    (row_slots c.args.row.now) c.requires.slots c.loop-i.i Awaits
    (subst (λ n. c.loop-i.i < n) c.slot_count-count.ensures c.loop-i-test.true) c.loop-i.grown c.loop-i.rows
    c.loop-i.invariant)

pub give-requires-clause-alike : goal.give-requires-clause-alike
give-requires-clause-alike c = subst (λ (s : Slot). (own : Slot) → c.source_over-source.result ≡ Of own
    → is_awaits own ≡ is_awaits s) (sym c.slot_at-slot.ensures)
    (slot_alike c.args.setting.now.exchange.now c.args.setting.now.table.now c.args.setting.now.entry c.args.from
    c.args.how.now c.args.to c.args.rows.now c.kept.ensures c.requires.setting.table c.requires.can
    (row_slots c.args.row.now) c.requires.slots c.loop-i.i Awaits
    (subst (λ n. c.loop-i.i < n) c.slot_count-count.ensures c.loop-i-test.true) c.loop-i.grown c.loop-i.rows
    c.loop-i.invariant c.source_over-source.result
    (c.source_over-source.ensures ∙ ap (source_of c.args.how.now) c.slot_at-slot.ensures))

pub give-requires-clause-number : goal.give-requires-clause-number
give-requires-clause-number c = subst (λ (s : Slot). (v : Value)
    → SourceGives (Knows c.loop-i.rows) c.args.setting.now.entry c.args.from c.source_over-source.result v
    → HasNumber s v) (sym c.slot_at-slot.ensures)
    (slot_number c.args.setting.now.exchange.now c.args.setting.now.table.now c.args.setting.now.entry c.args.from
    c.args.how.now c.args.to c.args.rows.now c.kept.ensures c.requires.setting.table c.requires.can
    (row_slots c.args.row.now) c.requires.slots c.loop-i.i Awaits
    (subst (λ n. c.loop-i.i < n) c.slot_count-count.ensures c.loop-i-test.true) c.loop-i.grown c.loop-i.rows
    c.loop-i.invariant c.source_over-source.result
    (c.source_over-source.ensures ∙ ap (source_of c.args.how.now) c.slot_at-slot.ensures))

pub loop-i-preserved : goal.loop-i-preserved
loop-i-preserved c = slots_more c.args.setting.now.exchange.now c.args.setting.now.table.now c.args.setting.now.entry
    c.args.from c.args.how.now c.args.to c.args.rows.now c.kept.ensures c.requires.setting.table c.requires.can
    (row_slots c.args.row.now) c.requires.slots c.loop-i.i Awaits
    (subst (λ n. c.loop-i.i < n) c.slot_count-count.ensures c.loop-i-test.true) c.loop-i.grown c.loop-i.rows
    c.loop-i.invariant c.source_over-source.result
    (c.source_over-source.ensures ∙ ap (source_of c.args.how.now) c.slot_at-slot.ensures) c.in_ok-new.new
    c.give.new.rows (subst (λ (s : Slot). Gives c.loop-i.rows
    (SlotGives (Knows c.loop-i.rows) c.args.setting.now.entry c.args.from c.source_over-source.result c.args.to s)
    c.in_ok-new.new c.give.new.rows) c.slot_at-slot.ensures c.in_ok-new.ensures)

pub returns : goal.returns
returns c = slots_end c.args.setting.now.exchange.now c.args.setting.now.entry c.args.from c.args.how.now c.args.to
    (row_slots c.args.row.now) c.args.rows.now c.loop-i.rows c.loop-i.i c.loop-i.grown
    (subst (λ n. n ≤ c.loop-i.i) c.slot_count-count.ensures c.loop-i-test.false) c.loop-i.invariant
