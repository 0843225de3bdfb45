use Rattle.std.proofs.Common.{◌≡◌, None, rules}
use Rattle.certificate_text.proofs.Facts.{no_entry, no_point, no_slot, no_value, fact_read}
use Rattle.certificate_text.proofs.read_fact.fact.Goals as goal

pub returns-in_err-entry : goal.returns-in_err-entry
returns-in_err-entry c =
    let gave : c.from_residual.result ≡ None = search rules in
    rw gave (no_entry c.args.text.now c.in_err-entry.ensures)

pub returns-in_err-point : goal.returns-in_err-point
returns-in_err-point c =
    let gave : c.from_residual-in_err-point.result ≡ None = search rules in
    rw gave (no_point c.args.text.now c.in_ok-entry.rest.now c.in_ok-entry.entry c.in_ok-entry.ensures c.in_err-point.ensures)

pub returns-in_err-slot : goal.returns-in_err-slot
returns-in_err-slot c =
    let gave : c.from_residual-in_err-slot.result ≡ None = search rules in
    rw gave (no_slot c.args.text.now c.in_ok-entry.rest.now c.in_ok-point.rest.now c.in_ok-entry.entry
    c.in_ok-point.point c.in_ok-entry.ensures c.in_ok-point.ensures c.in_err-slot.ensures)

pub returns-in_err-value : goal.returns-in_err-value
returns-in_err-value c =
    let gave : c.from_residual-in_err-value.result ≡ None = search rules in
    rw gave (no_value c.args.text.now c.in_ok-entry.rest.now c.in_ok-point.rest.now c.in_ok-slot.rest.now
    c.in_ok-entry.entry c.in_ok-point.point c.in_ok-slot.slot c.in_ok-entry.ensures c.in_ok-point.ensures
    c.in_ok-slot.ensures c.in_err-value.ensures)

pub returns : goal.returns
returns c = fact_read c.args.text.now c.in_ok-entry.rest.now c.in_ok-point.rest.now c.in_ok-slot.rest.now
    c.in_ok-value.rest.now (record {
      entry = c.in_ok-entry.entry;
      point = c.in_ok-point.point;
      slot = c.in_ok-slot.slot;
      value = c.in_ok-value.value;
    }) c.in_ok-entry.ensures c.in_ok-point.ensures c.in_ok-slot.ensures
    c.in_ok-value.ensures
