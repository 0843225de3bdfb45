use Rattle.std.proofs.Common.{◌≡◌, ◌∙◌, ◌<◌, ◌^◌, ℕ, List, Ok, Err, length, nat_eq, ap, subst, sym}
use Rattle.std.proofs.lemmas.Bool.{eqb-false, eqb-true}
use Rattle.std.proofs.lemmas.List.{nil_from_length}
use Rattle.std.specs.Cmp.Lexicographic.{other_text, same_text}
use Rattle.machine_code.specs.declared.op.Op.{Op}
use Rattle.listing.specs.Statements.{ReadsStatement}
use Rattle.listing.proofs.Once.{code_told}
use Rattle.listing.proofs.FirstLines.{Read, read_begin, read_few, read_fault, read_last, read_more}
use Rattle.listing.proofs.FirstLines.{read_open, read_past}
use Rattle.listing.proofs.read.read_lines.Goals as goal

pub loop-line-init : goal.loop-line-init
loop-line-init c =
    let begun = read_begin c.args.text.now c.args.rest.now c.requires.begun in
    subst (λ (es : List ℕ). Read c.args.text.now c.args.rest.now c.new-ops.result es 1) (sym c.new-entries.ensures)
    (subst (λ (os : List Op). Read c.args.text.now c.args.rest.now os _ 1) (sym c.new-ops.ensures) begun)

pub statement-requires-clause-few : goal.statement-requires-clause-few
statement-requires-clause-few c =
    let few = read_few c.args.text.now c.loop-line.rest.now c.loop-line.ops c.loop-line.entries c.loop-line.number c.loop-line.invariant c.requires.small in
    subst (λ (k : ℕ). k < 2 ^ 32) (sym c.len.ensures) few

pub statement-requires-clause-other : goal.statement-requires-clause-other
statement-requires-clause-other c = λ e. other_text c.in-Some.line.now c.as_slice.result.now c.if-eq.ensures (e ∙ sym c.as_slice.ensures)

pub returns-then-is_empty : goal.returns-then-is_empty
returns-then-is_empty c =
    code_told c.args.text.now c.code_of.result _
    (read_last c.args.text.now c.loop-line.rest.now c.in-Some.line.now c.in-Some.after.now c.loop-line.ops
    c.loop-line.entries c.loop-line.number c.loop-line.invariant c.in-Some.ensures
    (same_text c.in-Some.line.now c.as_slice.result.now c.if-eq.ensures ∙ c.as_slice.ensures)
    (nil_from_length c.in-Some.after.now (eqb-true (length c.in-Some.after.now) 0 (sym c.if-is_empty.ensures))))
    c.code_of.ensures

pub returns-else-is_empty : goal.returns-else-is_empty
returns-else-is_empty c = read_past c.args.text.now c.loop-line.rest.now c.in-Some.line.now c.in-Some.after.now
    c.loop-line.ops c.loop-line.entries c.loop-line.number c.loop-line.invariant c.in-Some.ensures
    (same_text c.in-Some.line.now c.as_slice.result.now c.if-eq.ensures ∙ c.as_slice.ensures)
    (λ e. eqb-false (length c.in-Some.after.now) 0 (sym c.if-is_empty.ensures) (ap length e))

pub returns-in-Err : goal.returns-in-Err
returns-in-Err c =
    let at = nat_eq c.len-in-Some.result 0 in
    let same : at ≡ nat_eq (length c.loop-line.ops) 0 = ap (λ (n : ℕ). nat_eq n 0) c.len-in-Some.ensures in
    let reads : ReadsStatement (length c.loop-line.entries) at c.in-Some.line.now (Err c.in-Err.fault) = subst
    (λ (k : ℕ). ReadsStatement k at c.in-Some.line.now (Err c.in-Err.fault)) c.len.ensures c.in-Err.ensures in
    read_fault c.args.text.now c.loop-line.rest.now c.in-Some.line.now c.in-Some.after.now c.loop-line.ops
    c.loop-line.entries c.loop-line.number at c.in-Err.fault c.at.result c.loop-line.invariant c.in-Some.ensures
    same reads c.at.ensures

pub loop-line-preserved : goal.loop-line-preserved
loop-line-preserved c =
    let at = nat_eq c.len-in-Some.result 0 in
    let same : at ≡ nat_eq (length c.loop-line.ops) 0 = ap (λ (n : ℕ). nat_eq n 0) c.len-in-Some.ensures in
    let reads : ReadsStatement (length c.loop-line.entries) at c.in-Some.line.now (Ok c.in-Ok.said) = subst
    (λ (k : ℕ). ReadsStatement k at c.in-Some.line.now (Ok c.in-Ok.said)) c.len.ensures c.in-Ok.ensures in
    read_more c.args.text.now c.loop-line.rest.now c.in-Some.line.now c.in-Some.after.now c.loop-line.ops c.add.new.ops
    c.loop-line.entries c.add.new.entries c.loop-line.number at c.in-Ok.said c.loop-line.invariant c.in-Some.ensures
    same reads c.requires.small c.in_ok-add-in-Ok.ensures

pub returns : goal.returns
returns c = read_open c.args.text.now c.loop-line.rest.now c.loop-line.ops c.loop-line.entries c.loop-line.number c.loop-line.invariant c.in_default.ensures
