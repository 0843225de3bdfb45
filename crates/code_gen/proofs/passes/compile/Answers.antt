use Rattle.std.proofs.Common.{◌<◌, ◌^◌, ◌∙◌, List, ap, length, subst, sym}
use Rattle.machine_code.specs.Coded.{Code}
use Rattle.machine_code.specs.declared.op.Op.{Op}
use Rattle.code_gen.proofs.Tables.{whole_is, entries_are}
use Rattle.code_gen.proofs.passes.compile.Goals as goal

pub whole_code_is_faithful-requires-clause-ops : goal.whole_code_is_faithful-requires-clause-ops
whole_code_is_faithful-requires-clause-ops c =
    ap (λ (x : Code). x.ops) c.in_ok-code.ensures
    ∙ whole_is c.args.exchange.now _ c.in_ok-addresses.addresses c.in_ok-pass.pass.ops c.push.new.self
    c.in_ok-addresses.ensures c.in_ok-pass.ensures.ops c.in_ok-push.ensures

pub whole_code_is_faithful-requires-clause-entries : goal.whole_code_is_faithful-requires-clause-entries
whole_code_is_faithful-requires-clause-entries c =
    ap (λ (x : Code). x.entries) c.in_ok-code.ensures
    ∙ entries_are c.args.exchange.now _ c.in_ok-addresses.addresses c.in_ok-entries.entries
    c.in_ok-addresses.ensures c.in_ok-entries.ensures

pub returns-clause-ops : goal.returns-clause-ops
returns-clause-ops c =
    ap (λ (x : Code). x.ops) c.in_ok-code.ensures
    ∙ whole_is c.args.exchange.now _ c.in_ok-addresses.addresses c.in_ok-pass.pass.ops c.push.new.self
    c.in_ok-addresses.ensures c.in_ok-pass.ensures.ops c.in_ok-push.ensures

pub returns-clause-entries : goal.returns-clause-entries
returns-clause-entries c =
    ap (λ (x : Code). x.entries) c.in_ok-code.ensures
    ∙ entries_are c.args.exchange.now _ c.in_ok-addresses.addresses c.in_ok-entries.entries
    c.in_ok-addresses.ensures c.in_ok-entries.ensures

pub returns-clause-short : goal.returns-clause-short
returns-clause-short c = subst (λ (l : List Op). length l < 2 ^ 32) (sym (ap (λ (x : Code). x.ops) c.in_ok-code.ensures)) c.in_ok-check_length.ensures
