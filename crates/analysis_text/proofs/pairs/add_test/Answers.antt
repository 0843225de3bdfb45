use Rattle.std.proofs.Common.{◌≡◌, ◌++◌}
use Rattle.analysis_text.specs.Lines.{test_words}
use Rattle.analysis_text.proofs.Named.{holds_no_told, on_ok}
use Rattle.analysis_text.proofs.pairs.add_test.Goals as goal

pub returns-in_ok-append-in-HoldsNo : goal.returns-in_ok-append-in-HoldsNo
returns-in_ok-append-in-HoldsNo c =
    on_ok c.append-in-HoldsNo-2.result (c.append-in-HoldsNo-2.new.self ≡ c.append-in-HoldsNo.new.self
    ++ c.name_at.result.now) (c.append-in-HoldsNo-2.new.self ≡ c.append-in-HoldsNo.new.self)
    (c.append-in-HoldsNo-2.new.self ≡ c.args.text.now ++ test_words c.args.names.now c.args.test)
    (λ wrote. holds_no_told c.args.names.now c.args.test c.in-HoldsNo.file c.args.text.now c.append-in-HoldsNo.new.self
    c.name_at.result.now c.append-in-HoldsNo-2.new.self
    c.in-HoldsNo.is c.in_ok-append-in-HoldsNo.ensures c.name_at.ensures wrote)
    c.append-in-HoldsNo-2.ensures
