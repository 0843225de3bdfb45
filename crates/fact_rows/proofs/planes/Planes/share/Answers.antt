use Rattle.std.proofs.Common.{refl}
use Rattle.fact_rows.proofs.Joining.{none_shared, shared_keeps, some_shared}
use Rattle.fact_rows.proofs.planes.Planes.share.Goals as goal

pub returns-then-is_blank-clause-ok : goal.returns-then-is_blank-clause-ok
returns-then-is_blank-clause-ok c = none_shared c.args.self.now c.args.from c.args.to c.requires.none c.requires.to
    c.is_blank.result c.is_blank.ensures c.if-is_blank.true

pub returns-clause-ok : goal.returns-clause-ok
returns-clause-ok c =
    some_shared c.args.self.now c.args.from c.args.to c.requires.none c.requires.to
    (record { set_numbers = c.put.new.self; sets = c.args.self.now.sets; own = c.args.self.now.own; laid = c.args.self.now.laid })
    c.number-number.result c.requires.from c.number-number.ensures refl refl c.in_ok-put.ensures.ok c.is_blank.result
    c.is_blank.ensures c.if-is_blank.false c.requires.blank

pub returns-clause-keeps : goal.returns-clause-keeps
returns-clause-keeps c =
    shared_keeps c.args.self.now c.args.from c.args.to c.requires.none c.requires.to
    (record { set_numbers = c.put.new.self; sets = c.args.self.now.sets; own = c.args.self.now.own; laid = c.args.self.now.laid })
    c.number-number.result c.requires.from c.number-number.ensures refl refl c.in_ok-put.ensures.ok c.requires.sound refl
