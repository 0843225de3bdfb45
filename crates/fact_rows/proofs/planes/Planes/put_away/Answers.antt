use Rattle.std.proofs.Common.{length, length-set, ap, arith, refl, subst}
use Rattle.fact_rows.specs.Spread.{HasSet}
use Rattle.fact_rows.proofs.Spreading.{longer_alike, away_alike}
use Rattle.fact_rows.proofs.planes.Planes.put_away.Goals as goal

pub returns-in_err-number-clause-alike : goal.returns-in_err-number-clause-alike
returns-in_err-number-clause-alike c =
    longer_alike c.args.self.now (record {
      set_numbers = c.args.self.now.set_numbers;
      sets = c.number_of.new.self;
      own = c.args.self.now.own;
      laid = c.args.self.now.laid;
    })
    c.requires c.number_of.ensures.longer refl refl refl

pub returns-in_err-put-clause-alike : goal.returns-in_err-put-clause-alike
returns-in_err-put-clause-alike c =
    longer_alike c.args.self.now (record { set_numbers = c.put.new.self; sets = c.number_of.new.self; own = c.args.self.now.own; laid = c.args.self.now.laid })
    c.requires c.number_of.ensures.longer c.in_err-put.ensures.err refl refl

pub returns-clause-alike : goal.returns-clause-alike
returns-clause-alike c =
    away_alike c.args.self.now (record { set_numbers = c.put.new.self; sets = c.number_of.new.self; own = c.len-count.result; laid = c.args.self.now.laid })
    c.requires c.number_of.ensures.longer c.in_ok-number.number
    (omega (arith, c.if-own-count.false, c.len-count.ensures))
    (subst (λ l. HasSet c.number_of.new.self c.in_ok-number.number l) c.deref.ensures.value c.in_ok-number.ensures.number)
    c.in_ok-put.ensures.ok (omega (
      arith,
      c.len-count.ensures,
      ap length c.in_ok-put.ensures.ok,
      length-set
          c.args.self.now.set_numbers c.args.self.now.own c.in_ok-number.number,
    )) refl
