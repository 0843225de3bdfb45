use Rattle.std.proofs.Common.{◌≡◌, length, ap, refl, sym, ◌∙◌}
use Rattle.std.specs.Vec.{with_items}
use Rattle.fact_rows.proofs.Joining.{none_laid, same_long, some_laid}
use Rattle.fact_rows.proofs.Spreading.{alike_itself, more_keeps, written_over}
use Rattle.fact_rows.proofs.planes.Planes.join_laid.Goals as goal

pub join-requires : goal.join-requires
join-requires c = same_long c.args.self.now c.args.from c.number.result c.requires.from c.requires.own c.requires.apart
    c.number.ensures c.in-Some.others.now c.requires.sound c.in-Some.ensures ∙ sym (ap length c.deref_mut.ensures.value)

pub returns-in-Some-clause-joined : goal.returns-in-Some-clause-joined
returns-in-Some-clause-joined c =
    let long : length c.join.new.words ≡ length c.args.self.now.laid.items = c.join.ensures.long ∙ ap length c.deref_mut.ensures.value in
    let words : (with_items c.args.self.now.laid c.join.new.words).items
    ≡ c.join.new.words = written_over c.args.self.now.laid.len c.args.self.now.laid.items c.join.new.words
    c.args.self.now.laid.ok.0 long in
    some_laid c.args.self.now c.args.from c.number.result c.requires.from c.requires.own c.requires.apart c.number.ensures
    (record {
      set_numbers = c.args.self.now.set_numbers;
      sets = c.args.self.now.sets;
      own = c.args.self.now.own;
      laid = with_items c.args.self.now.laid c.join.new.words;
    })
    c.join.result c.in-Some.others.now c.deref_mut.result.now c.join.new.words refl refl refl c.in-Some.ensures
    c.deref_mut.ensures.value words c.join.ensures.numbers c.join.ensures.counted

pub returns-in-Some-clause-keeps : goal.returns-in-Some-clause-keeps
returns-in-Some-clause-keeps c =
    let long : length c.join.new.words ≡ length c.args.self.now.laid.items = c.join.ensures.long ∙ ap length c.deref_mut.ensures.value in
    let words : (with_items c.args.self.now.laid c.join.new.words).items
    ≡ c.join.new.words = written_over c.args.self.now.laid.len c.args.self.now.laid.items c.join.new.words
    c.args.self.now.laid.ok.0 long in
    more_keeps c.args.self.now c.args.self.now
    (record {
      set_numbers = c.args.self.now.set_numbers;
      sets = c.args.self.now.sets;
      own = c.args.self.now.own;
      laid = with_items c.args.self.now.laid c.join.new.words;
    })
    c.args.self.now.own 0 c.join.result (alike_itself c.args.self.now c.requires.sound) refl c.requires.own refl refl refl (ap length words ∙ long)

pub returns-in-None-clause-joined : goal.returns-in-None-clause-joined
returns-in-None-clause-joined c = none_laid c.args.self.now c.args.from c.number.result c.requires.from c.requires.own
    c.requires.apart c.number.ensures c.in-None.ensures
