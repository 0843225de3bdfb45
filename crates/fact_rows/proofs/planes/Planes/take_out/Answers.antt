use Rattle.std.proofs.Common.{◌≡◌, ℕ, length, replicate, ap, refl, ◌∙◌}
use Rattle.std.specs.Vec.{with_items}
use Rattle.std.proofs.lemmas.List.{length-replicate}
use Rattle.fact_rows.proofs.Spreading.{some_out, none_out, written_over}
use Rattle.fact_rows.proofs.planes.Planes.take_out.Goals as goal

pub returns-in-Some-clause-alike : goal.returns-in-Some-clause-alike
returns-in-Some-clause-alike c =
    some_out c.args.self.now (record {
      set_numbers = c.args.self.now.set_numbers;
      sets = c.args.self.now.sets;
      own = c.args.i;
      laid = c.copy_from_slice.new.self;
    })
    c.args.i c.number.result c.requires.sound c.requires.none c.requires.place c.number.ensures refl refl refl
    c.in-Some.set.now c.in-Some.ensures c.copy_from_slice.ensures.items

pub returns-in-None-clause-alike : goal.returns-in-None-clause-alike
returns-in-None-clause-alike c =
    let long : length c.clear_words.new.words ≡ length c.args.self.now.laid.items = ap length c.clear_words.ensures
    ∙ length-replicate {A = ℕ} (length c.deref_mut.result.now) 0 ∙ ap length c.deref_mut.ensures.value in
    let zeros : (with_items c.args.self.now.laid c.clear_words.new.words).items
    ≡ replicate (length c.deref_mut.result.now) 0 = written_over c.args.self.now.laid.len c.args.self.now.laid.items
    c.clear_words.new.words c.args.self.now.laid.ok.0 long ∙ c.clear_words.ensures in
    none_out c.args.self.now (record {
      set_numbers = c.args.self.now.set_numbers;
      sets = c.args.self.now.sets;
      own = c.args.i;
      laid = with_items c.args.self.now.laid c.clear_words.new.words;
    })
    c.args.i c.number.result c.requires.sound c.requires.none c.requires.place c.number.ensures refl refl refl c.in-None.ensures
    (length c.deref_mut.result.now) (ap length c.deref_mut.ensures.value ∙ c.requires.sound.laid_so) zeros
