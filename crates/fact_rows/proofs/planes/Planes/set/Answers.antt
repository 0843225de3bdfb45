use Rattle.std.proofs.Common.{◌≡◌, ◌*◌, ◌<◌, length, ap, refl, sym, subst, ◌∙◌}
use Rattle.std.specs.Vec.{with_items}
use Rattle.fact_rows.proofs.Spreading.{more_set, more_keeps, open_wide, written_over}
use Rattle.fact_rows.proofs.planes.Planes.set.Goals as goal

pub set_bit-requires : goal.set_bit-requires
set_bit-requires c = subst (λ l. c.args.number < 64 * length l) (sym c.deref_mut.ensures.value)
    (open_wide c.args.self.now c.lay_out.new.self c.args.number c.lay_out.ensures.alike c.requires.number)

pub returns-clause-ok : goal.returns-clause-ok
returns-clause-ok c =
    let long : length c.set_bit.new.words ≡ length c.lay_out.new.self.laid.items = c.set_bit.ensures.long ∙ ap length c.deref_mut.ensures.value in
    let words : (with_items c.lay_out.new.self.laid c.set_bit.new.words).items
    ≡ c.set_bit.new.words = written_over c.lay_out.new.self.laid.len c.lay_out.new.self.laid.items
    c.set_bit.new.words c.lay_out.new.self.laid.ok.0 long in
    more_set c.args.self.now c.lay_out.new.self
    (record {
      set_numbers = c.lay_out.new.self.set_numbers;
      sets = c.lay_out.new.self.sets;
      own = c.lay_out.new.self.own;
      laid = with_items c.lay_out.new.self.laid c.set_bit.new.words;
    })
    c.args.i c.args.number c.set_bit.result c.lay_out.ensures.alike c.in_ok-lay_out.ensures.own c.requires.place refl refl refl (ap length words ∙ long)
    c.deref_mut.result.now c.set_bit.new.words c.deref_mut.ensures.value words c.set_bit.ensures.numbers c.set_bit.ensures.added c.set_bit.ensures.counted

pub returns-clause-keeps : goal.returns-clause-keeps
returns-clause-keeps c =
    let long : length c.set_bit.new.words ≡ length c.lay_out.new.self.laid.items = c.set_bit.ensures.long ∙ ap length c.deref_mut.ensures.value in
    let words : (with_items c.lay_out.new.self.laid c.set_bit.new.words).items
    ≡ c.set_bit.new.words = written_over c.lay_out.new.self.laid.len c.lay_out.new.self.laid.items
    c.set_bit.new.words c.lay_out.new.self.laid.ok.0 long in
    more_keeps c.args.self.now c.lay_out.new.self
    (record {
      set_numbers = c.lay_out.new.self.set_numbers;
      sets = c.lay_out.new.self.sets;
      own = c.lay_out.new.self.own;
      laid = with_items c.lay_out.new.self.laid c.set_bit.new.words;
    })
    c.args.i c.args.number c.set_bit.result c.lay_out.ensures.alike c.in_ok-lay_out.ensures.own c.requires.place refl refl refl (ap length words ∙ long)
