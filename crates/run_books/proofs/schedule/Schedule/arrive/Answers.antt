use Rattle.std.proofs.Common.{rules, ◌≡◌, ◌++◌, ◌∷◌, [], length, map, drop, nat_eq, slice_get, Some}
use Rattle.std.specs.HashMap.{get}
use Rattle.std.proofs.Common.{sym, ap, subst, arith, ◌∙◌}
use Rattle.run_books.specs.Lines.{Timetable, arrived_of, coming_of}
use Rattle.run_books.proofs.Lined.{Known, arrived_more, get_within, known_more, left_more}
use Rattle.run_books.proofs.Lined.{one_longer}
use Rattle.run_books.proofs.schedule.Schedule.arrive.Goals as goal

-- src/schedule.rt:76:5
pub invariant_of-self-2 : goal.invariant_of-self-2
invariant_of-self-2 c =
    let many : c.len.result ≡ length c.self.inside.given.items = search (rules) in
    let there : slice_get c.self.inside.lines (length c.self.inside.given.items) ≡ Some c.line_at.result.now =
    ap (slice_get c.self.inside.lines) (sym many) ∙ c.line_at.ensures in
    let items : c.push_reserved.new.self.items ≡ c.self.inside.given.items
    ++ c.args.forlopp ∷ [] = c.push_reserved.ensures.items
    ∙ ap (λ g. g ++ c.args.forlopp ∷ []) c.reserve.ensures.items in
    let longer = one_longer c.self.inside.given.items c.push_reserved.new.self.items c.args.forlopp items in
    let within = get_within c.self.inside.lines (length c.self.inside.given.items) c.line_at.result.now there in (
      omega (arith, within, longer),
      subst (λ g. Known (get nat_eq c.note.new.numbers) (arrived_of c.self.inside.lines g)) (sym items)
          (known_more (get nat_eq c.self.inside.numbers) (get nat_eq c.note.new.numbers) c.self.inside.lines
          c.self.inside.given.items c.line_at.result.now c.args.forlopp there c.self.invariant.1
          c.in_ok-note.ensures.ok),
    )

-- src/schedule.rt:76:5
pub returns : goal.returns
returns c =
    let many : c.len.result ≡ length c.self.inside.given.items = search (rules) in
    let there : slice_get c.self.inside.lines (length c.self.inside.given.items) ≡ Some c.line_at.result.now =
    ap (slice_get c.self.inside.lines) (sym many) ∙ c.line_at.ensures in
    let items : c.push_reserved.new.self.items ≡ c.self.inside.given.items
    ++ c.args.forlopp ∷ [] = c.push_reserved.ensures.items
    ∙ ap (λ g. g ++ c.args.forlopp ∷ []) c.reserve.ensures.items in
    let longer = one_longer c.self.inside.given.items c.push_reserved.new.self.items c.args.forlopp items in (
      coming_of c.line_at.result.now,
      sym (ap (λ (t : Timetable). t.lines) c.self.view_is) ∙ left_more c.self.inside.lines (length c.self.inside.given.items) c.line_at.result.now there
          ∙ ap (λ k. coming_of c.line_at.result.now ∷ map coming_of (drop k c.self.inside.lines)) (sym longer),
      ap (arrived_of c.self.inside.lines) items ∙ arrived_more c.self.inside.lines c.self.inside.given.items c.line_at.result.now c.args.forlopp there
          ∙ ap (λ (t : Timetable). t.arrived ++ record { line = coming_of c.line_at.result.now; forlopp = c.args.forlopp } ∷ []) c.self.view_is,
    )
