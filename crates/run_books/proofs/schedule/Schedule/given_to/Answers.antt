use Rattle.std.proofs.Common.{sym, ap, ◌∙◌}
use Rattle.run_books.specs.Lines.{Timetable, found_in}
use Rattle.run_books.proofs.Lined.{given_none, given_some}
use Rattle.run_books.proofs.schedule.Schedule.given_to.Goals as goal

-- src/schedule.rt:66:5
pub returns-in-Some : goal.returns-in-Some
returns-in-Some c = given_some c.args.self.now.arrived c.args.line c.in-Some.forlopp.now
    (sym (ap (λ (t : Timetable). found_in t.arrived c.args.line) c.self.view_is) ∙ sym (c.self.invariant.1 c.args.line) ∙ sym c.in-Some.ensures.value)

-- src/schedule.rt:66:5
pub returns-in-None : goal.returns-in-None
returns-in-None c = given_none c.args.self.now.arrived c.args.line
    (sym (ap (λ (t : Timetable). found_in t.arrived c.args.line) c.self.view_is) ∙ sym (c.self.invariant.1 c.args.line) ∙ sym c.in-None.ensures.value)
