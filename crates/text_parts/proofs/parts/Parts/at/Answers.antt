use Rattle.std.proofs.Common.{sym, ◌∙◌}
use Rattle.text_parts.proofs.Placing.{shown_at, shown_past}
use Rattle.text_parts.proofs.parts.Parts.at.Goals as goal

pub returns-in-Some : goal.returns-in-Some
returns-in-Some c =
    c.kept_at.ensures ∙ shown_at c.self.inside.kept c.args.self.now c.self.inside.order c.args.i c.in-Some.place
    (sym c.place_at.ensures ∙ c.in-Some.is) c.self.view_is

pub returns-in-None : goal.returns-in-None
returns-in-None c = shown_past c.self.inside.kept c.args.self.now c.self.inside.order c.args.i (sym c.place_at.ensures ∙ c.in-None.is) c.self.view_is
