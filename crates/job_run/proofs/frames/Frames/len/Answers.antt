use Rattle.std.proofs.Common.{rules, ◌≡◌, length, ◌≤◌, sym, ap, ◌∙◌}
use Rattle.job_run.specs.Kept.{frames_of}
use Rattle.job_run.proofs.Framing.{how_many}
use Rattle.job_run.proofs.frames.Frames.len.Goals as goal

pub returns : goal.returns
returns c =
    let view : c.args.self.now ≡ frames_of c.self.inside.waiting c.self.inside.count = search rules in
    let within : c.self.inside.count ≤ length c.self.inside.waiting = search rules in
    how_many c.self.inside.waiting c.self.inside.count within ∙ ap (λ l. length l) (sym view)
