use Rattle.std.proofs.Common.{◌≤◌, ◌-◌, length, arith, length-drop, ap, ◌∙◌}
use Rattle.plex_io.proofs.Prefixes.{appended_rest}
use Rattle.plex_io.proofs.sink.write_all.Goals as goal

pub loop-at-preserved : goal.loop-at-preserved
loop-at-preserved g c =
    let most : c.in_ok-at.field-0 ≤ length c.args.text.now - c.loop-at.at = grind (arith, length-drop, c.in_ok-at.ensures.count.most) in record {
      within = omega (arith, most, c.loop-at-test.true);
      bytes = appended_rest _ _ _ _ _ _ c.loop-at.invariant.bytes c.in_ok-at.ensures.ok;
      empty = λ none. absurd (omega (arith, ap length none, c.loop-at-test.true));
      size = c.write.ensures.size ∙ c.loop-at.invariant.size;
      later = omega (arith, c.write.ensures.later, c.loop-at.invariant.later);
    }
