use Rattle.std.proofs.Common.{◌∙◌, List, ℕ, subst, sym}
use Rattle.std.specs.Cmp.Lexicographic.{other_text, same_text}
use Rattle.listing.proofs.FirstLines.{read_headless, read_other}
use Rattle.listing.proofs.read.read_text.Goals as goal
use Rattle.text_lines.specs.Parts.{IsCut}

pub returns-in_default : goal.returns-in_default
returns-in_default c = read_headless c.args.text.now c.in_default.ensures

pub read_lines-requires-clause-begun : goal.read_lines-requires-clause-begun
read_lines-requires-clause-begun c = subst (λ (line : List ℕ). IsCut 10 c.args.text.now line c.in-Some.rest.now)
    (same_text c.in-Some.line.now c.as_slice.result.now c.if-eq.ensures ∙ c.as_slice.ensures) c.in-Some.ensures

pub returns-else-eq : goal.returns-else-eq
returns-else-eq c = read_other c.args.text.now c.in-Some.line.now c.in-Some.rest.now c.in-Some.ensures
    (λ e. other_text c.in-Some.line.now c.as_slice.result.now c.if-eq.ensures (e ∙ sym c.as_slice.ensures))
