use Rattle.fact_rows.proofs.narrow.clear_wide.Goals as goal

pub returns : goal.returns
returns c = c.fill.ensures.after (λ y same. same)
