use Rattle.fact_rows.proofs.planes.clear_words.Goals as goal

pub returns : goal.returns
returns c = c.fill.ensures.after (λ y same. same)
