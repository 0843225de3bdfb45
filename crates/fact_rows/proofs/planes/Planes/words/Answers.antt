use Rattle.fact_rows.proofs.Spreading.{kept_words}
use Rattle.fact_rows.proofs.planes.Planes.words.Goals as goal

pub returns-in-Some : goal.returns-in-Some
returns-in-Some c = kept_words c.args.self.now c.args.i c.number.result c.in-Some.words.now c.requires.sound
    c.requires.place c.if-i-self.false c.number.ensures c.in-Some.ensures
