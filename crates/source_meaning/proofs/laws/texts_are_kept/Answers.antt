use Rattle.source_meaning.proofs.Fitting.{row_paired, stmt_fits_in}
use Rattle.source_meaning.proofs.laws.texts_are_kept.Goals as goal

pub returns-clause-fits : goal.returns-clause-fits
returns-clause-fits c = λ x b s rest kept h. stmt_fits_in x kept b s rest h

pub returns-clause-paired : goal.returns-clause-paired
returns-clause-paired c = λ x b s rest end kept row. row_paired x kept b s rest end row
