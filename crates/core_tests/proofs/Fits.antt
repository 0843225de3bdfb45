-- What is read from a text is within the ranges that its printer requires.
use Rattle.std.proofs.Common.{ℕ, List}
use Rattle.std.specs.Prelude.{All}
use Rattle.machine_code.specs.Coded.{Code}
use Rattle.machine_code.specs.Operands.{OpFits}
use Rattle.listing.specs.Listing.{IsListing}
use Rattle.certificate_text.specs.declared.certificate.Certificate.{Certificate}
use Rattle.certificate_text.specs.Lines.{IsTextOf}
use Rattle.certificate_text.specs.Text.{FactFits}

pub listed_fits : (text : List ℕ) (code : Code) → IsListing text code → All OpFits code.ops
listed_fits text code is = is.fits.ops

pub told_fits : (text : List ℕ) (c : Certificate) → IsTextOf text c → All FactFits c.facts
told_fits text c is = is.fits.facts
