use Rattle.certificate.proofs.Told.{TextGoes}
use Rattle.least_facts.specs.Least.{IsFor}
use Rattle.certificate.proofs.certified_text.text_of_certificate.Given as goal

abbrev pub invariant-loop-entry : goal.invariant-loop-entry
invariant-loop-entry l = TextGoes l.exchange l.entry l.text × IsFor l.exchange l.table l.analyser
