-- The text of a certificate, whose facts are written for one entry after the other.
use Rattle.std.proofs.Common.{◌≡◌, ◌↔◌, ℕ, ◌+◌, ◌≤◌, List, [], ◌++◌, length, Contains, refl, sym}
use Rattle.std.proofs.Common.{ap, ◌∙◌, append_assoc, append-nil}
use Rattle.exchange_model.specs.declared.exchange.Exchange.{Exchange}
use Rattle.exchange_model.specs.Kept.{IsExchange}
use Rattle.flow_points.specs.declared.fact.Fact.{Fact}
use Rattle.flow_points.specs.Facts.{IsLeast}
use Rattle.access_summary.proofs.Summed.{FactsGo, facts_begin, facts_exact, facts_more}
use Rattle.access_summary.proofs.Summed.{facts_rising}
use Rattle.certificate_text.specs.declared.certificate.Certificate.{Certificate}
use Rattle.certificate_text.specs.declared.certificate.Shape.{Shape}
use Rattle.certificate_text.specs.Text.{facts_text, head_text, last_text}
use Rattle.certificate_text.proofs.Printed.{certificate_in_parts, facts_append}
use Rattle.certificate_meaning.specs.Certified.{IsTextOfCertificate}
use Rattle.certificate.specs.Entries.{AddsLines, LeastOf}
use Rattle.certificate_meaning.specs.Shapes.{IsShapeOf}
use Rattle.certificate.proofs.Fitting.{facts_fit}

-- the text so far tells the exchange's shape and the least facts of so many entries, in order
pub record TextGoes (x : Exchange) (n : ℕ) (text : List ℕ) : Type 0 where
  pub shape : Shape
  pub is_shape : IsShapeOf x shape
  pub facts : List Fact
  pub go : FactsGo x n facts
  pub told : text ≡ head_text shape ++ facts_text facts

pub text_begin : (x : Exchange) (s : Shape) (none head text : List ℕ) → IsShapeOf x s → none ≡ [] → head ≡ none ++ head_text s → text ≡ head → TextGoes x 0 text
text_begin x s none head text is empty begun same = record {
  shape = s;
  is_shape = is;
  facts = [];
  go = facts_begin x [] refl;
  told = same ∙ begun ∙ ap (λ (t : List ℕ). t ++ head_text s) empty ∙ sym (append-nil (head_text s));
}

pub text_more : (x : Exchange) (n : ℕ) (text new : List ℕ) → AddsLines (LeastOf x n) text new → TextGoes x n text → TextGoes x (n + 1) new
text_more x n text new lines g = record {
  shape = g.shape;
  is_shape = g.is_shape;
  facts = g.facts ++ lines.facts;
  go = facts_more x n g.facts lines.facts (g.facts ++ lines.facts) lines.exact lines.rising refl g.go;
  told = lines.is ∙ ap (λ (t : List ℕ). t ++ facts_text lines.facts) g.told
      ∙ append_assoc (head_text g.shape) (facts_text g.facts) (facts_text lines.facts)
      ∙ ap (λ (t : List ℕ). head_text g.shape ++ t) (sym (facts_append g.facts lines.facts));
}

pub text_end : (x : Exchange) (n count : ℕ) (text new : List ℕ) → IsExchange x → count ≡ length x.entries → count ≤ n
    → new ≡ text ++ last_text → TextGoes x n text → IsTextOfCertificate x new
text_end x n count text new kept all high ended g =
    let certificate : Certificate = record { shape = g.shape; facts = g.facts } in
    let exact : (f : Fact) → Contains g.facts f ↔ IsLeast x f = facts_exact x n count g.facts all high g.go in
    record {
      certificate = certificate;
      is = record { shape = g.is_shape; exact = exact; rising = facts_rising x n g.facts g.go; fits = facts_fit x kept g.facts exact };
      told = ended ∙ ap (λ (t : List ℕ). t ++ last_text) g.told ∙ sym (certificate_in_parts certificate);
    }
