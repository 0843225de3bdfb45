-- A text is that of one certificate, or has one first line that is not as stated.
use Rattle.std.proofs.Common.{codes, ◌↔◌, ◌≢◌, ◌≡◌, ◌⊎◌, ℕ, ◌-◌, ◌<◌, ◌≤◌, List, [], ◌∷◌, ◌++◌, map}
use Rattle.std.proofs.Common.{take, drop, Result, Ok, Err, refl, sym, ap, subst, ◌∙◌, arith}
use Rattle.std.proofs.Common.{append_assoc, inl, inr}
use Rattle.std.specs.List.{AllByRecursion, flat_map}
use Rattle.std.proofs.lemmas.Bool.{cases_order}
use Rattle.std.proofs.lemmas.List.{append_cancel_left, take-append-drop, take-take}
use Rattle.flow_points.specs.declared.fact.Fact.{Fact}
use Rattle.certificate_text.specs.declared.certificate.Certificate.{Certificate}
use Rattle.certificate_text.specs.declared.certificate.Shape.{Shape}
use Rattle.certificate_text.specs.declared.fault.TextFault.{TextFault}
use Rattle.certificate_text.specs.declared.fault.TextFault.TheVariants.{BadText, Memory}
use Rattle.certificate_text.specs.declared.version.Version.{Version}
use Rattle.certificate_text.specs.declared.version.Version.TheVariants.{One, Two}
use Rattle.certificate_text.specs.Lines.{BeginText, HasBadLine, IsTextOf, IsUnlessMemory}
use Rattle.certificate_text.specs.Lines.{TellsCertificate, whole}
use Rattle.certificate_text.specs.Text.{certificate_text, ShapeNumbers, CanTell, certificate_lines}
use Rattle.certificate_text.specs.Text.{fact_line, shape_line, text_in, version_line, last_line}
use Rattle.certificate_text.specs.Text.{CertificateFits}
use Rattle.certificate_text.proofs.Facts.{Good, fact_line_once, fact_no_last}
use Rattle.certificate_text.proofs.Heads.{shape_once, version_line_once}
use Rattle.certificate_text.proofs.LineEnds.{lines_no_end}
use Rattle.certificate_text.proofs.Stated.{closing, front, good_facts, tails, whole-front}
use Rattle.certificate_text.proofs.Texts.{lines_in-whole}
use Rattle.text_lines.proofs.Texts.{ended_once}
use Rattle.text_lines.specs.Lines.{lines_in, ended}

-- the lines of the text of a certificate
lines_of_text : (text : List ℕ) (c : Certificate) → (is : IsTextOf text c) → lines_in text ≡ whole (certificate_lines is.version c)
unfolding text_in
lines_of_text text c is = ap lines_in is.so ∙ lines_in-whole (certificate_lines is.version c) (lines_no_end is.version c is.fits)

same_facts : (fs gs : List Fact) → AllByRecursion Good fs → AllByRecursion Good gs
    → map ended (map fact_line fs) ++ closing ≡ map ended (map fact_line gs) ++ closing → fs ≡ gs
same_facts [] [] h k e = refl
same_facts [] (g ∷ gs) h k e = absurd (fact_no_last g (sym (tails e).0))
same_facts (f ∷ fs) [] h k e = absurd (fact_no_last f (tails e).0)
same_facts (f ∷ fs) (g ∷ gs) h k e =
    ap (λ (x : Fact). x ∷ fs) (fact_line_once f g h.0 k.0 (tails e).0) ∙ ap (λ (xs : List Fact). g ∷ xs) (same_facts fs gs h.1 k.1 (tails e).1)

same_shape : (v : Version) (s u : Shape) → ShapeNumbers s → ShapeNumbers u → CanTell v s.references
    → CanTell v u.references → ended (shape_line v s) ≡ ended (shape_line v u) → s ≡ u
same_shape v s u a b tells too e =
    shape_once v (ended (shape_line v s) ++ []) s u [] [] (record { numbers = a; tells = tells; so = refl })
    (record { numbers = b; tells = too; so = ap (λ (l : List ℕ). l ++ []) e })

pub one_certificate : (text : List ℕ) (c d : Certificate) → IsTextOf text c → IsTextOf text d → c ≡ d
one_certificate text c d is too =
    let e : front is.version c.shape c.facts ++ closing ≡ front too.version d.shape d.facts ++ closing =
    sym (whole-front is.version c.shape c.facts) ∙ sym (lines_of_text text c is) ∙ lines_of_text text d too ∙ whole-front too.version d.shape d.facts in
    let head = tails e in
    let second = tails head.1 in
    let version : is.version ≡ too.version = version_line_once is.version too.version
    (ended_once (version_line is.version) (version_line too.version) head.0) in
    let line : ended (shape_line is.version c.shape) ≡ ended (shape_line is.version d.shape) =
    second.0 ∙ ap (λ v. ended (shape_line v d.shape)) (sym version) in
    let shape : c.shape ≡ d.shape = same_shape is.version c.shape d.shape is.fits.shape too.fits.shape is.tells
    (subst (λ v. CanTell v d.shape.references) (sym version) too.tells) line in
    let facts : c.facts ≡ d.facts = same_facts c.facts d.facts (good_facts c is.fits) (good_facts d too.fits) second.1 in
    (λ i. record { shape = shape i; facts = facts i })

-- the front of what begins a text begins it
fewer_begin : (lines : List (List ℕ)) (l m : ℕ) → l ≤ m → BeginText (take m lines) → BeginText (take l lines)
fewer_begin lines l m few b =
    let same : take l (take m lines) ≡ take l lines = take-take l m lines few in
    let back = drop l (take m lines) in
    record {
      version = b.version;
      certificate = b.certificate;
      tells = b.tells;
      fits = b.fits;
      rest = back ++ b.rest;
      so = sym (append_assoc (take l lines) back b.rest)
          ∙ ap (λ (ls : List (List ℕ)). ls ++ b.rest)
          (ap (λ (ls : List (List ℕ)). ls ++ back) (sym same) ∙ take-append-drop l (take m lines)) ∙ b.so;
    }

-- all first lines of a text begin it
text_begins : (text : List ℕ) (c : Certificate) (l : ℕ) → IsTextOf text c → BeginText (take l (lines_in text))
text_begins text c l is = record {
  version = is.version;
  certificate = c;
  tells = is.tells;
  fits = is.fits;
  rest = drop l (lines_in text);
  so = take-append-drop l (lines_in text) ∙ lines_of_text text c is;
}

not_before : (text : List ℕ) (l m : ℕ) → HasBadLine text l → HasBadLine text m → l < m → ⊥
not_before text l m bad other less = bad.here (fewer_begin (lines_in text) l (m - 1) (omega arith) other.before)

pub one_line : (text : List ℕ) (l m : ℕ) → HasBadLine text l → HasBadLine text m → l ≡ m
one_line text l m bad other = elim (cases_order l m) as (λ _. l ≡ m) [
  | inl same ↦ same
  | inr (inl less) ↦ absurd (not_before text l m bad other less)
  | inr (inr more) ↦ absurd (not_before text m l other bad more)
]

pub certificate_told : (text : List ℕ) (told : Result Certificate TextFault) (c : Certificate)
    → TellsCertificate text told → IsTextOf text c → IsUnlessMemory told (Ok c)
certificate_told text (Err Memory) c tells is = tt
certificate_told text (Ok d) c tells is = ap (λ (k : Certificate). Ok k) (one_certificate text d c tells is)
certificate_told text (Err (BadText l)) c tells is = absurd (tells.here (text_begins text c l is))

pub bad_line_told : (text : List ℕ) (told : Result Certificate TextFault) (l : ℕ) → TellsCertificate text told
    → HasBadLine text l → IsUnlessMemory told (Err (BadText l))
bad_line_told text (Err Memory) l tells bad = tt
bad_line_told text (Ok d) l tells bad = absurd (bad.here (text_begins text d l tells))
bad_line_told text (Err (BadText m)) l tells bad = ap (λ (k : ℕ). Err (BadText k)) (one_line text m l tells bad)

-- the texts of a certificate

abbrev Texts : List ℕ → Certificate → Type 0
Texts text c = CertificateFits c × ((text ≡ certificate_text c) ⊎ ((c.shape.references ≡ 0) × (text ≡ text_in One c)))

in_version : (text : List ℕ) (c : Certificate) (v : Version) → CanTell v c.shape.references → text ≡ text_in v c
    → (text ≡ certificate_text c) ⊎ ((c.shape.references ≡ 0) × (text ≡ text_in One c))
in_version text c One tells so = inr (tells, so)
in_version text c Two tells so = inl so

text_of : (text : List ℕ) (c : Certificate) → Texts text c → IsTextOf text c
text_of text c (fits, inl so) = record { version = Two; tells = tt; fits = fits; so = so }
text_of text c (fits, inr old) = record { version = One; tells = old.0; fits = fits; so = old.1 }

pub its_texts : (text : List ℕ) (c : Certificate) → IsTextOf text c ↔ Texts text c
its_texts text c = ((λ is. (is.fits, in_version text c is.version is.tells is.so)), text_of text c)

digits : (a b : ℕ) (x y : List ℕ) → (a ≡ b → ⊥) → codes "PLEX CERTIFICATE " ++ a ∷ x ≡ codes "PLEX CERTIFICATE " ++ b ∷ y → ⊥
digits a b x y other e =
    let last : a ∷ x ≡ b ∷ y = append_cancel_left (codes "PLEX CERTIFICATE ") (a ∷ x) (b ∷ y) e in
    let same : a ≡ b = cc in
    other same

pub texts_apart : (c : Certificate) → text_in One c ≢ certificate_text c
unfolding text_in
texts_apart c e =
    let behind : Version → List ℕ = λ v. 10 ∷ flat_map ended (shape_line v c.shape ∷ map fact_line c.facts ++ last_line ∷ []) in
    digits 49 50 (behind One) (behind Two) (λ e. omega (arith, e)) e
